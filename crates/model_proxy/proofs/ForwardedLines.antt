-- The lines of a forwarded head.
use Rattle.std.proofs.Common.{◌≡◌, ℕ, Bool, true, false, not, ◌&&◌, ◌||◌, List, [], ◌∷◌, ◌++◌, map, filter, cond, if◌then◌else◌, eqb, codes, refl, sym, ap, ap₂, ◌∙◌, inl, append-nil, Option, Some, None}
use Rattle.std.specs.Prelude.{decimal, bytes_eq, unwrap_or}
use Rattle.std.proofs.lemmas.Bool.{false≢true, cond-false, or_parts, or_right}
use Rattle.std.proofs.lemmas.List.Folds.{list_any-append}
use Rattle.model_h1.specs.Request.{Header, keep_alive, BodyKind, no_body, fixed_body, chunked_body, raw_body, Head}
use Rattle.model_h1.specs.LengthTable.{values_of}
use Rattle.model_h1.specs.Answer.{Shape, shape_none, shape_length, is_raw, has_header}
use Rattle.model_h1.specs.AnswerText.{by_name, is_sent}
use Rattle.model_client.specs.WrittenHead.{line_of, size_lines, date_lines}
use Rattle.model_client.specs.RequestText.{as_answer, asked_shape, given_request_lines}
use Rattle.model_ends.proofs.Framing.{values-append, none_kept, framing_alone, no_length, no_coding, date_other}
use Rattle.model_ends.proofs.ValuesByName.{by_name_values, given_values}
use Rattle.std.proofs.lemmas.Slice.Eq.{bytes_eq-Decides}
use Rattle.model_proxy.specs.Edge.{Edge, via}
use Rattle.model_proxy.specs.HopNames.{hop_names, is_among}
use Rattle.model_proxy.specs.Forward.{client_names, left_out, passed_lines, named_host, unless_there, own_lines, forwarded_lines, states_length, size_by, forwarded_size, forwarded_head, Sent, forwarded}
use Rattle.model_proxy.specs.Laws.{lengths_written, codings_written, own_names, listed}

-- ---- one line frames the body

-- how a forwarded body goes out
abbrev shape_by : Bool → BodyKind → Shape
shape_by says kind = asked_shape (size_by says kind)

abbrev shape_of : Head → Shape
shape_of h = asked_shape (forwarded_size h)

-- it is never raw
never_raw : (says : Bool) (kind : BodyKind) → is_raw (shape_by says kind) ≡ false
never_raw true no_body = refl
never_raw false no_body = refl
never_raw says chunked_body = refl
never_raw says raw_body = refl
never_raw says (fixed_body n) = by_test (eqb n 0)
  where
    by_test : (t : Bool) → is_raw (cond t shape_none (shape_length n)) ≡ false
    by_test true = refl
    by_test false = refl

own : (h : Head) → (eqb 200 304 || (is_raw (shape_of h) && not (eqb 200 101))) ≡ false
own h = ap (λ t. t && true) (never_raw (states_length h) h.body)

lengths : (says : Bool) (kind : BodyKind) → values_of (codes "content-length") (size_lines (shape_by says kind) (size_by says kind)) ≡ lengths_written says kind
lengths true no_body = refl
lengths false no_body = refl
lengths says chunked_body = refl
lengths says raw_body = refl
lengths says (fixed_body n) = refl

codings : (says : Bool) (kind : BodyKind) → values_of (codes "transfer-encoding") (size_lines (shape_by says kind) (size_by says kind)) ≡ codings_written kind
codings true no_body = refl
codings false no_body = refl
codings says chunked_body = refl
codings says raw_body = refl
codings says (fixed_body n) = refl

pub one_length : (s : Sent) → values_of (codes "content-length") (given_request_lines (forwarded s)) ≡ lengths_written (states_length s.head) s.head.body
one_length s =
    let r = forwarded_head s.edge s.head in
    framing_alone 1 (as_answer r) (shape_of s.head) (forwarded_size s.head) keep_alive s.moment (codes "content-length") refl refl
    (no_length (as_answer r) (shape_of s.head) (own s.head) (by_name r.headers)) ∙ lengths (states_length s.head) s.head.body

pub one_coding : (s : Sent) → values_of (codes "transfer-encoding") (given_request_lines (forwarded s)) ≡ codings_written s.head.body
one_coding s =
    let r = forwarded_head s.edge s.head in
    framing_alone 1 (as_answer r) (shape_of s.head) (forwarded_size s.head) keep_alive s.moment (codes "transfer-encoding") refl refl
    (no_coding (as_answer r) (shape_of s.head) (own s.head) (by_name r.headers)) ∙ codings (states_length s.head) s.head.body

-- ---- lines that stay behind

pub same_name : (a b : List ℕ) → bytes_eq a b ≡ true → a ≡ b
same_name a b h = (bytes_eq-Decides a b).0 h

-- a name that isn't there isn't there among fewer lines
pub none_among : (name : List ℕ) (test : Header → Bool) (hs : List Header) → values_of name hs ≡ [] → values_of name (filter test hs) ≡ []
none_among name test [] none = refl
none_among name test (h ∷ hs) none = by_tests (bytes_eq h.name name) refl (test h) none (none_among name test hs)
  where
    by_tests : (n : Bool) → bytes_eq h.name name ≡ n → (t : Bool) → map (λ k. k.value) (cond n (h ∷ filter (λ k. bytes_eq k.name name) hs) (filter (λ k. bytes_eq k.name name) hs)) ≡ []
        → (values_of name hs ≡ [] → values_of name (filter test hs) ≡ []) → values_of name (cond t (h ∷ filter test hs) (filter test hs)) ≡ []
    by_tests true is t none others = cc
    by_tests false is false none others = others none
    by_tests false is true none others = ap (map (λ k. k.value)) (cond-false (bytes_eq h.name name) _ _ is) ∙ others none

-- a name whose lines all pass the test keeps its values
all_pass : (name : List ℕ) (test : Header → Bool) → ((h : Header) → bytes_eq h.name name ≡ true → test h ≡ true) → (hs : List Header)
    → values_of name (filter test hs) ≡ values_of name hs
all_pass name test passes [] = refl
all_pass name test passes (h ∷ hs) = by_tests (bytes_eq h.name name) refl (test h) refl (all_pass name test passes hs)
  where
    by_tests : (n : Bool) → bytes_eq h.name name ≡ n → (t : Bool) → test h ≡ t → values_of name (filter test hs) ≡ values_of name hs
        → values_of name (cond t (h ∷ filter test hs) (filter test hs)) ≡ values_of name (h ∷ hs)
    by_tests n is true sent others =
        values-append name (h ∷ []) (filter test hs) ∙ ap (λ l. values_of name (h ∷ []) ++ l) others ∙ sym (values-append name (h ∷ []) hs)
    by_tests false other false dropped others =
        others ∙ ap (map (λ k. k.value)) (sym (cond-false (bytes_eq h.name name) (h ∷ filter (λ k. bytes_eq k.name name) hs) (filter (λ k. bytes_eq k.name name) hs) other))
    by_tests true is false dropped others = absurd (false≢true (sym dropped ∙ passes h is))

-- no line with a name that stays behind is passed on
pub stays_behind : (edge : Edge) (name : List ℕ) (hs : List Header) → is_among name (left_out edge hs) ≡ true → values_of name (passed_lines edge hs) ≡ []
stays_behind edge name hs among =
    none_kept name (λ h. not (is_among h.name (left_out edge hs)))
    (λ h is. ap (λ n. not (is_among n (left_out edge hs))) (same_name h.name name is) ∙ ap not among) hs

-- and all lines of another name are
pub goes_on : (edge : Edge) (name : List ℕ) (hs : List Header) → is_among name (left_out edge hs) ≡ false → values_of name (passed_lines edge hs) ≡ values_of name hs
goes_on edge name hs absent =
    all_pass name (λ h. not (is_among h.name (left_out edge hs)))
    (λ h is. ap (λ n. not (is_among n (left_out edge hs))) (same_name h.name name is) ∙ ap not absent) hs

-- ---- the lines that are added

-- a line of another name
skip_line : (name own value : List ℕ) (hs : List Header) → bytes_eq own name ≡ false → values_of name (line_of own value ∷ hs) ≡ values_of name hs
skip_line name own value hs other =
    ap (map (λ k. k.value)) (cond-false (bytes_eq own name) (line_of own value ∷ filter (λ k. bytes_eq k.name name) hs) (filter (λ k. bytes_eq k.name name) hs) other)

skip_told : (name own : List ℕ) (value : Option (List ℕ)) (passed : List Header) → bytes_eq own name ≡ false → values_of name (unless_there own value passed) ≡ []
skip_told name own None passed other = refl
skip_told name own (Some value) passed other = by_test (has_header own passed)
  where
    by_test : (t : Bool) → values_of name (if t then [] else line_of own value ∷ []) ≡ []
    by_test true = refl
    by_test false = skip_line name own value [] other

abbrev proto_told : List Header → List Header
proto_told passed = unless_there (codes "x-forwarded-proto") (Some (codes "http")) passed

abbrev host_told : Head → List Header → List Header
host_told h passed = unless_there (codes "x-forwarded-host") (named_host h) passed

-- what is told of a client only where nobody told it before
told_values : (name : List ℕ) (h : Head) (passed : List Header) → values_of name (proto_told passed ++ host_told h passed)
    ≡ values_of name (proto_told passed) ++ values_of name (host_told h passed)
told_values name h passed = values-append name (proto_told passed) (host_told h passed)

told_other : (name : List ℕ) → bytes_eq (codes "x-forwarded-proto") name ≡ false → bytes_eq (codes "x-forwarded-host") name ≡ false → (h : Head) (passed : List Header)
    → values_of name (proto_told passed ++ host_told h passed) ≡ []
told_other name no_proto no_host h passed =
    told_values name h passed
    ∙ ap₂ (λ a b. a ++ b) (skip_told name (codes "x-forwarded-proto") (Some (codes "http")) passed no_proto)
    (skip_told name (codes "x-forwarded-host") (named_host h) passed no_host)

eq_sym : (a b : List ℕ) → bytes_eq a b ≡ false → bytes_eq b a ≡ false
eq_sym a b other = by_test (bytes_eq b a) refl
  where
    by_test : (t : Bool) → bytes_eq b a ≡ t → bytes_eq b a ≡ false
    by_test false is = is
    by_test true is = absurd (false≢true (sym other ∙ (bytes_eq-Decides a b).1 (sym (same_name b a is))))

-- a name that isn't one of the own
pub own_other : (edge : Edge) (h : Head) (passed : List Header) (name : List ℕ) → is_among name own_names ≡ false → values_of name (own_lines edge h passed) ≡ []
own_other edge h passed name absent =
    let host = or_parts (bytes_eq name (codes "host")) _ absent in
    let by = or_parts (bytes_eq name (codes "via")) _ host.1 in
    let for = or_parts (bytes_eq name (codes "x-forwarded-for")) _ by.1 in
    let element = or_parts (bytes_eq name (codes "forwarded")) _ for.1 in
    let proto = or_parts (bytes_eq name (codes "x-forwarded-proto")) _ element.1 in
    let named = or_parts (bytes_eq name (codes "x-forwarded-host")) _ proto.1 in
    let told = proto_told passed ++ host_told h passed in
    let elements = line_of (codes "forwarded") edge.element ∷ told in
    let addresses = line_of (codes "x-forwarded-for") edge.address ∷ elements in
    let vias = line_of (codes "via") (via h.minor) ∷ addresses in
    skip_line name (codes "host") (unwrap_or (named_host h) edge.host) vias (eq_sym name (codes "host") host.0)
    ∙ skip_line name (codes "via") (via h.minor) addresses (eq_sym name (codes "via") by.0)
    ∙ skip_line name (codes "x-forwarded-for") edge.address elements (eq_sym name (codes "x-forwarded-for") for.0)
    ∙ skip_line name (codes "forwarded") edge.element told (eq_sym name (codes "forwarded") element.0)
    ∙ told_other name (eq_sym name (codes "x-forwarded-proto") proto.0) (eq_sym name (codes "x-forwarded-host") named.0) h passed

-- what stands behind the lines that are passed on
both_values : (edge : Edge) (h : Head) (name : List ℕ) → values_of name (forwarded_lines edge h)
    ≡ values_of name (passed_lines edge h.headers) ++ values_of name (own_lines edge h (passed_lines edge h.headers))
both_values edge h name = values-append name (passed_lines edge h.headers) (own_lines edge h (passed_lines edge h.headers))

-- ---- the lines as they are written

-- a line of an own name is written as it is
own_written : (s : Sent) (name : List ℕ) → bytes_eq name (codes "connection") ≡ false → bytes_eq name (codes "content-length") ≡ false
    → bytes_eq name (codes "transfer-encoding") ≡ false → bytes_eq name (codes "date") ≡ false
    → values_of name (given_request_lines (forwarded s))
    ≡ values_of name (passed_lines s.edge s.head.headers) ++ values_of name (own_lines s.edge s.head (passed_lines s.edge s.head.headers))
own_written s name connection length coding no_date =
    given_values name connection length coding 1 (as_answer (forwarded_head s.edge s.head)) (shape_of s.head) (forwarded_size s.head) keep_alive s.moment (inl no_date)
    ∙ both_values s.edge s.head name

-- a name among the second of two lists
among_second : (name : List ℕ) (a b : List (List ℕ)) → is_among name b ≡ true → is_among name (a ++ b) ≡ true
among_second name a b is = list_any-append (λ n. bytes_eq name n) a b ∙ or_right (is_among name a) (is_among name b) is

host_behind : (edge : Edge) (hs : List Header) → values_of (codes "host") (passed_lines edge hs) ≡ []
host_behind edge hs = stays_behind edge (codes "host") hs (among_second (codes "host") (hop_names hs) _ refl)

-- one host is named
pub one_host : (s : Sent) → values_of (codes "host") (given_request_lines (forwarded s)) ≡ unwrap_or (named_host s.head) s.edge.host ∷ []
one_host s =
    let passed = passed_lines s.edge s.head.headers in
    own_written s (codes "host") refl refl refl refl
    ∙ ap₂ (λ (a b : List (List ℕ)). a ++ b) (host_behind s.edge s.head.headers)
    (ap (λ (l : List (List ℕ)). unwrap_or (named_host s.head) s.edge.host ∷ l) (told_other (codes "host") refl refl s.head passed))

-- who passes it on
pub via_added : (s : Sent) → values_of (codes "via") (given_request_lines (forwarded s))
    ≡ values_of (codes "via") (passed_lines s.edge s.head.headers) ++ via s.head.minor ∷ []
via_added s =
    let passed = passed_lines s.edge s.head.headers in
    own_written s (codes "via") refl refl refl refl
    ∙ ap (λ (l : List (List ℕ)). values_of (codes "via") passed ++ via s.head.minor ∷ l) (told_other (codes "via") refl refl s.head passed)

-- whom it comes from
pub address_added : (s : Sent) → values_of (codes "x-forwarded-for") (given_request_lines (forwarded s))
    ≡ values_of (codes "x-forwarded-for") (passed_lines s.edge s.head.headers) ++ s.edge.address ∷ []
address_added s =
    let passed = passed_lines s.edge s.head.headers in
    own_written s (codes "x-forwarded-for") refl refl refl refl
    ∙ ap (λ (l : List (List ℕ)). values_of (codes "x-forwarded-for") passed ++ s.edge.address ∷ l) (told_other (codes "x-forwarded-for") refl refl s.head passed)

pub element_added : (s : Sent) → values_of (codes "forwarded") (given_request_lines (forwarded s))
    ≡ values_of (codes "forwarded") (passed_lines s.edge s.head.headers) ++ s.edge.element ∷ []
element_added s =
    let passed = passed_lines s.edge s.head.headers in
    own_written s (codes "forwarded") refl refl refl refl
    ∙ ap (λ (l : List (List ℕ)). values_of (codes "forwarded") passed ++ s.edge.element ∷ l) (told_other (codes "forwarded") refl refl s.head passed)

-- ---- where the client isn't trusted

-- its own words stay behind
untold : (edge : Edge) (hs : List Header) (name : List ℕ) → edge.trusts ≡ false
    → is_among name (codes "host" ∷ codes "content-length" ∷ codes "expect" ∷ client_names) ≡ true → values_of name (passed_lines edge hs) ≡ []
untold edge hs name distrusts is =
    stays_behind edge name hs (among_second name (hop_names hs) _
    (ap (λ (b : Bool). is_among name (codes "host" ∷ codes "content-length" ∷ codes "expect" ∷ (if b then [] else client_names))) distrusts ∙ is))

none_there : (name : List ℕ) (hs : List Header) → values_of name hs ≡ [] → has_header name hs ≡ false
none_there name [] none = refl
none_there name (h ∷ hs) none = by_test (bytes_eq h.name name) none (none_there name hs)
  where
    others : List Header
    others = filter (λ k. bytes_eq k.name name) hs

    by_test : (t : Bool) → map (λ k. k.value) (cond t (h ∷ others) others) ≡ [] → (values_of name hs ≡ [] → has_header name hs ≡ false) → (t || has_header name hs) ≡ false
    by_test true none there = let no : ◌≡◌ {A = List (List ℕ)} (h.value ∷ map (λ k. k.value) others) [] = none in absurd (cc no)
    by_test false none there = there none

pub address_alone : (s : Sent) → s.edge.trusts ≡ false → values_of (codes "x-forwarded-for") (given_request_lines (forwarded s)) ≡ s.edge.address ∷ []
address_alone s distrusts =
    address_added s ∙ ap (λ (l : List (List ℕ)). l ++ s.edge.address ∷ []) (untold s.edge s.head.headers (codes "x-forwarded-for") distrusts refl)

pub element_alone : (s : Sent) → s.edge.trusts ≡ false → values_of (codes "forwarded") (given_request_lines (forwarded s)) ≡ s.edge.element ∷ []
element_alone s distrusts =
    element_added s ∙ ap (λ (l : List (List ℕ)). l ++ s.edge.element ∷ []) (untold s.edge s.head.headers (codes "forwarded") distrusts refl)

-- a line that nobody told before
abbrev told_of : List ℕ → Option (List ℕ) → List Header
told_of name None = []
told_of name (Some value) = line_of name value ∷ []

told_here : (name : List ℕ) (value : Option (List ℕ)) (passed : List Header) → has_header name passed ≡ false → unless_there name value passed ≡ told_of name value
told_here name None passed none = refl
told_here name (Some value) passed none = cond-false (has_header name passed) [] (line_of name value ∷ []) none

pub proto_alone : (s : Sent) → s.edge.trusts ≡ false → values_of (codes "x-forwarded-proto") (given_request_lines (forwarded s)) ≡ codes "http" ∷ []
proto_alone s distrusts =
    let passed = passed_lines s.edge s.head.headers in
    let gone = untold s.edge s.head.headers (codes "x-forwarded-proto") distrusts refl in
    own_written s (codes "x-forwarded-proto") refl refl refl refl
    ∙ ap₂ (λ (a b : List (List ℕ)). a ++ b) gone
    (told_values (codes "x-forwarded-proto") s.head passed
    ∙ ap₂ (λ (a b : List (List ℕ)). a ++ b)
    (ap (values_of (codes "x-forwarded-proto")) (told_here (codes "x-forwarded-proto") (Some (codes "http")) passed (none_there (codes "x-forwarded-proto") passed gone)))
    (skip_told (codes "x-forwarded-proto") (codes "x-forwarded-host") (named_host s.head) passed refl))

-- the host that it named, if it named one
told_listed : (value : Option (List ℕ)) → values_of (codes "x-forwarded-host") (told_of (codes "x-forwarded-host") value) ≡ listed value
told_listed None = refl
told_listed (Some value) = refl

pub host_alone : (s : Sent) → s.edge.trusts ≡ false → values_of (codes "x-forwarded-host") (given_request_lines (forwarded s)) ≡ listed (named_host s.head)
host_alone s distrusts =
    let passed = passed_lines s.edge s.head.headers in
    let gone = untold s.edge s.head.headers (codes "x-forwarded-host") distrusts refl in
    own_written s (codes "x-forwarded-host") refl refl refl refl
    ∙ ap₂ (λ (a b : List (List ℕ)). a ++ b) gone
    (told_values (codes "x-forwarded-host") s.head passed
    ∙ ap₂ (λ (a b : List (List ℕ)). a ++ b)
    (skip_told (codes "x-forwarded-host") (codes "x-forwarded-proto") (Some (codes "http")) passed refl)
    (ap (values_of (codes "x-forwarded-host")) (told_here (codes "x-forwarded-host") (named_host s.head) passed (none_there (codes "x-forwarded-host") passed gone))
    ∙ told_listed (named_host s.head)))

-- ---- other lines

-- the line that frames the body has no other name
size_other : (name : List ℕ) → bytes_eq (codes "content-length") name ≡ false → bytes_eq (codes "transfer-encoding") name ≡ false → (says : Bool) (kind : BodyKind)
    → values_of name (size_lines (shape_by says kind) (size_by says kind)) ≡ []
size_other name no_length no_coding true no_body = skip_line name (codes "content-length") (decimal 0) [] no_length
size_other name no_length no_coding false no_body = refl
size_other name no_length no_coding says raw_body = refl
size_other name no_length no_coding says chunked_body = skip_line name (codes "transfer-encoding") (codes "chunked") [] no_coding
size_other name no_length no_coding says (fixed_body n) = skip_line name (codes "content-length") (decimal n) [] no_length

-- no line is written of a name that stays behind, and is no own one
pub kept_behind : (s : Sent) (name : List ℕ) → is_among name (left_out s.edge s.head.headers) ≡ true → is_among name own_names ≡ false
    → values_of name (filter (is_sent (as_answer (forwarded_head s.edge s.head)) (shape_of s.head)) (by_name (forwarded_lines s.edge s.head))) ≡ []
kept_behind s name among other =
    none_among name (is_sent (as_answer (forwarded_head s.edge s.head)) (shape_of s.head)) (by_name (forwarded_lines s.edge s.head))
    (by_name_values name (forwarded_lines s.edge s.head) ∙ both_values s.edge s.head name
    ∙ ap₂ (λ (a b : List (List ℕ)). a ++ b) (stays_behind s.edge name s.head.headers among)
    (own_other s.edge s.head (passed_lines s.edge s.head.headers) name other))

pub hops_behind : (s : Sent) (name : List ℕ) → is_among name (left_out s.edge s.head.headers) ≡ true → is_among name own_names ≡ false
    → bytes_eq name (codes "content-length") ≡ false → bytes_eq name (codes "transfer-encoding") ≡ false → bytes_eq name (codes "date") ≡ false
    → values_of name (given_request_lines (forwarded s)) ≡ []
hops_behind s name among other no_length no_coding no_date =
    let r = forwarded_head s.edge s.head in
    let a = size_lines (shape_of s.head) (forwarded_size s.head) in
    let c = filter (is_sent (as_answer r) (shape_of s.head)) (by_name r.headers) in
    let has = has_header (codes "date") r.headers in
    let d = date_lines has s.moment in
    values-append name a (c ++ d)
    ∙ ap₂ (λ x y. x ++ y)
    (size_other name (eq_sym name (codes "content-length") no_length) (eq_sym name (codes "transfer-encoding") no_coding) (states_length s.head) s.head.body)
    (values-append name c d ∙ ap₂ (λ x y. x ++ y) (kept_behind s name among other) (date_other has s.moment name (eq_sym name (codes "date") no_date)))

-- what isn't among the names isn't any of them
pub passed_on : (s : Sent) (name : List ℕ) → is_among name (left_out s.edge s.head.headers) ≡ false → is_among name own_names ≡ false
    → bytes_eq name (codes "date") ≡ false → values_of name (given_request_lines (forwarded s)) ≡ values_of name s.head.headers
passed_on s name absent other no_date =
    let connection = or_parts (bytes_eq name (codes "connection")) _ absent in
    let alive = or_parts (bytes_eq name (codes "keep-alive")) _ connection.1 in
    let proxy = or_parts (bytes_eq name (codes "proxy-connection")) _ alive.1 in
    let te = or_parts (bytes_eq name (codes "te")) _ proxy.1 in
    let trailer = or_parts (bytes_eq name (codes "trailer")) _ te.1 in
    let coding = or_parts (bytes_eq name (codes "transfer-encoding")) _ trailer.1 in
    let second = codes "host" ∷ codes "content-length" ∷ codes "expect" ∷ (if s.edge.trusts then [] else client_names) in
    let parts = or_parts (is_among name (hop_names s.head.headers)) (is_among name second)
    (sym (list_any-append (λ n. bytes_eq name n) (hop_names s.head.headers) second) ∙ absent) in
    let host = or_parts (bytes_eq name (codes "host")) _ parts.1 in
    let length = or_parts (bytes_eq name (codes "content-length")) _ host.1 in
    own_written s name connection.0 length.0 coding.0 no_date
    ∙ ap₂ (λ (a b : List (List ℕ)). a ++ b) (goes_on s.edge name s.head.headers absent)
    (own_other s.edge s.head (passed_lines s.edge s.head.headers) name other)
    ∙ append-nil (values_of name s.head.headers)
