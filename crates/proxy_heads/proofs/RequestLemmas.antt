-- What is sent on for a request's head.
use Rattle.std.proofs.Common.{◌≡◌, ℕ, zero, suc, Bool, true, false, not, ◌&&◌, ◌||◌, cond, List, [], ◌∷◌, ◌++◌, map, filter, flat_map, get_or, bytes_eq, codes, Option, Some, None, is_some, unwrap_or, IsTrue, refl, sym, ap, ◌∙◌, subst, arith, append_assoc}
use Rattle.std.specs.Prelude.{option_map, slice_get, ◌==◌, if◌then◌else◌}
use Rattle.std.specs.Option.{option_or}
use Rattle.std.proofs.Math.Dec.{eqb-suc-zero}
use Rattle.std.proofs.lemmas.Bool.{and_parts}
use Rattle.std.proofs.lemmas.Bool.Decides.{nat_tests}
use Rattle.std.proofs.lemmas.List.{get_or_default}
use Rattle.httparse.specs.Ascii.{space, crlf_bytes}
use Rattle.httparse.specs.Grammar.{print_version}
use Rattle.http.specs.declared.version.TheConstants.Version.{HTTP_11}
use Rattle.http_header.specs.FieldValue.{FieldValue, IsFieldValue}
use Rattle.http_header.specs.Token.{is_value_byte}
use Rattle.http_uri.specs.ByteClasses.{is_authority_byte}
use Rattle.http_uri.specs.Uri.{uri_scheme, uri_authority, uri_data}
use Rattle.http_uri.specs.Grammar.{IsAuthority}
use Rattle.http_types.specs.declared.requests.head.RequestHead.{RequestHead}
use Rattle.http_types.specs.Flags.{no_flags}
use Rattle.http_types.specs.RequestHead.{request_flags}
use Rattle.http_types.specs.Version.{is_below_http11}
use Rattle.http_map.specs.HeaderMap.{Entries, get, get_all, IsHeaderMap}
use Rattle.http_framing.specs.Kinds.{kind_of}
use Rattle.http_framing.specs.HeaderLines.{header_map}
use Rattle.model_h1.specs.Request.{Header, ConnectionType, keep_alive, Head, is_raw_kind}
use Rattle.model_h1.specs.LengthTable.{is_there, values_of}
use Rattle.model_h1.specs.Answer.{BodySize, Shape, has_header}
use Rattle.model_h1.specs.AnswerText.{header_text, by_name, is_sent}
use Rattle.model_client.specs.WrittenHead.{line_of, framing_lines, connection_lines, date_lines}
use Rattle.model_client.specs.RequestText.{AskedHead, as_answer, asked_shape, request_text, given_request_text}
use Rattle.h1_encoder.specs.Meaning.{headers_of, minor_of}
use Rattle.h1_encoder.proofs.ByName.{by_name-map}
use Rattle.model_ends.proofs.ValuesByName.{by_name_values}
use Rattle.h1_decoder.specs.declared.decoder.HeadItem.{HeadItem}
use Rattle.h1_decoder.specs.HeadItem.{SaysHead, version_of}
use Rattle.h1_encoder.specs.RequestMeaning.{asked_head, asked_minor, target_of}
use Rattle.model_proxy.specs.Edge as model
use Rattle.model_proxy.specs.Edge.{via}
use Rattle.model_proxy.specs.Targets.{behind_http, authority_in, authority_of, is_servable, asks_for_all, target_sent}
use Rattle.model_proxy.specs.Judged.{are_hosts_right, are_bytes_right, is_form_right, is_authority_right, is_right, is_refused}
use Rattle.model_proxy.specs.Forward.{is_forwardable, passed_lines, named_host, unless_there, own_lines, forwarded_lines, states_length, forwarded_head, forwarded_size, Sent, forwarded}
use Rattle.model_proxy.proofs.Targets.{http_of, absolute_of, host_is}
use Rattle.proxy_heads.specs.Edges.{values_right, is_item_right, kept_lines, line_unless, host_or, added_lines}
use Rattle.proxy_heads.specs.ForwardedMeaning.{by_names}
use Rattle.proxy_heads.proofs.MapLemmas.{map_lines, map_values, map_distinct, absorbed, then_put}
use Rattle.proxy_heads.proofs.LeftOut.{kept_by_name}
use Rattle.proxy_heads.proofs.TargetLemmas.{target_is}

-- ---- whether it is refused

-- by the Host lines
hosts_right : (minor : ℕ) (values : List FieldValue) → are_hosts_right minor (map (λ (v : FieldValue). v.bytes) values) ≡ values_right (minor == 0) values
hosts_right minor [] = refl
hosts_right minor (v ∷ []) = refl
hosts_right minor (v ∷ w ∷ values) = refl

pub old_is : (minor : ℕ) → is_below_http11 (version_of minor) ≡ (minor == 0)
old_is zero = refl
old_is (suc n) = sym (eqb-suc-zero n)

-- the values of a name that a head has, in its map
values_in : (name : List ℕ) (hs : List Header) → values_of name hs ≡ map (λ (v : FieldValue). v.bytes) (get_all (header_map hs) name)
values_in name hs =
    sym (by_name_values name hs) ∙ ap (values_of name) (sym (map_lines hs)) ∙ map_values name (header_map hs) (map_distinct hs)

pub right_is : (item : HeadItem) (h : Head) → SaysHead item h → is_item_right item ≡ is_right h
right_is item h says =
    let values : values_of (codes "host") h.headers ≡ map (λ (v : FieldValue). v.bytes) (get_all item.head.headers (codes "host")) =
    values_in (codes "host") h.headers ∙ ap (λ (m : Entries). map (λ (v : FieldValue). v.bytes) (get_all m (codes "host"))) (sym says.headers) in
    let hosts : values_right (is_below_http11 item.head.version) (get_all item.head.headers (codes "host")) ≡ are_hosts_right h.minor (values_of (codes "host") h.headers) =
    ap (λ (old : Bool). values_right old (get_all item.head.headers (codes "host"))) (ap is_below_http11 says.version ∙ old_is h.minor)
    ∙ sym (ap (are_hosts_right h.minor) values ∙ hosts_right h.minor (get_all item.head.headers (codes "host"))) in
    λ i. hosts i && (are_bytes_right (says.target i) && (is_form_right (says.method i) (says.target i) && is_authority_right (authority_of (says.target i))))

pub taken : (e : model.Edge) (h : Head) → e.is_lax ≡ true → false ≡ is_refused e h
taken e h lax = sym (ap (λ (t : Bool). not t && not (is_right h)) lax)

pub judged : (e : model.Edge) (item : HeadItem) (h : Head) (right : Bool) → e.is_lax ≡ false → right ≡ is_item_right item → SaysHead item h → not right ≡ is_refused e h
judged e item h right strict is says =
    ap not (is ∙ right_is item h says) ∙ sym (ap (λ (t : Bool). not t && not (is_right h)) strict)

-- ---- the host that is named

-- an authority can be a value
authority_byte : (b : ℕ) → is_authority_byte b ≡ true → IsTrue (is_value_byte b)
authority_byte b is = grind (arith, nat_tests, is)

authority_value : (text : List ℕ) → IsAuthority text → IsFieldValue text
authority_value text x = λ k d within.
    let byte : is_authority_byte (get_or text k 0) ≡ true = (x.bytes k within).byte in
    subst (λ (b : ℕ). IsTrue (is_value_byte b)) (get_or_default text k 0 d within) (authority_byte (get_or text k 0) byte)

pub named_value : (item : HeadItem) (h : Head) (authority : List ℕ) → SaysHead item h → authority_of item.target ≡ Some authority → IsFieldValue authority
named_value item h authority says is = by_http (behind_http h.target) refl (ap authority_of (sym says.target) ∙ is)
  where
    by_http : (o : Option (List ℕ)) → behind_http h.target ≡ o → option_map authority_in o ≡ Some authority → IsFieldValue authority
    by_http None e named = absurd (cc named)
    by_http (Some rest) e named =
        let http = http_of h.target rest e in
        let u = item.head.uri in
        let parts = absolute_of h.target rest (uri_scheme u) (uri_authority u) (uri_data u) http says.uri in
        let host : authority_in rest ≡ parts.host = host_is h.target rest parts.name parts.host (uri_data u) http parts.form in
        let same : authority_in rest ≡ authority = cc named in
        subst IsFieldValue (sym host ∙ same) (authority_value parts.host parts.form.is_authority)

pub whole_named : (item : HeadItem) (h : Head) (authority : List ℕ) → SaysHead item h → authority_of item.target ≡ Some authority → Some authority ≡ named_host h
whole_named item h authority says is =
    sym (ap (λ (o : Option (List ℕ)). option_or o (slice_get (values_of (codes "host") h.headers) 0)) (ap authority_of (sym says.target) ∙ is))

-- the first value of a name
first_of : (values : List FieldValue) → slice_get (map (λ (v : FieldValue). v.bytes) values) 0 ≡ option_map (λ (v : FieldValue). v.bytes) (slice_get values 0)
first_of [] = refl
first_of (v ∷ values) = refl

pub line_named : (item : HeadItem) (h : Head) → SaysHead item h → authority_of item.target ≡ None
    → option_map (λ (v : FieldValue). v.bytes) (get item.head.headers (codes "host")) ≡ named_host h
line_named item h says none =
    sym (ap (λ (o : Option (List ℕ)). option_or o (slice_get (values_of (codes "host") h.headers) 0)) (ap authority_of (sym says.target) ∙ none)
    ∙ ap (λ (values : List (List ℕ)). slice_get values 0) (values_in (codes "host") h.headers)
    ∙ first_of (get_all (header_map h.headers) (codes "host"))
    ∙ ap (λ (m : Entries). option_map (λ (v : FieldValue). v.bytes) (get m (codes "host"))) (sym says.headers))

-- ---- the size

-- a length is stated where the map has a value for it
there_in : (values : List FieldValue) → is_some (slice_get values 0) ≡ is_there (map (λ (v : FieldValue). v.bytes) values)
there_in [] = refl
there_in (v ∷ values) = refl

pub states_in : (item : HeadItem) (h : Head) → SaysHead item h → is_some (get item.head.headers (codes "content-length")) ≡ states_length h
states_in item h says =
    ap (λ (m : Entries). is_some (get m (codes "content-length"))) says.headers
    ∙ there_in (get_all (header_map h.headers) (codes "content-length"))
    ∙ ap is_there (sym (values_in (codes "content-length") h.headers))

-- ---- the lines

-- a name has a line where it has a value
named : (name : List ℕ) (hs : List Header) → has_header name hs ≡ is_there (values_of name hs)
named name [] = refl
named name (h ∷ hs) = by_test (bytes_eq h.name name) (named name hs)
  where
    values : List Header → List (List ℕ)
    values ls = map (λ (k : Header). k.value) ls

    others : List Header
    others = filter (λ (k : Header). bytes_eq k.name name) hs

    by_test : (t : Bool) → has_header name hs ≡ is_there (values others) → (t || has_header name hs) ≡ is_there (values (cond t (h ∷ others) others))
    by_test true e = refl
    by_test false e = e

named_by_name : (name : List ℕ) (hs : List Header) → has_header name (by_name hs) ≡ has_header name hs
named_by_name name hs = named name (by_name hs) ∙ ap is_there (by_name_values name hs) ∙ sym (named name hs)

pub has_in : (name : List ℕ) (m : Entries) → IsHeaderMap m → is_some (get m name) ≡ has_header name (headers_of m)
has_in name m is = there_in (get_all m name) ∙ ap is_there (sym (map_values name m is.distinct)) ∙ sym (named name (headers_of m))

-- the added lines, put in one after the other
pub all_added : (e : model.Edge) (named : Option (List ℕ)) (minor : ℕ) (hs a b c d f g : List Header) (proto host : Bool)
    → proto ≡ has_header (codes "x-forwarded-proto") hs → host ≡ has_header (codes "x-forwarded-host") hs
    → a ≡ by_name (hs ++ line_of (codes "host") (host_or named e.host) ∷ [])
    → b ≡ by_name (a ++ line_of (codes "via") (via minor) ∷ [])
    → c ≡ by_name (b ++ line_of (codes "x-forwarded-for") e.address ∷ [])
    → d ≡ by_name (c ++ line_of (codes "forwarded") e.element ∷ [])
    → f ≡ by_name (d ++ line_unless proto (codes "x-forwarded-proto") (Some (codes "http")))
    → g ≡ by_name (f ++ line_unless host (codes "x-forwarded-host") named)
    → g ≡ by_name (hs ++ added_lines e named minor hs)
all_added e named minor hs a b c d f g proto host protos hosts first second third fourth fifth sixth =
    let l1 = line_of (codes "host") (host_or named e.host) in
    let l2 = line_of (codes "via") (via minor) in
    let l3 = line_of (codes "x-forwarded-for") e.address in
    let l4 = line_of (codes "forwarded") e.element in
    let l5 = line_unless proto (codes "x-forwarded-proto") (Some (codes "http")) in
    let l6 = line_unless host (codes "x-forwarded-host") named in
    let four = l1 ∷ l2 ∷ l3 ∷ l4 ∷ [] in
    let two = append_assoc hs (l1 ∷ []) (l2 ∷ []) in
    let three = append_assoc hs (l1 ∷ l2 ∷ []) (l3 ∷ []) in
    let at2 : b ≡ by_name (hs ++ l1 ∷ l2 ∷ []) = then_put (hs ++ l1 ∷ []) a (l2 ∷ []) b first second ∙ ap by_name two in
    let at3 : c ≡ by_name (hs ++ l1 ∷ l2 ∷ l3 ∷ []) = then_put (hs ++ l1 ∷ l2 ∷ []) b (l3 ∷ []) c at2 third ∙ ap by_name three in
    let at4 : d ≡ by_name (hs ++ four) =
    then_put (hs ++ l1 ∷ l2 ∷ l3 ∷ []) c (l4 ∷ []) d at3 fourth ∙ ap by_name (append_assoc hs (l1 ∷ l2 ∷ l3 ∷ []) (l4 ∷ [])) in
    let at5 : f ≡ by_name (hs ++ (four ++ l5)) = then_put (hs ++ four) d l5 f at4 fifth ∙ ap by_name (append_assoc hs four l5) in
    let at6 : g ≡ by_name (hs ++ (four ++ (l5 ++ l6))) =
    then_put (hs ++ (four ++ l5)) f l6 g at5 sixth ∙ ap by_name (append_assoc hs (four ++ l5) l6) in
    at6 ∙ (λ i. by_name (hs ++ (four ++ (line_unless (protos i) (codes "x-forwarded-proto") (Some (codes "http"))
    ++ line_unless (hosts i) (codes "x-forwarded-host") named))))

-- where a line is there already
pub there_none : (is_there : Bool) (name : List ℕ) (value : Option (List ℕ)) → is_there ≡ true → line_unless is_there name value ≡ []
there_none is_there name None is = refl
there_none is_there name (Some value) is = ap (λ (t : Bool). if t then [] else line_of name value ∷ []) is

-- and where it isn't, with a value
pub one_there : (is_there : Bool) (name value : List ℕ) → is_there ≡ false → line_of name value ∷ [] ≡ line_unless is_there name (Some value)
one_there is_there name value is = sym (ap (λ (t : Bool). if t then [] else line_of name value ∷ []) is)

-- they are those of the definitions
host_is_named : (named : Option (List ℕ)) (other : List ℕ) → host_or named other ≡ unwrap_or named other
host_is_named None other = refl
host_is_named (Some host) other = refl

unless_is : (name : List ℕ) (value : Option (List ℕ)) (passed : List Header) → line_unless (has_header name passed) name value ≡ unless_there name value passed
unless_is name None passed = refl
unless_is name (Some value) passed = refl

added_are : (e : model.Edge) (h : Head) (passed : List Header) → added_lines e (named_host h) h.minor passed ≡ own_lines e h passed
added_are e h passed = λ i.
    line_of (codes "host") (host_is_named (named_host h) e.host i)
    ∷ line_of (codes "via") (via h.minor)
    ∷ line_of (codes "x-forwarded-for") e.address
    ∷ line_of (codes "forwarded") e.element
    ∷ (unless_is (codes "x-forwarded-proto") (Some (codes "http")) passed i
    ++ unless_is (codes "x-forwarded-host") (named_host h) passed i)

-- lines that stand name by name have the same names
added_by_name : (e : model.Edge) (named : Option (List ℕ)) (minor : ℕ) (hs : List Header) → added_lines e named minor (by_name hs) ≡ added_lines e named minor hs
added_by_name e named minor hs = λ i.
    line_of (codes "host") (host_or named e.host)
    ∷ line_of (codes "via") (via minor)
    ∷ line_of (codes "x-forwarded-for") e.address
    ∷ line_of (codes "forwarded") e.element
    ∷ (line_unless (named_by_name (codes "x-forwarded-proto") hs i) (codes "x-forwarded-proto") (Some (codes "http"))
    ++ line_unless (named_by_name (codes "x-forwarded-host") hs i) (codes "x-forwarded-host") named)

-- all lines stand name by name
pub lines_are : (e : model.Edge) (item : HeadItem) (h : Head) (named : Option (List ℕ)) (minor : ℕ) (kept after : List Header) → SaysHead item h
    → kept ≡ kept_lines e.trusts (headers_of item.head.headers) → named ≡ named_host h → via minor ≡ via h.minor
    → after ≡ by_name (kept ++ added_lines e named minor kept) → after ≡ by_name (forwarded_lines e h)
lines_are e item h named minor kept after says stays names by is =
    let passed = passed_lines e h.headers in
    let same : kept ≡ by_name passed =
    stays ∙ ap (kept_lines e.trusts) (ap headers_of says.headers ∙ map_lines h.headers) ∙ kept_by_name e.trusts h.headers in
    is
    ∙ (λ i. by_name (same i ++ added_lines e (names i) minor (same i)))
    ∙ ap (λ (more : List Header). by_name (by_name passed ++ more)) (added_by_name e (named_host h) minor passed)
    ∙ absorbed passed (added_lines e (named_host h) minor passed)
    ∙ ap (λ (v : List ℕ). by_name (passed ++ with_via v)) by
    ∙ ap (λ (more : List Header). by_name (passed ++ more)) (added_are e h passed)
  where
    with_via : List ℕ → List Header
    with_via v =
        line_of (codes "host") (host_or (named_host h) e.host)
        ∷ line_of (codes "via") v
        ∷ line_of (codes "x-forwarded-for") e.address
        ∷ line_of (codes "forwarded") e.element
        ∷ (line_unless (has_header (codes "x-forwarded-proto") (passed_lines e h.headers)) (codes "x-forwarded-proto") (Some (codes "http"))
        ++ line_unless (has_header (codes "x-forwarded-host") (passed_lines e h.headers)) (codes "x-forwarded-host") (named_host h))

-- a version is 1.0 or a later one
pub via_of : (minor : ℕ) → via (minor_of (version_of minor)) ≡ via minor
via_of zero = refl
via_of (suc n) = sym (ap (λ (t : Bool). if t then codes "1.0 raspcream" else codes "1.1 raspcream") (eqb-suc-zero n))

-- ---- the head

servable_of : (e : model.Edge) (h : Head) → is_forwardable e h ≡ true → is_servable h.method h.target ≡ true
servable_of e h can =
    let rest = (and_parts (not (is_refused e h)) _ can).1 in
    let connect = (and_parts (not (bytes_eq h.method (codes "CONNECT"))) _ rest).1 in
    (and_parts (not (is_raw_kind h.body)) (is_servable h.method h.target) connect).1

pub can_is : (e : model.Edge) (item : HeadItem) (h : Head) (refused can : Bool) → SaysHead item h → refused ≡ is_refused e h
    → can ≡ (not refused && (not (bytes_eq item.head.method (codes "CONNECT")) && (not (is_raw_kind (kind_of item.body)) && is_servable item.head.method item.target)))
    → can ≡ is_forwardable e h
can_is e item h refused can says judged is =
    is ∙ (λ i. not (judged i) && (not (bytes_eq (says.method i) (codes "CONNECT")) && (not (is_raw_kind (says.body i)) && is_servable (says.method i) (says.target i))))

pub head_is : (e : model.Edge) (r : RequestHead) (item : HeadItem) (h : Head) → SaysHead item h → is_forwardable e h ≡ true → r.method ≡ item.head.method
    → target_of r.uri ≡ (if asks_for_all item.head.method item.target then codes "*" else target_of item.head.uri) → r.version ≡ HTTP_11 → request_flags r ≡ no_flags
    → headers_of r.headers ≡ by_name (forwarded_lines e h) → asked_head r ≡ by_names (forwarded_head e h)
head_is e r item h says can method uri version flags lines =
    let target : target_of r.uri ≡ target_sent h.method h.target =
    uri
    ∙ (λ i. if asks_for_all (says.method i) (says.target i) then codes "*" else target_of item.head.uri)
    ∙ target_is h.method h.target item.head.uri (servable_of e h can) says.uri in
    let methods = method ∙ says.method in
    λ i. record {
      method = methods i;
      target = target i;
      minor = asked_minor (version i);
      in_camel_case = (flags i).in_camel_case;
      headers = lines i;
    }

-- ---- its text

-- lines that stand name by name are written as they were
texts_same : (r : AskedHead) (shape : Shape) (size : BodySize) (kind : ConnectionType) (now : ℕ) → by_name (by_name r.headers) ≡ by_name r.headers
    → request_text (by_names r) shape size kind now ≡ request_text r shape size kind now
unfolding request_text
texts_same r shape size kind now again =
    let dated = named_by_name (codes "date") r.headers in
    λ i. r.method ++ space ∷ (r.target ++ space ∷ (print_version r.minor ++ (crlf_bytes
    ++ (flat_map (header_text r.in_camel_case) (framing_lines (as_answer r) shape size ++ (connection_lines r.minor r.in_camel_case kind
    ++ (filter (is_sent (as_answer r) shape) (again i) ++ date_lines (dated i) now))) ++ crlf_bytes))))

pub text_is : (r : RequestHead) (h : Head) (s : Sent) → IsHeaderMap r.headers → headers_of r.headers ≡ by_name (forwarded_lines s.edge h)
    → asked_head r ≡ by_names (forwarded_head s.edge h) → s.head ≡ h
    → request_text (asked_head r) (asked_shape (forwarded_size h)) (forwarded_size h) keep_alive s.moment ≡ given_request_text (forwarded s)
text_is r h s valid lines is same =
    let again : by_name (by_name (forwarded_lines s.edge h)) ≡ by_name (forwarded_lines s.edge h) =
    ap by_name (sym lines) ∙ by_name-map r.headers valid ∙ lines in
    let size = forwarded_size h in
    ap (λ (a : AskedHead). request_text a (asked_shape size) size keep_alive s.moment) is
    ∙ texts_same (forwarded_head s.edge h) (asked_shape size) size keep_alive s.moment again
    ∙ ap (λ (k : Head). request_text (forwarded_head s.edge k) (asked_shape (forwarded_size k)) (forwarded_size k) keep_alive s.moment) (sym same)
