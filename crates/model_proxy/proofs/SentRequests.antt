-- A request that was read and is sent on whole is a plain one.
use Rattle.std.proofs.Common.{◌≡◌, ℕ, ◌<◌, ◌^◌, Bool, true, false, not, ◌&&◌, List, [], ◌∷◌, ◌++◌, map, flat_map, filter, cond, length, All, codes, refl, sym, ap, ap₂, ◌∙◌, subst, append-nil, append_assoc, lit<, Some, None, eqb, arith}
use Rattle.std.specs.Prelude.{bytes_eq, nat_lt, unwrap_or}
use Rattle.std.specs.List.{AllByRecursion, list_all}
use Rattle.std.specs.Char.{is_ascii_digit}
use Rattle.std.specs.Str.Parse.{digits_value}
use Rattle.std.proofs.lemmas.Bool.{false≢true, and_parts, not-true, ltb-true, cond-false, ne_eqb}
use Rattle.std.proofs.lemmas.List.{take_all}
use Rattle.model_ends.specs.PlainExchange.{carried_by}
use Rattle.std.proofs.lemmas.List.Elements.{All-head, All-tail}
use Rattle.http_header.proofs.TokenLemmas.{IsHeaderName-lowercase}
use Rattle.http_header.specs.Token.{IsToken as IsMethod}
use Rattle.httparse.specs.Grammar.{Field, IsField, IsToken, AllPass, is_uri_byte, is_value_byte, trim_ows}
use Rattle.httparse.proofs.TrimLemmas.{AllPass-trim_ows}
use Rattle.model_h1.specs.Request.{Header, keep_alive, BodyKind, no_body, fixed_body, chunked_body, raw_body, is_raw_kind, has_body, Head}
use Rattle.model_h1.specs.RequestHead.{IsHeadOf, IsTarget, IsHeaderField, header_of}
use Rattle.model_h1.specs.LengthTable.{values_of, length_value, stated_length, is_there, asks_websocket, framed_body, is_framing_refused}
use Rattle.model_h1.specs.Answer.{size_of, Shape, shape_none, shape_length, shape_chunked, shape_raw}
use Rattle.model_h1.specs.Parse.{Input, Message, IsParse}
use Rattle.model_client.specs.WrittenHead.{IsCleanHeader}
use Rattle.model_client.specs.RequestText.{as_answer, asked_shape, fits, body_sent, joined, given_request_text, IsPlainGiven, kind_of_shape}
use Rattle.model_ends.specs.SentRequest.{SentRequest, sent_request, IsAsked, asked_text, AreServedAs, AreBegunServed}
use Rattle.model_ends.proofs.NameGroups.{all_both}
use Rattle.model_ends.proofs.CleanHeads.{written_clean}
use Rattle.model_ends.proofs.GivenRequests.{plain_asked}
use Rattle.model_ends.proofs.SentRequests.{asked_is_served, asked_alone}
use Rattle.model_ends.proofs.BegunRequests.{begun_served}
use Rattle.model_proxy.specs.HopNames.{is_among}
use Rattle.model_proxy.specs.Edge.{Edge, IsCleanEdge}
use Rattle.model_proxy.specs.Targets.{is_servable}
use Rattle.model_proxy.specs.Judged.{is_refused}
use Rattle.model_proxy.specs.Forward.{is_forwardable, left_out, passed_lines, own_lines, forwarded_lines, states_length, size_by, forwarded_size, forwarded_head, Sent, forwarded, pieces_sent, end_sent, forward}
use Rattle.model_proxy.specs.SentWhole.{IsSentWhole}
use Rattle.model_proxy.proofs.TrimLemmas.{trim_ows-again}
use Rattle.model_proxy.proofs.Targets.{sent_sound, sent_visible}
use Rattle.model_proxy.proofs.OwnLines.{named_clean, own_clean}
use Rattle.model_proxy.proofs.ForwardedLines.{kept_behind}

-- ---- lines

-- a line that was read is clean
field_clean : (f : Field) → IsField f → IsHeaderField f → IsCleanHeader (header_of f)
field_clean f x y =
    let name = IsHeaderName-lowercase f.name y.name in
    record { name = name.0; lower = name.1; value = AllPass-trim_ows is_value_byte f.raw x.raw; trimmed = trim_ows-again f.raw }

fields_clean : (fs : List Field) → All IsField fs → AllByRecursion IsHeaderField fs → AllByRecursion IsCleanHeader (map header_of fs)
fields_clean [] xs ys = tt
fields_clean (f ∷ fs) xs ys = (field_clean f (All-head IsField f fs xs) ys.0, fields_clean fs (All-tail IsField f fs xs) ys.1)

kept_clean : (test : Header → Bool) (hs : List Header) → AllByRecursion IsCleanHeader hs → AllByRecursion IsCleanHeader (filter test hs)
kept_clean test [] clean = tt
kept_clean test (h ∷ hs) clean = by_test (test h) (kept_clean test hs clean.1)
  where
    by_test : (t : Bool) → AllByRecursion IsCleanHeader (filter test hs) → AllByRecursion IsCleanHeader (cond t (h ∷ filter test hs) (filter test hs))
    by_test true others = (clean.0, others)
    by_test false others = others

-- ---- a stated length is below 2 ^ 64

none_below : 0 < 2 ^ 64
none_below = lit< tt

value_below : (text : List ℕ) → unwrap_or (length_value text) 0 < 2 ^ 64
value_below text = by_test (nat_lt 0 (length text) && list_all is_ascii_digit text) (nat_lt (digits_value 10 text) (2 ^ 64)) refl
  where
    by_test : (a b : Bool) → nat_lt (digits_value 10 text) (2 ^ 64) ≡ b → unwrap_or (cond (a && b) (Some (digits_value 10 text)) None) 0 < 2 ^ 64
    by_test true true low = ltb-true (digits_value 10 text) (2 ^ 64) low
    by_test true false low = none_below
    by_test false true low = none_below
    by_test false false low = none_below

stated_below : (values : List (List ℕ)) → unwrap_or (stated_length values) 0 < 2 ^ 64
stated_below [] = none_below
stated_below (value ∷ more) = value_below (trim_ows value)

abbrev stated : List Header → ℕ
stated headers = unwrap_or (stated_length (values_of (codes "content-length") headers)) 0

framed_below : (method : List ℕ) (headers : List Header) (n : ℕ) → framed_body method headers ≡ fixed_body n → n < 2 ^ 64
framed_below method headers n = by_tests (is_there (values_of (codes "transfer-encoding") headers)) (asks_websocket headers) (nat_lt 0 (stated headers)) (bytes_eq method (codes "CONNECT"))
  where
    by_tests : (a b c d : Bool) → cond a chunked_body (cond b raw_body (cond c (fixed_body (stated headers)) (cond d raw_body no_body))) ≡ fixed_body n → n < 2 ^ 64
    by_tests true b c d e = cc
    by_tests false true c d e = cc
    by_tests false false true d e =
        let same : stated headers ≡ n = cc in
        subst (λ m. m < 2 ^ 64) same (stated_below (values_of (codes "content-length") headers))
    by_tests false false false true e = cc
    by_tests false false false false e = cc

body_below : (h : Head) (piece : List ℕ) → IsHeadOf piece h → (n : ℕ) → h.body ≡ fixed_body n → n < 2 ^ 64
body_below h piece x n is = by_test (is_framing_refused h.minor h.method h.headers) x.body_is
  where
    by_test : (t : Bool) → cond t None (Some (framed_body h.method h.headers)) ≡ Some h.body → n < 2 ^ 64
    by_test true e = cc
    by_test false e = let same : framed_body h.method h.headers ≡ h.body = cc in framed_below h.method h.headers n (same ∙ is)

size_fits : (says : Bool) (kind : BodyKind) → ((n : ℕ) → kind ≡ fixed_body n → n < 2 ^ 64) → fits (size_by says kind)
size_fits true no_body low = none_below
size_fits false no_body low = tt
size_fits says chunked_body low = tt
size_fits says raw_body low = tt
size_fits says (fixed_body n) low = low n refl

-- ---- the request

-- the lines that are passed on, and the own ones behind them
lines_clean : (s : Sent) → IsCleanEdge s.edge → AllByRecursion IsCleanHeader s.head.headers → AllPass is_uri_byte s.head.target
    → AllByRecursion IsCleanHeader (forwarded_lines s.edge s.head)
lines_clean s edge clean seen =
    let passed = passed_lines s.edge s.head.headers in
    all_both IsCleanHeader passed (own_lines s.edge s.head passed)
    (kept_clean (λ h. not (is_among h.name (left_out s.edge s.head.headers))) s.head.headers clean)
    (own_clean s.edge s.head passed edge (named_clean s.head clean seen))

-- what a request has that can be sent on
record IsServed (edge : Edge) (h : Head) : Type 0 where
  pub no_connect : bytes_eq h.method (codes "CONNECT") ≡ false
  pub no_raw : is_raw_kind h.body ≡ false
  pub servable : is_servable h.method h.target ≡ true

served : (edge : Edge) (h : Head) → is_forwardable edge h ≡ true → IsServed edge h
served edge h e =
    let rest = (and_parts (not (is_refused edge h)) _ e).1 in
    let connect = and_parts (not (bytes_eq h.method (codes "CONNECT"))) _ rest in
    let raw = and_parts (not (is_raw_kind h.body)) (is_servable h.method h.target) connect.1 in
    record {
      no_connect = not-true (bytes_eq h.method (codes "CONNECT")) connect.0;
      no_raw = not-true (is_raw_kind h.body) raw.0;
      servable = raw.1;
    }

sent_plain : (hold_size : ℕ) (s : Sent) → IsSentWhole hold_size s → IsPlainGiven hold_size (forwarded s)
sent_plain hold_size s x =
    let size = forwarded_size s.head in
    let r = forwarded_head s.edge s.head in
    let read = x.read in
    let grammar = read.reads.0 in
    let small : fits size = size_fits (states_length s.head) s.head.body (body_below s.head x.piece read) in
    let clean : AllByRecursion IsCleanHeader s.head.headers =
    subst (AllByRecursion IsCleanHeader) (sym read.headers_are) (fields_clean read.text.fields grammar.fields read.fields) in
    let is = served s.edge s.head x.forwardable in
    let goes : IsTarget s.head.target = subst IsTarget (sym read.target_is.1) read.target_is.0 in
    let seen : AllPass is_uri_byte s.head.target = subst (AllPass is_uri_byte) (sym read.target_is.1) grammar.target.1 in
    let sound = sent_sound s.head.method s.head.target is.servable goes in
    record {
      head = record {
        version = refl;
        method = subst IsMethod (sym read.method_is.1) read.method_is.0;
        token = subst IsToken (sym read.method_is.1) grammar.method;
        no_connect = is.no_connect;
        target = sound.target;
        visible = (sound.some, sent_visible s.head.method s.head.target seen);
        utf8 = sound.utf8;
        no_upgrade = kept_behind s (codes "upgrade") refl refl;
        lines = written_clean 1 (as_answer r) (asked_shape size) size keep_alive s.moment (lines_clean s x.edge clean seen) small x.moment;
      };
      fits = small;
      came = x.came;
      short = x.short;
      few = x.few;
      held = x.held;
    }

-- ---- all requests

abbrev as_sent : Sent → SentRequest
as_sent s = sent_request (forwarded s)

each_asked : (hold_size : ℕ) (ss : List Sent) → AllByRecursion (IsSentWhole hold_size) ss → AllByRecursion (IsAsked hold_size) (map as_sent ss)
each_asked hold_size [] all = tt
each_asked hold_size (s ∷ ss) all = (plain_asked hold_size (forwarded s) (sent_plain hold_size s all.0), each_asked hold_size ss all.1)

-- a whole body is written as a client writes it
body_whole : (shape : Shape) (pieces : List (List ℕ)) → pieces_sent shape pieces ++ end_sent shape true ≡ body_sent shape pieces
body_whole shape_none pieces = refl
body_whole shape_chunked pieces = refl
body_whole shape_raw pieces = refl
body_whole (shape_length n) pieces = append-nil (pieces_sent (shape_length n) pieces)

text_same : (hold_size : ℕ) (ss : List Sent) → AllByRecursion (IsSentWhole hold_size) ss → flat_map forward ss ≡ asked_text (map as_sent ss)
text_same hold_size [] all = refl
text_same hold_size (s ∷ ss) all =
    let shape = asked_shape (forwarded_size s.head) in
    let head = given_request_text (forwarded s) in
    let body : pieces_sent shape s.pieces ++ end_sent shape s.is_whole ≡ body_sent shape s.pieces =
    ap (λ t. pieces_sent shape s.pieces ++ end_sent shape t) all.0.whole ∙ body_whole shape s.pieces in
    append_assoc head (pieces_sent shape s.pieces ++ end_sent shape s.is_whole) (flat_map forward ss)
    ∙ ap₂ (λ a b. head ++ (a ++ b)) body (text_same hold_size ss all.1)

pub forwarded_are_read : (i : Input) (ss : List Sent) → AllByRecursion (IsSentWhole i.hold_size) ss → i.bytes ≡ flat_map forward ss
    → (ms : List Message) × IsParse i ms × AreServedAs i 0 ms (map as_sent ss)
forwarded_are_read i ss all is = asked_is_served i (map as_sent ss) (is ∙ text_same i.hold_size ss all) (each_asked i.hold_size ss all)

pub forwarded_alone : (i : Input) (ss : List Sent) (ms : List Message) → AllByRecursion (IsSentWhole i.hold_size) ss → i.bytes ≡ flat_map forward ss
    → IsParse i ms → AreServedAs i 0 ms (map as_sent ss)
forwarded_alone i ss ms all is = asked_alone i (map as_sent ss) ms (is ∙ text_same i.hold_size ss all) (each_asked i.hold_size ss all)

pub forwarded_so_far : (i : Input) (more : List ℕ) (ss : List Sent) (ms : List Message) → AllByRecursion (IsSentWhole i.hold_size) ss
    → i.bytes ++ more ≡ flat_map forward ss → IsParse i ms → AreBegunServed i 0 ms (map as_sent ss)
forwarded_so_far i more ss ms all is = begun_served i more (map as_sent ss) ms (is ∙ text_same i.hold_size ss all) (each_asked i.hold_size ss all)

-- ---- what is read

-- a body of a length has a byte
framed_positive : (method : List ℕ) (headers : List Header) (n : ℕ) → framed_body method headers ≡ fixed_body n → 0 < n
framed_positive method headers n =
    by_tests (is_there (values_of (codes "transfer-encoding") headers)) (asks_websocket headers) (nat_lt 0 (stated headers)) refl (bytes_eq method (codes "CONNECT"))
  where
    by_tests : (a b c : Bool) → nat_lt 0 (stated headers) ≡ c → (d : Bool)
        → cond a chunked_body (cond b raw_body (cond c (fixed_body (stated headers)) (cond d raw_body no_body))) ≡ fixed_body n → 0 < n
    by_tests true b c is d e = cc
    by_tests false true c is d e = cc
    by_tests false false true is d e =
        let same : stated headers ≡ n = cc in
        subst (λ m. 0 < m) same (ltb-true 0 (stated headers) is)
    by_tests false false false is true e = cc
    by_tests false false false is false e = cc

body_positive : (h : Head) (piece : List ℕ) → IsHeadOf piece h → (n : ℕ) → h.body ≡ fixed_body n → 0 < n
body_positive h piece x n is = by_test (is_framing_refused h.minor h.method h.headers) x.body_is
  where
    by_test : (t : Bool) → cond t None (Some (framed_body h.method h.headers)) ≡ Some h.body → 0 < n
    by_test true e = cc
    by_test false e =
        let same : framed_body h.method h.headers ≡ h.body = cc in
        framed_positive h.method h.headers n (same ∙ is)

-- the shape of a length
length_shape : (n : ℕ) → 0 < n → asked_shape (size_of n) ≡ shape_length n
length_shape n some = cond-false (eqb n 0) shape_none (shape_length n) (ne_eqb n 0 (λ none. omega (arith, none, some)))

kind_same : (says : Bool) (kind : BodyKind) → is_raw_kind kind ≡ false → ((n : ℕ) → kind ≡ fixed_body n → 0 < n)
    → kind_of_shape (asked_shape (size_by says kind)) ≡ kind
kind_same true no_body other some = refl
kind_same false no_body other some = refl
kind_same says chunked_body other some = refl
kind_same says raw_body other some = absurd (false≢true (sym other))
kind_same says (fixed_body n) other some = ap kind_of_shape (length_shape n (some n refl))

bytes_same : (says : Bool) (kind : BodyKind) (pieces : List (List ℕ)) → is_raw_kind kind ≡ false → has_body kind ≡ true
    → ((n : ℕ) → kind ≡ fixed_body n → 0 < n) → ((n : ℕ) → size_by says kind ≡ size_of n → length (joined pieces) ≡ n)
    → carried_by (asked_shape (size_by says kind)) pieces ≡ joined pieces
bytes_same says no_body pieces other there some came = absurd (false≢true there)
bytes_same says chunked_body pieces other there some came = refl
bytes_same says raw_body pieces other there some came = absurd (false≢true (sym other))
bytes_same says (fixed_body n) pieces other there some came =
    ap (λ shape. carried_by shape pieces) (length_shape n (some n refl)) ∙ take_all n (joined pieces) (omega (arith, came n refl))

pub body_read : (hold_size : ℕ) (s : Sent) → IsSentWhole hold_size s → (sent_request (forwarded s)).says.body ≡ s.head.body
body_read hold_size s x =
    kind_same (states_length s.head) s.head.body (served s.edge s.head x.forwardable).no_raw (body_positive s.head x.piece x.read)

pub bytes_read : (hold_size : ℕ) (s : Sent) → IsSentWhole hold_size s → has_body s.head.body ≡ true → (sent_request (forwarded s)).bytes ≡ joined s.pieces
bytes_read hold_size s x there =
    bytes_same (states_length s.head) s.head.body s.pieces (served s.edge s.head x.forwardable).no_raw there (body_positive s.head x.piece x.read) x.came
