-- What a written head says of the connection is read as it was meant.
use Rattle.std.proofs.Common.{◌≡◌, ℕ, Bool, true, false, not, ◌&&◌, ◌||◌, List, [], ◌∷◌, ◌++◌, filter, cond, eqb, None, refl, ap, ap₂, ◌∙◌, append-nil}
use Rattle.std.specs.Prelude.{bytes_eq, codes, unwrap_or, option_and_then}
use Rattle.std.specs.List.{last_or}
use Rattle.std.proofs.lemmas.Bool.{cond-false}
use Rattle.httparse.specs.Grammar.{trim_ows}
use Rattle.model_h1.specs.Request.{Header, Head, ConnectionType, close, keep_alive, upgrade, BodyKind, no_body, fixed_body, chunked_body, raw_body}
use Rattle.model_h1.specs.Setting.{Setting}
use Rattle.model_h1.specs.LengthTable.{values_of, named_type, default_type, connection_of}
use Rattle.model_h1.specs.Answer.{asked_of, type_of, AnswerHead, BodySize, size_none, size_of, size_stream, Shape, shape_none, shape_length, shape_chunked, shape_raw, is_bodiless, has_header, is_raw}
use Rattle.model_h1.specs.AnswerText.{by_name, is_sent}
use Rattle.model_h1.specs.Laws.Exchanges.{AnswerGiven}
use Rattle.model_client.specs.AnswerTable.{ends_with_input}
use Rattle.model_client.specs.WrittenHead.{line_of, size_lines, framing_lines, connection_lines, date_lines, written_lines}
use Rattle.model_ends.specs.SentAnswer.{sent_answer}
use Rattle.model_ends.proofs.Framing.{values-append, none_kept, date_other}

-- the type by the values alone
abbrev read_type : ℕ → List (List ℕ) → ConnectionType
read_type minor values = unwrap_or (option_and_then named_type (last_or None values)) (default_type minor)

-- no framing line has the name
no_size : (shape : Shape) (size : BodySize) → values_of (codes "connection") (size_lines shape size) ≡ []
no_size shape size_none = refl
no_size shape (size_of n) = refl
no_size shape_chunked size_stream = refl
no_size shape_none size_stream = refl
no_size (shape_length n) size_stream = refl
no_size shape_raw size_stream = refl

no_framing : (answer : AnswerHead) (shape : Shape) (size : BodySize) → values_of (codes "connection") (framing_lines answer shape size) ≡ []
no_framing answer shape size = by_test (is_bodiless answer.status)
  where
    by_test : (t : Bool) → values_of (codes "connection") (cond t [] (size_lines shape size)) ≡ []
    by_test true = refl
    by_test false = no_size shape size

-- and no header of the head's own is sent that has it
dropped : (answer : AnswerHead) (shape : Shape) (h : Header) → bytes_eq h.name (codes "connection") ≡ true → is_sent answer shape h ≡ false
dropped answer shape h is =
    ap (λ t. not t && (not (bytes_eq h.name (codes "content-length") || bytes_eq h.name (codes "transfer-encoding")) || eqb answer.status 304
    || (is_raw shape && not (eqb answer.status 101)))) is

-- so the writer's own line is the only one
connection_alone : (minor : ℕ) (answer : AnswerHead) (shape : Shape) (size : BodySize) (kind : ConnectionType) (now : ℕ)
    → values_of (codes "connection") (written_lines minor answer shape size kind now)
    ≡ values_of (codes "connection") (connection_lines minor answer.in_camel_case kind)
connection_alone minor answer shape size kind now =
    let name = codes "connection" in
    let a = framing_lines answer shape size in
    let b = connection_lines minor answer.in_camel_case kind in
    let c = filter (is_sent answer shape) (by_name answer.headers) in
    let d = date_lines (has_header (codes "date") answer.headers) now in
    values-append name a (b ++ (c ++ d)) ∙ ap₂ (λ x y. x ++ y) (no_framing answer shape size)
    (values-append name b (c ++ d) ∙ ap (λ l. values_of name b ++ l)
    (values-append name c d ∙ ap₂ (λ x y. x ++ y) (none_kept name (is_sent answer shape) (dropped answer shape) (by_name answer.headers))
    (date_other (has_header (codes "date") answer.headers) now name refl)))
    ∙ append-nil (values_of name b)

-- which says what it says
says_type : (minor : ℕ) (camel : Bool) (kind : ConnectionType) → read_type minor (values_of (codes "connection") (connection_lines minor camel kind)) ≡ kind
unfolding trim_ows
says_type minor true upgrade = refl
says_type minor false upgrade = refl
says_type minor camel keep_alive = by_test (eqb minor 0)
  where
    by_test : (t : Bool) → unwrap_or (option_and_then named_type (last_or None (values_of (codes "connection") (cond t (line_of (codes "connection") (codes "keep-alive") ∷ []) []))))
        (cond t close keep_alive) ≡ keep_alive
    by_test true = refl
    by_test false = refl
says_type minor camel close = by_test (eqb minor 0)
  where
    by_test : (t : Bool) → unwrap_or (option_and_then named_type (last_or None (values_of (codes "connection") (cond t [] (line_of (codes "connection") (codes "close") ∷ [])))))
        (cond t close keep_alive) ≡ close
    by_test true = refl
    by_test false = refl

-- the lines say what becomes of the connection
pub connection_read : (minor : ℕ) (answer : AnswerHead) (shape : Shape) (size : BodySize) (kind : ConnectionType) (now : ℕ)
    → connection_of minor (written_lines minor answer shape size kind now) ≡ kind
connection_read minor answer shape size kind now =
    ap (read_type minor) (connection_alone minor answer shape size kind now) ∙ says_type minor answer.in_camel_case kind

-- only a raw body changes it
self_framed : (status : ℕ) (kind : BodyKind) → ¬ (kind ≡ raw_body) → ends_with_input status kind ≡ false
self_framed status no_body other = refl
self_framed status (fixed_body n) other = refl
self_framed status chunked_body other = refl
self_framed status raw_body other = absurd (other refl)

-- what an answer says of it is what its connection does
pub connection_agrees : (setting : Setting) (h : Head) (a : AnswerGiven) → ¬ ((sent_answer setting h a).answer.body ≡ raw_body)
    → (sent_answer setting h a).answer.connection ≡ type_of setting a.answered.drained (asked_of h) a.answered.head a.answered.size
connection_agrees setting h a other =
    let s = (sent_answer setting h a).answer in
    cond-false (ends_with_input s.status s.body) close _ (self_framed s.status s.body other)
    ∙ connection_read h.minor a.answered.head _ a.answered.size _ a.moment
