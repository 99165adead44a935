-- The connection type of a head that was read, by its marks and its version.
use Rattle.std.proofs.Common.{◌≡◌, ℕ, zero, suc, Bool, true, false, List, inl, inr, Option, Some, None, refl, sym, ap, ◌∙◌, subst}
use Rattle.std.specs.Prelude.{unwrap_or, if◌then◌else◌}
use Rattle.std.proofs.Math.Dec.{eqb-suc-zero}
use Rattle.http.specs.declared.version.Version.{Version}
use Rattle.http_types.specs.declared.message.Flags.{Flags}
use Rattle.http_types.specs.ConnectionType.{IsTypeOf}
use Rattle.http_types.specs.RequestHead.{request_flags}
use Rattle.model_h1.specs.LengthTable.{asked_type, default_type}
use Rattle.model_h1.specs.Request.{Head, ConnectionType, close, keep_alive, upgrade, head_is}
use Rattle.model_h1.specs.RequestHead.{IsReading}
use Rattle.model_client.specs.AnswerReading.{Answer, answer_is, IsAnswerOf, IsAnswerReading}
use Rattle.model_client.specs.AnswerTable.{ends_with_input, answer_connection}
use Rattle.h1_decoder.specs.declared.response.ResponseItem.{ResponseItem}
use Rattle.h1_decoder.specs.ResponseItem.{SaysAnswer, with_close, answer_flags}
use Rattle.h1_decoder.specs.declared.decoder.HeadItem.{HeadItem}
use Rattle.h1_decoder.specs.HeadItem.{SaysHead, connection_type_of, version_of, asked_flags, flags_of}

-- the type that was asked for, or the version's, by the marks
type_of_marks : (asked : Option ConnectionType) (expects : Bool) (minor : ℕ)
    → IsTypeOf (record (asked_flags asked) { expect = expects }) (version_of minor) (connection_type_of (unwrap_or asked (default_type minor)))
type_of_marks (Some close) expects minor = refl
type_of_marks (Some keep_alive) expects minor = refl
type_of_marks (Some upgrade) expects minor = refl
type_of_marks None expects zero = refl
type_of_marks None expects (suc n) = ap (λ (b : Bool). connection_type_of (if b then close else keep_alive)) (eqb-suc-zero n)

-- so it is with an item that says a head
pub marks_tell : (piece : List ℕ) (item : HeadItem) (h : Head) → IsReading piece (head_is h) → SaysHead item h
    → IsTypeOf (request_flags item.head) item.head.version (connection_type_of h.connection)
marks_tell piece item h reading says =
    let told : IsTypeOf (flags_of h) (version_of h.minor) (connection_type_of h.connection) =
    ap connection_type_of reading.1.connection_is ∙ type_of_marks (asked_type h.headers) h.expects h.minor in
    subst (λ (f : Flags). IsTypeOf f item.head.version (connection_type_of h.connection)) (sym says.flags)
    (subst (λ (v : Version). IsTypeOf (flags_of h) v (connection_type_of h.connection)) (sym says.version) told)

-- the same with the mark of a body that only the end of the input ends
closing_type : (asked : Option ConnectionType) (closes : Bool) (minor : ℕ)
    → IsTypeOf (with_close closes (asked_flags asked)) (version_of minor) (connection_type_of (if closes then close else unwrap_or asked (default_type minor)))
closing_type (Some close) true minor = refl
closing_type (Some keep_alive) true minor = refl
closing_type (Some upgrade) true minor = refl
closing_type None true minor = refl
closing_type (Some close) false minor = refl
closing_type (Some keep_alive) false minor = refl
closing_type (Some upgrade) false minor = refl
closing_type None false minor = type_of_marks None false minor

connection_read : (piece : List ℕ) (a : Answer) → IsAnswerOf piece a → a.connection ≡ answer_connection a.minor a.status a.headers a.body
connection_read piece a (inl x) = x.1.connection_is
connection_read piece a (inr x) = x.2.connection_is

-- so it is with an item that says an answer
pub answer_marks_tell : (piece : List ℕ) (item : ResponseItem) (a : Answer) → IsAnswerReading piece (answer_is a) → SaysAnswer item a
    → IsTypeOf item.head.flags item.head.version (connection_type_of a.connection)
answer_marks_tell piece item a reading says =
    let told : IsTypeOf (answer_flags a) (version_of a.minor) (connection_type_of a.connection) =
    ap connection_type_of (connection_read piece a reading.1) ∙ closing_type (asked_type a.headers) (ends_with_input a.status a.body) a.minor in
    subst (λ (f : Flags). IsTypeOf f item.head.version (connection_type_of a.connection)) (sym says.flags)
    (subst (λ (v : Version). IsTypeOf (answer_flags a) v (connection_type_of a.connection)) (sym says.version) told)
