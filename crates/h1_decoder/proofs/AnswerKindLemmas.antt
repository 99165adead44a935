-- Where the body of an answer ends, by what is kept of its lines, against the lines themselves.
use Rattle.std.proofs.Common.{◌≡◌, ℕ, Bool, true, false, ◌&&◌, ◌||◌, not, List, [], ◌∷◌, Option, Some, None, refl, ap, ◌∙◌}
use Rattle.std.specs.Prelude.{codes, option_map, if◌then◌else◌, ◌==◌, is_none}
use Rattle.httparse.specs.Grammar.{trim_ows}
use Rattle.model_h1.specs.LengthTable.{values_of, length_value, says, is_length_refused, stated_length}
use Rattle.model_h1.specs.Request.{Header, ConnectionType, BodyKind}
use Rattle.model_client.specs.AnswerTable.{is_answer_coding_refused, comes_in_chunks, answer_kind}
use Rattle.h1_decoder.specs.declared.framing.Framing.{Framing}
use Rattle.h1_decoder.specs.declared.framing.Lengths.{Lengths}
use Rattle.h1_decoder.specs.declared.framing.Codings.{Codings}
use Rattle.h1_decoder.specs.Framing.{stated_by, stated, coded_by, coded, TellsLines, chunks_of, chunks_by, kind_of_answer, answer_kind_by, answer_kind_of, answer_flags_by}
use Rattle.h1_decoder.specs.HeadItem.{connection_type_of, asked_flags}
use Rattle.h1_decoder.specs.ResponseItem.{with_close}

-- the body, or none where the lines are refused
abbrev unless : Bool → BodyKind → Option BodyKind
unless refused body = if refused then None else Some body

-- one coding, by what it says
one_coding : (kind : Bool → BodyKind) (newer chunked identity : Bool)
    → option_map kind (if newer then chunks_of (coded_by chunked identity) else Some false)
    ≡ unless (newer && not (chunked || identity)) (kind (newer && chunked))
one_coding kind true true identity = refl
one_coding kind true false true = refl
one_coding kind true false false = refl
one_coding kind false chunked identity = refl

no_coding : (kind : Bool → BodyKind) (newer : Bool) → option_map kind (if newer then Some false else Some false) ≡ Some (kind false)
no_coding kind true = refl
no_coding kind false = refl

many_codings : (kind : Bool → BodyKind) (newer : Bool) → option_map kind (if newer then None else Some false) ≡ unless newer (kind false)
many_codings kind true = refl
many_codings kind false = refl

-- whether chunks come, by the codings
by_codings : (kind : Bool → BodyKind) (minor : ℕ) (C : List (List ℕ))
    → option_map kind (chunks_by minor (coded C)) ≡ unless (is_answer_coding_refused minor C) (kind (comes_in_chunks minor C))
by_codings kind minor [] = no_coding kind (minor == 1)
by_codings kind minor (value ∷ []) = one_coding kind (minor == 1) (says value (codes "chunked")) (says value (codes "identity"))
by_codings kind minor (value ∷ second ∷ more) = many_codings kind (minor == 1)

-- the table by the values alone
abbrev table : List (List ℕ) → List (List ℕ) → ℕ → ℕ → Option BodyKind
table L C minor status =
    unless (is_length_refused L || is_answer_coding_refused minor C) (kind_of_answer status (comes_in_chunks minor C) (stated_length L))

one_length : (length : Option ℕ) (C : List (List ℕ)) (minor status : ℕ)
    → answer_kind_by (stated_by length) (coded C) minor status
    ≡ unless (is_none length || is_answer_coding_refused minor C) (kind_of_answer status (comes_in_chunks minor C) length)
one_length None C minor status = refl
one_length (Some n) C minor status = by_codings (λ in_chunks. kind_of_answer status in_chunks (Some n)) minor C

by_values : (L C : List (List ℕ)) (minor status : ℕ) → answer_kind_by (stated L) (coded C) minor status ≡ table L C minor status
by_values [] C minor status = by_codings (λ in_chunks. kind_of_answer status in_chunks None) minor C
by_values (value ∷ []) C minor status = one_length (length_value (trim_ows value)) C minor status
by_values (value ∷ second ∷ more) C minor status = refl

-- what is kept of the lines says where the body of an answer ends, or that they frame none
pub answer_kind-is : (kept : Framing) (headers : List Header) (minor status : ℕ) → TellsLines kept headers
    → answer_kind_of kept minor status ≡ answer_kind minor status headers
answer_kind-is kept headers minor status tells =
    let L = values_of (codes "content-length") headers in
    let C = values_of (codes "transfer-encoding") headers in
    ap (λ (l : Lengths). answer_kind_by l kept.codings minor status) tells.length_lines
    ∙ ap (λ (k : Codings). answer_kind_by (stated L) k minor status) tells.coding_lines
    ∙ by_values L C minor status

-- the marks by what is kept are those of the lines
pub answer_flags-are : (asked : Option ConnectionType) (closes : Bool)
    → answer_flags_by (option_map connection_type_of asked) closes ≡ with_close closes (asked_flags asked)
answer_flags-are None true = refl
answer_flags-are None false = refl
answer_flags-are (Some type) true = refl
answer_flags-are (Some type) false = refl
