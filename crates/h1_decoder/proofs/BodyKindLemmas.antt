-- Where a body ends, by what is kept of the lines, against the lines themselves.
use Rattle.std.proofs.Common.{◌≡◌, ℕ, Bool, true, false, ◌&&◌, ◌||◌, List, [], ◌∷◌, Option, Some, None, refl, sym, ap, ◌∙◌, subst}
use Rattle.std.specs.Prelude.{codes, bytes_eq, if◌then◌else◌, ◌==◌, not, is_none, unwrap_or}
use Rattle.std.proofs.Math.Bool.{and-false, and-true, or-true}
use Rattle.std.proofs.lemmas.Bool.{eqb-true}
use Rattle.httparse.specs.Grammar.{trim_ows}
use Rattle.model_h1.specs.LengthTable.{values_of, length_value, says, asks_websocket, body_kind, is_length_refused, is_coding_refused, is_there, stated_length, plain_body}
use Rattle.model_h1.specs.Request as model
use Rattle.model_h1.specs.Request.{Header}
use Rattle.h1_decoder.specs.declared.framing.Framing.{Framing}
use Rattle.h1_decoder.specs.declared.framing.Lengths.{Lengths}
use Rattle.h1_decoder.specs.declared.framing.Lengths.TheVariants as lengths
use Rattle.h1_decoder.specs.declared.framing.Codings.{Codings}
use Rattle.h1_decoder.specs.declared.framing.Codings.TheVariants as codings
use Rattle.h1_decoder.specs.Framing.{stated_by, stated, coded_by, coded, TellsLines, kind_by, kind_of_lines}

-- the body, or none where the lines are refused
abbrev pub unless : Bool → model.BodyKind → Option model.BodyKind
unless refused body = if refused then None else Some body

-- an HTTP/1.0 POST without a length
abbrev pub lacks : ℕ → List ℕ → Bool → Bool → Bool
lacks minor method stated websocket = (minor == 0) && bytes_eq method (codes "POST") && not stated && not websocket

-- the table of the lines by the values alone
abbrev pub table : List (List ℕ) → List (List ℕ) → Bool → ℕ → List ℕ → Option model.BodyKind
table L C websocket minor method =
    unless (is_length_refused L || is_coding_refused minor C || (is_there L && is_there C) || lacks minor method (is_there L) websocket)
    (if is_there C then model.chunked_body else (if websocket then model.raw_body else plain_body method (unwrap_or (stated_length L) 0)))

-- neither a length nor a coding
no_lines : (websocket : Bool) (minor : ℕ) (method : List ℕ) → kind_by lengths.Absent codings.Absent websocket minor method ≡ table [] [] websocket minor method
no_lines true minor method =
    sym (ap (λ (b : Bool). unless b model.raw_body) (and-false ((minor == 0) && bytes_eq method (codes "POST") && true)))
no_lines false minor method =
    let needed = (minor == 0) && bytes_eq method (codes "POST") in
    sym (ap (λ (b : Bool). unless b (plain_body method 0)) (and-true (needed && true) ∙ and-true needed))

-- a coding alone
coding_alone : (chunked identity websocket : Bool) (minor : ℕ) (method : List ℕ)
    → kind_by lengths.Absent (coded_by chunked identity) websocket minor method
    ≡ unless (not ((minor == 1) && chunked) || false || lacks minor method false websocket) model.chunked_body
coding_alone false false websocket minor method =
    sym (ap (λ (b : Bool). unless (not b || false || lacks minor method false websocket) model.chunked_body) (and-false (minor == 1)))
coding_alone false true websocket minor method =
    sym (ap (λ (b : Bool). unless (not b || false || lacks minor method false websocket) model.chunked_body) (and-false (minor == 1)))
coding_alone true identity websocket minor method = by_version (minor == 1) refl
  where
    by_version : (t : Bool) → (minor == 1) ≡ t
        → kind_by lengths.Absent codings.Chunked websocket minor method
        ≡ unless (not ((minor == 1) && true) || false || lacks minor method false websocket) model.chunked_body
    by_version true is =
        subst (λ (m : ℕ). kind_by lengths.Absent codings.Chunked websocket m method
        ≡ unless (not ((m == 1) && true) || false || lacks m method false websocket) model.chunked_body)
        (sym (eqb-true minor 1 is)) refl
    by_version false is =
        ap (λ (b : Bool). if b && true then Some model.chunked_body else None) is
        ∙ sym (ap (λ (b : Bool). unless (not (b && true) || false || lacks minor method false websocket) model.chunked_body) is)

-- one length line, and what codings there are
one_length : (length : Option ℕ) (C : List (List ℕ)) (websocket : Bool) (minor : ℕ) (method : List ℕ)
    → kind_by (stated_by length) (coded C) websocket minor method
    ≡ unless (is_none length || is_coding_refused minor C || (true && is_there C) || lacks minor method true websocket)
    (if is_there C then model.chunked_body else (if websocket then model.raw_body else plain_body method (unwrap_or length 0)))
one_length None C websocket minor method = refl
one_length (Some n) [] websocket minor method = by_websocket websocket
  where
    by_websocket : (w : Bool) → kind_by (lengths.Length n) codings.Absent w minor method
        ≡ unless (lacks minor method true w) (if w then model.raw_body else plain_body method n)
    by_websocket true = sym (ap (λ (b : Bool). unless (b && false) model.raw_body) (and-false ((minor == 0) && bytes_eq method (codes "POST"))))
    by_websocket false = sym (ap (λ (b : Bool). unless (b && true) (plain_body method n)) (and-false ((minor == 0) && bytes_eq method (codes "POST"))))
one_length (Some n) (value ∷ []) websocket minor method = by_coding (says value (codes "chunked")) (says value (codes "identity"))
  where
    by_coding : (chunked identity : Bool) → kind_by (lengths.Length n) (coded_by chunked identity) websocket minor method
        ≡ unless (not ((minor == 1) && chunked) || true || lacks minor method true websocket) model.chunked_body
    by_coding chunked identity =
        none chunked identity ∙ sym (ap (λ (b : Bool). unless (b || lacks minor method true websocket) model.chunked_body) (or-true (not ((minor == 1) && chunked))))
      where
        none : (c i : Bool) → kind_by (lengths.Length n) (coded_by c i) websocket minor method ≡ None
        none false false = refl
        none false true = refl
        none true i = ap (λ (b : Bool). if b then Some model.chunked_body else None) (and-false (minor == 1))
one_length (Some n) (value ∷ second ∷ more) websocket minor method = refl

by_values : (L C : List (List ℕ)) (websocket : Bool) (minor : ℕ) (method : List ℕ)
    → kind_by (stated L) (coded C) websocket minor method ≡ table L C websocket minor method
by_values [] [] websocket minor method = no_lines websocket minor method
by_values [] (value ∷ []) websocket minor method = coding_alone (says value (codes "chunked")) (says value (codes "identity")) websocket minor method
by_values [] (value ∷ second ∷ more) websocket minor method = refl
by_values (value ∷ []) C websocket minor method = one_length (length_value (trim_ows value)) C websocket minor method
by_values (value ∷ second ∷ more) C websocket minor method = refl

-- what is kept of the lines says where the body ends, or that they frame none
pub kind_of_lines-is : (kept : Framing) (headers : List Header) (minor : ℕ) (method : List ℕ) → TellsLines kept headers
    → kind_of_lines kept minor method ≡ body_kind minor method headers
kind_of_lines-is kept headers minor method tells =
    let L = values_of (codes "content-length") headers in
    let C = values_of (codes "transfer-encoding") headers in
    ap (λ (l : Lengths). kind_by l kept.codings kept.websocket minor method) tells.length_lines
    ∙ ap (λ (k : Codings). kind_by (stated L) k kept.websocket minor method) tells.coding_lines
    ∙ ap (λ (w : Bool). kind_by (stated L) (coded C) w minor method) tells.upgrade_lines
    ∙ by_values L C (asks_websocket headers) minor method
