-- A body is parsed in one way.
use Rattle.std.proofs.Common.{◌≡◌, ℕ, Bool, false, List, drop, Option, Some, None, sym, ◌∙◌}
use Rattle.model_h1.specs.Request.{BodyKind, no_body, fixed_body, chunked_body, raw_body, Reading, head_is, faulty}
use Rattle.model_h1.specs.Parse.{Input, connection_reader, Body, content, frames, shifted, chunked_stop, IsBodyOf, IsBodyAfter}
use Rattle.model_h1.proofs.Laws.{chunked_unique}
use Rattle.model_h1.proofs.FrameLemmas.{frames_unique}

-- the input with these parts
abbrev pub input : List ℕ → Option ℕ → Bool → ℕ → Input
input bytes upgraded ended size = record { bytes = bytes; upgraded = upgraded; ended = ended; hold_size = size }

-- of one kind at one place there is one body
body_of_unique : (bytes : List ℕ) (upgraded : Option ℕ) (ended : Bool) (size : ℕ) (kind : BodyKind) (place : ℕ) (a b : Body)
    → IsBodyOf (input bytes upgraded ended size) kind place a → IsBodyOf (input bytes upgraded ended size) kind place b → a ≡ b
body_of_unique bytes upgraded ended size no_body place a b x y = x ∙ sym y
body_of_unique bytes upgraded ended size (fixed_body n) place a b x y = x ∙ sym y
body_of_unique bytes upgraded ended size chunked_body place a b x y =
    let same = chunked_unique (drop place bytes) x.0 y.0 x.1 y.1 x.2 y.2 in
    x.3 ∙ (λ j. content (shifted place (same.1 j)) (chunked_stop (input bytes upgraded ended size) place (same.0 j))) ∙ sym y.3
body_of_unique bytes None ended size raw_body place a b x y = x ∙ sym y
body_of_unique bytes (Some limit) ended size raw_body place a b x y =
    let same = frames_unique (connection_reader limit) false place bytes x.0 y.0 x.1 y.1 x.2 y.2 in
    x.3 ∙ (λ j. frames (same.0 j) (same.1 j)) ∙ sym y.3

-- behind a reading at one place there is one body
pub body_unique : (i : Input) (r : Reading) (place : ℕ) (a b : Body) → IsBodyAfter i r place a → IsBodyAfter i r place b → a ≡ b
body_unique i (faulty fault) place a b x y = x ∙ sym y
body_unique i (head_is h) place a b x y = body_of_unique i.bytes i.upgraded i.ended i.hold_size h.body place a b x y
