-- Where a codec stands behind an answer.
use Rattle.std.proofs.Common.{◌≡◌, ◌⊎◌, inl, inr, ℕ, ◌<◌, List, [], ◌∷◌, ◌++◌, length, refl, subst, arith, append-nil}
use Rattle.std.specs.Prelude.{Option, Some, None}
use Rattle.http_types.specs.declared.error.ParseError.{ParseError}
use Rattle.http_types.specs.declared.error.ParseError.TheVariants.{NoMemory}
use Rattle.h1_payload.specs.Decoding.{Decoding}
use Rattle.h1_codec.specs.Heads.{Search, HasSeen}
use Rattle.h1_codec.specs.ServerAnswers.{StaysAfter}
use Rattle.h1_codec.specs.FramedMessages.{Closing, chunk_in_front, Standing, HasLooked}

-- a chunk of one byte at least leaves what follows the body
pub closes_on : (b : List ℕ) (closing : Closing) → 0 < length b → chunk_in_front b closing ≡ closing
closes_on [] closing some = absurd (omega (arith, some))
closes_on (x ∷ b) closing some = refl

-- after an error, where no body is open or memory ran out
pub stays_idle : (body : Option Decoding) (error : ParseError) (old new : Standing) → body ≡ None → StaysAfter body error old new → new ≡ old
stays_idle None error old new none x = x
stays_idle (Some d) error old new none x = absurd (cc none)

pub stays_lacking : (body : Option Decoding) (error : ParseError) (old new : Standing) → error ≡ NoMemory → StaysAfter body error old new → new ≡ old
stays_lacking None error old new is x = x
stays_lacking (Some d) error old new is x = subst (λ (y : ParseError). StaysAfter (Some d) y old new) is x

-- an error is that memory ran out, or it isn't
pub is_lacking : (error : ParseError) → (error ≡ NoMemory) ⊎ ¬ (error ≡ NoMemory)
is_lacking NoMemory = inl refl
is_lacking error = inr (λ is. cc is)

-- what was looked at behind an answer
pub seen_behind : (body : Option Decoding) (search : Search) (bytes : List ℕ) → body ≡ None → ((more : List ℕ) → HasLooked body search (bytes ++ more))
    → (b : List ℕ) → HasSeen search (bytes ++ b)
seen_behind None search bytes none looked = looked
seen_behind (Some d) search bytes none looked = absurd (cc none)

pub seen_inside : (body : Option Decoding) (d : Decoding) (search : Search) (bytes : List ℕ) → body ≡ Some d → ((more : List ℕ) → HasLooked body search (bytes ++ more))
    → (b : List ℕ) → HasSeen search b
seen_inside None d search bytes is looked = absurd (cc is)
seen_inside (Some x) d search bytes is looked = looked []

pub looked_idle : (body : Option Decoding) (search : Search) (bytes : List ℕ) → body ≡ None → ((b : List ℕ) → HasSeen search (bytes ++ b)) → HasLooked body search bytes
looked_idle None search bytes none seen = subst (HasSeen search) (append-nil bytes) (seen [])
looked_idle (Some d) search bytes none seen = absurd (cc none)

pub looked_inside : (body : Option Decoding) (d : Decoding) (search : Search) (bytes : List ℕ) → body ≡ Some d → ((b : List ℕ) → HasSeen search b) → HasLooked body search bytes
looked_inside None d search bytes is seen = absurd (cc is)
looked_inside (Some x) d search bytes is seen = seen
