-- Where the next item takes no memory, memory doesn't run out.
use Rattle.std.proofs.Common.{◌≡◌, ◌↔◌, ℕ, List, refl, sym, ◌∙◌, subst, inl, inr}
use Rattle.std.specs.Prelude.{Option, Some, None, Result, Ok, Err}
use Rattle.http_types.specs.declared.error.ParseError.{ParseError}
use Rattle.http_types.specs.declared.error.ParseError.TheVariants as errors
use Rattle.http_map.specs.HeaderMap.{Entries}
use Rattle.h1_payload.specs.Decoding.{Decoding}
use Rattle.h1_payload.specs.declared.item.DecodeError.{DecodeError}
use Rattle.h1_payload.specs.declared.item.DecodeError.TheVariants.{Invalid, NoMemory}
use Rattle.h1_codec.specs.Heads.{Search, HasSeen, IsWaiting, IsTooLong}
use Rattle.h1_codec.specs.ServerAnswers.{IsNoted, as_message}
use Rattle.h1_codec.specs.Light.{IsLightHead}
use Rattle.h1_codec.specs.declared.framed_message.Message.{Message}
use Rattle.h1_codec.specs.declared.server_piece.Piece.{Piece}
use Rattle.h1_codec.specs.declared.server_piece.Piece.TheVariants.{Bytes, End}

-- an error that is handed on
pub error_on : {A B E : Type 0} (result : Result A E) (a b : E) → result ≡ Err a → ◌≡◌ {A = Result B E} (Err a) (Err b) → result ≡ Err b
error_on {E = E} result a b same is =
    let error : a ≡ b = cc in
    subst (λ (x : E). result ≡ Err x) error same

-- a head that isn't whole yet, or too long
pub head_memory : {A : Type 0} (search : Search) (bytes : List ℕ) (result : Result (Option A) ParseError)
    → (HasSeen search bytes → ((result ≡ Ok None) ↔ IsWaiting search.limit bytes))
    → (HasSeen search bytes → IsTooLong search.limit bytes → result ≡ Err errors.TooLarge) → IsLightHead search bytes → result ≡ Err errors.NoMemory → ⊥
head_memory {A} search bytes result none long (seen, inl waits) is =
    let no : ◌≡◌ {A = Result (Option A) ParseError} (Ok None) (Err errors.NoMemory) = sym ((none seen).1 waits) ∙ is in cc no
head_memory {A} search bytes result none long (seen, inr far) is =
    let no : ◌≡◌ {A = Result (Option A) ParseError} (Err errors.TooLarge) (Err errors.NoMemory) = sym (long seen far) ∙ is in cc no

-- a head as an item
pub message_memory : {I : Type 0} (head : Result (Option I) ParseError) → as_message head ≡ Err errors.NoMemory → head ≡ Err errors.NoMemory
message_memory (Ok (Some item)) is = absurd (cc is)
message_memory (Ok None) is = absurd (cc is)
message_memory (Err e) is = cc is

-- a piece as an item
pub noted_memory : {I : Type 0} (piece : Result (Option Piece) DecodeError) (body : Option Decoding) (before : Option Entries)
    (result : Result (Option (Message I)) ParseError) (after : Option Decoding) (now : Option Entries) → IsNoted piece body before result after now
    → result ≡ Err errors.NoMemory → piece ≡ Err NoMemory
noted_memory (Ok (Some (Bytes b))) body before result after now x is = let no = sym x.0 ∙ is in absurd (cc no)
noted_memory (Ok (Some (End trailers))) body before result after now x is = let no = sym x.0 ∙ is in absurd (cc no)
noted_memory (Ok None) body before result after now x is = let no = sym x.0 ∙ is in absurd (cc no)
noted_memory (Err Invalid) body before result after now x is = let no = sym x.0 ∙ is in absurd (cc no)
noted_memory (Err NoMemory) body before result after now x is = refl
