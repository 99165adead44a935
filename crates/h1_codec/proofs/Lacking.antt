-- Out of memory is told as such.
use Rattle.std.proofs.Common.{◌≡◌, ℕ, List, ap, subst}
use Rattle.std.specs.Prelude.{Option, Result, Ok, Err}
use Rattle.http_types.specs.declared.error.ParseError.{ParseError}
use Rattle.http_types.specs.declared.error.ParseError.TheVariants.{NoMemory}
use Rattle.h1_codec.specs.ClientPieces.{as_message, as_answered}
use Rattle.h1_codec.specs.declared.client_error.ClientError.{ClientError}
use Rattle.h1_codec.specs.declared.client_error.ClientError.TheVariants.{Parse}

-- an error that is handed on as a codec's own
pub parse_error : {A B : Type 0} (result : Result A ParseError) (a b : ParseError) → result ≡ Err a
    → ◌≡◌ {A = Result B ClientError} (Err (Parse a)) (Err (Parse b)) → result ≡ Err b
parse_error result a b same is =
    let error : a ≡ b = cc in
    subst (λ (x : ParseError). result ≡ Err x) error same

-- a piece that there was no memory for
pub lacks_piece : (piece : Result (Option (Option (List ℕ))) ParseError) → as_answered piece ≡ Err (Parse NoMemory) → as_message piece ≡ Err NoMemory
lacks_piece (Ok answer) is = absurd (cc is)
lacks_piece (Err e) is = let error : e ≡ NoMemory = cc in ap Err error
