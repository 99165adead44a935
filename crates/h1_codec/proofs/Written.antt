-- The end of a request's body, as an encoder writes or refuses it.
use Rattle.std.proofs.Common.{◌≡◌, ℕ, ◌<◌, ◌++◌, List, ◌↔◌, refl, sym, ap, subst}
use Rattle.std.specs.Prelude.{None, Result, Ok, Err, IfErr, OnOk}
use Rattle.h1_encoder.specs.Encoding.{Encoding, missing_of, end_of, ended}
use Rattle.h1_encoder.specs.declared.error.EncodeError.{EncodeError}
use Rattle.h1_encoder.specs.declared.error.EncodeError.TheVariants.{Short, Version as no_version, NoMemory}
use Rattle.h1_codec.proofs.Writing.{none_missing}
use Rattle.h1_codec.specs.declared.framed_message.Message.TheVariants.{Chunk}
use Rattle.h1_codec.specs.ClientState.{client_encoding}
use Rattle.h1_codec.specs.Writing.{Sent, HasWritten, Refuses, with_encoding}
use Rattle.h1_codec.specs.declared.client_state.Client.{Client}

-- an end is refused where bytes are missing, and else only where memory ran out
pub end_refused : (old : Client) (item : Sent) (result : Result Unit EncodeError) → item ≡ Chunk None
    → ((n : ℕ) → (result ≡ Err (Short n)) ↔ ((missing_of (client_encoding old) ≡ n) × (0 < n))) → ¬ (result ≡ Err no_version)
    → IfErr result (λ e. ¬ (e ≡ NoMemory) → Refuses e old item)
end_refused old item (Ok x) is short version = tt
end_refused old item (Err (Short n)) is short version = λ known. subst (λ (i : Sent). Refuses (Short n) old i) (sym is) ((short n).0 refl)
end_refused old item (Err no_version) is short version = λ known. absurd (version refl)
end_refused old item (Err NoMemory) is short version = λ known. absurd (known refl)

-- the end's text, and what it leaves
pub end_written : (old : Client) (item : Sent) (result : Result Unit EncodeError) (dst after : List ℕ) (left : Encoding) → item ≡ Chunk None
    → ((n : ℕ) → (result ≡ Err (Short n)) ↔ ((missing_of (client_encoding old) ≡ n) × (0 < n)))
    → OnOk result (after ≡ dst ++ end_of (client_encoding old)) → OnOk result (left ≡ ended (client_encoding old))
    → OnOk result ((text : List ℕ) × (after ≡ dst ++ text) × HasWritten old item text (with_encoding left old))
end_written old item (Ok tt) dst after left is short text ends = (
  end_of (client_encoding old),
  text,
  subst (λ (i : Sent). HasWritten old i (end_of (client_encoding old)) (with_encoding left old)) (sym is)
      (none_missing (missing_of (client_encoding old)) (Ok tt) short refl, refl, ap (λ (e : Encoding). with_encoding e old) ends),
)
end_written old item (Err e) dst after left is short text ends = tt
