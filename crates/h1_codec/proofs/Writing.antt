-- The end of a body, as an encoder writes or refuses it.
use Rattle.std.proofs.Common.{◌≡◌, ℕ, ◌<◌, ◌++◌, zero, suc, List, ◌↔◌, refl, sym, ap, ◌∙◌, subst, arith}
use Rattle.std.specs.Prelude.{None, Result, Ok, Err, IfErr, OnOk}
use Rattle.h1_encoder.specs.Encoding.{Encoding, missing_of, end_of, ended}
use Rattle.h1_encoder.specs.declared.error.EncodeError.{EncodeError}
use Rattle.h1_encoder.specs.declared.error.EncodeError.TheVariants.{Short, Version as no_version, NoMemory}
use Rattle.h1_codec.specs.ServerState.{Sent, Writes, Refuses, codec_encoding, with_encoding}
use Rattle.h1_codec.specs.declared.server_codec.Codec.{Codec}
use Rattle.h1_codec.specs.declared.framed_message.Message.TheVariants.{Chunk}

-- an end is refused where bytes are missing, and else only where memory ran out
pub end_refused : (old : Codec) (item : Sent) (result : Result Unit EncodeError) → item ≡ Chunk None
    → ((n : ℕ) → (result ≡ Err (Short n)) ↔ ((missing_of (codec_encoding old) ≡ n) × (0 < n))) → ¬ (result ≡ Err no_version)
    → IfErr result (λ e. ¬ (e ≡ NoMemory) → Refuses e old item)
end_refused old item (Ok x) is short version = tt
end_refused old item (Err (Short n)) is short version = λ known. subst (λ (i : Sent). Refuses (Short n) old i) (sym is) ((short n).0 refl)
end_refused old item (Err no_version) is short version = λ known. absurd (version refl)
end_refused old item (Err NoMemory) is short version = λ known. absurd (known refl)

-- an end that was written misses no byte
pub none_missing : (m : ℕ) (result : Result Unit EncodeError) → ((n : ℕ) → (result ≡ Err (Short n)) ↔ ((m ≡ n) × (0 < n))) → result ≡ Ok tt → m ≡ 0
none_missing zero result short is = refl
none_missing (suc m) result short is = let never = sym is ∙ (short (suc m)).1 (refl, omega arith) in absurd (cc never)

-- the end's text, and what it leaves
pub end_written : (old : Codec) (item : Sent) (result : Result Unit EncodeError) (dst after : List ℕ) (left : Encoding) → item ≡ Chunk None
    → ((n : ℕ) → (result ≡ Err (Short n)) ↔ ((missing_of (codec_encoding old) ≡ n) × (0 < n)))
    → OnOk result (after ≡ dst ++ end_of (codec_encoding old)) → OnOk result (left ≡ ended (codec_encoding old))
    → OnOk result ((text : List ℕ) × (after ≡ dst ++ text) × Writes old item text (with_encoding left old))
end_written old item (Ok tt) dst after left is short text ends = (
  end_of (codec_encoding old),
  text,
  subst (λ (i : Sent). Writes old i (end_of (codec_encoding old)) (with_encoding left old)) (sym is)
      (none_missing (missing_of (codec_encoding old)) (Ok tt) short refl, refl, ap (λ (e : Encoding). with_encoding e old) ends),
)
end_written old item (Err e) dst after left is short text ends = tt
