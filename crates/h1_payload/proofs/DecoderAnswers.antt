-- What a decoder of bodies answers where it gives no item.
use Rattle.std.proofs.Common.{◌≡◌, ℕ, List, [], refl, sym, ap, subst, append-nil}
use Rattle.std.specs.Prelude.{Option, Result, Ok, Err, IfErr, true, ⊤}
use Rattle.http_framing.specs.AnyPieces.{OnlySays}
use Rattle.h1_payload.specs.Decoding.{Decoding, Reads, Breaks, LeftAfter, IsRefused}
use Rattle.h1_payload.specs.declared.item.DecodeError.{DecodeError}
use Rattle.h1_payload.specs.declared.item.DecodeError.TheVariants.{Invalid, NoMemory}
use Rattle.h1_payload.specs.declared.item.PayloadItem.{PayloadItem}

module _ (old new : Decoding) (bytes rest : List ℕ) where
  -- what is refused says that it is broken
  pub refusal_says : (result : Result (Option PayloadItem) DecodeError) → (result ≡ Err Invalid → IsRefused old bytes × (rest ≡ bytes))
      → IfErr result (λ (e : DecodeError). ¬ (e ≡ NoMemory) → ⊤ → OnlySays Reads old bytes (Breaks e))
  refusal_says (Ok answer) refused = tt
  refusal_says (Err Invalid) refused = λ known seen said reads.
      (refl, (refused refl).0 [] said (subst (λ (l : List ℕ). Reads old l said) (sym (append-nil bytes)) reads))
  refusal_says (Err NoMemory) refused = λ known. absurd (known refl)

  -- where memory ran out nothing changed
  pub lacking_keeps : (result : Result (Option PayloadItem) DecodeError) → (result ≡ Err NoMemory → (new ≡ old) × (rest ≡ bytes))
      → IfErr result (λ (e : DecodeError). e ≡ NoMemory → (new ≡ old) × (rest ≡ bytes))
  lacking_keeps (Ok answer) kept = tt
  lacking_keeps (Err e) kept = λ is. kept (ap Err is)

  pub left_so : (result : Result (Option PayloadItem) DecodeError) → (result ≡ Err Invalid → IsRefused old bytes × (rest ≡ bytes))
      → (result ≡ Err Invalid → new.is_broken ≡ true) → (result ≡ Err NoMemory → (new ≡ old) × (rest ≡ bytes))
      → IfErr result (λ (e : DecodeError). LeftAfter e old bytes new rest)
  left_so (Ok answer) refused broken kept = tt
  left_so (Err Invalid) refused broken kept = (broken refl, (refused refl).1)
  left_so (Err NoMemory) refused broken kept = kept refl
