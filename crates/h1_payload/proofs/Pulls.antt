-- A pull that needs no memory takes something that needs none.
use Rattle.std.proofs.Common.{◌≡◌, ℕ, Bool, true, false, List, [], ◌∷◌, ◌++◌, length, refl, ap, subst, inl, inr, arith, length-append}
use Rattle.std.proofs.lemmas.List.{nil_from_length}
use Rattle.model_h1.specs.Place.{Place}
use Rattle.model_h1.specs.TakeNext.{Next, chunk, waits, ended, breaks}
use Rattle.model_state.specs.Kept.{Rest, chunks_rest}
use Rattle.model_state.specs.Pull as pulls
use Rattle.model_state.specs.Pull.{gives, finishes, lacking, pull_fixed, pull_raw, EndsWith, IsPullOfChunks, IsPull}
use Rattle.h1_payload.specs.Readers.{TakesNone}
use Rattle.h1_payload.specs.Rests.{IsLight}

-- at the end there is no text
light_end : (old : Rest) (text behind : List ℕ) (p : pulls.Pulled) → EndsWith text behind p → IsLight old p.outcome p.rest → text ≡ []
light_end old [] behind p x light = refl
light_end old (b ∷ text) behind p x light = absurd (subst (λ (q : pulls.Pulled). IsLight old q.outcome q.rest) x.3 light)

-- text that isn't longer has nothing more
nothing_more : (xs ys : List ℕ) → xs ++ ys ≡ xs → ys ≡ []
nothing_more xs ys e = nil_from_length ys (omega (arith, length-append xs ys, ap length e))

pub light_takes_none : (is_ended : Bool) (place : Place) (section bytes : List ℕ) (next : Next) (noted : List ℕ) (p : pulls.Pulled)
    → IsPullOfChunks is_ended place section bytes next noted p → IsLight (chunks_rest place section) p.outcome p.rest
    → TakesNone is_ended section next noted
light_takes_none is_ended place section bytes (chunk given next behind) noted p x light =
    absurd (subst (λ (q : pulls.Pulled). IsLight (chunks_rest place section) q.outcome q.rest) x light)
light_takes_none true place section bytes (waits next) noted p x light = inl refl
light_takes_none false place section bytes (waits next) noted p x light =
    inr (nothing_more section noted (subst (λ (q : pulls.Pulled). IsLight (chunks_rest place section) q.outcome q.rest) x light))
light_takes_none is_ended place section bytes (ended behind) noted p x light = light_end (chunks_rest place section) (section ++ noted) behind p x light
light_takes_none is_ended place section bytes breaks noted p x light = tt
