-- Whether bytes are UTF-8, and whether a message is text.
use Rattle.std.proofs.Common.{◌≡◌, false, List, [], ◌∷◌, ℕ, Some, refl, ap, ◌∙◌, inl, inr}
use Rattle.std.specs.Prelude.{slice_get}
use Rattle.std.proofs.lemmas.Bool.{cases_Bool}
use Rattle.std.specs.Str.{IsUtf8, is_utf8}
use Rattle.std.proofs.lemmas.Str.{IsUtf8-from_is_utf8}
use Rattle.model_h1.specs.Frame.{Frame}
use Rattle.model_h1.specs.Frame as frames
use Rattle.model_rooms.specs.Member.{is_text}

pub not_utf8 : (bytes : List ℕ) → ¬ (IsUtf8 bytes) → is_utf8 bytes ≡ false
not_utf8 bytes wrong = elim (cases_Bool (is_utf8 bytes)) [
  | inl passes ↦ absurd (wrong (IsUtf8-from_is_utf8 bytes passes))
  | inr fails ↦ fails
]

-- the first frame says whether a message is text
first_says : (x : Frame) (xs : List Frame) → is_text (x ∷ xs) ≡ is_text (x ∷ [])
first_says (frames.text bytes) xs = refl
first_says (frames.binary bytes) xs = refl
first_says (frames.first_text bytes) xs = refl
first_says (frames.first_binary bytes) xs = refl
first_says (frames.continuation bytes) xs = refl
first_says (frames.last bytes) xs = refl
first_says (frames.ping bytes) xs = refl
first_says (frames.pong bytes) xs = refl
first_says (frames.close reason) xs = refl

pub text_by_first : (lines : List Frame) (f : Frame) → Some f ≡ slice_get lines 0 → is_text lines ≡ is_text (f ∷ [])
text_by_first [] f e = absurd (cc)
text_by_first (x ∷ xs) f e = let same : x ≡ f = cc in first_says x xs ∙ ap (λ (v : Frame). is_text (v ∷ [])) same
