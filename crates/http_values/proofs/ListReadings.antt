-- A list with commas is read in one way.
use Rattle.std.proofs.Common.{ℕ, inl, inr, List, [], ◌∷◌, ◌++◌, Option, Some, refl, sym, subst}
use Rattle.std.specs.Borrow.{Bor}
use Rattle.std.specs.Iterator.{Yields}
use Rattle.http_header.specs.FieldValue.{FieldValue, IsVisibleAscii}
use Rattle.std.specs.Str.{trim}
use Rattle.http_values.specs.CommaList.{AreRead, AreTexts, AreOfSameTexts}

module _ {T : Type 0} (is_text : List ℕ → Type 0) (reads : List ℕ → T → Type 0) (readable : (text : List ℕ) (item : T) → reads text item → is_text text) where
  -- two readings of the same parts are of the same texts
  pub AreRead-unique : (parts : List (List ℕ)) (xs ys : List T) → AreRead is_text reads parts xs → AreRead is_text reads parts ys → AreOfSameTexts reads xs ys
  AreRead-unique [] xs ys h k =
      let P : List T → Type 0 = λ x. AreOfSameTexts reads x ys in
      let Q : List T → Type 0 = λ y. AreOfSameTexts reads [] y in subst P (sym h) (subst Q (sym k) tt)
  AreRead-unique (part ∷ parts) xs ys (inl h) (inl k) = AreRead-unique parts xs ys h.1 k.1
  AreRead-unique (part ∷ parts) xs ys (inl h) (inr k) = absurd (h.0 k.2 (readable (trim part) k.0 k.3))
  AreRead-unique (part ∷ parts) xs ys (inr h) (inl k) = absurd (k.0 h.2 (readable (trim part) h.0 h.3))
  AreRead-unique (part ∷ parts) xs ys (inr h) (inr k) =
      let P : List T → Type 0 = λ x. AreOfSameTexts reads x ys in
      let Q : List T → Type 0 = λ y. AreOfSameTexts reads (h.0 ∷ h.1) y in
      subst P (sym h.4) (subst Q (sym k.4) ((trim part, h.3, k.3), AreRead-unique parts h.1 k.1 h.5 k.5))

-- calls that gave items, and one call more
pub yields_push : {S A : Type 0} (steps : S → Option A → S → Type 0) (xs : List A) (x : A) (s t u : S) → Yields steps s xs t → steps t (Some x) u
    → Yields steps s (xs ++ x ∷ []) u
yields_push {S} {A} steps [] x s t u a b = let P : S → Type 0 = λ k. steps k (Some x) u in (u, subst P (sym a) b, refl)
yields_push steps (y ∷ xs) x s t u a b = (a.0, a.1, yields_push steps xs x a.0 t u a.2 b)

-- of texts the last is one
pub last_text : (values : List (Bor FieldValue)) (value : Bor FieldValue) → AreTexts (values ++ value ∷ []) → IsVisibleAscii value.now.bytes
last_text [] value h = h.0
last_text (v ∷ values) value h = last_text values value h.1
