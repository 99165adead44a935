-- Pieces of a text, one behind the other.
use Rattle.std.proofs.Common.{◌≡◌, ℕ, List, [], ◌∷◌, ◌++◌, length, take, refl, sym, ap, ◌∙◌, append_assoc}
use Rattle.std.specs.Prelude.{Result, Ok, Err, OnErr}
use Rattle.h1_encoder.specs.WrittenLines.{Grows}

-- two pieces behind a text
pub two : (old a b one all : List ℕ) → one ≡ old ++ a → all ≡ one ++ b → all ≡ old ++ (a ++ b)
two old a b one all one_is all_is = all_is ∙ ap (λ (l : List ℕ). l ++ b) one_is ∙ append_assoc old a b

-- three
pub three : (old a b c one more all : List ℕ) → one ≡ old ++ a → more ≡ one ++ b → all ≡ more ++ c → all ≡ old ++ (a ++ (b ++ c))
three old a b c one more all one_is more_is all_is =
    two old a (b ++ c) one all one_is (two one b c more all more_is all_is)

-- four
pub four : (old a b c d one more most all : List ℕ) → one ≡ old ++ a → more ≡ one ++ b → most ≡ more ++ c → all ≡ most ++ d
    → all ≡ old ++ (a ++ (b ++ (c ++ d)))
four old a b c d one more most all one_is more_is most_is all_is =
    two old a (b ++ (c ++ d)) one all one_is (three one b c d more most all more_is most_is all_is)

-- a text grows by nothing, and by a piece
pub Grows-same : (old new : List ℕ) → new ≡ old → Grows old new
Grows-same old new same = ([], same ∙ sym (append-nil old))
  where
    append-nil : (xs : List ℕ) → xs ++ [] ≡ xs
    append-nil [] = refl
    append-nil (x ∷ xs) = ap (λ (l : List ℕ). x ∷ l) (append-nil xs)

pub Grows-more : (old new newer more : List ℕ) → Grows old new → newer ≡ new ++ more → Grows old newer
Grows-more old new newer more (before, is) next =
    (before ++ more, next ∙ ap (λ (l : List ℕ). l ++ more) is ∙ append_assoc old before more)

pub Grows-on : (old new newer : List ℕ) → Grows old new → Grows new newer → Grows old newer
Grows-on old new newer first (more, is) = Grows-more old new newer more first is

-- what it grew by is cut off again
pub Grows-cut : (old new : List ℕ) → Grows old new → take (length old) new ≡ old
Grows-cut old new (more, is) = ap (λ (l : List ℕ). take (length old) l) is ∙ cut old
  where
    cut : (xs : List ℕ) → take (length xs) (xs ++ more) ≡ xs
    cut [] = refl
    cut (x ∷ xs) = ap (λ (l : List ℕ). x ∷ l) (cut xs)

-- a fact that holds anyway
pub on_err : {T E P : Type 0} (r : Result T E) → P → OnErr r P
on_err (Ok x) holds = tt
on_err (Err e) holds = holds

-- a text that ends in a byte isn't empty
pub not_empty : (xs : List ℕ) (y : ℕ) (ys : List ℕ) → xs ++ y ∷ ys ≡ [] → ⊥
not_empty [] y ys is = absurd (cc is)
not_empty (x ∷ xs) y ys is = absurd (cc is)
