-- How the text of an extended value is cut.
use Rattle.std.proofs.Common.{◌≡◌, ◌≢◌, ℕ, ◌<◌, suc, List, [], ◌∷◌, ◌++◌, length, Option, Some, None, MatchOption, get_or, refl, sym, subst, arith, ◌∙◌}
use Rattle.std.proofs.Math.Seq.{get_or-append_seam}
use Rattle.std.proofs.lemmas.List.{length-append}
use Rattle.std.specs.Borrow.{Bor}
use Rattle.http_values.specs.ExtendedText.{HasNoQuote, IsFirstCut, IsCutInThree, IsTagOrNone, IsExtendedText}

-- what is cut has a quote
has_quote : (front back : List ℕ) → HasNoQuote (front ++ 39 ∷ back) → ⊥
has_quote front back none = none (length front) (omega (arith, length-append front (39 ∷ back))) (get_or-append_seam front 39 back 0)

pub cut_has_quote : (text front back : List ℕ) → IsFirstCut text front back → HasNoQuote text → ⊥
cut_has_quote text front back cut none = let P : List ℕ → Type 0 = λ t. HasNoQuote t in has_quote front back (subst P cut.spelled none)

pub no_quote_behind : (x : ℕ) (text : List ℕ) → HasNoQuote (x ∷ text) → HasNoQuote text
no_quote_behind x text none = λ i inside. none (suc i) (omega (arith, inside))

-- a text has one first quote
same_first : (f b g d : List ℕ) → f ++ 39 ∷ b ≡ g ++ 39 ∷ d → HasNoQuote f → HasNoQuote g → (f ≡ g) × (b ≡ d)
same_first [] b [] d e _ _ = (refl, cc (e))
same_first [] b (x ∷ g) d e _ none = let same : x ≡ 39 = cc (e) in absurd (none 0 (omega arith) same)
same_first (x ∷ f) b [] d e none _ = let same : x ≡ 39 = cc (e) in absurd (none 0 (omega arith) same)
same_first (x ∷ f) b (y ∷ g) d e none none' =
    let rest : f ++ 39 ∷ b ≡ g ++ 39 ∷ d = cc (e) in
    let first : x ≡ y = cc (e) in
    let h = same_first f b g d rest (no_quote_behind x f none) (no_quote_behind y g none') in (cc (first, h.0), h.1)

pub first_unique : (text f b g d : List ℕ) → IsFirstCut text f b → IsFirstCut text g d → (f ≡ g) × (b ≡ d)
first_unique text f b g d p q = same_first f b g d (sym p.spelled ∙ q.spelled) p.first q.first

-- a text is cut in three in one way
pub three_unique : (text c t v c' t' v' : List ℕ) → IsCutInThree text c t v → IsCutInThree text c' t' v' → (c ≡ c') × (t ≡ t') × (v ≡ v')
three_unique text c t v c' t' v' a b =
    let one = first_unique text c a.rest c' b.rest a.first b.first in
    let P : List ℕ → Type 0 = λ r. IsFirstCut r t v in
    let two = first_unique b.rest t v t' v' (subst P one.1 a.second) b.second in (one.0, two.0, two.1)

-- a text without a quote, and one with a single quote, are not cut in three
pub uncut : (text c t v : List ℕ) → HasNoQuote text → IsCutInThree text c t v → ⊥
uncut text c t v none cut = cut_has_quote text c cut.rest cut.first none

pub cut_once : (text front back c t v : List ℕ) → IsFirstCut text front back → HasNoQuote back → IsCutInThree text c t v → ⊥
cut_once text front back c t v first none cut =
    let one = first_unique text c cut.rest front back cut.first first in
    let P : List ℕ → Type 0 = λ r. IsFirstCut r t v in cut_has_quote back t v (subst P one.1 cut.second) none

-- what a search for the first quote cuts
pub first_cut_parts : (text : List ℕ) (r : Option (Bor (List ℕ) × Bor (List ℕ)))
    → MatchOption r ((i : ℕ) → i < length text → get_or text i 0 ≢ 39) (λ x. (text ≡ x.0.now ++ (39 ∷ x.1.now)) × ((i : ℕ) → i < length x.0.now → get_or x.0.now i 0 ≢ 39))
    → MatchOption r (HasNoQuote text) (λ x. IsFirstCut text x.0.now x.1.now)
first_cut_parts text None h = h
first_cut_parts text (Some x) h = record { spelled = h.0; first = h.1 }

-- a text with another part in place of its tag's is that of no extended value
pub no_tag_is_none : (text c t v : List ℕ) → IsCutInThree text c t v → ¬ (IsTagOrNone t) → IsExtendedText text → ⊥
no_tag_is_none text c t v cut none h =
    let same = three_unique text h.0 h.1 h.2 c t v h.3 cut in
    let P : List ℕ → Type 0 = λ x. IsTagOrNone x in none (subst P same.1 h.4)
