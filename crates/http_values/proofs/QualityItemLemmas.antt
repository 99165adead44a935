-- How the text of an item with a quality is cut.
use Rattle.std.proofs.Common.{◌≡◌, ℕ, ◌≤◌, ◌<◌, ◌⊎◌, inl, inr, List, [], ◌∷◌, ◌++◌, length, Option, Some, None, MatchOption, take, drop, refl, sym, ap, subst, arith, ◌∙◌, lit<}
use Rattle.std.proofs.Math.Seq.{get_or-append_seam}
use Rattle.std.proofs.lemmas.List.{length-append}
use Rattle.std.specs.Prelude.{IsAscii, IsErrOf, Err}
use Rattle.std.specs.Borrow.{Bor}
use Rattle.std.specs.Str.Pattern.{RFindsChar, SplitsAroundMatch}
use Rattle.std.proofs.lemmas.Str.Pattern.{NoCharPasses-char, drop_at_char}
use Rattle.std.proofs.Math.ListN.{take-append-drop}
use Rattle.std.specs.Str.{trim}
use Rattle.http_values.specs.Quality.{IsQualityText}
use Rattle.http_values.specs.QualityItem.{semicolon, HasNoSemicolon, IsLastCut, IsMarked, IsWhole, IsWeighed, IsUnweighed, IsQualityItemText}
use Rattle.http_values.proofs.QualityLemmas.{quality_unique}

-- a text with a semicolon has one
has_one : (front back : List ℕ) → HasNoSemicolon (front ++ semicolon ∷ back) → ⊥
has_one front back none = none (length front) (omega (arith, length-append front (semicolon ∷ back))) (get_or-append_seam front semicolon back 0)

pub cut_has_one : (text front back : List ℕ) → IsLastCut text front back → HasNoSemicolon text → ⊥
cut_has_one text front back cut none = let P : List ℕ → Type 0 = λ t. HasNoSemicolon t in has_one front back (subst P cut.spelled none)

-- a text has one last semicolon
same_cut : (f b g d : List ℕ) → f ++ semicolon ∷ b ≡ g ++ semicolon ∷ d → HasNoSemicolon b → HasNoSemicolon d → (f ≡ g) × (b ≡ d)
same_cut [] b [] d e _ _ = (refl, cc (e))
same_cut [] b (x ∷ g) d e none _ =
    let P : List ℕ → Type 0 = λ t. HasNoSemicolon t in let same : b ≡ g ++ semicolon ∷ d = cc (e) in absurd (has_one g d (subst P same none))
same_cut (x ∷ f) b [] d e _ none =
    let P : List ℕ → Type 0 = λ t. HasNoSemicolon t in let same : d ≡ f ++ semicolon ∷ b = cc (e) in absurd (has_one f b (subst P same none))
same_cut (x ∷ f) b (y ∷ g) d e none none' =
    let rest : f ++ semicolon ∷ b ≡ g ++ semicolon ∷ d = cc (e) in
    let first : x ≡ y = cc (e) in
    let h = same_cut f b g d rest none none' in (cc (first, h.0), h.1)

pub cut_unique : (text f b g d : List ℕ) → IsLastCut text f b → IsLastCut text g d → (f ≡ g) × (b ≡ d)
cut_unique text f b g d p q = same_cut f b g d (sym p.spelled ∙ q.spelled) p.last q.last

-- what follows `q=` or `Q=` is one text
pub marked_unique : (text v w : List ℕ) → IsMarked text v → IsMarked text w → v ≡ w
marked_unique text v w (inl p) (inl q) = cc (p, q)
marked_unique text v w (inr p) (inr q) = cc (p, q)
marked_unique text v w (inl p) (inr q) = cc (p, q)
marked_unique text v w (inr p) (inl q) = cc (p, q)

-- what is marked is longer than one byte
marked_long : (text v : List ℕ) → IsMarked text v → 2 ≤ length text
marked_long text v (inl p) = let P : List ℕ → Type 0 = λ t. 2 ≤ length t in subst P (sym p) (omega arith)
marked_long text v (inr p) = let P : List ℕ → Type 0 = λ t. 2 ≤ length t in subst P (sym p) (omega arith)

-- the three forms exclude one another, and each says one item and one quality
abbrev Form : List ℕ → List ℕ → ℕ → Type 0
Form text item n = (HasNoSemicolon text × IsWhole text item n) ⊎ (IsWeighed text item n ⊎ IsUnweighed text item n)

abbrev Same : List ℕ → List ℕ → ℕ → ℕ → Type 0
Same item item' n n' = (item ≡ item') × (n ≡ n')

whole_same : (text item item' : List ℕ) (n n' : ℕ) → IsWhole text item n → IsWhole text item' n' → Same item item' n n'
whole_same text item item' n n' a b = (a.0 ∙ sym b.0, a.1 ∙ sym b.1)

weighed_same : (text item item' : List ℕ) (n n' : ℕ) → IsWeighed text item n → IsWeighed text item' n' → Same item item' n n'
weighed_same text item item' n n' a b =
    let cut = cut_unique text a.front a.back b.front b.back a.cut b.cut in
    let P : List ℕ → Type 0 = λ t. IsMarked (trim t) a.weight in
    let weight : a.weight ≡ b.weight = marked_unique (trim b.back) a.weight b.weight (subst P cut.1 a.marked) b.marked in
    let Q : List ℕ → Type 0 = λ t. IsQualityText t n in
    (a.item_is ∙ (ap trim cut.0 ∙ sym b.item_is), quality_unique b.weight n n' (subst Q weight a.says) b.says)

apart : (text item item' : List ℕ) (n n' : ℕ) → IsWeighed text item n → IsUnweighed text item' n' → ⊥
apart text item item' n n' a b =
    let cut = cut_unique text a.front a.back b.front b.back a.cut b.cut in
    let P : List ℕ → Type 0 = λ t. IsMarked (trim t) a.weight in b.unmarked a.weight (subst P cut.1 a.marked)

forms_same : (text item item' : List ℕ) (n n' : ℕ) → Form text item n → Form text item' n' → Same item item' n n'
forms_same text item item' n n' (inl a) (inl b) = whole_same text item item' n n' a.1 b.1
forms_same text item item' n n' (inl a) (inr (inl b)) = absurd (cut_has_one text b.front b.back b.cut a.0)
forms_same text item item' n n' (inl a) (inr (inr b)) = absurd (cut_has_one text b.front b.back b.cut a.0)
forms_same text item item' n n' (inr (inl a)) (inl b) = absurd (cut_has_one text a.front a.back a.cut b.0)
forms_same text item item' n n' (inr (inr a)) (inl b) = absurd (cut_has_one text a.front a.back a.cut b.0)
forms_same text item item' n n' (inr (inl a)) (inr (inl b)) = weighed_same text item item' n n' a b
forms_same text item item' n n' (inr (inl a)) (inr (inr b)) = absurd (apart text item item' n n' a b)
forms_same text item item' n n' (inr (inr a)) (inr (inl b)) = absurd (apart text item' item n' n b a)
forms_same text item item' n n' (inr (inr a)) (inr (inr b)) = whole_same text item item' n n' a.whole b.whole

-- a text is that of one item and quality at most
pub item_unique : (text item item' : List ℕ) (n n' : ℕ) → IsQualityItemText text item n → IsQualityItemText text item' n' → Same item item' n n'
item_unique text item item' n n' a b = forms_same text item item' n n' a.form b.form

-- a text that is cut, with at most one byte after the cut, is that of no item
pub short_is_none : (text front back item : List ℕ) (n : ℕ) → IsLastCut text front back → length (trim back) < 2 → Form text item n → ⊥
short_is_none text front back item n cut short (inl a) = cut_has_one text front back cut a.0
short_is_none text front back item n cut short (inr (inl a)) =
    let same = cut_unique text front back a.front a.back cut a.cut in
    let long = marked_long (trim a.back) a.weight a.marked in
    let e : length (trim back) ≡ length (trim a.back) = ap (λ t. length (trim t)) same.1 in omega (arith, e, long, short)
short_is_none text front back item n cut short (inr (inr a)) =
    let same = cut_unique text front back a.front a.back cut a.cut in
    let e : length (trim back) ≡ length (trim a.back) = ap (λ t. length (trim t)) same.1 in omega (arith, e, a.long, short)

-- a text whose mark is followed by no quality is that of no item
pub unread_is_none : (text front back weight item : List ℕ) (n : ℕ) → IsLastCut text front back → IsMarked (trim back) weight
    → ((m : ℕ) → ¬ (IsQualityText weight m)) → Form text item n → ⊥
unread_is_none text front back weight item n cut marked none (inl a) = cut_has_one text front back cut a.0
unread_is_none text front back weight item n cut marked none (inr (inl a)) =
    let same = cut_unique text front back a.front a.back cut a.cut in
    let P : List ℕ → Type 0 = λ t. IsMarked (trim t) weight in
    let e : a.weight ≡ weight = marked_unique (trim a.back) a.weight weight a.marked (subst P same.1 marked) in
    let Q : List ℕ → Type 0 = λ t. IsQualityText t n in none n (subst Q e a.says)
unread_is_none text front back weight item n cut marked none (inr (inr a)) =
    let same = cut_unique text front back a.front a.back cut a.cut in
    let P : List ℕ → Type 0 = λ t. IsMarked (trim t) weight in a.unmarked weight (subst P same.1 marked)

-- what a search for the last semicolon cuts
pub last_cut_parts : (text : List ℕ) (r : Option (Bor (List ℕ) × Bor (List ℕ)))
    → MatchOption r (RFindsChar semicolon text None) (λ x. SplitsAroundMatch (RFindsChar semicolon) text x.0.now x.1.now)
    → MatchOption r (HasNoSemicolon text) (λ x. IsLastCut text x.0.now x.1.now)
last_cut_parts text None h = λ i. NoCharPasses-char semicolon text i h (lit< tt)
last_cut_parts text (Some x) h =
    let at = h.2.1 in
    let behind : drop h.0 text ≡ semicolon ∷ drop h.1 text = drop_at_char semicolon text h.0 h.1 at (lit< tt) in
    let spelled : text ≡ take h.0 text ++ semicolon ∷ drop h.1 text = sym (take-append-drop h.0 text) ∙ ap (λ t. take h.0 text ++ t) behind in
    let P : List ℕ → Type 0 = λ t. HasNoSemicolon t in
    record {
      spelled = spelled ∙ cc (h.3, h.4);
      last = subst P (sym h.4) (λ i. NoCharPasses-char semicolon (drop h.1 text) i h.2.0 (lit< tt));
    }

-- an item with no quality after its last semicolon
pub unweighed_item : (text front back : List ℕ) → IsAscii text → IsLastCut text front back → 2 ≤ length (trim back)
    → ((weight : List ℕ) → ¬ (IsMarked (trim back) weight)) → IsQualityItemText text text 1000
unweighed_item text front back ascii cut long none = record {
  ascii = ascii;
  form = inr (inr (record { front = front; back = back; cut = cut; long = long; unmarked = none; whole = (refl, refl) }));
}

-- an error of one result is the same error of another
pub same_error : (T U E : Type 0) (e f : E) → IsErrOf {T = T} (Err e) f → IsErrOf {T = U} (Err e) f
same_error T U E e f h = let same : e ≡ f = cc (h) in let P : E → Type 0 = λ x. IsErrOf {T = U} (Err e) x in subst P same refl
