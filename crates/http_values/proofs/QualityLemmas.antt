-- What the text of a quality is, by its form.
use Rattle.std.proofs.Common.{◌≡◌, ℕ, ◌+◌, ◌*◌, ◌≤◌, ◌⊎◌, inl, inr, List, [], ◌∷◌, length, IsTrue, Option, Some, None, MatchOption, get_or, drop, subst, refl, arith, ◌<◌}
use Rattle.std.specs.Char.{is_ascii_digit}
use Rattle.std.specs.List.{list_all}
use Rattle.http_values.specs.Quality.{IsQualityText, ArePlaces, digit, places_text, digits_of, places_thousandths}

-- a digit alone
pub record IsWhole (text : List ℕ) (n : ℕ) : Type 0 where
  pub whole : ℕ
  pub numeral : IsTrue (is_ascii_digit whole)
  pub spelled : text ≡ whole ∷ []
  pub says : digit whole * 1000 ≡ n

-- a digit, a point, and at most three digits
pub record IsPointed (text : List ℕ) (n : ℕ) : Type 0 where
  pub whole : ℕ
  pub places : List ℕ
  pub numeral : IsTrue (is_ascii_digit whole)
  pub numerals : ArePlaces places
  pub spelled : text ≡ whole ∷ 46 ∷ places
  pub says : digit whole * 1000 + places_thousandths places ≡ n

forms_by_places : (text : List ℕ) (n whole : ℕ) (places : Option (List ℕ)) → IsTrue (is_ascii_digit whole)
    → IsTrue (list_all is_ascii_digit (digits_of places)) → length (digits_of places) ≤ 3
    → text ≡ whole ∷ places_text places → digit whole * 1000 + places_thousandths (digits_of places) ≡ n
    → IsWhole text n ⊎ IsPointed text n
forms_by_places text n whole None d ds short e says =
    inl (record { whole = whole; numeral = d; spelled = e; says = omega (arith, says) })
forms_by_places text n whole (Some places) d ds short e says =
    inr (record { whole = whole; places = places; numeral = d; numerals = (ds, short); spelled = e; says = says })

-- the text of a quality is a digit alone or has a point after it
pub forms : (text : List ℕ) (n : ℕ) → IsQualityText text n → IsWhole text n ⊎ IsPointed text n
forms text n h = forms_by_places text n h.weight.whole h.weight.places h.well_formed.whole h.well_formed.places h.well_formed.short h.spelled h.says

-- a digit alone is the text of what it says
pub whole_is_quality : (d : ℕ) → IsTrue (is_ascii_digit d) → digit d * 1000 ≤ 1000 → IsQualityText (d ∷ []) (digit d * 1000)
whole_is_quality d numeral most = record {
  weight = record { whole = d; places = None };
  well_formed = record { whole = numeral; places = refl; short = omega arith };
  spelled = refl;
  says = omega arith;
  most = most;
}

-- a digit, a point and at most three digits are the text of what they say
pub pointed_is_quality : (d : ℕ) (ds : List ℕ) → IsTrue (is_ascii_digit d) → ArePlaces ds → digit d * 1000 + places_thousandths ds ≤ 1000
    → IsQualityText (d ∷ 46 ∷ ds) (digit d * 1000 + places_thousandths ds)
pointed_is_quality d ds numeral numerals most = record {
  weight = record { whole = d; places = Some ds };
  well_formed = record { whole = numeral; places = numerals.0; short = numerals.1 };
  spelled = refl;
  says = refl;
  most = most;
}

same_whole : (text : List ℕ) (m n : ℕ) → IsWhole text m → IsWhole text n → m ≡ n
same_whole text m n a b = let e : a.whole ≡ b.whole = cc (a.spelled, b.spelled) in cc (a.says, b.says)

same_pointed : (text : List ℕ) (m n : ℕ) → IsPointed text m → IsPointed text n → m ≡ n
same_pointed text m n a b =
    let e : a.whole ≡ b.whole = cc (a.spelled, b.spelled) in
    let f : a.places ≡ b.places = cc (a.spelled, b.spelled) in cc (a.says, b.says)

not_both : (text : List ℕ) (m n : ℕ) → IsWhole text m → IsPointed text n → ⊥
not_both text m n a b = cc (a.spelled, b.spelled)

same_forms : (text : List ℕ) (m n : ℕ) → IsWhole text m ⊎ IsPointed text m → IsWhole text n ⊎ IsPointed text n → m ≡ n
same_forms text m n (inl a) (inl b) = same_whole text m n a b
same_forms text m n (inr a) (inr b) = same_pointed text m n a b
same_forms text m n (inl a) (inr b) = absurd (not_both text m n a b)
same_forms text m n (inr a) (inl b) = absurd (not_both text n m b a)

-- a text is that of one quality at most
pub quality_unique : (text : List ℕ) (m n : ℕ) → IsQualityText text m → IsQualityText text n → m ≡ n
quality_unique text m n a b = same_forms text m n (forms text m a) (forms text n b)

whole_too_large : (d n : ℕ) → 1000 < digit d * 1000 → IsWhole (d ∷ []) n ⊎ IsPointed (d ∷ []) n → n ≤ 1000 → ⊥
whole_too_large d n above (inl a) most =
    let e : a.whole ≡ d = cc (a.spelled) in let f : digit d * 1000 ≡ n = rw e at a.says in omega (arith, f, above, most)
whole_too_large d n above (inr a) most = cc (a.spelled)

-- what a digit alone is read as
pub whole_answer : (text : List ℕ) (v : ℕ) (r : Option ℕ) → 1 ≤ length text → length text < 2
    → IsTrue (is_ascii_digit (get_or text 0 0)) → v ≡ digit (get_or text 0 0)
    → MatchOption r (1000 < v * 1000) (λ q. (q ≡ v * 1000) × (v * 1000 ≤ 1000))
    → MatchOption r ((n : ℕ) → ¬ (IsQualityText text n)) (λ n. IsQualityText text n)
whole_answer [] v r low high _ _ _ = absurd (omega (arith, low))
whole_answer (d ∷ e ∷ more) v r low high _ _ _ = absurd (omega (arith, high))
whole_answer (d ∷ []) v None low high numeral is above =
    λ n h. whole_too_large d n (omega (arith, is, above)) (forms (d ∷ []) n h) h.most
whole_answer (d ∷ []) v (Some q) low high numeral is says =
    let e : digit d * 1000 ≡ q = omega (arith, is, says.0) in
    let P : ℕ → Type 0 = λ n. IsQualityText (d ∷ []) n in
    subst P e (whole_is_quality d numeral (omega (arith, is, says.1)))

pointed_too_large : (d n : ℕ) (ds : List ℕ) → 1000 < digit d * 1000 + places_thousandths ds
    → IsWhole (d ∷ 46 ∷ ds) n ⊎ IsPointed (d ∷ 46 ∷ ds) n → n ≤ 1000 → ⊥
pointed_too_large d n ds above (inl a) most = cc (a.spelled)
pointed_too_large d n ds above (inr a) most =
    let e : a.whole ≡ d = cc (a.spelled) in
    let f : a.places ≡ ds = cc (a.spelled) in
    let g : digit d * 1000 + places_thousandths ds ≡ n = rw (e, f) at a.says in omega (arith, g, above, most)

pointed_answer_of : (d : ℕ) (ds : List ℕ) (v w : ℕ) (r : Option ℕ) → IsTrue (is_ascii_digit d) → v ≡ digit d
    → ArePlaces ds → w ≡ places_thousandths ds
    → MatchOption r (1000 < v * 1000 + w) (λ q. (q ≡ v * 1000 + w) × (v * 1000 + w ≤ 1000))
    → MatchOption r ((n : ℕ) → ¬ (IsQualityText (d ∷ 46 ∷ ds) n)) (λ n. IsQualityText (d ∷ 46 ∷ ds) n)
pointed_answer_of d ds v w None numeral is numerals are above =
    λ n h. pointed_too_large d n ds (omega (arith, is, are, above)) (forms (d ∷ 46 ∷ ds) n h) h.most
pointed_answer_of d ds v w (Some q) numeral is numerals are says =
    let e : digit d * 1000 + places_thousandths ds ≡ q = omega (arith, is, are, says.0) in
    let P : ℕ → Type 0 = λ n. IsQualityText (d ∷ 46 ∷ ds) n in
    subst P e (pointed_is_quality d ds numeral numerals (omega (arith, is, are, says.1)))

-- what a digit, a point and at most three digits are read as
pub pointed_answer : (text ds : List ℕ) (v w : ℕ) (r : Option ℕ) → 2 ≤ length text → get_or text 1 0 ≡ 46 → ds ≡ drop 2 text
    → IsTrue (is_ascii_digit (get_or text 0 0)) → v ≡ digit (get_or text 0 0) → ArePlaces ds → w ≡ places_thousandths ds
    → MatchOption r (1000 < v * 1000 + w) (λ q. (q ≡ v * 1000 + w) × (v * 1000 + w ≤ 1000))
    → MatchOption r ((n : ℕ) → ¬ (IsQualityText text n)) (λ n. IsQualityText text n)
pointed_answer [] ds v w r low _ _ _ _ _ _ _ = absurd (omega (arith, low))
pointed_answer (d ∷ []) ds v w r low _ _ _ _ _ _ _ = absurd (omega (arith, low))
pointed_answer (d ∷ e ∷ more) ds v w r low point rest numeral is numerals are says =
    let f : d ∷ 46 ∷ ds ≡ d ∷ e ∷ more = cc (point, rest) in
    let P : List ℕ → Type 0 = λ t. MatchOption r ((n : ℕ) → ¬ (IsQualityText t n)) (λ n. IsQualityText t n) in
    subst P f (pointed_answer_of d ds v w r numeral is numerals are says)
