-- A list with commas is its first word, and the words behind the comma.
use Rattle.std.proofs.Common.{◌≡◌, ◌⊎◌, ltb-true, ltb-false, ℕ, suc, ◌+◌, ◌<◌, Bool, true, false, not, cond, List, [], ◌∷◌, ◌++◌, length, map, take, drop, bytes_eq, refl, sym, ap, ◌∙◌, subst, inl, inr, arith, append_assoc, append-nil, Option, Some, None, MatchOption}
use Rattle.std.specs.Prelude.{nat_lt, ◌||◌}
use Rattle.std.specs.List.{position, position_or_len}
use Rattle.std.proofs.lemmas.List.Folds.{list_any-append}
use Rattle.http_header.specs.FieldValue.{FieldValue}
use Rattle.model_proxy.specs.HopNames.{between_commas, words_in, is_among}
use Rattle.proxy_heads.specs.Words.{is_comma, word_of, listed_words}

-- the list is cut at its first comma, or has none
abbrev IsCut : List ℕ → List ℕ → ℕ → Type 0
IsCut before bytes n =
    ((n < length bytes) × (between_commas before bytes ≡ (before ++ take n bytes) ∷ between_commas [] (drop (n + 1) bytes)))
    ⊎ ((n ≡ length bytes) × (between_commas before bytes ≡ (before ++ bytes) ∷ []))

-- a byte more in front
cut_more : (before bytes : List ℕ) (b n m : ℕ) → is_comma b ≡ false → n ≡ 1 + m → IsCut (before ++ b ∷ []) bytes m → IsCut before (b ∷ bytes) n
cut_more before bytes b n m other more (inl x) =
    let front : (before ++ b ∷ []) ++ take m bytes ≡ before ++ take n (b ∷ bytes) =
    append_assoc before (b ∷ []) (take m bytes) ∙ ap (λ k. before ++ take k (b ∷ bytes)) (let e : suc m ≡ n = omega arith in e) in
    let back : drop (m + 1) bytes ≡ drop (n + 1) (b ∷ bytes) = ap (λ k. drop k (b ∷ bytes)) (let e : suc (m + 1) ≡ n + 1 = omega arith in e) in
    let same : between_commas before (b ∷ bytes) ≡ between_commas (before ++ b ∷ []) bytes =
    ap (λ t. cond t (before ∷ between_commas [] bytes) (between_commas (before ++ b ∷ []) bytes)) other in
    inl (omega arith, same ∙ x.1 ∙ (λ i. front i ∷ between_commas [] (back i)))
cut_more before bytes b n m other more (inr x) =
    let same : between_commas before (b ∷ bytes) ≡ between_commas (before ++ b ∷ []) bytes =
    ap (λ t. cond t (before ∷ between_commas [] bytes) (between_commas (before ++ b ∷ []) bytes)) other in
    inr (omega arith, same ∙ x.1 ∙ ap (λ (l : List ℕ). l ∷ []) (append_assoc before (b ∷ []) bytes))

cut_at : (before bytes : List ℕ) → IsCut before bytes (position_or_len is_comma bytes)
cut_at before [] = inr (refl, ap (λ (l : List ℕ). l ∷ []) (sym (append-nil before)))
cut_at before (b ∷ bytes) = by_test (is_comma b) refl (cut_at (before ++ b ∷ []) bytes)
  where
    by_test : (t : Bool) → is_comma b ≡ t → IsCut (before ++ b ∷ []) bytes (position_or_len is_comma bytes)
        → IsCut before (b ∷ bytes) (position_or_len is_comma (b ∷ bytes))
    by_test true is others =
        let place : position_or_len is_comma (b ∷ bytes) ≡ 0 = ap (λ t. cond (not t) (1 + position_or_len is_comma bytes) 0) is in
        subst (IsCut before (b ∷ bytes)) (sym place)
        (inl (
          omega arith,
          ap (λ t. cond t (before ∷ between_commas [] bytes) (between_commas (before ++ b ∷ []) bytes)) is
              ∙ ap (λ (l : List ℕ). l ∷ between_commas [] bytes) (sym (append-nil before)),
        ))
    by_test false is others =
        cut_more before bytes b (position_or_len is_comma (b ∷ bytes)) (position_or_len is_comma bytes) is
        (ap (λ t. cond (not t) (1 + position_or_len is_comma bytes) 0) is) others

-- what the place of the first comma says of the words
abbrev pub IsFirstWord : List ℕ → Option ℕ → Type 0
IsFirstWord list place =
    MatchOption place (words_in list ≡ word_of list ∷ [])
    (λ at. (at < length list) × (words_in list ≡ word_of (take at list) ∷ words_in (drop (at + 1) list)))

first_by : (list : List ℕ) (n : ℕ) (t : Bool) → nat_lt n (length list) ≡ t → IsCut [] list n → IsFirstWord list (cond t (Some n) None)
first_by list n true is (inl x) = (x.0, ap (map word_of) x.1)
first_by list n true is (inr x) = absurd (omega (arith, ltb-true n (length list) is, x.0))
first_by list n false is (inl x) = absurd (omega (arith, ltb-false n (length list) is, x.0))
first_by list n false is (inr x) = ap (map word_of) x.1

pub first_word : (list : List ℕ) → IsFirstWord list (position is_comma list)
first_word list = first_by list (position_or_len is_comma list) (nat_lt (position_or_len is_comma list) (length list)) refl (cut_at [] list)

-- ---- a word among those of a list

-- the first of them is it
pub is_first : (word list first : List ℕ) (rest : List (List ℕ)) → words_in list ≡ word_of first ∷ rest → bytes_eq word (word_of first) ≡ true
    → is_among word (words_in list) ≡ true
is_first word list first rest words is = ap (is_among word) words ∙ ap (λ t. t || is_among word rest) is

-- or it is among the others
pub is_later : (word list first : List ℕ) (rest : List (List ℕ)) → words_in list ≡ word_of first ∷ rest → bytes_eq word (word_of first) ≡ false
    → is_among word rest ≡ is_among word (words_in list)
is_later word list first rest words other = sym (ap (is_among word) words ∙ ap (λ t. t || is_among word rest) other)

-- there is but one
pub is_only : (word list : List ℕ) → words_in list ≡ word_of list ∷ [] → bytes_eq word (word_of list) ≡ is_among word (words_in list)
is_only word list words = sym (ap (is_among word) words ∙ or_false (bytes_eq word (word_of list)))
  where
    or_false : (t : Bool) → (t || false) ≡ t
    or_false true = refl
    or_false false = refl

-- ---- a word among those of values

pub among_values : (word : List ℕ) (v : FieldValue) (vs : List FieldValue)
    → is_among word (listed_words (v ∷ vs)) ≡ (is_among word (words_in v.bytes) || is_among word (listed_words vs))
among_values word v vs = list_any-append (λ n. bytes_eq word n) (words_in v.bytes) (listed_words vs)
