-- A text is that of a language tag exactly where its subtags lead from the start to an end.
use Rattle.std.proofs.Common.{◌≡◌, ℕ, inl, inr, Bool, true, false, cond, ◌&&◌, ◌||◌, List, [], ◌∷◌, length, Option, Some, None, refl, sym, ap, subst, ◌∙◌, arith}
use Rattle.std.specs.Prelude.{◌==◌, All, nat_lt, slice_index}
use Rattle.std.specs.List.{list_all, join_with_byte, AllByRecursion}
use Rattle.std.specs.Char.{is_ascii_alphabetic, is_ascii_digit, is_ascii_alphanumeric}
use Rattle.std.proofs.lemmas.Bool.{and_parts}
use Rattle.std.proofs.lemmas.Bool.Decides.{nat_tests}
use Rattle.std.proofs.lemmas.List.Elements.{All-nil, All-cons}
use Rattle.std.proofs.lemmas.List.Splits.{slice_split_none, slice_split_at, join_with_byte-slice_split}
use Rattle.http_values.specs.declared.shared.language_tag.Place.{Place}
use Rattle.http_values.specs.declared.shared.language_tag.Place.TheVariants.{Start, Language, Script, Region, Variant, Singleton, Extension, PrivateStart, Private}
use Rattle.http_values.specs.LanguageTag.{is_letters, is_letters_or_digits, is_digits, is_region, is_variant, is_x, is_singleton, tree_subtags, IsLanguageTag}
use Rattle.http_values.specs.LanguageTagPlaces.{after_variant, after_region, after_script, after_language, after_start, next_place}
use Rattle.http_values.proofs.TagSteps.{subtags, Leads}
use Rattle.http_values.proofs.TagTests.{or_cases, passes}
use Rattle.http_values.proofs.TagTrees.{dead_end, chosen, tree_of}
use Rattle.http_values.proofs.TagPaths.{tree_leads}

-- no byte is a hyphen
abbrev Plain : List ℕ → Type 0
Plain s = All (λ b. (b == 45) ≡ false) s

plain_by : (test : ℕ → Bool) → ((b : ℕ) → test b ≡ true → (b == 45) ≡ false) → (s : List ℕ) → list_all test s ≡ true → Plain s
plain_by test none [] h = All-nil (λ b. (b == 45) ≡ false)
plain_by test none (b ∷ s) h =
    let both = and_parts (test b) (list_all test s) h in
    All-cons (λ b. (b == 45) ≡ false) b s (none b both.0) (plain_by test none s both.1)

letter_is_none : (b : ℕ) → is_ascii_alphabetic b ≡ true → (b == 45) ≡ false
letter_is_none b h = grind (arith, nat_tests)

digit_is_none : (b : ℕ) → is_ascii_digit b ≡ true → (b == 45) ≡ false
digit_is_none b h = grind (arith, nat_tests)

alphanumeric_is_none : (b : ℕ) → is_ascii_alphanumeric b ≡ true → (b == 45) ≡ false
alphanumeric_is_none b h = grind (arith, nat_tests)

plain_letters : (low high : ℕ) (s : List ℕ) → is_letters low high s ≡ true → Plain s
plain_letters low high s h = plain_by is_ascii_alphabetic letter_is_none s (passes low high is_ascii_alphabetic s h)

plain_mixed : (low high : ℕ) (s : List ℕ) → is_letters_or_digits low high s ≡ true → Plain s
plain_mixed low high s h = plain_by is_ascii_alphanumeric alphanumeric_is_none s (passes low high is_ascii_alphanumeric s h)

plain_x : (s : List ℕ) → is_x s ≡ true → Plain s
unfolding is_x
plain_x [] h = cc (h)
plain_x (b ∷ []) h =
    let letter = (and_parts (length (b ∷ []) == 1) ((b == 120) || (b == 88)) h).1 in
    All-cons (λ b. (b == 45) ≡ false) b [] (grind (arith, nat_tests)) (All-nil (λ b. (b == 45) ≡ false))
plain_x (b ∷ c ∷ s) h = let one = (and_parts (length (b ∷ c ∷ s) == 1) ((b == 120) || (b == 88)) h).0 in absurd (grind (arith, nat_tests))

plain_region : (s : List ℕ) → is_region s ≡ true → Plain s
unfolding is_region
plain_region s h = elim (or_cases (is_letters 2 2 s) (is_digits 3 3 s) h) [
  | inl two ↦ plain_letters 2 2 s two
  | inr three ↦ plain_by is_ascii_digit digit_is_none s (passes 3 3 is_ascii_digit s three)
]

plain_variant : (s : List ℕ) → is_variant s ≡ true → Plain s
unfolding is_variant
plain_variant s h = elim (or_cases (is_letters_or_digits 5 8 s) (is_letters_or_digits 4 4 s && is_ascii_digit (slice_index s 0)) h) [
  | inl more ↦ plain_mixed 5 8 s more
  | inr four ↦ plain_mixed 4 4 s (and_parts (is_letters_or_digits 4 4 s) (is_ascii_digit (slice_index s 0)) four).0
]

plain_singleton : (s : List ℕ) → is_singleton s ≡ true → Plain s
unfolding is_singleton
plain_singleton s h = plain_mixed 1 1 s (and_parts (is_letters_or_digits 1 1 s) _ h).0

-- a subtag that leads on has no hyphen
plain_if : (test : List ℕ → Bool) (this : Place) (that : Option Place) (s : List ℕ) (parts : List (List ℕ)) → (test s ≡ true → Plain s) → (Leads that parts → Plain s)
    → Leads (cond (test s) (Some this) that) parts → Plain s
plain_if test this that s parts here there h = elim (chosen (test s) this that parts h) [ inl this ↦ here this.0 | inr other ↦ there other.1 ]

nowhere : (s : List ℕ) (parts : List (List ℕ)) → Leads None parts → Plain s
nowhere s parts h = absurd (dead_end parts h)

plain_end : (s : List ℕ) (parts : List (List ℕ)) → Leads (after_variant s) parts → Plain s
unfolding after_variant
plain_end s parts h =
    plain_if is_singleton Singleton (cond (is_x s) (Some PrivateStart) None) s parts (plain_singleton s)
    (plain_if is_x PrivateStart None s parts (plain_x s) (nowhere s parts)) h

plain_from_variant : (s : List ℕ) (parts : List (List ℕ)) → Leads (after_region s) parts → Plain s
unfolding after_region
plain_from_variant s parts h = plain_if is_variant Variant (after_variant s) s parts (plain_variant s) (plain_end s parts) h

plain_from_region : (s : List ℕ) (parts : List (List ℕ)) → Leads (after_script s) parts → Plain s
unfolding after_script
plain_from_region s parts h = plain_if is_region Region (after_region s) s parts (plain_region s) (plain_from_variant s parts) h

plain_from_language : (k : ℕ) (s : List ℕ) (parts : List (List ℕ)) → Leads (after_language k s) parts → Plain s
unfolding after_language
plain_from_language k s parts h =
    plain_if (λ t. nat_lt 0 k && is_letters 3 3 t) (Language _) (cond (is_letters 4 4 s) (Some Script) (after_script s)) s parts
    (λ this. plain_letters 3 3 s (and_parts (nat_lt 0 k) (is_letters 3 3 s) this).1)
    (plain_if (is_letters 4 4) Script (after_script s) s parts (plain_letters 4 4 s) (plain_from_region s parts)) h

plain_from_start : (s : List ℕ) (parts : List (List ℕ)) → Leads (after_start s) parts → Plain s
unfolding after_start
plain_from_start s parts h =
    plain_if (is_letters 2 3) (Language 3) (cond (is_letters 4 8 s) (Some (Language 0)) (cond (is_x s) (Some PrivateStart) None)) s parts (plain_letters 2 3 s)
    (plain_if (is_letters 4 8) (Language 0) (cond (is_x s) (Some PrivateStart) None) s parts (plain_letters 4 8 s)
    (plain_if is_x PrivateStart None s parts (plain_x s) (nowhere s parts))) h

plain_next : (place : Place) (s : List ℕ) (parts : List (List ℕ)) → Leads (next_place place s) parts → Plain s
plain_next Start s parts h = plain_from_start s parts h
plain_next (Language k) s parts h = plain_from_language k s parts h
plain_next Script s parts h = plain_from_region s parts h
plain_next Region s parts h = plain_from_variant s parts h
plain_next Variant s parts h = plain_from_variant s parts h
plain_next Singleton s parts h = plain_if (is_letters_or_digits 2 8) Extension None s parts (plain_mixed 2 8 s) (nowhere s parts) h
plain_next Extension s parts h = plain_if (is_letters_or_digits 2 8) Extension (after_variant s) s parts (plain_mixed 2 8 s) (plain_end s parts) h
plain_next PrivateStart s parts h = plain_if (is_letters_or_digits 1 8) Private None s parts (plain_mixed 1 8 s) (nowhere s parts) h
plain_next Private s parts h = plain_if (is_letters_or_digits 1 8) Private None s parts (plain_mixed 1 8 s) (nowhere s parts) h

all_plain : (place : Option Place) (parts : List (List ℕ)) → Leads place parts → AllByRecursion Plain parts
all_plain place [] h = tt
all_plain None (s ∷ parts) h = absurd (dead_end (s ∷ parts) h)
all_plain (Some place) (s ∷ parts) h = (plain_next place s parts h, all_plain (next_place place s) parts h)

-- parts without a hyphen, joined by hyphens, are cut into these parts
joined_splits : (s : List ℕ) (parts : List (List ℕ)) → AllByRecursion Plain (s ∷ parts) → subtags (join_with_byte 45 (s ∷ parts)) ≡ s ∷ parts
joined_splits s [] h = slice_split_none (λ b. b == 45) s h.0
joined_splits s (t ∷ parts) h =
    slice_split_at (λ b. b == 45) s 45 (join_with_byte 45 (t ∷ parts)) h.0 refl ∙ ap (λ ts. s ∷ ts) (joined_splits t parts h.1)

leading_splits : (parts : List (List ℕ)) → Leads (Some Start) parts → subtags (join_with_byte 45 parts) ≡ parts
leading_splits [] h = cc (h)
leading_splits (s ∷ parts) h = joined_splits s parts (all_plain (Some Start) (s ∷ parts) h)

-- a text whose subtags lead to an end is that of a tag
pub is_tag : (text : List ℕ) → Leads (Some Start) (subtags text) → IsLanguageTag text
is_tag text h =
    let t = tree_of (subtags text) h in record {
      tree = t.tree;
      well_formed = t.well_formed;
      spelled = sym (join_with_byte-slice_split 45 text) ∙ ap (λ parts. join_with_byte 45 parts) t.spelled;
    }

-- and the subtags of a tag's text lead to an end
pub tag_leads : (text : List ℕ) → IsLanguageTag text → Leads (Some Start) (subtags text)
tag_leads text h =
    let leads = tree_leads h.tree h.well_formed in
    let parts : subtags text ≡ tree_subtags h.tree = ap (λ t. subtags t) h.spelled ∙ leading_splits (tree_subtags h.tree) leads in
    let P : List (List ℕ) → Type 0 = λ ps. Leads (Some Start) ps in subst P (sym parts) leads
