-- The subtags of a tree lead from the start to the end of a tag.
use Rattle.std.proofs.Common.{◌≡◌, ℕ, ◌-◌, ◌<◌, ◌≤◌, inl, inr, Bool, true, false, cond, ◌&&◌, IsTrue, List, [], ◌∷◌, ◌++◌, length, Option, Some, None, refl, sym, subst, arith, append_assoc}
use Rattle.std.specs.Prelude.{flat_map, nat_lt}
use Rattle.std.specs.List.{list_all, AllByRecursion}
use Rattle.std.specs.Char.{is_ascii_alphabetic, is_ascii_alphanumeric}
use Rattle.std.proofs.lemmas.Bool.{and_parts}
use Rattle.std.proofs.lemmas.Bool.Decides.{nat_tests}
use Rattle.http_values.specs.declared.shared.language_tag.Place.{Place}
use Rattle.http_values.specs.declared.shared.language_tag.Place.TheVariants.{Start, Language, Script, Region, Variant, Singleton, Extension, PrivateStart, Private}
use Rattle.http_values.specs.LanguageTag.{is_letters, is_letters_or_digits, is_region, is_variant, is_x, is_singleton, EachPasses, NonePasses, ExtensionPart, extension_subtags, IsExtensionPart, PrivatePart, subtag_if, private_if, IsPrivateIf, Langtag, langtag_subtags, IsLangtag, IsLanguage, TagTree, Common, tree_subtags, IsTagTree}
use Rattle.http_values.specs.LanguageTag.{Private as Alone}
use Rattle.http_values.specs.LanguageTagPlaces.{after_variant, after_region, after_script, after_language, after_start, may_end}
use Rattle.http_values.proofs.TagSteps.{Leads}
use Rattle.http_values.proofs.TagTests.{long, other_length, x_long, singleton_long, x_is_no_singleton, region_long, variant_long, no_region, no_variant, region_is_no_extlang, variant_is_no_script}

-- a choice between two places, by its test
taken : (b : Bool) (this : Place) (that : Option Place) (parts : List (List ℕ)) → b ≡ true → Leads (Some this) parts → Leads (cond b (Some this) that) parts
taken true this that parts e h = h
taken false this that parts e h = cc (e)

past : (b : Bool) (this : Place) (that : Option Place) (parts : List (List ℕ)) → b ≡ false → Leads that parts → Leads (cond b (Some this) that) parts
past true this that parts e h = cc (e)
past false this that parts e h = h

private_leads : (parts : List (List ℕ)) → EachPasses (is_letters_or_digits 1 8) parts → Leads (Some Private) parts
private_leads [] h = refl
private_leads (s ∷ parts) h =
    let both = and_parts (is_letters_or_digits 1 8 s) (list_all (is_letters_or_digits 1 8) parts) h in
    taken (is_letters_or_digits 1 8 s) Private None parts both.0 (private_leads parts both.1)

private_begins : (parts : List (List ℕ)) → 0 < length parts → EachPasses (is_letters_or_digits 1 8) parts → Leads (Some PrivateStart) parts
private_begins [] some h = absurd (omega (arith, some))
private_begins (s ∷ parts) some h =
    let both = and_parts (is_letters_or_digits 1 8 s) (list_all (is_letters_or_digits 1 8) parts) h in
    taken (is_letters_or_digits 1 8 s) Private None parts both.0 (private_leads parts both.1)

extension_leads : (more rest : List (List ℕ)) → EachPasses (is_letters_or_digits 2 8) more → Leads (Some Extension) rest → Leads (Some Extension) (more ++ rest)
extension_leads [] rest h next = next
extension_leads (s ∷ more) rest h next =
    let both = and_parts (is_letters_or_digits 2 8 s) (list_all (is_letters_or_digits 2 8) more) h in
    taken (is_letters_or_digits 2 8 s) Extension (after_variant s) (more ++ rest) both.0 (extension_leads more rest both.1 next)

extension_begins : (more rest : List (List ℕ)) → 0 < length more → EachPasses (is_letters_or_digits 2 8) more → Leads (Some Extension) rest → Leads (Some Singleton) (more ++ rest)
extension_begins [] rest some h next = absurd (omega (arith, some))
extension_begins (s ∷ more) rest some h next =
    let both = and_parts (is_letters_or_digits 2 8 s) (list_all (is_letters_or_digits 2 8) more) h in
    taken (is_letters_or_digits 2 8 s) Extension None (more ++ rest) both.0 (extension_leads more rest both.1 next)

singleton_leads : (s : List ℕ) (parts : List (List ℕ)) → IsTrue (is_singleton s) → Leads (Some Singleton) parts → Leads (after_variant s) parts
unfolding after_variant
singleton_leads s parts h next = taken (is_singleton s) Singleton (cond (is_x s) (Some PrivateStart) None) parts h next

x_leads : (s : List ℕ) (parts : List (List ℕ)) → IsTrue (is_x s) → Leads (Some PrivateStart) parts → Leads (after_variant s) parts
unfolding after_variant
x_leads s parts h next =
    past (is_singleton s) Singleton (cond (is_x s) (Some PrivateStart) None) parts (x_is_no_singleton s h) (taken (is_x s) PrivateStart None parts h next)

-- a tag may end at the place, and a subtag of one byte is read there as behind a variant
record IsOpen (place : Place) : Type 0 where
  ends : may_end place ≡ true
  other : (s : List ℕ) (parts : List (List ℕ)) → length s ≡ 1 → Leads (after_variant s) parts → Leads (Some place) (s ∷ parts)

short_no_variant : (s : List ℕ) (parts : List (List ℕ)) → length s ≡ 1 → Leads (after_variant s) parts → Leads (after_region s) parts
unfolding after_region
short_no_variant s parts one h = past (is_variant s) Variant (after_variant s) parts (no_variant s (omega (arith, one))) h

short_no_region : (s : List ℕ) (parts : List (List ℕ)) → length s ≡ 1 → Leads (after_variant s) parts → Leads (after_script s) parts
unfolding after_script
short_no_region s parts one h =
    past (is_region s) Region (after_region s) parts (no_region s (inl (omega (arith, one)))) (short_no_variant s parts one h)

no_second : (a b : Bool) → b ≡ false → (a && b) ≡ false
no_second true b h = h
no_second false b h = refl

-- behind the language, a subtag that is neither a further language nor a script
no_script : (k : ℕ) (s : List ℕ) (parts : List (List ℕ)) → is_letters 3 3 s ≡ false → is_letters 4 4 s ≡ false → Leads (after_script s) parts
    → Leads (Some (Language k)) (s ∷ parts)
unfolding after_language
no_script k s parts three four h =
    past (nat_lt 0 k && is_letters 3 3 s) (Language (k - 1)) (cond (is_letters 4 4 s) (Some Script) (after_script s)) parts (no_second (nat_lt 0 k) (is_letters 3 3 s) three)
    (past (is_letters 4 4 s) Script (after_script s) parts four h)

open_extension : IsOpen Extension
open_extension = record {
  ends = refl;
  other = λ s parts one h.
      past (is_letters_or_digits 2 8 s) Extension (after_variant s) parts (other_length 2 8 is_ascii_alphanumeric s (inl (omega (arith, one)))) h;
}

open_variant : IsOpen Variant
open_variant = record { ends = refl; other = short_no_variant }

open_region : IsOpen Region
open_region = record { ends = refl; other = short_no_variant }

open_script : IsOpen Script
open_script = record { ends = refl; other = short_no_region }

open_language : (k : ℕ) → IsOpen (Language k)
open_language k = record {
  ends = refl;
  other = λ s parts one h.
      no_script k s parts (other_length 3 3 is_ascii_alphabetic s (inl (omega (arith, one)))) (other_length 4 4 is_ascii_alphabetic s (inl (omega (arith, one))))
      (short_no_region s parts one h);
}

-- extensions and private use lead to an end
ending_leads : (place : Place) → IsOpen place → (es : List ExtensionPart) (p : Option PrivatePart) → AllByRecursion IsExtensionPart es → IsPrivateIf p
    → Leads (Some place) (flat_map extension_subtags es ++ private_if p)
ending_leads place opens [] None h k = opens.ends
ending_leads place opens [] (Some p) h k = opens.other p.mark p.subtags (x_long p.mark k.mark) (x_leads p.mark p.subtags k.mark (private_begins p.subtags k.some k.subtags))
ending_leads place opens (e ∷ es) p h k =
    let rest = flat_map extension_subtags es ++ private_if p in
    let next = ending_leads Extension open_extension es p h.1 k in
    let P : List (List ℕ) → Type 0 = λ t. Leads (Some place) (e.singleton ∷ t) in
    subst P (sym (append_assoc e.subtags (flat_map extension_subtags es) (private_if p)))
    (opens.other e.singleton (e.subtags ++ rest) (singleton_long e.singleton h.0.singleton)
    (singleton_leads e.singleton (e.subtags ++ rest) h.0.singleton (extension_begins e.subtags rest h.0.some h.0.subtags next)))

-- what a place takes: a variant; a region too
abbrev TakesVariant : Place → Type 0
TakesVariant place = (s : List ℕ) (parts : List (List ℕ)) → IsTrue (is_variant s) → Leads (Some Variant) parts → Leads (Some place) (s ∷ parts)

abbrev TakesRegion : Place → Type 0
TakesRegion place = (s : List ℕ) (parts : List (List ℕ)) → IsTrue (is_region s) → Leads (Some Region) parts → Leads (Some place) (s ∷ parts)

variant_next : (s : List ℕ) (parts : List (List ℕ)) → IsTrue (is_variant s) → Leads (Some Variant) parts → Leads (after_region s) parts
unfolding after_region
variant_next s parts h next = taken (is_variant s) Variant (after_variant s) parts h next

variant_past_region : (s : List ℕ) (parts : List (List ℕ)) → IsTrue (is_variant s) → Leads (Some Variant) parts → Leads (after_script s) parts
unfolding after_script
variant_past_region s parts h next =
    let range = variant_long s h in
    past (is_region s) Region (after_region s) parts (no_region s (inr (omega (arith, range)))) (variant_next s parts h next)

variant_at_language : (k : ℕ) → TakesVariant (Language k)
variant_at_language k s parts h next =
    let range = variant_long s h in
    no_script k s parts (other_length 3 3 is_ascii_alphabetic s (inr (omega (arith, range)))) (variant_is_no_script s h) (variant_past_region s parts h next)

region_next : (s : List ℕ) (parts : List (List ℕ)) → IsTrue (is_region s) → Leads (Some Region) parts → Leads (after_script s) parts
unfolding after_script
region_next s parts h next = taken (is_region s) Region (after_region s) parts h next

region_at_language : (k : ℕ) → TakesRegion (Language k)
region_at_language k s parts h next =
    let range = region_long s h in
    no_script k s parts (region_is_no_extlang s h) (other_length 4 4 is_ascii_alphabetic s (inl (omega (arith, range)))) (region_next s parts h next)

-- variants, and the end
variants_lead : (place : Place) → IsOpen place → TakesVariant place → (variants : List (List ℕ)) (es : List ExtensionPart) (p : Option PrivatePart)
    → EachPasses is_variant variants → AllByRecursion IsExtensionPart es → IsPrivateIf p
    → Leads (Some place) (variants ++ (flat_map extension_subtags es ++ private_if p))
variants_lead place opens takes [] es p each h k = ending_leads place opens es p h k
variants_lead place opens takes (v ∷ variants) es p each h k =
    let both = and_parts (is_variant v) (list_all is_variant variants) each in
    takes v (variants ++ (flat_map extension_subtags es ++ private_if p)) both.0 (variants_lead Variant open_variant variant_next variants es p both.1 h k)

-- a region, variants, and the end
region_leads : (place : Place) → IsOpen place → TakesVariant place → TakesRegion place → (region : Option (List ℕ)) (variants : List (List ℕ)) (es : List ExtensionPart) (p : Option PrivatePart)
    → NonePasses is_region region → EachPasses is_variant variants → AllByRecursion IsExtensionPart es → IsPrivateIf p
    → Leads (Some place) (subtag_if region ++ (variants ++ (flat_map extension_subtags es ++ private_if p)))
region_leads place opens takes regions None variants es p is each h k = variants_lead place opens takes variants es p each h k
region_leads place opens takes regions (Some r) variants es p is each h k =
    regions r (variants ++ (flat_map extension_subtags es ++ private_if p)) is (variants_lead Region open_region variant_next variants es p each h k)

script_next : (k : ℕ) (s : List ℕ) (parts : List (List ℕ)) → IsTrue (is_letters 4 4 s) → Leads (Some Script) parts → Leads (Some (Language k)) (s ∷ parts)
unfolding after_language
script_next k s parts h next =
    let range = long 4 4 is_ascii_alphabetic s h in
    past (nat_lt 0 k && is_letters 3 3 s) (Language (k - 1)) (cond (is_letters 4 4 s) (Some Script) (after_script s)) parts
    (no_second (nat_lt 0 k) (is_letters 3 3 s) (other_length 3 3 is_ascii_alphabetic s (inr (omega (arith, range)))))
    (taken (is_letters 4 4 s) Script (after_script s) parts h next)

-- all that may follow further languages
abbrev tail_of : Langtag → List (List ℕ)
tail_of t = subtag_if t.script ++ (subtag_if t.region ++ (t.variants ++ (flat_map extension_subtags t.extensions ++ private_if t.private)))

script_leads : (k : ℕ) (script region : Option (List ℕ)) (variants : List (List ℕ)) (es : List ExtensionPart) (p : Option PrivatePart)
    → NonePasses (is_letters 4 4) script → NonePasses is_region region → EachPasses is_variant variants → AllByRecursion IsExtensionPart es → IsPrivateIf p
    → Leads (Some (Language k)) (subtag_if script ++ (subtag_if region ++ (variants ++ (flat_map extension_subtags es ++ private_if p))))
script_leads k None region variants es p four is each h q =
    region_leads (Language k) (open_language k) (variant_at_language k) (region_at_language k) region variants es p is each h q
script_leads k (Some s) region variants es p four is each h q =
    script_next k s (subtag_if region ++ (variants ++ (flat_map extension_subtags es ++ private_if p))) four
    (region_leads Script open_script variant_past_region region_next region variants es p is each h q)

extlang_next : (k : ℕ) (s : List ℕ) (parts : List (List ℕ)) → 0 < k → IsTrue (is_letters 3 3 s) → Leads (Some (Language (k - 1))) parts → Leads (Some (Language k)) (s ∷ parts)
unfolding after_language
extlang_next k s parts some h next =
    let more : nat_lt 0 k ≡ true = grind (arith, nat_tests) in
    taken (nat_lt 0 k && is_letters 3 3 s) (Language (k - 1)) (cond (is_letters 4 4 s) (Some Script) (after_script s)) parts (rw (more, h) refl) next

extlangs_lead : (k : ℕ) (extlangs rest : List (List ℕ)) → length extlangs ≤ k → EachPasses (is_letters 3 3) extlangs
    → ((j : ℕ) → Leads (Some (Language j)) rest) → Leads (Some (Language k)) (extlangs ++ rest)
extlangs_lead k [] rest few each next = next k
extlangs_lead k (x ∷ extlangs) rest few each next =
    let both = and_parts (is_letters 3 3 x) (list_all (is_letters 3 3) extlangs) each in
    extlang_next k x (extlangs ++ rest) (omega (arith, few)) both.0 (extlangs_lead (k - 1) extlangs rest (omega (arith, few)) both.1 next)

tail_leads : (t : Langtag) → IsLangtag t → (j : ℕ) → Leads (Some (Language j)) (tail_of t)
tail_leads t h j = script_leads j t.script t.region t.variants t.extensions t.private h.script h.region h.variants h.extensions h.private

short_leads : (language : List ℕ) (parts : List (List ℕ)) → IsTrue (is_letters 2 3 language) → Leads (Some (Language 3)) parts → Leads (Some Start) (language ∷ parts)
unfolding after_start
short_leads language parts h next =
    taken (is_letters 2 3 language) (Language 3) (cond (is_letters 4 8 language) (Some (Language 0)) (cond (is_x language) (Some PrivateStart) None)) parts h next

long_leads : (language : List ℕ) (parts : List (List ℕ)) → IsTrue (is_letters 4 8 language) → Leads (Some (Language 0)) parts → Leads (Some Start) (language ∷ parts)
unfolding after_start
long_leads language parts h next =
    let range = long 4 8 is_ascii_alphabetic language h in
    past (is_letters 2 3 language) (Language 3) (cond (is_letters 4 8 language) (Some (Language 0)) (cond (is_x language) (Some PrivateStart) None)) parts
    (other_length 2 3 is_ascii_alphabetic language (inr (omega (arith, range))))
    (taken (is_letters 4 8 language) (Language 0) (cond (is_x language) (Some PrivateStart) None) parts h next)

alone_leads : (mark : List ℕ) (parts : List (List ℕ)) → IsTrue (is_x mark) → Leads (Some PrivateStart) parts → Leads (Some Start) (mark ∷ parts)
unfolding after_start
alone_leads mark parts h next =
    let one = x_long mark h in
    past (is_letters 2 3 mark) (Language 3) (cond (is_letters 4 8 mark) (Some (Language 0)) (cond (is_x mark) (Some PrivateStart) None)) parts
    (other_length 2 3 is_ascii_alphabetic mark (inl (omega (arith, one))))
    (past (is_letters 4 8 mark) (Language 0) (cond (is_x mark) (Some PrivateStart) None) parts (other_length 4 8 is_ascii_alphabetic mark (inl (omega (arith, one))))
    (taken (is_x mark) PrivateStart None parts h next))

langtag_leads : (t : Langtag) → IsLangtag t → IsLanguage t.language t.extlangs → Leads (Some Start) (langtag_subtags t)
langtag_leads t h (inl few) = short_leads t.language (t.extlangs ++ tail_of t) few.0 (extlangs_lead 3 t.extlangs (tail_of t) few.1 few.2 (tail_leads t h))
langtag_leads t h (inr none) =
    let P : List (List ℕ) → Type 0 = λ xs. Leads (Some Start) (t.language ∷ (xs ++ tail_of t)) in
    subst P (sym none.1) (long_leads t.language (tail_of t) none.0 (tail_leads t h 0))

-- the subtags of a tree lead from the start to an end
pub tree_leads : (t : TagTree) → IsTagTree t → Leads (Some Start) (tree_subtags t)
tree_leads (Common t) h = langtag_leads t h h.language
tree_leads (Alone p) h = alone_leads p.mark p.subtags h.mark (private_begins p.subtags h.some h.subtags)
