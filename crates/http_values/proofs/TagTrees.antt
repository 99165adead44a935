-- Subtags that lead to the end of a tag are those of a tree.
use Rattle.std.proofs.Common.{◌≡◌, ℕ, ◌-◌, ◌<◌, ◌≤◌, ◌⊎◌, inl, inr, Bool, true, false, cond, ◌&&◌, IsTrue, List, [], ◌∷◌, ◌++◌, length, Option, Some, None, refl, sym, ap, ◌∙◌, arith, append_assoc}
use Rattle.std.specs.Prelude.{flat_map, nat_lt}
use Rattle.std.specs.List.{list_all, AllByRecursion}
use Rattle.std.proofs.lemmas.Bool.{and_parts}
use Rattle.std.proofs.lemmas.Bool.Decides.{nat_tests}
use Rattle.http_values.specs.declared.shared.language_tag.Place.{Place}
use Rattle.http_values.specs.declared.shared.language_tag.Place.TheVariants.{Start, Language, Script, Region, Variant, Singleton, Extension, PrivateStart, Private}
use Rattle.http_values.specs.LanguageTag.{is_letters, is_letters_or_digits, is_region, is_variant, is_x, is_singleton, EachPasses, NonePasses, ExtensionPart, extension_subtags, IsExtensionPart, PrivatePart, IsPrivatePart, subtag_if, private_if, IsPrivateIf, Langtag, IsLangtag, IsLanguage, TagTree, Common, tree_subtags, IsTagTree}
use Rattle.http_values.specs.LanguageTag.{Private as Alone}
use Rattle.http_values.specs.LanguageTagPlaces.{after_variant, after_region, after_script, after_language, after_start}
use Rattle.http_values.proofs.TagSteps.{Leads}
use Rattle.http_values.proofs.TagTests.{and_of}

-- nothing follows a subtag that leads nowhere
pub dead_end : (parts : List (List ℕ)) → Leads None parts → ⊥
dead_end [] h = cc (h)
dead_end (s ∷ parts) h = dead_end parts h

-- a choice between two places
pub chosen : (b : Bool) (this : Place) (that : Option Place) (parts : List (List ℕ)) → Leads (cond b (Some this) that) parts
    → ((b ≡ true) × Leads (Some this) parts) ⊎ ((b ≡ false) × Leads that parts)
chosen true this that parts h = inl (refl, h)
chosen false this that parts h = inr (refl, h)

private_parts : (parts : List (List ℕ)) → Leads (Some Private) parts → EachPasses (is_letters_or_digits 1 8) parts
private_parts [] h = refl
private_parts (s ∷ parts) h = elim (chosen (is_letters_or_digits 1 8 s) Private None parts h) [
  | inl this ↦ and_of (is_letters_or_digits 1 8 s) (list_all (is_letters_or_digits 1 8) parts) this.0 (private_parts parts this.1)
  | inr that ↦ absurd (dead_end parts that.1)
]

-- what follows `x`
behind_x : (mark : List ℕ) (parts : List (List ℕ)) → IsTrue (is_x mark) → Leads (Some PrivateStart) parts
    → IsPrivatePart (record { mark = mark; subtags = parts })
behind_x mark [] x h = cc (h)
behind_x mark (s ∷ parts) x h = elim (chosen (is_letters_or_digits 1 8 s) Private None parts h) [
  | inl this ↦ record {
    mark = x;
    some = omega arith;
    subtags = and_of (is_letters_or_digits 1 8 s) (list_all (is_letters_or_digits 1 8) parts) this.0 (private_parts parts this.1);
  }
  | inr that ↦ absurd (dead_end parts that.1)
]

-- the extensions and the private use at a tag's end
record Ending (parts : List (List ℕ)) : Type 0 where
  extensions : List ExtensionPart
  private : Option PrivatePart
  spelled : parts ≡ flat_map extension_subtags extensions ++ private_if private
  each : AllByRecursion IsExtensionPart extensions
  last : IsPrivateIf private

no_ending : Ending []
no_ending = record { extensions = []; private = None; spelled = refl; each = tt; last = tt }

-- the same behind more subtags of an extension
record Extending (parts : List (List ℕ)) : Type 0 where
  more : List (List ℕ)
  rest : List (List ℕ)
  ending : Ending rest
  spelled : parts ≡ more ++ rest
  each : EachPasses (is_letters_or_digits 2 8) more

record ExtendingOnce (parts : List (List ℕ)) : Type 0 where
  extending : Extending parts
  some : 0 < length extending.more

one_extension : (singleton : List ℕ) (parts : List (List ℕ)) → IsTrue (is_singleton singleton) → ExtendingOnce parts → Ending (singleton ∷ parts)
one_extension singleton parts h one =
    let e = one.extending in record {
      extensions = record { singleton = singleton; subtags = e.more } ∷ e.ending.extensions;
      private = e.ending.private;
      spelled =
          ap (λ t. singleton ∷ t)
          (e.spelled ∙ (ap (λ t. e.more ++ t) e.ending.spelled ∙ sym (append_assoc e.more (flat_map extension_subtags e.ending.extensions) (private_if e.ending.private))));
      each = (record { singleton = h; some = one.some; subtags = e.each }, e.ending.each);
      last = e.ending.last;
    }

private_ending : (mark : List ℕ) (parts : List (List ℕ)) → IsPrivatePart (record { mark = mark; subtags = parts }) → Ending (mark ∷ parts)
private_ending mark parts h = record {
  extensions = [];
  private = Some (record { mark = mark; subtags = parts });
  spelled = refl;
  each = tt;
  last = h;
}

-- a subtag that begins the end
ending_of : (s : List ℕ) (parts : List (List ℕ)) → (Leads (Some Singleton) parts → ExtendingOnce parts) → Leads (after_variant s) parts → Ending (s ∷ parts)
unfolding after_variant
ending_of s parts next h = elim (chosen (is_singleton s) Singleton (cond (is_x s) (Some PrivateStart) None) parts h) [
  | inl this ↦ one_extension s parts this.0 (next this.1)
  | inr that ↦ elim (chosen (is_x s) PrivateStart None parts that.1) [
    | inl this ↦ private_ending s parts (behind_x s parts this.0 this.1)
    | inr none ↦ absurd (dead_end parts none.1)
  ]
]

extended_by : (s : List ℕ) (parts : List (List ℕ)) → IsTrue (is_letters_or_digits 2 8 s) → Extending parts → ExtendingOnce (s ∷ parts)
extended_by s parts h e = record {
  extending = record {
    more = s ∷ e.more;
    rest = e.rest;
    ending = e.ending;
    spelled = ap (λ t. s ∷ t) e.spelled;
    each = and_of (is_letters_or_digits 2 8 s) (list_all (is_letters_or_digits 2 8) e.more) h e.each;
  };
  some = omega arith;
}

-- what follows a subtag of an extension, and what follows its letter
record Extensions (parts : List (List ℕ)) : Type 0 where
  inside : Leads (Some Extension) parts → Extending parts
  first : Leads (Some Singleton) parts → ExtendingOnce parts

not_more : (parts : List (List ℕ)) → Ending parts → Extending parts
not_more parts e = record { more = []; rest = parts; ending = e; spelled = refl; each = refl }

extensions_of : (parts : List (List ℕ)) → Extensions parts
extensions_of [] = record { inside = λ h. not_more [] no_ending; first = λ h. cc (h) }
extensions_of (s ∷ parts) =
    let next = extensions_of parts in record {
      inside = λ h.
          elim (chosen (is_letters_or_digits 2 8 s) Extension (after_variant s) parts h) [
            | inl this ↦ (extended_by s parts this.0 (next.inside this.1)).extending
            | inr that ↦ not_more (s ∷ parts) (ending_of s parts next.first that.1)
          ];
      first = λ h.
          elim (chosen (is_letters_or_digits 2 8 s) Extension None parts h) [
            | inl this ↦ extended_by s parts this.0 (next.inside this.1)
            | inr that ↦ absurd (dead_end parts that.1)
          ];
    }

-- the variants, and the end
record Variants (parts : List (List ℕ)) : Type 0 where
  variants : List (List ℕ)
  rest : List (List ℕ)
  ending : Ending rest
  spelled : parts ≡ variants ++ rest
  each : EachPasses is_variant variants

no_variants : (parts : List (List ℕ)) → Ending parts → Variants parts
no_variants parts e = record { variants = []; rest = parts; ending = e; spelled = refl; each = refl }

one_variant : (s : List ℕ) (parts : List (List ℕ)) → IsTrue (is_variant s) → Variants parts → Variants (s ∷ parts)
one_variant s parts h v = record {
  variants = s ∷ v.variants;
  rest = v.rest;
  ending = v.ending;
  spelled = ap (λ t. s ∷ t) v.spelled;
  each = and_of (is_variant s) (list_all is_variant v.variants) h v.each;
}

variants_of : (s : List ℕ) (parts : List (List ℕ)) → (Leads (Some Variant) parts → Variants parts) → Leads (after_region s) parts → Variants (s ∷ parts)
unfolding after_region
variants_of s parts next h = elim (chosen (is_variant s) Variant (after_variant s) parts h) [
  | inl this ↦ one_variant s parts this.0 (next this.1)
  | inr that ↦ no_variants (s ∷ parts) (ending_of s parts (extensions_of parts).first that.1)
]

behind_variant : (parts : List (List ℕ)) → Leads (Some Variant) parts → Variants parts
behind_variant [] h = no_variants [] no_ending
behind_variant (s ∷ parts) h = variants_of s parts (behind_variant parts) h

behind_region : (parts : List (List ℕ)) → Leads (Some Region) parts → Variants parts
behind_region [] h = no_variants [] no_ending
behind_region (s ∷ parts) h = variants_of s parts (behind_variant parts) h

-- the region, the variants and the end
record Regions (parts : List (List ℕ)) : Type 0 where
  region : Option (List ℕ)
  rest : List (List ℕ)
  variants : Variants rest
  spelled : parts ≡ subtag_if region ++ rest
  is : NonePasses is_region region

no_region_in : (parts : List (List ℕ)) → Variants parts → Regions parts
no_region_in parts v = record { region = None; rest = parts; variants = v; spelled = refl; is = tt }

regions_of : (s : List ℕ) (parts : List (List ℕ)) → Leads (after_script s) parts → Regions (s ∷ parts)
unfolding after_script
regions_of s parts h = elim (chosen (is_region s) Region (after_region s) parts h) [
  | inl this ↦ record { region = Some s; rest = parts; variants = behind_region parts this.1; spelled = refl; is = this.0 }
  | inr that ↦ no_region_in (s ∷ parts) (variants_of s parts (behind_variant parts) that.1)
]

behind_script : (parts : List (List ℕ)) → Leads (Some Script) parts → Regions parts
behind_script [] h = no_region_in [] (no_variants [] no_ending)
behind_script (s ∷ parts) h = regions_of s parts h

-- all that follows the language
record Scripts (k : ℕ) (parts : List (List ℕ)) : Type 0 where
  extlangs : List (List ℕ)
  script : Option (List ℕ)
  rest : List (List ℕ)
  regions : Regions rest
  spelled : parts ≡ extlangs ++ (subtag_if script ++ rest)
  few : length extlangs ≤ k
  each : EachPasses (is_letters 3 3) extlangs
  is : NonePasses (is_letters 4 4) script

no_script : (k : ℕ) (parts : List (List ℕ)) → Regions parts → Scripts k parts
no_script k parts r = record {
  extlangs = [];
  script = None;
  rest = parts;
  regions = r;
  spelled = refl;
  few = omega arith;
  each = refl;
  is = tt;
}

one_extlang : (k : ℕ) (s : List ℕ) (parts : List (List ℕ)) → 0 < k → IsTrue (is_letters 3 3 s) → Scripts (k - 1) parts → Scripts k (s ∷ parts)
one_extlang k s parts some h r = record {
  extlangs = s ∷ r.extlangs;
  script = r.script;
  rest = r.rest;
  regions = r.regions;
  spelled = ap (λ t. s ∷ t) r.spelled;
  few = omega (arith, r.few);
  each = and_of (is_letters 3 3 s) (list_all (is_letters 3 3) r.extlangs) h r.each;
  is = r.is;
}

behind_language : (k : ℕ) (parts : List (List ℕ)) → Leads (Some (Language k)) parts → Scripts k parts
unfolding after_language
behind_language k [] h = no_script k [] (no_region_in [] (no_variants [] no_ending))
behind_language k (s ∷ parts) h =
    elim (chosen (nat_lt 0 k && is_letters 3 3 s) (Language (k - 1)) (cond (is_letters 4 4 s) (Some Script) (after_script s)) parts h) [
      | inl this ↦
          let both = and_parts (nat_lt 0 k) (is_letters 3 3 s) this.0 in
          one_extlang k s parts (grind (arith, nat_tests, both.0)) both.1 (behind_language (k - 1) parts this.1)
      | inr that ↦ elim (chosen (is_letters 4 4 s) Script (after_script s) parts that.1) [
        | inl this ↦ record {
          extlangs = [];
          script = Some s;
          rest = parts;
          regions = behind_script parts this.1;
          spelled = refl;
          few = omega arith;
          each = refl;
          is = this.0;
        }
        | inr other ↦ no_script k (s ∷ parts) (regions_of s parts other.1)
      ]
    ]

-- the tree of a language and what follows it
abbrev langtag_of : (language : List ℕ) (k : ℕ) (parts : List (List ℕ)) → Scripts k parts → Langtag
langtag_of language k parts r = record {
  language = language;
  extlangs = r.extlangs;
  script = r.script;
  region = r.regions.region;
  variants = r.regions.variants.variants;
  extensions = r.regions.variants.ending.extensions;
  private = r.regions.variants.ending.private;
}

langtag_is : (language : List ℕ) (k : ℕ) (parts : List (List ℕ)) (r : Scripts k parts) → IsLanguage language r.extlangs → IsLangtag (langtag_of language k parts r)
langtag_is language k parts r h = record {
  language = h;
  script = r.is;
  region = r.regions.is;
  variants = r.regions.variants.each;
  extensions = r.regions.variants.ending.each;
  private = r.regions.variants.ending.last;
}

langtag_spelled : (language : List ℕ) (k : ℕ) (parts : List (List ℕ)) (r : Scripts k parts) → language ∷ parts ≡ tree_subtags (Common (langtag_of language k parts r))
langtag_spelled language k parts r =
    ap (λ t. language ∷ t)
    (r.spelled
    ∙ ap (λ t. r.extlangs ++ (subtag_if r.script ++ t))
    (r.regions.spelled ∙ ap (λ t. subtag_if r.regions.region ++ t)
    (r.regions.variants.spelled ∙ ap (λ t. r.regions.variants.variants ++ t) r.regions.variants.ending.spelled)))

-- the parts are those of a tree
pub record AreOfTree (parts : List (List ℕ)) : Type 0 where
  pub tree : TagTree
  pub well_formed : IsTagTree tree
  pub spelled : parts ≡ tree_subtags tree

langtag_tree : (language : List ℕ) (k : ℕ) (parts : List (List ℕ)) (r : Scripts k parts) → IsLanguage language r.extlangs → AreOfTree (language ∷ parts)
langtag_tree language k parts r h = record {
  tree = Common (langtag_of language k parts r);
  well_formed = langtag_is language k parts r h;
  spelled = langtag_spelled language k parts r;
}

none_of_few : (parts : List (List ℕ)) → length parts ≤ 0 → parts ≡ []
none_of_few [] h = refl
none_of_few (s ∷ parts) h = absurd (omega (arith, h))

-- what leads from the start to an end is a tree
pub tree_of : (parts : List (List ℕ)) → Leads (Some Start) parts → AreOfTree parts
unfolding after_start
tree_of [] h = cc (h)
tree_of (s ∷ parts) h =
    elim (chosen (is_letters 2 3 s) (Language 3) (cond (is_letters 4 8 s) (Some (Language 0)) (cond (is_x s) (Some PrivateStart) None)) parts h) [
      | inl this ↦
          let r = behind_language 3 parts this.1 in langtag_tree s 3 parts r (inl (this.0, r.few, r.each))
      | inr that ↦ elim (chosen (is_letters 4 8 s) (Language 0) (cond (is_x s) (Some PrivateStart) None) parts that.1) [
        | inl this ↦ let r = behind_language 0 parts this.1 in langtag_tree s 0 parts r (inr (this.0, none_of_few r.extlangs r.few))
        | inr other ↦ elim (chosen (is_x s) PrivateStart None parts other.1) [
          | inl this ↦ record { tree = Alone (record { mark = s; subtags = parts }); well_formed = behind_x s parts this.0 this.1; spelled = refl }
          | inr none ↦ absurd (dead_end parts none.1)
        ]
      ]
    ]
