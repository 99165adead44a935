-- The first parameter of a name.
use Rattle.std.proofs.Common.{◌≡◌, ℕ, ◌<◌, ◌+◌, inl, inr, List, [], ◌∷◌, ◌++◌, length, take, drop, refl, sym, ap, subst, ◌∙◌, get_or, add-one, append_assoc}
use Rattle.std.proofs.Math.Seq.{take-suc}
use Rattle.std.proofs.lemmas.List.{take-append-drop}
use Rattle.std.specs.Prelude.{string_bytes}
use Rattle.std.specs.List.{AllZip}
use Rattle.http_values.specs.declared.shared.mime.Parameter.{Parameter}
use Rattle.http_values.specs.Mime.{IsSameName, HasNoName, IsFirstValue, pair_of, pairs_of}

-- one parameter more, of another name
no_name-push : (name : List ℕ) (ps : List Parameter) (p : Parameter) → HasNoName name (pairs_of ps) → ¬ (IsSameName (string_bytes p.name) name)
    → HasNoName name (pairs_of (ps ++ p ∷ []))
no_name-push name [] p h other = (other, tt)
no_name-push name (q ∷ ps) p h other = (h.0, no_name-push name ps p h.1 other)

-- a parameter of the name behind others
first_behind : (name : List ℕ) (ps : List Parameter) (p : Parameter) (more : List Parameter) → HasNoName name (pairs_of ps) → IsSameName (string_bytes p.name) name
    → IsFirstValue name (pairs_of (ps ++ p ∷ more)) (string_bytes p.value)
first_behind name [] p more h same = inl (same, refl)
first_behind name (q ∷ ps) p more h same = inr (h.0, first_behind name ps p more h.1 same)

one_more : (ps : List Parameter) (i : ℕ) (p : Parameter) → i < length ps → p ≡ get_or ps i p → take (i + 1) ps ≡ take i ps ++ p ∷ []
one_more ps i p inside is = ap (λ (n : ℕ). take n ps) (add-one i) ∙ (take-suc ps i p inside ∙ ap (λ x. take i ps ++ x ∷ []) (sym is))

-- the same at one index more of a list
pub no_name-more : (name : List ℕ) (ps : List Parameter) (i : ℕ) (p : Parameter) → i < length ps → p ≡ get_or ps i p → HasNoName name (pairs_of (take i ps))
    → ¬ (IsSameName (string_bytes p.name) name) → HasNoName name (pairs_of (take (i + 1) ps))
no_name-more name ps i p inside is h other =
    let P : List Parameter → Type 0 = λ xs. HasNoName name (pairs_of xs) in
    subst P (sym (one_more ps i p inside is)) (no_name-push name (take i ps) p h other)

pub first_at : (name : List ℕ) (ps : List Parameter) (i : ℕ) (p : Parameter) → i < length ps → p ≡ get_or ps i p → HasNoName name (pairs_of (take i ps))
    → IsSameName (string_bytes p.name) name → IsFirstValue name (pairs_of ps) (string_bytes p.value)
first_at name ps i p inside is h same =
    let whole : take i ps ++ (p ∷ drop (i + 1) ps) ≡ ps =
    sym (append_assoc (take i ps) (p ∷ []) (drop (i + 1) ps))
    ∙ (ap (λ t. t ++ drop (i + 1) ps) (sym (one_more ps i p inside is)) ∙ take-append-drop (i + 1) ps) in
    let P : List Parameter → Type 0 = λ xs. IsFirstValue name (pairs_of xs) (string_bytes p.value) in
    subst P whole (first_behind name (take i ps) p (drop (i + 1) ps) h same)

-- parameters that are equal place by place
pub pairs_of-clones : (ps copies : List Parameter) → AllZip (λ p copy. pair_of copy ≡ pair_of p) ps copies → pairs_of copies ≡ pairs_of ps
pairs_of-clones [] [] h = refl
pairs_of-clones [] (c ∷ copies) h = absurd h
pairs_of-clones (p ∷ ps) [] h = absurd h
pairs_of-clones (p ∷ ps) (c ∷ copies) h = ap (λ x. x ∷ pairs_of copies) h.0 ∙ ap (λ xs. pair_of p ∷ xs) (pairs_of-clones ps copies h.1)
