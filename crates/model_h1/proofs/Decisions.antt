-- Facts that are decided: each one holds or doesn't.
use Rattle.std.proofs.Common.{◌≡◌, ℕ, zero, suc, ◌<◌, ◌≤◌, ◌⊎◌, Bool, true, false, List, [], ◌∷◌, ◌++◌, refl, sym, ap, subst, inl, inr, arith, All}
use Rattle.std.specs.List.{AllByRecursion}
use Rattle.std.proofs.lemmas.Bool.{cases_eq, cases_lt, both_ways}
use Rattle.std.proofs.lemmas.List.Elements.{All-head, All-tail, All-cons}

-- two facts that follow from one another
pub dec_like : {P Q : Type 0} → (P → Q) → (Q → P) → Dec P → Dec Q
dec_like f g (yes p) = yes (f p)
dec_like f g (no none) = no (λ q. none (g q))

-- both of two facts
pub dec_both : {P Q : Type 0} → Dec P → Dec Q → Dec (P × Q)
dec_both (yes p) (yes q) = yes (p, q)
dec_both (yes p) (no none) = no (λ x. none x.1)
dec_both (no none) d = no (λ x. none x.0)

-- one of two facts
pub dec_either : {P Q : Type 0} → Dec P → Dec Q → Dec (P ⊎ Q)
dec_either (yes p) d = yes (inl p)
dec_either (no none) (yes q) = yes (inr q)
dec_either (no none) (no none') = no (λ x. ⊥_either none none' x)
  where
    ⊥_either : {A B : Type 0} → ¬ A → ¬ B → A ⊎ B → ⊥
    ⊥_either f g (inl a) = f a
    ⊥_either f g (inr b) = g b

-- one fact where another holds
pub dec_where : {P Q : Type 0} → Dec P → Dec Q → Dec (P → Q)
dec_where d (yes q) = yes (λ _. q)
dec_where (no none) (no none') = yes (λ p. absurd (none p))
dec_where (yes p) (no none) = no (λ f. none (f p))

-- a fact doesn't hold
pub dec_not : {P : Type 0} → Dec P → Dec (¬ P)
dec_not (yes p) = no (λ f. f p)
dec_not (no none) = yes none

-- a test passes
pub dec_true : (b : Bool) → Dec (b ≡ true)
dec_true true = yes refl
dec_true false = no (λ e. both_ways false refl e)

-- two numbers are the same
pub dec_same : (a b : ℕ) → Dec (a ≡ b)
dec_same a b = elim (cases_eq a b) [ inl same ↦ yes same | inr other ↦ no other ]

-- one number is below another
pub dec_below : (a b : ℕ) → Dec (a < b)
dec_below a b = elim (cases_lt a b) [ inl less ↦ yes less | inr more ↦ no (λ less. omega arith) ]

-- one number is at most another
pub dec_most : (a b : ℕ) → Dec (a ≤ b)
dec_most a b = elim (cases_lt b a) [ inl less ↦ no (λ most. omega arith) | inr most ↦ yes most ]

-- each number below n
pub dec_each : (P : ℕ → Type 0) → ((k : ℕ) → Dec (P k)) → (n : ℕ) → Dec ((k : ℕ) → k < n → P k)
dec_each P decide zero = yes (λ k less. absurd (omega arith))
dec_each P decide (suc n) = dec_like (λ x. each_more P n x.0 x.1) (λ x. (λ k less. x k (omega arith), x n (omega arith))) (dec_both (dec_each P decide n) (decide n))
  where
    each_more : (P : ℕ → Type 0) (n : ℕ) → ((k : ℕ) → k < n → P k) → P n → (k : ℕ) → k < suc n → P k
    each_more P n below here k less =
        elim (cases_eq k n) [
          | inl same ↦ subst P (sym same) here
          | inr other ↦ below k (omega arith)
        ]

-- each element
pub dec_all : {A : Type 0} (P : A → Type 0) → ((x : A) → Dec (P x)) → (xs : List A) → Dec (All P xs)
dec_all P decide [] = yes (λ k d less. absurd (omega arith))
dec_all P decide (x ∷ xs) =
    dec_like (λ y. All-cons P x xs y.0 y.1) (λ y. (All-head P x xs y, All-tail P x xs y)) (dec_both (decide x) (dec_all P decide xs))

-- each element, one after another
pub dec_by_recursion : {A : Type 0} (P : A → Type 0) → ((x : A) → Dec (P x)) → (xs : List A) → Dec (AllByRecursion P xs)
dec_by_recursion P decide [] = yes tt
dec_by_recursion P decide (x ∷ xs) = dec_both (decide x) (dec_by_recursion P decide xs)

-- each byte passes the test
pub dec_pass : (test : ℕ → Bool) (text : List ℕ) → Dec (All (λ b. test b ≡ true) text)
dec_pass test text = dec_all (λ b. test b ≡ true) (λ b. dec_true (test b)) text

-- the bytes begin with these
pub dec_front : (front text : List ℕ) → Dec ((rest : List ℕ) × (text ≡ front ++ rest))
dec_front [] text = yes (text, refl)
dec_front (f ∷ front) [] = no (λ x. front_nil x.0 x.1)
  where
    front_nil : (rest : List ℕ) → [] ≡ f ∷ (front ++ rest) → ⊥
    front_nil rest e = cc
dec_front (f ∷ front) (t ∷ text) =
    dec_like (λ x. (x.1.0, λ i. x.0 i ∷ x.1.1 i)) (λ x. front_parts x.0 x.1) (dec_both (dec_same t f) (dec_front front text))
  where
    front_parts : (rest : List ℕ) → t ∷ text ≡ f ∷ (front ++ rest) → (t ≡ f) × ((rest : List ℕ) × (text ≡ front ++ rest))
    front_parts rest e = (cc, (rest, cc))

-- the bytes are these
pub dec_bytes : (a b : List ℕ) → Dec (a ≡ b)
dec_bytes [] [] = yes refl
dec_bytes [] (y ∷ b) = no (λ e. nil_cons y b e)
  where
    nil_cons : (y : ℕ) (b : List ℕ) → [] ≡ y ∷ b → ⊥
    nil_cons y b e = cc
dec_bytes (x ∷ a) [] = no (λ e. cons_nil x a e)
  where
    cons_nil : (x : ℕ) (a : List ℕ) → x ∷ a ≡ [] → ⊥
    cons_nil x a e = cc
dec_bytes (x ∷ a) (y ∷ b) = dec_like (λ p i. p.0 i ∷ p.1 i) (λ e. parts e) (dec_both (dec_same x y) (dec_bytes a b))
  where
    parts : x ∷ a ≡ y ∷ b → (x ≡ y) × (a ≡ b)
    parts e = (cc, cc)

-- ---- two parts of a text

-- the text is two parts of which P holds
abbrev pub HasCut : (List ℕ → List ℕ → Type 0) → List ℕ → Type 0
HasCut P text = (a : List ℕ) × (b : List ℕ) × (text ≡ a ++ b) × P a b

-- the empty text
cut_of_nil : (P : List ℕ → List ℕ → Type 0) (a b : List ℕ) → [] ≡ a ++ b → P a b → P [] []
cut_of_nil P [] [] e p = p
cut_of_nil P [] (y ∷ b) e p = cc
cut_of_nil P (y ∷ a) b e p = cc

-- a cut in front of the first byte, or behind it
cut_of_cons : (P : List ℕ → List ℕ → Type 0) (t : ℕ) (text a b : List ℕ) → t ∷ text ≡ a ++ b → P a b
    → P [] (t ∷ text) ⊎ HasCut (λ c. P (t ∷ c)) text
cut_of_cons P t text [] b e p = inl (subst (P []) (sym e) p)
cut_of_cons P t text (y ∷ a) b e p =
    let first : y ≡ t = cc in
    let others : text ≡ a ++ b = cc in
    inr (a, b, others, subst (λ h. P (h ∷ a) b) first p)

-- some cut
pub dec_cut : (P : List ℕ → List ℕ → Type 0) → ((a b : List ℕ) → Dec (P a b)) → (text : List ℕ) → Dec (HasCut P text)
dec_cut P decide [] = dec_like (λ p. ([], [], refl, p)) (λ x. cut_of_nil P x.0 x.1 x.2 x.3) (decide [] [])
dec_cut P decide (t ∷ text) =
    dec_like (λ x. cut_from x) (λ x. cut_of_cons P t text x.0 x.1 x.2 x.3)
    (dec_either (decide [] (t ∷ text)) (dec_cut (λ c. P (t ∷ c)) (λ c. decide (t ∷ c)) text))
  where
    cut_from : P [] (t ∷ text) ⊎ HasCut (λ c. P (t ∷ c)) text → HasCut P (t ∷ text)
    cut_from (inl here) = ([], t ∷ text, refl, here)
    cut_from (inr later) = (t ∷ later.0, later.1, ap (λ (l : List ℕ). t ∷ l) later.2, later.3)
