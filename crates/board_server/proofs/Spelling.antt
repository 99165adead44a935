-- What words spell.
use Rattle.std.proofs.Common.{◌≡◌, ◌≤◌, ◌<◌, ℕ, List, [], ◌∷◌, length, map, get_or, sym, ap, subst, ◌∙◌, arith}
use Rattle.board_server.specs.Words.{AreNumbers, AreWords}

-- a list of three is its elements
items_of : {X : Type 0} (items : List X) (a b c : X) → 3 ≤ length items → length items < 4 → a ≡ get_or items 0 a → b ≡ get_or items 1 b → c ≡ get_or items 2 c → items ≡ a ∷ b ∷ c ∷ []
items_of [] a b c some few x y z = absurd (omega (arith, some))
items_of (u ∷ []) a b c some few x y z = absurd (omega (arith, some))
items_of (u ∷ v ∷ []) a b c some few x y z = absurd (omega (arith, some))
items_of (u ∷ v ∷ w ∷ []) a b c some few x y z = λ i. sym x i ∷ sym y i ∷ sym z i ∷ []
items_of (u ∷ v ∷ w ∷ t ∷ more) a b c some few x y z = absurd (omega (arith, few))

pub spelled : {X : Type 0} (spell : X → List ℕ) (items : List X) (a b c : X) (first second third : List ℕ) → 3 ≤ length items → length items < 4 → a ≡ get_or items 0 a → b ≡ get_or items 1 b → c ≡ get_or items 2 c
    → first ≡ spell a → second ≡ spell b → third ≡ spell c → map spell items ≡ first ∷ second ∷ third ∷ []
spelled spell items a b c first second third some few x y z one two three =
    ap (map spell) (items_of items a b c some few x y z) ∙ (λ i. sym one i ∷ sym two i ∷ sym three i ∷ [])

-- the numbers of three words
pub numbers_in : (words : List (List ℕ)) (first second third : List ℕ) (port most polls : ℕ) → words ≡ first ∷ second ∷ third ∷ [] → AreWords words port most polls → AreNumbers first second third port most polls
numbers_in words first second third port most polls are is =
    let same = sym is.words_are ∙ are in
    let one : is.first ≡ first = ap (λ (l : List (List ℕ)). get_or l 0 []) same in
    let two : is.second ≡ second = ap (λ (l : List (List ℕ)). get_or l 1 []) same in
    let three : is.third ≡ third = ap (λ (l : List (List ℕ)). get_or l 2 []) same in
    subst (λ (x : List ℕ). AreNumbers first second x port most polls) three
    (subst (λ (x : List ℕ). AreNumbers first x is.third port most polls) two (subst (λ (x : List ℕ). AreNumbers x is.second is.third port most polls) one is.numbers))
