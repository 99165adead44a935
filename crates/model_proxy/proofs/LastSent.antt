-- The last request that was sent on a server connection, and its reply.
use Rattle.std.proofs.Common.{◌≡◌, ℕ, Bool, true, false, cond, List, [], ◌∷◌, length, filter, refl, sym, ap, ◌∙◌, subst, Option, Some, None}
use Rattle.std.specs.Prelude.{⊤}
use Rattle.std.specs.List.{AllByRecursion}
use Rattle.std.proofs.lemmas.Bool.{false≢true, eqb-true, eq-eqb}
use Rattle.model_h1.specs.Setting.{Setting}
use Rattle.model_h1.specs.Laws.Exchanges.{Reply}
use Rattle.model_h1.specs.Laws.Exchanges as replies
use Rattle.model_proxy.specs.Edge.{Edge}
use Rattle.model_proxy.specs.Past.{ProxyStep}
use Rattle.model_proxy.specs.Exchange.{Exchange, is_on}
use Rattle.model_proxy.specs.Forwarding.{AreReplies, IsAlone}
use Rattle.model_proxy.proofs.MovedSteps.{IsPassedReply, NewestIsPassed}
use Rattle.model_proxy.proofs.SentMoves.{LastIsAlone}

abbrev pub Chosen : Bool → Type 0 → Type 0 → Type 0
Chosen true A B = A
Chosen false A B = B

-- it is so of the last request that was sent on the connection with this number, and of its reply; and where none was, this holds
abbrev pub LastOn : ℕ → (Exchange → Reply → Type 0) → Type 0 → List Exchange → List replies.Exchange → Type 0
LastOn n Is Unused [] fs = Unused
LastOn n Is Unused (x ∷ xs) [] = ⊥
LastOn n Is Unused (x ∷ xs) (f ∷ fs) = Chosen (is_on n x) (Is x f.reply) (LastOn n Is Unused xs fs)

-- ---- by its number

pub server_of : (n : ℕ) (x : Exchange) (o : Option ℕ) → x.server ≡ o → is_on n x ≡ true → x.server ≡ Some n
server_of n x None at is = absurd (false≢true (sym (ap (λ (s : Option ℕ). is_on n (record x { server = s })) at) ∙ is))
server_of n x (Some m) at is = at ∙ ap Some (eqb-true m n (sym (ap (λ (s : Option ℕ). is_on n (record x { server = s })) at) ∙ is))

pub is_on_it : (n : ℕ) (x : Exchange) → x.server ≡ Some n → is_on n x ≡ true
is_on_it n x at = ap (λ (s : Option ℕ). is_on n (record x { server = s })) at ∙ eq-eqb n n refl

pub is_off : (n : ℕ) (x : Exchange) → x.server ≡ None → is_on n x ≡ false
is_off n x none = ap (λ (s : Option ℕ). is_on n (record x { server = s })) none

-- ---- the newest

pub of_newest : (n : ℕ) (P : Exchange → Reply → Type 0) (U : Type 0) (x : Exchange) (xs : List Exchange) (f : replies.Exchange) (fs : List replies.Exchange) → x.server ≡ Some n
    → LastOn n P U (x ∷ xs) (f ∷ fs) → P x f.reply
of_newest n P U x xs f fs at y = subst (λ (t : Bool). Chosen t (P x f.reply) (LastOn n P U xs fs)) (is_on_it n x at) y

pub to_newest : (n : ℕ) (P : Exchange → Reply → Type 0) (U : Type 0) (x : Exchange) (xs : List Exchange) (f : replies.Exchange) (fs : List replies.Exchange) → x.server ≡ Some n
    → P x f.reply → LastOn n P U (x ∷ xs) (f ∷ fs)
to_newest n P U x xs f fs at p = subst (λ (t : Bool). Chosen t (P x f.reply) (LastOn n P U xs fs)) (sym (is_on_it n x at)) p

pub on_newest : (n : ℕ) (P Q : Exchange → Reply → Type 0) (U V : Type 0) (x y : Exchange) (xs : List Exchange) (fs : List replies.Exchange) → x.server ≡ Some n → y.server ≡ Some n
    → ((r : Reply) → P x r → Q y r) → LastOn n P U (x ∷ xs) fs → LastOn n Q V (y ∷ xs) fs
on_newest n P Q U V x y xs [] at there so z = absurd z
on_newest n P Q U V x y xs (f ∷ fs) at there so z = to_newest n Q V y xs f fs there (so f.reply (of_newest n P U x xs f fs at z))

-- one that wasn't sent
pub of_older : (n : ℕ) (P : Exchange → Reply → Type 0) (U : Type 0) (x : Exchange) (xs : List Exchange) (f : replies.Exchange) (fs : List replies.Exchange) → x.server ≡ None
    → LastOn n P U (x ∷ xs) (f ∷ fs) → LastOn n P U xs fs
of_older n P U x xs f fs none y = subst (λ (t : Bool). Chosen t (P x f.reply) (LastOn n P U xs fs)) (is_off n x none) y

pub to_older : (n : ℕ) (P : Exchange → Reply → Type 0) (U : Type 0) (x : Exchange) (xs : List Exchange) (f : replies.Exchange) (fs : List replies.Exchange) → x.server ≡ None
    → LastOn n P U xs fs → LastOn n P U (x ∷ xs) (f ∷ fs)
to_older n P U x xs f fs none y = subst (λ (t : Bool). Chosen t (P x f.reply) (LastOn n P U xs fs)) (sym (is_off n x none)) y

-- ---- what follows of it

pub last_map : (n : ℕ) (A : Exchange → Type 0) (P Q : Exchange → Reply → Type 0) (U V : Type 0) → ((x : Exchange) (r : Reply) → A x → x.server ≡ Some n → P x r → Q x r)
    → (U → V) → (xs : List Exchange) (fs : List replies.Exchange) → AllByRecursion A xs → LastOn n P U xs fs → LastOn n Q V xs fs
last_map n A P Q U V so none [] fs all y = none y
last_map n A P Q U V so none (x ∷ xs) [] all y = absurd y
last_map n A P Q U V so none (x ∷ xs) (f ∷ fs) all y = by_test (is_on n x) refl y (last_map n A P Q U V so none xs fs all.1)
  where
    by_test : (t : Bool) → is_on n x ≡ t → Chosen t (P x f.reply) (LastOn n P U xs fs) → (LastOn n P U xs fs → LastOn n Q V xs fs)
        → Chosen t (Q x f.reply) (LastOn n Q V xs fs)
    by_test true is y more = so x f.reply all.0 (server_of n x x.server refl is) y
    by_test false is y more = more y

all_so : (xs : List Exchange) → AllByRecursion (λ x. ⊤) xs
all_so [] = tt
all_so (x ∷ xs) = (tt, all_so xs)

pub last_each : (n : ℕ) (P Q : Exchange → Reply → Type 0) (U V : Type 0) → ((x : Exchange) (r : Reply) → x.server ≡ Some n → P x r → Q x r) → (U → V)
    → (xs : List Exchange) (fs : List replies.Exchange) → LastOn n P U xs fs → LastOn n Q V xs fs
last_each n P Q U V so none xs fs y = last_map n (λ x. ⊤) P Q U V (λ x r all at p. so x r at p) none xs fs (all_so xs) y

-- where none was sent there
pub last_unused : (n : ℕ) (P : Exchange → Reply → Type 0) (U : Type 0) (xs : List Exchange) (fs : List replies.Exchange) → filter (is_on n) xs ≡ []
    → LastOn n P U xs fs → U
last_unused n P U [] fs none y = y
last_unused n P U (x ∷ xs) [] none y = absurd y
last_unused n P U (x ∷ xs) (f ∷ fs) none y = by_test (is_on n x) none y (λ rest z. last_unused n P U xs fs rest z)
  where
    by_test : (t : Bool) → cond t (x ∷ filter (is_on n) xs) (filter (is_on n) xs) ≡ [] → Chosen t (P x f.reply) (LastOn n P U xs fs)
        → (filter (is_on n) xs ≡ [] → LastOn n P U xs fs → U) → U
    by_test true none y more = let no : x ∷ filter (is_on n) xs ≡ [] = none in absurd (cc no)
    by_test false none y more = more none y

pub last_none : (edge : Edge) (setting : Setting) (history : List ProxyStep) (n : ℕ) (P : Exchange → Reply → Type 0) (U : Type 0) → U → (later xs : List Exchange) (fs : List replies.Exchange)
    → AreReplies edge setting history later xs fs → filter (is_on n) xs ≡ [] → LastOn n P U xs fs
last_none edge setting history n P U unused later [] fs y none = unused
last_none edge setting history n P U unused later (x ∷ xs) [] y none = absurd y
last_none edge setting history n P U unused later (x ∷ xs) (f ∷ fs) y none =
    by_test (is_on n x) none (λ rest. last_none edge setting history n P U unused (x ∷ later) xs fs y.2 rest)
  where
    by_test : (t : Bool) → cond t (x ∷ filter (is_on n) xs) (filter (is_on n) xs) ≡ [] → (filter (is_on n) xs ≡ [] → LastOn n P U xs fs)
        → Chosen t (P x f.reply) (LastOn n P U xs fs)
    by_test true none more = let no : x ∷ filter (is_on n) xs ≡ [] = none in absurd (cc no)
    by_test false none more = more none

-- ---- one that is later

filled : (n : ℕ) (x : Exchange) (later : List Exchange) → (filter (is_on n) later ≡ [] → ⊥) → filter (is_on n) (x ∷ later) ≡ [] → ⊥
filled n x later some none = by_test (is_on n x) none
  where
    by_test : (t : Bool) → cond t (x ∷ filter (is_on n) later) (filter (is_on n) later) ≡ [] → ⊥
    by_test true none = let no : x ∷ filter (is_on n) later ≡ [] = none in cc no
    by_test false none = some none

pub now_filled : (n : ℕ) (x : Exchange) (later : List Exchange) → is_on n x ≡ true → filter (is_on n) (x ∷ later) ≡ [] → ⊥
now_filled n x later is none =
    let no : x ∷ filter (is_on n) later ≡ [] =
    sym (ap (λ (t : Bool). cond t (x ∷ filter (is_on n) later) (filter (is_on n) later)) is) ∙ none in
    cc no

module _ (setting : Setting) (history : List ProxyStep) (n : ℕ) where
  passed_none : (later xs : List Exchange) (fs : List replies.Exchange) → (filter (is_on n) later ≡ [] → ⊥) → NewestIsPassed setting history n later xs fs
  passed_none later [] fs some = tt
  passed_none later (x ∷ xs) [] some = tt
  passed_none later (x ∷ xs) (f ∷ fs) some = (λ at none. absurd (some none), passed_none (x ∷ later) xs fs (filled n x later some))

  pub last_passed : (P : Exchange → Reply → Type 0) (U : Type 0) → ((x : Exchange) (r : Reply) → x.server ≡ Some n → P x r → IsPassedReply setting history x n r)
      → (later xs : List Exchange) (fs : List replies.Exchange) → LastOn n P U xs fs → NewestIsPassed setting history n later xs fs
  last_passed P U so later [] fs y = tt
  last_passed P U so later (x ∷ xs) [] y = tt
  last_passed P U so later (x ∷ xs) (f ∷ fs) y = by_test (is_on n x) refl y (λ rest. last_passed P U so (x ∷ later) xs fs rest)
    where
      by_test : (t : Bool) → is_on n x ≡ t → Chosen t (P x f.reply) (LastOn n P U xs fs) → (LastOn n P U xs fs → NewestIsPassed setting history n (x ∷ later) xs fs)
          → NewestIsPassed setting history n later (x ∷ xs) (f ∷ fs)
      by_test true is y more = (λ at none. so x f.reply at y, passed_none (x ∷ later) xs fs (now_filled n x later is))
      by_test false is y more = (λ at none. absurd (false≢true (sym is ∙ is_on_it n x at)), more y)

  alone_none : (later xs : List Exchange) → (filter (is_on n) later ≡ [] → ⊥) → LastIsAlone setting history n later xs
  alone_none later [] some = tt
  alone_none later (x ∷ xs) some = (λ at none. absurd (some none), alone_none (x ∷ later) xs (filled n x later some))

  pub last_alone : (P : Exchange → Reply → Type 0) (U : Type 0) → ((x : Exchange) (r : Reply) → x.server ≡ Some n → P x r → IsAlone setting history x n (length history))
      → (later xs : List Exchange) (fs : List replies.Exchange) → LastOn n P U xs fs → LastIsAlone setting history n later xs
  last_alone P U so later [] fs y = tt
  last_alone P U so later (x ∷ xs) [] y = absurd y
  last_alone P U so later (x ∷ xs) (f ∷ fs) y = by_test (is_on n x) refl y (λ rest. last_alone P U so (x ∷ later) xs fs rest)
    where
      by_test : (t : Bool) → is_on n x ≡ t → Chosen t (P x f.reply) (LastOn n P U xs fs) → (LastOn n P U xs fs → LastIsAlone setting history n (x ∷ later) xs)
          → LastIsAlone setting history n later (x ∷ xs)
      by_test true is y more = (λ at none. so x f.reply at y, alone_none (x ∷ later) xs (now_filled n x later is))
      by_test false is y more = (λ at none. absurd (false≢true (sym is ∙ is_on_it n x at)), more y)
