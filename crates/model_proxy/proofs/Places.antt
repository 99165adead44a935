-- What became of a request stands in the history, at its place.
use Rattle.std.proofs.Common.{◌≡◌, ◌⊎◌, ℕ, ◌≤◌, Bool, true, false, ◌||◌, ◌&&◌, suc, List, [], ◌∷◌, ◌++◌, length, refl, sym, ◌∙◌, subst, arith, inl, inr, Option, Some, None, is_some, is_none}
use Rattle.std.proofs.lemmas.Bool.{false≢true}
use Rattle.std.specs.List.{list_any, AllByRecursion}
use Rattle.model_h1.specs.Setting.{Setting}
use Rattle.model_h1.specs.Sums.{Step}
use Rattle.model_proxy.specs.Edge.{Edge}
use Rattle.model_proxy.specs.Past.{ProxyEvent, client, server, client_eof, server_eof, connected, refused, to_client, to_server, tick, ProxyStep, is_refusal, is_connection}
use Rattle.model_proxy.specs.Exchange.{Exchange}
use Rattle.model_proxy.specs.Forwarding.{is_there, IsSentNow, IsNew, NewestGoesOn, IsForwarding, at_first, behind}

abbrev IsUnrefused : Exchange → Type 0
IsUnrefused x = x.was_refused ≡ false

none_left : (a b : Bool) → (a || b) ≡ false → (a ≡ false) × (b ≡ false)
none_left false b e = (refl, e)
none_left true b e = absurd (false≢true (sym e))

still_none : (a b c : Bool) → a ≡ false → b ≡ false → (a || (b && c)) ≡ false
still_none false false c x y = refl
still_none false true c x y = absurd (false≢true (sym y))
still_none true b c x y = absurd (false≢true (sym x))

all_of : (P : Exchange → Type 0) (xs ys : List Exchange) → AllByRecursion P xs → AllByRecursion P ys → AllByRecursion P (xs ++ ys)
all_of P [] ys a b = b
all_of P (x ∷ xs) ys a b = (a.0, all_of P xs ys a.1 b)

-- ---- refusals

new_unrefused : (event : ProxyEvent) (waiting : Option (List ℕ)) (history : List ProxyStep) (ys : List Exchange)
    → AllByRecursion (IsNew event waiting history) ys → AllByRecursion IsUnrefused ys
new_unrefused event waiting history [] x = tt
new_unrefused event waiting history (y ∷ ys) x = (x.0.unrefused, new_unrefused event waiting history ys x.1)

old_unrefused : (event : ProxyEvent) (waiting : Option (List ℕ)) (history : List ProxyStep) (xs ys : List Exchange) → is_refusal event ≡ false
    → NewestGoesOn event waiting history xs ys → AllByRecursion IsUnrefused xs → AllByRecursion IsUnrefused ys
old_unrefused event waiting history [] [] never x all = tt
old_unrefused event waiting history [] (y ∷ ys) never go all = absurd go
old_unrefused event waiting history (x ∷ xs) [] never go all = absurd go
old_unrefused event waiting history (x ∷ xs) (y ∷ ys) never go all =
    (go.0.refused ∙ still_none x.was_refused (is_refusal event) (is_none x.server) all.0 never, subst (AllByRecursion IsUnrefused) (sym go.1) all.1)

pub none_refused : (edge : Edge) (setting : Setting) (history : List ProxyStep) (waiting : Option (List ℕ)) (trace : List Step) (xs : List Exchange)
    → IsForwarding edge setting history waiting trace xs → list_any (λ s. is_refusal s.event) history ≡ false → AllByRecursion (λ x. x.was_refused ≡ false) xs
none_refused edge setting _ _ _ _ at_first never = tt
none_refused edge setting _ _ _ _ (behind s history before trace xs waiting did ys x does go fits) never =
    let split = none_left (is_refusal s.event) (list_any (λ t. is_refusal t.event) history) never in
    let earlier = none_refused edge setting history before trace xs x split.1 in
    subst (AllByRecursion IsUnrefused) (sym go.are)
    (all_of IsUnrefused go.newer go.older (new_unrefused s.event before (s ∷ history) go.newer go.begun)
    (old_unrefused s.event before (s ∷ history) xs go.older split.0 go.go_on earlier))

-- ---- where it was sent

abbrev IsSentBy : ℕ → Exchange → Type 0
IsSentBy n x = (k : ℕ) → x.server ≡ Some k → x.sent_at ≤ n

later : (n : ℕ) (xs : List Exchange) → AllByRecursion (IsSentBy n) xs → AllByRecursion (IsSentBy (suc n)) xs
later n [] all = tt
later n (x ∷ xs) all = (λ k e. let low = all.0 k e in omega (arith, low), later n xs all.1)

now_sent : (event : ProxyEvent) (waiting : Option (List ℕ)) (history : List ProxyStep) (y : Exchange) → IsSentNow event waiting history y
    → IsSentBy (length history) y
now_sent event waiting history y x = λ k e. let at = x.at in omega (arith, at)

new_sent : (event : ProxyEvent) (waiting : Option (List ℕ)) (history : List ProxyStep) (y : Exchange)
    → (y.server ≡ None) ⊎ IsSentNow event waiting history y → IsSentBy (length history) y
new_sent event waiting history y (inl none) = λ k e. let no : None ≡ Some k = sym none ∙ e in cc
new_sent event waiting history y (inr now) = now_sent event waiting history y now

all_new : (event : ProxyEvent) (waiting : Option (List ℕ)) (history : List ProxyStep) (ys : List Exchange)
    → AllByRecursion (IsNew event waiting history) ys → AllByRecursion (IsSentBy (length history)) ys
all_new event waiting history [] x = tt
all_new event waiting history (y ∷ ys) x = (new_sent event waiting history y x.0.sent, all_new event waiting history ys x.1)

one_on : (event : ProxyEvent) (waiting : Option (List ℕ)) (s : ProxyStep) (history : List ProxyStep) (x y : Exchange)
    → ((y.server ≡ x.server) × (y.sent_at ≡ x.sent_at)) ⊎ ((x.server ≡ None) × IsSentNow event waiting (s ∷ history) y)
    → IsSentBy (length history) x → IsSentBy (suc (length history)) y
one_on event waiting s history x y (inl same) before = λ k e.
    let low = before k (sym same.0 ∙ e) in
    let at = same.1 in
    omega (arith, low, at)
one_on event waiting s history x y (inr now) before = λ k e. now_sent event waiting (s ∷ history) y now.1 k e

all_old : (event : ProxyEvent) (waiting : Option (List ℕ)) (s : ProxyStep) (history : List ProxyStep) (xs ys : List Exchange)
    → NewestGoesOn event waiting (s ∷ history) xs ys → AllByRecursion (IsSentBy (length history)) xs → AllByRecursion (IsSentBy (suc (length history))) ys
all_old event waiting s history [] [] go all = tt
all_old event waiting s history [] (y ∷ ys) go all = absurd go
all_old event waiting s history (x ∷ xs) [] go all = absurd go
all_old event waiting s history (x ∷ xs) (y ∷ ys) go all =
    (one_on event waiting s history x y go.0.sent all.0, subst (AllByRecursion (IsSentBy (suc (length history)))) (sym go.1) (later (length history) xs all.1))

pub sent_by : (edge : Edge) (setting : Setting) (history : List ProxyStep) (waiting : Option (List ℕ)) (trace : List Step) (xs : List Exchange)
    → IsForwarding edge setting history waiting trace xs → AllByRecursion (λ x. (k : ℕ) → x.server ≡ Some k → x.sent_at ≤ length history) xs
sent_by edge setting _ _ _ _ at_first = tt
sent_by edge setting _ _ _ _ (behind s history before trace xs waiting did ys x does go fits) =
    subst (AllByRecursion (IsSentBy (suc (length history)))) (sym go.are)
    (all_of (IsSentBy (suc (length history))) go.newer go.older (all_new s.event before (s ∷ history) go.newer go.begun)
    (all_old s.event before s history xs go.older go.go_on (sent_by edge setting history before trace xs x)))

-- ---- where a server connection was opened

opened_by : (event : ProxyEvent) (before : Option (List ℕ)) → is_there event before ≡ true → (is_connection event ≡ true) ⊎ (is_some before ≡ true)
opened_by connected before e = inl refl
opened_by (client bytes) before e = inr e
opened_by (server bytes) before e = inr e
opened_by client_eof before e = inr e
opened_by server_eof before e = inr e
opened_by refused before e = inr e
opened_by (to_client n) before e = inr e
opened_by (to_server n) before e = inr e
opened_by (tick ms) before e = inr e

now_or_earlier : (Before : Type 0) (now earlier : Bool) → (now ≡ true) ⊎ Before → (Before → earlier ≡ true) → (now || earlier) ≡ true
now_or_earlier Before true earlier is were = refl
now_or_earlier Before false earlier (inl is) were = absurd (false≢true is)
now_or_earlier Before false earlier (inr before) were = were before

pub was_connected : (edge : Edge) (setting : Setting) (history : List ProxyStep) (waiting : Option (List ℕ)) (trace : List Step) (xs : List Exchange)
    → IsForwarding edge setting history waiting trace xs → is_some waiting ≡ true → list_any (λ s. is_connection s.event) history ≡ true
was_connected edge setting _ _ _ _ at_first some = absurd (false≢true some)
was_connected edge setting _ _ _ _ (behind s history before trace xs waiting did ys x does go fits) some =
    now_or_earlier (is_some before ≡ true) (is_connection s.event) (list_any (λ t. is_connection t.event) history)
    (opened_by s.event before (does.opened some)) (λ was. was_connected edge setting history before trace xs x was)
