-- What isn't one of a forwarder, whatever is claimed of its requests.
use Rattle.std.proofs.Common.{◌≡◌, ◌⊎◌, ℕ, ◌≤◌, Bool, true, false, zero, suc, cond, filter, map, reverse, drop, flat_map, List, [], ◌∷◌, ◌++◌, length, codes, refl, sym, ap, ◌∙◌, subst, arith, inl, inr, lit<, Option, Some, None}
use Rattle.std.proofs.lemmas.Bool.{false≢true}
use Rattle.httparse.specs.Grammar.{trim_ows}
use Rattle.model_h1.specs.Sums as sums
use Rattle.model_h1.specs.Sums.{Step}
use Rattle.model_h1.specs.Past.{steps}
use Rattle.model_h1.specs.Request.{Head}
use Rattle.model_h1.specs.Laws.ExampleTraces.{usual, get_head}
use Rattle.model_h1.specs.Laws.Exchanges.{AnswerGiven, exchanges, changed_by}
use Rattle.std.specs.List.{AllByRecursion}
use Rattle.model_h1.specs.Handed.{Begins}
use Rattle.model_client.specs.AnswerReading.{Answer}
use Rattle.model_proxy.specs.Judged.{is_refused}
use Rattle.model_proxy.specs.Forward.{is_forwardable, forward}
use Rattle.model_proxy.specs.Answers.{bad, IsAnswer, reply_head}
use Rattle.model_proxy.specs.Past.{ProxyEvent, ProxyStep, server, connected, to_server, took, gave, done, servers}
use Rattle.model_proxy.specs.Exchange.{Exchange, is_on, sent_of, sent_on, answer_input}
use Rattle.model_proxy.specs.Forwarding.{IsPassedOn, IsOwn, IsReplyBy, IsReplyFrom, IsSentNow, NewestGoesOn, AllGoOn, IsForwarding, behind}
use Rattle.model_proxy.specs.Laws.Histories.{refused_past, asked_history, get_sent, unasked_history, late_answer, swallowed_history, swallowed_past}
use Rattle.model_proxy.specs.Laws.Samples.{usual_edge, step, came, hi, hi_text, timeout_text}
use Rattle.model_proxy.proofs.FoundAnswers.{answer_unique}
use Rattle.model_proxy.proofs.ExampleLemmas.{hi_found, long_answer}
use Rattle.model_proxy.proofs.GivenRequests.{given_begins}
use Rattle.model_proxy.proofs.SoFar.{so_far}
use Rattle.model_proxy.proofs.Places.{none_refused, sent_by}

-- a reply to a request that can be sent on and wasn't refused is one from a server connection
has_server : (history : List ProxyStep) (x : Exchange) (a : AnswerGiven) (bad_head can was : Bool) (number : Option ℕ) → bad_head ≡ false → can ≡ true → was ≡ false
    → IsReplyBy usual_edge usual history [] x a bad_head can was number → (k : ℕ) × (number ≡ Some k)
has_server history x a false true false (Some k) d e f reply = (k, refl)
has_server history x a false true false None d e f reply = absurd reply
has_server history x a false true true number d e f reply = absurd (false≢true (sym f))
has_server history x a false false was number d e f reply = absurd (false≢true e)
has_server history x a true can was number d e f reply = absurd (false≢true (sym d))

pub unasked : (waiting : Option (List ℕ)) (xs : List Exchange) → IsForwarding usual_edge usual unasked_history waiting (steps refused_past) xs → ⊥
unfolding exchanges changed_by servers sums.last_tick trim_ows
unasked waiting [] f = (so_far usual_edge usual unasked_history waiting (steps refused_past) [] f).replied
unasked waiting (x ∷ y ∷ more) f = (so_far usual_edge usual unasked_history waiting (steps refused_past) (x ∷ y ∷ more) f).replied.2
unasked waiting (x ∷ []) f =
    let now = so_far usual_edge usual unasked_history waiting (steps refused_past) (x ∷ []) f in
    let right : is_refused usual_edge x.pulled.head ≡ false = ap (is_refused usual_edge) (sym now.replied.0) in
    let can : is_forwardable usual_edge x.pulled.head ≡ true = ap (is_forwardable usual_edge) (sym now.replied.0) in
    let was = (none_refused usual_edge usual unasked_history waiting (steps refused_past) (x ∷ []) f refl).0 in
    let there = has_server unasked_history x _ (is_refused usual_edge x.pulled.head) (is_forwardable usual_edge x.pulled.head) x.was_refused x.server right can was now.replied.1 in
    let low = (now.rightly.0 there.0 there.1).2 in
    let none : ⊥ = omega (arith, low) in
    none

-- ---- a swallowed answer

-- one of these was sent on by the first n steps
abbrev HasSent : ℕ → List Exchange → Type 0
HasSent n [] = ⊥
HasSent n (x ∷ xs) = ((k : ℕ) × (x.server ≡ Some k) × (x.sent_at ≤ n)) ⊎ HasSent n xs

abbrev IsSentBy : ℕ → Exchange → Type 0
IsSentBy n x = (k : ℕ) → x.server ≡ Some k → x.sent_at ≤ n

somewhere : (x : Exchange) (s : Option ℕ) → is_on 0 (record x { server = s }) ≡ true → (k : ℕ) × (s ≡ Some k)
somewhere x None e = absurd (false≢true e)
somewhere x (Some k) e = (k, refl)

one_or_none : (n : ℕ) (xs : List Exchange) → AllByRecursion (IsSentBy n) xs → (filter (is_on 0) xs ≡ []) ⊎ HasSent n xs
one_or_none n [] all = inl refl
one_or_none n (x ∷ xs) all = by_rest (one_or_none n xs all.1)
  where
    by_test : (t : Bool) → is_on 0 x ≡ t → filter (is_on 0) xs ≡ [] → (filter (is_on 0) (x ∷ xs) ≡ []) ⊎ HasSent n (x ∷ xs)
    by_test true e none =
        let there = somewhere x x.server e in
        inr (inl (there.0, there.1, all.0 there.0 there.1))
    by_test false e none = inl (ap (λ t. cond t (x ∷ filter (is_on 0) xs) (filter (is_on 0) xs)) e ∙ none)

    by_rest : (filter (is_on 0) xs ≡ []) ⊎ HasSent n xs → (filter (is_on 0) (x ∷ xs) ≡ []) ⊎ HasSent n (x ∷ xs)
    by_rest (inr has) = inr (inr has)
    by_rest (inl none) = by_test (is_on 0 x) refl none

one_stays : (event : ProxyEvent) (waiting : Option (List ℕ)) (history : List ProxyStep) (n : ℕ) (x y : Exchange)
    → ((y.server ≡ x.server) × (y.sent_at ≡ x.sent_at)) ⊎ ((x.server ≡ None) × IsSentNow event waiting history y)
    → (k : ℕ) × (x.server ≡ Some k) × (x.sent_at ≤ n) → (k : ℕ) × (y.server ≡ Some k) × (y.sent_at ≤ n)
one_stays event waiting history n x y (inl same) has = (has.0, same.0 ∙ has.1, subst (λ (at : ℕ). at ≤ n) (sym same.1) has.2)
one_stays event waiting history n x y (inr now) has = let no : None ≡ Some has.0 = sym now.0 ∙ has.1 in let none : ⊥ = cc in absurd none

old_stay : (event : ProxyEvent) (waiting : Option (List ℕ)) (history : List ProxyStep) (n : ℕ) (xs ys : List Exchange)
    → NewestGoesOn event waiting history xs ys → HasSent n xs → HasSent n ys
old_stay event waiting history n [] ys go has = absurd has
old_stay event waiting history n (x ∷ xs) [] go has = absurd go
old_stay event waiting history n (x ∷ xs) (y ∷ ys) go (inl one) = inl (one_stays event waiting history n x y go.0.sent one)
old_stay event waiting history n (x ∷ xs) (y ∷ ys) go (inr more) = inr (subst (HasSent n) (sym go.1) more)

behind_newer : (n : ℕ) (newer older : List Exchange) → HasSent n older → HasSent n (newer ++ older)
behind_newer n [] older has = has
behind_newer n (x ∷ newer) older has = inr (behind_newer n newer older has)

stays : (event : ProxyEvent) (waiting : Option (List ℕ)) (history : List ProxyStep) (n : ℕ) (xs ys : List Exchange)
    → AllGoOn event waiting history xs ys → HasSent n xs → HasSent n ys
stays event waiting history n xs ys go has =
    subst (HasSent n) (sym go.are) (behind_newer n go.newer go.older (old_stay event waiting history n xs go.older go.go_on has))

-- the request was given to the server by the fourth step
abbrev given_now : List ProxyStep
given_now = step (to_server 500) (gave get_sent) ∷ step connected done ∷ asked_history

not_empty : (b : ℕ) (bytes : List ℕ) → [] ≡ b ∷ bytes → ⊥
not_empty b bytes e = cc

given_is_sent : (waiting : Option (List ℕ)) (trace : List Step) (xs : List Exchange) → IsForwarding usual_edge usual given_now waiting trace xs → HasSent 4 xs
unfolding servers
given_is_sent waiting trace xs f = by_case (one_or_none 4 xs (sent_by usual_edge usual given_now waiting trace xs f))
  where
    by_case : (filter (is_on 0) xs ≡ []) ⊎ HasSent 4 xs → HasSent 4 xs
    by_case (inr has) = has
    by_case (inl none) =
        let text = flat_map forward (sent_on usual_edge given_now 0 xs) in
        let begins : Begins get_sent text = given_begins waiting true get_sent text ((so_far usual_edge usual given_now waiting trace xs f).towards 0 (lit< tt)) in
        let empty : text ≡ [] = ap (λ ys. flat_map forward (map (sent_of usual_edge given_now) (reverse ys))) none in
        absurd (not_empty 71 (drop 1 get_sent ++ begins.0) (sym empty ∙ begins.1))

sent_early : (waiting : Option (List ℕ)) (trace : List Step) (xs : List Exchange) → IsForwarding usual_edge usual swallowed_history waiting trace xs → HasSent 4 xs
sent_early _ _ _ (behind _ _ w6 t6 xs6 _ _ ys6 (behind _ _ w5 t5 xs5 _ _ ys5 f _ go5 fits5) _ go6 fits6) =
    stays _ w6 swallowed_history 4 ys5 ys6 go6 (stays _ w5 (step (server hi_text) (took 40) ∷ given_now) 4 xs5 ys5 go5 (given_is_sent w5 t5 xs5 f))

reply_from : (history : List ProxyStep) (x : Exchange) (a : AnswerGiven) (bad_head can was : Bool) (number : Option ℕ) (k : ℕ) → bad_head ≡ false → can ≡ true → was ≡ false
    → number ≡ Some k → IsReplyBy usual_edge usual history [] x a bad_head can was number → IsReplyFrom usual history x k (length history) a
reply_from history x a false true false (Some j) k d e f at reply =
    let same : j ≡ k = cc in
    subst (λ (n : ℕ). IsReplyFrom usual history x n (length history) a) same reply
reply_from history x a false true false None k d e f at reply = absurd reply
reply_from history x a false true true number k d e f at reply = absurd (false≢true (sym f))
reply_from history x a false false was number k d e f at reply = absurd (false≢true e)
reply_from history x a true can was number k d e f at reply = absurd (false≢true (sym d))

input_is : (n : ℕ) → n ≤ 4 → answer_input usual swallowed_history 0 n 6 ≡ came (hi_text ++ timeout_text) false
unfolding servers
input_is zero low = refl
input_is (suc zero) low = refl
input_is (suc (suc zero)) low = refl
input_is (suc (suc (suc zero))) low = refl
input_is (suc (suc (suc (suc zero)))) low = refl
input_is (suc (suc (suc (suc (suc n))))) low = let none : ⊥ = omega (arith, low) in absurd none

unlike : (x : Exchange) (a : AnswerGiven) → a.answered.head ≡ reply_head late_answer → x.pulled.head ≡ get_head → x.sent_at ≤ 4
    → IsReplyFrom usual swallowed_history x 0 6 a → ⊥
unlike x a head asked low reply =
    by_case reply.2
  where
    there : IsAnswer (came (hi_text ++ timeout_text) false) (codes "GET") reply.0
    there = subst (λ input. IsAnswer input (codes "GET") reply.0) (input_is x.sent_at low)
        (subst (λ (h : Head). IsAnswer (answer_input usual swallowed_history 0 x.sent_at 6) h.method reply.0) asked reply.1)

    same : reply.0 ≡ hi_found
    same = answer_unique (came (hi_text ++ timeout_text) false) (codes "GET") reply.0 hi_found there long_answer

    by_case : ((answer : Answer) × IsPassedOn x.pulled.head.method a reply.0 answer)
        ⊎ ((reply.0.response ≡ None) × (((reply.0.fate ≡ bad) × IsOwn 502 a) ⊎ ((x.pulled.is_broken ≡ true) × IsOwn 400 a))) → ⊥
    by_case (inl passed) =
        let response : Some hi ≡ Some passed.0 = sym (ap (λ f. f.response) same) ∙ passed.1.response in
        let is : hi ≡ passed.0 = cc in
        let first : 408 ≡ passed.0.status = ap (λ h. h.status) (sym head ∙ passed.1.head) in
        let second : 200 ≡ passed.0.status = ap (λ b. b.status) is in
        let none : ⊥ = omega (arith, first, second) in
        none
    by_case (inr own) =
        let response : Some hi ≡ None = sym (ap (λ f. f.response) same) ∙ own.0 in
        let none : ⊥ = cc in
        none

only : (n : ℕ) (x : Exchange) → HasSent n (x ∷ []) → (k : ℕ) × (x.server ≡ Some k) × (x.sent_at ≤ n)
only n x (inl one) = one
only n x (inr none) = absurd none

pub swallowed : (waiting : Option (List ℕ)) (xs : List Exchange) → IsForwarding usual_edge usual swallowed_history waiting (steps swallowed_past) xs → ⊥
unfolding exchanges changed_by servers sums.last_tick trim_ows
swallowed waiting [] f = (so_far usual_edge usual swallowed_history waiting (steps swallowed_past) [] f).replied
swallowed waiting (x ∷ y ∷ more) f = (so_far usual_edge usual swallowed_history waiting (steps swallowed_past) (x ∷ y ∷ more) f).replied.2
swallowed waiting (x ∷ []) f =
    let now = so_far usual_edge usual swallowed_history waiting (steps swallowed_past) (x ∷ []) f in
    let right : is_refused usual_edge x.pulled.head ≡ false = ap (is_refused usual_edge) (sym now.replied.0) in
    let can : is_forwardable usual_edge x.pulled.head ≡ true = ap (is_forwardable usual_edge) (sym now.replied.0) in
    let was = (none_refused usual_edge usual swallowed_history waiting (steps swallowed_past) (x ∷ []) f refl).0 in
    let sent = only 4 x (sent_early waiting (steps swallowed_past) (x ∷ []) f) in
    let low = (now.rightly.0 sent.0 sent.1).2 in
    let zeroth : sent.0 ≡ 0 = omega (arith, low) in
    let reply = reply_from swallowed_history x _ (is_refused usual_edge x.pulled.head) (is_forwardable usual_edge x.pulled.head) x.was_refused x.server 0 right can was (sent.1 ∙ ap Some zeroth) now.replied.1 in
    unlike x _ refl (sym now.replied.0) sent.2 reply
