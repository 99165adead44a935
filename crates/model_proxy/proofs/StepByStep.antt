-- Worked histories of a GET, step by step: no server connection is to be had, or its answer is passed on.
use Rattle.std.proofs.Common.{◌≡◌, ℕ, Bool, cond, eqb, map, reverse, zero, suc, ◌<◌, List, [], ◌∷◌, ◌++◌, refl, subst, arith, inl, inr, lit<, lit≤, filter, Some, None, true, false, codes}
use Rattle.std.proofs.lemmas.Bool.{false≢true}
use Rattle.std.specs.Fmt.{digits}
use Rattle.httparse.specs.Grammar.{trim_ows}
use Rattle.model_h1.specs.Answer.{size_of}
use Rattle.model_h1.specs.AnswerText.{year_at, month_at, date_of, appended}
use Rattle.model_h1.specs.Event as on
use Rattle.model_h1.specs.Sums as sums
use Rattle.model_h1.specs.Past.{ParsedStep, steps}
use Rattle.model_h1.specs.Laws.ExampleTraces.{usual, parsed, get_text, get_head, get}
use Rattle.model_h1.specs.Laws.Exchanges.{exchanges, changed_by}
use Rattle.model_h1.proofs.ExampleSteps.{happens}
use Rattle.model_client.specs.RequestText.{request_text}
use Rattle.model_proxy.specs.Edge.{Edge}
use Rattle.model_proxy.specs.Answers.{reply_head, own_head}
use Rattle.model_proxy.specs.Past.{ProxyStep, client, server, connected, refused, to_client, to_server, tick, took, gave, done, client_taken, client_given, servers}
use Rattle.model_proxy.specs.Past as proxy
use Rattle.model_proxy.specs.Exchange.{Exchange, pulled, is_on, sent_of, sent_on}
use Rattle.model_proxy.specs.Forwarding.{IsGivenTo, AreWholeButLast, IsSentRightly, AreReplies, IsCleanAtFirst, IsForwardedSoFar, AllGoOn, IsForwarding, at_first, behind}
use Rattle.model_proxy.specs.Laws.Samples.{usual_edge, step, hi_text, hi}
use Rattle.model_proxy.specs.Laws.Histories.{get_exchange, ticked, ticked_past, asked_history, asked_past, bad_gateway_text, refused_history, refused_past, refused_exchanges, get_sent, hi_passed, whole_history, whole_past, whole_exchanges}
use Rattle.model_proxy.proofs.Histories.{refused_legal, whole_legal}
use Rattle.model_proxy.proofs.ExampleLemmas.{hi_found, hi_answer}
use Rattle.model_proxy.proofs.ToldFirst.{takes, gives, none_clean}

there : (bytes : List ℕ) → Some bytes ≡ None → ⊥
there bytes e = cc

-- ---- the first moment, and a GET

none_at_first : (edge : Edge) (k : ℕ) → k < 0 → IsGivenTo edge (ticked) (None) ([]) k
none_at_first edge k low = let none : ⊥ = omega (arith, low) in absurd none

ticked_fits : (edge : Edge) → IsForwardedSoFar edge usual (ticked) (None) (steps (ticked_past)) ([])
unfolding sums.taken sums.written sums.last_tick sums.since_head client_taken client_given servers proxy.last_tick pulled exchanges changed_by trim_ows
ticked_fits edge = record {
  traced = (happens usual (ticked_past) refused_legal.3.3.3.3.3).trace;
  taken = refl;
  written = refl;
  moment = refl;
  ended = refl;
  undrained = refl;
  requests = refl;
  rightly = tt;
  towards = none_at_first edge;
  whole = λ k. tt;
  used = λ e k f. let none : ⊥ = omega (arith, f) in absurd none;
  told = tt;
  replied = tt;
  clean = none_clean ticked [];
  alone = tt;
  failed = λ e. absurd (false≢true e);
}

pub ticked_forwards : (edge : Edge) → IsForwarding edge usual ticked None (steps ticked_past) []
ticked_forwards edge = behind (step (tick 0) done) [] None [] [] None (steps ticked_past) [] at_first
    (record { told = ([], record { event = on.tick 0; outcome = on.done }, refl, refl); gave = tt; opened = λ e. absurd (false≢true e) })
    (record { newer = []; older = []; are = refl; begun = tt; go_on = tt }) (ticked_fits edge)

abbrev unsent : List Exchange
unsent = get_exchange None 0 false ∷ []

none_asked : (k : ℕ) → k < 0 → IsGivenTo usual_edge (asked_history) (None) (unsent) k
none_asked k low = let none : ⊥ = omega (arith, low) in absurd none

asked_fits : IsForwardedSoFar usual_edge usual (asked_history) (None) (steps (asked_past)) (unsent)
unfolding sums.taken sums.written sums.last_tick sums.since_head client_taken client_given servers proxy.last_tick pulled exchanges changed_by trim_ows
asked_fits = record {
  traced = (happens usual (asked_past) refused_legal.3.3.3).trace;
  taken = refl;
  written = refl;
  moment = refl;
  ended = refl;
  undrained = refl;
  requests = refl;
  rightly = (λ k e. cc, tt);
  towards = none_asked;
  whole = λ k. tt;
  used = λ e k f. let none : ⊥ = omega (arith, f) in absurd none;
  told = (λ t. absurd (false≢true t), tt);
  replied = (refl, tt, tt);
  clean = none_clean asked_history unsent;
  alone = (tt, tt);
  failed = λ e. absurd (false≢true e);
}

pub asked_forwards : IsForwarding usual_edge usual asked_history None (steps asked_past) unsent
asked_forwards = behind (step (client get_text) (took 27)) ticked None (steps ticked_past) [] None
    (steps (parsed on.next (on.head get_head) (get ∷ []) ∷ parsed (on.read get_text) (on.took 27) (get ∷ []) ∷ [])) unsent (ticked_forwards usual_edge)
    (takes get_text 27 (steps (parsed on.next (on.head get_head) (get ∷ []) ∷ [])))
    (record { newer = unsent; older = []; are = refl; begun = (record { sent = inl refl; unrefused = refl }, tt); go_on = tt }) asked_fits

-- ---- no server connection is to be had

abbrev refused_now : List ProxyStep
refused_now = step refused done ∷ asked_history

abbrev refused_now_past : List ParsedStep
refused_now_past = parsed on.next on.pending (get ∷ []) ∷ parsed (on.answer (own_head 502) (size_of 0)) on.done (get ∷ []) ∷ asked_past

none_refused : (k : ℕ) → k < 0 → IsGivenTo usual_edge (refused_now) (None) (refused_exchanges) k
none_refused k low = let none : ⊥ = omega (arith, low) in absurd none

refused_now_fits : IsForwardedSoFar usual_edge usual (refused_now) (None) (steps (refused_now_past)) (refused_exchanges)
unfolding sums.taken sums.written sums.last_tick sums.since_head client_taken client_given servers proxy.last_tick pulled exchanges changed_by trim_ows
refused_now_fits = record {
  traced = (happens usual (refused_now_past) refused_legal.3).trace;
  taken = refl;
  written = refl;
  moment = refl;
  ended = refl;
  undrained = refl;
  requests = refl;
  rightly = (λ k e. cc, tt);
  towards = none_refused;
  whole = λ k. tt;
  used = λ e k f. let none : ⊥ = omega (arith, f) in absurd none;
  told = (λ t. absurd (false≢true t), tt);
  replied = (refl, (refl, refl), tt);
  clean = none_clean refused_now refused_exchanges;
  alone = (tt, tt);
  failed = λ e. absurd (false≢true e);
}

refused_now_forwards : IsForwarding usual_edge usual refused_now None (steps refused_now_past) refused_exchanges
refused_now_forwards = behind (step refused done) asked_history None (steps asked_past) unsent None
    (steps (parsed on.next on.pending (get ∷ []) ∷ parsed (on.answer (own_head 502) (size_of 0)) on.done (get ∷ []) ∷ [])) refused_exchanges asked_forwards
    (record { told = tt; gave = tt; opened = λ e. absurd (false≢true e) })
    (record { newer = []; older = refused_exchanges; are = refl; begun = tt; go_on = (record { sent = inl (refl, refl); refused = refl }, refl) }) refused_now_fits

none_given : (k : ℕ) → k < 0 → IsGivenTo usual_edge (refused_history) (None) (refused_exchanges) k
none_given k low = let none : ⊥ = omega (arith, low) in absurd none

refused_fits : IsForwardedSoFar usual_edge usual (refused_history) (None) (steps (refused_past)) (refused_exchanges)
unfolding sums.taken sums.written sums.last_tick sums.since_head client_taken client_given servers proxy.last_tick pulled exchanges changed_by trim_ows
refused_fits = record {
  traced = (happens usual (refused_past) refused_legal).trace;
  taken = refl;
  written = refl;
  moment = refl;
  ended = refl;
  undrained = refl;
  requests = refl;
  rightly = (λ k e. cc, tt);
  towards = none_given;
  whole = λ k. tt;
  used = λ e k f. let none : ⊥ = omega (arith, f) in absurd none;
  told = (λ t. absurd (false≢true t), tt);
  replied = (refl, (refl, refl), tt);
  clean = none_clean refused_history refused_exchanges;
  alone = (tt, tt);
  failed = λ e. absurd (false≢true e);
}

pub refused_forwards : IsForwarding usual_edge usual refused_history None (steps refused_past) refused_exchanges
refused_forwards = behind (step (to_client 500) (gave bad_gateway_text)) refused_now None (steps refused_now_past) refused_exchanges None
    (steps (parsed (on.write 500) (on.gave bad_gateway_text) (get ∷ []) ∷ [])) refused_exchanges refused_now_forwards
    (gives 500 bad_gateway_text None)
    (record { newer = []; older = refused_exchanges; are = refl; begun = tt; go_on = (record { sent = inl (refl, refl); refused = refl }, refl) }) refused_fits

-- ---- a request is sent on, and its answer passed on

abbrev connected_now : List ProxyStep
connected_now = step connected done ∷ asked_history

abbrev given_now : List ProxyStep
given_now = step (to_server 500) (gave get_sent) ∷ connected_now

abbrev answered_now : List ProxyStep
answered_now = step (server hi_text) (took 40) ∷ given_now

abbrev passing : List ParsedStep
passing =
    parsed on.next on.pending (get ∷ [])
    ∷ parsed on.body_end on.done (get ∷ [])
    ∷ parsed (on.chunk (codes "hi")) on.done (get ∷ [])
    ∷ parsed (on.answer (reply_head hi) (size_of 2)) on.done (get ∷ []) ∷ []

abbrev answered_past : List ParsedStep
answered_past = passing ++ asked_past

rightly_connected : IsSentRightly usual_edge connected_now (get_exchange (Some 0) 3 false)
unfolding servers
rightly_connected = λ k e.
    let same : 0 ≡ k = cc in
    (refl, refl, subst (λ (n : ℕ). n < 1) same (lit< tt))

towards_connected : (k : ℕ) → k < 1 → IsGivenTo usual_edge connected_now (Some get_sent) whole_exchanges k
unfolding servers proxy.last_tick request_text date_of year_at month_at appended digits trim_ows
towards_connected zero low = refl
towards_connected (suc k) low = let none : ⊥ = omega (arith, low) in absurd none

whole_connected : (k : ℕ) → AreWholeButLast (sent_on usual_edge connected_now k whole_exchanges)
whole_connected k = by_test (eqb 0 k)
  where
    by_test : (t : Bool) → AreWholeButLast (map (sent_of usual_edge connected_now) (reverse (cond t whole_exchanges [])))
    by_test true = tt
    by_test false = tt

clean_connected : (k : ℕ) → k < 1 → IsCleanAtFirst connected_now k (reverse (filter (is_on k) whole_exchanges))
unfolding servers
clean_connected zero low = (refl, refl)
clean_connected (suc k) low = let none : ⊥ = omega (arith, low) in absurd none

connected_fits : IsForwardedSoFar usual_edge usual (connected_now) (Some get_sent) (steps (asked_past)) (whole_exchanges)
unfolding sums.taken sums.written sums.last_tick sums.since_head client_taken client_given servers proxy.last_tick pulled exchanges changed_by trim_ows
connected_fits = record {
  traced = (happens usual (asked_past) refused_legal.3.3.3).trace;
  taken = refl;
  written = refl;
  moment = refl;
  ended = refl;
  undrained = refl;
  requests = refl;
  rightly = (rightly_connected, tt);
  towards = towards_connected;
  whole = whole_connected;
  used = λ e. absurd (there _ e);
  told = (λ t. absurd (false≢true t), tt);
  replied = (refl, tt, tt);
  clean = clean_connected;
  alone = (tt, tt);
  failed = λ e. absurd (false≢true e);
}

sent_now : AllGoOn connected None connected_now unsent whole_exchanges
unfolding servers
sent_now = record {
  newer = [];
  older = whole_exchanges;
  are = refl;
  begun = tt;
  go_on = (record { sent = inr (refl, record { there = refl; number = 0; server = refl; newest = refl; at = refl }); refused = refl }, refl);
}

pub connected_forwards : IsForwarding usual_edge usual connected_now (Some get_sent) (steps asked_past) whole_exchanges
connected_forwards = behind (step connected done) asked_history None (steps asked_past) unsent (Some get_sent) [] whole_exchanges asked_forwards
    (record { told = tt; gave = tt; opened = λ e. refl }) sent_now connected_fits

rightly_given : IsSentRightly usual_edge given_now (get_exchange (Some 0) 3 false)
unfolding servers
rightly_given = λ k e.
    let same : 0 ≡ k = cc in
    (refl, refl, subst (λ (n : ℕ). n < 1) same (lit< tt))

towards_given : (k : ℕ) → k < 1 → IsGivenTo usual_edge given_now (Some []) whole_exchanges k
unfolding servers proxy.last_tick request_text date_of year_at month_at appended digits trim_ows
towards_given zero low = refl
towards_given (suc k) low = let none : ⊥ = omega (arith, low) in absurd none

whole_given : (k : ℕ) → AreWholeButLast (sent_on usual_edge given_now k whole_exchanges)
whole_given k = by_test (eqb 0 k)
  where
    by_test : (t : Bool) → AreWholeButLast (map (sent_of usual_edge given_now) (reverse (cond t whole_exchanges [])))
    by_test true = tt
    by_test false = tt

clean_given : (k : ℕ) → k < 1 → IsCleanAtFirst given_now k (reverse (filter (is_on k) whole_exchanges))
unfolding servers
clean_given zero low = (refl, refl)
clean_given (suc k) low = let none : ⊥ = omega (arith, low) in absurd none

given_fits : IsForwardedSoFar usual_edge usual (given_now) (Some []) (steps (asked_past)) (whole_exchanges)
unfolding sums.taken sums.written sums.last_tick sums.since_head client_taken client_given servers proxy.last_tick pulled exchanges changed_by trim_ows
given_fits = record {
  traced = (happens usual (asked_past) refused_legal.3.3.3).trace;
  taken = refl;
  written = refl;
  moment = refl;
  ended = refl;
  undrained = refl;
  requests = refl;
  rightly = (rightly_given, tt);
  towards = towards_given;
  whole = whole_given;
  used = λ e. absurd (there _ e);
  told = (λ t. absurd (false≢true t), tt);
  replied = (refl, tt, tt);
  clean = clean_given;
  alone = (tt, tt);
  failed = λ e. absurd (false≢true e);
}

pub given_forwards : IsForwarding usual_edge usual given_now (Some []) (steps asked_past) whole_exchanges
given_forwards = behind (step (to_server 500) (gave get_sent)) connected_now (Some get_sent) (steps asked_past) whole_exchanges (Some []) (steps ([])) whole_exchanges connected_forwards
    (record { told = tt; gave = refl; opened = λ e. refl })
    (record { newer = []; older = whole_exchanges; are = refl; begun = tt; go_on = (record { sent = inl (refl, refl); refused = refl }, refl) }) given_fits

rightly_answered : IsSentRightly usual_edge answered_now (get_exchange (Some 0) 3 false)
unfolding servers
rightly_answered = λ k e.
    let same : 0 ≡ k = cc in
    (refl, refl, subst (λ (n : ℕ). n < 1) same (lit< tt))

towards_answered : (k : ℕ) → k < 1 → IsGivenTo usual_edge answered_now (Some []) whole_exchanges k
unfolding servers proxy.last_tick request_text date_of year_at month_at appended digits trim_ows
towards_answered zero low = refl
towards_answered (suc k) low = let none : ⊥ = omega (arith, low) in absurd none

whole_answered : (k : ℕ) → AreWholeButLast (sent_on usual_edge answered_now k whole_exchanges)
whole_answered k = by_test (eqb 0 k)
  where
    by_test : (t : Bool) → AreWholeButLast (map (sent_of usual_edge answered_now) (reverse (cond t whole_exchanges [])))
    by_test true = tt
    by_test false = tt

replied_answered : AreReplies usual_edge usual answered_now [] whole_exchanges (exchanges (steps answered_past))
unfolding exchanges changed_by servers sums.last_tick trim_ows appended
replied_answered = (
  refl,
  (hi_found, hi_answer, inl (hi, record { response = refl; head = refl; size = refl; bytes = ([], refl); end = λ e. (tt, refl) })),
  tt,
)

clean_answered : (k : ℕ) → k < 1 → IsCleanAtFirst answered_now k (reverse (filter (is_on k) whole_exchanges))
unfolding servers
clean_answered zero low = (refl, refl)
clean_answered (suc k) low = let none : ⊥ = omega (arith, low) in absurd none

answered_fits : IsForwardedSoFar usual_edge usual (answered_now) (Some []) (steps (answered_past)) (whole_exchanges)
unfolding sums.taken sums.written sums.last_tick sums.since_head client_taken client_given servers proxy.last_tick pulled exchanges changed_by trim_ows
answered_fits = record {
  traced = (happens usual (answered_past) whole_legal.3).trace;
  taken = refl;
  written = refl;
  moment = refl;
  ended = refl;
  undrained = refl;
  requests = refl;
  rightly = (rightly_answered, tt);
  towards = towards_answered;
  whole = whole_answered;
  used = λ e. absurd (there _ e);
  told = (λ t. absurd (false≢true t), tt);
  replied = replied_answered;
  clean = clean_answered;
  alone = (tt, tt);
  failed = λ e. absurd (false≢true e);
}

answered_forwards : IsForwarding usual_edge usual answered_now (Some []) (steps answered_past) whole_exchanges
answered_forwards = behind (step (server hi_text) (took 40)) given_now (Some []) (steps asked_past) whole_exchanges (Some []) (steps (passing)) whole_exchanges given_forwards
    (record { told = lit≤ tt; gave = tt; opened = λ e. refl })
    (record { newer = []; older = whole_exchanges; are = refl; begun = tt; go_on = (record { sent = inl (refl, refl); refused = refl }, refl) }) answered_fits

rightly_whole : IsSentRightly usual_edge whole_history (get_exchange (Some 0) 3 false)
unfolding servers
rightly_whole = λ k e.
    let same : 0 ≡ k = cc in
    (refl, refl, subst (λ (n : ℕ). n < 1) same (lit< tt))

towards_whole : (k : ℕ) → k < 1 → IsGivenTo usual_edge whole_history (Some []) whole_exchanges k
unfolding servers proxy.last_tick request_text date_of year_at month_at appended digits trim_ows
towards_whole zero low = refl
towards_whole (suc k) low = let none : ⊥ = omega (arith, low) in absurd none

whole_whole : (k : ℕ) → AreWholeButLast (sent_on usual_edge whole_history k whole_exchanges)
whole_whole k = by_test (eqb 0 k)
  where
    by_test : (t : Bool) → AreWholeButLast (map (sent_of usual_edge whole_history) (reverse (cond t whole_exchanges [])))
    by_test true = tt
    by_test false = tt

replied_whole : AreReplies usual_edge usual whole_history [] whole_exchanges (exchanges (steps whole_past))
unfolding exchanges changed_by servers sums.last_tick trim_ows appended
replied_whole = (
  refl,
  (hi_found, hi_answer, inl (hi, record { response = refl; head = refl; size = refl; bytes = ([], refl); end = λ e. (tt, refl) })),
  tt,
)

clean_whole : (k : ℕ) → k < 1 → IsCleanAtFirst whole_history k (reverse (filter (is_on k) whole_exchanges))
unfolding servers
clean_whole zero low = (refl, refl)
clean_whole (suc k) low = let none : ⊥ = omega (arith, low) in absurd none

whole_fits : IsForwardedSoFar usual_edge usual (whole_history) (Some []) (steps (whole_past)) (whole_exchanges)
unfolding sums.taken sums.written sums.last_tick sums.since_head client_taken client_given servers proxy.last_tick pulled exchanges changed_by trim_ows
whole_fits = record {
  traced = (happens usual (whole_past) whole_legal).trace;
  taken = refl;
  written = refl;
  moment = refl;
  ended = refl;
  undrained = refl;
  requests = refl;
  rightly = (rightly_whole, tt);
  towards = towards_whole;
  whole = whole_whole;
  used = λ e. absurd (there _ e);
  told = (λ t. absurd (false≢true t), tt);
  replied = replied_whole;
  clean = clean_whole;
  alone = (tt, tt);
  failed = λ e. absurd (false≢true e);
}

pub whole_forwards : IsForwarding usual_edge usual whole_history (Some []) (steps whole_past) whole_exchanges
whole_forwards = behind (step (to_client 500) (gave hi_passed)) answered_now (Some []) (steps answered_past) whole_exchanges (Some []) (steps (parsed (on.write 500) (on.gave hi_passed) (get ∷ []) ∷ [])) whole_exchanges answered_forwards
    (gives 500 hi_passed (Some []))
    (record { newer = []; older = whole_exchanges; are = refl; begun = tt; go_on = (record { sent = inl (refl, refl); refused = refl }, refl) }) whole_fits
