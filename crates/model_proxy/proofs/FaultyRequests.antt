-- The worked histories of requests that are refused, or whose body breaks, step by step.
use Rattle.std.proofs.Common.{◌≡◌, ℕ, Bool, cond, eqb, map, reverse, flat_map, zero, suc, ◌<◌, List, [], ◌∷◌, ◌++◌, refl, subst, arith, inl, inr, lit<, filter, take, None, true, false}
use Rattle.std.proofs.lemmas.Bool.{false≢true}
use Rattle.httparse.specs.Grammar.{trim_ows}
use Rattle.model_h1.specs.Answer.{size_of}
use Rattle.model_h1.specs.Event as on
use Rattle.model_h1.specs.Sums as sums
use Rattle.model_h1.specs.Past.{ParsedStep, steps}
use Rattle.model_h1.specs.Laws.ExampleTraces.{usual, parsed, close_text, close_head, closing_get, socket, socket_text, socket_head, broken_text, chunks_head, broken_chunks}
use Rattle.model_h1.specs.Laws.Exchanges.{exchanges, changed_by}
use Rattle.model_h1.proofs.ExampleSteps.{happens}
use Rattle.model_h1.proofs.ExampleLemmas.{nothing_behind}
use Rattle.model_proxy.specs.Forward.{forward}
use Rattle.model_proxy.specs.Answers.{found_nothing, own_head, refusal_head}
use Rattle.model_proxy.specs.Past.{ProxyStep, client, server, connected, refused, to_client, took, gave, done, client_taken, client_given, servers}
use Rattle.model_proxy.specs.Past as proxy
use Rattle.model_proxy.specs.Exchange.{Exchange, pulled, is_on, sent_of, sent_on}
use Rattle.model_proxy.specs.Forwarding.{IsUsedBefore, IsGivenTo, AreWholeButLast, IsSentRightly, AreReplies, IsCleanAtFirst, IsForwardedSoFar, AllGoOn, IsForwarding, behind}
use Rattle.model_proxy.specs.Laws.Samples.{usual_edge, lax_edge, step, came}
use Rattle.model_proxy.specs.Laws.Histories.{ticked, ticked_past, bad_request_text, hostless_history, hostless_past, hostless_exchanges, not_implemented_text, unforwardable_history, unforwardable_past, unforwardable_exchanges, broken_text_answered, broken_history, broken_past, broken_exchange, broken_exchanges}
use Rattle.model_proxy.proofs.Histories.{hostless_legal, unforwardable_legal, broken_legal}
use Rattle.model_proxy.proofs.StepByStep.{ticked_forwards}
use Rattle.model_proxy.proofs.ToldFirst.{takes, gives, none_clean}

-- ---- a head without a host

abbrev hostless_asked : List ProxyStep
hostless_asked = step (client close_text) (took 37) ∷ ticked

abbrev refusing_head : List ParsedStep
refusing_head =
    parsed (on.answer refusal_head (size_of 0)) on.done (closing_get ∷ [])
    ∷ parsed on.next (on.head close_head) (closing_get ∷ [])
    ∷ parsed (on.read close_text) (on.took 37) (closing_get ∷ []) ∷ []

abbrev hostless_asked_past : List ParsedStep
hostless_asked_past = refusing_head ++ ticked_past

none_hostless_asked : (k : ℕ) → k < 0 → IsGivenTo usual_edge hostless_asked None hostless_exchanges k
none_hostless_asked k low = let none : ⊥ = omega (arith, low) in absurd none

hostless_asked_fits : IsForwardedSoFar usual_edge usual hostless_asked None (steps hostless_asked_past) hostless_exchanges
unfolding sums.taken sums.written sums.last_tick sums.since_head client_taken client_given servers proxy.last_tick pulled exchanges changed_by trim_ows
hostless_asked_fits = record {
  traced = (happens usual hostless_asked_past hostless_legal.3).trace;
  taken = refl;
  written = refl;
  moment = refl;
  ended = refl;
  undrained = refl;
  requests = refl;
  rightly = (λ k e. cc, tt);
  towards = none_hostless_asked;
  whole = λ k. tt;
  used = λ e k f. let none : ⊥ = omega (arith, f) in absurd none;
  told = (λ t. absurd (false≢true t), tt);
  replied = (refl, (refl, refl), tt);
  clean = none_clean hostless_asked hostless_exchanges;
  alone = (tt, tt);
  failed = λ e. absurd (false≢true e);
}

hostless_asked_forwards : IsForwarding usual_edge usual hostless_asked None (steps hostless_asked_past) hostless_exchanges
hostless_asked_forwards = behind (step (client close_text) (took 37)) ticked None (steps ticked_past) [] None (steps refusing_head) hostless_exchanges (ticked_forwards usual_edge)
    (takes close_text 37 (take 2 (steps refusing_head)))
    (record { newer = hostless_exchanges; older = []; are = refl; begun = (record { sent = inl refl; unrefused = refl }, tt); go_on = tt }) hostless_asked_fits

none_hostless : (k : ℕ) → k < 0 → IsGivenTo usual_edge hostless_history None hostless_exchanges k
none_hostless k low = let none : ⊥ = omega (arith, low) in absurd none

hostless_fits : IsForwardedSoFar usual_edge usual hostless_history None (steps hostless_past) hostless_exchanges
unfolding sums.taken sums.written sums.last_tick sums.since_head client_taken client_given servers proxy.last_tick pulled exchanges changed_by trim_ows
hostless_fits = record {
  traced = (happens usual hostless_past hostless_legal).trace;
  taken = refl;
  written = refl;
  moment = refl;
  ended = refl;
  undrained = refl;
  requests = refl;
  rightly = (λ k e. cc, tt);
  towards = none_hostless;
  whole = λ k. tt;
  used = λ e k f. let none : ⊥ = omega (arith, f) in absurd none;
  told = (λ t. absurd (false≢true t), tt);
  replied = (refl, (refl, refl), tt);
  clean = none_clean hostless_history hostless_exchanges;
  alone = (tt, tt);
  failed = λ e. absurd (false≢true e);
}

pub hostless_forwards : IsForwarding usual_edge usual hostless_history None (steps hostless_past) hostless_exchanges
hostless_forwards = behind (step (to_client 500) (gave bad_request_text)) hostless_asked None (steps hostless_asked_past) hostless_exchanges None
    (steps (parsed (on.write 500) (on.gave bad_request_text) (closing_get ∷ []) ∷ [])) hostless_exchanges hostless_asked_forwards
    (gives 500 bad_request_text None)
    (record { newer = []; older = hostless_exchanges; are = refl; begun = tt; go_on = (record { sent = inl (refl, refl); refused = refl }, refl) }) hostless_fits

-- ---- a request for another protocol

abbrev socket_asked : List ProxyStep
socket_asked = step (client socket_text) (took 131) ∷ ticked

abbrev refusing : List ParsedStep
refusing =
    parsed (on.answer (own_head 501) (size_of 0)) on.done (socket ∷ [])
    ∷ parsed on.drop_body on.done (socket ∷ [])
    ∷ parsed on.next (on.head socket_head) (socket ∷ [])
    ∷ parsed (on.read socket_text) (on.took 131) (socket ∷ []) ∷ []

abbrev socket_past : List ParsedStep
socket_past = refusing ++ ticked_past

none_socket : (k : ℕ) → k < 0 → IsGivenTo lax_edge (socket_asked) (None) (unforwardable_exchanges) k
none_socket k low = let none : ⊥ = omega (arith, low) in absurd none

socket_fits : IsForwardedSoFar lax_edge usual (socket_asked) (None) (steps (socket_past)) (unforwardable_exchanges)
unfolding sums.taken sums.written sums.last_tick sums.since_head client_taken client_given servers proxy.last_tick pulled exchanges changed_by trim_ows
socket_fits = record {
  traced = (happens usual (socket_past) unforwardable_legal.3).trace;
  taken = refl;
  written = refl;
  moment = refl;
  ended = refl;
  undrained = refl;
  requests = refl;
  rightly = (λ k e. cc, tt);
  towards = none_socket;
  whole = λ k. tt;
  used = λ e k f. let none : ⊥ = omega (arith, f) in absurd none;
  told = (λ t. absurd (false≢true t), tt);
  replied = (refl, (refl, refl), tt);
  clean = none_clean socket_asked unforwardable_exchanges;
  alone = (tt, tt);
  failed = λ e. absurd (false≢true e);
}

socket_forwards : IsForwarding lax_edge usual socket_asked None (steps socket_past) unforwardable_exchanges
socket_forwards = behind (step (client socket_text) (took 131)) ticked None (steps ticked_past) [] None (steps refusing) unforwardable_exchanges (ticked_forwards lax_edge)
    (takes socket_text 131 (take 3 (steps refusing)))
    (record { newer = unforwardable_exchanges; older = []; are = refl; begun = (record { sent = inl refl; unrefused = refl }, tt); go_on = tt }) socket_fits

none_unforwardable : (k : ℕ) → k < 0 → IsGivenTo lax_edge (unforwardable_history) (None) (unforwardable_exchanges) k
none_unforwardable k low = let none : ⊥ = omega (arith, low) in absurd none

unforwardable_fits : IsForwardedSoFar lax_edge usual (unforwardable_history) (None) (steps (unforwardable_past)) (unforwardable_exchanges)
unfolding sums.taken sums.written sums.last_tick sums.since_head client_taken client_given servers proxy.last_tick pulled exchanges changed_by trim_ows
unforwardable_fits = record {
  traced = (happens usual (unforwardable_past) unforwardable_legal).trace;
  taken = refl;
  written = refl;
  moment = refl;
  ended = refl;
  undrained = refl;
  requests = refl;
  rightly = (λ k e. cc, tt);
  towards = none_unforwardable;
  whole = λ k. tt;
  used = λ e k f. let none : ⊥ = omega (arith, f) in absurd none;
  told = (λ t. absurd (false≢true t), tt);
  replied = (refl, (refl, refl), tt);
  clean = none_clean unforwardable_history unforwardable_exchanges;
  alone = (tt, tt);
  failed = λ e. absurd (false≢true e);
}

pub unforwardable_forwards : IsForwarding lax_edge usual unforwardable_history (None) (steps unforwardable_past) unforwardable_exchanges
unforwardable_forwards = behind (step (to_client 500) (gave not_implemented_text)) socket_asked (None) (steps socket_past) unforwardable_exchanges (None) (steps (parsed (on.write 500) (on.gave not_implemented_text) (socket ∷ []) ∷ [])) unforwardable_exchanges socket_forwards
    (gives 500 not_implemented_text None)
    (record { newer = []; older = unforwardable_exchanges; are = refl; begun = tt; go_on = (record { sent = inl (refl, refl); refused = refl }, refl) }) unforwardable_fits

-- ---- a body that breaks

abbrev chunks_asked : List ProxyStep
chunks_asked = step (client broken_text) (took 48) ∷ ticked

abbrev asking : List ParsedStep
asking = parsed on.next (on.head chunks_head) (broken_chunks ∷ []) ∷ parsed (on.read broken_text) (on.took 48) (broken_chunks ∷ []) ∷ []

abbrev chunks_past : List ParsedStep
chunks_past = asking ++ ticked_past

abbrev unbroken : List Exchange
unbroken =
    record { pulled = record { head = chunks_head; pieces = []; is_ended = false; is_broken = false }; server = None; sent_at = 0; was_refused = false } ∷ []

abbrev breaking : List ParsedStep
breaking = parsed (on.answer (own_head 400) (size_of 0)) on.done (broken_chunks ∷ []) ∷ parsed on.pull (on.broken_by on.corrupted) (broken_chunks ∷ []) ∷ []

abbrev chunks_connected : List ProxyStep
chunks_connected = step connected done ∷ chunks_asked

abbrev broken_now_past : List ParsedStep
broken_now_past = breaking ++ chunks_past

none_chunks : (k : ℕ) → k < 0 → IsGivenTo lax_edge (chunks_asked) (None) (unbroken) k
none_chunks k low = let none : ⊥ = omega (arith, low) in absurd none

chunks_fits : IsForwardedSoFar lax_edge usual (chunks_asked) (None) (steps (chunks_past)) (unbroken)
unfolding sums.taken sums.written sums.last_tick sums.since_head client_taken client_given servers proxy.last_tick pulled exchanges changed_by trim_ows
chunks_fits = record {
  traced = (happens usual (chunks_past) broken_legal.3.3.3).trace;
  taken = refl;
  written = refl;
  moment = refl;
  ended = refl;
  undrained = refl;
  requests = refl;
  rightly = (λ k e. cc, tt);
  towards = none_chunks;
  whole = λ k. tt;
  used = λ e k f. let none : ⊥ = omega (arith, f) in absurd none;
  told = (λ t. absurd (false≢true t), tt);
  replied = (refl, tt, tt);
  clean = none_clean chunks_asked unbroken;
  alone = (tt, tt);
  failed = λ e. absurd (false≢true e);
}

chunks_forwards : IsForwarding lax_edge usual chunks_asked None (steps chunks_past) unbroken
chunks_forwards = behind (step (client broken_text) (took 48)) ticked None (steps ticked_past) [] None (steps asking) unbroken (ticked_forwards lax_edge)
    (takes broken_text 48 (take 1 (steps asking)))
    (record { newer = unbroken; older = []; are = refl; begun = (record { sent = inl refl; unrefused = refl }, tt); go_on = tt }) chunks_fits

rightly_cut : IsSentRightly lax_edge chunks_connected broken_exchange
unfolding servers
rightly_cut = λ k e.
    let same : 0 ≡ k = cc in
    (refl, refl, subst (λ (n : ℕ). n < 1) same (lit< tt))

-- nothing was given yet to the one server connection
towards_cut : (k : ℕ) → k < 1 → IsGivenTo lax_edge chunks_connected None broken_exchanges k
unfolding servers
towards_cut zero low = (flat_map forward (sent_on lax_edge chunks_connected 0 broken_exchanges), refl)
towards_cut (suc k) low = let none : ⊥ = omega (arith, low) in absurd none

whole_cut : (k : ℕ) → AreWholeButLast (sent_on lax_edge chunks_connected k broken_exchanges)
whole_cut k = by_test (eqb 0 k)
  where
    by_test : (t : Bool) → AreWholeButLast (map (sent_of lax_edge chunks_connected) (reverse (cond t broken_exchanges [])))
    by_test true = tt
    by_test false = tt

used_cut : IsUsedBefore chunks_connected None broken_exchanges
unfolding servers
used_cut e zero f = tt
used_cut e (suc k) f = let none : ⊥ = omega (arith, f) in absurd none

replied_cut : AreReplies lax_edge usual chunks_connected [] broken_exchanges (exchanges (steps broken_now_past))
unfolding exchanges changed_by servers sums.last_tick trim_ows
replied_cut = (refl, (found_nothing (came [] false) 0, ([], nothing_behind, refl), inr (refl, inr (refl, (refl, refl)))), tt)

clean_cut : (k : ℕ) → k < 1 → IsCleanAtFirst chunks_connected k (reverse (filter (is_on k) broken_exchanges))
unfolding servers
clean_cut zero low = (refl, refl)
clean_cut (suc k) low = let none : ⊥ = omega (arith, low) in absurd none

cut_fits : IsForwardedSoFar lax_edge usual (chunks_connected) (None) (steps (broken_now_past)) (broken_exchanges)
unfolding sums.taken sums.written sums.last_tick sums.since_head client_taken client_given servers proxy.last_tick pulled exchanges changed_by trim_ows
cut_fits = record {
  traced = (happens usual (broken_now_past) broken_legal.3).trace;
  taken = refl;
  written = refl;
  moment = refl;
  ended = refl;
  undrained = refl;
  requests = refl;
  rightly = (rightly_cut, tt);
  towards = towards_cut;
  whole = whole_cut;
  used = used_cut;
  told = (λ t. absurd (false≢true t), tt);
  replied = replied_cut;
  clean = clean_cut;
  alone = (tt, tt);
  failed = λ e. absurd (false≢true e);
}

sent_chunks : AllGoOn connected None chunks_connected unbroken broken_exchanges
unfolding servers
sent_chunks = record {
  newer = [];
  older = broken_exchanges;
  are = refl;
  begun = tt;
  go_on = (record { sent = inr (refl, record { there = refl; number = 0; server = refl; newest = refl; at = refl }); refused = refl }, refl);
}

cut_forwards : IsForwarding lax_edge usual chunks_connected None (steps broken_now_past) broken_exchanges
cut_forwards = behind (step connected done) chunks_asked None (steps chunks_past) unbroken None (steps breaking) broken_exchanges chunks_forwards
    (record { told = tt; gave = tt; opened = λ e. absurd (false≢true e) }) sent_chunks cut_fits

rightly_broken : IsSentRightly lax_edge broken_history broken_exchange
unfolding servers
rightly_broken = λ k e.
    let same : 0 ≡ k = cc in
    (refl, refl, subst (λ (n : ℕ). n < 1) same (lit< tt))

-- nothing was given yet to the one server connection
towards_broken : (k : ℕ) → k < 1 → IsGivenTo lax_edge broken_history None broken_exchanges k
unfolding servers
towards_broken zero low = (flat_map forward (sent_on lax_edge broken_history 0 broken_exchanges), refl)
towards_broken (suc k) low = let none : ⊥ = omega (arith, low) in absurd none

whole_broken : (k : ℕ) → AreWholeButLast (sent_on lax_edge broken_history k broken_exchanges)
whole_broken k = by_test (eqb 0 k)
  where
    by_test : (t : Bool) → AreWholeButLast (map (sent_of lax_edge broken_history) (reverse (cond t broken_exchanges [])))
    by_test true = tt
    by_test false = tt

used_broken : IsUsedBefore broken_history None broken_exchanges
unfolding servers
used_broken e zero f = tt
used_broken e (suc k) f = let none : ⊥ = omega (arith, f) in absurd none

replied_broken : AreReplies lax_edge usual broken_history [] broken_exchanges (exchanges (steps broken_past))
unfolding exchanges changed_by servers sums.last_tick trim_ows
replied_broken = (refl, (found_nothing (came [] false) 0, ([], nothing_behind, refl), inr (refl, inr (refl, (refl, refl)))), tt)

clean_broken : (k : ℕ) → k < 1 → IsCleanAtFirst broken_history k (reverse (filter (is_on k) broken_exchanges))
unfolding servers
clean_broken zero low = (refl, refl)
clean_broken (suc k) low = let none : ⊥ = omega (arith, low) in absurd none

broken_fits : IsForwardedSoFar lax_edge usual (broken_history) (None) (steps (broken_past)) (broken_exchanges)
unfolding sums.taken sums.written sums.last_tick sums.since_head client_taken client_given servers proxy.last_tick pulled exchanges changed_by trim_ows
broken_fits = record {
  traced = (happens usual (broken_past) broken_legal).trace;
  taken = refl;
  written = refl;
  moment = refl;
  ended = refl;
  undrained = refl;
  requests = refl;
  rightly = (rightly_broken, tt);
  towards = towards_broken;
  whole = whole_broken;
  used = used_broken;
  told = (λ t. absurd (false≢true t), tt);
  replied = replied_broken;
  clean = clean_broken;
  alone = (tt, tt);
  failed = λ e. absurd (false≢true e);
}

pub broken_forwards : IsForwarding lax_edge usual broken_history (None) (steps broken_past) broken_exchanges
broken_forwards = behind (step (to_client 500) (gave broken_text_answered)) chunks_connected (None) (steps broken_now_past) broken_exchanges (None) (steps (parsed (on.write 500) (on.gave broken_text_answered) (broken_chunks ∷ []) ∷ [])) broken_exchanges cut_forwards
    (gives 500 broken_text_answered None)
    (record { newer = []; older = broken_exchanges; are = refl; begun = tt; go_on = (record { sent = inl (refl, refl); refused = refl }, refl) }) broken_fits
