-- What came of one connection, from its polls.
use Rattle.std.proofs.Common.{◌≡◌, ◌<◌, ◌+◌, ℕ, Bool, false, Option, Some, List, [], ◌++◌, length, map, option_to_list, Result, Ok, Err, refl, sym, ap, ◌∙◌, subst, append_assoc, append-nil, arith}
use Rattle.std.specs.List.{AllByRecursion}
use Rattle.std.proofs.lemmas.List.{map-append, length-map}
use Rattle.http_config.specs.Config.{Settings}
use Rattle.http_bodies.specs.Values.{holds}
use Rattle.http_bodies.specs.Told.{Grows}
use Rattle.http_services.specs.Serving.{Serving}
use Rattle.http_transport.specs.Peer.{PeerAddress}
use Rattle.http_transport.specs.Wiring.{Wiring}
use Rattle.model_h1.specs.Event as on
use Rattle.model_h1.specs.Sums as sums
use Rattle.model_h1.specs.Sums.{taken, written}
use Rattle.model_h1.specs.Trace.{IsTrace}
use Rattle.h1_connection.specs.EventMeaning.{setting_of}
use Rattle.h1_connection.specs.Steps as noted
use Rattle.h1_traced.specs.Traced.{SaysNoted, TracedStands}
use Rattle.h1_dispatcher.specs.View.{View, Answer, told_result, told_service, is_replying}
use Rattle.h1_dispatcher.specs.Steps.{Step}
use Rattle.h1_dispatcher.specs.Order.{waits_in, reply_in, calls_in, requests, calls, left, answers, replies, KeepsOrder}
use Rattle.h1_dispatcher.specs.Peers.{AreFrom, TellsPeer}
use Rattle.h1_dispatcher.specs.Traces.{requests_in, answers_in, hands, came, Follows}
use Rattle.h1_dispatcher.proofs.Orders.{run_keeps}
use Rattle.h1_dispatcher.proofs.Peers.{from_on, run_tells}
use Rattle.h1_dispatcher.proofs.Traces.{run_follows}
use Rattle.board.specs.Views.{Held}
use Rattle.board.specs.Answers.{Asking, Pair, AllAnswered}
use Rattle.board.specs.Work.{Worked, Went, InOrder, serving_of, answered_of}
use Rattle.board_server.specs.declared.error.ServeError.{ServeError}
use Rattle.board_server.specs.declared.error.ServeError.TheVariants.{Dispatch, Budget, NoMemory}
use Rattle.board_server.specs.Serves.{begun_view, Ends, HasServed}
use Rattle.board_server.specs.Told.{HadMemory, Shows, AreHeads, heads_in, event_of, IsTold}
use Rattle.board_server.proofs.PolledRuns.{Ran, ends_ran}
use Rattle.board_server.proofs.Steps.{results, value_of, asked_in, AllKept, run_kept}
use Rattle.board_server.proofs.Bodiless.{IsBodiless, hand_of, run_hands_on}
use Rattle.board_server.proofs.Requests.{are_heads, told_of, values_are, all_bodiless, events_are, last_of, last_is, not_lost, waits_count, OneWaits, one_waits}
use Rattle.board_server.proofs.Handed.{none_last, ends_hand}
use Rattle.board_server.proofs.Lacks.{After, after_end}
use Rattle.board_server.proofs.Shows.{shows_end}

same_some : {A : Type 0} (x y : A) → Some x ≡ Some y → x ≡ y
same_some x y is = cc is

-- ---- the service

-- a run whose service is, after it, one that has done this work
record WorkedBy (v : View) (steps : List Step) (u : View) (work : Worked) : Type 0 where
  called_so : calls steps ≡ work.calls
  given_so : answers steps ≡ map told_of work.answers
  count : length work.calls ≡ length work.answers + calls_in u.stage

by_work : (v u : View) (steps : List Step) (work : Worked) → v.service.called ≡ Some [] → v.service.answered ≡ Some [] → calls_in v.stage ≡ 0
    → u.service ≡ told_service (λ (x : Unit). holds []) (serving_of work) → AllKept v steps u → KeepsOrder v steps u → WorkedBy v steps u work
by_work v u steps work no_call no_answer free_so is kept order =
    let called_so : calls steps ≡ work.calls =
    same_some (calls steps) work.calls (sym (subst (λ c. Grows c u.service.called (calls steps)) no_call order.called) ∙ ap (λ (s : Serving Asking Answer Answer). s.called) is) in
    let results_so : results steps ≡ map (told_result (λ (x : Unit). holds [])) (answered_of work.answers) =
    same_some (results steps) (map (told_result (λ (x : Unit). holds [])) (answered_of work.answers))
    (sym (subst (λ c. Grows c u.service.answered (results steps)) no_answer kept.answered_so) ∙ ap (λ (s : Serving Asking Answer Answer). s.answered) is) in
    let given_so : answers steps ≡ map told_of work.answers = kept.values ∙ ap (λ l. map value_of l) results_so ∙ values_are work.answers in
    record {
      called_so = called_so;
      given_so = given_so;
      count =
          counted (calls_in v.stage) (length (left steps)) (length (answers steps)) (calls_in u.stage) (length work.calls) (length work.answers) free_so order.each
          (ap length (kept.left_so ∙ called_so)) (ap length given_so ∙ length-map work.answers told_of);
    }
  where
    counted : (a n m k c p : ℕ) → a ≡ 0 → a + n ≡ m + k → n ≡ c → m ≡ p → c ≡ p + k
    counted a n m k c p none each left_so answered_so = omega (arith, none, each, left_so, answered_so)

-- ---- requests and answers

-- the answers of a trace, and the one that isn't handed on, are those of the work
answers_so : (v u : View) (steps : List Step) (work : Worked) (of_trace : List on.Event) → reply_in v.stage ≡ [] → of_trace ≡ hands steps → hands steps ≡ map hand_of (replies steps)
    → answers steps ≡ map told_of work.answers → KeepsOrder v steps u → of_trace ++ option_to_list (last_of u.stage) ≡ map (λ (p : Pair). event_of p.1) work.answers
answers_so v u steps work of_trace none traced handed given_so order =
    let replied : answers steps ≡ replies steps ++ reply_in u.stage = ap (λ l. l ++ answers steps) (sym none) ∙ order.replied in
    ap (λ l. l ++ option_to_list (last_of u.stage)) (traced ∙ handed) ∙ ap (λ l. map hand_of (replies steps) ++ l) (sym (last_is u.stage))
    ∙ sym (map-append hand_of (replies steps) (reply_in u.stage)) ∙ ap (λ l. map hand_of l) (sym replied ∙ given_so) ∙ events_are work.answers

-- the requests of a run are those of the work, and the one that waits
requests_so : (v u : View) (steps : List Step) (work : Worked) (o : Option Asking) → waits_in v.stage ≡ [] → calls steps ≡ work.calls → work.calls ≡ map (λ (p : Pair). p.0) work.answers ++ option_to_list work.waiting
    → option_to_list work.waiting ++ waits_in u.stage ≡ option_to_list o → AllKept v steps u → KeepsOrder v steps u
    → asked_in (came steps) ≡ map (λ (p : Pair). p.0) work.answers ++ option_to_list o
requests_so v u steps work o none called_so in_order one kept order =
    kept.asked_so ∙ ap (λ l. l ++ requests steps) (sym none) ∙ order.waits ∙ ap (λ l. l ++ waits_in u.stage) (kept.left_so ∙ called_so ∙ in_order)
    ∙ append_assoc (map (λ (p : Pair). p.0) work.answers) (option_to_list work.waiting) (waits_in u.stage) ∙ ap (λ l. map (λ (p : Pair). p.0) work.answers ++ l) one

-- and so all of them are from the peer
all_from : (peer : PeerAddress) (u : View) (steps : List Step) (work : Worked) (o : Option Asking) → calls steps ≡ work.calls → work.calls ≡ map (λ (p : Pair). p.0) work.answers ++ option_to_list work.waiting
    → option_to_list work.waiting ++ waits_in u.stage ≡ option_to_list o → AreFrom peer (calls steps) → AreFrom peer (waits_in u.stage)
    → AreFrom peer (map (λ (p : Pair). p.0) work.answers ++ option_to_list o)
all_from peer u steps work o called_so in_order one called waits =
    subst (λ (l : List Asking). AreFrom peer l)
    (ap (λ l. l ++ waits_in u.stage) (called_so ∙ in_order) ∙ append_assoc (map (λ (p : Pair). p.0) work.answers) (option_to_list work.waiting) (waits_in u.stage)
    ∙ ap (λ l. map (λ (p : Pair). p.0) work.answers ++ l) one)
    (from_on peer (calls steps) (waits_in u.stage) called waits)

-- ---- memory

none_is_some : (n : ℕ) → n ≡ 0 → 0 < n → ⊥
none_is_some n none some = omega (arith, none, some)

only_then : (polls : ℕ) (may_give : ℕ → Bool) (v w : View) (end : Result Unit ServeError) → Ends polls may_give v w end → 0 < w.service.call_waits → end ≡ Err NoMemory
only_then polls may_give v w (Ok x) ends some = absurd (none_is_some w.service.call_waits ends.1 some)
only_then polls may_give v w (Err (Dispatch e)) ends some = absurd (none_is_some w.service.call_waits ends.1 some)
only_then polls may_give v w (Err Budget) ends some = absurd (none_is_some w.service.call_waits ends.1 some)
only_then polls may_give v w (Err NoMemory) ends some = refl

-- ---- together

moved_so : (begun between : View) (was now : Wiring) (before trace : List sums.Step) → begun.transport ≡ was → between.transport ≡ now → taken trace ≡ taken before → written trace ≡ written before
    → Grows begun.transport.received between.transport.received (taken before) → Grows begun.transport.sent between.transport.sent (written before)
    → Grows was.received now.received (taken trace) × Grows was.sent now.sent (written trace)
moved_so begun between was now before trace first last taken_so written_so received sent_so = (
  subst (λ (x : Wiring). Grows was.received x.received (taken trace)) last
      (subst (λ (x : Wiring). Grows x.received between.transport.received (taken trace)) first (subst (λ l. Grows begun.transport.received between.transport.received l) (sym taken_so) received)),
  subst (λ (x : Wiring). Grows was.sent x.sent (written trace)) last
      (subst (λ (x : Wiring). Grows x.sent between.transport.sent (written trace)) first (subst (λ l. Grows begun.transport.sent between.transport.sent l) (sym written_so) sent_so)),
)

pub told : (was now : Wiring) (peer : PeerAddress) (number : ℕ) (settings : Settings) (recorded later : Option (List noted.Pair)) (listens : Bool) (polls : ℕ) (may_give : ℕ → Bool) (pass : Held) (end : Result Unit ServeError)
    → TracedStands (begun_view was peer number settings recorded listens).traced [] → HasServed (begun_view was peer number settings recorded listens) polls may_give now later pass end
    → IsTold settings was now peer later pass end
told was now peer number settings recorded later listens polls may_give pass end stands served =
    let begun : View = begun_view was peer number settings recorded listens in
    let work : Worked = served.work in
    let ran : Ran (HadMemory end) begun served.last = ends_ran polls may_give begun served.last end served.ends in
    let u : View = ran.between in
    let kept : AllKept begun ran.steps u = run_kept begun u ran.steps ran.noted ran.undecided ran.run refl in
    let order : KeepsOrder begun ran.steps u = run_keeps begun u ran.steps ran.run in
    let tells : TellsPeer begun ran.steps u = run_tells begun u ran.steps ran.run tt in
    let f : Follows begun u [] (hands ran.steps) (came ran.steps) = run_follows begun u ran.steps ran.noted ran.run [] stands in
    let a : After u served.last f.more = after_end u served.last f.more ran.end (subst (λ (l : List sums.Step). TracedStands u.traced l) (append-nil f.more) f.stands) in
    let w : WorkedBy begun ran.steps u work = by_work begun u ran.steps work refl refl refl (sym a.service_so ∙ served.service_is) kept order in
    let in_order : InOrder false work.calls work.answers work.waiting = not_lost work.is_lost work.calls work.answers work.waiting u.stage served.kept.order w.count in
    let one : OneWaits u.stage work.waiting = one_waits u.stage work.waiting (waits_count work.calls work.answers work.waiting u.stage in_order w.count) in
    let handed : hands ran.steps ≡ map hand_of (replies ran.steps) =
    run_hands_on begun u ran.steps ran.run tt (subst (λ l. AllByRecursion IsBodiless l) (sym w.given_so) (all_bodiless work.answers)) in
    record {
      trace = a.trace;
      traced = subst (λ (set : Settings). IsTrace (setting_of set) a.trace) kept.settings a.traced;
      notes = subst (λ (n : Option (List noted.Pair)). SaysNoted n a.trace) served.noted_is a.notes;
      moved = λ enough. moved_so begun u was now f.more a.trace refl (ap (λ (x : View). x.transport) (sym (ran.whole enough)) ∙ served.transport_is) a.taken_so a.written_so f.received f.sent;
      shows = subst (λ (x : Wiring). Shows was x end) served.transport_is (shows_end polls may_give begun served.last end served.ends refl);
      answered = work.answers;
      waiting = one.waiting;
      requests =
          subst (λ l. AreHeads (map (λ (p : Pair). p.0) work.answers ++ option_to_list one.waiting) l) (sym a.heads_so)
          (subst (λ l. AreHeads l (heads_in (requests_in f.more))) (requests_so begun u ran.steps work one.waiting refl w.called_so in_order one.are kept order)
          (are_heads (came ran.steps) (requests_in f.more) f.requests));
      sender = all_from peer u ran.steps work one.waiting w.called_so in_order one.are tells.called tells.waits;
      last = last_of u.stage;
      answers = answers_so begun u ran.steps work (answers_in a.trace) refl (a.answers_so ∙ f.answers) handed w.given_so order;
      handed = λ enough. none_last u.stage (subst (λ (x : View). is_replying x.stage ≡ false) (ran.whole enough) (ends_hand polls may_give begun served.last end enough served.ends stands refl));
      entries = served.kept.entries;
      calls = subst (λ (p : Held). AllAnswered p.number work.answers [] served.kept.entries) served.pass_is served.kept.answered;
      broke = work.is_broken;
      went = one.went work.is_broken pass.number served.kept.entries pass.entries
          (subst (λ (p : Held). Went work.is_broken p.number work.waiting served.kept.entries p.entries) served.pass_is served.kept.went);
      only_so = λ broken. only_then polls may_give begun served.last end served.ends
          (subst (λ (n : ℕ). 0 < n) (sym (ap (λ (s : Serving Asking Answer Answer). s.call_waits) served.service_is)) (served.kept.told broken));
    }
