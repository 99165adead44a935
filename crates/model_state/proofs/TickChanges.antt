-- A tick: what is abandoned or runs out is told by the parts, and the moment is kept.
use Rattle.std.proofs.Common.{◌≡◌, ℕ, ◌-◌, Bool, true, false, List, [], ◌∷◌, ◌++◌, length, drop, Option, Some, None, refl, sym, ap, ◌∙◌, inl, inr, arith, length-drop}
use Rattle.std.specs.Prelude.{◌&&◌, ◌||◌, not, ◌==◌, if◌then◌else◌, is_some, is_none, slice_get, unwrap_or}
use Rattle.std.specs.Option.{option_or}
use Rattle.std.proofs.lemmas.Bool.{cases_Bool, cond_both, ne_eqb, true≢false}
use Rattle.std.proofs.lemmas.Option.{none-some}
use Rattle.model_h1.specs.Setting.{Setting}
use Rattle.model_h1.specs.AnswerText.{timeout_text}
use Rattle.model_h1.specs.Parse.{Message, next_start}
use Rattle.model_h1.specs.End as ends
use Rattle.model_h1.specs.End.{End}
use Rattle.model_h1.specs.Event.{Outcome}
use Rattle.model_h1.specs.Event as on
use Rattle.model_h1.specs.Sums.{Step, taken, first_tick, completed_at, is_complete, is_open, is_upgraded}
use Rattle.model_h1.specs.Past.{ParsedStep, steps, parse_of, head_count, current, passed, held}
use Rattle.model_h1.specs.Text.{step_text, buffered}
use Rattle.model_h1.specs.Closing.{told, body_end_of, closing}
use Rattle.model_h1.specs.Allowed.{is_over_by}
use Rattle.model_h1.specs.OutcomeTable.{counted_from, has_run_out, is_kept_too_long, has_ended_body, tick_outcome, outcome_of}
use Rattle.model_h1.specs.OutcomeTable as table
use Rattle.model_h1.proofs.PastLemmas.{Legal}
use Rattle.model_h1.proofs.StepLemmas.{Quiet}
use Rattle.model_h1.proofs.CarriedLemmas.{passed_complete}
use Rattle.model_state.specs.Kept.{is_answered, is_nothing, of_exchange, Change}
use Rattle.model_state.specs.KeptOf.{rest_of, kept_of}
use Rattle.model_state.specs.Local.{closing_by}
use Rattle.model_state.specs.Clock.{is_abandoned, is_slow, is_idle, at_moment, ticking}
use Rattle.model_state.proofs.Changes.{Changes}
use Rattle.model_state.proofs.Current.{current_of}
use Rattle.model_state.proofs.Orderly.{orderly}
use Rattle.model_state.proofs.Rests.{rest_says}
use Rattle.model_state.proofs.Parts.{exchange_is, exchange_none, reply_answered, none_open, current_open}
use Rattle.model_state.proofs.Kernel.{closing_of}
use Rattle.model_state.proofs.StepSums.{is_sending-cons, buffered-more}
use Rattle.model_state.proofs.QuietParts.{clock-ticked, kept-quiet, told-now}
use Rattle.model_state.proofs.StepForms.{made, at_step}
use Rattle.model_state.proofs.QuietChanges.{IsApart, exchange-apart, told-apart, buffered-quiet}

-- ---- what has run out

-- a list of messages is empty, or has a first one
no_first : (ms : List Message) → not (is_some (slice_get ms 0)) ≡ (length ms == 0)
no_first [] = refl
no_first (m ∷ ms) = sym (ne_eqb (length (m ∷ ms)) 0 (omega arith))

-- where there is a current message some are parsed
some_parsed : (past : List ParsedStep) (m : Message) (ms : List Message) → current past ≡ Some m → parse_of past ≡ ms → (length ms == 0) ≡ false
some_parsed past m [] e parse =
    absurd (none-some m (sym (ap (λ ms. if head_count (steps past) == 0 then None else slice_get ms (head_count (steps past) - 1)) parse
    ∙ cond_both (head_count (steps past) == 0) None None (λ o. o ≡ None) (λ _. refl) (λ _. refl)) ∙ e))
some_parsed past m (n ∷ ms) e parse = ne_eqb (length (n ∷ ms)) 0 (omega arith)

-- no head was handed out and none is coming: none is parsed
pub unparsed_same : (setting : Setting) (past : List ParsedStep) → Legal setting past
    → (is_none (kept_of setting past).exchange && not (kept_of setting past).is_coming) ≡ (length (parse_of past) == 0)
unparsed_same setting past l = elim (current_of setting past l) [
  | inl n ↦
      let gone = exchange_none setting past n in
      let shut = none_open past n in
      let count = n.count in
      (λ i. is_none (gone i) && not (not (shut i) && is_some (slice_get (parse_of past) (count i)))) ∙ no_first (parse_of past)
  | inr (m, h, c) ↦
      ap (λ o. is_none o && not (kept_of setting past).is_coming) (exchange_is setting past m h c)
      ∙ sym (some_parsed past m (parse_of past) c.current_is refl)
]

-- the request is too slow in both
slow_same : (setting : Setting) (past : List ParsedStep) (first ms : ℕ) → Legal setting past
    → is_slow setting (kept_of setting past) first ms ≡ table.is_slow setting past first ms
slow_same setting past first ms l = ap (λ b. b && has_run_out setting.request_timeout first ms) (unparsed_same setting past l)

-- false behind a test
and_false : (b : Bool) → (b && false) ≡ false
and_false true = refl
and_false false = refl

-- nothing is left of an answered request in both
pub done_same : (setting : Setting) (past : List ParsedStep) → Legal setting past
    → of_exchange (λ x. is_answered x.reply && is_nothing x.rest) (kept_of setting past)
    ≡ (is_complete (steps past) && not (is_open (steps past)) && has_ended_body (current past))
done_same setting past l = elim (current_of setting past l) [
  | inl n ↦
      rw (exchange_none setting past n, n.current_is) (sym (and_false (is_complete (steps past) && not (is_open (steps past)))))
  | inr (m, h, c) ↦
      let t = steps past in
      let order = orderly setting past l in
      let reply = reply_answered setting t h order in
      let shown : of_exchange (λ x. is_answered x.reply && is_nothing x.rest) (kept_of setting past) ≡ (is_complete t && is_nothing (rest_of past m h.body)) =
      rw (exchange_is setting past m h c) (ap (λ b. b && is_nothing (rest_of past m h.body)) reply) in
      let ended : has_ended_body (current past) ≡ is_some (next_start m.body) = ap has_ended_body c.current_is in
      elim (cases_Bool (is_complete t)) [
        | inr unfinished ↦
            shown ∙ (λ i. unfinished i && is_nothing (rest_of past m h.body))
            ∙ sym (λ i. unfinished i && not (is_open t) && has_ended_body (current past))
        | inl complete ↦
            let nothing = (rest_says setting past m h.body false (c.passed_is ∙ passed_complete past m complete) complete c.body).nothing in
            let shut : is_open t ≡ false = elim (cases_Bool (is_upgraded t)) [
              | inl up ↦ absurd (true≢false (sym complete ∙ (order.upgraded up).incomplete))
              | inr plain ↦ current_open setting past m h c ∙ (λ i. plain i || not (complete i))
            ] in
            shown ∙ (λ i. complete i && nothing i) ∙ sym (λ i. complete i && not (shut i) && ended i)
      ]
]

-- the connection is idle for too long in both
idle_same : (setting : Setting) (past : List ParsedStep) (first ms : ℕ) → Legal setting past
    → is_idle setting (kept_of setting past) first ms ≡ table.is_idle setting past first ms
idle_same setting past first ms l =
    let done = done_same setting past l in
    let left : length (drop (passed past) (taken (steps past))) ≡ held past = length-drop (passed past) (taken (steps past)) in
    λ i. done i && (left i == 0) && is_kept_too_long setting.keep_alive (counted_from first (completed_at (steps past))) ms

-- ---- the parts

-- a tick alone writes nothing
tick_silent : (setting : Setting) (before : List Step) (ms : ℕ) → step_text setting before (on.tick ms) on.done ≡ []
unfolding step_text
tick_silent setting before ms = refl

-- nor does giving up
abandoned_silent : (setting : Setting) (before : List Step) (ms : ℕ) → step_text setting before (on.tick ms) on.abandoned ≡ []
unfolding step_text
abandoned_silent setting before ms = refl

-- a slow request is answered
slow_text : (setting : Setting) (before : List Step) (ms : ℕ) → step_text setting before (on.tick ms) (on.expired ends.slow_request) ≡ timeout_text ms
unfolding step_text
slow_text setting before ms = refl

-- a connection that was kept isn't
idle_silent : (setting : Setting) (before : List Step) (ms : ℕ) → step_text setting before (on.tick ms) (on.expired ends.keep_alive_expired) ≡ []
unfolding step_text
idle_silent setting before ms = refl

-- the outcome of a tick
tick_gives : (setting : Setting) (before : List ParsedStep) (ms : ℕ)
    → outcome_of setting before (on.tick ms) ≡ tick_outcome setting before (closing setting before) (unwrap_or (first_tick (steps before)) ms) ms
unfolding outcome_of
tick_gives setting before ms = refl

-- what a tick that answers so leaves, but for its moment
abbrev tick_kept : Setting → List ParsedStep → Outcome → List ℕ → Option End → Change
tick_kept setting before o buffer end =
    let k = kept_of setting before in
    record { outcome = o; kept = record k { is_over = is_over_by o || k.is_over; buffered = buffer; failed = end } }

-- it has no part in an answer
tick_apart : (ms : ℕ) → IsApart (on.tick ms)
tick_apart ms = record { answers = λ d. refl; chunk = refl; completes = refl; body_end = refl; drop = refl; send_continue = refl }

-- a tick with this outcome, if the parts say so
tick_made : (setting : Setting) (before : List ParsedStep) (ms : ℕ) (o : Outcome) (buffer : List ℕ) (end : Option End) (parse : List Message)
    → Legal setting (made (on.tick ms) o parse ∷ before) → Quiet before (made (on.tick ms) o parse).step
    → buffered setting ((made (on.tick ms) o parse).step ∷ steps before) ≡ buffer
    → option_or (told ((made (on.tick ms) o parse).step ∷ steps before)) (body_end_of ((made (on.tick ms) o parse).step ∷ steps before)) ≡ end
    → ticking setting (kept_of setting before) (closing_by setting (kept_of setting before)) ms ≡ at_moment ms (tick_kept setting before o buffer end)
    → Changes setting before (made (on.tick ms) o parse)
tick_made setting before ms o buffer end parse l q buffer_is end_is same =
    let x = made (on.tick ms) o parse in
    let k = kept_of setting before in
    let clock = record k.clock { first = option_or k.clock.first (Some ms); last = Some ms } in
    record {
      change = at_moment ms (tick_kept setting before o buffer end);
      changes = sym same;
      answers = refl;
      parts = kept-quiet setting x before k.exchange buffer k.is_sending clock end l q refl (exchange-apart setting x before l q (tick_apart ms))
          buffer_is (is_sending-cons x.step (steps before)) (clock-ticked x.step (steps before) refl) end_is;
      since = refl;
    }

-- ---- by why the connection closes

-- each outcome of a tick
tick_by : (setting : Setting) (before : List ParsedStep) (x : ParsedStep) (ms : ℕ) (end : Option End) → closing setting before ≡ end
    → Legal setting (x ∷ before) → x.step.event ≡ on.tick ms → Changes setting before x
tick_by setting before x ms (Some end) closes l e =
    let k = kept_of setting before in
    let first = unwrap_or (first_tick (steps before)) ms in
    let gives = tick_gives setting before ms ∙ ap (λ c. tick_outcome setting before c first ms) closes in
    let same = ap (λ c. ticking setting k c ms) (closing_of setting before l.3 ∙ closes) in
    elim (cases_Bool (is_abandoned setting k first ms)) [
      | inl waited ↦
          at_step setting before x (on.tick ms) on.abandoned l e (gives ∙ ap (λ b. if b then on.abandoned else on.done) waited)
          (λ parse l'.
          let y = made (on.tick ms) on.abandoned parse in
          let q : Quiet before y.step = record { taken = refl; eof = refl; accepted = refl; pull = refl; head = refl; bytes = refl; frames = refl } in
          tick_made setting before ms on.abandoned k.buffered k.failed parse l' q
          (buffered-quiet setting y.step before l.3 refl (abandoned_silent setting (steps before) ms)) (told-apart y before q (tick_apart ms) refl refl)
          (same ∙ ap (λ b. at_moment ms (if b then record { outcome = on.abandoned; kept = record k { is_over = true } } else record { outcome = on.done; kept = k })) waited))
      | inr waits ↦
          at_step setting before x (on.tick ms) on.done l e (gives ∙ ap (λ b. if b then on.abandoned else on.done) waits)
          (λ parse l'.
          let y = made (on.tick ms) on.done parse in
          let q : Quiet before y.step = record { taken = refl; eof = refl; accepted = refl; pull = refl; head = refl; bytes = refl; frames = refl } in
          tick_made setting before ms on.done k.buffered k.failed parse l' q
          (buffered-quiet setting y.step before l.3 refl (tick_silent setting (steps before) ms)) (told-apart y before q (tick_apart ms) refl refl)
          (same ∙ ap (λ b. at_moment ms (if b then record { outcome = on.abandoned; kept = record k { is_over = true } } else record { outcome = on.done; kept = k })) waits))
    ]
tick_by setting before x ms None closes l e =
    let k = kept_of setting before in
    let first = unwrap_or (first_tick (steps before)) ms in
    let gives = tick_gives setting before ms ∙ ap (λ c. tick_outcome setting before c first ms) closes in
    let same = ap (λ c. ticking setting k c ms) (closing_of setting before l.3 ∙ closes) in
    let outcome : Bool → Bool → Outcome =
    λ slow idle. if slow then on.expired ends.slow_request else (if idle then on.expired ends.keep_alive_expired else on.done) in
    let change : Bool → Bool → Change = λ slow idle. at_moment ms
    (if slow
    then record { outcome = on.expired ends.slow_request; kept = record k { failed = Some ends.slow_request; buffered = k.buffered ++ timeout_text ms } }
    else (if idle
    then record { outcome = on.expired ends.keep_alive_expired; kept = record k { failed = Some ends.keep_alive_expired } }
    else record { outcome = on.done; kept = k })) in
    let slow_is = slow_same setting before first ms l.3 in
    let idle_is = idle_same setting before first ms l.3 in
    elim (cases_Bool (table.is_slow setting before first ms)) [
      | inl slow ↦
          at_step setting before x (on.tick ms) (on.expired ends.slow_request) l e (gives ∙ ap (λ b. outcome b (table.is_idle setting before first ms)) slow)
          (λ parse l'.
          let y = made (on.tick ms) (on.expired ends.slow_request) parse in
          let q : Quiet before y.step = record { taken = refl; eof = refl; accepted = refl; pull = refl; head = refl; bytes = refl; frames = refl } in
          tick_made setting before ms (on.expired ends.slow_request) (k.buffered ++ timeout_text ms) (Some ends.slow_request) parse l' q
          (buffered-more setting y.step before l.3 refl ∙ ap (λ t. k.buffered ++ t) (slow_text setting (steps before) ms))
          (told-now y.step (steps before) ends.slow_request refl)
          (same ∙ ap (λ b. change b (is_idle setting k first ms)) (slow_is ∙ slow)))
      | inr quick ↦ elim (cases_Bool (table.is_idle setting before first ms)) [
        | inl idle ↦
            at_step setting before x (on.tick ms) (on.expired ends.keep_alive_expired) l e (gives ∙ (λ i. outcome (quick i) (idle i)))
            (λ parse l'.
            let y = made (on.tick ms) (on.expired ends.keep_alive_expired) parse in
            let q : Quiet before y.step = record { taken = refl; eof = refl; accepted = refl; pull = refl; head = refl; bytes = refl; frames = refl } in
            tick_made setting before ms (on.expired ends.keep_alive_expired) k.buffered (Some ends.keep_alive_expired) parse l' q
            (buffered-quiet setting y.step before l.3 refl (idle_silent setting (steps before) ms))
            (told-now y.step (steps before) ends.keep_alive_expired refl)
            (same ∙ (let s = slow_is ∙ quick in let d = idle_is ∙ idle in λ i. change (s i) (d i))))
        | inr busy ↦
            at_step setting before x (on.tick ms) on.done l e (gives ∙ (λ i. outcome (quick i) (busy i)))
            (λ parse l'.
            let y = made (on.tick ms) on.done parse in
            let q : Quiet before y.step = record { taken = refl; eof = refl; accepted = refl; pull = refl; head = refl; bytes = refl; frames = refl } in
            tick_made setting before ms on.done k.buffered k.failed parse l' q
            (buffered-quiet setting y.step before l.3 refl (tick_silent setting (steps before) ms)) (told-apart y before q (tick_apart ms) refl refl)
            (same ∙ (let s = slow_is ∙ quick in let d = idle_is ∙ busy in λ i. change (s i) (d i))))
      ]
    ]

-- what a tick changes
pub tick_changes : (setting : Setting) (before : List ParsedStep) (x : ParsedStep) (ms : ℕ) → Legal setting (x ∷ before) → x.step.event ≡ on.tick ms
    → Changes setting before x
tick_changes setting before x ms l e = tick_by setting before x ms (closing setting before) refl l e
