-- What each event that is allowed adds to the exchanges of a trace.
use Rattle.std.proofs.Common.{◌≡◌, ℕ, Bool, true, false, List, [], ◌∷◌, length, Option, Some, None, is_some, inl, inr, refl, sym, ap, ◌∙◌, subst, arith}
use Rattle.std.specs.Prelude.{IsTrue, unwrap_or, option_map, option_and_then, ◌==◌}
use Rattle.std.proofs.lemmas.Bool.{cond-false, cond_both, and_parts, not-true, eqb-true, true≢false, false≢true, cases_Bool}
use Rattle.std.proofs.lemmas.Option.{slice_get_within}
use Rattle.model_h1.specs.Request.{Fault, too_large, Reading, head_is, faulty}
use Rattle.model_h1.specs.Setting.{Setting}
use Rattle.model_h1.specs.Answer.{AnswerHead, BodySize}
use Rattle.model_h1.specs.Frame.{Message, ProtocolError}
use Rattle.model_h1.specs.FrameText.{send_error}
use Rattle.model_h1.specs.Parse as parsed
use Rattle.model_h1.specs.Handshake.{HandshakeError, handshake_error}
use Rattle.model_h1.specs.End as ends
use Rattle.model_h1.specs.End.{End}
use Rattle.model_h1.specs.Event.{Event, Outcome}
use Rattle.model_h1.specs.Event as on
use Rattle.model_h1.specs.Sums.{Step, request, answered, answered_by, chunk_len, accepted_limit, head_of, is_continue, completes, is_open, is_answering, is_upgraded, is_sending, had_continue, now}
use Rattle.model_h1.specs.Past.{ParsedStep, steps, parse_of, current, upcoming, held}
use Rattle.model_h1.specs.Text.{step_text}
use Rattle.model_h1.specs.Closing.{told, fault_end, closing}
use Rattle.model_h1.specs.Allowed.{is_allowed_closing, is_allowed, waits_for_answer}
use Rattle.model_h1.specs.OutcomeTable.{head_outcome, upcoming_outcome, next_outcome, tick_outcome, is_abandoned, is_slow, is_idle, send_outcome, outcome_of}
use Rattle.model_h1.specs.Laws.Exchanges.{Exchange, changed_by, Refusal, faulty_head, too_slow, refused_by}
use Rattle.model_h1.proofs.ClosingLemmas.{running as not_closing}
use Rattle.model_h1.proofs.StepLemmas.{step, allowed_open}
use Rattle.model_h1.proofs.HeldSteps.{pull_no_head}
use Rattle.model_h1.proofs.HandedTrace.{told-here, told_closes}
use Rattle.model_h1.proofs.HandedSteps.{Sound, nothing, running, failed}
use Rattle.model_h1.proofs.ExchangeReplies.{answer_grown, accept_grown, piece_grown, end_grown, sent_grown}
use Rattle.model_h1.proofs.ExchangeSteps.{Newest, NewestIs, Spoken, Goes, quiet_goes, refusal_goes, reply_goes, continue_goes, head_goes}

-- ---- where the connection is open

-- an event that isn't allowed while the connection closes comes while it doesn't
stays_open : (setting : Setting) (past : List ParsedStep) (e : Event) → is_allowed_closing (steps past) e ≡ false
    → IsTrue (is_allowed setting past e) → is_some (closing setting past) ≡ false
unfolding is_allowed
stays_open setting past e shut ok = ap is_some (not_closing setting past e shut ok)

-- there no end was told
untold : (setting : Setting) (past : List ParsedStep) → is_some (closing setting past) ≡ false → is_some (told (steps past)) ≡ false
untold setting past opens = elim (cases_Bool (is_some (told (steps past)))) [
  | inl some ↦ absurd (true≢false (sym (told_closes setting past some) ∙ opens))
  | inr none ↦ none
]

-- so nothing was refused
unrefused : (setting : Setting) (past : List ParsedStep) (event : Event) (outcome : Outcome) (es : List Exchange) (r : Option Refusal)
    → is_some (closing setting past) ≡ false → Spoken setting (steps past) es r
    → (Spoken setting (steps past) es None → Goes setting (steps past) event outcome es None) → Goes setting (steps past) event outcome es r
unrefused setting past event outcome es r opens spoken goes =
    let none = spoken.refused (untold setting past opens) in
    subst (Goes setting (steps past) event outcome es) (sym none) (goes (subst (Spoken setting (steps past) es) none spoken))

-- ---- events that write nothing

-- such an event, with an outcome that is no head
silent : (setting : Setting) (before : List Step) (event : Event) (outcome : Outcome) (es : List Exchange) (r : Option Refusal)
    → head_of outcome ≡ None → accepted_limit event outcome ≡ None → ((drained : Bool) → answered_by event drained ≡ None)
    → chunk_len event ≡ 0 → is_continue event ≡ false → completes event ≡ false
    → ((e : Exchange) → changed_by before event outcome e ≡ e)
    → step_text setting before event outcome ≡ [] → refused_by before event outcome ≡ None
    → Spoken setting before es r → Goes setting before event outcome es r
silent setting before event outcome es r head plain answer chunk send_continue complete change says refuses spoken =
    quiet_goes setting before event outcome es r
    (record {
      head = head;
      plain = plain;
      answer = answer;
      chunk = chunk;
      send_continue = send_continue;
      complete = complete;
      change = change;
    })
    says refuses spoken

-- ---- Next

-- a faulty head
fault_goes : (setting : Setting) (before : List Step) (fault : Fault) (es : List Exchange) → Spoken setting before es None
    → Goes setting before on.next (on.fault fault) es None
unfolding changed_by refused_by step_text
fault_goes setting before fault es spoken =
    refusal_goes setting before on.next (on.fault fault) es (faulty_head fault (now before))
    (record {
      head = refl;
      plain = refl;
      answer = λ d. refl;
      chunk = refl;
      send_continue = refl;
      complete = refl;
      change = λ e. refl;
    })
    refl refl (told-here (step on.next (on.fault fault)) before (fault_end fault) refl) (λ moment x. absurd (other moment x)) spoken
  where
    other : (moment : ℕ) → Some (faulty_head fault (now before)) ≡ Some (too_slow moment) → ⊥
    other moment x = cc

-- nothing yet
pending_goes : (setting : Setting) (before : List Step) (es : List Exchange) → Spoken setting before es None
    → Goes setting before on.next on.pending es None
unfolding changed_by refused_by step_text
pending_goes setting before es spoken =
    silent setting before on.next on.pending es None refl refl (λ d. refl) refl refl refl (λ e. refl) refl refl spoken

-- the next message, by its reading
reading_goes : (setting : Setting) (before : List Step) (reading : Reading) (es : List Exchange) → is_open before ≡ false
    → Spoken setting before es None → Goes setting before on.next (head_outcome reading) es None
reading_goes setting before (head_is h) es shut spoken = head_goes setting before h es shut spoken
reading_goes setting before (faulty fault) es shut spoken = fault_goes setting before fault es spoken

-- if there is one
upcoming_goes : (setting : Setting) (past : List ParsedStep) (m : Option parsed.Message) (es : List Exchange) → is_open (steps past) ≡ false
    → Spoken setting (steps past) es None → Goes setting (steps past) on.next (upcoming_outcome setting past m) es None
upcoming_goes setting past (Some m) es shut spoken = reading_goes setting (steps past) m.reading es shut spoken
upcoming_goes setting past None es shut spoken =
    cond_both (held past == setting.hold_size) (on.fault too_large) on.pending (λ o. Goes setting (steps past) on.next o es None)
    (λ _. fault_goes setting (steps past) too_large es spoken) (λ _. pending_goes setting (steps past) es spoken)

-- by what closes the connection
next_goes : (setting : Setting) (past : List ParsedStep) (end : Option End) (es : List Exchange) (r : Option Refusal) → closing setting past ≡ end
    → IsTrue (is_allowed setting past on.next) → Spoken setting (steps past) es r
    → Goes setting (steps past) on.next (next_outcome setting past end) es r
unfolding is_allowed changed_by refused_by step_text
next_goes setting past (Some end) es r e ok spoken =
    silent setting (steps past) on.next (on.closed end) es r refl refl (λ d. refl) refl refl refl (λ e. refl) refl refl spoken
next_goes setting past None es r e ok spoken =
    let opens = ap is_some e in
    let test = sym (cond-false (is_some (closing setting past)) _ _ opens) ∙ (and_parts _ _ ok).1 in
    unrefused setting past on.next _ es r opens spoken (upcoming_goes setting past (upcoming past) es (not-true _ test))

-- ---- Tick

-- where no head has come whole, there is no exchange
unheard : (setting : Setting) (past : List ParsedStep) (es : List Exchange) → Sound setting past → is_some (closing setting past) ≡ false
    → length (parse_of past) ≡ 0 → NewestIs (steps past) es → es ≡ []
unheard setting past [] sound opens none n = refl
unheard setting past (e ∷ es) (nothing empty) opens none n = absurd (no_head (sym n.asked ∙ empty.asked))
  where
    no_head : Some e.head ≡ None → ⊥
    no_head x = cc
unheard setting past (e ∷ es) (running h hs handed r) opens none n =
    absurd (omega (arith, slice_get_within (parse_of past) (length hs) r.message r.there))
unheard setting past (e ∷ es) (failed prefix tells) opens none n = absurd (true≢false (sym (told_closes setting past tells) ∙ opens))

-- a tick of this outcome writes nothing
tick_silent : (setting : Setting) (before : List Step) (ms : ℕ) (outcome : Outcome) (es : List Exchange) (r : Option Refusal)
    → head_of outcome ≡ None → step_text setting before (on.tick ms) outcome ≡ [] → refused_by before (on.tick ms) outcome ≡ None
    → Spoken setting before es r → Goes setting before (on.tick ms) outcome es r
unfolding changed_by
tick_silent setting before ms outcome es r head says refuses spoken =
    silent setting before (on.tick ms) outcome es r head refl (λ d. refl) refl refl refl (λ e. refl) says refuses spoken

-- no head came in time
slow_goes : (setting : Setting) (past : List ParsedStep) (ms : ℕ) (es : List Exchange) → Sound setting past
    → is_some (closing setting past) ≡ false → length (parse_of past) ≡ 0 → Spoken setting (steps past) es None
    → Goes setting (steps past) (on.tick ms) (on.expired ends.slow_request) es None
unfolding changed_by refused_by step_text
slow_goes setting past ms es sound opens none spoken =
    refusal_goes setting (steps past) (on.tick ms) (on.expired ends.slow_request) es (too_slow ms)
    (record {
      head = refl;
      plain = refl;
      answer = λ d. refl;
      chunk = refl;
      send_continue = refl;
      complete = refl;
      change = λ e. refl;
    })
    refl refl (told-here (step (on.tick ms) (on.expired ends.slow_request)) (steps past) ends.slow_request refl)
    (λ moment x. unheard setting past es sound opens none spoken.newest) spoken

-- by what closes the connection
tick_goes : (setting : Setting) (past : List ParsedStep) (end : Option End) (first ms : ℕ) (es : List Exchange) (r : Option Refusal)
    → closing setting past ≡ end → Sound setting past → Spoken setting (steps past) es r
    → Goes setting (steps past) (on.tick ms) (tick_outcome setting past end first ms) es r
unfolding refused_by step_text
tick_goes setting past (Some end) first ms es r e sound spoken =
    let before = steps past in
    cond_both (is_abandoned setting past first ms) on.abandoned on.done (λ o. Goes setting before (on.tick ms) o es r)
    (λ _. tick_silent setting before ms on.abandoned es r refl refl refl spoken)
    (λ _. tick_silent setting before ms on.done es r refl refl refl spoken)
tick_goes setting past None first ms es r e sound spoken =
    let before = steps past in
    let opens = ap is_some e in
    cond_both (is_slow setting past first ms) (on.expired ends.slow_request) _ (λ o. Goes setting before (on.tick ms) o es r)
    (λ slow.
    let none = eqb-true (length (parse_of past)) 0 (and_parts _ _ slow).0 in
    unrefused setting past (on.tick ms) (on.expired ends.slow_request) es r opens spoken (slow_goes setting past ms es sound opens none))
    (λ _. cond_both (is_idle setting past first ms) (on.expired ends.keep_alive_expired) on.done (λ o. Goes setting before (on.tick ms) o es r)
    (λ _. tick_silent setting before ms (on.expired ends.keep_alive_expired) es r refl refl refl spoken)
    (λ _. tick_silent setting before ms on.done es r refl refl refl spoken))

-- ---- events of an exchange

-- where a request has no answer yet there is a head
no_request : (before : List Step) (P : Type 0) → waits_for_answer before ≡ true → request before ≡ None → P
no_request before P free none =
    absurd (false≢true (sym (ap is_some none) ∙ (and_parts _ _ (and_parts _ _ (and_parts _ _ free).0).0).0))

-- and where one is handed in
no_answer : (before : List Step) (P : Type 0) → is_answering before ≡ true → answered before ≡ None → P
no_answer before P answering none = absurd (false≢true (sym (ap is_some none) ∙ (and_parts _ _ answering).0))

-- an answer
answer_goes : (setting : Setting) (before : List Step) (head : AnswerHead) (size : BodySize) (es : List Exchange) → waits_for_answer before ≡ true
    → Spoken setting before es None → Goes setting before (on.answer head size) on.done es None
unfolding changed_by refused_by
answer_goes setting before head size [] free spoken = no_request before _ free spoken.newest.0
answer_goes setting before head size (e ∷ es) free spoken =
    let n : Newest before e = spoken.newest in
    reply_goes setting (step (on.answer head size) on.done) before e es _ refl refl
    (answer_grown setting before head size e.head e.reply n.asked free n.reply_is) spoken

-- a piece of its body
piece_goes : (setting : Setting) (before : List Step) (bytes : List ℕ) (es : List Exchange) → is_answering before ≡ true
    → Spoken setting before es None → Goes setting before (on.chunk bytes) on.done es None
unfolding changed_by refused_by
piece_goes setting before bytes [] answering spoken = no_answer before _ answering spoken.newest.2
piece_goes setting before bytes (e ∷ es) answering spoken =
    let n : Newest before e = spoken.newest in
    reply_goes setting (step (on.chunk bytes) on.done) before e es _ refl refl
    (piece_grown setting before bytes e.head e.reply n.asked answering n.reply_is) spoken

-- its end
end_goes : (setting : Setting) (before : List Step) (es : List Exchange) → is_answering before ≡ true
    → Spoken setting before es None → Goes setting before on.body_end on.done es None
unfolding changed_by refused_by
end_goes setting before [] answering spoken = no_answer before _ answering spoken.newest.2
end_goes setting before (e ∷ es) answering spoken =
    let n : Newest before e = spoken.newest in
    reply_goes setting (step on.body_end on.done) before e es _ refl refl
    (end_grown setting before e.head e.reply n.asked answering n.reply_is) spoken

-- a client is told to go on
told_goes : (setting : Setting) (before : List Step) (es : List Exchange) → waits_for_answer before ≡ true → had_continue before ≡ false
    → Spoken setting before es None → Goes setting before on.send_continue on.done es None
told_goes setting before [] free once spoken = no_request before _ free spoken.newest.0
told_goes setting before (e ∷ es) free once spoken = continue_goes setting before e es free once spoken

-- a WebSocket, by what is wrong with the handshake
accept_goes : (setting : Setting) (before : List Step) (limit : ℕ) (wrong : Option HandshakeError) (es : List Exchange)
    → waits_for_answer before ≡ true → Spoken setting before es None
    → Goes setting before (on.accept limit) (unwrap_or (option_map on.refused wrong) on.done) es None
unfolding changed_by refused_by step_text
accept_goes setting before limit (Some error) es free spoken =
    silent setting before (on.accept limit) (on.refused error) es None refl refl (λ d. refl) refl refl refl (λ e. refl) refl refl spoken
accept_goes setting before limit None [] free spoken = no_request before _ free spoken.newest.0
accept_goes setting before limit None (e ∷ es) free spoken =
    let n : Newest before e = spoken.newest in
    reply_goes setting (step (on.accept limit) on.done) before e es _ refl refl
    (accept_grown setting before limit e.head e.reply n.asked free n.reply_is) spoken

-- a message that is sent, by what is wrong with it
send_goes : (setting : Setting) (before : List Step) (m : Message) (wrong : Option ProtocolError) (es : List Exchange)
    → is_upgraded before ≡ true → Spoken setting before es None → Goes setting before (on.send m) (send_outcome wrong) es None
unfolding changed_by refused_by step_text
send_goes setting before m (Some error) es up spoken =
    silent setting before (on.send m) (on.protocol error) es None refl refl (λ d. refl) refl refl refl (λ e. refl) refl refl spoken
send_goes setting before m None [] up spoken = absurd (false≢true (sym (ap is_some spoken.newest.1) ∙ up))
send_goes setting before m None (e ∷ es) up spoken =
    let n : Newest before e = spoken.newest in
    reply_goes setting (step (on.send m) on.done) before e es _ refl refl
    (sent_grown setting before m e.head e.reply up n.reply_is) spoken

-- ---- each event

-- each event that is allowed goes on with the exchanges
pub event_goes : (setting : Setting) (past : List ParsedStep) (event : Event) (es : List Exchange) (r : Option Refusal)
    → IsTrue (is_allowed setting past event) → Sound setting past → Spoken setting (steps past) es r
    → Goes setting (steps past) event (outcome_of setting past event) es r
unfolding outcome_of changed_by refused_by step_text
event_goes setting past (on.read bytes) es r ok sound spoken =
    silent setting (steps past) (on.read bytes) _ es r refl refl (λ d. refl) refl refl refl (λ e. refl) refl refl spoken
event_goes setting past on.eof es r ok sound spoken =
    silent setting (steps past) on.eof on.done es r refl refl (λ d. refl) refl refl refl (λ e. refl) refl refl spoken
event_goes setting past on.next es r ok sound spoken = next_goes setting past (closing setting past) es r refl ok spoken
event_goes setting past on.pull es r ok sound spoken =
    silent setting (steps past) on.pull _ es r (pull_no_head (steps past) (current past)) refl (λ d. refl) refl refl refl (λ e. refl)
    refl refl spoken
event_goes setting past on.drop_body es r ok sound spoken =
    silent setting (steps past) on.drop_body on.done es r refl refl (λ d. refl) refl refl refl (λ e. refl) refl refl spoken
event_goes setting past on.send_continue es r ok sound spoken =
    let test = and_parts _ _ (allowed_open setting past on.send_continue refl ok) in
    unrefused setting past on.send_continue on.done es r (stays_open setting past on.send_continue refl ok) spoken
    (told_goes setting (steps past) es test.0 (not-true _ (and_parts _ _ test.1).1))
event_goes setting past (on.answer head size) es r ok sound spoken =
    unrefused setting past (on.answer head size) on.done es r (stays_open setting past (on.answer head size) refl ok) spoken
    (answer_goes setting (steps past) head size es (allowed_open setting past (on.answer head size) refl ok))
event_goes setting past (on.chunk bytes) es r ok sound spoken =
    unrefused setting past (on.chunk bytes) on.done es r (stays_open setting past (on.chunk bytes) refl ok) spoken
    (piece_goes setting (steps past) bytes es (and_parts _ _ (allowed_open setting past (on.chunk bytes) refl ok)).0)
event_goes setting past on.body_end es r ok sound spoken =
    unrefused setting past on.body_end on.done es r (stays_open setting past on.body_end refl ok) spoken
    (end_goes setting (steps past) es (allowed_open setting past on.body_end refl ok))
event_goes setting past on.body_error es r ok sound spoken =
    silent setting (steps past) on.body_error on.done es r refl refl (λ d. refl) refl refl refl (λ e. refl) refl refl spoken
event_goes setting past (on.write n) es r ok sound spoken =
    silent setting (steps past) (on.write n) _ es r refl refl (λ d. refl) refl refl refl (λ e. refl) refl refl spoken
event_goes setting past (on.tick ms) es r ok sound spoken =
    tick_goes setting past (closing setting past) _ ms es r refl sound spoken
event_goes setting past on.drain es r ok sound spoken =
    silent setting (steps past) on.drain on.done es r refl refl (λ d. refl) refl refl refl (λ e. refl) refl refl spoken
event_goes setting past (on.accept limit) es r ok sound spoken =
    let parts = and_parts _ _ (and_parts _ _ (allowed_open setting past (on.accept limit) refl ok)).0 in
    unrefused setting past (on.accept limit) _ es r (stays_open setting past (on.accept limit) refl ok) spoken
    (accept_goes setting (steps past) limit (option_and_then handshake_error (request (steps past))) es parts.0)
event_goes setting past (on.send m) es r ok sound spoken =
    unrefused setting past (on.send m) _ es r (stays_open setting past (on.send m) refl ok) spoken
    (send_goes setting (steps past) m (send_error (is_sending (steps past)) m) es (and_parts _ _ (allowed_open setting past (on.send m) refl ok)).0)
