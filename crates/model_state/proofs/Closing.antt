-- The parts tell why a connection closes.
use Rattle.std.proofs.Common.{◌≡◌, ℕ, Bool, true, false, List, drop, length, Option, Some, None, refl, sym, ap, ◌∙◌, inl, inr}
use Rattle.std.specs.Prelude.{◌&&◌, ◌||◌, not, nat_lt, is_some, is_none, if◌then◌else◌}
use Rattle.std.specs.Option.{option_or}
use Rattle.std.proofs.lemmas.Bool.{cond-true, cond-false, cond_both, false≢true}
use Rattle.model_h1.specs.Request.{BodyKind, no_body, fixed_body, chunked_body, raw_body, is_raw_kind, is_chunked_kind, Head}
use Rattle.model_h1.specs.Setting.{Setting}
use Rattle.model_h1.specs.Answer.{asked_of, type_of}
use Rattle.model_h1.specs.Parse.{Message, frames_of, fail_of, connection_reader}
use Rattle.model_h1.specs.End as ends
use Rattle.model_h1.specs.End.{End}
use Rattle.model_h1.specs.Sums.{Step, Answered, taken, accepted, request, answered, is_complete, is_receiving, has_ended, is_draining, was_dropped}
use Rattle.model_h1.specs.Sums as sums
use Rattle.model_h1.specs.Past.{ParsedStep, steps, current, upcoming, passed, given_frames, has_chunks}
use Rattle.model_h1.specs.Closing.{end_where, end_by, is_kept, told, body_end_of, asked_by, unread_end, unread_by, has_more_frames, closing}
use Rattle.model_h1.specs.Closing as model
use Rattle.model_h1.proofs.PastLemmas.{Legal}
use Rattle.model_h1.proofs.CarriedLemmas.{passed_complete}
use Rattle.model_state.specs.Kept.{frames_rest, Exchange, Kept, of_exchange}
use Rattle.model_state.specs.KeptOf.{rest_of, reply_of, exchange_with, kept_of}
use Rattle.model_state.specs.Local.{answered_end_of, answered_end, has_no_frame, is_exhausted, reasons_of, closing_by}
use Rattle.model_state.proofs.Current.{Current, NoCurrent, current_of}
use Rattle.model_state.proofs.Orderly.{orderly}
use Rattle.model_state.proofs.Frames.{raw_head}
use Rattle.model_state.proofs.Received.{upgraded_current}
use Rattle.model_state.proofs.FramesLeft.{frames_left, front_partial}
use Rattle.model_state.proofs.Rests.{rest_says}
use Rattle.model_state.proofs.Parts.{exchange_is, exchange_none, upgraded_of, open_of}

-- ---- behind a complete answer

-- where no head was handed out there is no such end
none_ends : (setting : Setting) (past : List ParsedStep) → NoCurrent past → model.answered_end setting past ≡ None
none_ends setting past n =
    (λ i. if is_complete (steps past) then option_or (asked_by setting (n.request_is i) (answered (steps past))) (unread_by (steps past) (n.current_is i)) else None)
    ∙ cond_both (is_complete (steps past)) None None (λ o. o ≡ None) (λ _. refl) (λ _. refl)

-- the end that an unread body is, of the current message
unread_is : (past : List ParsedStep) (m : Message) (h : Head) (setting : Setting) → Current setting past m h
    → unread_by (steps past) (current past) ≡ unread_end m.body (is_chunked_kind h.body && was_dropped (steps past))
unread_is past m h setting c =
    ap (unread_by (steps past)) c.current_is ∙ ap (λ r. unread_end m.body (has_chunks r && was_dropped (steps past))) c.reading

-- the end behind the answer to the current message
current_ends : (setting : Setting) (past : List ParsedStep) (m : Message) (h : Head) → Legal setting past → Current setting past m h
    → answered_end_of (exchange_with setting past m h) (reply_of setting (steps past) h (answered (steps past))) ≡ model.answered_end setting past
current_ends setting past m h l c = go (answered (steps past)) (is_complete (steps past)) refl refl
  where
    x : Exchange
    x = exchange_with setting past m h

    incomplete : is_complete (steps past) ≡ false → model.answered_end setting past ≡ None
    incomplete f = cond-false (is_complete (steps past)) _ _ f

    go : (a : Option Answered) (done : Bool) → answered (steps past) ≡ a → is_complete (steps past) ≡ done
        → answered_end_of x (reply_of setting (steps past) h a) ≡ model.answered_end setting past
    go None true e f = absurd (false≢true (sym (ap is_some e) ∙ (orderly setting past l).complete f))
    go None false e f = sym (incomplete f)
    go (Some a) false e f =
        ap (answered_end_of x) (cond-false (is_complete (steps past)) _ _ f) ∙ sym (incomplete f)
    go (Some a) true e f =
        let place = c.passed_is ∙ passed_complete past m f in
        let rest = rest_says setting past m h.body (was_dropped (steps past)) place f c.body in
        let asked : asked_by setting (request (steps past)) (answered (steps past)) ≡ asked_by setting (Some h) (Some a) = λ i. asked_by setting (c.request_is i) (e i) in
        let table = cond-true (is_complete (steps past)) _ _ f ∙ (λ i. option_or (asked i) (unread_is past m h setting c i)) in
        ap (answered_end_of x) (cond-true (is_complete (steps past)) _ _ f)
        ∙ ap (option_or (end_where (not (is_kept (type_of setting a.drained (asked_of h) a.head a.size))) ends.asked)) rest.end ∙ sym table

-- the end behind a complete answer
answered_of : (setting : Setting) (past : List ParsedStep) → Legal setting past
    → answered_end (kept_of setting past).exchange ≡ model.answered_end setting past
answered_of setting past l = elim (current_of setting past l) [
  | inl n ↦ ap answered_end (exchange_none setting past n) ∙ sym (none_ends setting past n)
  | inr (m, h, c) ↦ ap answered_end (exchange_is setting past m h c) ∙ current_ends setting past m h l c
]

-- ---- the end of the input

-- what is left on a WebSocket are frames
framed_rest : (past : List ParsedStep) (m : Message) (kind : BodyKind) (limit : ℕ) → is_raw_kind kind ≡ true → accepted (steps past) ≡ Some limit
    → rest_of past m kind ≡ frames_rest (is_receiving (steps past)) limit
framed_rest past m raw_body limit raw e = rw e refl
framed_rest past m no_body limit raw e = absurd (false≢true raw)
framed_rest past m (fixed_body n) limit raw e = absurd (false≢true raw)
framed_rest past m chunked_body limit raw e = absurd (false≢true raw)

-- of the current message
pub current_framed : (setting : Setting) (past : List ParsedStep) (m : Message) (h : Head) (limit : ℕ) → Legal setting past → Current setting past m h
    → accepted (steps past) ≡ Some limit → rest_of past m h.body ≡ frames_rest (is_receiving (steps past)) limit
current_framed setting past m h limit l c e =
    framed_rest past m h.body limit (raw_head past h (orderly setting past l) (ap is_some e) c.request_is) e

-- on a WebSocket, no frame stands in front where none is left
no_frame_of : (setting : Setting) (past : List ParsedStep) (limit : ℕ) → Legal setting past → accepted (steps past) ≡ Some limit
    → of_exchange (λ x. has_no_frame (kept_of setting past).unread x.rest) (kept_of setting past) ≡ not (has_more_frames (steps past) (current past))
no_frame_of setting past limit l e =
    let c = upgraded_current setting past l (ap is_some e) in
    let m = c.0 in
    let h = c.1 in
    let f = frames_left setting past m h limit l c.2 e in
    let unread = drop (passed past) (taken (steps past)) in
    let given = given_frames (steps past) in
    let front = front_partial (connection_reader limit) (is_receiving (steps past)) (passed past) (taken (steps past)) given f.placed f.fail f.left in
    rw (exchange_is setting past m h c.2)
    (ap (has_no_frame unread) (current_framed setting past m h limit l c.2 e) ∙ front
    ∙ sym (ap (λ b. not (nat_lt given (length (frames_of b)) || is_some (fail_of b))) f.body)
    ∙ sym (ap (λ o. not (has_more_frames (steps past) o)) c.2.current_is))

-- on no WebSocket, no head is coming
no_head_of : {A : Type 0} (waits : Bool) (next : Option A) → (not waits && not (not waits && is_some next)) ≡ (not waits && is_none next)
no_head_of true next = refl
no_head_of false None = refl
no_head_of false (Some m) = refl

-- nothing more comes
exhausted_of : (setting : Setting) (past : List ParsedStep) → Legal setting past → is_exhausted (kept_of setting past) ≡ model.is_exhausted past
exhausted_of setting past l = go (accepted (steps past)) refl
  where
    k : Kept
    k = kept_of setting past

    frames : Bool
    frames = of_exchange (λ x. has_no_frame k.unread x.rest) k

    heads : Bool
    heads = not (sums.is_open (steps past)) && not k.is_coming

    same : is_exhausted k ≡ (if sums.is_upgraded (steps past) then frames else heads)
    same = λ i. if upgraded_of setting past l i then frames else not (open_of setting past l i) && not k.is_coming

    go : (u : Option ℕ) → accepted (steps past) ≡ u → is_exhausted k ≡ model.is_exhausted past
    go None e =
        same ∙ cond-false (sums.is_upgraded (steps past)) _ _ (ap is_some e) ∙ no_head_of (sums.is_open (steps past)) (upcoming past)
        ∙ sym (cond-false (sums.is_upgraded (steps past)) _ _ (ap is_some e))
    go (Some limit) e =
        same ∙ cond-true (sums.is_upgraded (steps past)) _ _ (ap is_some e) ∙ no_frame_of setting past limit l e
        ∙ sym (cond-true (sums.is_upgraded (steps past)) _ _ (ap is_some e))

-- ---- all rows

-- the first of several, grouped otherwise
or_grouped : {A : Type 0} (a b c : Option A) → option_or (option_or a b) c ≡ option_or a (option_or b c)
or_grouped None b c = refl
or_grouped (Some a) b c = refl

-- what decides is the same
reasons_same : (setting : Setting) (past : List ParsedStep) → Legal setting past → reasons_of (kept_of setting past) ≡ model.reasons_of setting past
reasons_same setting past l =
    λ i. record (model.reasons_of setting past) {
      answered_end = answered_of setting past l i;
      is_open = open_of setting past l i;
      is_upgraded = upgraded_of setting past l i;
      is_exhausted = exhausted_of setting past l i;
    }

-- what is kept tells why the connection closes
pub closing_same : (setting : Setting) (past : List ParsedStep) → Legal setting past
    → closing_by setting (kept_of setting past) ≡ closing setting past
unfolding closing closing_by
closing_same setting past l =
    or_grouped (told (steps past)) (body_end_of (steps past)) _
    ∙ ap (λ r. option_or (told (steps past)) (option_or (body_end_of (steps past)) (end_by setting r))) (reasons_same setting past l)
