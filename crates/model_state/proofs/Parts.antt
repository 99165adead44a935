-- What the parts say of the last request is what the trace says.
use Rattle.std.proofs.Common.{◌≡◌, ℕ, ◌+◌, Bool, true, false, List, Option, Some, None, refl, sym, ap, ◌∙◌, inl, inr}
use Rattle.std.specs.Prelude.{◌&&◌, ◌||◌, not, nat_le, is_some, is_none}
use Rattle.std.proofs.lemmas.Bool.{cond_both, false≢true, cases_Bool}
use Rattle.std.proofs.lemmas.Option.{none-some}
use Rattle.model_h1.specs.Request.{BodyKind, no_body, fixed_body, chunked_body, raw_body, is_raw_kind, Head}
use Rattle.model_h1.specs.Setting.{Setting}
use Rattle.model_h1.specs.Parse.{Message}
use Rattle.model_h1.specs.Sums.{Step, Answered, request, accepted, answered, is_complete, is_receiving}
use Rattle.model_h1.specs.Sums as sums
use Rattle.model_h1.specs.Past.{ParsedStep, steps, passed}
use Rattle.model_h1.proofs.PastLemmas.{Legal}
use Rattle.model_state.specs.Kept.{no_rest, raw_rest, is_frames, is_unanswered, is_answered, is_sending_body, is_upgraded, is_open}
use Rattle.model_state.specs.KeptOf.{is_passed, rest_of, reply_of, exchange_with, exchange_of, kept_of}
use Rattle.model_state.proofs.Current.{Current, NoCurrent, current_of}
use Rattle.model_state.proofs.Orderly.{Orderly, orderly}
use Rattle.model_state.proofs.Frames.{raw_head}

-- ---- the exchange

-- of the current message
pub exchange_is : (setting : Setting) (past : List ParsedStep) (m : Message) (h : Head) → Current setting past m h
    → (kept_of setting past).exchange ≡ Some (exchange_with setting past m h)
exchange_is setting past m h c = λ i. exchange_of setting past (c.current_is i) (c.request_is i)

-- there is none before the first head
pub exchange_none : (setting : Setting) (past : List ParsedStep) → NoCurrent past → (kept_of setting past).exchange ≡ None
exchange_none setting past n = ap (λ o. exchange_of setting past o (request (steps past))) n.current_is

-- ---- the answer

-- it is complete in both
pub reply_answered : (setting : Setting) (trace : List Step) (h : Head) → Orderly trace
    → is_answered (reply_of setting trace h (answered trace)) ≡ is_complete trace
reply_answered setting trace h o = go (answered trace) (is_complete trace) refl refl
  where
    go : (a : Option Answered) (c : Bool) → answered trace ≡ a → is_complete trace ≡ c → is_answered (reply_of setting trace h a) ≡ c
    go None true e f = absurd (false≢true (sym (ap is_some e) ∙ o.complete f))
    go None false e f = refl
    go (Some a) true e f = rw f refl
    go (Some a) false e f = rw f refl

-- there is none in both
pub reply_unanswered : (setting : Setting) (trace : List Step) (h : Head)
    → is_unanswered (reply_of setting trace h (answered trace)) ≡ is_none (answered trace)
reply_unanswered setting trace h = go (answered trace) (is_complete trace) refl
  where
    go : (a : Option Answered) (c : Bool) → is_complete trace ≡ c → is_unanswered (reply_of setting trace h a) ≡ is_none a
    go None c f = refl
    go (Some a) true f = rw f refl
    go (Some a) false f = rw f refl

-- its body is going out in both
pub reply_sending : (setting : Setting) (trace : List Step) (h : Head)
    → is_sending_body (reply_of setting trace h (answered trace)) ≡ sums.is_answering trace
reply_sending setting trace h = go (answered trace) (is_complete trace) refl
  where
    go : (a : Option Answered) (c : Bool) → is_complete trace ≡ c
        → is_sending_body (reply_of setting trace h a) ≡ (is_some a && not (is_complete trace))
    go None c f = refl
    go (Some a) true f = rw f refl
    go (Some a) false f = rw f refl

-- ---- the protocol

-- what is left of a body is frames on a WebSocket alone
rest_frames : (past : List ParsedStep) (m : Message) (kind : BodyKind) (up : Option ℕ) → accepted (steps past) ≡ up
    → (is_some up ≡ true → is_raw_kind kind ≡ true) → is_frames (rest_of past m kind) ≡ is_some up
rest_frames past m raw_body None e raw =
    rw e (cond_both (is_passed (passed past) m) no_rest raw_rest (λ r. is_frames r ≡ false) (λ _. refl) (λ _. refl))
rest_frames past m raw_body (Some limit) e raw = rw e refl
rest_frames past m no_body None e raw = refl
rest_frames past m (fixed_body n) None e raw =
    cond_both (nat_le (m.body_start + n) (passed past)) no_rest _ (λ r. is_frames r ≡ false) (λ _. refl) (λ _. refl)
rest_frames past m chunked_body None e raw =
    cond_both (is_passed (passed past) m) no_rest _ (λ r. is_frames r ≡ false) (λ _. refl) (λ _. refl)
rest_frames past m no_body (Some limit) e raw = absurd (false≢true (raw refl))
rest_frames past m (fixed_body n) (Some limit) e raw = absurd (false≢true (raw refl))
rest_frames past m chunked_body (Some limit) e raw = absurd (false≢true (raw refl))

-- of the current message
pub current_frames : (setting : Setting) (past : List ParsedStep) (m : Message) (h : Head) → Legal setting past → Current setting past m h
    → is_frames (rest_of past m h.body) ≡ sums.is_upgraded (steps past)
current_frames setting past m h l c =
    rest_frames past m h.body (accepted (steps past)) refl (λ up. raw_head past h (orderly setting past l) up c.request_is)

-- before the first head there is no WebSocket
pub none_upgraded : (setting : Setting) (past : List ParsedStep) → Legal setting past → NoCurrent past → sums.is_upgraded (steps past) ≡ false
none_upgraded setting past l n = elim (cases_Bool (sums.is_upgraded (steps past))) [
  | inl up ↦
      let w = (orderly setting past l).upgraded up in
      absurd (none-some w.head (sym n.request_is ∙ w.request_is))
  | inr plain ↦ plain
]

-- and no request is open
pub none_open : (past : List ParsedStep) → NoCurrent past → sums.is_open (steps past) ≡ false
none_open past n = ap (λ (o : Option Head). is_some o && (sums.is_upgraded (steps past) || not (is_complete (steps past)))) n.request_is

-- nor answered
pub none_answered : (setting : Setting) (past : List ParsedStep) → Legal setting past → NoCurrent past → is_some (answered (steps past)) ≡ false
none_answered setting past l n = elim (cases_Bool (is_some (answered (steps past)))) [
  | inl some ↦ absurd (false≢true (sym (ap is_some n.request_is) ∙ (orderly setting past l).answered some))
  | inr none ↦ none
]

-- the current request is open where it is a WebSocket, or its answer isn't complete
pub current_open : (setting : Setting) (past : List ParsedStep) (m : Message) (h : Head) → Current setting past m h
    → sums.is_open (steps past) ≡ (sums.is_upgraded (steps past) || not (is_complete (steps past)))
current_open setting past m h c = ap (λ (o : Option Head). is_some o && (sums.is_upgraded (steps past) || not (is_complete (steps past)))) c.request_is

-- the parts tell whether the connection speaks WebSocket
pub upgraded_of : (setting : Setting) (past : List ParsedStep) → Legal setting past
    → is_upgraded (kept_of setting past) ≡ sums.is_upgraded (steps past)
upgraded_of setting past l = elim (current_of setting past l) [
  | inl n ↦ rw (exchange_none setting past n) (sym (none_upgraded setting past l n))
  | inr (m, h, c) ↦ rw (exchange_is setting past m h c) (current_frames setting past m h l c)
]

-- and whether a request is open
pub open_of : (setting : Setting) (past : List ParsedStep) → Legal setting past → is_open (kept_of setting past) ≡ sums.is_open (steps past)
open_of setting past l = elim (current_of setting past l) [
  | inl n ↦ rw (exchange_none setting past n) (sym (none_open past n))
  | inr (m, h, c) ↦
      let up = current_frames setting past m h l c in
      let done = reply_answered setting (steps past) h (orderly setting past l) in
      rw (exchange_is setting past m h c) ((λ i. up i || not (done i)) ∙ sym (current_open setting past m h c))
]
