-- What it changes that a WebSocket is accepted, or refused.
use Rattle.std.proofs.Common.{◌≡◌, ℕ, true, false, List, [], ◌∷◌, ◌++◌, drop, Option, Some, None, refl, sym, ap, ◌∙◌, subst, inl, inr, append-nil}
use Rattle.std.specs.Prelude.{◌&&◌, ◌||◌, is_none, not, unwrap_or, option_map}
use Rattle.std.proofs.lemmas.Bool.{cond-true, and_parts, or_parts, not-true, false≢true}
use Rattle.model_h1.specs.Request.{is_raw_kind, Head}
use Rattle.model_h1.specs.Setting.{Setting}
use Rattle.model_h1.specs.Answer.{size_stream}
use Rattle.model_h1.specs.Parse.{Message}
use Rattle.model_h1.specs.Handshake.{HandshakeError, handshake_error, accept_key_of, accepting_head}
use Rattle.model_h1.specs.Event.{Event, Outcome}
use Rattle.model_h1.specs.Event as on
use Rattle.model_h1.specs.Sums.{Step, is_pull, request, completes, is_complete, is_open, is_upgraded, was_pulled, was_dropped, accepted, answered}
use Rattle.model_h1.specs.Past.{ParsedStep, steps, current, passed}
use Rattle.model_h1.specs.Text.{answer_head_text, accept_text, step_text, buffered}
use Rattle.model_h1.specs.Allowed.{waits_for_answer, asks_raw}
use Rattle.model_h1.specs.OutcomeTable.{accept_outcome, outcome_of}
use Rattle.model_h1.proofs.PastLemmas.{Legal}
use Rattle.model_h1.proofs.StepLemmas.{accepted-cons, allowed_open}
use Rattle.model_h1.proofs.PulledLemmas.{unpulled_place}
use Rattle.model_h1.proofs.CarriedLemmas.{passed_some, passed_pulled}
use Rattle.model_state.specs.Kept.{frames_rest, refusal_of, key_answer_of}
use Rattle.model_state.specs.Kept as kept
use Rattle.model_state.specs.Change.{accepting, accepting_with}
use Rattle.model_state.specs.KeptOf.{raw_left, rest_of, exchange_with, exchange_of, kept_of}
use Rattle.model_state.proofs.Changes.{Changes}
use Rattle.model_h1.proofs.HeldLemmas.{not_upgraded}
use Rattle.model_h1.proofs.HandedTrace.{request-more}
use Rattle.model_state.proofs.Current.{Current, current_of}
use Rattle.model_state.proofs.Frames.{current_carried, current_stays}
use Rattle.model_state.proofs.Received.{receives}
use Rattle.model_state.proofs.StepSums.{is_receiving-cons, came-more, buffered-more}
use Rattle.model_state.proofs.QuietParts.{passed-quiet}
use Rattle.model_state.proofs.CalmSteps.{calm_accept, taken-calm, since-other, exchange-unpulled, calm_parts}
use Rattle.model_state.proofs.Pulling.{open_incomplete}
use Rattle.model_state.proofs.FramePulls.{raw_is}
use Rattle.model_state.proofs.StillSteps.{IsStill, still_quiet, exchange_still}
use Rattle.model_state.proofs.StepForms.{at_event}

-- that a WebSocket is accepted, with its outcome
abbrev accept_of : ℕ → Outcome → List Message → ParsedStep
accept_of limit o parse = record { step = record { event = on.accept limit; outcome = o }; parse = parse }

-- its outcome
accept_answers : (setting : Setting) (past : List ParsedStep) (limit : ℕ)
    → outcome_of setting past (on.accept limit) ≡ accept_outcome (request (steps past))
unfolding outcome_of
accept_answers setting past limit = refl

-- What holds then: the last request is a raw one that waits for its answer, and nothing was asked of its body.
record Upgrades (setting : Setting) (before : List ParsedStep) (limit : ℕ) (o : Outcome) (parse : List Message) (m : Message) (h : Head) : Type 0 where
  pub legal : Legal setting (accept_of limit o parse ∷ before)
  pub current : Current setting before m h
  pub raw : is_raw_kind h.body ≡ true
  pub plain : accepted (steps before) ≡ None
  pub incomplete : is_complete (steps before) ≡ false
  pub unpulled : was_pulled (steps before) ≡ false

-- the change, by what is kept of the handshake's check
accepting_is : (setting : Setting) (before : List ParsedStep) (limit : ℕ) (o : Outcome) (parse : List Message) (m : Message) (h : Head) (wrong : Option HandshakeError)
    → Upgrades setting before limit o parse m h → handshake_error h ≡ wrong
    → accepting setting limit (exchange_with setting before m h) (kept_of setting before) wrong
    ≡ accepting_with setting limit (kept_of setting before) (kept_of setting before).exchange
accepting_is setting before limit o parse m h wrong w e =
    let k = kept_of setting before in
    let c = w.current in
    let refusal : wrong ≡ refusal_of h = sym e ∙ sym (cond-true (is_raw_kind h.body) (handshake_error h) None w.raw) in
    ap (accepting setting limit (exchange_with setting before m h) k) refusal
    ∙ sym (λ i. accepting_with setting limit k (exchange_of setting before (c.current_is i) (c.request_is i)))

-- ---- it is refused

-- nothing is written
refused_text : (setting : Setting) (t : List Step) (limit : ℕ) (e : HandshakeError) → step_text setting t (on.accept limit) (on.refused e) ≡ []
unfolding step_text
refused_text setting t limit e = refl

-- and nothing changes
refused_changes : (setting : Setting) (before : List ParsedStep) (limit : ℕ) (parse : List Message) (m : Message) (h : Head) (e : HandshakeError)
    → Upgrades setting before limit (on.refused e) parse m h → handshake_error h ≡ Some e
    → Changes setting before (accept_of limit (on.refused e) parse)
refused_changes setting before limit parse m h e w wrong =
    let t = steps before in
    let x = accept_of limit (on.refused e) parse in
    let k = kept_of setting before in
    let calm = calm_accept limit in
    let still : IsStill x.step = record { calm = calm; pull = refl; accepts = refl; head = refl; bytes = refl; frames = refl } in
    let place = passed-quiet setting x before w.legal (still_quiet before x.step still) refl in
    let bytes = taken-calm x.step t calm in
    record {
      change = record { outcome = on.refused e; kept = k };
      changes = accepting_is setting before limit (on.refused e) parse m h (Some e) w wrong;
      answers = refl;
      parts = calm_parts setting before x k.unread k.is_over k.exchange k.buffered k.failed calm refl
          (λ i. drop (sym place i) (sym bytes i)) refl (exchange_still setting before x w.legal still)
          (sym (buffered-more setting x.step before w.legal.3 refl ∙ ap (λ b. k.buffered ++ b) (refused_text setting t limit e) ∙ append-nil k.buffered)) refl;
      since = refl;
    }

-- ---- it is accepted

-- its answer is written
accepted_text : (setting : Setting) (t : List Step) (limit : ℕ) → step_text setting t (on.accept limit) on.done ≡ accept_text setting t (request t)
unfolding step_text
accepted_text setting t limit = refl

-- the current message stays where it is, with frames from its start on
accepted_rest : (setting : Setting) (before : List ParsedStep) (limit : ℕ) (parse : List Message) (m n : Message) (h : Head)
    → Upgrades setting before limit on.done parse m h → rest_of (accept_of limit on.done parse ∷ before) n h.body ≡ frames_rest false limit
accepted_rest setting before limit parse m n h w =
    let t = steps before in
    let x = accept_of limit on.done parse in
    let up : accepted (x.step ∷ t) ≡ Some limit = accepted-cons x.step t in
    let receiving = is_receiving-cons x.step t ∙ (receives setting before w.legal.3).plain w.plain in
    ap (rest_of (x ∷ before) n) (raw_is h.body w.raw) ∙ ap (raw_left (x ∷ before) n) up ∙ ap (λ u. frames_rest u limit) receiving

-- nothing of it is passed
accepted_passed : (setting : Setting) (before : List ParsedStep) (limit : ℕ) (parse : List Message) (m n : Message) (h : Head)
    → Upgrades setting before limit on.done parse m h → current (accept_of limit on.done parse ∷ before) ≡ Some n
    → passed before ≡ passed (accept_of limit on.done parse ∷ before)
accepted_passed setting before limit parse m n h w e =
    let t = steps before in
    let x = accept_of limit on.done parse in
    let start = (current_carried setting before x m n w.legal refl w.current.current_is e).1 in
    let open_yet = since-other completes x.step t refl refl ∙ w.incomplete in
    let unpulled = came-more is_pull x.step t refl ∙ w.unpulled in
    w.current.passed_is ∙ passed_pulled before m w.incomplete ∙ unpulled_place m t w.unpulled ∙ start
    ∙ sym (passed_some (x ∷ before) n e ∙ passed_pulled (x ∷ before) n open_yet ∙ unpulled_place n (x.step ∷ t) unpulled)

-- the last request
accepted_exchange : (setting : Setting) (before : List ParsedStep) (limit : ℕ) (parse : List Message) (m n : Message) (h : Head)
    → Upgrades setting before limit on.done parse m h → current (accept_of limit on.done parse ∷ before) ≡ Some n
    → Some (record (exchange_with setting before m h) { rest = frames_rest false limit })
    ≡ exchange_of setting (accept_of limit on.done parse ∷ before) (current (accept_of limit on.done parse ∷ before)) (request (steps (accept_of limit on.done parse ∷ before)))
accepted_exchange setting before limit parse m n h w e =
    let t = steps before in
    let x = accept_of limit on.done parse in
    let old = exchange_with setting before m h in
    let asked = request-more x.step t refl ∙ w.current.request_is in
    let rest = sym (accepted_rest setting before limit parse m n h w) in
    (λ i. Some (record old { rest = rest i })) ∙ ap Some (exchange-unpulled setting before x m n h refl (calm_accept limit).aside refl)
    ∙ sym (λ i. exchange_of setting (x ∷ before) (e i) (asked i))

-- what changes then
accepted_changes : (setting : Setting) (before : List ParsedStep) (limit : ℕ) (parse : List Message) (m : Message) (h : Head)
    → Upgrades setting before limit on.done parse m h → handshake_error h ≡ None → Changes setting before (accept_of limit on.done parse)
accepted_changes setting before limit parse m h w wrong =
    let t = steps before in
    let x = accept_of limit on.done parse in
    let k = kept_of setting before in
    let old = exchange_with setting before m h in
    let calm = calm_accept limit in
    let n = current_stays setting before x m w.legal refl w.current.current_is in
    let place = accepted_passed setting before limit parse m n.0 h w n.1 in
    let bytes = sym (taken-calm x.step t calm) in
    let key : key_answer_of h ≡ accept_key_of h = cond-true (is_raw_kind h.body) (accept_key_of h) [] w.raw in
    let text = k.buffered ++ answer_head_text setting k.is_draining old.asked (accepting_head old.accept_key) size_stream (kept.now k) in
    let written : text ≡ buffered setting (x.step ∷ t) =
    ap (λ answer. k.buffered ++ answer_head_text setting k.is_draining old.asked (accepting_head answer) size_stream (kept.now k)) key
    ∙ sym (buffered-more setting x.step before w.legal.3 refl ∙ ap (λ b. k.buffered ++ b) (accepted_text setting t limit)
    ∙ ap (λ asked. k.buffered ++ accept_text setting t asked) w.current.request_is) in
    let exchange = Some (record old { rest = frames_rest false limit }) in
    record {
      change = record { outcome = on.done; kept = record k { buffered = text; exchange = exchange } };
      changes = accepting_is setting before limit on.done parse m h None w wrong;
      answers = refl;
      parts = calm_parts setting before x k.unread k.is_over exchange text k.failed calm refl
          (λ i. drop (place i) (bytes i)) refl (accepted_exchange setting before limit parse m n.0 h w n.1) written refl;
      since = refl;
    }

-- ---- all of it

-- by the handshake's check
accept_by : (setting : Setting) (before : List ParsedStep) (limit : ℕ) (o : Outcome) (parse : List Message) (m : Message) (h : Head) (wrong : Option HandshakeError)
    → Upgrades setting before limit o parse m h → handshake_error h ≡ wrong → o ≡ unwrap_or (option_map on.refused wrong) on.done
    → Changes setting before (accept_of limit o parse)
accept_by setting before limit o parse m h (Some e) w wrong is =
    let P : Outcome → Type 0 = λ v. Upgrades setting before limit v parse m h → Changes setting before (accept_of limit v parse) in
    subst P (sym is) (λ u. refused_changes setting before limit parse m h e u wrong) w
accept_by setting before limit o parse m h None w wrong is =
    let P : Outcome → Type 0 = λ v. Upgrades setting before limit v parse m h → Changes setting before (accept_of limit v parse) in
    subst P (sym is) (λ u. accepted_changes setting before limit parse m h u wrong) w

-- that it is accepted
accept_of_changes : (setting : Setting) (before : List ParsedStep) (limit : ℕ) (o : Outcome) (parse : List Message)
    → Legal setting (accept_of limit o parse ∷ before)
    → Changes setting before (accept_of limit o parse)
accept_of_changes setting before limit o parse l =
    let t = steps before in
    let test = allowed_open setting before (on.accept limit) refl l.1 in
    let parts = and_parts (waits_for_answer t) (asks_raw (request t) && not (was_pulled t || was_dropped t)) (and_parts _ _ test).0 in
    let asked = and_parts (asks_raw (request t)) (not (was_pulled t || was_dropped t)) parts.1 in
    let waits = and_parts (is_open t) (is_none (answered t)) (and_parts (is_open t && is_none (answered t)) (not (is_upgraded t)) parts.0).0 in
    let plain = not_upgraded t parts.0 in
    let unpulled = (or_parts (was_pulled t) (was_dropped t) (not-true (was_pulled t || was_dropped t) asked.1)).0 in
    elim (current_of setting before l.3) [
      | inl n ↦ absurd (false≢true (sym (ap asks_raw n.request_is) ∙ asked.0))
      | inr (m, h, c) ↦
          let w : Upgrades setting before limit o parse m h = record {
            legal = l;
            current = c;
            raw = sym (ap asks_raw c.request_is) ∙ asked.0;
            plain = plain;
            incomplete = open_incomplete t plain waits.0;
            unpulled = unpulled;
          } in
          accept_by setting before limit o parse m h (handshake_error h) w refl
          (l.2 ∙ accept_answers setting before limit ∙ ap accept_outcome c.request_is)
    ]

-- that a WebSocket is to be accepted
pub accept_changes : (setting : Setting) (before : List ParsedStep) (x : ParsedStep) (limit : ℕ) → Legal setting (x ∷ before)
    → x.step.event ≡ on.accept limit
    → Changes setting before x
accept_changes setting before x limit l e = at_event setting before x (on.accept limit) l e (accept_of_changes setting before limit)
