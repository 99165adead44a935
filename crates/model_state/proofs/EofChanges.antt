-- The end of the input: a raw body of which no byte is left has ended, and the body of a request whose answer is complete
-- is passed.
use Rattle.std.proofs.Common.{◌≡◌, ℕ, Bool, true, false, List, [], ◌∷◌, drop, Some, None, refl, sym, ap, ◌∙◌, inl, inr, append-nil}
use Rattle.std.specs.Prelude.{is_some}
use Rattle.std.proofs.lemmas.Bool.{not-true}
use Rattle.model_h1.specs.Request.{Head}
use Rattle.model_h1.specs.Setting.{Setting}
use Rattle.model_h1.specs.Parse.{Message}
use Rattle.model_h1.specs.Event.{Event, Outcome}
use Rattle.model_h1.specs.Event as on
use Rattle.model_h1.specs.Sums.{Step, taken, has_ended, accepted, request, since_head, is_complete, is_receiving}
use Rattle.model_h1.specs.Past.{ParsedStep, steps, passed}
use Rattle.model_h1.specs.Text.{step_text}
use Rattle.model_h1.specs.OutcomeTable.{outcome_of}
use Rattle.model_h1.proofs.PastLemmas.{Legal}
use Rattle.model_h1.proofs.StepLemmas.{allowed_open}
use Rattle.model_state.specs.Kept.{frames_rest, rest_in, Kept}
use Rattle.model_state.specs.KeptOf.{rest_of, exchange_with, exchange_of, kept_of}
use Rattle.model_state.specs.Body.{passing}
use Rattle.model_state.specs.Change.{doing, exchange_at_end, ending_input}
use Rattle.model_state.proofs.Changes.{bare, Changes}
use Rattle.model_state.proofs.Current.{current_of}
use Rattle.model_state.proofs.Orderly.{orderly}
use Rattle.model_state.proofs.Frames.{raw_head}
use Rattle.model_state.proofs.StepSums.{buffered-more}
use Rattle.model_state.proofs.PassedBodies.{left_at, left_ends}
use Rattle.model_state.proofs.CalmSteps.{eof_aside}
use Rattle.model_state.proofs.Arrivals.{Adds, IsPlain, Grows, IsLeft, left_before, framed_left, grows_of, passing-none, passing_grown, parts-none, parts-some}
use Rattle.model_state.proofs.StepForms.{at_step}

-- the step that ends the input
abbrev eof_step : Step
eof_step = record { event = on.eof; outcome = on.done }

-- it adds no byte
eof_adds : (before : List ParsedStep) → has_ended (steps before) ≡ false → Adds before eof_step []
unfolding taken accepted since_head is_receiving
eof_adds before unended = record {
  taken = refl;
  accepted = refl;
  unended = unended;
  idle = record { pull = refl; head = refl; bytes = refl; frames = refl };
  complete = refl;
  receiving = refl;
}

-- and is of the input alone
eof_plain : (setting : Setting) (before : List ParsedStep) → Legal setting before → IsPlain setting before eof_step
unfolding step_text
eof_plain setting before l = record { aside = eof_aside; tells = refl; over = refl; buffers = buffered-more setting eof_step before l refl ∙ append-nil _ }

-- the bytes stay
same_bytes : (before : List ParsedStep) → Adds before eof_step [] → taken (eof_step ∷ steps before) ≡ taken (steps before)
same_bytes before a = a.taken ∙ append-nil (taken (steps before))

-- of frames there is as much left
framed_in : (unread : List ℕ) (under_way : Bool) (limit : ℕ) → rest_in true unread (frames_rest under_way limit) ≡ frames_rest under_way limit
framed_in [] under_way limit = refl
framed_in (b ∷ unread) under_way limit = refl

-- what is left of the body, with the input's end
eof_left : (setting : Setting) (before : List ParsedStep) (parse : List Message) (m p : Message) (h : Head)
    → Grows setting before (record { step = eof_step; parse = parse }) [] m p h
    → IsLeft before (record { step = eof_step; parse = parse }) m h (rest_in true (drop (passed before) (taken (steps before))) (rest_of before m h.body))
eof_left setting before parse m p h g =
    let x : ParsedStep = record { step = eof_step; parse = parse } in
    let t = steps before in
    let unread = drop (passed before) (taken t) in
    record {
      plain = λ e.
          ap (rest_in true unread) (left_before setting before x [] m p h g e)
          ∙ left_ends (is_complete t) h.body m.body_start (passed before) (taken t)
          ∙ ap (left_at true (is_complete t) h.body m.body_start (passed before)) (sym (same_bytes before g.adds));
      framed = λ limit e.
          let raw = raw_head before h (orderly setting before g.legal.3) (ap is_some e) g.old.request_is in
          ap (rest_in true unread) (framed_left before m h.body limit raw e) ∙ framed_in unread (is_receiving t) limit;
    }

-- ---- what the machine does

-- the step as the table has it
ending : (setting : Setting) (before : List ParsedStep) (parse : List Message) → Legal setting (record { step = eof_step; parse = parse } ∷ before)
    → Changes setting before (record { step = eof_step; parse = parse })
ending setting before parse l =
    let x : ParsedStep = record { step = eof_step; parse = parse } in
    let k = kept_of setting before in
    let adds = eof_adds before (not-true _ (allowed_open setting before on.eof refl l.1)) in
    let plain = eof_plain setting before l.3 in
    let unread : k.unread ≡ drop (passed before) (taken (x.step ∷ steps before)) = ap (drop (passed before)) (sym (same_bytes before adds)) in
    elim (current_of setting before l.3) [
      | inl none ↦
          let gone : k.exchange ≡ None = ap (λ o. exchange_of setting before o (request (steps before))) none.current_is in
          let at_end = ap (exchange_at_end k.unread) gone in
          let passes = (λ i. passing (record k { unread = unread i; has_ended = true; exchange = at_end i }))
          ∙ passing-none (record k { unread = drop (passed before) (taken (x.step ∷ steps before)); has_ended = true }) in
          record {
            change = doing (ending_input k);
            changes = refl;
            answers = refl;
            parts = ap bare passes ∙ parts-none setting before x [] adds plain none;
            since = ap (λ (s : Kept). s.closing_since) passes;
          }
      | inr (m, h, c) ↦
          let g = grows_of setting before x [] m h l adds c in
          let there : k.exchange ≡ Some (exchange_with setting before m h) = λ i. exchange_of setting before (c.current_is i) (c.request_is i) in
          let at_end = ap (exchange_at_end k.unread) there in
          let left = eof_left setting before parse m g.0 h g.1 in
          let passes = (λ i. passing (record k { unread = unread i; has_ended = true; exchange = at_end i }))
          ∙ passing_grown setting before x [] m g.0 h (rest_in true k.unread (rest_of before m h.body)) g.1 left in
          record {
            change = doing (ending_input k);
            changes = refl;
            answers = refl;
            parts = ap bare passes ∙ parts-some setting before x [] m g.0 h g.1 plain;
            since = ap (λ (s : Kept). s.closing_since) passes;
          }
    ]

-- its outcome
eof_done : (setting : Setting) (before : List ParsedStep) → outcome_of setting before on.eof ≡ on.done
unfolding outcome_of
eof_done setting before = refl

-- The end of the input changes what is kept as the longer past has it.
pub eof_changes : (setting : Setting) (before : List ParsedStep) (x : ParsedStep) → Legal setting (x ∷ before) → x.step.event ≡ on.eof
    → Changes setting before x
eof_changes setting before x l e = at_step setting before x on.eof on.done l e (eof_done setting before) (ending setting before)
