-- Bytes that come: as many are taken as there is room for, and the body of a request whose answer is complete is passed.
use Rattle.std.proofs.Common.{◌≡◌, ℕ, ◌-◌, min, false, List, ◌∷◌, ◌++◌, length, take, drop, Some, None, refl, sym, ap, ◌∙◌, inl, inr, append-nil, length-drop}
use Rattle.std.specs.Prelude.{is_some}
use Rattle.std.proofs.lemmas.Bool.{not-true}
use Rattle.std.proofs.lemmas.List.{drop-append-le}
use Rattle.model_h1.specs.Request.{Head}
use Rattle.model_h1.specs.Setting.{Setting}
use Rattle.model_h1.specs.Parse.{Message}
use Rattle.model_h1.specs.Event.{Event, Outcome}
use Rattle.model_h1.specs.Event as on
use Rattle.model_h1.specs.Sums.{Step, taken, has_ended, accepted, request, since_head, is_complete, is_receiving}
use Rattle.model_h1.specs.Past.{ParsedStep, steps, passed, held}
use Rattle.model_h1.specs.Text.{step_text}
use Rattle.model_h1.specs.OutcomeTable.{outcome_of}
use Rattle.model_h1.proofs.PastLemmas.{Legal}
use Rattle.model_h1.proofs.StepLemmas.{allowed_open}
use Rattle.model_h1.proofs.HeldLemmas.{bounded}
use Rattle.model_state.specs.Kept.{Kept}
use Rattle.model_state.specs.KeptOf.{rest_of, exchange_with, exchange_of, kept_of}
use Rattle.model_state.specs.Body.{passing}
use Rattle.model_state.specs.Change.{reading}
use Rattle.model_state.proofs.Changes.{bare, Changes}
use Rattle.model_state.proofs.Current.{current_of}
use Rattle.model_state.proofs.Orderly.{orderly}
use Rattle.model_state.proofs.Frames.{raw_head}
use Rattle.model_state.proofs.StepSums.{buffered-more}
use Rattle.model_state.proofs.PassedBodies.{left_at, left_stays}
use Rattle.model_state.proofs.CalmSteps.{read_aside}
use Rattle.model_state.proofs.Arrivals.{Adds, IsPlain, Grows, IsLeft, left_before, framed_left, grows_of, passing-none, passing_grown, parts-none, parts-some}
use Rattle.model_state.proofs.StepForms.{at_step}

-- the step that takes so many bytes
abbrev read_step : List ℕ → ℕ → Step
read_step bytes n = record { event = on.read bytes; outcome = on.took n }

-- it adds bytes alone
read_adds : (before : List ParsedStep) (bytes : List ℕ) (n : ℕ) → has_ended (steps before) ≡ false → Adds before (read_step bytes n) (take n bytes)
unfolding taken accepted since_head is_receiving
read_adds before bytes n unended = record {
  taken = refl;
  accepted = refl;
  unended = unended;
  idle = record { pull = refl; head = refl; bytes = refl; frames = refl };
  complete = refl;
  receiving = refl;
}

-- and is of the input alone
read_plain : (setting : Setting) (before : List ParsedStep) (bytes : List ℕ) (n : ℕ) → Legal setting before
    → IsPlain setting before (read_step bytes n)
unfolding step_text
read_plain setting before bytes n l = record { aside = read_aside bytes; tells = refl; over = refl; buffers = buffered-more setting (read_step bytes n) before l refl ∙ append-nil _ }

-- the bytes that aren't passed, of the longer ones
longer_unread : (setting : Setting) (before : List ParsedStep) (s : Step) (more : List ℕ) → Legal setting before → Adds before s more
    → drop (passed before) (taken (steps before)) ++ more ≡ drop (passed before) (taken (s ∷ steps before))
longer_unread setting before s more l a =
    sym (drop-append-le (passed before) (taken (steps before)) more (bounded setting before l).passed) ∙ ap (drop (passed before)) (sym a.taken)

-- what is left of the body is what is left by the longer bytes
read_left : (setting : Setting) (before : List ParsedStep) (parse : List Message) (bytes : List ℕ) (n : ℕ) (m p : Message) (h : Head)
    → Grows setting before (record { step = read_step bytes n; parse = parse }) (take n bytes) m p h
    → IsLeft before (record { step = read_step bytes n; parse = parse }) m h (rest_of before m h.body)
read_left setting before parse bytes n m p h g =
    let x : ParsedStep = record { step = read_step bytes n; parse = parse } in
    let t = steps before in
    record {
      plain = λ e.
          left_before setting before x (take n bytes) m p h g e
          ∙ sym (left_stays (is_complete t) h.body m.body_start (passed before) (taken t) (take n bytes) g.old.start g.old.passed_within)
          ∙ (λ i. left_at (sym g.adds.unended i) (is_complete t) h.body m.body_start (passed before) (sym g.adds.taken i));
      framed = λ limit e. framed_left before m h.body limit (raw_head before h (orderly setting before g.legal.3) (ap is_some e) g.old.request_is) e;
    }

-- ---- what the machine does

-- the step that takes as many bytes as there is room for
taking : (setting : Setting) (before : List ParsedStep) (parse : List Message) (bytes : List ℕ) (n : ℕ)
    → n ≡ min (length bytes) (setting.hold_size - length (drop (passed before) (taken (steps before))))
    → Legal setting (record { step = read_step bytes n; parse = parse } ∷ before)
    → Changes setting before (record { step = read_step bytes n; parse = parse })
taking setting before parse bytes n e l =
    let x : ParsedStep = record { step = read_step bytes n; parse = parse } in
    let k = kept_of setting before in
    let more = take n bytes in
    let adds = read_adds before bytes n (not-true _ (allowed_open setting before (on.read bytes) refl l.1)) in
    let plain = read_plain setting before bytes n l.3 in
    let unread = ap (λ j. k.unread ++ take j bytes) (sym e) ∙ longer_unread setting before x.step more l.3 adds in
    elim (current_of setting before l.3) [
      | inl none ↦
          let gone : k.exchange ≡ None = ap (λ o. exchange_of setting before o (request (steps before))) none.current_is in
          let passes = (λ i. passing (record k { unread = unread i; exchange = gone i }))
          ∙ passing-none (record k { unread = drop (passed before) (taken (x.step ∷ steps before)) }) in
          record {
            change = reading setting bytes k;
            changes = refl;
            answers = ap on.took e;
            parts = ap bare passes ∙ parts-none setting before x more adds plain none;
            since = ap (λ (s : Kept). s.closing_since) passes;
          }
      | inr (m, h, c) ↦
          let g = grows_of setting before x more m h l adds c in
          let there : k.exchange ≡ Some (exchange_with setting before m h) = λ i. exchange_of setting before (c.current_is i) (c.request_is i) in
          let left = read_left setting before parse bytes n m g.0 h g.1 in
          let passes = (λ i. passing (record k { unread = unread i; exchange = there i }))
          ∙ passing_grown setting before x more m g.0 h (rest_of before m h.body) g.1 left in
          record {
            change = reading setting bytes k;
            changes = refl;
            answers = ap on.took e;
            parts = ap bare passes ∙ parts-some setting before x more m g.0 h g.1 plain;
            since = ap (λ (s : Kept). s.closing_since) passes;
          }
    ]

-- its outcome
read_took : (setting : Setting) (before : List ParsedStep) (bytes : List ℕ)
    → outcome_of setting before (on.read bytes) ≡ on.took (min (length bytes) (setting.hold_size - held before))
unfolding outcome_of
read_took setting before bytes = refl

-- Bytes that come change what is kept as the longer past has it.
pub read_changes : (setting : Setting) (before : List ParsedStep) (x : ParsedStep) (bytes : List ℕ) → Legal setting (x ∷ before)
    → x.step.event ≡ on.read bytes → Changes setting before x
read_changes setting before x bytes l e =
    let n = min (length bytes) (setting.hold_size - held before) in
    let same : n ≡ min (length bytes) (setting.hold_size - length (drop (passed before) (taken (steps before)))) =
    ap (λ j. min (length bytes) (setting.hold_size - j)) (sym (length-drop (passed before) (taken (steps before)))) in
    at_step setting before x (on.read bytes) (on.took n) l e (read_took setting before bytes) (λ parse. taking setting before parse bytes n same)
