-- What a pull changes.
use Rattle.std.proofs.Common.{◌≡◌, ℕ, true, false, List, ◌∷◌, Option, Some, None, refl, sym, ap, ◌∙◌, inl, inr}
use Rattle.std.specs.Prelude.{is_some, ◌&&◌, ◌||◌}
use Rattle.std.proofs.lemmas.Bool.{false≢true, and_parts}
use Rattle.model_h1.specs.Request.{BodyKind, no_body, fixed_body, chunked_body, raw_body, has_body, Head}
use Rattle.model_h1.specs.Setting.{Setting}
use Rattle.model_h1.specs.Parse.{Message}
use Rattle.model_h1.specs.Event.{Event, Outcome}
use Rattle.model_h1.specs.Event as on
use Rattle.model_h1.specs.Sums.{request, is_complete, is_open, accepted}
use Rattle.model_h1.specs.Past.{ParsedStep, steps}
use Rattle.model_h1.specs.Allowed.{has_body_left}
use Rattle.model_h1.proofs.PastLemmas.{Legal}
use Rattle.model_h1.proofs.StepLemmas.{allowed_open}
use Rattle.model_state.proofs.Changes.{Changes}
use Rattle.model_state.proofs.Current.{Current, current_of}
use Rattle.model_state.proofs.Received.{upgraded_current}
use Rattle.model_state.proofs.Pulling.{pull_of, open_incomplete}
use Rattle.model_state.proofs.PlainPulls.{fixed_pull_changes}
use Rattle.model_state.proofs.RawPulls.{raw_pull_changes}
use Rattle.model_state.proofs.FramePulls.{frames_pull_changes}
use Rattle.model_state.proofs.ChunkPulls.{chunks_pull_changes}
use Rattle.model_state.proofs.StepForms.{at_event}

-- by the kind of the body
by_kind : (setting : Setting) (before : List ParsedStep) (o : Outcome) (parse : List Message) (m : Message) (h : Head) (kind : BodyKind)
    → Legal setting (pull_of o parse ∷ before) → Current setting before m h → accepted (steps before) ≡ None → is_complete (steps before) ≡ false
    → h.body ≡ kind → has_body kind ≡ true → Changes setting before (pull_of o parse)
by_kind setting before o parse m h no_body l c plain incomplete e some = absurd (false≢true some)
by_kind setting before o parse m h (fixed_body n) l c plain incomplete e some = fixed_pull_changes setting before o parse m h n l c e incomplete
by_kind setting before o parse m h chunked_body l c plain incomplete e some = chunks_pull_changes setting before (pull_of o parse) l refl m h c e
by_kind setting before o parse m h raw_body l c plain incomplete e some = raw_pull_changes setting before o parse m h l c e plain incomplete

-- by whether the connection speaks WebSocket
by_protocol : (setting : Setting) (before : List ParsedStep) (o : Outcome) (parse : List Message) (u : Option ℕ) → accepted (steps before) ≡ u
    → Legal setting (pull_of o parse ∷ before) → (is_some u || has_body_left (steps before) (request (steps before))) ≡ true
    → Changes setting before (pull_of o parse)
by_protocol setting before o parse (Some limit) e l ok =
    let c = upgraded_current setting before l.3 (ap is_some e) in
    frames_pull_changes setting before o parse c.0 c.1 limit l c.2 e
by_protocol setting before o parse None e l ok =
    let t = steps before in
    elim (current_of setting before l.3) [
      | inl none ↦ absurd (false≢true (sym (ap (has_body_left t) none.request_is) ∙ ok))
      | inr (m, h, c) ↦
          let left = sym (ap (has_body_left t) c.request_is) ∙ ok in
          let parts = and_parts (has_body h.body) (is_open t) (and_parts (has_body h.body && is_open t) _ left).0 in
          by_kind setting before o parse m h h.body l c e (open_incomplete t e parts.1) refl parts.0
    ]

-- a pull
pull_of_changes : (setting : Setting) (before : List ParsedStep) (o : Outcome) (parse : List Message) → Legal setting (pull_of o parse ∷ before)
    → Changes setting before (pull_of o parse)
pull_of_changes setting before o parse l =
    by_protocol setting before o parse (accepted (steps before)) refl l (allowed_open setting before on.pull refl l.1)

-- more of a body is asked for
pub pull_changes : (setting : Setting) (before : List ParsedStep) (x : ParsedStep) → Legal setting (x ∷ before) → x.step.event ≡ on.pull
    → Changes setting before x
pull_changes setting before x l e = at_event setting before x on.pull l e (pull_of_changes setting before)
