-- What was received on a WebSocket: behind a legal past a message in fragments is under way as the frames say.
use Rattle.std.proofs.Common.{◌≡◌, ℕ, suc, ◌+◌, ◌≤◌, Bool, true, false, List, [], ◌∷◌, length, Option, Some, None, refl, sym, ap, ◌∙◌, subst, inl, inr, arith}
use Rattle.std.specs.Prelude.{IsTrue, nat_le, is_some, slice_get}
use Rattle.std.specs.Option.{option_or}
use Rattle.std.proofs.lemmas.Bool.{cond_both, true≢false, or_parts}
use Rattle.std.proofs.lemmas.Option.{none-some, slice_get_within}
use Rattle.model_h1.specs.Runs.{Run}
use Rattle.model_h1.specs.Request.{Header, BodyKind, no_body, fixed_body, chunked_body, raw_body, Head}
use Rattle.model_h1.specs.Setting.{Setting}
use Rattle.model_h1.specs.Frame.{ProtocolError}
use Rattle.model_h1.specs.FrameText.{PlacedFrame, is_under_way}
use Rattle.model_h1.specs.Parse.{Input, Message, Body, no_content, content, frames, Stop, ended_at, still_open, broken, cut, fixed_content, frames_of, IsBodyOf}
use Rattle.model_h1.specs.Event.{Event, Outcome}
use Rattle.model_h1.specs.Event as on
use Rattle.model_h1.specs.Sums.{Step, accepted_limit, accepted, head_of, received_behind, is_receiving, is_upgraded, was_pulled, was_dropped}
use Rattle.model_h1.specs.Past.{ParsedStep, steps, input_of, current, step_frames, given_bytes, given_frames}
use Rattle.model_h1.specs.Allowed.{is_allowed}
use Rattle.model_h1.specs.OutcomeTable.{run_left, gave_trailers, ended_outcome, run_outcome, frame_outcome, body_outcome, pull_outcome, outcome_of}
use Rattle.model_h1.proofs.PastLemmas.{Legal}
use Rattle.model_h1.proofs.BodySteps.{is_frames}
use Rattle.model_h1.proofs.StepLemmas.{accepted-cons, given_frames-more, Accepts, Begins, quiet, reads, stops, accepts, begins, pulls, step_case}
use Rattle.model_h1.proofs.HeldSteps.{accepts_idle, pull_no_head}
use Rattle.model_h1.proofs.HeldLemmas.{not_upgraded, unpulled_given}
use Rattle.model_state.proofs.Current.{Current, current_of, current_with}
use Rattle.model_state.proofs.Orderly.{orderly, waits_open, head_free}
use Rattle.model_state.proofs.Frames.{going, going-none, going-append, going-more, IsFramed, framed, current_carried, frames_stay}

-- a frame is an outcome of a WebSocket alone
received_still : (before : Bool) (o : Outcome) → step_frames o ≡ 0 → received_behind before o ≡ before
received_still before (on.frame f) e = absurd (omega (arith, e))
received_still before _ e = refl

-- whether a message in fragments is being received, of one more step
receiving-cons : (s : Step) (before : List Step) → is_receiving (s ∷ before) ≡ received_behind (is_receiving before) s.outcome
unfolding is_receiving
receiving-cons s before = refl

-- The frames of a message that were handed out are those in front: a message in fragments is under way as behind these.
abbrev pub Received : List ParsedStep → Message → Type 0
Received past m = is_receiving (steps past) ≡ going (given_frames (steps past)) (frames_of m.body) false

-- for each past: on no WebSocket none is received, and on one it is as behind the frames that were handed out
pub record Receives (past : List ParsedStep) : Type 0 where
  pub plain : accepted (steps past) ≡ None → is_receiving (steps past) ≡ false
  pub framed : (m : Message) (limit : ℕ) → accepted (steps past) ≡ Some limit → current past ≡ Some m → Received past m

-- a WebSocket has a current message
pub upgraded_current : (setting : Setting) (past : List ParsedStep) → Legal setting past → is_upgraded (steps past) ≡ true
    → (m : Message) × (h : Head) × Current setting past m h
upgraded_current setting past l up = elim (current_of setting past l) [
  | inl none ↦
      let w = (orderly setting past l).upgraded up in
      absurd (none-some w.head (sym none.request_is ∙ w.request_is))
  | inr c ↦ c
]

-- a step that hands out no frame leaves it
still_receives : (setting : Setting) (before : List ParsedStep) (x : ParsedStep) → Legal setting (x ∷ before) → head_of x.step.outcome ≡ None
    → step_frames x.step.outcome ≡ 0 → accepted (x.step ∷ steps before) ≡ accepted (steps before) → Receives before → Receives (x ∷ before)
still_receives setting before x l none no_frame same old =
    let t = steps before in
    let still = receiving-cons x.step t ∙ received_still (is_receiving t) x.step.outcome no_frame in
    let given : given_frames (x.step ∷ t) ≡ given_frames t = omega (arith, given_frames-more x.step t none, no_frame) in
    record {
      plain = λ e. still ∙ old.plain (sym same ∙ e);
      framed = λ n limit up now.
          let up' = sym same ∙ up in
          let c = upgraded_current setting before l.3 (ap is_some up') in
          let start = (current_carried setting before x c.0 n l none c.2.current_is now).1 in
          let d = current_with setting (x ∷ before) n l now in
          let rest = frames_stay setting before x c.0 n limit start (framed setting before c.0 c.1 limit l.3 c.2 up') (framed setting (x ∷ before) n d.0 limit l d.1 up) in
          still ∙ old.framed c.0 limit up' c.2.current_is
          ∙ sym (going-append (given_frames t) (frames_of c.0.body) rest.0 false c.2.holds.frames_fit)
          ∙ sym (λ i. going (given i) (rest.1 i) false);
    }

-- a frame that is handed out is the next one
frame_receives : (setting : Setting) (before : List ParsedStep) (x : ParsedStep) (m : Message) (h : Head) (f : PlacedFrame)
    → Legal setting (x ∷ before)
    → x.step.outcome ≡ on.frame f.frame → slice_get (frames_of m.body) (given_frames (steps before)) ≡ Some f
    → accepted (x.step ∷ steps before) ≡ accepted (steps before) → Current setting before m h → is_upgraded (steps before) ≡ true
    → Receives before → Receives (x ∷ before)
frame_receives setting before x m h f l gives at same c upgraded old =
    let t = steps before in
    let none : head_of x.step.outcome ≡ None = ap head_of gives in
    let now_under = receiving-cons x.step t ∙ ap (received_behind (is_receiving t)) gives in
    let given : given_frames (x.step ∷ t) ≡ suc (given_frames t) = omega (arith, given_frames-more x.step t none, ap step_frames gives) in
    record {
      plain = λ e. absurd (true≢false (sym upgraded ∙ ap is_some (sym same ∙ e)));
      framed = λ n limit up now.
          let up' = sym same ∙ up in
          let start = (current_carried setting before x m n l none c.current_is now).1 in
          let d = current_with setting (x ∷ before) n l now in
          let rest = frames_stay setting before x m n limit start (framed setting before m h limit l.3 c up') (framed setting (x ∷ before) n d.0 limit l d.1 up) in
          let fits : suc (given_frames t) ≤ length (frames_of m.body) = omega (arith, slice_get_within (frames_of m.body) (given_frames t) f at) in
          now_under ∙ ap (λ u. is_under_way u f.frame) (old.framed m limit up' c.current_is)
          ∙ sym (going-more (given_frames t) (frames_of m.body) f false at)
          ∙ sym (going-append (suc (given_frames t)) (frames_of m.body) rest.0 false fits)
          ∙ sym (λ i. going (given i) (rest.1 i) false);
    }

-- no frame is handed out of a body that isn't frames
plain_frames : (trace : List Step) (b : Body) → is_frames b ≡ false → step_frames (body_outcome trace b) ≡ 0
plain_frames trace no_content e = refl
plain_frames trace (content runs stop) e = go stop (run_left (given_bytes trace) runs)
  where
    ended : (given : Bool) (lines : List Header) → step_frames (ended_outcome given lines) ≡ 0
    ended given [] = refl
    ended true (line ∷ more) = refl
    ended false (line ∷ more) = refl

    go : (stop : Stop) (left : Option Run) → step_frames (run_outcome trace stop left) ≡ 0
    go stop (Some r) = refl
    go (ended_at place trailers) None = ended (gave_trailers trace) trailers
    go still_open None = refl
    go broken None = refl
    go cut None = refl
plain_frames trace (frames placed fail) e = absurd (true≢false e)

-- the body of a message is frames on a WebSocket alone
plain_body : (setting : Setting) (past : List ParsedStep) (m : Message) (kind : BodyKind) → accepted (steps past) ≡ None
    → IsBodyOf (input_of setting (steps past)) kind m.body_start m.body → is_frames m.body ≡ false
plain_body setting past m no_body plain x = ap is_frames x
plain_body setting past m (fixed_body n) plain x = ap is_frames x ∙ fixed_plain (input_of setting (steps past)) m.body_start n
  where
    fixed_plain : (i : Input) (place n : ℕ) → is_frames (fixed_content i place n) ≡ false
    fixed_plain i place n = cond_both (nat_le (place + n) (length i.bytes)) _ _ (λ b. is_frames b ≡ false) (λ _. refl) (λ _. refl)
plain_body setting past m chunked_body plain x = ap is_frames x.3
plain_body setting past m raw_body plain x =
    let i = input_of setting (steps past) in
    ap is_frames (subst (λ u. IsBodyOf (record i { upgraded = u }) raw_body m.body_start m.body) plain x)

-- frames that are left, or not: what a pull hands out
pull_receives : (setting : Setting) (before : List ParsedStep) (x : ParsedStep) (m : Message) (h : Head) (limit : ℕ) → Legal setting (x ∷ before)
    → x.step.outcome ≡ body_outcome (steps before) m.body
    → accepted (x.step ∷ steps before) ≡ accepted (steps before) → Current setting before m h → accepted (steps before) ≡ Some limit
    → Receives before → Receives (x ∷ before)
pull_receives setting before x m h limit l gives same c up old =
    let b = framed setting before m h limit l.3 c up in
    let is = gives ∙ ap (body_outcome (steps before)) b.body in
    go (slice_get b.placed (given_frames (steps before))) b is refl
  where
    silent_frame : (fail : Option ProtocolError) → (head_of (frame_outcome fail None) ≡ None) × (step_frames (frame_outcome fail None) ≡ 0)
    silent_frame None = (refl, refl)
    silent_frame (Some e) = (refl, refl)

    go : (next : Option PlacedFrame) (b : IsFramed setting before m limit) → x.step.outcome ≡ body_outcome (steps before) (frames b.placed b.fail)
        → slice_get b.placed (given_frames (steps before)) ≡ next → Receives (x ∷ before)
    go (Some f) b is at =
        frame_receives setting before x m h f l (is ∙ ap (frame_outcome b.fail) at)
        (ap (λ fs. slice_get fs (given_frames (steps before))) (ap frames_of b.body) ∙ at) same c (ap is_some up) old
    go None b is at =
        let none = is ∙ ap (frame_outcome b.fail) at in
        still_receives setting before x l (ap head_of none ∙ (silent_frame b.fail).0) (ap step_frames none ∙ (silent_frame b.fail).1) same old

-- a pull
pull_step_receives : (setting : Setting) (before : List ParsedStep) (x : ParsedStep) → Legal setting (x ∷ before)
    → x.step.outcome ≡ pull_outcome (steps before) (current before) → accepted (x.step ∷ steps before) ≡ accepted (steps before)
    → Receives before → Receives (x ∷ before)
pull_step_receives setting before x l gives same old =
    let none = ap head_of gives ∙ pull_no_head (steps before) (current before) in
    elim (current_of setting before l.3) [
      | inl c ↦ still_receives setting before x l none (ap step_frames (gives ∙ ap (pull_outcome (steps before)) c.current_is)) same old
      | inr (m, h, c) ↦
          let is = gives ∙ ap (pull_outcome (steps before)) c.current_is in
          go m h c is (accepted (steps before)) refl
    ]
  where
    go : (m : Message) (h : Head) → Current setting before m h → x.step.outcome ≡ body_outcome (steps before) m.body
        → (up : Option ℕ) → accepted (steps before) ≡ up → Receives (x ∷ before)
    go m h c is None e =
        let no_frame = ap step_frames is ∙ plain_frames (steps before) m.body (plain_body setting before m h.body e c.body) in
        still_receives setting before x l (ap head_of gives ∙ pull_no_head (steps before) (current before)) no_frame same old
    go m h c is (Some limit) e = pull_receives setting before x m h limit l is same c e old

-- an acceptance: nothing was received yet
accept_receives : (setting : Setting) (before : List ParsedStep) (x : ParsedStep) → Legal setting (x ∷ before) → Accepts before x.step
    → Receives before → Receives (x ∷ before)
accept_receives setting before x l a old =
    let t = steps before in
    let idle = accepts_idle before x.step a in
    let unpulled = (or_parts (was_pulled t) (was_dropped t) a.unpulled).0 in
    let given : given_frames (x.step ∷ t) ≡ 0 =
    omega (arith, given_frames-more x.step t idle.head, idle.frames, (unpulled_given setting before l.3 unpulled).1) in
    let still = receiving-cons x.step t ∙ received_still (is_receiving t) x.step.outcome idle.frames ∙ old.plain (not_upgraded t a.unanswered) in
    record {
      plain = λ e. still;
      framed = λ n limit up now. still ∙ sym (going-none (frames_of n.body) false) ∙ ap (λ k. going k (frames_of n.body) false) (sym given);
    }

-- a head: on no WebSocket
head_receives : (setting : Setting) (before : List ParsedStep) (x : ParsedStep) → Legal setting (x ∷ before) → Begins before x.step
    → Receives before → Receives (x ∷ before)
head_receives setting before x l b old =
    let t = steps before in
    let ok = subst (λ e. IsTrue (is_allowed setting before e)) b.event l.1 in
    let is = sym b.outcome ∙ l.2 ∙ ap (outcome_of setting before) b.event in
    let free = head_free setting before b.head ok is in
    let same = accepted-cons x.step t ∙ ap (λ e. option_or (accepted_limit e x.step.outcome) (accepted t)) b.event in
    let still = receiving-cons x.step t ∙ ap (received_behind (is_receiving t)) b.outcome in
    record {
      plain = λ e. still ∙ old.plain (sym same ∙ e);
      framed = λ n limit up now.
          let was : is_upgraded t ≡ true = ap is_some (sym same ∙ up) in
          absurd (true≢false (sym (waits_open t was ((orderly setting before l.3).upgraded was)) ∙ free));
    }

-- what an event that accepts nothing leaves
pub unaccepting : (setting : Setting) (before : List ParsedStep) (s : Step) (e : Event) → s.event ≡ e → accepted_limit e s.outcome ≡ None
    → accepted (s ∷ steps before) ≡ accepted (steps before)
unaccepting setting before s e is none =
    accepted-cons s (steps before) ∙ ap (λ v. option_or (accepted_limit v s.outcome) (accepted (steps before))) is
    ∙ ap (λ o. option_or o (accepted (steps before))) none

-- nothing was received
nothing_received : Receives []
unfolding accepted is_receiving
nothing_received = record { plain = λ e. refl; framed = λ m limit up now. absurd (none-some limit up) }

-- every legal past
pub receives : (setting : Setting) (past : List ParsedStep) → Legal setting past → Receives past
receives setting [] l = nothing_received
receives setting (x ∷ before) l =
    let old = receives setting before l.3 in
    elim (step_case setting before x.step.event x.step.outcome l.1 l.2) [
      | quiet q ↦
          let same = accepted-cons x.step (steps before) ∙ ap (λ o. option_or o (accepted (steps before))) q.accepted in
          still_receives setting before x l q.head q.frames same old
      | reads r ↦ still_receives setting before x l (ap head_of r.outcome) (ap step_frames r.outcome) (unaccepting setting before x.step (on.read r.bytes) r.event refl) old
      | stops r ↦ still_receives setting before x l (ap head_of r.outcome) (ap step_frames r.outcome) (unaccepting setting before x.step on.eof r.event refl) old
      | accepts a ↦ accept_receives setting before x l a old
      | begins b ↦ head_receives setting before x l b old
      | pulls p ↦ pull_step_receives setting before x l p.outcome (unaccepting setting before x.step on.pull p.event refl) old
    ]
