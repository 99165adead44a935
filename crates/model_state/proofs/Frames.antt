-- Where a WebSocket is: the frames that were handed out are passed, and those behind them are read from there on.
use Rattle.std.proofs.Common.{◌≡◌, ℕ, zero, suc, ◌≤◌, Bool, true, false, List, [], ◌∷◌, ◌++◌, length, drop, Option, Some, None, refl, sym, ap, ◌∙◌, subst, subst₂, arith}
use Rattle.std.specs.Prelude.{◌-◌, is_some, slice_get}
use Rattle.std.proofs.lemmas.Bool.{cond-false, false≢true, ne_eqb}
use Rattle.std.proofs.lemmas.Option.{none-some, same_Some}
use Rattle.model_h1.specs.Request.{BodyKind, no_body, fixed_body, chunked_body, raw_body, is_raw_kind, Head}
use Rattle.model_h1.specs.Setting.{Setting}
use Rattle.model_h1.specs.Frame.{ProtocolError}
use Rattle.model_h1.specs.FrameText.{Reader, PlacedFrame, ReadsFrames, is_under_way}
use Rattle.model_h1.specs.Parse.{Message, frames, frames_of, connection_reader, IsBodyOf}
use Rattle.model_h1.specs.Sums.{step_taken, taken, accepted, head_of, request, is_upgraded}
use Rattle.model_h1.specs.Past.{ParsedStep, steps, input_of, head_count, current, frame_end}
use Rattle.model_h1.proofs.PastLemmas.{Legal}
use Rattle.model_h1.proofs.FrameLemmas.{frames_begin}
use Rattle.model_h1.proofs.PlaceLemmas.{get_before}
use Rattle.model_h1.proofs.StepLemmas.{taken-cons, head_count-more}
use Rattle.model_h1.proofs.TraceGrowth.{current_at, current_none}
use Rattle.model_state.proofs.Current.{Current, carried}
use Rattle.model_state.proofs.Orderly.{Orderly, orderly}

-- ---- frames of a list

-- whether a message in fragments is under way behind so many frames
unfoldable pub going : ℕ → List PlacedFrame → Bool → Bool
going zero fs u = u
going (suc k) [] u = u
going (suc k) (f ∷ fs) u = going k fs (is_under_way u f.frame)

-- behind no frame
pub going-none : (fs : List PlacedFrame) (u : Bool) → going 0 fs u ≡ u
unfolding going
going-none fs u = refl

-- frames that follow leave it
pub going-append : (k : ℕ) (fs rest : List PlacedFrame) (u : Bool) → k ≤ length fs → going k (fs ++ rest) u ≡ going k fs u
unfolding going
going-append zero fs rest u fits = refl
going-append (suc k) [] rest u fits = absurd (omega arith)
going-append (suc k) (f ∷ fs) rest u fits = going-append k fs rest (is_under_way u f.frame) (omega arith)

-- behind one more frame
pub going-more : (k : ℕ) (fs : List PlacedFrame) (f : PlacedFrame) (u : Bool) → slice_get fs k ≡ Some f
    → going (suc k) fs u ≡ is_under_way (going k fs u) f.frame
unfolding going
going-more k [] f u e = absurd (none-some f e)
going-more zero (g ∷ fs) f u e = ap (λ (h : PlacedFrame). is_under_way u h.frame) (same_Some g f e)
going-more (suc k) (g ∷ fs) f u e = going-more k fs f (is_under_way u g.frame) e

-- the place behind frames of which the first is given
frame_end-step : (place k : ℕ) (f : PlacedFrame) (fs : List PlacedFrame) → k ≤ length fs → frame_end place (suc k) (f ∷ fs) ≡ frame_end f.end k fs
frame_end-step place zero f fs fits = refl
frame_end-step place (suc k) f fs fits =
    let g = get_before fs k fits in
    let less : suc (suc k) - 1 ≡ suc k = omega arith in
    let less' : suc k - 1 ≡ k = omega arith in
    rw (less, less', g.1) (cond-false _ _ _ (ne_eqb (suc (suc k)) 0 (omega arith)) ∙ sym (cond-false _ _ _ (ne_eqb (suc k) 0 (omega arith))))

-- the frames behind the first ones are read from the place behind those
pub reads_on : (reader : Reader) (u : Bool) (place : ℕ) (bytes : List ℕ) (k : ℕ) (fs : List PlacedFrame) (e : Option ProtocolError) → k ≤ length fs
    → ReadsFrames reader u place bytes fs e → ReadsFrames reader (going k fs u) (frame_end place k fs) bytes (drop k fs) e
unfolding going
reads_on reader u place bytes zero fs e fits x = x
reads_on reader u place bytes (suc k) [] e fits x = absurd (omega arith)
reads_on reader u place bytes (suc k) (f ∷ fs) e fits x =
    let rest = reads_on reader (is_under_way u f.frame) f.end bytes k fs e (omega arith) x.3 in
    subst (λ p. ReadsFrames reader (going k fs (is_under_way u f.frame)) p bytes (drop k fs) e) (sym (frame_end-step place k f fs (omega arith))) rest

-- ---- a raw body on a WebSocket

-- the body of a message is these frames
pub record IsFramed (setting : Setting) (past : List ParsedStep) (m : Message) (limit : ℕ) : Type 0 where
  pub placed : List PlacedFrame
  pub fail : Option ProtocolError
  pub reads : ReadsFrames (connection_reader limit) false m.body_start (taken (steps past)) placed fail
  pub body : m.body ≡ frames placed fail

-- of a raw body
raw_framed : (setting : Setting) (past : List ParsedStep) (m : Message) (kind : BodyKind) (limit : ℕ) → is_raw_kind kind ≡ true
    → accepted (steps past) ≡ Some limit
    → IsBodyOf (input_of setting (steps past)) kind m.body_start m.body → IsFramed setting past m limit
raw_framed setting past m no_body limit raw up x = absurd (false≢true raw)
raw_framed setting past m (fixed_body n) limit raw up x = absurd (false≢true raw)
raw_framed setting past m chunked_body limit raw up x = absurd (false≢true raw)
raw_framed setting past m raw_body limit raw up x =
    let i = input_of setting (steps past) in
    let y = subst (λ u. IsBodyOf (record i { upgraded = u }) raw_body m.body_start m.body) up x in
    record { placed = y.0; fail = y.1; reads = y.2; body = y.3 }

-- the last request's body is raw
pub raw_head : (past : List ParsedStep) (h : Head) → Orderly (steps past) → is_upgraded (steps past) ≡ true → request (steps past) ≡ Some h
    → is_raw_kind h.body ≡ true
raw_head past h o up e =
    let w = o.upgraded up in
    sym (ap (λ (g : Head). is_raw_kind g.body) (same_Some w.head h (sym w.request_is ∙ e))) ∙ w.raw

-- the body of the current message is frames
pub framed : (setting : Setting) (past : List ParsedStep) (m : Message) (h : Head) (limit : ℕ) → Legal setting past → Current setting past m h
    → accepted (steps past) ≡ Some limit → IsFramed setting past m limit
framed setting past m h limit l c up =
    raw_framed setting past m h.body limit (raw_head past h (orderly setting past l) (ap is_some up) c.request_is) up c.body

-- ---- the current message, of one more step

-- it keeps its reading and its place
pub current_carried : (setting : Setting) (before : List ParsedStep) (x : ParsedStep) (m n : Message) → Legal setting (x ∷ before)
    → head_of x.step.outcome ≡ None
    → current before ≡ Some m → current (x ∷ before) ≡ Some n → (m.reading ≡ n.reading) × (m.body_start ≡ n.body_start)
current_carried setting before x m n l none e f = go (head_count (steps before)) refl
  where
    go : (k : ℕ) → head_count (steps before) ≡ k → (m.reading ≡ n.reading) × (m.body_start ≡ n.body_start)
    go zero count = absurd (none-some m (sym (current_none before count) ∙ e))
    go (suc k) count =
        let c = carried setting before x k m l (sym (current_at before k count) ∙ e) in
        let count' = head_count-more x.step (steps before) none ∙ count in
        let same = same_Some c.message n (sym c.at ∙ sym (current_at (x ∷ before) k count') ∙ f) in
        (c.reading ∙ ap (λ (p : Message). p.reading) same, c.body_start ∙ ap (λ (p : Message). p.body_start) same)

-- it is there still
pub current_stays : (setting : Setting) (before : List ParsedStep) (x : ParsedStep) (m : Message) → Legal setting (x ∷ before)
    → head_of x.step.outcome ≡ None
    → current before ≡ Some m → (n : Message) × (current (x ∷ before) ≡ Some n)
current_stays setting before x m l none e = go (head_count (steps before)) refl
  where
    go : (k : ℕ) → head_count (steps before) ≡ k → (n : Message) × (current (x ∷ before) ≡ Some n)
    go zero count = absurd (none-some m (sym (current_none before count) ∙ e))
    go (suc k) count =
        let c = carried setting before x k m l (sym (current_at before k count) ∙ e) in
        (c.message, current_at (x ∷ before) k (head_count-more x.step (steps before) none ∙ count) ∙ c.at)

-- its frames come first
pub frames_stay : (setting : Setting) (before : List ParsedStep) (x : ParsedStep) (m n : Message) (limit : ℕ) → m.body_start ≡ n.body_start
    → IsFramed setting before m limit → IsFramed setting (x ∷ before) n limit
    → (rest : List PlacedFrame) × (frames_of n.body ≡ frames_of m.body ++ rest)
frames_stay setting before x m n limit start a b =
    let now = subst₂ (λ t p. ReadsFrames (connection_reader limit) false p t b.placed b.fail) (taken-cons x.step (steps before)) (sym start) b.reads in
    let both = frames_begin (connection_reader limit) false m.body_start (taken (steps before)) (step_taken x.step.event x.step.outcome) a.placed b.placed a.fail b.fail a.reads now in
    (both.0, ap frames_of b.body ∙ both.1 ∙ ap (λ fs. fs ++ both.0) (sym (ap frames_of a.body)))
