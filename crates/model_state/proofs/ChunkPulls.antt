-- Pulls of a body in chunks.
use Rattle.std.proofs.Common.{◌≡◌, ℕ, Bool, true, false, List, ◌∷◌, drop, Some, refl, sym, ap, ◌∙◌, subst, inl, inr}
use Rattle.std.specs.Prelude.{◌||◌, not, is_some}
use Rattle.std.proofs.lemmas.Bool.{and_parts, not-true, cases_Bool, true≢false}
use Rattle.std.proofs.lemmas.Option.{same_Some}
use Rattle.model_h1.specs.Runs.{Run}
use Rattle.model_h1.specs.Chunked.{Chunked, IsChunked}
use Rattle.model_h1.specs.TakeNext.{Next, chunk, waits, ended, breaks}
use Rattle.model_h1.specs.Request.{chunked_body, is_raw_kind, is_chunked_kind, has_body, Head, Reading}
use Rattle.model_h1.specs.Setting.{Setting}
use Rattle.model_h1.specs.Parse.{Input, Message, shifted, IsBodyOf}
use Rattle.model_h1.specs.Event.{Event, Outcome}
use Rattle.model_h1.specs.Event as on
use Rattle.model_h1.specs.Sums.{Step, taken, request, is_complete, is_open, is_upgraded, has_ended}
use Rattle.model_h1.specs.Past.{ParsedStep, steps, input_of, given_bytes, has_chunks, pulled_to, passed}
use Rattle.model_h1.specs.Allowed.{has_body_left}
use Rattle.model_h1.specs.OutcomeTable.{run_left, gave_trailers}
use Rattle.model_h1.proofs.PastLemmas.{Legal}
use Rattle.model_h1.proofs.HandedTrace.{gave_up}
use Rattle.model_h1.proofs.StepLemmas.{allowed_open, complete-more}
use Rattle.model_h1.proofs.CarriedLemmas.{passed_some, passed_pulled}
use Rattle.model_h1.proofs.PulledLemmas.{pulled_to-more}
use Rattle.model_state.specs.Kept.{Rest, no_rest}
use Rattle.model_state.specs.Pull.{IsPull}
use Rattle.model_state.specs.KeptOf.{is_passed, rest_of}
use Rattle.model_state.proofs.Changes.{Changes}
use Rattle.model_state.proofs.Current.{Current, current_with}
use Rattle.model_state.proofs.Orderly.{orderly}
use Rattle.model_state.proofs.CalmSteps.{calm_pull, taken-calm}
use Rattle.model_state.proofs.Pulling.{pull_of, pull_headless, pull_current, Gives, pulling_with}
use Rattle.model_state.proofs.ChunkGives as chunks
use Rattle.model_state.proofs.ChunkGives.{gives}
use Rattle.model_state.proofs.ChunkOutcomes.{FollowsTo}
use Rattle.model_state.proofs.ChunkPast.{follows_past}
use Rattle.model_state.proofs.ChunkRests.{of_chunks, NotBehind, passed_done, done_passed, ended_gives, rest_upto, rest_is, rest_passed, rest_left}
use Rattle.model_state.proofs.ChunkFits.{Fits, left_of, coming_of, lines_of, fits_chunk, fits_breaks, fits_wait, fits_end, fits_told}

-- ---- what a pull of such a body is allowed behind

-- the answer isn't complete, and the body isn't given up
pub record IsPullable (trace : List Step) : Type 0 where
  pub incomplete : is_complete trace ≡ false
  pub unfinished : gave_up trace ≡ false

-- a body in chunks is no WebSocket
pub chunks_plain : (setting : Setting) (past : List ParsedStep) (m : Message) (h : Head) → Legal setting past → Current setting past m h
    → h.body ≡ chunked_body
    → is_upgraded (steps past) ≡ false
chunks_plain setting past m h l c kind = elim (cases_Bool (is_upgraded (steps past))) [
  | inr plain ↦ plain
  | inl up ↦
      let w = (orderly setting past l).upgraded up in
      let same = same_Some w.head h (sym w.request_is ∙ c.request_is) in
      absurd (true≢false (sym w.raw ∙ ap (λ (q : Head). is_raw_kind q.body) same ∙ ap is_raw_kind kind))
]

-- of the tests of what is allowed
pullable_by : (trace : List Step) (h : Head) → is_upgraded trace ≡ false → request trace ≡ Some h
    → (is_upgraded trace || has_body_left trace (request trace)) ≡ true → IsPullable trace
pullable_by trace h plain e x =
    let here : has_body_left trace (Some h) ≡ true = sym (λ i. plain i || has_body_left trace (e i)) ∙ x in
    let parts = and_parts _ _ here in
    let first = and_parts (has_body h.body) (is_open trace) parts.0 in
    let opened = (and_parts (is_some (request trace)) (is_upgraded trace || not (is_complete trace)) first.1).1 in
    record {
      incomplete = not-true (is_complete trace) (sym (ap (λ b. b || not (is_complete trace)) plain) ∙ opened);
      unfinished = not-true (gave_up trace) parts.1;
    }

-- a pull of such a body that is allowed
pub pullable : (setting : Setting) (before : List ParsedStep) (o : Outcome) (parse : List Message) (m : Message) (h : Head)
    → Legal setting (pull_of o parse ∷ before) → Current setting before m h → h.body ≡ chunked_body → IsPullable (steps before)
pullable setting before o parse m h l c kind =
    pullable_by (steps before) h (chunks_plain setting before m h l.3 c kind) c.request_is (allowed_open setting before on.pull refl l.1)

-- ---- what the longer past says

-- what fits the message changes all parts
fits_gives : (setting : Setting) (before : List ParsedStep) (parse : List Message) (m : Message) (h : Head) (rest : Rest)
    → Current setting before m h → h.body ≡ chunked_body → is_complete (steps before) ≡ false → (f : Fits m (steps before) rest)
    → Legal setting (pull_of f.pulled.outcome parse ∷ before) → Gives setting before m h f.pulled parse
fits_gives setting before parse m h rest c kind incomplete f l =
    let t = steps before in
    let o = f.pulled.outcome in
    let x = pull_of o parse in
    let none = pull_headless setting before o parse l in
    let there = pull_current setting before o parse m l c.current_is in
    let still : is_complete (x.step ∷ t) ≡ false = complete-more x.step t none ∙ incomplete in
    let upto : pulled_to m (x.step ∷ t) ≡ f.upto = pulled_to-more m x.step t none ∙ f.passes in
    let place : passed (x ∷ before) ≡ f.upto = passed_some (x ∷ before) m there ∙ passed_pulled (x ∷ before) m still ∙ upto in
    let holds = (current_with setting (x ∷ before) m l there).1.holds in
    let ahead : NotBehind f.upto m = subst (λ n. NotBehind n m) upto holds.before_next in
    record {
      rest = f.rest_is ahead ∙ sym (rest_is (x ∷ before) m h f.upto (taken t) kind place (taken-calm x.step t calm_pull) still);
      unread = f.unread ∙ ap (λ n. drop n (taken t)) (sym place);
      done = f.done;
      failed = f.failed;
      written = f.written;
      over = f.over;
    }

-- so it is a pull's case
fits_changes : (setting : Setting) (before : List ParsedStep) (o : Outcome) (parse : List Message) (m : Message) (h : Head) (rest : Rest)
    → Legal setting (pull_of o parse ∷ before) → Current setting before m h → h.body ≡ chunked_body → is_complete (steps before) ≡ false
    → rest_upto m (pulled_to m (steps before)) (taken (steps before)) ≡ rest → Fits m (steps before) rest → Changes setting before (pull_of o parse)
fits_changes setting before o parse m h rest l c kind incomplete e f =
    let t = steps before in
    let place : passed before ≡ pulled_to m t = c.passed_is ∙ passed_pulled before m incomplete in
    let left : rest_of before m h.body ≡ rest = rest_is before m h (pulled_to m t) (taken t) kind place refl incomplete ∙ e in
    let pulls : IsPull (has_ended t) (rest_of before m h.body) (drop (passed before) (taken t)) f.pulled =
    subst (λ n. IsPull (has_ended t) (rest_of before m h.body) (drop n (taken t)) f.pulled) (sym place)
    (subst (λ r. IsPull (has_ended t) r (drop (pulled_to m t) (taken t)) f.pulled) (sym left) f.pulls) in
    pulling_with setting before o parse m h f.pulled l c f.outcome pulls (fits_gives setting before parse m h rest c kind incomplete f)

-- ---- each case

-- by what comes next, where the body isn't passed
fits_by : (r : Reading) (place : ℕ) (runs : List Run) (i : Input) (a : Chunked) (trace : List Step) (next : Next)
    → has_chunks r ≡ true → i.ended ≡ has_ended trace → IsChunked (drop place (taken trace)) a runs
    → is_passed (pulled_to (of_chunks r place runs i a) trace) (of_chunks r place runs i a) ≡ false → gave_trailers trace ≡ false
    → coming_of (of_chunks r place runs i a) trace ≡ next
    → chunks.Gives place (pulled_to (of_chunks r place runs i a) trace) (taken trace) (lines_of (of_chunks r place runs i a) trace) a
    (run_left (given_bytes trace) (shifted place runs)) next
    → Fits (of_chunks r place runs i a) trace (left_of (of_chunks r place runs i a) trace)
fits_by r place runs i a trace (chunk given next behind) in_chunks same x unpassed untold e g =
    fits_chunk r place runs i a trace given next behind x e g
fits_by r place runs i a trace (waits next) in_chunks same x unpassed untold e g =
    fits_wait r place runs i a trace next (has_ended trace) in_chunks same refl e g
fits_by r place runs i a trace (ended behind) in_chunks same x unpassed untold e g = fits_end r place runs i a trace behind untold e g.0 g.1
fits_by r place runs i a trace breaks in_chunks same x unpassed untold e g = fits_breaks r place runs i a trace unpassed e g.0 g.1

-- where the body isn't passed, its trailers weren't given
unpassed_untold : (r : Reading) (place : ℕ) (runs : List Run) (i : Input) (a : Chunked) (trace : List Step)
    → IsChunked (drop place (taken trace)) a runs
    → FollowsTo (of_chunks r place runs i a) trace → is_passed (pulled_to (of_chunks r place runs i a) trace) (of_chunks r place runs i a) ≡ false
    → gave_trailers trace ≡ false
unpassed_untold r place runs i a trace x f unpassed = elim (cases_Bool (gave_trailers trace)) [
  | inr untold ↦ untold
  | inl told ↦ absurd (true≢false (sym (done_passed r place runs i trace a x f (f.opens told)) ∙ unpassed))
]

-- one of two that holds, where the other doesn't
first_holds : (a b : Bool) → b ≡ false → (a || b) ≡ true → a ≡ true
first_holds true b e x = refl
first_holds false b e x = absurd (true≢false (sym x ∙ e))

-- a message in chunks
by_parts : (setting : Setting) (before : List ParsedStep) (o : Outcome) (parse : List Message) (h : Head) (r : Reading) (place : ℕ)
    (runs : List Run) (a : Chunked)
    → Legal setting (pull_of o parse ∷ before) → Current setting before (of_chunks r place runs (input_of setting (steps before)) a) h
    → h.body ≡ chunked_body
    → IsChunked (drop place (taken (steps before))) a runs → has_chunks r ≡ true → Changes setting before (pull_of o parse)
by_parts setting before o parse h r place runs a l c kind x in_chunks =
    let t = steps before in
    let i = input_of setting t in
    let m = of_chunks r place runs i a in
    let upto = pulled_to m t in
    let bytes = taken t in
    let may = pullable setting before o parse m h l c kind in
    let f = follows_past setting before l.3 m c.current_is in_chunks in
    elim (cases_Bool (is_passed upto m)) [
      | inl is ↦
          let whole = passed_done r place runs i bytes a upto x c.holds.before_next is in
          let g = ended_gives r place runs i t a x f whole in
          let told = first_holds (gave_trailers t) (gave_up t) may.unfinished (f.closes whole) in
          fits_changes setting before o parse m h no_rest l c kind may.incomplete (rest_passed m upto bytes is)
          (fits_told r place runs i a t told g.0 g.1)
      | inr unpassed ↦
          let untold = unpassed_untold r place runs i a t x f unpassed in
          fits_changes setting before o parse m h (left_of m t) l c kind may.incomplete (rest_left m upto bytes unpassed)
          (fits_by r place runs i a t (coming_of m t) in_chunks refl x unpassed untold refl
          (gives place upto (given_bytes t) bytes (gave_trailers t) (gave_up t) a runs x f))
    ]

-- a pull with its outcome
by_outcome : (setting : Setting) (before : List ParsedStep) (o : Outcome) (parse : List Message) → Legal setting (pull_of o parse ∷ before)
    → (m : Message) (h : Head) → Current setting before m h → h.body ≡ chunked_body → Changes setting before (pull_of o parse)
by_outcome setting before o parse l m h c kind =
    let t = steps before in
    let i = input_of setting t in
    let body = subst (λ k. IsBodyOf i k m.body_start m.body) kind c.body in
    let shape : m ≡ of_chunks m.reading m.body_start body.1 i body.0 =
    ap (λ b. record { reading = m.reading; body_start = m.body_start; body = b }) body.3 in
    by_parts setting before o parse h m.reading m.body_start body.1 body.0 l (subst (λ q. Current setting before q h) shape c) kind body.2
    (ap has_chunks c.reading ∙ ap is_chunked_kind kind)

-- A pull of a body in chunks.
pub chunks_pull_changes : (setting : Setting) (before : List ParsedStep) (x : ParsedStep) → Legal setting (x ∷ before) → x.step.event ≡ on.pull
    → (m : Message) (h : Head) → Current setting before m h → h.body ≡ chunked_body → Changes setting before x
chunks_pull_changes setting before x l e m h c kind =
    let P : Event → Type 0 = λ v.
    let y : ParsedStep = record { step = record { event = v; outcome = x.step.outcome }; parse = x.parse } in
    Legal setting (y ∷ before) → Changes setting before y in
    subst P (sym e) (λ l'. by_outcome setting before x.step.outcome x.parse l' m h c kind) l
