-- Behind a legal past, the text that pulls passed of the current body in chunks says what was given.
use Rattle.std.proofs.Common.{◌≡◌, ℕ, zero, suc, ◌+◌, ◌-◌, true, false, cond, eqb, List, [], ◌∷◌, ◌++◌, length, Some, None, refl, sym, ap, ◌∙◌, subst, subst₂, inl, inr, arith, append-nil}
use Rattle.std.specs.Prelude.{◌||◌, slice_get, unwrap_or}
use Rattle.std.specs.List.{list_any}
use Rattle.std.specs.Option.{option_or}
use Rattle.std.proofs.lemmas.Option.{none-some, same_Some}
use Rattle.std.proofs.lemmas.Bool.{or_parts, false≢true}
use Rattle.model_h1.specs.Request.{BodyKind, chunked_body, no_body, fixed_body, raw_body, is_chunked_kind, Head, Reading, head_is}
use Rattle.model_h1.specs.Setting.{Setting}
use Rattle.model_h1.specs.Parse.{Input, Message, IsBodyOf, IsBodyAfter, chunked_stop}
use Rattle.model_h1.specs.Event.{Outcome}
use Rattle.model_h1.specs.Event as on
use Rattle.model_h1.specs.Sums.{Step, step_taken, taken, is_eof, has_ended, accepted_limit, accepted, head_of, was_pulled, was_dropped}
use Rattle.model_h1.specs.Past.{ParsedStep, steps, input_of, parse_of, head_count, current, step_bytes, given_bytes, has_chunks, pulled_place, pulled_to}
use Rattle.model_h1.specs.Allowed.{gives_up}
use Rattle.model_h1.specs.OutcomeTable.{is_trailers, gave_trailers, body_outcome, pull_outcome}
use Rattle.model_h1.proofs.PastLemmas.{Legal}
use Rattle.model_h1.proofs.HandedTrace.{gave_up}
use Rattle.model_h1.proofs.BodyLemmas.{input}
use Rattle.model_h1.proofs.PlaceLemmas.{get_before}
use Rattle.model_h1.proofs.StepLemmas.{step, taken-cons, accepted-cons, since_head-head, head_count-more, given_bytes-head, Pulls, quiet, reads, stops, accepts, begins, pulls, step_case, parsed, same_input, same_parse}
use Rattle.model_h1.proofs.BodySteps.{Moves, body_moves}
use Rattle.model_h1.proofs.TraceGrowth.{current_at, current_none}
use Rattle.model_h1.proofs.PulledLemmas.{Grown, Idle, pulled_grows, pulled_to-head, unpulled_place}
use Rattle.model_h1.proofs.HeldSteps.{pull_no_head, quiet_idle, reads_idle, ends_idle, accepts_idle}
use Rattle.model_h1.proofs.HeldLemmas.{bounded}
use Rattle.model_state.proofs.Current.{Current, carried, current_with}
use Rattle.model_state.proofs.PassedText.{Follows, nothing_follows}
use Rattle.model_state.proofs.ChunkOutcomes.{FollowsTo, same_follows, follows_step, in_chunks, follows_pull}
use Rattle.model_state.proofs.IdleText.{only_pulls_give_trailers, follows_idle}

-- ---- the message before a step

-- the current message behind a step that hands out no head stood in its place before
pub record WasCurrent (before : List ParsedStep) (n : Message) : Type 0 where
  pub message : Message
  pub current_is : current before ≡ Some message
  pub reading : message.reading ≡ n.reading
  pub body_start : message.body_start ≡ n.body_start

-- by how many heads were handed out
was_by_count : (setting : Setting) (before : List ParsedStep) (x : ParsedStep) (n : Message) (count : ℕ) → head_count (steps before) ≡ count
    → Legal setting (x ∷ before)
    → head_of x.step.outcome ≡ None → current (x ∷ before) ≡ Some n → WasCurrent before n
was_by_count setting before x n zero e l none here =
    absurd (none-some n (sym (current_none (x ∷ before) (head_count-more x.step (steps before) none ∙ e)) ∙ here))
was_by_count setting before x n (suc k) e l none here =
    let count = (bounded setting before l.3).sound.count in
    let m = get_before (parse_of before) k (omega arith) in
    let c = carried setting before x k m.0 l m.1 in
    let same = same_Some c.message n (sym (current_at (x ∷ before) k (head_count-more x.step (steps before) none ∙ e) ∙ c.at) ∙ here) in
    record {
      message = m.0;
      current_is = current_at before k e ∙ m.1;
      reading = c.reading ∙ ap (λ (p : Message). p.reading) same;
      body_start = c.body_start ∙ ap (λ (p : Message). p.body_start) same;
    }

-- whatever their number is
was_current : (setting : Setting) (before : List ParsedStep) (x : ParsedStep) (n : Message) → Legal setting (x ∷ before)
    → head_of x.step.outcome ≡ None
    → current (x ∷ before) ≡ Some n → WasCurrent before n
was_current setting before x n l none here = was_by_count setting before x n (head_count (steps before)) refl l none here

-- where the parse stays, so does the current message
same_current : (before : List ParsedStep) (x : ParsedStep) → x.parse ≡ parse_of before → head_of x.step.outcome ≡ None
    → current (x ∷ before) ≡ current before
same_current before x same none =
    let count = head_count-more x.step (steps before) none in
    λ i. cond (eqb (count i) 0) None (slice_get (same i) (count i - 1))

-- the body that follows its head
body_after : (setting : Setting) (past : List ParsedStep) (m : Message) (h : Head) → Current setting past m h
    → IsBodyAfter (input_of setting (steps past)) m.reading m.body_start m.body
body_after setting past m h c = subst (λ (r : Reading). IsBodyAfter (input_of setting (steps past)) r m.body_start m.body) (sym c.reading) c.body

-- as bytes come, or the input ends, pulls pass as much
grown_pulled : (setting : Setting) (before : List ParsedStep) (x : ParsedStep) (m n : Message) → Legal setting (x ∷ before)
    → has_ended (steps before) ≡ false → accepted (x.step ∷ steps before) ≡ accepted (steps before)
    → m.reading ≡ n.reading → m.body_start ≡ n.body_start → current before ≡ Some m → current (x ∷ before) ≡ Some n
    → pulled_to m (steps before) ≡ pulled_to n (steps before)
grown_pulled setting before x m n l unended upgraded reading start was is =
    let t = steps before in
    let bytes = taken t in
    let more = step_taken x.step.event x.step.outcome in
    let size = setting.hold_size in
    let old = current_with setting before m l.3 was in
    let new = current_with setting (x ∷ before) n l is in
    let i : input_of setting t ≡ input bytes (accepted t) false size = λ j. input bytes (accepted t) (unended j) size in
    let i' : input_of setting (x.step ∷ t) ≡ input (bytes ++ more) (accepted t) (has_ended (x.step ∷ t)) size =
    λ j. input (taken-cons x.step t j) (upgraded j) (has_ended (x.step ∷ t)) size in
    let a = subst (λ (k : Input). IsBodyAfter k m.reading m.body_start m.body) i (body_after setting before m old.0 old.1) in
    let b = subst (λ (k : Input). IsBodyAfter k n.reading n.body_start n.body) i' (body_after setting (x ∷ before) n new.0 new.1) in
    let b' = subst₂ (λ r p. IsBodyAfter (input (bytes ++ more) (accepted t) (has_ended (x.step ∷ t)) size) r p n.body) (sym reading) (sym start) b in
    moved (body_moves bytes more (accepted t) (has_ended (x.step ∷ t)) size m.reading m.body_start m.body n.body old.1.start a b')
  where
    moved : Moves (length (taken (steps before))) m.body n.body → pulled_to m (steps before) ≡ pulled_to n (steps before)
    moved (inl same) =
        let is_same : m ≡ n = λ i. record { reading = reading i; body_start = start i; body = same i } in
        ap (λ p. pulled_to p (steps before)) is_same
    moved (inr opened) =
        let g : Grown (length (taken (steps before))) m n = record { reading = reading; body_start = start; body = opened } in
        let old = current_with setting before m l.3 was in
        let new = current_with setting (x ∷ before) n l is in
        (pulled_grows (length (taken (steps before))) n.body_start (length (taken (x.step ∷ steps before))) m n (steps before)
        g new.1.lies.runs old.1.holds.pulls_fit).0

-- ---- each step

-- what holds of a message holds of one from which pulls pass as much
follows_other : (m n : Message) (trace : List Step) → m.body_start ≡ n.body_start → pulled_to m trace ≡ pulled_to n trace → FollowsTo m trace
    → FollowsTo n trace
follows_other m n trace start pulled f =
    subst₂ (λ place upto. Follows place upto (taken trace) (given_bytes trace) (gave_trailers trace) (gave_up trace)) start pulled f

-- what is to be shown of a past
abbrev Shown : List ParsedStep → Type 0
Shown past = (m : Message) → current past ≡ Some m → has_chunks m.reading ≡ true → FollowsTo m (steps past)

-- a head was handed out
head_shown : (setting : Setting) (before : List ParsedStep) (x : ParsedStep) (h : Head) → Legal setting (x ∷ before)
    → head_of x.step.outcome ≡ Some h → Shown (x ∷ before)
head_shown setting before x h l some n here chunks =
    let t = steps before in
    let trace = x.step ∷ t in
    let since = since_head-head x.step t h some in
    let c = current_with setting (x ∷ before) n l here in
    same_follows n.body_start n.body_start (pulled_to n trace) (taken trace) (taken trace) 0 (given_bytes trace)
    false (gave_trailers trace) false (gave_up trace)
    (sym (pulled_to-head n x.step t h some)) refl (sym (given_bytes-head x.step t h some))
    (sym (ap (list_any (λ s. is_trailers s.outcome)) since)) (sym (ap (list_any (λ s. gives_up s.event s.outcome)) since))
    (nothing_follows n.body_start (taken trace) c.1.start)

-- a step that is no pull and hands out no head
idle_shown : (setting : Setting) (before : List ParsedStep) (x : ParsedStep) → Legal setting (x ∷ before) → Idle x.step
    → ((m n : Message) → m.reading ≡ n.reading → m.body_start ≡ n.body_start → current before ≡ Some m → current (x ∷ before) ≡ Some n
    → pulled_to m (steps before) ≡ pulled_to n (steps before)) → Shown before → Shown (x ∷ before)
idle_shown setting before x l idle pulled old n here chunks =
    let t = steps before in
    let was = was_current setting before x n l idle.head here in
    let m = was.message in
    let f = old m was.current_is (ap has_chunks was.reading ∙ chunks) in
    let none = ap is_trailers l.2 ∙ only_pulls_give_trailers setting before x.step.event idle.pull in
    follows_idle n x.step t idle none (follows_other m n t was.body_start (pulled m n was.reading was.body_start was.current_is here) f)

-- the kind of a body in chunks
chunks_kind : (h : Head) (m : Message) → m.reading ≡ head_is h → has_chunks m.reading ≡ true → h.body ≡ chunked_body
chunks_kind h m e chunks = of_kind h.body (sym (ap has_chunks e) ∙ chunks)
  where
    of_kind : (k : BodyKind) → is_chunked_kind k ≡ true → k ≡ chunked_body
    of_kind chunked_body y = refl
    of_kind no_body y = absurd (false≢true y)
    of_kind raw_body y = absurd (false≢true y)
    of_kind (fixed_body n) y = absurd (false≢true y)

-- how far a pull with this outcome passes
abbrev pulled_upto : Message → Outcome → List Step → ℕ
pulled_upto m o t = unwrap_or (pulled_place m (step on.pull o ∷ t) on.pull o) (pulled_to m t)

-- a pull of a body in chunks
pull_shown : (setting : Setting) (before : List ParsedStep) (x : ParsedStep) → Legal setting (x ∷ before) → Pulls before x.step
    → current (x ∷ before) ≡ current before → Shown before → Shown (x ∷ before)
pull_shown setting before x l p same old n here chunks =
    let t = steps before in
    let was = sym same ∙ here in
    let c = current_with setting before n l.3 was in
    let kind = chunks_kind c.0 n c.1.reading chunks in
    let body = subst (λ k. IsBodyOf (input_of setting t) k n.body_start n.body) kind c.1.body in
    let shape : n ≡ in_chunks n.reading n.body_start body.1 (chunked_stop (input_of setting t) n.body_start body.0) =
    ap (λ b. record { reading = n.reading; body_start = n.body_start; body = b }) body.3 in
    let m = in_chunks n.reading n.body_start body.1 (chunked_stop (input_of setting t) n.body_start body.0) in
    let f = subst (λ q. FollowsTo q t) shape (old n was chunks) in
    let o = body_outcome t m.body in
    let none = ap head_of p.outcome ∙ pull_no_head t (current before) in
    let told : x.step.outcome ≡ o = p.outcome ∙ ap (pull_outcome t) (was ∙ ap Some shape) in
    let is : step on.pull o ≡ x.step = λ i. record { event = sym p.event i; outcome = sym told i } in
    let pulled = follows_pull n.reading n.body_start body.1 (input_of setting t) t body.0 chunks body.2 f in
    let behind = follows_step m (step on.pull o) t (sym (ap head_of told) ∙ none)
    (subst (λ b. Follows n.body_start (pulled_upto m o t) b (given_bytes t + step_bytes o) (is_trailers o || gave_trailers t)
    (gives_up on.pull o || gave_up t))
    (sym (append-nil (taken t))) pulled) in
    subst₂ (λ q s. FollowsTo q (s ∷ t)) (sym shape) is behind

-- a step that takes nothing leaves the current message
still_current : (setting : Setting) (before : List ParsedStep) (x : ParsedStep) → Legal setting (x ∷ before)
    → step_taken x.step.event x.step.outcome ≡ [] → is_eof x.step.event ≡ false → accepted_limit x.step.event x.step.outcome ≡ None
    → head_of x.step.outcome ≡ None → current (x ∷ before) ≡ current before
still_current setting before x l none eof unaccepted headless =
    same_current before x (same_parse setting x before (same_input setting x.step (steps before) none eof unaccepted) l.0
    (parsed setting before l.3)) headless

-- each step
step_shown : (setting : Setting) (before : List ParsedStep) (x : ParsedStep) → Legal setting (x ∷ before) → Shown before → Shown (x ∷ before)
step_shown setting before x l old =
    let t = steps before in
    elim (step_case setting before x.step.event x.step.outcome l.1 l.2) [
      | quiet q ↦
          let same = still_current setting before x l q.taken q.eof q.accepted q.head in
          idle_shown setting before x l (quiet_idle before x.step q)
          (λ m n _ _ was is. ap (λ p. pulled_to p t) (same_Some m n (sym was ∙ sym same ∙ is))) old
      | reads r ↦
          let upgraded = accepted-cons x.step t ∙ ap (λ e. option_or (accepted_limit e x.step.outcome) (accepted t)) r.event in
          idle_shown setting before x l (reads_idle setting before x.step r)
          (λ m n reading start was is. grown_pulled setting before x m n l r.unended upgraded reading start was is) old
      | stops r ↦
          let upgraded = accepted-cons x.step t ∙ ap (λ e. option_or (accepted_limit e x.step.outcome) (accepted t)) r.event in
          idle_shown setting before x l (ends_idle before x.step r)
          (λ m n reading start was is. grown_pulled setting before x m n l r.unended upgraded reading start was is) old
      | accepts a ↦
          let unpulled = (or_parts (was_pulled t) (was_dropped t) a.unpulled).0 in
          idle_shown setting before x l (accepts_idle before x.step a)
          (λ m n _ start _ _. unpulled_place m t unpulled ∙ start ∙ sym (unpulled_place n t unpulled)) old
      | begins b ↦ head_shown setting before x b.head l (ap head_of b.outcome)
      | pulls p ↦
          let same = still_current setting before x l (ap (λ e. step_taken e x.step.outcome) p.event) (ap is_eof p.event)
          (ap (λ e. accepted_limit e x.step.outcome) p.event) (ap head_of p.outcome ∙ pull_no_head t (current before)) in
          pull_shown setting before x l p same old
    ]

-- Behind a legal past it holds of the current message, if its body is in chunks.
pub follows_past : (setting : Setting) (past : List ParsedStep) → Legal setting past → (m : Message) → current past ≡ Some m
    → has_chunks m.reading ≡ true
    → FollowsTo m (steps past)
follows_past setting [] l = λ m e chunks. absurd (none-some m e)
follows_past setting (x ∷ before) l = step_shown setting before x l (follows_past setting before l.3)
