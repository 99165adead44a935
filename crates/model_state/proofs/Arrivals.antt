-- Bytes that come, or the end of the input: the current message grows, what was passed stays passed, and what is left of
-- its body is passed where the answer is complete.
use Rattle.std.proofs.Common.{◌≡◌, ℕ, ◌≤◌, Bool, true, false, List, ◌∷◌, ◌++◌, length, drop, Option, Some, None, refl, sym, ap, ◌∙◌, subst, inl, inr, arith, true≢false}
use Rattle.std.specs.Prelude.{◌||◌, unwrap_or, is_some}
use Rattle.std.specs.Option.{option_or}
use Rattle.std.proofs.lemmas.Bool.{cases_Bool, false≢true}
use Rattle.std.proofs.lemmas.Option.{same_Some}
use Rattle.model_h1.specs.Request.{BodyKind, no_body, fixed_body, chunked_body, raw_body, is_raw_kind, Head, head_is}
use Rattle.model_h1.specs.Setting.{Setting}
use Rattle.model_h1.specs.Parse.{Input, Message, next_start, IsBodyOf}
use Rattle.model_h1.specs.Sums.{Step, Answered, taken, accepted, has_ended, request, answered as answer_of, is_complete, is_receiving}
use Rattle.model_h1.specs.Past.{ParsedStep, steps, input_of, current, pulled_to, passed}
use Rattle.model_h1.proofs.BodyLemmas.{input}
use Rattle.model_h1.proofs.PastLemmas.{Legal}
use Rattle.model_h1.proofs.BodySteps.{Moves, body_moves}
use Rattle.model_h1.proofs.PulledLemmas.{Grown, Idle, idle_pulled, pulled_grows}
use Rattle.model_h1.proofs.StepLemmas.{head_count-more}
use Rattle.model_h1.proofs.TraceGrowth.{current_none}
use Rattle.model_h1.proofs.CarriedLemmas.{passed_none, end_of, passed_complete, passed_pulled, below_end}
use Rattle.model_h1.proofs.HeldLemmas.{passed_grows}
use Rattle.model_state.specs.Kept.{Rest, frames_rest, Reply, unanswered, sending, answered, Exchange, Kept, is_answered}
use Rattle.model_h1.specs.Text.{buffered}
use Rattle.model_h1.specs.Closing.{told_end}
use Rattle.model_h1.specs.Allowed.{is_over_by}
use Rattle.model_h1.proofs.HandedTrace.{request-more}
use Rattle.model_state.specs.KeptOf.{rest_of, reply_of, exchange_with, exchange_of, kept_of}
use Rattle.model_state.specs.Body.{Passed, pass_rest, passing}
use Rattle.model_state.proofs.Changes.{bare}
use Rattle.model_state.proofs.Current.{Current, NoCurrent, current_with}
use Rattle.model_state.proofs.Orderly.{Orderly, orderly}
use Rattle.model_state.proofs.Frames.{current_carried, current_stays, raw_head}
use Rattle.model_state.proofs.QuietParts.{rest_by, rest_parts}
use Rattle.model_state.proofs.Completion.{passing_of}
use Rattle.model_state.proofs.PassedBodies.{left_at, left_is}
use Rattle.model_state.proofs.CalmSteps.{IsAside, exchange-unpulled, aside_parts}

-- A step before the end of the input that adds bytes, or ends the input, and does nothing else.
pub record Adds (before : List ParsedStep) (s : Step) (more : List ℕ) : Type 0 where
  pub taken : taken (s ∷ steps before) ≡ taken (steps before) ++ more
  pub accepted : accepted (s ∷ steps before) ≡ accepted (steps before)
  pub unended : has_ended (steps before) ≡ false
  pub idle : Idle s
  pub complete : is_complete (s ∷ steps before) ≡ is_complete (steps before)
  pub receiving : is_receiving (s ∷ steps before) ≡ is_receiving (steps before)

-- It tells nothing, and no text goes out for it.
pub record IsPlain (setting : Setting) (before : List ParsedStep) (s : Step) : Type 0 where
  pub aside : IsAside s.event
  pub tells : told_end s.outcome ≡ None
  pub over : is_over_by s.outcome ≡ false
  pub buffers : buffered setting (s ∷ steps before) ≡ buffered setting (steps before)

-- Behind such a step: the current message before it, and the same as it is parsed then, with its head.
pub record Grows (setting : Setting) (before : List ParsedStep) (x : ParsedStep) (more : List ℕ) (m n : Message) (h : Head) : Type 0 where
  pub legal : Legal setting (x ∷ before)
  pub adds : Adds before x.step more
  pub old : Current setting before m h
  pub new : Current setting (x ∷ before) n h

-- ---- the message grows

-- it keeps its start
pub same_start : (setting : Setting) (before : List ParsedStep) (x : ParsedStep) (more : List ℕ) (m n : Message) (h : Head)
    → Grows setting before x more m n h → m.body_start ≡ n.body_start
same_start setting before x more m n h g =
    (current_carried setting before x m n g.legal g.adds.idle.head g.old.current_is g.new.current_is).1

-- its body stays, or was open
moved : (setting : Setting) (before : List ParsedStep) (x : ParsedStep) (more : List ℕ) (m n : Message) (h : Head)
    → Grows setting before x more m n h → Moves (length (taken (steps before))) m.body n.body
moved setting before x more m n h g =
    let t = steps before in
    let size = setting.hold_size in
    let ended = has_ended (x.step ∷ t) in
    let was = subst (λ e. IsBodyOf (input (taken t) (accepted t) e size) h.body m.body_start m.body) g.adds.unended g.old.body in
    let is : input_of setting (x.step ∷ t) ≡ input (taken t ++ more) (accepted t) ended size = λ i. input (g.adds.taken i) (g.adds.accepted i) ended size in
    let now = subst (λ (k : Input). IsBodyOf k h.body n.body_start n.body) is g.new.body in
    let there = subst (λ p. IsBodyOf (input (taken t ++ more) (accepted t) ended size) h.body p n.body) (sym (same_start setting before x more m n h g)) now in
    body_moves (taken t) more (accepted t) ended size (head_is h) m.body_start m.body n.body g.old.start was there

-- pulls pass as much of it
pulled_same : (setting : Setting) (before : List ParsedStep) (x : ParsedStep) (more : List ℕ) (m n : Message) (h : Head)
    → Grows setting before x more m n h → pulled_to m (steps before) ≡ pulled_to n (steps before)
pulled_same setting before x more m n h g =
    let reading = g.old.reading ∙ sym g.new.reading in
    let start = same_start setting before x more m n h g in
    elim (moved setting before x more m n h g) [
      | inl same ↦
          let whole : m ≡ n = λ i. record { reading = reading i; body_start = start i; body = same i } in
          ap (λ p. pulled_to p (steps before)) whole
      | inr opens ↦
          let grown : Grown (length (taken (steps before))) m n = record { reading = reading; body_start = start; body = opens } in
          (pulled_grows (length (taken (steps before))) n.body_start (length (taken (x.step ∷ steps before))) m n (steps before) grown
          g.new.lies.runs g.old.holds.pulls_fit).0
    ]

-- as much is passed while the answer isn't complete
pub passed_same : (setting : Setting) (before : List ParsedStep) (x : ParsedStep) (more : List ℕ) (m n : Message) (h : Head)
    → Grows setting before x more m n h → is_complete (steps before) ≡ false → passed (x ∷ before) ≡ passed before
passed_same setting before x more m n h g answering =
    g.new.passed_is ∙ passed_pulled (x ∷ before) n (g.adds.complete ∙ answering) ∙ idle_pulled n x.step (steps before) g.adds.idle
    ∙ sym (pulled_same setting before x more m n h g) ∙ sym (passed_pulled before m answering) ∙ sym g.old.passed_is

-- ---- what is passed

-- of a complete answer's request, all up to the end
passed_end : (setting : Setting) (past : List ParsedStep) (m : Message) (h : Head) → Current setting past m h → is_complete (steps past) ≡ true
    → passed past ≡ end_of (length (taken (steps past))) m.body
passed_end setting past m h c complete = c.passed_is ∙ passed_complete past m complete

-- and never more
passed_to_end : (setting : Setting) (past : List ParsedStep) (m : Message) (h : Head) → Current setting past m h
    → passed past ≤ end_of (length (taken (steps past))) m.body
passed_to_end setting past m h c = elim (cases_Bool (is_complete (steps past))) [
  | inl complete ↦ omega (arith, passed_end setting past m h c complete)
  | inr answering ↦
      let len = length (taken (steps past)) in
      let same = c.passed_is ∙ passed_pulled past m answering in
      subst (λ n. n ≤ end_of len m.body) (sym same) (below_end len _ (next_start m.body) c.holds.within c.holds.before_next)
]

-- the end stands behind the start
end_behind : (setting : Setting) (past : List ParsedStep) (m : Message) (h : Head) → Current setting past m h
    → m.body_start ≤ end_of (length (taken (steps past))) m.body
end_behind setting past m h c =
    below_end (length (taken (steps past))) m.body_start (next_start m.body) c.start (λ next e. (c.lies.next next e).0)

-- a WebSocket has no complete answer
complete_plain : (setting : Setting) (past : List ParsedStep) → Legal setting past → is_complete (steps past) ≡ true → accepted (steps past) ≡ None
complete_plain setting past l complete = go (accepted (steps past)) refl
  where
    go : (o : Option ℕ) → accepted (steps past) ≡ o → accepted (steps past) ≡ None
    go None e = e
    go (Some limit) e =
        let w = (orderly setting past l).upgraded (ap is_some e) in
        absurd (true≢false (sym complete ∙ w.incomplete))

-- ---- what is left

-- before the step, by the bytes
pub left_before : (setting : Setting) (before : List ParsedStep) (x : ParsedStep) (more : List ℕ) (m n : Message) (h : Head)
    → Grows setting before x more m n h → accepted (steps before) ≡ None
    → rest_of before m h.body ≡ left_at false (is_complete (steps before)) h.body m.body_start (passed before) (taken (steps before))
left_before setting before x more m n h g plain =
    let t = steps before in
    let size = setting.hold_size in
    let is : input_of setting t ≡ input (taken t) None false size = λ i. input (taken t) (plain i) (g.adds.unended i) size in
    let body = subst (λ (k : Input). IsBodyOf k h.body m.body_start m.body) is g.old.body in
    rest_parts before m h.body ∙ ap (λ limit. rest_by (passed before) (taken t) (is_complete t) limit (is_receiving t) m h.body) plain
    ∙ left_is false (is_complete t) (is_receiving t) size (passed before) m h.body (taken t) body (passed_to_end setting before m h g.old)

-- behind the step, from the place that was passed before it
left_behind : (setting : Setting) (before : List ParsedStep) (x : ParsedStep) (more : List ℕ) (m n : Message) (h : Head) (complete receiving : Bool)
    → Grows setting before x more m n h → accepted (steps before) ≡ None
    → rest_by (passed before) (taken (x.step ∷ steps before)) complete None receiving n h.body
    ≡ left_at (has_ended (x.step ∷ steps before)) complete h.body m.body_start (passed before) (taken (x.step ∷ steps before))
left_behind setting before x more m n h complete receiving g plain =
    let t = x.step ∷ steps before in
    let size = setting.hold_size in
    let ended = has_ended t in
    let is : input_of setting t ≡ input (taken t) None ended size = λ i. input (taken t) ((g.adds.accepted ∙ plain) i) ended size in
    let body = subst (λ (k : Input). IsBodyOf k h.body n.body_start n.body) is g.new.body in
    let within = passed_to_end setting (x ∷ before) n h g.new in
    let grows = passed_grows setting before x g.legal in
    left_is ended complete receiving size (passed before) n h.body (taken t) body (omega arith)
    ∙ ap (λ p. left_at ended complete h.body p (passed before) (taken t)) (sym (same_start setting before x more m n h g))

-- of a WebSocket
pub framed_left : (past : List ParsedStep) (m : Message) (kind : BodyKind) (limit : ℕ) → is_raw_kind kind ≡ true → accepted (steps past) ≡ Some limit
    → rest_of past m kind ≡ frames_rest (is_receiving (steps past)) limit
framed_left past m no_body limit raw up = absurd (false≢true raw)
framed_left past m (fixed_body n) limit raw up = absurd (false≢true raw)
framed_left past m chunked_body limit raw up = absurd (false≢true raw)
framed_left past m raw_body limit raw up =
    rest_parts past m raw_body ∙ ap (λ o. rest_by (passed past) (taken (steps past)) (is_complete (steps past)) o (is_receiving (steps past)) m raw_body) up

-- What the machine has of the body before it passes it: what is left by the longer bytes, or by frames.
pub record IsLeft (before : List ParsedStep) (x : ParsedStep) (m : Message) (h : Head) (rest : Rest) : Type 0 where
  pub plain : accepted (steps before) ≡ None
      → rest
      ≡ left_at (has_ended (x.step ∷ steps before)) (is_complete (steps before)) h.body m.body_start (passed before) (taken (x.step ∷ steps before))
  pub framed : (limit : ℕ) → accepted (steps before) ≡ Some limit → rest ≡ frames_rest (is_receiving (steps before)) limit

-- while the answer isn't complete it is what is left behind the step
left_open : (setting : Setting) (before : List ParsedStep) (x : ParsedStep) (more : List ℕ) (m n : Message) (h : Head) (rest : Rest)
    → Grows setting before x more m n h → IsLeft before x m h rest → is_complete (steps before) ≡ false → rest ≡ rest_of (x ∷ before) n h.body
left_open setting before x more m n h rest g left answering = go (accepted (steps before)) refl
  where
    go : (o : Option ℕ) → accepted (steps before) ≡ o → rest ≡ rest_of (x ∷ before) n h.body
    go None e =
        let t = x.step ∷ steps before in
        let place = passed_same setting before x more m n h g answering in
        left.plain e ∙ sym (left_behind setting before x more m n h (is_complete (steps before)) (is_receiving t) g e)
        ∙ (λ i. rest_by (sym place i) (taken t) (sym g.adds.complete i) (sym (g.adds.accepted ∙ e) i) (is_receiving t) n h.body)
        ∙ sym (rest_parts (x ∷ before) n h.body)
    go (Some limit) e =
        let raw = raw_head before h (orderly setting before g.legal.3) (ap is_some e) g.old.request_is in
        left.framed limit e ∙ ap (λ u. frames_rest u limit) (sym g.adds.receiving) ∙ sym (framed_left (x ∷ before) n h.body limit raw (g.adds.accepted ∙ e))

-- where it is complete it is passed
left_passed : (setting : Setting) (before : List ParsedStep) (x : ParsedStep) (more : List ℕ) (m n : Message) (h : Head) (rest : Rest)
    → Grows setting before x more m n h → IsLeft before x m h rest → is_complete (steps before) ≡ true
    → pass_rest (has_ended (x.step ∷ steps before)) rest (drop (passed before) (taken (x.step ∷ steps before)))
    ≡ record { rest = rest_of (x ∷ before) n h.body; unread = drop (passed (x ∷ before)) (taken (x.step ∷ steps before)) }
left_passed setting before x more m n h rest g left complete =
    let t = x.step ∷ steps before in
    let plain = complete_plain setting before g.legal.3 complete in
    let complete' = g.adds.complete ∙ complete in
    let is = left.plain plain ∙ sym (left_behind setting before x more m n h (is_complete (steps before)) (is_receiving t) g plain) in
    let grows = passed_grows setting before x g.legal in
    let start = same_start setting before x more m n h g in
    let begun : n.body_start ≤ passed before = omega (arith, passed_end setting before m h g.old complete, end_behind setting before m h g.old) in
    let within : passed before ≤ length (taken t) = omega (arith, g.new.passed_within) in
    let before_next : (next : ℕ) → next_start n.body ≡ Some next → passed before ≤ next = λ next e.
    let end = passed_end setting (x ∷ before) n h g.new complete' ∙ ap (λ o. unwrap_or o (length (taken t))) e in omega arith in
    ap (λ r. pass_rest (has_ended t) r (drop (passed before) (taken t))) is
    ∙ passing_of setting (x ∷ before) n h (passed before) (is_complete (steps before)) (is_receiving t) g.new complete' (g.adds.accepted ∙ plain) begun within before_next

-- ---- the machine

-- the answer is complete where the trace says so
replied : (setting : Setting) (past : List ParsedStep) (h : Head) → Orderly (steps past)
    → is_answered (reply_of setting (steps past) h (answer_of (steps past))) ≡ is_complete (steps past)
replied setting past h o = go (answer_of (steps past)) (is_complete (steps past)) refl refl
  where
    go : (a : Option Answered) (complete : Bool) → answer_of (steps past) ≡ a → is_complete (steps past) ≡ complete
        → is_answered (reply_of setting (steps past) h a) ≡ is_complete (steps past)
    go None true e c = absurd (false≢true (sym (ap is_some e) ∙ o.complete c))
    go None false e c = sym c
    go (Some a) true e c = rw c refl
    go (Some a) false e c = rw c refl

-- with no request nothing is passed
pub passing-none : (k : Kept) → passing (record k { exchange = None }) ≡ record k { exchange = None }
unfolding passing
passing-none k = refl

-- nor where its answer isn't complete
passing-by : (k : Kept) (x : Exchange) (reply : Reply) → is_answered reply ≡ false
    → passing (record k { exchange = Some (record x { reply = reply }) }) ≡ record k { exchange = Some (record x { reply = reply }) }
unfolding passing
passing-by k x unanswered e = refl
passing-by k x (sending shape kind missing) e = refl
passing-by k x (answered kind) e = absurd (true≢false e)

-- and where it is, the rest of its body
passing-answered : (k : Kept) (x : Exchange) (reply : Reply) → is_answered reply ≡ true
    → passing (record k { exchange = Some (record x { reply = reply }) })
    ≡ record k {
      unread = (pass_rest k.has_ended x.rest k.unread).unread;
      exchange = Some (record x { reply = reply; rest = (pass_rest k.has_ended x.rest k.unread).rest });
    }
unfolding passing
passing-answered k x unanswered e = absurd (false≢true e)
passing-answered k x (sending shape kind missing) e = absurd (false≢true e)
passing-answered k x (answered kind) e = refl

-- What is kept before the step, with the bytes, the input's end and what is left of the body as given.
abbrev pub kept_with : Setting → List ParsedStep → Message → Head → Bool → List ℕ → Rest → Kept
kept_with setting before m h ended unread rest =
    record (kept_of setting before) {
      unread = unread;
      has_ended = ended;
      exchange = Some (record (exchange_with setting before m h) { rest = rest });
    }

-- The machine has behind the step what is left then.
pub passing_grown : (setting : Setting) (before : List ParsedStep) (x : ParsedStep) (more : List ℕ) (m n : Message) (h : Head) (rest : Rest)
    → Grows setting before x more m n h → IsLeft before x m h rest
    → passing (kept_with setting before m h (has_ended (x.step ∷ steps before)) (drop (passed before) (taken (x.step ∷ steps before))) rest)
    ≡ kept_with setting before m h (has_ended (x.step ∷ steps before)) (drop (passed (x ∷ before)) (taken (x.step ∷ steps before))) (rest_of (x ∷ before) n h.body)
passing_grown setting before x more m n h rest g left =
    let t = x.step ∷ steps before in
    let ended = has_ended t in
    let unread = drop (passed before) (taken t) in
    let k = kept_with setting before m h ended unread rest in
    let e = record (exchange_with setting before m h) { rest = rest } in
    let reply = replied setting before h (orderly setting before g.legal.3) in
    elim (cases_Bool (is_complete (steps before))) [
      | inl complete ↦
          let behind = left_passed setting before x more m n h rest g left complete in
          passing-answered k e e.reply (reply ∙ complete)
          ∙ ap (λ (p : Passed). kept_with setting before m h ended p.unread p.rest) behind
      | inr answering ↦
          let same = left_open setting before x more m n h rest g left answering in
          let place = passed_same setting before x more m n h g answering in
          passing-by k e e.reply (reply ∙ answering) ∙ (λ i. kept_with setting before m h ended (drop (sym place i) (taken t)) (same i))
    ]

-- ---- with a request, and without one

-- the current message grows
pub grows_of : (setting : Setting) (before : List ParsedStep) (x : ParsedStep) (more : List ℕ) (m : Message) (h : Head) → Legal setting (x ∷ before)
    → Adds before x.step more → Current setting before m h → (n : Message) × Grows setting before x more m n h
grows_of setting before x more m h l a c =
    let n = current_stays setting before x m l a.idle.head c.current_is in
    let d = current_with setting (x ∷ before) n.0 l n.1 in
    let same = same_Some d.0 h (sym d.1.request_is ∙ request-more x.step (steps before) a.idle.head ∙ c.request_is) in
    (n.0, record { legal = l; adds = a; old = c; new = subst (λ g. Current setting (x ∷ before) n.0 g) same d.1 })

-- there is none behind the step either
pub none_behind : (before : List ParsedStep) (x : ParsedStep) (more : List ℕ) → Adds before x.step more → NoCurrent before
    → (current (x ∷ before) ≡ None) × (passed (x ∷ before) ≡ 0)
none_behind before x more a none =
    let gone = current_none (x ∷ before) (head_count-more x.step (steps before) a.idle.head ∙ none.count) in
    (gone, passed_none (x ∷ before) gone)

-- all but the bytes, the input's end and the last request stays
plain_parts : (setting : Setting) (before : List ParsedStep) (x : ParsedStep) (more unread : List ℕ) (exchange : Option Exchange)
    → Adds before x.step more
    → IsPlain setting before x.step → unread ≡ drop (passed (x ∷ before)) (taken (x.step ∷ steps before))
    → exchange ≡ exchange_of setting (x ∷ before) (current (x ∷ before)) (request (x.step ∷ steps before))
    → bare (record (kept_of setting before) { unread = unread; has_ended = has_ended (x.step ∷ steps before); exchange = exchange })
    ≡ bare (kept_of setting (x ∷ before))
plain_parts setting before x more unread exchange a p e g =
    let k = kept_of setting before in
    aside_parts setting before x unread k.is_over exchange k.buffered k.failed p.aside a.idle.head e (sym (ap (λ b. b || k.is_over) p.over)) g
    (sym p.buffers) (sym (ap (λ o. option_or o k.failed) p.tells))

-- what is kept before the step, where no head was handed out, is so behind it
pub parts-none : (setting : Setting) (before : List ParsedStep) (x : ParsedStep) (more : List ℕ) → Adds before x.step more
    → IsPlain setting before x.step
    → NoCurrent before
    → bare (record (kept_of setting before) {
      unread = drop (passed before) (taken (x.step ∷ steps before));
      has_ended = has_ended (x.step ∷ steps before);
      exchange = None;
    }) ≡ bare (kept_of setting (x ∷ before))
parts-none setting before x more a plain none =
    let t = x.step ∷ steps before in
    let behind = none_behind before x more a none in
    let place = none.passed_is ∙ sym behind.1 in
    let gone = ap (λ o. exchange_of setting (x ∷ before) o (request t)) behind.0 in
    plain_parts setting before x more (drop (passed before) (taken t)) None a plain (λ i. drop (place i) (taken t)) (sym gone)

-- and so it is of a request
pub parts-some : (setting : Setting) (before : List ParsedStep) (x : ParsedStep) (more : List ℕ) (m n : Message) (h : Head)
    → Grows setting before x more m n h → IsPlain setting before x.step
    → bare (kept_with setting before m h (has_ended (x.step ∷ steps before)) (drop (passed (x ∷ before)) (taken (x.step ∷ steps before))) (rest_of (x ∷ before) n h.body))
    ≡ bare (kept_of setting (x ∷ before))
parts-some setting before x more m n h g plain =
    let t = x.step ∷ steps before in
    let unread = drop (passed (x ∷ before)) (taken t) in
    let rest = rest_of (x ∷ before) n h.body in
    let idle = g.adds.idle in
    let there = ap Some (exchange-unpulled setting before x m n h idle.head plain.aside idle.pull)
    ∙ sym (λ i. exchange_of setting (x ∷ before) (g.new.current_is i) (g.new.request_is i)) in
    plain_parts setting before x more unread (Some (record (exchange_with setting before m h) { rest = rest })) g.adds plain refl there
