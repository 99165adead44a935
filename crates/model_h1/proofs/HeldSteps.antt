-- How a step that hands out, pulls, reads or ends the input carries what is passed of the current message.
use Rattle.std.proofs.Common.{◌≡◌, ℕ, zero, suc, ◌≤◌, Bool, true, false, List, [], ◌∷◌, ◌++◌, length, Option, Some, None, ◌⊎◌, refl, sym, ap, ◌∙◌, subst, subst₂, inl, inr, arith, append-nil, length-append}
use Rattle.std.specs.Prelude.{unwrap_or, slice_get}
use Rattle.std.specs.Option.{option_or}
use Rattle.std.proofs.lemmas.Option.{same_Some, slice_get_within}
use Rattle.std.proofs.lemmas.Bool.{cases_Bool}
use Rattle.model_h1.specs.Setting.{Setting}
use Rattle.model_h1.specs.Request.{Header}
use Rattle.model_h1.specs.Frame.{ProtocolError}
use Rattle.model_h1.specs.FrameText.{PlacedFrame}
use Rattle.model_h1.specs.Runs.{Run}
use Rattle.model_h1.specs.Parse.{Input, Message, Body, no_content, content, frames, Stop, ended_at, still_open, broken, cut, next_start, IsBodyAfter, IsParse}
use Rattle.model_h1.specs.Event as on
use Rattle.model_h1.specs.Sums.{Step, step_taken, taken, is_pull, is_eof, accepted_limit, accepted, head_of, is_complete}
use Rattle.model_h1.specs.Past.{ParsedStep, steps, input_of, parse_of, head_count, current, step_bytes, step_frames, given_bytes, given_frames, pulled_to, passed}
use Rattle.model_h1.specs.OutcomeTable.{run_left, gave_trailers, ended_outcome, run_outcome, frame_outcome, body_outcome, pull_outcome}
use Rattle.model_h1.proofs.MessageGrowth.{parse_grows}
use Rattle.model_h1.proofs.BodyLemmas.{input}
use Rattle.model_h1.proofs.PlaceLemmas.{get_before}
use Rattle.model_h1.proofs.BodySteps.{Moves, body_moves, Lies, chunks_unframed}
use Rattle.model_h1.proofs.PastLemmas.{Legal}
use Rattle.model_h1.proofs.StepLemmas.{step, taken-cons, accepted-cons, head_count-head, given_bytes-head, given_frames-head, complete-head, Quiet, Reads, Ends, Accepts, Begins, Pulls, quiet, reads, stops, accepts, begins, pulls, step_case, parsed, same_input, same_parse}
use Rattle.model_h1.proofs.TraceGrowth.{IsParsed, message_at, message_behind, grown_at, current_at, current_none}
use Rattle.model_h1.proofs.PulledLemmas.{Grown, Holds, longer_holds, Idle, idle_pulled, idle_holds, pulled_grows, grown_holds, fresh_holds, pulled_to-head, fit-head}
use Rattle.model_h1.proofs.PullSteps.{body_pulled}
use Rattle.model_h1.proofs.CarriedLemmas.{passed_none, passed_some, end_of, passed_complete, passed_pulled, Sound, Advance, Result, carry}

-- ---- idle steps

-- all but a head and a pull
pub quiet_idle : (before : List ParsedStep) (s : Step) → Quiet before s → Idle s
quiet_idle before s q = record { pull = q.pull; head = q.head; bytes = q.bytes; frames = q.frames }

-- a step that reads
pub reads_idle : (setting : Setting) (before : List ParsedStep) (s : Step) → Reads setting before s → Idle s
reads_idle setting before s r =
    record { pull = ap is_pull r.event; head = ap head_of r.outcome; bytes = ap step_bytes r.outcome; frames = ap step_frames r.outcome }

-- one that ends the input
pub ends_idle : (before : List ParsedStep) (s : Step) → Ends before s → Idle s
ends_idle before s e =
    record { pull = ap is_pull e.event; head = ap head_of e.outcome; bytes = ap step_bytes e.outcome; frames = ap step_frames e.outcome }

-- one that accepts a WebSocket
pub accepts_idle : (before : List ParsedStep) (s : Step) → Accepts before s → Idle s
accepts_idle before s a =
    record { pull = ap is_pull a.event; head = ap head_of a.outcome; bytes = ap step_bytes a.outcome; frames = ap step_frames a.outcome }

-- ---- steps that leave the parse

-- a message advances to itself by an idle step that takes nothing
idle_advance : (before : List ParsedStep) (x : ParsedStep) (m : Message) → Idle x.step → step_taken x.step.event x.step.outcome ≡ []
    → Holds (length (taken (steps before))) m (steps before) → Advance before x m m
idle_advance before x m idle none holds =
    let len : length (taken (x.step ∷ steps before)) ≡ length (taken (steps before)) =
    ap length (taken-cons x.step (steps before) ∙ ap (λ t. taken (steps before) ++ t) none ∙ append-nil (taken (steps before))) in
    let place = idle_pulled m x.step (steps before) idle in
    record {
      holds = subst (λ l. Holds l m (x.step ∷ steps before)) (sym len) (idle_holds (length (taken (steps before))) m x.step (steps before) idle holds);
      pulled = omega arith;
      ended = λ _. subst (λ l. end_of (length (taken (steps before))) m.body ≤ end_of l m.body) (sym len) (omega arith);
    }

-- a quiet step
pub quiet_step : (setting : Setting) (before : List ParsedStep) (x : ParsedStep) → Quiet before x.step
    → IsParse (input_of setting (x.step ∷ steps before)) x.parse
    → IsParse (input_of setting (steps before)) (parse_of before) → Sound before → Result before x
quiet_step setting before x q here there s =
    let same = same_parse setting x before (same_input setting x.step (steps before) q.taken q.eof q.accepted) here there in
    let idle = quiet_idle before x.step q in
    carry before x (head_count (steps before)) refl q.head s
    (λ k m at now. (m, ap (λ (l : List Message). slice_get l k) same ∙ at, idle_advance before x m idle q.taken (s.holds m now)))

-- a pull hands out no head
ended_no_head : (given : Bool) (lines : List Header) → head_of (ended_outcome given lines) ≡ None
ended_no_head given [] = refl
ended_no_head true (line ∷ more) = refl
ended_no_head false (line ∷ more) = refl

-- what a pull gives of runs is no head
run_no_head : (trace : List Step) (stop : Stop) (left : Option Run) → head_of (run_outcome trace stop left) ≡ None
run_no_head trace stop (Some r) = refl
run_no_head trace (ended_at place trailers) None = ended_no_head (gave_trailers trace) trailers
run_no_head trace still_open None = refl
run_no_head trace broken None = refl
run_no_head trace cut None = refl

-- nor what it gives of frames
frame_no_head : (fail : Option ProtocolError) (next : Option PlacedFrame) → head_of (frame_outcome fail next) ≡ None
frame_no_head fail (Some f) = refl
frame_no_head (Some e) None = refl
frame_no_head None None = refl

-- nor of any body
body_no_head : (trace : List Step) (b : Body) → head_of (body_outcome trace b) ≡ None
body_no_head trace no_content = refl
body_no_head trace (content runs stop) = run_no_head trace stop (run_left (given_bytes trace) runs)
body_no_head trace (frames placed fail) = frame_no_head fail (slice_get placed (given_frames trace))

-- so that a pull hands out no head
pub pull_no_head : (trace : List Step) (m : Option Message) → head_of (pull_outcome trace m) ≡ None
pull_no_head trace None = refl
pull_no_head trace (Some m) = body_no_head trace m.body

-- A step hands out no head, or that of the message that is to come.
pub headless_or_begins : (setting : Setting) (before : List ParsedStep) (x : ParsedStep) → Legal setting (x ∷ before)
    → (head_of x.step.outcome ≡ None) ⊎ Begins before x.step
headless_or_begins setting before x l = elim (step_case setting before x.step.event x.step.outcome l.1 l.2) [
  | quiet q ↦ inl q.head
  | reads r ↦ inl (ap head_of r.outcome)
  | stops r ↦ inl (ap head_of r.outcome)
  | accepts a ↦ inl (ap head_of a.outcome)
  | begins b ↦ inr b
  | pulls p ↦ inl (ap head_of p.outcome ∙ pull_no_head (steps before) (current before))
]

-- a message advances by a pull
pull_advance : (setting : Setting) (before : List ParsedStep) (x : ParsedStep) (m : Message) → x.step.event ≡ on.pull
    → x.step.outcome ≡ body_outcome (steps before) m.body
    → IsParsed (input_of setting (steps before)) m → Holds (length (taken (steps before))) m (steps before) → Advance before x m m
pull_advance setting before x m event outcome parsed holds =
    let o = body_outcome (steps before) m.body in
    let is : step on.pull o ≡ x.step = λ i. record { event = sym event i; outcome = sym outcome i } in
    let p = body_pulled m.reading m.body_start m.body (steps before)
    (chunks_unframed (input_of setting (steps before)) m.reading m.body_start m.body parsed.body) parsed.lies holds in
    let none : step_taken x.step.event x.step.outcome ≡ [] = ap (λ e. step_taken e x.step.outcome) event in
    let len : length (taken (x.step ∷ steps before)) ≡ length (taken (steps before)) =
    ap length (taken-cons x.step (steps before) ∙ ap (λ t. taken (steps before) ++ t) none ∙ append-nil (taken (steps before))) in
    record {
      holds = subst₂ (λ l t. Holds l m (t ∷ steps before)) (sym len) is p.holds;
      pulled = subst (λ t. pulled_to m (steps before) ≤ pulled_to m (t ∷ steps before)) is p.passes;
      ended = λ _. subst (λ l. end_of (length (taken (steps before))) m.body ≤ end_of l m.body) (sym len) (omega arith);
    }

-- a pull
pub pull_step : (setting : Setting) (before : List ParsedStep) (x : ParsedStep) → Pulls before x.step
    → IsParse (input_of setting (x.step ∷ steps before)) x.parse
    → IsParse (input_of setting (steps before)) (parse_of before) → Sound before → Result before x
pull_step setting before x p here there s =
    let i = input_of setting (steps before) in
    let none : step_taken x.step.event x.step.outcome ≡ [] = ap (λ e. step_taken e x.step.outcome) p.event in
    let unaccepted = ap (λ e. accepted_limit e x.step.outcome) p.event in
    let same = same_parse setting x before (same_input setting x.step (steps before) none (ap is_eof p.event) unaccepted) here there in
    carry before x (head_count (steps before)) refl (ap head_of p.outcome ∙ pull_no_head (steps before) (current before)) s
    (λ k m at now. (
      m,
      ap (λ (l : List Message). slice_get l k) same ∙ at,
      pull_advance setting before x m p.event (p.outcome ∙ ap (pull_outcome (steps before)) now)
          (message_at i 0 (parse_of before) k m there (omega arith) at) (s.holds m now),
    ))

-- what is passed lies in front of the body of the message that is to come
head_behind : (setting : Setting) (before : List ParsedStep) (n : Message) (count : ℕ) → head_count (steps before) ≡ count
    → IsParse (input_of setting (steps before)) (parse_of before)
    → slice_get (parse_of before) count ≡ Some n → Sound before → passed before ≤ n.body_start
head_behind setting before n zero e there at s = let none = passed_none before (current_none before e) in omega arith
head_behind setting before n (suc k) e there at s =
    let i = input_of setting (steps before) in
    let m = get_before (parse_of before) k (omega (arith, s.count)) in
    let here = current_at before k e ∙ m.1 in
    let behind = message_behind i 0 (parse_of before) k m.0 n there m.1 at in
    let start = behind.2.body_start in
    let place : behind.0 ≤ n.body_start = omega arith in
    let holds = s.holds m.0 here in
    subst (λ p. p ≤ n.body_start) (sym (passed_some before m.0 here))
    (elim (cases_Bool (is_complete (steps before))) [
      | inl complete ↦
          let end = ap (λ o. unwrap_or o (length (taken (steps before)))) behind.1 in
          subst (λ p. p ≤ n.body_start) (sym (passed_complete before m.0 complete ∙ end)) place
      | inr answering ↦ subst (λ p. p ≤ n.body_start) (sym (passed_pulled before m.0 answering)) (omega (arith, holds.before_next behind.0 behind.1))
    ])

-- a head is handed out
pub head_step : (setting : Setting) (before : List ParsedStep) (x : ParsedStep) → Begins before x.step
    → IsParse (input_of setting (x.step ∷ steps before)) x.parse
    → IsParse (input_of setting (steps before)) (parse_of before) → Sound before → Result before x
head_step setting before x b here there s =
    let i = input_of setting (steps before) in
    let n = head_count (steps before) in
    let m = b.message in
    let none : step_taken x.step.event x.step.outcome ≡ [] = ap (λ e. step_taken e x.step.outcome) b.event in
    let unaccepted = ap (λ e. accepted_limit e x.step.outcome) b.event in
    let same = same_parse setting x before (same_input setting x.step (steps before) none (ap is_eof b.event) unaccepted) here there in
    let at : slice_get x.parse n ≡ Some m = ap (λ (l : List Message). slice_get l n) same ∙ b.upcoming_is in
    let some : head_of x.step.outcome ≡ Some b.head = ap head_of b.outcome in
    let count = head_count-head x.step (steps before) b.head some in
    let now = current_at (x ∷ before) n count ∙ at in
    let within = slice_get_within x.parse n m at in
    let lies = (message_at (input_of setting (x.step ∷ steps before)) 0 x.parse n m here (omega arith) at).lies in
    let place = pulled_to-head m x.step (steps before) b.head some in
    let holds = fresh_holds (length (taken (x.step ∷ steps before))) m (x.step ∷ steps before) lies place
    (given_bytes-head x.step (steps before) b.head some) (given_frames-head x.step (steps before) b.head some) (fit-head m x.step (steps before) b.head some) in
    let after = passed_some (x ∷ before) m now ∙ passed_pulled (x ∷ before) m (complete-head x.step (steps before) b.head some) ∙ place in
    let upto = head_behind setting before m n refl there b.upcoming_is s in (
      record {
        count = omega arith;
        holds = λ p q. subst (λ r. Holds (length (taken (x.step ∷ steps before))) r (x.step ∷ steps before)) (same_Some m p (sym now ∙ q)) holds;
      },
      omega arith,
    )

-- ---- steps by which the parse grows

-- the message in the same place of the grown parse
grows_at : (i j : Input) (more : List ℕ) (ms ns : List Message) (k : ℕ) (m : Message) → j.bytes ≡ i.bytes ++ more → j.upgraded ≡ i.upgraded
    → j.hold_size ≡ i.hold_size → i.ended ≡ false → IsParse i ms → IsParse j ns → slice_get ms k ≡ Some m
    → (n : Message) × (slice_get ns k ≡ Some n) × (m.reading ≡ n.reading) × (m.body_start ≡ n.body_start) × Moves (length i.bytes) m.body n.body × IsParsed j n
grows_at i j more ms ns k m bytes upgraded size ended x y at =
    let n = grown_at i.bytes j.bytes ms ns k m (parse_grows i j more ms ns bytes upgraded size ended x y) at in
    let old = message_at i 0 ms k m x (omega arith) at in
    let new = message_at j 0 ns k n.0 y (omega arith) n.1 in
    let a = subst (λ e. IsBodyAfter (input i.bytes i.upgraded e i.hold_size) m.reading m.body_start m.body) ended old.body in
    let is : j ≡ input (i.bytes ++ more) i.upgraded j.ended i.hold_size = λ k. input (bytes k) (upgraded k) j.ended (size k) in
    let b = subst (λ (l : Input). IsBodyAfter l n.0.reading n.0.body_start n.0.body) is new.body in
    let b' = subst₂ (λ r p. IsBodyAfter (input (i.bytes ++ more) i.upgraded j.ended i.hold_size) r p n.0.body) (sym n.2.reading) (sym n.2.body_start) b in
    let moves = body_moves i.bytes more i.upgraded j.ended i.hold_size m.reading m.body_start m.body n.0.body old.lies.start a b' in
    (n.0, n.1, n.2.reading, n.2.body_start, moves, new)

-- what holds of a message holds of the grown one, and pulls pass as much of it
grown_message : (len longer : ℕ) (m n : Message) (trace : List Step) → m.reading ≡ n.reading → m.body_start ≡ n.body_start → Moves len m.body n.body
    → Lies longer n.body_start n.body → Holds len m trace → Holds len n trace × (pulled_to m trace ≡ pulled_to n trace)
grown_message len longer m n trace reading start (inl same) lies holds =
    let is : m ≡ n = λ i. record { reading = reading i; body_start = start i; body = same i } in
    (subst (λ p. Holds len p trace) is holds, ap (λ p. pulled_to p trace) is)
grown_message len longer m n trace reading start (inr opened) lies holds =
    let g : Grown len m n = record { reading = reading; body_start = start; body = opened } in
    (grown_holds len longer m n trace g lies holds, (pulled_grows len n.body_start longer m n trace g lies.runs holds.pulls_fit).0)

-- a body that was open ends no sooner
end_later : (len longer : ℕ) (o : Option ℕ) → len ≤ longer → ((place : ℕ) → o ≡ Some place → len ≤ place) → len ≤ unwrap_or o longer
end_later len longer None less later = less
end_later len longer (Some place) less later = later place refl

-- one that had ended has the same end
same_end : (len longer : ℕ) (o : Option ℕ) → len ≤ longer → unwrap_or o len ≤ unwrap_or o longer
same_end len longer None less = less
same_end len longer (Some place) less = omega arith

-- a body ends no sooner when it grows
grown_end : (len longer : ℕ) (a b : Body) → Moves len a b → len ≤ longer → end_of len a ≤ end_of longer b
grown_end len longer a b (inl same) less =
    subst (λ (c : Body). end_of len a ≤ end_of longer c) same (same_end len longer (next_start a) less)
grown_end len longer a b (inr opened) less =
    subst (λ o. unwrap_or o len ≤ end_of longer b) (sym opened.next) (end_later len longer (next_start b) less opened.later)

-- a message advances by an idle step, as the parse grows
grown_advance : (setting : Setting) (before : List ParsedStep) (x : ParsedStep) (m n : Message) → Idle x.step → m.reading ≡ n.reading
    → m.body_start ≡ n.body_start
    → Moves (length (taken (steps before))) m.body n.body → IsParsed (input_of setting (x.step ∷ steps before)) n
    → length (taken (steps before)) ≤ length (taken (x.step ∷ steps before)) → Holds (length (taken (steps before))) m (steps before)
    → Advance before x m n
grown_advance setting before x m n idle reading start body parsed less holds =
    let len = length (taken (steps before)) in
    let longer = length (taken (x.step ∷ steps before)) in
    let moved = grown_message len longer m n (steps before) reading start body parsed.lies holds in
    let place = idle_pulled n x.step (steps before) idle in
    record {
      holds = longer_holds len longer n (x.step ∷ steps before) less (idle_holds len n x.step (steps before) idle moved.0);
      pulled = omega (arith, moved.1);
      ended = λ _. grown_end len longer m.body n.body body less;
    }

-- bytes are read
pub read_step : (setting : Setting) (before : List ParsedStep) (x : ParsedStep) → Reads setting before x.step
    → IsParse (input_of setting (x.step ∷ steps before)) x.parse
    → IsParse (input_of setting (steps before)) (parse_of before) → Sound before → Result before x
read_step setting before x r here there s =
    let i = input_of setting (steps before) in
    let j = input_of setting (x.step ∷ steps before) in
    let more = step_taken x.step.event x.step.outcome in
    let bytes = taken-cons x.step (steps before) in
    let upgraded : j.upgraded ≡ i.upgraded =
    accepted-cons x.step (steps before) ∙ ap (λ e. option_or (accepted_limit e x.step.outcome) (accepted (steps before))) r.event in
    let idle = reads_idle setting before x.step r in
    let len = ap length bytes ∙ length-append (taken (steps before)) more in
    carry before x (head_count (steps before)) refl idle.head s
    (λ k m at now.
    let n = grows_at i j more (parse_of before) x.parse k m bytes upgraded refl r.unended there here at in
    (n.0, n.1, grown_advance setting before x m n.0 idle n.2 n.3 n.4 n.5 (omega arith) (s.holds m now)))

-- the input ends
pub end_step : (setting : Setting) (before : List ParsedStep) (x : ParsedStep) → Ends before x.step
    → IsParse (input_of setting (x.step ∷ steps before)) x.parse
    → IsParse (input_of setting (steps before)) (parse_of before) → Sound before → Result before x
end_step setting before x r here there s =
    let i = input_of setting (steps before) in
    let j = input_of setting (x.step ∷ steps before) in
    let none : step_taken x.step.event x.step.outcome ≡ [] = ap (λ e. step_taken e x.step.outcome) r.event in
    let bytes : j.bytes ≡ i.bytes ++ [] = taken-cons x.step (steps before) ∙ ap (λ t. taken (steps before) ++ t) none in
    let upgraded : j.upgraded ≡ i.upgraded =
    accepted-cons x.step (steps before) ∙ ap (λ e. option_or (accepted_limit e x.step.outcome) (accepted (steps before))) r.event in
    let idle = ends_idle before x.step r in
    let len = ap length bytes ∙ length-append (taken (steps before)) [] in
    carry before x (head_count (steps before)) refl idle.head s
    (λ k m at now.
    let n = grows_at i j [] (parse_of before) x.parse k m bytes upgraded refl r.unended there here at in
    (n.0, n.1, grown_advance setting before x m n.0 idle n.2 n.3 n.4 n.5 (omega arith) (s.holds m now)))
