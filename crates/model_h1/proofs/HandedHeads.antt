-- What Next adds to what was handed out.
use Rattle.std.proofs.Common.{◌≡◌, ℕ, suc, ◌-◌, ◌<◌, true, false, List, [], ◌∷◌, ◌++◌, length, take, drop, reverse, Option, Some, None, is_some, unwrap_or, refl, sym, ap, ◌∙◌, subst, subst₂, inl, inr, arith, length-drop}
use Rattle.std.specs.Prelude.{◌==◌, slice_get}
use Rattle.std.proofs.lemmas.Bool.{cond-true, cond-false, cases_Bool, eqb-true, and_cases, or_parts, not-false, true≢false}
use Rattle.std.proofs.lemmas.List.{take_all, length-reverse, nil_from_length}
use Rattle.std.proofs.lemmas.Option.{slice_get_within}
use Rattle.model_h1.specs.HeadPiece.{HasNoHeadPiece}
use Rattle.model_h1.specs.Request.{Head, Fault, too_large, Reading, head_is, faulty}
use Rattle.model_h1.specs.Setting.{Setting}
use Rattle.model_h1.specs.Parse.{Input, Message, next_start, IsParse}
use Rattle.model_h1.specs.Event as on
use Rattle.model_h1.specs.Sums.{Step, step_taken, taken, is_eof, is_pull, accepted_limit, is_upgraded, head_of, completes, is_complete, is_open, request}
use Rattle.model_h1.specs.Handed.{Handed, HandedOut, newly_handed, with_message, handing, marking_answered, handed_out, IsPrefixFrom, IsPrefixOf}
use Rattle.model_h1.specs.Past.{ParsedStep, steps, input_of, parse_of, head_count, current, upcoming, held}
use Rattle.model_h1.specs.Closing.{told_end, fault_end}
use Rattle.model_h1.specs.OutcomeTable.{head_outcome, upcoming_outcome}
use Rattle.model_h1.proofs.StepLemmas.{head_count-head, complete-head, same_input, same_parse}
use Rattle.model_h1.proofs.TraceGrowth.{message_behind, current_at, current_none}
use Rattle.model_h1.proofs.HandedPrefix.{Ended, reverse_push, ended_push, prefix_last, prefix_over, end_of, past_end, end_at, nothing_behind}
use Rattle.model_h1.proofs.HandedTrace.{handed_out-cons, request-head, upgraded-more, told-here, is_silent, silent_opening, Other, Comes}
use Rattle.model_h1.proofs.HandedCounts.{counts_head}
use Rattle.model_h1.proofs.HandedSteps.{only, Running, Empty, Sound, nothing, running, failed, behind, newest, still_empty, other_step, untouched_agrees}

-- ---- a new message

-- Next adds to what was handed out, and to nothing else
come_handed : (s : Step) (before : List Step) → s.event ≡ on.next → handed_out (s ∷ before) ≡ handing s.outcome (handed_out before)
come_handed s before event = handed_out-cons s before ∙ ap (λ e. marking_answered (completes e) (handing s.outcome (handed_out before))) event

-- no WebSocket is accepted by it
come_unaccepted : (s : Step) → s.event ≡ on.next → accepted_limit s.event s.outcome ≡ None
come_unaccepted s event = ap (λ e. accepted_limit e s.outcome) event

-- it leaves the bytes, the protocol and the end of the input
come_input : (setting : Setting) (s : Step) (before : List Step) → s.event ≡ on.next → input_of setting (s ∷ before) ≡ input_of setting before
come_input setting s before event =
    same_input setting s before (ap (λ e. step_taken e s.outcome) event) (ap is_eof event) (come_unaccepted s event)

-- Behind a step: Next was asked for, and what was handed out by then are messages that have ended.
record Behind (setting : Setting) (x : ParsedStep) (before : List ParsedStep) (handed : List Handed) : Type 0 where
  new : IsParse (input_of setting (x.step ∷ steps before)) x.parse
  old : IsParse (input_of setting (steps before)) (parse_of before)
  event : x.step.event ≡ on.next
  handed_is : handed_out (steps before) ≡ only handed
  ended : Ended (taken (steps before)) (reverse handed) (parse_of before)
  count : head_count (steps before) ≡ length handed
  plain : is_upgraded (steps before) ≡ false

-- a fault behind them
fault_sound : (setting : Setting) (x : ParsedStep) (before : List ParsedStep) (handed : List Handed) (f : Fault) → Behind setting x before handed
    → x.step.outcome ≡ on.fault f
    → IsPrefixFrom setting.hold_size (taken (steps before)) 0 (reverse handed ++ newly_handed (faulty f) ∷ []) (parse_of before)
    → Sound setting (x ∷ before)
fault_sound setting x before handed f b outcome prefix =
    let s = x.step in
    let trace = steps before in
    let text = taken trace in
    let same = come_input setting s trace b.event in
    let parse = same_parse setting x before same b.new b.old in
    let all : handed_out (s ∷ trace) ≡ only (newly_handed (faulty f) ∷ handed) =
    come_handed s trace b.event ∙ ap (λ o. handing o (handed_out trace)) outcome ∙ ap (with_message (faulty f)) b.handed_is in
    let order = ap (λ (out : HandedOut). reverse out.messages) all ∙ reverse_push (newly_handed (faulty f)) handed in
    let now : IsPrefixOf setting.hold_size text (handed_out (s ∷ trace)) (parse_of before) =
    (ap (λ (out : HandedOut). out.stray) all, subst (λ hs. IsPrefixFrom setting.hold_size text 0 hs (parse_of before)) (sym order) prefix) in
    failed
    (subst₂ (λ (i : Input) ms. IsPrefixOf setting.hold_size i.bytes (handed_out (s ∷ trace)) ms) (sym same) (sym parse) now)
    (told-here s trace (fault_end f) (ap told_end outcome))

-- a head behind them
head_sound : (setting : Setting) (x : ParsedStep) (before : List ParsedStep) (handed : List Handed) (h : Head) (n : Message)
    → Behind setting x before handed → x.step.outcome ≡ on.head h → slice_get (parse_of before) (length handed) ≡ Some n → n.reading ≡ head_is h
    → Sound setting (x ∷ before)
head_sound setting x before handed h n b outcome there reading =
    let s = x.step in
    let trace = steps before in
    let new = newly_handed (head_is h) in
    let same = come_input setting s trace b.event in
    let parse = same_parse setting x before same b.new b.old in
    let all : handed_out (s ∷ trace) ≡ only (new ∷ handed) =
    come_handed s trace b.event ∙ ap (λ o. handing o (handed_out trace)) outcome ∙ ap (with_message (head_is h)) b.handed_is in
    let head : head_of s.outcome ≡ Some h = ap head_of outcome in
    let plain : is_upgraded (s ∷ trace) ≡ false = upgraded-more s trace (come_unaccepted s b.event) ∙ b.plain in
    let now : Running (taken trace) (parse_of before) (s ∷ trace) new handed = record {
      message = n;
      there = there;
      agrees = untouched_agrees (taken trace) new n refl (sym reading);
      older = b.ended;
      count = head_count-head s trace h head ∙ ap suc b.count;
      head = h;
      asked = request-head s trace h head;
      read = refl;
      raw = λ up. absurd (true≢false (sym up ∙ plain));
      counts = counts_head s trace h head;
      answered = sym (complete-head s trace h head);
      untouched = λ none. refl;
    } in
    running new handed all (subst₂ (λ (i : Input) ms. Running i.bytes ms (s ∷ trace) new handed) (sym same) (sym parse) now)

-- the next message, by its reading
message_sound : (setting : Setting) (x : ParsedStep) (before : List ParsedStep) (handed : List Handed) (n : Message) (r : Reading)
    → Behind setting x before handed → x.step.outcome ≡ head_outcome r → slice_get (parse_of before) (length handed) ≡ Some n → n.reading ≡ r
    → Sound setting (x ∷ before)
message_sound setting x before handed n (head_is h) b outcome there reading = head_sound setting x before handed h n b outcome there reading
message_sound setting x before handed n (faulty f) b outcome there reading =
    let text = taken (steps before) in
    let new = newly_handed (faulty f) in
    let here = subst (λ k. slice_get (parse_of before) k ≡ Some n) (sym (length-reverse handed)) there in
    fault_sound setting x before handed f b outcome
    (prefix_last setting.hold_size text 0 (reverse handed) (parse_of before) new n b.ended here (untouched_agrees text new n refl (sym reading)))

-- ---- where no message is to come

-- so many bytes are held of which none begins a whole head
over_sound : (setting : Setting) (x : ParsedStep) (before : List ParsedStep) (handed : List Handed) (end : ℕ) → Behind setting x before handed
    → x.step.outcome ≡ on.fault too_large → length handed ≡ length (parse_of before) → end_of 0 (parse_of before) ≡ end
    → length (taken (steps before)) - end ≡ setting.hold_size → HasNoHeadPiece (drop end (taken (steps before))) → Sound setting (x ∷ before)
over_sound setting x before handed end b outcome count stands many none =
    let text = taken (steps before) in
    let size = setting.hold_size in
    let len = length-drop end text in
    let all : take size (drop end text) ≡ drop end text = take_all size (drop end text) (omega arith) in
    fault_sound setting x before handed too_large b outcome
    (prefix_over size text 0 end (reverse handed) (parse_of before) b.ended (length-reverse handed ∙ count) stands (omega arith)
    (subst HasNoHeadPiece (sym all) none))

-- what is held behind a message whose answer is complete
held_done : (past : List ParsedStep) (m : Message) → current past ≡ Some m → is_complete (steps past) ≡ true
    → held past ≡ length (taken (steps past)) - unwrap_or (next_start m.body) (length (taken (steps past)))
held_done past m e complete = rw (e, complete) refl

-- and before the first message
held_first : (past : List ParsedStep) → current past ≡ None → held past ≡ length (taken (steps past)) - 0
held_first past e = rw e refl

-- where nothing was handed out
first_over : (setting : Setting) (x : ParsedStep) (before : List ParsedStep) → Behind setting x before [] → x.step.outcome ≡ on.fault too_large
    → slice_get (parse_of before) 0 ≡ None → held before ≡ setting.hold_size → Sound setting (x ∷ before)
first_over setting x before b outcome none full =
    let text = taken (steps before) in
    let empty : parse_of before ≡ [] = nil_from_length (parse_of before) (let less = past_end (parse_of before) 0 none in omega arith) in
    let nothing_whole : HasNoHeadPiece (drop 0 text) = subst (IsParse (input_of setting (steps before))) empty b.old in
    over_sound setting x before [] 0 b outcome (sym (ap length empty)) (ap (end_of 0) empty)
    (sym (held_first before (current_none before b.count)) ∙ full) nothing_whole

-- ---- Next, before the first message

-- a step that tells that nothing has come
pending_step : (x : ParsedStep) → x.step.event ≡ on.next → x.step.outcome ≡ on.pending → Other x.step
pending_step x event outcome =
    let s = x.step in
    record {
      taken = ap (λ e. step_taken e s.outcome) event;
      eof = ap is_eof event;
      accepted = come_unaccepted s event;
      pull = ap is_pull event;
      silent = ap is_silent outcome;
    }

-- by what is held, where no message is to come
waits : (setting : Setting) (x : ParsedStep) (before : List ParsedStep) → x.step.outcome ≡ upcoming_outcome setting before None
    → (x.step.outcome ≡ on.fault too_large → held before ≡ setting.hold_size → Sound setting (x ∷ before))
    → (x.step.outcome ≡ on.pending → Sound setting (x ∷ before)) → Sound setting (x ∷ before)
waits setting x before outcome over pends =
    elim (cases_Bool (held before == setting.hold_size)) [
      | inl full ↦ over (outcome ∙ cond-true (held before == setting.hold_size) _ _ full) (eqb-true (held before) setting.hold_size full)
      | inr room ↦ pends (outcome ∙ cond-false (held before == setting.hold_size) _ _ room)
    ]

-- by the message that is to come
first_by : (setting : Setting) (x : ParsedStep) (before : List ParsedStep) (coming : Option Message) → Behind setting x before []
    → request (steps before) ≡ None → upcoming before ≡ coming → x.step.outcome ≡ upcoming_outcome setting before coming → Sound setting (x ∷ before)
first_by setting x before (Some n) b unasked e outcome =
    message_sound setting x before [] n n.reading b outcome (sym (ap (slice_get (parse_of before)) b.count) ∙ e) refl
first_by setting x before None b unasked e outcome =
    let none = sym (ap (slice_get (parse_of before)) b.count) ∙ e in
    waits setting x before outcome (λ fault full. first_over setting x before b fault none full)
    (λ pends.
    let o = pending_step x b.event pends in
    let empty : Empty (steps before) = record { handed = b.handed_is; count = b.count; asked = unasked; upgraded = b.plain } in
    nothing (still_empty x.step (steps before) o.silent o.accepted empty))

-- Next where nothing was handed out
pub first_step : (setting : Setting) (x : ParsedStep) (before : List ParsedStep) → IsParse (input_of setting (x.step ∷ steps before)) x.parse
    → IsParse (input_of setting (steps before)) (parse_of before) → Comes setting before x.step → Empty (steps before) → Sound setting (x ∷ before)
first_step setting x before p q o none =
    let b : Behind setting x before [] = record {
      new = p;
      old = q;
      event = o.event;
      handed_is = none.handed;
      ended = tt;
      count = none.count;
      plain = none.upgraded;
    } in
    first_by setting x before (upcoming before) b none.asked refl o.outcome

-- ---- Next, behind a message

-- Next is allowed behind a complete answer, on a connection that speaks no WebSocket
pub is_done : (trace : List Step) (head : Head) → request trace ≡ Some head → is_open trace ≡ false
    → (is_upgraded trace ≡ false) × (is_complete trace ≡ true)
is_done trace head asked shut =
    elim (and_cases (is_some (request trace)) _ shut) [
      | inl none ↦ absurd (true≢false (sym (ap is_some asked) ∙ none))
      | inr rest ↦ let parts = or_parts _ _ rest in (parts.0, not-false (is_complete trace) parts.1)
    ]

-- A message goes on, its answer is complete, and Next is asked for.
record Done (setting : Setting) (x : ParsedStep) (before : List ParsedStep) (h : Handed) (hs : List Handed) : Type 0 where
  new : IsParse (input_of setting (x.step ∷ steps before)) x.parse
  old : IsParse (input_of setting (steps before)) (parse_of before)
  event : x.step.event ≡ on.next
  handed_is : handed_out (steps before) ≡ only (h ∷ hs)
  newest_is : Running (taken (steps before)) (parse_of before) (steps before) h hs
  complete : is_complete (steps before) ≡ true
  plain : is_upgraded (steps before) ≡ false
  room : 0 < setting.hold_size

-- the messages that have ended, where another one follows or stands at an end
stands_behind : (setting : Setting) (x : ParsedStep) (before : List ParsedStep) (h : Handed) (hs : List Handed) → (d : Done setting x before h hs)
    → (next : ℕ) → next_start d.newest_is.message.body ≡ Some next → Behind setting x before (h ∷ hs)
stands_behind setting x before h hs d next ends =
    let r = d.newest_is in
    let text = taken (steps before) in
    let there = subst (λ k. slice_get (parse_of before) k ≡ Some r.message) (sym (length-reverse hs)) r.there in
    let older = ended_push text (reverse hs) (parse_of before) h r.message r.older there r.agrees (ap is_some ends) (r.answered ∙ d.complete) in
    record {
      new = d.new;
      old = d.old;
      event = d.event;
      handed_is = d.handed_is;
      ended = subst (λ gs. Ended text gs (parse_of before)) (sym (reverse_push h hs)) older;
      count = r.count;
      plain = d.plain;
    }

-- where no message is to come, by where the last one ends
none_by : (setting : Setting) (x : ParsedStep) (before : List ParsedStep) (h : Handed) (hs : List Handed) → (d : Done setting x before h hs)
    → (next : Option ℕ) → next_start d.newest_is.message.body ≡ next → slice_get (parse_of before) (suc (length hs)) ≡ None
    → x.step.outcome ≡ on.fault too_large → held before ≡ setting.hold_size → Sound setting (x ∷ before)
none_by setting x before h hs d None ends none fault full =
    let r = d.newest_is in
    let here = current_at before (length hs) r.count ∙ r.there in
    let len = length (taken (steps before)) in
    let size = held_done before r.message here d.complete ∙ ap (λ o. len - unwrap_or o len) ends in
    absurd (omega (arith, d.room))
none_by setting x before h hs d (Some next) ends none fault full =
    let r = d.newest_is in
    let here = current_at before (length hs) r.count ∙ r.there in
    let len = length (taken (steps before)) in
    let size = held_done before r.message here d.complete ∙ ap (λ o. len - unwrap_or o len) ends in
    let less = past_end (parse_of before) (suc (length hs)) none in
    let more = slice_get_within (parse_of before) (length hs) r.message r.there in
    let all : length (parse_of before) ≡ suc (length hs) = omega arith in
    over_sound setting x before (h ∷ hs) next (stands_behind setting x before h hs d next ends) fault (sym all)
    (end_at 0 (parse_of before) (length hs) r.message next r.there all ends) (sym size ∙ full)
    (nothing_behind (input_of setting (steps before)) 0 (parse_of before) (length hs) r.message next d.old r.there all ends)

-- by the message that is to come
next_by : (setting : Setting) (x : ParsedStep) (before : List ParsedStep) (coming : Option Message) (h : Handed) (hs : List Handed)
    → Done setting x before h hs → slice_get (parse_of before) (suc (length hs)) ≡ coming → x.step.outcome ≡ upcoming_outcome setting before coming
    → Sound setting (x ∷ before)
next_by setting x before (Some n) h hs d e outcome =
    let r = d.newest_is in
    let follows = message_behind (input_of setting (steps before)) 0 (parse_of before) (length hs) r.message n d.old r.there e in
    message_sound setting x before (h ∷ hs) n n.reading (stands_behind setting x before h hs d follows.0 follows.1) outcome e refl
next_by setting x before None h hs d e outcome =
    waits setting x before outcome (none_by setting x before h hs d (next_start d.newest_is.message.body) refl e)
    (λ pends.
    let o = pending_step x d.event pends in
    let same = silent_opening x.step.outcome o.silent in
    running (behind x.step h) hs (newest x.step (steps before) h hs same d.handed_is) (other_step setting x before d.new d.old o h hs d.newest_is))

-- Next behind a message, where bytes may be held
pub next_step : (setting : Setting) (x : ParsedStep) (before : List ParsedStep) → IsParse (input_of setting (x.step ∷ steps before)) x.parse
    → IsParse (input_of setting (steps before)) (parse_of before) → 0 < setting.hold_size → Comes setting before x.step
    → (h : Handed) (hs : List Handed) → handed_out (steps before) ≡ only (h ∷ hs)
    → Running (taken (steps before)) (parse_of before) (steps before) h hs → Sound setting (x ∷ before)
next_step setting x before p q room o h hs handed r =
    let done = is_done (steps before) r.head r.asked o.done in
    let d : Done setting x before h hs = record {
      new = p;
      old = q;
      event = o.event;
      handed_is = handed;
      newest_is = r;
      complete = done.1;
      plain = done.0;
      room = room;
    } in
    next_by setting x before (slice_get (parse_of before) (suc (length hs))) h hs d refl
    (o.outcome ∙ ap (λ k. upcoming_outcome setting before (slice_get (parse_of before) k)) r.count)
