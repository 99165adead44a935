-- What a call gives of the next one's condition.
use Rattle.std.proofs.Common.{◌≡◌, ℕ, ◌-◌, Bool, true, false, not, ◌&&◌, ◌||◌, List, ◌++◌, length, Option, Some, None, refl, sym, ap, ◌∙◌, subst}
use Rattle.std.proofs.lemmas.Bool.{lt-ltb, eqb-true}
use Rattle.std.specs.Prelude.{IsTrue, is_some, ◌==◌, if◌then◌else◌}
use Rattle.http_config.specs.Config.{Settings}
use Rattle.model_h1.specs.Request.{ConnectionType}
use Rattle.model_h1.specs.Setting.{Setting}
use Rattle.model_h1.specs.Answer.{AnswerHead, BodySize, Shape, shape_of, type_of, is_at_once}
use Rattle.model_h1.specs.AnswerText.{interim_text}
use Rattle.model_h1.specs.Text.{answer_head_text}
use Rattle.model_h1.specs.Event as on
use Rattle.model_h1.specs.End.{End}
use Rattle.model_state.specs.Kept.{Rest, no_rest, raw_rest, fixed_rest, chunks_rest, frames_rest, Reply, unanswered, sending, answered, Exchange, Kept, Change, is_frames, is_unanswered, is_sending_body, is_upgraded, now}
use Rattle.model_state.specs.Local.{closing_by, allowed_by, has_body_left, is_answering, is_allowed_running, is_allowed_closing}
use Rattle.model_state.specs.Reply.{stated, answering, completing, piece_sent, sending_piece}
use Rattle.model_state.specs.Change.{IsStep, IsChange, noting_since, doing_with}
use Rattle.h1_connection.specs.EventMeaning.{setting_of}
use Rattle.h1_connection.specs.Parts.{kept_of, Steps}
use Rattle.h1_connection.specs.Given.{frame_allowed, HasOpened}
use Rattle.h1_connection.specs.State.{State, IsAllowed, IsNextAllowed, HasWriteRoom}
use Rattle.h1_connection.specs.declared.connection.parts.Parts.{Parts}
use Rattle.h1_connection.proofs.GoesOnLemmas.{state_of, allowed_parts}

-- ---- the call of its own for the next head

first_true : (a b : Bool) → (a && b) ≡ true → a ≡ true
first_true true b is = refl
first_true false b is = absurd (cc is)

second_true : (a b : Bool) → (a && b) ≡ true → b ≡ true
second_true true b is = is
second_true false b is = absurd (cc is)

written_case : (closes : Bool) (n : ℕ) → (not closes || (n == 0)) ≡ true → closes ≡ true → n ≡ 0
written_case true n is closes = eqb-true n 0 is
written_case false n is closes = absurd (cc closes)

-- the tables allow it
pub next_is_allowed : (now : State) → IsNextAllowed now → IsAllowed now on.next
next_is_allowed now is = first_true (allowed_by (setting_of now.settings) now.kept on.next) _ is

-- and nothing waits to be written where it closes
pub all_written : (now : State) → IsNextAllowed now → is_some (closing_by (setting_of now.settings) now.kept) ≡ true → length now.kept.buffered ≡ 0
all_written now is closes =
    written_case (is_some (closing_by (setting_of now.settings) now.kept)) (length now.kept.buffered)
    (second_true (allowed_by (setting_of now.settings) now.kept on.next) _ is) closes

-- ---- a pull

left_case : (over closes frames left : Bool) → (not over && (if closes then false else (frames || left))) ≡ true
    → ((not over && (if closes then false else (frames || left))) && frames) ≡ false → (not over && (if closes then false else (not frames && left))) ≡ true
left_case true closes frames left is none = absurd (cc is)
left_case false true frames left is none = absurd (cc is)
left_case false false true left is none = absurd (cc none)
left_case false false false left is none = is

-- where it isn't one of a frame, it is one of a body
pub body_left : (now : State) → IsAllowed now on.pull → frame_allowed (setting_of now.settings) now.kept ≡ false → IsAllowed now on.drop_body
unfolding allowed_by
body_left now allowed none = left_case now.kept.is_over _ (is_upgraded now.kept) (has_body_left now.kept) allowed none

-- ---- a connection that neither is over nor closes

over_case : (over rest : Bool) → (not over && rest) ≡ true → over ≡ false
over_case true rest is = absurd (cc is)
over_case false rest is = refl

-- where an event is allowed it isn't over
not_over : (set : Setting) (k : Kept) (event : on.Event) → IsTrue (allowed_by set k event) → k.is_over ≡ false
unfolding allowed_by
not_over set k event allowed = over_case k.is_over _ allowed

-- and what is allowed while it runs is allowed
runs_allowed : (set : Setting) (k : Kept) (event : on.Event) → k.is_over ≡ false → closing_by set k ≡ None → is_allowed_running set k event ≡ true
    → IsTrue (allowed_by set k event)
unfolding allowed_by
runs_allowed set k event over runs allowed =
    (λ i. not (over i) && (if is_some (runs i) then is_allowed_closing k event else is_allowed_running set k event)) ∙ allowed

-- what isn't allowed once it closes says that it doesn't
record Runs (closing : Option End) (test : Bool) : Type 0 where
  pub runs : closing ≡ None
  pub tested : test ≡ true

runs_case : (over : Bool) (o : Option End) (test : Bool) → (not over && (if is_some o then false else test)) ≡ true → Runs o test
runs_case true o test is = absurd (cc is)
runs_case false (Some end) test is = absurd (cc is)
runs_case false None test is = record { runs = refl; tested = is }

-- ---- a head gives its answer

pub answer_given : (now : State) (s : Settings) (p q : Parts) → state_of s p ≡ now → IsAllowed now on.next → HasOpened (setting_of s) p.is_over (kept_of q)
    → (head : AnswerHead) (size : BodySize) → IsAllowed (state_of s q) (on.answer head size)
answer_given now s p q view allowed opened head size =
    runs_allowed (setting_of s) (kept_of q) (on.answer head size)
    (opened.over ∙ not_over (setting_of s) (kept_of p) on.next (allowed_parts now s p on.next view allowed)) opened.runs opened.waits

-- one that waits for its answer may get it
pub waits_given : (s : Settings) (q : Parts) → HasOpened (setting_of s) false (kept_of q) → (head : AnswerHead) (size : BodySize) → IsAllowed (state_of s q) (on.answer head size)
waits_given s q opened head size = runs_allowed (setting_of s) (kept_of q) (on.answer head size) opened.over opened.runs opened.waits

-- ---- what is open closes for the same reasons, whatever of its answer goes out

closing_begun : (set : Setting) (k : Kept) (x : Exchange) (rest : Rest) (shape : Shape) (kind : ConnectionType) (n : ℕ) (bytes : List ℕ) (coming : Bool) (since : Option (Option ℕ))
    → closing_by set (record k { exchange = Some (record x { rest = rest; reply = sending shape kind n }); buffered = bytes; is_coming = coming; closing_since = since })
    ≡ closing_by set (record k { exchange = Some (record x { rest = rest; reply = unanswered }) })
unfolding closing_by
closing_begun set k x no_rest shape kind n bytes coming since = refl
closing_begun set k x raw_rest shape kind n bytes coming since = refl
closing_begun set k x (fixed_rest m) shape kind n bytes coming since = refl
closing_begun set k x (chunks_rest place section) shape kind n bytes coming since = refl
closing_begun set k x (frames_rest under_way limit) shape kind n bytes coming since = refl

closing_sent : (set : Setting) (k : Kept) (x : Exchange) (rest : Rest) (shape : Shape) (kind : ConnectionType) (n m : ℕ) (bytes : List ℕ) (coming : Bool) (since : Option (Option ℕ))
    → closing_by set (record k { exchange = Some (record x { rest = rest; reply = sending shape kind n }); buffered = bytes; is_coming = coming; closing_since = since })
    ≡ closing_by set (record k { exchange = Some (record x { rest = rest; reply = sending shape kind m }) })
unfolding closing_by
closing_sent set k x no_rest shape kind n m bytes coming since = refl
closing_sent set k x raw_rest shape kind n m bytes coming since = refl
closing_sent set k x (fixed_rest l) shape kind n m bytes coming since = refl
closing_sent set k x (chunks_rest place section) shape kind n m bytes coming since = refl
closing_sent set k x (frames_rest under_way limit) shape kind n m bytes coming since = refl

closing_continued : (set : Setting) (k : Kept) (x : Exchange) (rest : Rest) (bytes : List ℕ) (coming : Bool) (since : Option (Option ℕ))
    → closing_by set (record k { exchange = Some (record x { rest = rest; reply = unanswered; had_continue = true }); buffered = bytes; is_coming = coming; closing_since = since })
    ≡ closing_by set (record k { exchange = Some (record x { rest = rest; reply = unanswered }) })
unfolding closing_by
closing_continued set k x no_rest bytes coming since = refl
closing_continued set k x raw_rest bytes coming since = refl
closing_continued set k x (fixed_rest n) bytes coming since = refl
closing_continued set k x (chunks_rest place section) bytes coming since = refl
closing_continued set k x (frames_rest under_way limit) bytes coming since = refl

-- ---- leave to send a body

continued_reply : (set : Setting) (k : Kept) (x : Exchange) (r : Reply) (c : Change) (later : Kept) (coming : Bool)
    → (is_unanswered r && not (is_frames x.rest)) ≡ true → k.is_over ≡ false
    → closing_by set (record k { exchange = Some (record x { reply = r }) }) ≡ None
    → IsChange set (record k { exchange = Some (record x { reply = r }) }) on.send_continue c
    → later ≡ noting_since set (record c.kept { is_coming = coming }) → HasOpened set false later
continued_reply set k x (sending shape kind n) c later coming waits over runs is later_is = absurd (cc waits)
continued_reply set k x (answered kind) c later coming waits over runs is later_is = absurd (cc waits)
continued_reply set k x unanswered c later coming waits over runs is later_is =
    let bytes = k.buffered ++ interim_text in
    let made : Kept = record k { buffered = bytes; exchange = Some (record x { reply = unanswered; had_continue = true }) } in
    let kept : c.kept ≡ made = ap (λ (d : Change). d.kept) is in
    let same : later ≡ noting_since set (record made { is_coming = coming }) = later_is ∙ ap (λ (m : Kept). noting_since set (record m { is_coming = coming })) kept in
    subst (λ (m : Kept). HasOpened set false m) (sym same)
    (record { over = over; runs = closing_continued set k x x.rest bytes coming _ ∙ runs; waits = waits })

continued_case : (set : Setting) (k : Kept) (e : Option Exchange) (out : on.Outcome) (later : Kept)
    → IsTrue (allowed_by set (record k { exchange = e }) on.send_continue) → IsStep set (record k { exchange = e }) on.send_continue out later
    → HasOpened set false later
unfolding allowed_by
continued_case set k None out later allowed step =
    absurd (cc (runs_case k.is_over (closing_by set (record k { exchange = None })) false allowed).tested)
continued_case set k (Some x) out later allowed step =
    let run = runs_case k.is_over (closing_by set (record k { exchange = Some x })) _ allowed in
    continued_reply set k x x.reply step.change later step.coming (first_true (is_unanswered x.reply && not (is_frames x.rest)) _ run.tested)
    (over_case k.is_over _ allowed) run.runs step.changes step.keeps

pub continue_opens : (now : State) (s : Settings) (p q : Parts) → state_of s p ≡ now → IsAllowed now on.send_continue
    → Steps s p on.send_continue on.done q → HasOpened (setting_of s) false (kept_of q)
continue_opens now s p q view allowed steps =
    continued_case (setting_of s) (kept_of p) (kept_of p).exchange on.done (kept_of q) (allowed_parts now s p on.send_continue view allowed) steps

-- ---- an answer with a body

-- an answer's body goes out in a connection that neither is over nor closes
pub record IsSendingBody (setting : Setting) (k : Kept) : Type 0 where
  pub over : k.is_over ≡ false
  pub runs : closing_by setting k ≡ None
  pub answering : is_answering k ≡ true

choose_else : (a b : Kept) (test : Bool) → test ≡ false → (if test then a else b) ≡ b
choose_else a b true is = absurd (cc is)
choose_else a b false is = refl

begun_reply : (set : Setting) (k : Kept) (x : Exchange) (r : Reply) (head : AnswerHead) (size : BodySize) (c : Change) (next : Kept) (coming : Bool)
    → is_at_once size ≡ false → (is_unanswered r && not (is_frames x.rest)) ≡ true → k.is_over ≡ false
    → closing_by set (record k { exchange = Some (record x { reply = r }) }) ≡ None
    → c ≡ doing_with (answering set head size) (record k { exchange = Some (record x { reply = r }) })
    → next ≡ noting_since set (record c.kept { is_coming = coming }) → IsSendingBody set next
begun_reply set k x (sending shape kind n) head size c next coming later waits over runs is next_is = absurd (cc waits)
begun_reply set k x (answered kind) head size c next coming later waits over runs is next_is = absurd (cc waits)
begun_reply set k x unanswered head size c next coming later waits over runs is next_is =
    let y : Exchange = record x { reply = unanswered } in
    let kind = type_of set k.is_draining x.asked head size in
    let shape = shape_of x.asked head size in
    let bytes = k.buffered ++ answer_head_text set k.is_draining x.asked head size (now k) in
    let grown : Kept = record k { exchange = Some y; buffered = bytes } in
    let made : Kept = record k { buffered = bytes; exchange = Some (record x { reply = sending shape kind (stated shape) }) } in
    let kept : c.kept ≡ made = ap (λ (d : Change). d.kept) is ∙ choose_else (completing kind y grown) made (is_at_once size) later in
    let same : next ≡ noting_since set (record made { is_coming = coming }) = next_is ∙ ap (λ (m : Kept). noting_since set (record m { is_coming = coming })) kept in
    subst (λ (m : Kept). IsSendingBody set m) (sym same)
    (record { over = over; runs = closing_begun set k x x.rest shape kind (stated shape) bytes coming _ ∙ runs; answering = refl })

begun_case : (set : Setting) (k : Kept) (e : Option Exchange) (head : AnswerHead) (size : BodySize) (out : on.Outcome) (next : Kept) → is_at_once size ≡ false
    → IsTrue (allowed_by set (record k { exchange = e }) (on.answer head size)) → IsStep set (record k { exchange = e }) (on.answer head size) out next
    → IsSendingBody set next
unfolding allowed_by
begun_case set k None head size out next later allowed step =
    absurd (cc (runs_case k.is_over (closing_by set (record k { exchange = None })) false allowed).tested)
begun_case set k (Some x) head size out next later allowed step =
    let run = runs_case k.is_over (closing_by set (record k { exchange = Some x })) _ allowed in
    begun_reply set k x x.reply head size step.change next step.coming later run.tested
    (over_case k.is_over _ allowed) run.runs step.changes step.keeps

pub answer_sends : (now : State) (s : Settings) (p q : Parts) (head : AnswerHead) (size : BodySize) → state_of s p ≡ now → IsAllowed now (on.answer head size)
    → Steps s p (on.answer head size) on.done q → is_at_once size ≡ false → IsSendingBody (setting_of s) (kept_of q)
answer_sends now s p q head size view allowed steps later =
    begun_case (setting_of s) (kept_of p) (kept_of p).exchange head size on.done (kept_of q) later (allowed_parts now s p (on.answer head size) view allowed) steps

-- ---- a piece of it

sent_reply : (set : Setting) (k : Kept) (x : Exchange) (r : Reply) (piece : List ℕ) (c : Change) (next : Kept) (coming : Bool)
    → is_sending_body r ≡ true → k.is_over ≡ false
    → closing_by set (record k { exchange = Some (record x { reply = r }) }) ≡ None
    → c ≡ doing_with (sending_piece piece) (record k { exchange = Some (record x { reply = r }) })
    → next ≡ noting_since set (record c.kept { is_coming = coming }) → IsSendingBody set next
sent_reply set k x unanswered piece c next coming goes over runs is next_is = absurd (cc goes)
sent_reply set k x (answered kind) piece c next coming goes over runs is next_is = absurd (cc goes)
sent_reply set k x (sending shape kind missing) piece c next coming goes over runs is next_is =
    let bytes = k.buffered ++ piece_sent x.asked shape missing piece in
    let made : Kept = record k { buffered = bytes; exchange = Some (record x { reply = sending shape kind (missing - length piece) }) } in
    let kept : c.kept ≡ made = ap (λ (d : Change). d.kept) is in
    let same : next ≡ noting_since set (record made { is_coming = coming }) = next_is ∙ ap (λ (m : Kept). noting_since set (record m { is_coming = coming })) kept in
    subst (λ (m : Kept). IsSendingBody set m) (sym same)
    (record { over = over; runs = closing_sent set k x x.rest shape kind (missing - length piece) missing bytes coming _ ∙ runs; answering = refl })

sent_case : (set : Setting) (k : Kept) (e : Option Exchange) (piece : List ℕ) (out : on.Outcome) (next : Kept)
    → IsTrue (allowed_by set (record k { exchange = e }) (on.chunk piece)) → IsStep set (record k { exchange = e }) (on.chunk piece) out next
    → IsSendingBody set next
unfolding allowed_by
sent_case set k None piece out next allowed step =
    absurd (cc (runs_case k.is_over (closing_by set (record k { exchange = None })) false allowed).tested)
sent_case set k (Some x) piece out next allowed step =
    let run = runs_case k.is_over (closing_by set (record k { exchange = Some x })) _ allowed in
    sent_reply set k x x.reply piece step.change next step.coming (first_true (is_sending_body x.reply) _ run.tested)
    (over_case k.is_over _ allowed) run.runs step.changes step.keeps

pub chunk_sends : (now : State) (s : Settings) (p q : Parts) (piece : List ℕ) → state_of s p ≡ now → IsAllowed now (on.chunk piece)
    → Steps s p (on.chunk piece) on.done q → IsSendingBody (setting_of s) (kept_of q)
chunk_sends now s p q piece view allowed steps =
    sent_case (setting_of s) (kept_of p) (kept_of p).exchange piece on.done (kept_of q) (allowed_parts now s p (on.chunk piece) view allowed) steps

-- ---- what may come then

both_true : (a b : Bool) → a ≡ true → b ≡ true → (a && b) ≡ true
both_true true b x y = y
both_true false b x y = absurd (cc x)

pub end_given : (s : Settings) (q : Parts) → IsSendingBody (setting_of s) (kept_of q) → IsAllowed (state_of s q) on.body_end
end_given s q x = runs_allowed (setting_of s) (kept_of q) on.body_end x.over x.runs x.answering

pub fail_given : (s : Settings) (q : Parts) → IsSendingBody (setting_of s) (kept_of q) → IsAllowed (state_of s q) on.body_error
fail_given s q x = runs_allowed (setting_of s) (kept_of q) on.body_error x.over x.runs x.answering

pub chunk_given : (s : Settings) (q : Parts) (bytes : List ℕ) → HasWriteRoom (state_of s q) → IsSendingBody (setting_of s) (kept_of q) → IsAllowed (state_of s q) (on.chunk bytes)
chunk_given s q bytes room x =
    runs_allowed (setting_of s) (kept_of q) (on.chunk bytes) x.over x.runs (both_true _ _ x.answering (lt-ltb (length q.output.bytes) s.h1_write_buffer_size room))
