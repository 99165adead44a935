-- What is left of the bytes is their end.
use Rattle.std.proofs.Common.{◌≡◌, ℕ, ◌+◌, ◌-◌, min, Bool, true, false, cond, List, [], ◌∷◌, ◌++◌, length, drop, take, Option, Some, None, refl, sym, ap, ◌∙◌, subst, append-nil, append_assoc}
use Rattle.std.specs.Prelude.{⊤, ◌&&◌, not, nat_le, nat_lt, ◌==◌}
use Rattle.std.proofs.lemmas.List.{take-append-drop}
use Rattle.model_h1.specs.Place.{InLine, Place, in_bytes, bytes_end, in_section, done, broken, step}
use Rattle.model_h1.specs.Reading.{Ending, goes_on, is_broken, ends_before, read}
use Rattle.model_h1.specs.TakeNext.{Next, chunk, waits, ended, breaks, Taken, noted_line, stops_at, take_next}
use Rattle.model_h1.proofs.ReadSteps.{ending-noted}
use Rattle.model_h1.specs.FrameText.{Front, partial, whole, breaks as breaks_rule, front_frame}
use Rattle.model_h1.specs.Parse.{connection_reader}
use Rattle.model_h1.specs.Setting.{Setting}
use Rattle.model_state.specs.Body.{Passed, pass_chunks, pass_rest}
use Rattle.model_state.specs.Kept.{Rest, no_rest, raw_rest, fixed_rest, chunks_rest, frames_rest}
use Rattle.model_state.specs.Pull.{Pulled, EndsWith, IsPullOfChunks, IsPull, pull_fixed, pull_raw, pull_front}
use Rattle.model_client.specs.AnswerParse.{is_interim}
use Rattle.model_client.specs.AnswerReading.{Answer, AnswerReading, answer_is, refused}
use Rattle.model_client.specs.ClientEvent as on
use Rattle.model_client.specs.ClientEvent.{ClientEvent, ClientEnd, ClientOutcome}
use Rattle.model_client.specs.ClientKept.{Waiting, SendingBody, ReadingBody, ClientKept, client_closing}
use Rattle.model_client.specs.ClientStep.{ClientChange, doing, sending_piece, ending_body, passed_body, passing, dropping, reading, body_at_end, ending_input, IsPulling, behind_final, behind_head, without_head, IsUpcoming, IsNext, IsClientChange, IsClientStep}
use Rattle.model_client.specs.ClientTrace.{Happened, IsClientTrace, taken_by, taken}
use Rattle.model_client.proofs.Answered.{told_without}

-- ---- ends of bytes

-- these bytes are others and, behind them, those that are left
abbrev pub Leaves : List ℕ → List ℕ → Type 0
Leaves bytes left = (passed : List ℕ) × (bytes ≡ passed ++ left)

-- all are left, or none
leaves_all : (bytes : List ℕ) → Leaves bytes bytes
leaves_all bytes = ([], refl)

leaves_none : (bytes : List ℕ) → Leaves bytes []
leaves_none bytes = (bytes, sym (append-nil bytes))

leaves_drop : (n : ℕ) (bytes : List ℕ) → Leaves bytes (drop n bytes)
leaves_drop n bytes = (take n bytes, sym (take-append-drop n bytes))

-- an end of an end is an end
leaves_of : (bytes mid left : List ℕ) → Leaves bytes mid → Leaves mid left → Leaves bytes left
leaves_of bytes mid left (a, x) (b, y) = (a ++ b, x ∙ ap (λ (l : List ℕ). a ++ l) y ∙ sym (append_assoc a b left))

-- more bytes stand behind
leaves_more : (bytes left more : List ℕ) → Leaves bytes left → Leaves (bytes ++ more) (left ++ more)
leaves_more bytes left more (a, x) = (a, ap (λ (l : List ℕ). l ++ more) x ∙ append_assoc a left more)

-- one stands in front
leaves_cons : (b : ℕ) (bytes left : List ℕ) → Leaves bytes left → Leaves (b ∷ bytes) left
leaves_cons b bytes left (a, x) = (b ∷ a, ap (λ (l : List ℕ). b ∷ l) x)

leaves_cond : (t : Bool) (bytes : List ℕ) (x y : Passed) → Leaves bytes x.unread → Leaves bytes y.unread → Leaves bytes (cond t x y).unread
leaves_cond true bytes x y left_x left_y = left_x
leaves_cond false bytes x y left_x left_y = left_y

-- ---- a body in chunks

abbrev LeavesAt : List ℕ → Ending → Type 0
LeavesAt bytes (ends_before behind) = Leaves bytes behind
LeavesAt bytes goes_on = ⊤
LeavesAt bytes is_broken = ⊤

at_cons : (b : ℕ) (bytes : List ℕ) (ending : Ending) → LeavesAt bytes ending → LeavesAt (b ∷ bytes) ending
at_cons b bytes (ends_before behind) x = leaves_cons b bytes behind x
at_cons b bytes goes_on x = tt
at_cons b bytes is_broken x = tt

at_nil : (place : Place) → LeavesAt [] (read place []).ending
unfolding read
at_nil done = leaves_all []
at_nil broken = tt
at_nil place = tt

-- what stands behind a body is the end of the bytes
read_leaves : (bytes : List ℕ) (place : Place) → LeavesAt bytes (read place bytes).ending
unfolding read
read_leaves [] place = at_nil place
read_leaves (b ∷ bytes) done = leaves_all (b ∷ bytes)
read_leaves (b ∷ bytes) place =
    let r = read (step place b) bytes in
    subst (LeavesAt (b ∷ bytes)) (sym (ending-noted place (step place b) b r)) (at_cons b bytes r.ending (read_leaves bytes (step place b)))

abbrev LeavesNext : List ℕ → Next → Type 0
LeavesNext bytes (chunk given next behind) = Leaves bytes behind
LeavesNext bytes (ended behind) = Leaves bytes behind
LeavesNext bytes (waits next) = ⊤
LeavesNext bytes breaks = ⊤

next_cons : (b : ℕ) (bytes : List ℕ) (next : Next) → LeavesNext bytes next → LeavesNext (b ∷ bytes) next
next_cons b bytes (chunk given next behind) x = leaves_cons b bytes behind x
next_cons b bytes (ended behind) x = leaves_cons b bytes behind x
next_cons b bytes (waits next) x = tt
next_cons b bytes breaks x = tt

-- a byte of a trailer line that is noted doesn't change what comes next
next_noted : (at : InLine) (lines room : ℕ) (q : Place) (b : ℕ) (t : Taken) → (noted_line (in_section at lines room) q b t).next ≡ t.next
next_noted at lines room (in_section at' lines' room') b t = refl
next_noted at lines room q b t = refl

next_stops : (place : Place) → LeavesNext [] (stops_at place)
next_stops done = leaves_all []
next_stops broken = tt
next_stops place = tt

next_choice : (t : Bool) (bytes : List ℕ) (x y : Next) → LeavesNext bytes x → LeavesNext bytes y → LeavesNext bytes (cond t x y)
next_choice true bytes x y left_x left_y = left_x
next_choice false bytes x y left_x left_y = left_y

-- what stands behind what comes next is the end of the bytes
next_leaves : (bytes : List ℕ) (place : Place) → LeavesNext bytes (take_next place bytes).next
unfolding take_next
next_leaves [] place = next_stops place
next_leaves (b ∷ bytes) done = leaves_all (b ∷ bytes)
next_leaves (b ∷ bytes) broken = tt
next_leaves (b ∷ bytes) (in_bytes more) =
    let all = b ∷ bytes in
    next_choice (nat_lt more (length all)) all (chunk (take (more + 1) all) bytes_end (drop (more + 1) all)) (chunk all (in_bytes (more - length all)) [])
    (leaves_drop (more + 1) all) (leaves_none all)
next_leaves (b ∷ bytes) (in_section at lines room) =
    let place = in_section at lines room in
    let t = take_next (step place b) bytes in
    subst (LeavesNext (b ∷ bytes)) (sym (next_noted at lines room (step place b) b t)) (next_cons b bytes t.next (next_leaves bytes (step place b)))
next_leaves (b ∷ bytes) place = next_cons b bytes (take_next (step place b) bytes).next (next_leaves bytes (step place b))

-- ---- a pull, and what is passed

-- what is equal to a pull that leaves an end leaves it too
as_pull : (bytes : List ℕ) (p q : Pulled) → p ≡ q → Leaves bytes q.unread → Leaves bytes p.unread
as_pull bytes p q is x = subst (λ (q : Pulled). Leaves bytes q.unread) (sym is) x

ends_leaves : (section bytes behind : List ℕ) (p : Pulled) → EndsWith section behind p → Leaves bytes behind → Leaves bytes p.unread
ends_leaves [] bytes behind p is x = as_pull bytes p _ is x
ends_leaves (b ∷ section) bytes behind p (lines, all, text, is) x = as_pull bytes p _ is x

chunks_leave : (t : Bool) (place : Place) (section bytes : List ℕ) (next : Next) (noted : List ℕ) (p : Pulled)
    → IsPullOfChunks t place section bytes next noted p → LeavesNext bytes next → Leaves bytes p.unread
chunks_leave t place section bytes (chunk given next behind) noted p is x = as_pull bytes p _ is x
chunks_leave true place section bytes (waits next) noted p is x = as_pull bytes p _ is (leaves_all bytes)
chunks_leave false place section bytes (waits next) noted p is x = as_pull bytes p _ is (leaves_none bytes)
chunks_leave t place section bytes (ended behind) noted p is x = ends_leaves (section ++ noted) bytes behind p is x
chunks_leave t place section bytes breaks noted p is x = as_pull bytes p _ is (leaves_all bytes)

fixed_leaves : (t : Bool) (n : ℕ) (bytes : List ℕ) → Leaves bytes (pull_fixed t n bytes).unread
fixed_leaves true n [] = leaves_all []
fixed_leaves false n [] = leaves_all []
fixed_leaves t n (b ∷ bytes) = leaves_drop n (b ∷ bytes)

raw_leaves : (t : Bool) (bytes : List ℕ) → Leaves bytes (pull_raw t bytes).unread
raw_leaves t (b ∷ bytes) = leaves_none (b ∷ bytes)
raw_leaves true [] = leaves_all []
raw_leaves false [] = leaves_all []

front_leaves : (under_way : Bool) (limit : ℕ) (bytes : List ℕ) (front : Front) → Leaves bytes (pull_front under_way limit bytes front).unread
front_leaves under_way limit bytes partial = leaves_all bytes
front_leaves under_way limit bytes (whole frame len) = leaves_drop len bytes
front_leaves under_way limit bytes (breaks_rule error) = leaves_all bytes

pull_leaves : (t : Bool) (rest : Rest) (bytes : List ℕ) (p : Pulled) → IsPull t rest bytes p → Leaves bytes p.unread
pull_leaves t no_rest bytes p is = as_pull bytes p _ is (leaves_all bytes)
pull_leaves t raw_rest bytes p is = as_pull bytes p (pull_raw t bytes) is (raw_leaves t bytes)
pull_leaves t (fixed_rest n) bytes p is = as_pull bytes p (pull_fixed t n bytes) is (fixed_leaves t n bytes)
pull_leaves t (chunks_rest place section) bytes p is =
    let taken = take_next place bytes in
    chunks_leave t place section bytes taken.next taken.trailers p is (next_leaves bytes place)
pull_leaves t (frames_rest under_way limit) bytes p is =
    let front = front_frame (connection_reader limit) under_way bytes in
    as_pull bytes p (pull_front under_way limit bytes front) is (front_leaves under_way limit bytes front)

pass_chunks_leaves : (place : Place) (bytes : List ℕ) (ending : Ending) → LeavesAt bytes ending → Leaves bytes (pass_chunks place bytes ending).unread
pass_chunks_leaves place bytes (ends_before behind) x = x
pass_chunks_leaves place bytes goes_on x = leaves_none bytes
pass_chunks_leaves place bytes is_broken x = leaves_none bytes

pass_leaves : (t : Bool) (rest : Rest) (bytes : List ℕ) → Leaves bytes (pass_rest t rest bytes).unread
pass_leaves t no_rest bytes = leaves_all bytes
pass_leaves t raw_rest bytes = leaves_none bytes
pass_leaves t (fixed_rest n) bytes =
    leaves_cond (nat_le n (length bytes)) bytes (record { rest = no_rest; unread = drop n bytes }) (record { rest = fixed_rest (n - length bytes); unread = [] })
    (leaves_drop n bytes) (leaves_none bytes)
pass_leaves t (chunks_rest place section) bytes = pass_chunks_leaves place bytes (read place bytes).ending (read_leaves bytes place)
pass_leaves t (frames_rest under_way limit) bytes = leaves_all bytes

-- a dropped body is passed, or nothing is
passed_if : (t : Bool) (body : ReadingBody) (k : ClientKept) (p : Passed) → Leaves k.unread p.unread
    → Leaves k.unread (cond t (passed_body k.has_ended body k p) k).unread
passed_if true body k p x = x
passed_if false body k p x = leaves_all k.unread

passing_leaves : (body : Option ReadingBody) (k : ClientKept) → Leaves k.unread (passing body k).unread
passing_leaves None k = leaves_all k.unread
passing_leaves (Some body) k =
    passed_if (body.was_dropped && not body.is_done) body k (pass_rest k.has_ended body.rest k.unread) (pass_leaves k.has_ended body.rest k.unread)

dropping_leaves : (body : Option ReadingBody) (k : ClientKept) → Leaves k.unread (dropping body k).unread
dropping_leaves None k = leaves_all k.unread
dropping_leaves (Some body) k =
    passing_leaves (Some (record body { was_dropped = true })) (record k { reading = Some (record body { was_dropped = true }) })

-- ---- each event

-- a change that takes no bytes
abbrev IsPassing : ClientKept → ClientChange → Type 0
IsPassing k c = Leaves k.unread c.kept.unread

as_change : (k : ClientKept) (c d : ClientChange) → c ≡ d → IsPassing k d → IsPassing k c
as_change k c d is x = subst (IsPassing k) (sym is) x

piece_leaves : (k : ClientKept) (bytes : List ℕ) (body : Option SendingBody) → Leaves k.unread (sending_piece bytes body k).unread
piece_leaves k bytes None = leaves_all k.unread
piece_leaves k bytes (Some body) = leaves_all k.unread

end_leaves : (k : ClientKept) (body : Option SendingBody) → Leaves k.unread (ending_body body k).unread
end_leaves k None = leaves_all k.unread
end_leaves k (Some body) = leaves_all k.unread

without_leaves : (full : Bool) (k : ClientKept) → IsPassing k (told_without k full)
without_leaves true k = leaves_all k.unread
without_leaves false k = leaves_all k.unread

answer_leaves : (t : Bool) (k : ClientKept) (end : ℕ) (a : Answer) (w : Waiting) (ws : List Waiting)
    → Leaves k.unread (cond t (record k { unread = drop end k.unread }) (behind_final k (drop end k.unread) a w ws)).unread
answer_leaves true k end a w ws = leaves_drop end k.unread
answer_leaves false k end a w ws = leaves_drop end k.unread

head_leaves : (k : ClientKept) (end : ℕ) (w : Waiting) (ws : List Waiting) (what : AnswerReading) → IsPassing k (behind_head k end w ws what)
head_leaves k end w ws (refused f) = leaves_all k.unread
head_leaves k end w ws (answer_is a) = answer_leaves (is_interim a.status) k end a w ws

upcoming_leaves : (setting : Setting) (k : ClientKept) (waiting : List Waiting) (coming : Bool) (c : ClientChange)
    → IsUpcoming setting k waiting coming c → IsPassing k c
upcoming_leaves setting k [] false c x = as_change k c (without_head setting k) x (without_leaves (length k.unread == setting.hold_size) k)
upcoming_leaves setting k (w ∷ ws) false c x = as_change k c (without_head setting k) x (without_leaves (length k.unread == setting.hold_size) k)
upcoming_leaves setting k [] true c x = as_change k c _ x (leaves_all k.unread)
upcoming_leaves setting k (w ∷ ws) true c (start, end, what, piece, reading, is) = as_change k c (behind_head k end w ws what) is (head_leaves k end w ws what)

closing_leaves : (setting : Setting) (k : ClientKept) (closing : Option ClientEnd) (c : ClientChange) → IsNext setting k closing c → IsPassing k c
closing_leaves setting k (Some end) c x = as_change k c _ x (leaves_all k.unread)
closing_leaves setting k None c x = upcoming_leaves setting k k.waiting k.is_coming c x

pulling_leaves : (k : ClientKept) (body : Option ReadingBody) (c : ClientChange) → IsPulling k body c → IsPassing k c
pulling_leaves k None c x = as_change k c _ x (leaves_all k.unread)
pulling_leaves k (Some body) c (p, pull, is) = as_change k c _ is (pull_leaves k.has_ended body.rest k.unread p pull)

-- the bytes, and those that an event takes, are others and those that are left
abbrev IsLeft : ClientKept → ClientEvent → ClientChange → Type 0
IsLeft k event c = Leaves (k.unread ++ taken_by event c.outcome) c.kept.unread

without_taking : (k : ClientKept) (left : List ℕ) → Leaves k.unread left → Leaves (k.unread ++ []) left
without_taking k left x = subst (λ (l : List ℕ). Leaves l left) (sym (append-nil k.unread)) x

change_leaves : (setting : Setting) (k : ClientKept) (event : ClientEvent) (c : ClientChange) → IsClientChange setting k event c → IsLeft k event c
change_leaves setting k (on.ask r size) c x = without_taking k c.kept.unread (as_change k c _ x (leaves_all k.unread))
change_leaves setting k (on.chunk bytes) c x = without_taking k c.kept.unread (as_change k c _ x (piece_leaves k bytes k.sending))
change_leaves setting k on.body_end c x = without_taking k c.kept.unread (as_change k c _ x (end_leaves k k.sending))
change_leaves setting k on.body_error c x = without_taking k c.kept.unread (as_change k c _ x (leaves_all k.unread))
change_leaves setting k (on.read bytes) c x =
    let n = min (length bytes) (setting.hold_size - length k.unread) in
    subst (IsLeft k (on.read bytes)) (sym x) (passing_leaves k.reading (record k { unread = k.unread ++ take n bytes }))
change_leaves setting k on.eof c x =
    let at_end : ClientKept = record k { has_ended = true; reading = body_at_end k.unread k.reading } in
    without_taking k c.kept.unread (as_change k c (doing (ending_input k)) x (passing_leaves at_end.reading at_end))
change_leaves setting k on.next c x = without_taking k c.kept.unread (closing_leaves setting k (client_closing k) c x)
change_leaves setting k on.pull c x = without_taking k c.kept.unread (pulling_leaves k k.reading c x)
change_leaves setting k on.drop_body c x = without_taking k c.kept.unread (as_change k c _ x (dropping_leaves k.reading k))
change_leaves setting k (on.write n) c x = without_taking k c.kept.unread (as_change k c _ x (leaves_all k.unread))
change_leaves setting k (on.tick ms) c x = without_taking k c.kept.unread (as_change k c _ x (leaves_all k.unread))

-- ---- a step, and all that happened

pub step_leaves : (setting : Setting) (k next : ClientKept) (event : ClientEvent) (o : ClientOutcome) → IsClientStep setting k event o next
    → Leaves (k.unread ++ taken_by event o) next.unread
step_leaves setting k next event o step =
    let x = change_leaves setting k event step.change step.changes in
    let left = sym (ap (λ (k : ClientKept). k.unread) step.keeps) in
    subst (λ (o : ClientOutcome). Leaves (k.unread ++ taken_by event o) next.unread) (sym step.answers)
    (subst (λ (bytes : List ℕ). Leaves (k.unread ++ taken_by event step.change.outcome) bytes) left x)

pub trace_leaves : (setting : Setting) (trace : List Happened) (k : ClientKept) → IsClientTrace setting trace k → Leaves (taken trace) k.unread
trace_leaves setting [] k is = ([], sym (ap (λ (k : ClientKept). k.unread) is))
trace_leaves setting (s ∷ before) k (b, trace, allowed, step) =
    let more = taken_by s.event s.outcome in
    leaves_of (taken before ++ more) (b.unread ++ more) k.unread
    (leaves_more (taken before) b.unread more (trace_leaves setting before b trace)) (step_leaves setting b k s.event s.outcome step)
