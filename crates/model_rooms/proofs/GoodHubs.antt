-- Each row of a hub is as it should be, whatever came.
use Rattle.std.proofs.Common.{◌≡◌, ℕ, ◌⊎◌, Bool, true, false, List, [], ◌∷◌, ◌++◌, IsTrue, Option, Some, None, refl, sym, ap, ◌∙◌, subst, inl, inr, ◌==◌, if◌then◌else◌, arith}
use Rattle.std.specs.Prelude.{filter, not, ◌&&◌, ◌||◌, is_some}
use Rattle.std.specs.List.{flat_map}
use Rattle.std.proofs.lemmas.Bool.{cases_Bool, eqb-true}
use Rattle.std.proofs.lemmas.List.{append-nil}
use Rattle.std.proofs.lemmas.Grind.{flat_map-append}
use Rattle.model_h1.specs.Setting.{Setting}
use Rattle.model_h1.specs.Request.{Head}
use Rattle.model_h1.specs.Frame.{Frame}
use Rattle.model_h1.specs.Frame as frames
use Rattle.model_h1.specs.Handshake.{HandshakeError}
use Rattle.model_h1.specs.Event.{Event, Outcome}
use Rattle.model_h1.specs.Event as on
use Rattle.model_h1.specs.Sums.{Step, request, is_open, is_upgraded, is_sending, under_way_behind}
use Rattle.model_h1.specs.Past.{ParsedStep, steps}
use Rattle.model_h1.specs.Closing.{closing}
use Rattle.model_h1.specs.Allowed.{asks_raw, has_room}
use Rattle.model_rooms.specs.Hub.{opens, core_of}
use Rattle.model_rooms.specs.Member.{Member, is_in, effect_in, heard, with_step, own_row}
use Rattle.model_rooms.specs.Seen.{Seen, members_of, row_of}
use Rattle.model_rooms.specs.Turn.{request_event, socket_event, tried, turn_event}
use Rattle.model_rooms.specs.Due.{Said, said_with, said_at, is_for, due_messages, due, sent_by, sent_frames, sent_to}
use Rattle.model_rooms.specs.Trace.{is_fed, core_trace, IsTurnEvent, IsHubTrace}
use Rattle.model_rooms.proofs.StepViews.{Moved, view_of, core_opening, core_own, core_other}
use Rattle.model_rooms.proofs.RowLemmas.{row_opening, row_moved}
use Rattle.model_rooms.proofs.GoodRows.{Unfinished, GoodRow, Fits, frame_fits, effect_good, room_good, end_good, send_good, more_due, own_due, heard_good}

-- ---- which frame a turn sends

-- where it is a Send, it is of the first frame that waits
abbrev pub SendsFirst : Event → List Frame → Type 0
SendsFirst (on.send message) waiting = (f : Frame) × (fs : List Frame) × (message ≡ frames.frame f) × (waiting ≡ f ∷ fs)
SendsFirst _ waiting = Unit {0}

socket_sends : (has_room : Bool) (waiting : List Frame) → SendsFirst (socket_event has_room waiting) waiting
socket_sends true [] = tt
socket_sends true (f ∷ fs) = (f, fs, refl, refl)
socket_sends false waiting = tt

request_sends : (setting : Setting) (may_upgrade : Bool) (refusal : Option HandshakeError) (waiting : List Frame)
    → SendsFirst (request_event setting may_upgrade refusal) waiting
request_sends setting may_upgrade (Some e) waiting = tt
request_sends setting true None waiting = tt
request_sends setting false None waiting = tt

turn_sends : (setting : Setting) (past : List ParsedStep) (waiting : List Frame) → SendsFirst (turn_event setting past waiting) waiting
unfolding turn_event
turn_sends setting past waiting =
    let socket = socket_event (has_room setting (steps past)) waiting in
    let asked = request_event setting (asks_raw (request (steps past))) (tried (steps past)) in
    elim (is_some (closing setting past) || not (is_open (steps past)))
    as (λ v. SendsFirst (if v then on.next else (if is_upgraded (steps past) then socket else asked)) waiting) [
      | true ↦ tt
      | false ↦ elim (is_upgraded (steps past)) as (λ v. SendsFirst (if v then socket else asked) waiting) [
        | true ↦ socket_sends (has_room setting (steps past)) waiting
        | false ↦ request_sends setting (asks_raw (request (steps past))) (tried (steps past)) waiting
      ]
    ]

fed_sends : (event : Event) (waiting : List Frame) → IsTrue (is_fed event) → SendsFirst event waiting
fed_sends (on.send message) waiting x = absurd (cc)
fed_sends (on.read bytes) waiting x = tt
fed_sends on.eof waiting x = tt
fed_sends on.next waiting x = tt
fed_sends on.pull waiting x = tt
fed_sends on.drop_body waiting x = tt
fed_sends on.send_continue waiting x = tt
fed_sends (on.answer head size) waiting x = tt
fed_sends (on.chunk bytes) waiting x = tt
fed_sends on.body_end waiting x = tt
fed_sends on.body_error waiting x = tt
fed_sends (on.write n) waiting x = tt
fed_sends (on.tick ms) waiting x = tt
fed_sends on.drain waiting x = tt
fed_sends (on.accept limit) waiting x = tt

pub first_sent : (setting : Setting) (before : List Seen) (i : ℕ) (event : Event)
    → IsTrue (is_fed event) ⊎ IsTurnEvent setting before i event → SendsFirst event (row_of i before).waiting
first_sent setting before i event (inl x) = fed_sends event (row_of i before).waiting x
first_sent setting before i event (inr x) =
    subst (λ (e : Event). SendsFirst e (row_of i before).waiting) (sym x.2) (turn_sends setting x.0 (row_of i before).waiting)

-- ---- a member's own step

pub outcome_fits : (m : Member) (o : Outcome) → Unfinished m.parts → Fits m.has_left (effect_in m o)
outcome_fits m (on.frame f) u = frame_fits m f u
outcome_fits m _ u = tt

-- joining, and sending what waits first
record StepGood (sent : List Frame) (sending : Bool) (due : List Frame) (asked : Option Head) (event : Event) (outcome : Outcome) (m : Member) : Type 0 where
  good : GoodRow (sent ++ sent_by event outcome) (under_way_behind sending event outcome) due (with_step asked event outcome m)
  stays : (with_step asked event outcome m).has_left ≡ m.has_left

no_more_sent : (sent : List Frame) (sending : Bool) (due : List Frame) (m : Member) → GoodRow sent sending due m → GoodRow (sent ++ []) sending due m
no_more_sent sent sending due m g = subst (λ (l : List Frame). GoodRow l sending due m) (sym (append-nil sent)) g

step_good : (sent : List Frame) (sending : Bool) (due : List Frame) (asked : Option Head) (event : Event) (outcome : Outcome) (m : Member)
    → GoodRow sent sending due m → SendsFirst event m.waiting → StepGood sent sending due asked event outcome m
step_good sent sending due asked (on.accept limit) on.done m g x =
    record { good = no_more_sent sent sending due _ (room_good sent sending due m _ g); stays = refl }
step_good sent sending due asked (on.accept limit) _ m g x = record { good = no_more_sent sent sending due m g; stays = refl }
step_good sent sending due asked (on.send (frames.frame f)) on.done m g x =
    let same : frames.frame f ≡ frames.frame x.0 = x.2 in
    let waits : m.waiting ≡ x.0 ∷ x.1 = x.3 in
    let first : m.waiting ≡ f ∷ x.1 = cc in
    record { good = send_good sent sending due m f x.1 first g; stays = refl }
step_good sent sending due asked (on.send (frames.frame f)) _ m g x = record { good = no_more_sent sent sending due m g; stays = refl }
step_good sent sending due asked (on.send frames.nop) outcome m g x = absurd (let same : frames.nop ≡ frames.frame x.0 = x.2 in cc)
step_good sent sending due asked _ outcome m g x = record { good = no_more_sent sent sending due m g; stays = refl }

own_good : (sent : List Frame) (sending : Bool) (due : List Frame) (asked : Option Head) (closes : Bool) (step : Step) (m : Member)
    → GoodRow sent sending due m → SendsFirst step.event m.waiting
    → GoodRow (sent ++ sent_by step.event step.outcome) (under_way_behind sending step.event step.outcome) due (own_row asked closes step m)
own_good sent sending due asked closes step m g x =
    let stepped = step_good sent sending due asked step.event step.outcome m g x in
    let effect = effect_in m step.outcome in
    let fits : Fits m.has_left effect = outcome_fits m step.outcome g.parts in
    let fits' : Fits (with_step asked step.event step.outcome m).has_left effect = subst (λ (left : Bool). Fits left effect) (sym stepped.stays) fits in
    end_good _ _ due _ closes (effect_good _ _ due (with_step asked step.event step.outcome m) effect stepped.good fits')

-- ---- all rows

abbrev pub Good : ℕ → List Seen → Type 0
Good j seen = GoodRow (sent_to j seen) (is_sending (core_trace j seen)) (due j seen) (row_of j seen)

good_at : (j : ℕ) (seen : List Seen) (trace : List Step) (dues : List Frame) (row : Member) → core_trace j seen ≡ trace → due j seen ≡ dues
    → row_of j seen ≡ row → GoodRow (sent_frames trace) (is_sending trace) dues row → Good j seen
good_at j seen trace dues row a b c g =
    subst (λ (t : List Step). GoodRow (sent_frames t) (is_sending t) (due j seen) (row_of j seen)) (sym a)
    (subst (λ (d : List Frame). GoodRow (sent_frames trace) (is_sending trace) d (row_of j seen)) (sym b)
    (subst (λ (r : Member). GoodRow (sent_frames trace) (is_sending trace) dues r) (sym c) g))

due_step : (j : ℕ) (s : Seen) (before : List Seen) (said : List Said) → said_at before s ≡ said → due j (s ∷ before)
    ≡ due j before
    ++ flat_map (λ (m : Said). m.frames) (if is_in (row_of j before) && is_in (row_of j (s ∷ before)) then filter (is_for j (row_of j before).room) said else [])
unfolding due_messages
due_step j s before said e = rw (← e) (flat_map-append (λ (m : Said). m.frames) (due_messages j before) _)

nothing_said : (j : ℕ) (b : Bool) (dues : List Frame) → dues ++ flat_map (λ (m : Said). m.frames) (if b then [] else []) ≡ dues
nothing_said j true dues = append-nil dues
nothing_said j false dues = append-nil dues

due_opening : (j : ℕ) (s : Seen) (before : List Seen) → s.step.event ≡ opens → due j (s ∷ before) ≡ due j before
due_opening j s before e =
    let nothing : said_at before s ≡ [] = rw e refl in
    due_step j s before [] nothing ∙ nothing_said j (is_in (row_of j before) && is_in (row_of j (s ∷ before))) (due j before)

due_moved : (setting : Setting) (j : ℕ) (s : Seen) (before : List Seen) (m : Moved setting before s.step.event s.step.outcome s.closes)
    → due j (s ∷ before)
    ≡ due j before
    ++ more_due j m.move.number (row_of m.move.number before).room (effect_in (row_of m.move.number before) m.move.step.outcome) (row_of j before) (row_of j (s ∷ before))
due_moved setting j s before m =
    let mover = row_of m.move.number before in
    let said : said_at before s ≡ said_with m.move.number mover.room (effect_in mover m.move.step.outcome) = rw m.is refl in
    due_step j s before (said_with m.move.number mover.room (effect_in mover m.move.step.outcome)) said

first_good : (j : ℕ) → Good j []
unfolding core_of members_of due_messages sent_frames is_sending
first_good j = record {
  due_is = refl;
  runs = refl;
  parts = inl refl;
  room_left = λ e. omega arith;
  no_close = λ e. refl;
  most = omega arith;
  one_close = omega arith;
}

opening_good : (j : ℕ) (s : Seen) (before : List Seen) → s.step.event ≡ opens → Good j before → Good j (s ∷ before)
opening_good j s before e g =
    good_at j (s ∷ before) (core_trace j before) (due j before) (row_of j before) (core_opening j s before e) (due_opening j s before e)
    (row_opening j s before e) g

own_moved : (setting : Setting) (j : ℕ) (s : Seen) (before : List Seen) (m : Moved setting before s.step.event s.step.outcome s.closes)
    → (j == m.move.number) ≡ true → Good j before → Good j (s ∷ before)
unfolding sent_frames is_sending
own_moved setting j s before m same g =
    let mover = row_of m.move.number before in
    let asked = request (core_trace m.move.number before) in
    let effect = effect_in mover m.move.step.outcome in
    let dues : due j (s ∷ before) ≡ due j before =
    due_moved setting j s before m
    ∙ ap (λ (l : List Frame). due j before ++ l) (own_due j m.move.number mover.room effect (row_of j before) (row_of j (s ∷ before)) same)
    ∙ append-nil (due j before) in
    let row : row_of j (s ∷ before) ≡ own_row asked s.closes m.move.step (row_of j before) = row_moved setting s before m j ∙ rw same refl in
    let first : SendsFirst m.move.step.event (row_of j before).waiting =
    subst (λ (k : ℕ). SendsFirst m.move.step.event (row_of k before).waiting) (sym (eqb-true j m.move.number same))
    (first_sent setting before m.move.number m.move.step.event m.from) in
    good_at j (s ∷ before) (m.move.step ∷ core_trace j before) (due j before) (own_row asked s.closes m.move.step (row_of j before))
    (core_own setting j s before m same) dues row
    (own_good (sent_to j before) (is_sending (core_trace j before)) (due j before) asked s.closes m.move.step (row_of j before) g first)

other_moved : (setting : Setting) (j : ℕ) (s : Seen) (before : List Seen) (m : Moved setting before s.step.event s.step.outcome s.closes)
    → (j == m.move.number) ≡ false → Good j before → Good m.move.number before → Good j (s ∷ before)
other_moved setting j s before m other g mover_good =
    let mover = row_of m.move.number before in
    let effect = effect_in mover m.move.step.outcome in
    let row : row_of j (s ∷ before) ≡ heard effect mover.room (row_of j before) = row_moved setting s before m j ∙ rw other refl in
    let dues : due j (s ∷ before)
    ≡ due j before ++ more_due j m.move.number mover.room effect (row_of j before) (heard effect mover.room (row_of j before)) =
    due_moved setting j s before m
    ∙ ap (λ (r : Member). due j before ++ more_due j m.move.number mover.room effect (row_of j before) r) row in
    good_at j (s ∷ before) (core_trace j before)
    (due j before ++ more_due j m.move.number mover.room effect (row_of j before) (heard effect mover.room (row_of j before)))
    (heard effect mover.room (row_of j before))
    (core_other setting j s before m other) dues row
    (heard_good j m.move.number mover.room (sent_to j before) (is_sending (core_trace j before)) (due j before) effect mover.has_left
    (row_of j before) g (outcome_fits mover m.move.step.outcome mover_good.parts) other)

pub all_good : (setting : Setting) (seen : List Seen) → IsHubTrace setting seen → (j : ℕ) → Good j seen
all_good setting [] x j = first_good j
all_good setting (s ∷ before) x j = elim (view_of setting s before x) [
  | inl e ↦ opening_good j s before e (all_good setting before x.1 j)
  | inr m ↦ elim (cases_Bool (j == m.move.number)) [
    | inl same ↦ own_moved setting j s before m same (all_good setting before x.1 j)
    | inr other ↦ other_moved setting j s before m other (all_good setting before x.1 j) (all_good setting before x.1 m.move.number)
  ]
]
