-- Where a message may be sent, a turn sends the one that waits first.
use Rattle.std.proofs.Common.{◌≡◌, ◌≤◌, ℕ, Bool, true, false, Option, Some, None, refl, sym, ap, ◌∙◌, if◌then◌else◌}
use Rattle.std.specs.Prelude.{not, ◌&&◌, ◌||◌, is_some, nat_le, ◌+◌}
use Rattle.model_h1.specs.Answer.{AnswerHead, BodySize}
use Rattle.model_h1.specs.Limits.{MAX_FRAME_HEAD}
use Rattle.model_h1.specs.Setting.{Setting}
use Rattle.model_h1.specs.Frame.{Message}
use Rattle.model_h1.specs.Event as on
use Rattle.model_state.specs.Kept.{Exchange, Kept, is_frames, is_upgraded, is_open, of_exchange}
use Rattle.model_state.specs.Local.{closing_by, has_room, waits_for_answer, allowed_by}
use Rattle.h1_connection.specs.EventMeaning.{setting_of, SaysOutcome}
use Rattle.h1_connection.specs.State.{State, GoesOn}
use Rattle.h1_connection.specs.Frames.{SaysSent}
use Rattle.h1_connection.specs.declared.connection.frames.Sent.{Sent}
use Rattle.h1_connection.specs.declared.connection.frames.Sent.TheVariants as sent
use Rattle.h1_connection.specs.declared.event.Event.TheVariants as event
use Rattle.h1_connection.specs.declared.event.Outcome.TheVariants as out
use Rattle.rooms.specs.Seat.{SeatState, SeatGoesOn}
use Rattle.rooms.specs.Turn.{allows, may_accept, limit_of, answer_by, asked_by, IsAsked, TurnsBy, sent_outcome, sending}
use Rattle.rooms.proofs.AskLemmas.{and_false, socket_asked, send_asked}
use Rattle.rooms.proofs.KeptLemmas.{seat_stepped}
use Rattle.rooms.proofs.TurnLemmas.{turned}

-- ---- a WebSocket's request is open, and has its answer

socket_open : (k : Kept) (o : Option Exchange) → k.exchange ≡ o → is_upgraded k ≡ true → is_open k ≡ true
socket_open k None is up = absurd (let bad : false ≡ true = rw is at up in cc)
socket_open k (Some x) is up = let frames : is_frames x.rest ≡ true = rw is at up in rw is (rw frames refl)

socket_answered : (k : Kept) (o : Option Exchange) → k.exchange ≡ o → is_upgraded k ≡ true → waits_for_answer k ≡ false
socket_answered k None is up = rw is refl
socket_answered k (Some x) is up = let frames : is_frames x.rest ≡ true = rw is at up in rw is (rw frames (and_false _))

-- ---- what else is allowed

-- it doesn't close, and is upgraded
sends_when : (b c u r : Bool) → (b && (if c then false else (u && r))) ≡ true → (c ≡ false) × (u ≡ true)
sends_when true false true r is = (refl, refl)
sends_when true false false r is = absurd (cc)
sends_when true true u r is = absurd (cc)
sends_when false c u r is = absurd (cc)

not_then : (b c x n : Bool) → c ≡ false → n ≡ false → (b && (if c then x else n)) ≡ false
not_then b c x n runs none = ap (λ (v : Bool). b && (if v then x else n)) runs ∙ ap (λ (v : Bool). b && v) none ∙ and_false b

sends : (setting : Setting) (k : Kept) (m : Message) → allowed_by setting k (on.send m) ≡ true → (is_some (closing_by setting k) ≡ false) × (is_upgraded k ≡ true)
unfolding allowed_by
sends setting k m may = sends_when (not k.is_over) (is_some (closing_by setting k)) (is_upgraded k) (has_room setting k) may

no_next : (setting : Setting) (k : Kept) → is_some (closing_by setting k) ≡ false → is_upgraded k ≡ true → allowed_by setting k on.next ≡ false
unfolding allowed_by
no_next setting k runs up = not_then (not k.is_over) (is_some (closing_by setting k)) true (not (is_open k)) runs (ap not (socket_open k k.exchange refl up))

no_accept : (setting : Setting) (k : Kept) (limit : ℕ) → is_some (closing_by setting k) ≡ false → is_upgraded k ≡ true → allowed_by setting k (on.accept limit) ≡ false
unfolding allowed_by
no_accept setting k limit runs up =
    not_then (not k.is_over) (is_some (closing_by setting k)) false
    (waits_for_answer k && of_exchange (λ x. x.asked.is_raw && not (x.was_pulled || x.was_dropped)) k && nat_le (limit + MAX_FRAME_HEAD) setting.hold_size) runs
    (ap (λ (w : Bool). w && of_exchange (λ x. x.asked.is_raw && not (x.was_pulled || x.was_dropped)) k && nat_le (limit + MAX_FRAME_HEAD) setting.hold_size)
    (socket_answered k k.exchange refl up))

no_answer : (setting : Setting) (k : Kept) (head : AnswerHead) (size : BodySize) → is_some (closing_by setting k) ≡ false → is_upgraded k ≡ true
    → allowed_by setting k (on.answer head size) ≡ false
unfolding allowed_by
no_answer setting k head size runs up =
    not_then (not k.is_over) (is_some (closing_by setting k)) false (waits_for_answer k) runs (socket_answered k k.exchange refl up)

-- ---- the turn

-- it is asked for
pub sending_asked : (seat : SeatState) (m : Message) → ((n : Message) → allows seat (on.send n) ≡ true)
    → IsAsked seat.connection (asked_by seat (Some m)) (Some (event.Send m))
sending_asked seat m may =
    let setting = setting_of seat.connection.settings in
    let k = seat.connection.kept in
    let s = sends setting k m (may m) in
    socket_asked seat (Some m) (Some (event.Send m)) (send_asked seat m m refl may)
    (no_next setting k s.0 s.1)
    (ap (λ (b : Bool). not (is_some seat.refusal) && b) (no_accept setting k (limit_of seat) s.0 s.1) ∙ and_false (not (is_some seat.refusal)))
    (no_answer setting k _ _ s.0 s.1)

-- the seat goes on by it
sending_goes : (seat old : SeatState) (m : Message) (what : Sent) (after : State) → old ≡ seat → GoesOn old.connection (on.send m) (SaysSent what) after
    → SeatGoesOn seat (on.send m) (SaysOutcome (sent_outcome what)) (record old { connection = after })
sending_goes seat old m sent.Done after is goes = seat_stepped seat old (record old { connection = after }) (event.Send m) out.Done after is goes refl
sending_goes seat old m (sent.Protocol error) after is goes =
    seat_stepped seat old (record old { connection = after }) (event.Send m) (out.Protocol error) after is goes refl

pub sent_turn : (seat old : SeatState) (m : Message) (what : Sent) (after : State) → MAX_FRAME_HEAD ≤ seat.connection.settings.h1_hold_size → old ≡ seat
    → ((n : Message) → allows seat (on.send n) ≡ true) → GoesOn old.connection (on.send m) (SaysSent what) after
    → TurnsBy seat (Some m) (Some (sending m what)) (record old { connection = after })
sent_turn seat old m what after fits is may goes =
    turned seat (record old { connection = after }) (Some m) (sending m what) fits (sending_asked seat m may) (sending_goes seat old m what after is goes)
