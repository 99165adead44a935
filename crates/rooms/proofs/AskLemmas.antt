-- What a connection is asked, question by question, is what the rules of a turn say.
use Rattle.std.proofs.Common.{◌≡◌, ◌≤◌, ℕ, Bool, true, false, Option, Some, None, Result, Ok, Err, IfOk, refl, sym, ap, ◌∙◌, subst, if◌then◌else◌}
use Rattle.std.specs.Prelude.{not, ◌&&◌, is_some}
use Rattle.model_h1.specs.Frame.{Message}
use Rattle.model_h1.specs.Frame as frames
use Rattle.model_h1.specs.Event as on
use Rattle.model_state.specs.Local.{allowed_by}
use Rattle.h1_connection.specs.EventMeaning.{setting_of, event_of}
use Rattle.h1_connection.specs.declared.event.Event.{Event}
use Rattle.h1_connection.specs.declared.event.Event.TheVariants as event
use Rattle.rooms.specs.Seat.{SeatState}
use Rattle.rooms.specs.Turn.{allows, sent_by, may_accept, limit_of, answer_by, asked_by, socket_by, IsAsked}

pub and_false : (b : Bool) → (b && false) ≡ false
and_false true = refl
and_false false = refl

-- ---- the choice among four

abbrev choice : Bool → Bool → Bool → on.Event → on.Event → on.Event → on.Event → on.Event
choice a b c w x y z = if a then w else (if b then x else (if c then y else z))

second_choice : (a b c : Bool) (w x y z : on.Event) → a ≡ false → b ≡ true → choice a b c w x y z ≡ x
second_choice a b c w x y z not_a is_b = rw (not_a, is_b) refl

third_choice : (a b c : Bool) (w x y z : on.Event) → a ≡ false → b ≡ false → c ≡ true → choice a b c w x y z ≡ y
third_choice a b c w x y z not_a not_b is_c = rw (not_a, not_b, is_c) refl

last_choice : (a b c : Bool) (w x y z : on.Event) → a ≡ false → b ≡ false → c ≡ false → choice a b c w x y z ≡ z
last_choice a b c w x y z not_a not_b not_c = rw (not_a, not_b, not_c) refl

first_choice : (a b c : Bool) (w x y z : on.Event) → a ≡ true → choice a b c w x y z ≡ w
first_choice a b c w x y z is_a = rw is_a refl

-- ---- the events

-- an event that is asked for and allowed
chosen : (seat : SeatState) (front : Option Message) (v : Event) (e : on.Event) → event_of v ≡ e → asked_by seat front ≡ e → allows seat e ≡ true
    → IsAsked seat.connection (asked_by seat front) (Some v)
chosen seat front v e is asked may = (is ∙ sym asked, subst (λ (x : on.Event). allows seat x ≡ true) (sym is) may)

pub next_asked : (seat : SeatState) (front : Option Message) → allows seat on.next ≡ true → IsAsked seat.connection (asked_by seat front) (Some event.Next)
next_asked seat front may =
    chosen seat front event.Next on.next refl
    (first_choice (allows seat on.next) (may_accept seat) (allows seat (answer_by seat)) on.next (on.accept (limit_of seat)) (answer_by seat) (socket_by seat front) may)
    may

second_true : (a b : Bool) → (a && b) ≡ true → b ≡ true
second_true true b is = is
second_true false b is = absurd (cc is)

pub accept_asked : (seat : SeatState) (front : Option Message) (limit : ℕ) → limit ≡ limit_of seat → allows seat on.next ≡ false → may_accept seat ≡ true
    → IsAsked seat.connection (asked_by seat front) (Some (event.Accept limit))
accept_asked seat front limit is no_next may =
    chosen seat front (event.Accept limit) (on.accept (limit_of seat)) (ap (λ (n : ℕ). on.accept n) is)
    (second_choice (allows seat on.next) (may_accept seat) (allows seat (answer_by seat)) on.next (on.accept (limit_of seat)) (answer_by seat) (socket_by seat front) no_next may)
    (second_true (not (is_some seat.refusal)) (allows seat (on.accept (limit_of seat))) may)

pub answer_asked : (seat : SeatState) (front : Option Message) (v : Event) → event_of v ≡ answer_by seat → allows seat on.next ≡ false
    → may_accept seat ≡ false → allows seat (answer_by seat) ≡ true → IsAsked seat.connection (asked_by seat front) (Some v)
answer_asked seat front v is no_next no_accept may =
    chosen seat front v (answer_by seat) is
    (third_choice (allows seat on.next) (may_accept seat) (allows seat (answer_by seat)) on.next (on.accept (limit_of seat)) (answer_by seat) (socket_by seat front) no_next no_accept may)
    may

pub socket_asked : (seat : SeatState) (front : Option Message) (v : Option Event) → IsAsked seat.connection (socket_by seat front) v
    → allows seat on.next ≡ false → may_accept seat ≡ false → allows seat (answer_by seat) ≡ false → IsAsked seat.connection (asked_by seat front) v
socket_asked seat front v asked no_next no_accept no_answer =
    subst (λ (e : on.Event). IsAsked seat.connection e v)
    (sym (last_choice (allows seat on.next) (may_accept seat) (allows seat (answer_by seat)) on.next (on.accept (limit_of seat)) (answer_by seat) (socket_by seat front) no_next no_accept no_answer))
    asked

-- where the choice of a WebSocket's event may want memory
pub socket_or : {E : Type 0} (seat : SeatState) (front : Option Message) (r : Result (Option Event) E)
    → IfOk r (IsAsked seat.connection (socket_by seat front)) → allows seat on.next ≡ false → may_accept seat ≡ false
    → allows seat (answer_by seat) ≡ false → IfOk r (IsAsked seat.connection (asked_by seat front))
socket_or seat front (Ok v) asked no_next no_accept no_answer = socket_asked seat front v asked no_next no_accept no_answer
socket_or seat front (Err e) asked no_next no_accept no_answer = tt

-- ---- what the connection answers

-- what holds of the connection inside holds of the seat
pub allowed_is : (inside now : SeatState) (b v : Bool) (e : on.Event) → inside ≡ now → b ≡ allows inside e → b ≡ v → allows now e ≡ v
allowed_is inside now b v e is by test = sym (by ∙ ap (λ (s : SeatState). allows s e) is) ∙ test

-- ---- on a WebSocket

pub send_asked : (seat : SeatState) (sent said : Message) → sent ≡ said → ((m : Message) → allows seat (on.send m) ≡ true)
    → IsAsked seat.connection (socket_by seat (Some said)) (Some (event.Send sent))
send_asked seat sent said is may = (
  ap (λ (m : Message). on.send m) is ∙ sym (ap (λ (b : Bool). sent_by b (Some said)) (may frames.nop)),
  may sent,
)

pub pull_after : (seat : SeatState) (said : Message) (v : Option Event) → allows seat (on.send frames.nop) ≡ false → IsAsked seat.connection on.pull v
    → IsAsked seat.connection (socket_by seat (Some said)) v
pull_after seat said v cannot asked =
    subst (λ (e : on.Event). IsAsked seat.connection e v) (sym (ap (λ (b : Bool). sent_by b (Some said)) cannot)) asked

-- ---- no event is asked for

-- not where a message may be sent
pub none_not_send : (seat : SeatState) (said : Message) → allows seat (on.send frames.nop) ≡ true → IsAsked seat.connection (socket_by seat (Some said)) None → ⊥
none_not_send seat said may none =
    let sends : on.send said ≡ on.pull = sym (ap (λ (b : Bool). sent_by b (Some said)) may) ∙ none.0 in cc

-- nor where an answer may come
pub none_not_answer : (seat : SeatState) (front : Option Message) → allows seat on.next ≡ false → may_accept seat ≡ false → allows seat (answer_by seat) ≡ true
    → IsAsked seat.connection (asked_by seat front) None → ⊥
none_not_answer seat front no_next no_accept may none =
    let answers : answer_by seat ≡ on.pull =
    sym (third_choice (allows seat on.next) (may_accept seat) (allows seat (answer_by seat)) on.next (on.accept (limit_of seat)) (answer_by seat) (socket_by seat front) no_next no_accept may)
    ∙ none.0 in cc

-- else it is as on a WebSocket
pub socket_none : (seat : SeatState) (front : Option Message) → allows seat on.next ≡ false → may_accept seat ≡ false → allows seat (answer_by seat) ≡ false
    → IsAsked seat.connection (asked_by seat front) None → IsAsked seat.connection (socket_by seat front) None
socket_none seat front no_next no_accept no_answer none =
    subst (λ (e : on.Event). IsAsked seat.connection e None)
    (last_choice (allows seat on.next) (may_accept seat) (allows seat (answer_by seat)) on.next (on.accept (limit_of seat)) (answer_by seat) (socket_by seat front) no_next no_accept no_answer)
    none

-- not where one is
pub none_not_some : (seat : SeatState) (asked : on.Event) (v : Event) → IsAsked seat.connection asked (Some v) → IsAsked seat.connection asked None → ⊥
none_not_some seat asked v some none =
    let yes : allows seat on.pull ≡ true = subst (λ (e : on.Event). allows seat e ≡ true) (some.0 ∙ none.0) some.1 in
    let bad : true ≡ false = sym yes ∙ none.1 in cc

-- where nothing is allowed
pub none_asked : (seat : SeatState) (front : Option Message) → ((e : on.Event) → allows seat e ≡ false) → IsAsked seat.connection (asked_by seat front) None
none_asked seat front never = (
  last_choice (allows seat on.next) (may_accept seat) (allows seat (answer_by seat)) on.next (on.accept (limit_of seat)) (answer_by seat) (socket_by seat front)
      (never on.next)
      (ap (λ (b : Bool). not (is_some seat.refusal) && b) (never (on.accept (limit_of seat))) ∙ and_false (not (is_some seat.refusal)))
      (never (answer_by seat))
      ∙ ap (λ (b : Bool). sent_by b front) (never (on.send frames.nop)),
  never on.pull,
)
