-- What was sent before, and a step that follows it.
use Rattle.std.proofs.Common.{◌≡◌, ◌<◌, ◌≤◌, ℕ, ◌+◌, ◌↔◌, Bool, true, false, List, length, inl, inr, sym, ◌∙◌, subst, arith}
use Rattle.std.specs.Prelude.{Result, Ok, Err, OnOk, IsTrue}
use Rattle.futures.specs.declared.task.Poll.{Poll}
use Rattle.futures.specs.declared.task.Poll.TheVariants.{Ready, Pending}
use Rattle.http_bodies.specs.Giving.{Given}
use Rattle.http_bodies.proofs.Histories.{rose_since, rose_still}
use Rattle.http_config.specs.Causes.{Rose}
use Rattle.http_framing.specs.declared.body.size.BodySize.{BodySize}
use Rattle.http_transport.specs.Wiring.{Wiring}
use Rattle.h1_codec.specs.declared.framed_message.Message.{Message}
use Rattle.h1_codec.specs.View.{View}
use Rattle.h1_codec.specs.Sends.{Later, Sends}
use Rattle.h1_codec.specs.Turns.{MAX_TURNS, moved, TransportWaits, IsGiven, BodyWaits, WaitsFor, GivenFew, SendsFew, Rests, FailSays, TurnSays, SendSays, WaitSays, SpentSays}
use Rattle.h1_codec.specs.declared.send_error.SendError.{SendError}
use Rattle.h1_codec.specs.declared.send_error.SendError.TheVariants.{Body, NoMemory, Transport, Codec}
use Rattle.h1_codec.specs.declared.turn.Turn.{Turn}
use Rattle.h1_codec.specs.declared.turn.Turn.TheVariants.{Goes, Waits, Over}
use Rattle.h1_codec.proofs.Whole.{sends_on, fault-trans}

pub on_ok : {A E P Q : Type 0} (r : Result A E) → (P → Q) → OnOk r P → OnOk r Q
on_ok (Ok x) f p = f p
on_ok (Err e) f p = tt

module _ {U H : Type 0} (u v w : View U H) where
  transport_behind : (woken : Bool) (more all : List ℕ) → length more ≤ length all → Later u v → TransportWaits v.transport w.transport more woken
      → TransportWaits u.transport w.transport all woken
  transport_behind woken more all less later (inl (inl rose)) =
      inl (inl (rose_since u.transport.write_waits v.transport.write_waits w.transport.write_waits later.write_waits rose))
  transport_behind woken more all less later (inl (inr rose)) =
      inl (inr (rose_since u.transport.flush_waits v.transport.flush_waits w.transport.flush_waits later.flush_waits rose))
  transport_behind woken more all less later (inr (some, is)) = inr (omega (arith, less, some), is)

  given_behind : (woken : Bool) (more all : List ℕ) → length more ≤ length all → Later u v → IsGiven v w more woken → IsGiven u w all woken
  given_behind woken more all less later (inl none) = inl none
  given_behind woken more all less later (inr transport) = inr (transport_behind woken more all less later transport)

  body_behind : Later u v → BodyWaits v w → BodyWaits u w
  body_behind later (inl ended) = inl ended
  body_behind later (inr (inl full)) = inr (inl full)
  body_behind later (inr (inr rose)) = inr (inr (rose_since u.body.waits v.body.waits w.body.waits later.body_waits rose))

  waits_behind : (woken : Bool) (given given_all : List Given) (gave gave_all : List ℕ) → length gave ≤ length gave_all
      → moved given gave v.is_ended w.is_ended ≤ moved given_all gave_all u.is_ended w.is_ended → Later u v
      → WaitsFor v w given gave woken → WaitsFor u w given_all gave_all woken
  waits_behind woken given given_all gave gave_all less fewer later (inl (transport, body)) =
      inl (transport_behind woken gave gave_all less later transport, body_behind later body)
  waits_behind woken given given_all gave gave_all less fewer later (inr (inl (rose, none))) =
      inr (inl (rose_since u.body.waits v.body.waits w.body.waits later.body_waits rose, none))
  waits_behind woken given given_all gave gave_all less fewer later (inr (inr (some, is, transport))) =
      inr (inr (omega (arith, some, fewer), is, given_behind woken gave gave_all less later transport))

-- what a test says
pub it_is : {P : Type 0} → (IsTrue true ↔ P) → P
it_is both = both.0 cc

pub it_is_not : {P : Type 0} → (IsTrue false ↔ P) → ¬ P
it_is_not both p = let never : IsTrue false = both.1 p in cc never

-- a task that is woken later
pub wakes : (old new : Wiring) (gave : List ℕ) (before woken : Bool) → woken ≡ true → TransportWaits old new gave before → TransportWaits old new gave woken
wakes old new gave before woken is (inl rose) = inl rose
wakes old new gave before woken is (inr (some, was)) = inr (some, is)

-- the answer of what asks for another poll
pub asks_again : {U H E : Type 0} (writes : U → Message (H × BodySize) → List ℕ → U → Type 0) (v w : View U H) (woken : Bool)
    (result : Poll (Result Unit (SendError E))) → result ≡ Pending → woken ≡ true → (sends : Sends writes v w) → IsGiven v w sends.gave woken
    → GivenFew 0 v w sends.given → SpentSays writes v w woken result
asks_again {E} writes v w woken result pending is sends given few =
    subst (λ (r : Poll (Result Unit (SendError E))). SpentSays writes v w woken r) (sym pending) (sends, is, given, few)

-- What was sent from u to v had at most k answers of the body, and what follows it may have n; together they are at most m.
module _ {U H E : Type 0} (writes : U → Message (H × BodySize) → List ℕ → U → Type 0) (refuses : E → U → Message (H × BodySize) → Type 0)
    (lacks : E → Type 0) (leaves : E → U → U → Type 0) (k n m : ℕ) (fits : k + n ≤ m) (u v w : View U H) (sends : Sends writes u v)
    (few : GivenFew k u v sends.given) where
  sends_behind : SendsFew writes n v w → SendsFew writes m u w
  sends_behind (more, some) =
      let all = sends_on writes u v w sends more in
      (all.0, omega (arith, all.3, few, some, fits))

  fault_behind : (number : ℕ) → FailSays writes refuses lacks leaves n v w (Body number) → FailSays writes refuses lacks leaves m u w (Body number)
  fault_behind number (more, front, is, rose, some) =
      let all = fault-trans writes number u v w sends more front is in
      (all.0, all.1, all.2, rose_since u.body.faults v.body.faults w.body.faults sends.later.body_faults rose, omega (arith, all.3, few, some, fits))

  -- an item is lost
  lost_behind : 0 < n → (error : E) → FailSays writes refuses lacks leaves n v w (Codec error) → FailSays writes refuses lacks leaves m u w (Codec error)
  lost_behind some error (inl lost) = inr (v, sends, omega (arith, few, fits, some), lost)
  lost_behind some error (inr (mid, more, fewer, lost)) =
      let all = sends_on writes u v mid sends more in
      inr (mid, all.0, omega (arith, all.3, few, fewer, fits), lost)

  pub fail_behind : 0 < n → (error : SendError E) → FailSays writes refuses lacks leaves n v w error → FailSays writes refuses lacks leaves m u w error
  fail_behind some (Body number) says = fault_behind number says
  fail_behind some NoMemory (more, takes) = (sends_behind more, sym sends.later.takes_memory ∙ takes)
  fail_behind some Transport (more, rose) = (sends_behind more, rose_since u.transport.faults v.transport.faults w.transport.faults sends.later.transport_faults rose)
  fail_behind some (Codec error) lost = lost_behind some error lost

  pub rests_behind : (woken : Bool) → Rests writes n v w woken → Rests writes m u w woken
  rests_behind woken (more, waits, some) =
      let all = sends_on writes u v w sends more in (
        all.0,
        waits_behind u v w woken more.given all.0.given more.gave all.0.gave (omega (arith, all.2)) (omega (arith, all.1)) sends.later waits,
        omega (arith, all.3, few, some, fits),
      )

  -- a turn that ended
  pub over_behind : 0 < n → (woken : Bool) (result : Result Unit (SendError E)) → TurnSays writes refuses lacks leaves n v w woken (Over result)
      → TurnSays writes refuses lacks leaves m u w woken (Over result)
  over_behind some woken (Ok x) (more, done) = (sends_behind more, done)
  over_behind some woken (Err error) says = fail_behind some error says

-- the turns of a poll are its answer
pub over_says : {U H E : Type 0} (writes : U → Message (H × BodySize) → List ℕ → U → Type 0) (refuses : E → U → Message (H × BodySize) → Type 0)
    (lacks : E → Type 0) (leaves : E → U → U → Type 0) (u w : View U H) (woken : Bool) (result : Result Unit (SendError E))
    → TurnSays writes refuses lacks leaves MAX_TURNS u w woken (Over result) → SendSays writes refuses lacks leaves u w woken (Ready result)
over_says writes refuses lacks leaves u w woken (Ok x) says = says
over_says writes refuses lacks leaves u w woken (Err error) says = says

module _ {U H E : Type 0} (writes : U → Message (H × BodySize) → List ℕ → U → Type 0) (refuses : E → U → Message (H × BodySize) → Type 0)
    (lacks : E → Type 0) (leaves : E → U → U → Type 0) (u v w : View U H) (sends : Sends writes u v) where
  -- after the head
  pub send_behind : GivenFew 0 u v sends.given → (woken : Bool) (result : Poll (Result Unit (SendError E))) → SendSays writes refuses lacks leaves v w woken result
      → SendSays writes refuses lacks leaves u w woken result
  send_behind few woken Pending says = rests_behind writes refuses lacks leaves 0 MAX_TURNS MAX_TURNS (omega arith) u v w sends few woken says
  send_behind few woken (Ready result) says =
      over_says writes refuses lacks leaves u w woken result
      (over_behind writes refuses lacks leaves 0 MAX_TURNS MAX_TURNS (omega arith) u v w sends few (omega arith) woken result (as_over result says))
    where
      as_over : (result : Result Unit (SendError E)) → SendSays writes refuses lacks leaves v w woken (Ready result)
          → TurnSays writes refuses lacks leaves MAX_TURNS v w woken (Over result)
      as_over (Ok x) says = says
      as_over (Err error) says = says

  -- the body was pending, and then what was buffered was given to the transport
  pub wait_behind : GivenFew 0 u v sends.given → (woken : Bool) (turn : Turn E) → Rose u.body.waits v.body.waits → WaitSays writes v w woken turn
      → TurnSays writes refuses lacks leaves 1 u w woken turn
  wait_behind few woken Goes rose says = absurd says
  wait_behind few woken Waits rose (more, inl none, some) =
      let all = sends_on writes u v w sends more in
      (all.0, inr (inl (rose_still u.body.waits v.body.waits w.body.waits rose more.later.body_waits, none)), omega (arith, all.3, few, some))
  wait_behind few woken Waits rose (more, inr transport, some) =
      let all = sends_on writes u v w sends more in (
        all.0,
        inl (
          transport_behind u v w woken more.gave all.0.gave (omega (arith, all.2)) sends.later transport,
          inr (inr (rose_still u.body.waits v.body.waits w.body.waits rose more.later.body_waits)),
        ),
        omega (arith, all.3, few, some),
      )
  wait_behind few woken (Over (Ok x)) rose says = absurd says
  wait_behind few woken (Over (Err Transport)) rose ((more, some), faults) =
      let all = sends_on writes u v w sends more in
      ((all.0, omega (arith, all.3, few, some)), rose_since u.transport.faults v.transport.faults w.transport.faults sends.later.transport_faults faults)
  wait_behind few woken (Over (Err (Body number))) rose says = absurd says
  wait_behind few woken (Over (Err NoMemory)) rose says = absurd says
  wait_behind few woken (Over (Err (Codec error))) rose says = absurd says

  -- at least 64 chunks and bytes moved, and then what was buffered was given to the transport
  pub spent_behind : GivenFew MAX_TURNS u v sends.given → (woken : Bool) (result : Poll (Result Unit (SendError E)))
      → 64 ≤ moved sends.given sends.gave u.is_ended v.is_ended → SpentSays writes v w woken result → SendSays writes refuses lacks leaves u w woken result
  spent_behind few woken Pending most (more, is, transport, some) =
      let all = sends_on writes u v w sends more in (
        all.0,
        inr (inr (omega (arith, most, all.1), is, given_behind u v w woken more.gave all.0.gave (omega (arith, all.2)) sends.later transport)),
        omega (arith, all.3, few, some),
      )
  spent_behind few woken (Ready (Ok x)) most says = absurd says
  spent_behind few woken (Ready (Err Transport)) most ((more, some), faults) =
      let all = sends_on writes u v w sends more in
      ((all.0, omega (arith, all.3, few, some)), rose_since u.transport.faults v.transport.faults w.transport.faults sends.later.transport_faults faults)
  spent_behind few woken (Ready (Err (Body number))) most says = absurd says
  spent_behind few woken (Ready (Err NoMemory)) most says = absurd says
  spent_behind few woken (Ready (Err (Codec error))) most says = absurd says
