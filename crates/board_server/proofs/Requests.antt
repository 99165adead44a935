-- The requests of a connection over a board, and their answers.
use Rattle.std.proofs.Common.{◌≡◌, ◌≤◌, ◌+◌, ℕ, Bool, true, false, Option, Some, None, List, [], ◌∷◌, ◌++◌, length, map, option_to_list, inl, refl, sym, ap, ◌∙◌, subst, append-nil, arith}
use Rattle.std.specs.List.{AllByRecursion}
use Rattle.std.proofs.lemmas.List.{length-append, length-map}
use Rattle.http_bodies.specs.Values.{holds}
use Rattle.h1_payload.specs.Rests.{SaysPulled}
use Rattle.h1_payload.specs.declared.pulled.Pulled.{Pulled}
use Rattle.h1_payload.specs.declared.pulled.Pulled.TheVariants as pieces
use Rattle.model_h1.specs.Event as on
use Rattle.h1_dispatcher.specs.View.{Answer, Stage, free, waiting, calling, replying, sending, told_response, told_result}
use Rattle.h1_dispatcher.specs.Order.{waits_in, reply_in, calls_in}
use Rattle.h1_dispatcher.specs.Traces.{Came, came_request, came_piece, AreCame}
use Rattle.board.specs.declared.command.Command.{Command}
use Rattle.board.specs.declared.command.Entry.{Entry}
use Rattle.board.specs.Table.{command_of}
use Rattle.board.specs.Answers.{Asking, Pair, MayHaveCalled}
use Rattle.board.specs.Work.{Went, InOrder, answered_of}
use Rattle.board_server.specs.Told.{AreHeads, head_in, heads_in, event_of}
use Rattle.board_server.proofs.Steps.{value_of, asked_in}
use Rattle.board_server.proofs.Bodiless.{IsBodiless, hand_of}

-- ---- heads

no_head : (piece : Pulled) (out : on.Outcome) → SaysPulled piece out → head_in out ≡ []
no_head (pieces.Bytes bytes) out says = ap head_in says
no_head (pieces.Trailers trailers) out says = ap head_in says.1
no_head pieces.End out says = ap head_in says
no_head (pieces.Broken fault) out says = ap head_in says
no_head pieces.Pending out says = ap head_in says

pub are_heads : (asks : List Came) (outs : List on.Outcome) → AreCame asks outs → AreHeads (asked_in asks) (heads_in outs)
are_heads [] [] are = tt
are_heads [] (out ∷ outs) are = absurd are
are_heads (c ∷ asks) [] are = absurd are
are_heads (came_request asking ∷ asks) (out ∷ outs) are =
    let is = are.0 in
    subst (λ l. AreHeads (asking ∷ asked_in asks) (l ++ heads_in outs)) (sym (ap head_in is.1)) (is.2, are_heads asks outs are.1)
are_heads (came_piece piece ∷ asks) (out ∷ outs) are =
    subst (λ l. AreHeads (asked_in asks) (l ++ heads_in outs)) (sym (no_head piece out are.0)) (are_heads asks outs are.1)

-- ---- answers, which have no body

abbrev pub told_of : Pair → Answer
told_of p = told_response (λ (x : Unit). holds []) p.1

pub values_are : (pairs : List Pair) → map value_of (map (told_result (λ (x : Unit). holds [])) (answered_of pairs)) ≡ map told_of pairs
values_are [] = refl
values_are (p ∷ pairs) = ap (λ l. told_of p ∷ l) (values_are pairs)

pub all_bodiless : (pairs : List Pair) → AllByRecursion IsBodiless (map told_of pairs)
all_bodiless [] = tt
all_bodiless (p ∷ pairs) = (refl, all_bodiless pairs)

pub events_are : (pairs : List Pair) → map hand_of (map told_of pairs) ≡ map (λ (p : Pair). event_of p.1) pairs
events_are [] = refl
events_are (p ∷ pairs) = ap (λ l. event_of p.1 ∷ l) (events_are pairs)

-- the one that isn't handed on
abbrev pub last_of : Stage → Option on.Event
last_of free = None
last_of (waiting request) = None
last_of (calling took) = None
last_of (replying answer) = Some (hand_of answer)
last_of (sending body) = None

pub last_is : (s : Stage) → map hand_of (reply_in s) ≡ option_to_list (last_of s)
last_is free = refl
last_is (waiting request) = refl
last_is (calling took) = refl
last_is (replying answer) = refl
last_is (sending body) = refl

-- ---- requests that wait

fewest : (s : Stage) → calls_in s ≤ 1
fewest free = omega arith
fewest (waiting request) = omega arith
fewest (calling took) = omega arith
fewest (replying answer) = omega arith
fewest (sending body) = omega arith

-- no request came while another one waited
pub not_lost : (lost : Bool) (calls : List Asking) (pairs : List Pair) (o : Option Asking) (s : Stage) → InOrder lost calls pairs o → length calls ≡ length pairs + calls_in s → InOrder false calls pairs o
not_lost false calls pairs o s order count = order
not_lost true calls pairs o s order count = absurd (too_many (length calls) (length pairs) (calls_in s) order count (fewest s))
  where
    too_many : (n m k : ℕ) → m + 2 ≤ n → n ≡ m + k → k ≤ 1 → ⊥
    too_many n m k order count few = omega (arith, order, count, few)

pub waits_count : (calls : List Asking) (pairs : List Pair) (o : Option Asking) (s : Stage) → InOrder false calls pairs o → length calls ≡ length pairs + calls_in s → length (option_to_list o) ≡ calls_in s
waits_count calls pairs o s order count =
    let all : length calls ≡ length (map (λ (p : Pair). p.0) pairs ++ option_to_list o) = ap length order in
    left_over (length calls) (length pairs) (length (option_to_list o)) (calls_in s)
    (all ∙ length-append (map (λ (p : Pair). p.0) pairs) (option_to_list o) ∙ ap (λ n. n + length (option_to_list o)) (length-map pairs (λ (p : Pair). p.0)))
    count
  where
    left_over : (n m k j : ℕ) → n ≡ m + k → n ≡ m + j → k ≡ j
    left_over n m k j a b = omega (arith, a, b)

may_stay : (number : ℕ) (command : Option Command) (a b : List Entry) → b ≡ a → MayHaveCalled number command a b
may_stay number None a b is = is
may_stay number (Some command) a b is = inl is

went_first : (broke : Bool) (number : ℕ) (request : Asking) (a b : List Entry) → Went broke number None a b → Went broke number (Some request) a b
went_first false number request a b is = is
went_first true number request a b is = may_stay number (command_of request.head) a b is

-- the request that waits at the service, or before it
pub record OneWaits (s : Stage) (o : Option Asking) : Type 0 where
  pub waiting : Option Asking
  pub are : option_to_list o ++ waits_in s ≡ option_to_list waiting
  pub went : (broke : Bool) (number : ℕ) (a b : List Entry) → Went broke number o a b → Went broke number waiting a b

one_is_none : (n : ℕ) → n ≡ 0 → n ≡ 1 → ⊥
one_is_none n none one = omega (arith, none, one)

pub one_waits : (s : Stage) (o : Option Asking) → length (option_to_list o) ≡ calls_in s → OneWaits s o
one_waits free o is = record { waiting = o; are = append-nil (option_to_list o); went = λ broke number a b w. w }
one_waits (waiting request) None is = record { waiting = Some request; are = refl; went = λ broke number a b w. went_first broke number request a b w }
one_waits (waiting request) (Some other) is = absurd (one_is_none (length (option_to_list (Some other))) is refl)
one_waits (calling took) o is = record { waiting = o; are = append-nil (option_to_list o); went = λ broke number a b w. w }
one_waits (replying answer) o is = record { waiting = o; are = append-nil (option_to_list o); went = λ broke number a b w. w }
one_waits (sending body) o is = record { waiting = o; are = append-nil (option_to_list o); went = λ broke number a b w. w }
