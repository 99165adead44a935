-- What one connection has asked of the board, and what it was answered.
use Rattle.std.specs.Prelude.{◌≡◌, ◌≤◌, ◌<◌, ◌+◌, ℕ, Bool, true, false, Option, Some, None, List, [], ◌++◌, length, map, option_to_list, Result, Ok}
use Rattle.http_config.specs.Causes.{Rose}
use Rattle.http_types.specs.Response.{FullResponse}
use Rattle.http_services.specs.Serving.{Serving}
use Rattle.board.specs.declared.command.Entry.{Entry}
use Rattle.board.specs.Table.{command_of}
use Rattle.board.specs.Views.{Held}
use Rattle.board.specs.Answers.{Asking, Pair, AllAnswered, MayHaveCalled}

-- The pass; the request that waits for its answer; that another one came meanwhile, and that memory ran out, after either
-- of which nothing is answered; how often nothing was answered; all requests that came; and those that were answered, each
-- with its answer.
pub record Worked : Type 0 where
  pub pass : Held
  pub waiting : Option Asking
  pub is_lost : Bool
  pub is_broken : Bool
  pub waits : ℕ
  pub calls : List Asking
  pub answers : List Pair

-- nothing was asked with the pass of this number
abbrev pub begun_work : ℕ → Worked
begun_work number =
    record {
      pass = record { number = number; entries = [] };
      waiting = None;
      is_lost = false;
      is_broken = false;
      waits = 0;
      calls = [];
      answers = [];
    }

-- the answers as a service gives them
abbrev pub answered_of : List Pair → List (Result (FullResponse Unit) (FullResponse Unit))
answered_of answers = map (λ p. Ok p.1) answers

-- as a service: it tells its calls and its answers, and never fails
abbrev pub serving_of : Worked → Serving Asking (FullResponse Unit) (FullResponse Unit)
serving_of w =
    record { called = Some w.calls; answered = Some (answered_of w.answers); faults = 0; ready_waits = 0; call_waits = w.waits }

-- memory ran out with this request: no call was made for it, or one was
abbrev pub WentFor : ℕ → Option Asking → List Entry → List Entry → Type 0
WentFor number None before after = after ≡ before
WentFor number (Some request) before after = MayHaveCalled number (command_of request.head) before after

abbrev pub Went : Bool → ℕ → Option Asking → List Entry → List Entry → Type 0
Went false number waiting before after = after ≡ before
Went true number waiting before after = WentFor number waiting before after

-- The requests that were answered are the first that came, and the one that waits is the last. Where one came while another
-- one waited, more came than were answered and wait.
abbrev pub InOrder : Bool → List Asking → List Pair → Option Asking → Type 0
InOrder false calls answers waiting = calls ≡ map (λ p. p.0) answers ++ option_to_list waiting
InOrder true calls answers waiting = length answers + 2 ≤ length calls

-- the entries of the pass are those of the answers, in order, and where memory ran out maybe one more; and then a request
-- wasn't answered
pub record IsKept (w : Worked) : Type 0 where
  pub entries : List Entry
  pub answered : AllAnswered w.pass.number w.answers [] entries
  pub went : Went w.is_broken w.pass.number w.waiting entries w.pass.entries
  pub order : InOrder w.is_lost w.calls w.answers w.waiting
  pub told : w.is_broken ≡ true → 0 < w.waits

-- how often nothing was answered, after this: each time it rises, unless it stands at its end
abbrev pub WaitsBy : {A : Type 0} → ℕ → ℕ → Option A → Type 0
WaitsBy before now None = (before ≤ now) × Rose before now
WaitsBy before now (Some answer) = now ≡ before
