-- What every member of a room is promised.
use Rattle.std.specs.Prelude.{◌≡◌, ◌≤◌, ℕ, ◌+◌, ◌==◌, List, ◌++◌, filter, length}
use Rattle.std.specs.List.{AllByRecursion}
use Rattle.model_rooms.specs.Member.{MAX_WAITING}
use Rattle.model_rooms.specs.Seen.{Seen, row_of}
use Rattle.model_rooms.specs.Due.{messages, due_messages, due, sent_to, is_data, is_close}
use Rattle.model_rooms.specs.Trace.{core_trace}
use Rattle.model_rooms.specs.Laws.{IsNoRefusal, IsPartOf}

-- The member with this number: the messages that it was sent, and then those that wait for it, are what the others said in
-- its room while it was in, each whole, once, and in the order in which they were completed; those of one sender are in the
-- order in which it said them. No frame to it was refused. At most 1025 frames wait, and at most one Close comes.
pub record IsServed (seen : List Seen) (i : ℕ) : Type 0 where
  pub hears : filter is_data (sent_to i seen ++ (row_of i seen).waiting) ≡ due i seen
  pub in_order : (j : ℕ) → IsPartOf (filter (λ m. m.number == j) (due_messages i seen)) (filter (λ m. m.number == j) (messages seen))
  pub none_refused : AllByRecursion IsNoRefusal (core_trace i seen)
  pub few_wait : length (row_of i seen).waiting ≤ MAX_WAITING + 1
  pub one_close : length (filter is_close (sent_to i seen ++ (row_of i seen).waiting)) ≤ 1
