-- The body of a request whose answer is complete is passed as far as it has come.
use Rattle.std.specs.Prelude.{ℕ, ◌-◌, Bool, List, [], length, drop, nat_le, if◌then◌else◌, Option, Some, None}
use Rattle.model_h1.specs.Place.{Place, after}
use Rattle.model_h1.specs.Reading.{Ending, ends_before, read}
use Rattle.model_state.specs.Kept.{Rest, no_rest, raw_rest, fixed_rest, chunks_rest, frames_rest, Reply, answered, Exchange, Kept}

-- what is then left of the body, and of the bytes
pub record Passed : Type 0 where
  pub rest : Rest
  pub unread : List ℕ

-- the bytes behind an end stay; of a body that isn't read to its end none do
abbrev pub pass_chunks : Place → List ℕ → Ending → Passed
pass_chunks place bytes (ends_before behind) = record { rest = no_rest; unread = behind }
pass_chunks place bytes _ = record { rest = chunks_rest (after place bytes) []; unread = [] }

abbrev pub pass_rest : Bool → Rest → List ℕ → Passed
pass_rest is_ended no_rest bytes = record { rest = no_rest; unread = bytes }
pass_rest is_ended raw_rest bytes = record { rest = if is_ended then no_rest else raw_rest; unread = [] }
pass_rest is_ended (fixed_rest n) bytes =
    if nat_le n (length bytes) then record { rest = no_rest; unread = drop n bytes }
    else record { rest = fixed_rest (n - length bytes); unread = [] }
pass_rest is_ended (chunks_rest place section) bytes = pass_chunks place bytes (read place bytes).ending
pass_rest is_ended (frames_rest under_way limit) bytes = record { rest = frames_rest under_way limit; unread = bytes }

-- the same of a connection, where its last answer is complete
unfoldable pub passing : Kept → Kept
passing k = by_exchange k.exchange
  where
    put : Exchange → Passed → Kept
    put x p = record k { unread = p.unread; exchange = Some (record x { rest = p.rest }) }

    by_reply : Exchange → Reply → Kept
    by_reply x (answered kind) = put x (pass_rest k.has_ended x.rest k.unread)
    by_reply x _ = k

    by_exchange : Option Exchange → Kept
    by_exchange None = k
    by_exchange (Some x) = by_reply x x.reply
