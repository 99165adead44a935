-- What of a request's body its queue gets in the steps of a run.
use Rattle.std.specs.Prelude.{◌≡◌, ◌<◌, ◌+◌, ℕ, List, [], ◌∷◌, ◌++◌, Bool, true, Option, Some, None, ⊤}
use Rattle.http_map.specs.HeaderMap.{Entries}
use Rattle.http_types.specs.declared.error.PayloadError.{PayloadError}
use Rattle.http_services.specs.Lent.{Took, joined, either_error}
use Rattle.http_services.specs.Queue.{Queue, waiting as bytes_waiting}
use Rattle.h1_payload.specs.declared.pulled.Pulled.{Pulled}
use Rattle.h1_payload.specs.declared.pulled.Pulled.TheVariants as pieces
use Rattle.h1_connection.specs.declared.connection.heads.NextHead.{NextHead}
use Rattle.h1_connection.specs.declared.connection.heads.NextHead.TheVariants as next_head
use Rattle.h1_dispatcher.specs.View.{View, Stage, free, waiting, calling, replying, sending}
use Rattle.h1_dispatcher.specs.Steps.{Step, is_bodyless, error_of, next, pulled}

-- what came of a body: its bytes, its faults, whether its end came or there is none to come, and its trailers
pub record CameBody : Type 0 where
  pub bytes : List ℕ
  pub faults : List PayloadError
  pub ended : Bool
  pub trailers : Option Entries

abbrev pub new_body : Bool → CameBody
new_body ended = record { bytes = []; faults = []; ended = ended; trailers = None }

-- after this piece of it
abbrev pub with_piece : CameBody → Pulled → CameBody
with_piece x (pieces.Bytes bytes) = record x { bytes = x.bytes ++ bytes }
with_piece x (pieces.Trailers trailers) = record x { trailers = Some trailers }
with_piece x pieces.End = record x { ended = true }
with_piece x (pieces.Broken fault) = record x { faults = error_of fault ∷ x.faults }
with_piece x pieces.Pending = x

-- the body of the head that came
abbrev pub body_at : NextHead → CameBody → CameBody
body_at (next_head.Head item) x = new_body (is_bodyless item.body)
body_at (next_head.Fault fault) x = x
body_at next_head.Pending x = x
body_at (next_head.Closed end) x = x

-- what came of the last request's body, after this came of it, and then these steps
abbrev pub step_body : CameBody → Step → CameBody
step_body x (next peer head) = body_at head x
step_body x (pulled piece) = with_piece x piece
step_body x step = x

abbrev pub body_after : CameBody → List Step → CameBody
body_after x [] = x
body_after x (d ∷ steps) = body_after (step_body x d) steps

-- none of these, or this one; of more nothing is said
abbrev pub IsOnly : List PayloadError → Option PayloadError → Type 0
IsOnly [] e = e ≡ None
IsOnly (fault ∷ []) e = e ≡ Some fault
IsOnly (fault ∷ other ∷ faults) e = ⊤

-- What a call took and what waits in the queue are together all that came of the body, once and in order: its bytes, and its
-- fault. The queue has its end exactly where that came, and its trailers where those came.
pub record IsFed (body : CameBody) (took : Took) (q : Queue) : Type 0 where
  pub bytes : took.bytes ++ joined q.chunks ≡ body.bytes
  pub fault : IsOnly body.faults (either_error took.error q.error)
  pub ended : q.ended ≡ body.ended
  pub trailers : q.trailers ≡ body.trailers

-- a call that wasn't begun took nothing
abbrev pub nothing_taken : Took
nothing_taken = record { bytes = []; error = None }

-- while the request waits for the service, or is called by a call whose taking is known
abbrev pub HasBody : CameBody → Stage → Queue → Type 0
HasBody body free q = ⊤
HasBody body (waiting request) q = IsFed body nothing_taken q
HasBody body (calling None) q = ⊤
HasBody body (calling (Some took)) q = IsFed body took q
HasBody body (replying answer) q = ⊤
HasBody body (sending sent) q = ⊤

-- Fewer bytes wait in the queue than 32768 and as many as the connection may hold, beyond those that were put back.
abbrev pub HasQueueBound : View → Type 0
HasQueueBound v = bytes_waiting v.queue.chunks < 32768 + v.traced.state.settings.h1_hold_size + v.queue.put_back
