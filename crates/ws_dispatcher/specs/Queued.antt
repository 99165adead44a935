-- What waits in a queue.
use Rattle.std.specs.Prelude.{List, Result, ◌<◌}
use Rattle.std.specs.VecDeque.{deque_len, deque_capacity}
use Rattle.ws_dispatcher.specs.declared.inner.queue.Message.{Message}
use Rattle.ws_dispatcher.specs.declared.inner.queue.Queue.{Queue}

-- what waits, in order
abbrev pub queued : {I E : Type 0} → Queue I E → List (Result (Message I) E)
queued queue = queue.items.items

-- one more takes no memory
abbrev pub HasRoom : {I E : Type 0} → Queue I E → Type 0
HasRoom queue = deque_len queue.items < deque_capacity queue.items
