-- What happens to a forwarder, what it answers, and what a list of these sums up to. The newest step stands first.
use Rattle.std.specs.Prelude.{ℕ, ◌+◌, ◌-◌, Bool, true, false, List, [], ◌∷◌, ◌++◌, length, take, drop, ◌==◌, if◌then◌else◌, Option, Some, None, unwrap_or}
use Rattle.std.specs.List.{list_any}
use Rattle.std.specs.Option.{option_or}

-- Bytes come from the client, or no more do; the same of the server; a server connection that is wanted is there, or can't be had;
-- so many bytes may be written towards the client, or towards the server; a moment has come, in milliseconds since 1970.
pub data ProxyEvent : Type 0 where
  client server : List ℕ → ProxyEvent
  client_eof server_eof connected refused : ProxyEvent
  to_client to_server tick : ℕ → ProxyEvent

-- so many bytes were taken; these are to be written; or it is done
pub data ProxyOutcome : Type 0 where
  took : ℕ → ProxyOutcome
  gave : List ℕ → ProxyOutcome
  done : ProxyOutcome

-- an event and its outcome
pub record ProxyStep : Type 0 where
  pub event : ProxyEvent
  pub outcome : ProxyOutcome

-- ---- the client's side

abbrev pub client_bytes : ProxyEvent → ProxyOutcome → List ℕ
client_bytes (client bytes) (took n) = take n bytes
client_bytes _ _ = []

-- the bytes that were taken from the client
unfoldable pub client_taken : List ProxyStep → List ℕ
client_taken [] = []
client_taken (s ∷ before) = client_taken before ++ client_bytes s.event s.outcome

abbrev pub client_written : ProxyEvent → ProxyOutcome → List ℕ
client_written (to_client n) (gave bytes) = bytes
client_written _ _ = []

-- the bytes that were given towards it
unfoldable pub client_given : List ProxyStep → List ℕ
client_given [] = []
client_given (s ∷ before) = client_given before ++ client_written s.event s.outcome

abbrev pub is_client_end : ProxyEvent → Bool
is_client_end client_eof = true
is_client_end _ = false

-- whether its input has ended
abbrev pub client_ended : List ProxyStep → Bool
client_ended history = list_any (λ s. is_client_end s.event) history

-- ---- servers

-- a step says that no server connection can be had
abbrev pub is_refusal : ProxyEvent → Bool
is_refusal refused = true
is_refusal _ = false

-- a step connects one
abbrev pub is_connection : ProxyEvent → Bool
is_connection connected = true
is_connection _ = false

-- one more, where this is so
abbrev pub counted_if : Bool → ℕ → ℕ
counted_if is n = if is then n + 1 else n

-- how many server connections couldn't be had
abbrev pub refusals : List ProxyStep → ℕ
refusals [] = 0
refusals (s ∷ before) = counted_if (is_refusal s.event) (refusals before)

-- the bytes that were taken from a server connection, whether its input has ended, and the bytes that were given towards it
pub record Server : Type 0 where
  pub came : List ℕ
  pub ended : Bool
  pub given : List ℕ

abbrev pub new_server : Server
new_server = record { came = []; ended = false; given = [] }

-- what a step makes of the newest server connection
abbrev pub changed_by : ProxyEvent → ProxyOutcome → Server → Server
changed_by (server bytes) (took n) s = record s { came = s.came ++ take n bytes }
changed_by server_eof outcome s = record s { ended = true }
changed_by (to_server n) (gave bytes) s = record s { given = s.given ++ bytes }
changed_by _ _ s = s

abbrev pub newest_changed : (Server → Server) → List Server → List Server
newest_changed change [] = []
newest_changed change (s ∷ servers) = change s ∷ servers

abbrev pub servers_behind : ProxyEvent → ProxyOutcome → List Server → List Server
servers_behind connected outcome servers = new_server ∷ servers
servers_behind event outcome servers = newest_changed (changed_by event outcome) servers

-- the server connections, the newest first: each one begins where it is connected
unfoldable pub servers : List ProxyStep → List Server
servers [] = []
servers (s ∷ before) = servers_behind s.event s.outcome (servers before)

-- the server connection with this number, of which the oldest has 0; one that isn't there has nothing
abbrev pub numbered : ℕ → List Server → Server
numbered k [] = new_server
numbered k (s ∷ older) = if k == length older then s else numbered k older

abbrev pub server_at : ℕ → List ProxyStep → Server
server_at k history = numbered k (servers history)

-- ---- moments and places in a history

abbrev pub tick_of : ProxyEvent → Option ℕ
tick_of (tick ms) = Some ms
tick_of _ = None

unfoldable pub last_tick : List ProxyStep → Option ℕ
last_tick [] = None
last_tick (s ∷ before) = option_or (tick_of s.event) (last_tick before)

-- the moment, which is 0 before the first tick
abbrev pub now : List ProxyStep → ℕ
now history = unwrap_or (last_tick history) 0

-- the first n steps
abbrev pub first_of : ℕ → List ProxyStep → List ProxyStep
first_of n history = drop (length history - n) history
