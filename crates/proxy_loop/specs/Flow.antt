-- Bytes between sockets and a forwarder.
use Rattle.std.specs.Prelude.{◌≡◌, ℕ, ◌<◌, Bool, true, false, List, [], length, take, Option, Some, None}
use Rattle.std.specs.Io.KnownBytes.{Consumes, Keeps, IsAtEnd, Appends}
use Rattle.http_config.specs.Causes.{counted}
use Rattle.model_h1.specs.Event as on
use Rattle.model_client.specs.ClientEvent as asked
use Rattle.model_proxy.specs.Past.{ProxyEvent, took, gave}
use Rattle.proxy.specs.declared.proxy.Proxy.{Proxy}
use Rattle.proxy.specs.Kept.{server_of, client_takes, server_allows}
use Rattle.proxy_loop.specs.History.{ForwarderDoes}
use Rattle.proxy_loop.specs.declared.flow.TakenIn.{TakenIn}
use Rattle.proxy_loop.specs.declared.flow.TakenIn.TheVariants as came

-- nothing came, and the forwarder was told of nothing
abbrev pub Stays : Proxy → Option (List ℕ) → Option (List ℕ) → Proxy → Type 0
Stays old left rest new = (new ≡ old) × Consumes left rest []

-- What a read brought: the bytes that left the source are those that the forwarder was told by the event, and it took them all.
abbrev pub Told : (List ℕ → ProxyEvent) → ℕ → Proxy → Option (List ℕ) → Option (List ℕ) → Proxy → List ℕ → Type 0
Told event count old left rest new bytes = Consumes left rest bytes × ForwarderDoes (event bytes) (took count) old new

-- At the end, and where nothing came, it was told of nothing.
abbrev pub TakesIn : (List ℕ → ProxyEvent) → Proxy → Option (List ℕ) → Option (List ℕ) → TakenIn → Proxy → Type 0
TakesIn event old left rest (came.Bytes n) new = (bytes : List ℕ) × (length bytes ≡ n) × Told event n old left rest new bytes
TakesIn event old left rest came.End new = Stays old left rest new × IsAtEnd rest
TakesIn event old left rest came.Failed new = Stays old left rest new
TakesIn event old left rest came.Full new = Stays old left rest new

-- Of the bytes that waited the first so many were written, and no others, and the forwarder gave them. Where nothing was written
-- it was told of nothing.
abbrev pub Writes : (ℕ → ProxyEvent) → List ℕ → Proxy → Option (List ℕ) → Option (List ℕ) → Option ℕ → Proxy → Type 0
Writes event waited old given after (Some n) new = Appends given after (take n waited) × ForwarderDoes (event n) (gave (take n waited)) old new
Writes event waited old given after None new = Keeps given after × (new ≡ old)

-- ---- causes

-- Of so many bytes that there was room for: the source was asked unless there was room for none, and failed only where it counted a fault.
abbrev pub HasReadCause : ℕ → ℕ → ℕ → TakenIn → Type 0
HasReadCause limit before now (came.Bytes n) = (0 < n) × (now ≡ before)
HasReadCause limit before now came.End = now ≡ before
HasReadCause limit before now came.Failed = now ≡ counted before
HasReadCause limit before now came.Full = (limit ≡ 0) × (now ≡ before)

-- bytes may be written towards a side
abbrev pub may_write_client : Proxy → Bool
may_write_client p = client_takes p (on.write 0)

abbrev pub may_write_server : Proxy → Bool
may_write_server p = server_allows (server_of p) (asked.write 0)

-- Where something might be written, it wasn't only where the sink counted a fault.
abbrev pub HasWriteCause : Bool → ℕ → ℕ → Option ℕ → Type 0
HasWriteCause allowed before now (Some n) = now ≡ before
HasWriteCause true before now None = now ≡ counted before
HasWriteCause false before now None = now ≡ before
