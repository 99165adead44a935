-- What is told of the socket to the server, and what becomes of that.
use Rattle.std.specs.Prelude.{◌≡◌, ◌⊎◌, Bool, true, false, if◌then◌else◌}
use Rattle.proxy.specs.declared.proxy.Proxy.{Proxy}
use Rattle.proxy.specs.Kept.{wants_server, is_reusable}
use Rattle.proxy_loop.specs.History.{Connects, Refuses, EndsServer}
use Rattle.app_proxy.specs.Flow.{BreaksOff}
use Rattle.app_proxy.specs.declared.standing.Stage.{Stage}
use Rattle.app_proxy.specs.declared.link.Link.{Link}
use Rattle.app_proxy.specs.declared.link.Link.TheVariants as link

-- A connection that was begun is there, or can't be had: that is told where one is wanted. It is kept where it is there and wanted, and closed
-- elsewhere. Any other stays as it is.
abbrev pub Finishes : Link → Bool → Proxy → Link → Proxy → Type 0
Finishes (link.Connecting stream) true old after new = Connects old new × (after ≡ (if wants_server old then link.Open stream else link.None))
Finishes (link.Connecting stream) false old after new = Refuses old new × (after ≡ link.None)
Finishes (link.Open stream) is_there old after new = (new ≡ old) × (after ≡ link.Open stream)
Finishes link.None is_there old after new = (new ≡ old) × (after ≡ link.None)

-- A server that isn't waited for any longer. Where one doesn't connect, it is told that none can be had, where that may be told, its socket is
-- closed, and the client stays. Where an answer of another one is under way, its client is let go and nothing is told: so an answer that goes on
-- until its server ends isn't taken for a whole one. Where none is, it is told that the server has ended, where that may be told, and the client
-- stays.
abbrev pub GivesUp : Link → Link → Proxy → Stage → Stage → Proxy → Type 0
GivesUp (link.Connecting stream) after old before now new = Refuses old new × (now ≡ before) × (after ≡ link.None)
GivesUp (link.Open stream) after old before now new = BreaksOff old before now new × (after ≡ link.Open stream)
GivesUp link.None after old before now new = BreaksOff old before now new × (after ≡ link.None)

-- A connection to the server on which nothing is under way is given back: its client has it no more, and it is told that it has ended.
abbrev pub GivesBack : Link → Link → Proxy → Proxy → Type 0
GivesBack before after old new =
    ((is_reusable old ≡ false) × (new ≡ old) × (after ≡ before)) ⊎ ((is_reusable old ≡ true) × EndsServer old new × (after ≡ link.None))
