-- Who sent the requests of a run.
use Rattle.std.specs.Prelude.{◌≡◌, List}
use Rattle.std.specs.List.{AllByRecursion}
use Rattle.http_transport.specs.Peer.{PeerAddress}
use Rattle.h1_dispatcher.specs.View.{View, Asking}
use Rattle.h1_dispatcher.specs.Steps.{Step}
use Rattle.h1_dispatcher.specs.Order.{waits_in, requests, calls}

-- it is this one's
abbrev pub IsFrom : PeerAddress → Asking → Type 0
IsFrom peer asking = asking.head.peer_addr ≡ peer

abbrev pub AreFrom : PeerAddress → List Asking → Type 0
AreFrom peer askings = AllByRecursion (IsFrom peer) askings

-- The peer stays, and its are all requests that came, those that the service was called with, and the one that waits.
pub record TellsPeer (v : View) (steps : List Step) (w : View) : Type 0 where
  pub peer : w.peer ≡ v.peer
  pub came : AreFrom v.peer (requests steps)
  pub called : AreFrom v.peer (calls steps)
  pub waits : AreFrom v.peer (waits_in w.stage)
