-- All that happened to a forwarder: on its client's connection, and on each connection to a server. The newest stands first in all
-- lists.
use Rattle.std.specs.Prelude.{◌≡◌, ℕ, Bool, true, false, List, [], ◌∷◌, ◌++◌, map, flat_map, Option, Some, None, ⊤}
use Rattle.std.specs.List.{list_any, AllByRecursion}
use Rattle.model_h1.specs.Setting.{Setting}
use Rattle.model_h1.specs.Sums as sums
use Rattle.model_h1.specs.Trace.{IsTrace}
use Rattle.model_client.specs.ClientEvent as asked
use Rattle.model_client.specs.ClientEvent.{ClientEvent}
use Rattle.model_client.specs.ClientKept.{ClientKept}
use Rattle.model_client.specs.ClientTrace.{Happened, IsClientTrace, taken, written, text_of, requests_of}
use Rattle.model_proxy.specs.Edge.{Edge}
use Rattle.model_proxy.specs.Forward.{is_forwardable, Sent, forward}
use Rattle.model_proxy.specs.Past.{ProxyStep, Server, client_taken, client_given, client_ended, counted_if, refusals, servers, now}
use Rattle.model_proxy.specs.Exchange.{Pulled, pulled}

-- A request of the client: what was taken of it, the moment by which it was sent on, if it was, and whether a server connection was refused for
-- it.
pub record Request : Type 0 where
  pub pulled : Pulled
  pub sent_at : Option ℕ
  pub was_refused : Bool

-- A connection to a server: all that happened on it, and the requests that were sent on it.
pub record Link : Type 0 where
  pub happened : List Happened
  pub sent : List Sent

pub record Happenings : Type 0 where
  pub client : List sums.Step
  pub requests : List Request
  pub links : List Link

-- nothing has happened
abbrev pub nothing_happened : Happenings
nothing_happened = record { client = []; requests = []; links = [] }

-- ---- what was sent on

-- what was sent on of a request, at a moment: as much as was taken of it
abbrev pub sent_of : Edge → Pulled → ℕ → Sent
sent_of e p moment = record { edge = e; head = p.head; moment = moment; pieces = p.pieces; is_whole = p.is_ended }

abbrev pub with_sent : Edge → Pulled → Option ℕ → List Sent → List Sent
with_sent e p None ss = ss
with_sent e p (Some moment) ss = sent_of e p moment ∷ ss

-- all of the client's requests that were sent on
abbrev pub all_sent : Edge → List Request → List Sent
all_sent e [] = []
all_sent e (r ∷ rs) = with_sent e r.pulled r.sent_at (all_sent e rs)

-- the text of these requests, one after another, the oldest first
abbrev pub text_sent : List Sent → List ℕ
text_sent [] = []
text_sent (s ∷ before) = text_sent before ++ forward s

-- their methods, the oldest first
abbrev pub methods_sent : List Sent → List (List ℕ)
methods_sent [] = []
methods_sent (s ∷ before) = methods_sent before ++ s.head.method ∷ []

abbrev pub AreWhole : List Sent → Type 0
AreWhole ss = AllByRecursion (λ s. s.is_whole ≡ true) ss

-- all but the newest are whole
abbrev pub AreWholeBehind : List Sent → Type 0
AreWholeBehind [] = ⊤
AreWholeBehind (s ∷ before) = AreWhole before

-- A request that was sent on can be, and so can one for which a server connection was refused; that one wasn't.
abbrev pub IsRightlySent : Edge → Pulled → Option ℕ → Bool → Type 0
IsRightlySent e p None false = ⊤
IsRightlySent e p None true = is_forwardable e p.head ≡ true
IsRightlySent e p (Some moment) false = is_forwardable e p.head ≡ true
IsRightlySent e p (Some moment) true = ⊥

-- for how many a server connection was refused
abbrev pub refused_count : List Request → ℕ
refused_count [] = 0
refused_count (r ∷ rs) = counted_if r.was_refused (refused_count rs)

-- ---- one connection to a server

abbrev pub is_eof : ClientEvent → Bool
is_eof asked.eof = true
is_eof _ = false

-- what came from it and was given to it
abbrev pub server_of : Link → Server
server_of l = record { came = taken l.happened; ended = list_any (λ s. is_eof s.event) l.happened; given = written l.happened }

-- Each event on it was allowed and made the step of a client's connection; all that was to be written on it, written or not, is the
-- text of the requests that were sent on it, each but the newest whole, and not one byte else; and these are the requests that were
-- asked on it, so that its answers are read each to its own.
pub record IsLink (setting : Setting) (l : Link) : Type 0 where
  pub kept : ClientKept
  pub driven : IsClientTrace setting l.happened kept
  pub text : text_of l.happened ≡ text_sent l.sent
  pub asked : map (λ w. w.method) (requests_of l.happened) ≡ methods_sent l.sent
  pub whole : AreWholeBehind l.sent

-- ---- the theorem

-- What was taken from either side and given to either is what these events took and gave. The client's connection was told its end where they
-- tell it, and a server connection was refused for as many requests as they refuse.
pub record AreSums (history : List ProxyStep) (all : Happenings) : Type 0 where
  pub taken : sums.taken all.client ≡ client_taken history
  pub written : sums.written all.client ≡ client_given history
  pub moment : sums.now all.client ≡ now history
  pub servers : map server_of all.links ≡ servers history
  pub ended : sums.has_ended all.client ≡ client_ended history
  pub refused : refused_count all.requests ≡ refusals history

-- The requests are those that the client's connection handed out, with what it handed out of their bodies. Of these were sent on, each
-- on one connection to a server at most and in their order, those that stand on the connections; only such that can be sent on.
pub record AreSent (e : Edge) (setting : Setting) (all : Happenings) : Type 0 where
  pub requests : map (λ r. r.pulled) all.requests ≡ pulled all.client
  pub sent : all_sent e all.requests ≡ flat_map (λ l. l.sent) all.links
  pub rightly : AllByRecursion (λ r. IsRightlySent e r.pulled r.sent_at r.was_refused) all.requests
  pub links : AllByRecursion (IsLink setting) all.links

-- All this happened by these events of a forwarder at this edge: the client's connection did what its tables say, and what went towards each
-- server is the text of the requests that were sent on it.
pub record IsForwardedBy (e : Edge) (client server : Setting) (history : List ProxyStep) (all : Happenings) : Type 0 where
  pub traced : IsTrace client all.client
  pub sums : AreSums history all
  pub sent : AreSent e server all
