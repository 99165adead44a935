-- A forwarder that serves its client: what is known of the newest request, and of the last one on the server connection that is open; behind each
-- event.
use Rattle.std.proofs.Common.{◌≡◌, ℕ, Bool, true, false, List, [], ◌∷◌, ◌++◌, length, map, filter, take, refl, sym, ap, ◌∙◌, subst, arith, Option, Some, None}
use Rattle.std.specs.Prelude.{⊤}
use Rattle.std.specs.List.{AllByRecursion}
use Rattle.model_h1.specs.Setting.{Setting}
use Rattle.model_h1.specs.Answer.{BodySize}
use Rattle.model_h1.specs.Event as on
use Rattle.model_h1.specs.Sums as sums
use Rattle.model_h1.specs.Sums.{Step}
use Rattle.model_h1.specs.Laws.Exchanges.{Reply, no_reply, exchanges}
use Rattle.model_h1.specs.Laws.Exchanges as replies
use Rattle.model_state.specs.Kept.{Kept}
use Rattle.model_client.specs.ClientEvent as asked
use Rattle.model_client.specs.ClientEvent.{ClientRequest}
use Rattle.model_client.specs.ClientKept.{ClientKept, fresh_client}
use Rattle.model_client.specs.ClientTrace.{Happened, IsClientTrace}
use Rattle.model_proxy.specs.Edge.{Edge}
use Rattle.model_proxy.specs.Past as past
use Rattle.model_proxy.specs.Past.{ProxyEvent, ProxyOutcome, ProxyStep, Server, client_bytes, client_written, tick_of, is_client_end, is_refusal, changed_by, servers}
use Rattle.model_proxy.specs.Exchange.{Exchange, is_on}
use Rattle.model_proxy.specs.Forwarding.{IsTold, IsFirstOf}
use Rattle.model_proxy.specs.Happenings.{Request, Link, Happenings, server_of}
use Rattle.model_proxy.specs.Carried.{ForwarderKept, UnderWay, nothing, waits, is_sent, IsWaiting}
use Rattle.model_proxy.specs.Moves.{Does, DoesAsked}
use Rattle.model_proxy.proofs.Quiet.{BringsNothing}
use Rattle.model_proxy.proofs.Events.{SaysNoBytes, LeavesServers, AddsNoText, ChangesServer}
use Rattle.model_proxy.proofs.PlacesKept.{IsSentBy}
use Rattle.model_proxy.proofs.Halves.{waiting_in}
use Rattle.model_proxy.proofs.SilentSteps.{IsSilent, silent_exchanges}
use Rattle.model_proxy.proofs.MovedSteps.{NewestIsPassed}
use Rattle.model_proxy.proofs.EventsForward.{Tells, sent_so_far, judged_now, tells_client, tells_nothing}
use Rattle.model_proxy.proofs.ServersForward.{none_there, tells_connected, tells_written, tells_came}
use Rattle.model_proxy.proofs.RefusedForward.{tells_refused}
use Rattle.model_proxy.proofs.LastSent.{LastOn, last_map, last_each, last_none, last_passed}
use Rattle.model_proxy.proofs.OnLinks.{Stage}
use Rattle.model_proxy.proofs.LinkSteps.{OnLink, later_link, IsLittle, little_link, UnusedOn, fresh_unused, little_unused, newest_server, link_passed}

-- ---- what is known

-- of the last request that was sent on the server connection that is open, if one was
abbrev pub OnServer : Setting → List ProxyStep → Option ClientKept → List Link → Stage → List Exchange → List replies.Exchange → Type 0
OnServer ours history None links stage xs fs = ⊤
OnServer ours history (Some c) [] stage xs fs = ⊥
OnServer ours history (Some c) (l ∷ links) stage xs fs = LastOn (length links) (OnLink ours history l (length links) stage) (UnusedOn ours l) xs fs

abbrev pub HasNoReply : List replies.Exchange → Type 0
HasNoReply [] = ⊥
HasNoReply (f ∷ fs) = f.reply ≡ no_reply

-- Where no request is under way, one was sent on the server connection that is open; one that waits has no reply; and one that was sent on was sent
-- on the connection that is open.
abbrev pub IsIn : UnderWay → Option ClientKept → List Link → List Exchange → List replies.Exchange → Type 0
IsIn nothing None links xs fs = ⊤
IsIn nothing (Some c) [] xs fs = ⊥
IsIn nothing (Some c) (l ∷ links) xs fs = filter (is_on (length links)) xs ≡ [] → ⊥
IsIn (waits q size whole broken) server links xs fs = HasNoReply fs
IsIn (is_sent whole broken) None links xs fs = ⊥
IsIn (is_sent whole broken) (Some c) [] xs fs = ⊥
IsIn (is_sent whole broken) (Some c) (l ∷ links) [] fs = ⊥
IsIn (is_sent whole broken) (Some c) (l ∷ links) (x ∷ xs) fs = x.server ≡ Some (length links)

pub record Serves (edge : Edge) (theirs ours : Setting) (kept : ForwarderKept) (stage : Stage) (history : List ProxyStep) (all : Happenings) (xs : List Exchange) : Type 0 where
  pub tells : Tells edge theirs ours kept history all xs
  pub last : OnServer ours history kept.server all.links stage xs (exchanges all.client)
  pub state : IsIn kept.under_way kept.server all.links xs (exchanges all.client)

-- ---- behind a further step

on_later : (ours : Setting) (s : ProxyStep) (history : List ProxyStep) (server : Option ClientKept) (links : List Link) (stage : Stage) (xs : List Exchange)
    (fs : List replies.Exchange) → AllByRecursion (IsSentBy (length history)) xs → OnServer ours history server links stage xs fs
    → OnServer ours (s ∷ history) server links stage xs fs
on_later ours s history None links stage xs fs all y = tt
on_later ours s history (Some c) [] stage xs fs all y = absurd y
on_later ours s history (Some c) (l ∷ links) stage xs fs all y =
    last_map (length links) (IsSentBy (length history)) (OnLink ours history l (length links) stage) (OnLink ours (s ∷ history) l (length links) stage)
    (UnusedOn ours l) (UnusedOn ours l) (λ x r by at z. later_link ours s history l (length links) stage x r (by (length links) at) z) (λ z. z) xs fs all y

-- whatever the server connection does, and whatever is kept of it
pub in_link : (u : UnderWay) (a b : ClientKept) (l m : Link) (links : List Link) (xs : List Exchange) (fs : List replies.Exchange) → IsIn u (Some a) (l ∷ links) xs fs
    → IsIn u (Some b) (m ∷ links) xs fs
in_link nothing a b l m links xs fs y = y
in_link (waits q size whole broken) a b l m links xs fs y = y
in_link (is_sent whole broken) a b l m links [] fs y = y
in_link (is_sent whole broken) a b l m links (x ∷ xs) fs y = y

little_on : (ours : Setting) (history : List ProxyStep) (e : Happened) (l : Link) (links : List Link) (stage : Stage) (xs : List Exchange) (fs : List replies.Exchange)
    → IsLittle e → LastOn (length links) (OnLink ours history l (length links) stage) (UnusedOn ours l) xs fs
    → LastOn (length links) (OnLink ours history (record { happened = e ∷ l.happened; sent = l.sent }) (length links) stage)
    (UnusedOn ours (record { happened = e ∷ l.happened; sent = l.sent })) xs fs
little_on ours history e l links stage xs fs little y =
    let m : Link = record { happened = e ∷ l.happened; sent = l.sent } in
    last_each (length links) (OnLink ours history l (length links) stage) (OnLink ours history m (length links) stage) (UnusedOn ours l) (UnusedOn ours m)
    (λ x r at z. little_link ours history e l m (length links) stage x x r little refl refl refl z) (λ z. little_unused ours e l m little refl z) xs fs y

module _ (edge : Edge) (theirs ours : Setting) (held : theirs.hold_size ≡ ours.hold_size) where
  -- ---- an event of the client's connection, or none

  pub serves_client : (stage : Stage) (e : on.Event) (o : on.Outcome) (event : ProxyEvent) (outcome : ProxyOutcome) (kept : ForwarderKept) (b : Kept) → BringsNothing o
      → sums.step_taken e o ≡ client_bytes event outcome → sums.step_written o ≡ client_written event outcome → sums.tick_of e ≡ tick_of event
      → sums.is_eof e ≡ is_client_end event → is_refusal event ≡ false → LeavesServers event outcome → Does theirs e o kept.client b
      → IsSilent (record { event = e; outcome = o }) → IsTold event outcome (record { event = e; outcome = o } ∷ [])
      → (history : List ProxyStep) (all : Happenings) (xs : List Exchange) → IsFirstOf event outcome (waiting_in kept.server)
      → Serves edge theirs ours kept stage history all xs
      → Serves edge theirs ours (record kept { client = b }) stage (record { event = event; outcome = outcome } ∷ history)
      (record all { client = record { event = e; outcome = o } ∷ all.client }) xs
  serves_client stage e o event outcome kept b none takes gives moment ends not_refused leaves does silent told history all xs first x =
      let s : ProxyStep = record { event = event; outcome = outcome } in
      let same : exchanges (record { event = e; outcome = o } ∷ all.client) ≡ exchanges all.client = silent_exchanges (record { event = e; outcome = o } ∷ []) all.client (silent, tt) in
      record {
        tells = tells_client edge theirs ours e o event outcome kept b none takes gives moment ends not_refused leaves does silent told history all xs first x.tells;
        last = subst (λ (fs : List replies.Exchange). OnServer ours (s ∷ history) kept.server all.links stage xs fs) (sym same)
            (on_later ours s history kept.server all.links stage xs (exchanges all.client) (sent_so_far edge theirs ours kept history all xs x.tells) x.last);
        state = subst (λ (fs : List replies.Exchange). IsIn kept.under_way kept.server all.links xs fs) (sym same) x.state;
      }

  pub serves_nothing : (stage : Stage) (event : ProxyEvent) (outcome : ProxyOutcome) (kept : ForwarderKept) → SaysNoBytes event outcome → is_refusal event ≡ false
      → LeavesServers event outcome → IsTold event outcome [] → (history : List ProxyStep) (all : Happenings) (xs : List Exchange)
      → IsFirstOf event outcome (waiting_in kept.server) → Serves edge theirs ours kept stage history all xs
      → Serves edge theirs ours kept stage (record { event = event; outcome = outcome } ∷ history) all xs
  serves_nothing stage event outcome kept says not_refused leaves told history all xs first x =
      let s : ProxyStep = record { event = event; outcome = outcome } in
      record {
        tells = tells_nothing edge theirs ours event outcome kept says not_refused leaves told history all xs first x.tells;
        last = on_later ours s history kept.server all.links stage xs (exchanges all.client) (sent_so_far edge theirs ours kept history all xs x.tells) x.last;
        state = x.state;
      }

  -- ---- a server connection is there

  pub serves_connected : (stage : Stage) (q : ClientRequest) (size : BodySize) (whole broken : Bool) (client : Kept) (history : List ProxyStep) (all : Happenings) (xs : List Exchange)
      → Serves edge theirs ours (record { client = client; server = None; under_way = waits q size whole broken }) stage history all xs
      → Serves edge theirs ours (record { client = client; server = Some fresh_client; under_way = waits q size whole broken }) stage
      (record { event = past.connected; outcome = past.done } ∷ history) (record all { links = record { happened = []; sent = [] } ∷ all.links }) xs
  serves_connected stage q size whole broken client history all xs x =
      let old : ForwarderKept = record { client = client; server = None; under_way = waits q size whole broken } in
      let s : ProxyStep = record { event = past.connected; outcome = past.done } in
      let l : Link = record { happened = []; sent = [] } in
      record {
        tells = tells_connected edge theirs ours q size whole broken client history all xs x.tells;
        last = last_none edge theirs history (length all.links) (OnLink ours (s ∷ history) l (length all.links) stage) (UnusedOn ours l)
            (fresh_unused ours []) [] xs (exchanges all.client)
            (judged_now edge theirs ours old history all xs x.tells).replied
            (none_there history (length all.links) (length all.links) all.requests xs (omega arith) x.tells.same);
        state = x.state;
      }

  -- ---- something happens on the one that is open

  pub serves_written : (stage : Stage) (n : ℕ) (bytes : List ℕ) (kept : ForwarderKept) (a b : ClientKept) → AddsNoText (asked.write n)
      → SaysNoBytes (past.to_server n) (past.gave bytes) → ChangesServer (asked.write n) (asked.gave bytes) (past.to_server n) (past.gave bytes)
      → DoesAsked ours (asked.write n) (asked.gave bytes) a b → bytes ≡ take n a.buffered
      → (history : List ProxyStep) (all : Happenings) (l : Link) (links : List Link) (xs : List Exchange) → all.links ≡ l ∷ links
      → Serves edge theirs ours (record kept { server = Some a }) stage history all xs
      → Serves edge theirs ours (record kept { server = Some b }) stage (record { event = past.to_server n; outcome = past.gave bytes } ∷ history)
      (record all { links = record { happened = record { event = asked.write n; outcome = asked.gave bytes } ∷ l.happened; sent = l.sent } ∷ links }) xs
  serves_written stage n bytes kept a b adds says changes does first history all l links xs are x =
      let s : ProxyStep = record { event = past.to_server n; outcome = past.gave bytes } in
      let e : Happened = record { event = asked.write n; outcome = asked.gave bytes } in
      record {
        tells = tells_written edge theirs ours n bytes kept a b adds says changes does first history all l links xs are x.tells;
        last = little_on ours (s ∷ history) e l links stage xs (exchanges all.client) (record { calm = refl; sound = refl; none = refl; little = tt })
            (on_later ours s history (Some a) (l ∷ links) stage xs (exchanges all.client) (sent_so_far edge theirs ours (record kept { server = Some a }) history all xs x.tells)
            (subst (λ (ls : List Link). OnServer ours history (Some a) ls stage xs (exchanges all.client)) are x.last));
        state = in_link kept.under_way a b l (record { happened = e ∷ l.happened; sent = l.sent }) links xs (exchanges all.client)
            (subst (λ (ls : List Link). IsIn kept.under_way (Some a) ls xs (exchanges all.client)) are x.state);
      }

  -- what was put passes on what came of the connection that is open
  pub passing_now : (stage : Stage) (kept : ForwarderKept) (a : ClientKept) (history : List ProxyStep) (all : Happenings) (l : Link) (links : List Link) (xs : List Exchange)
      → all.links ≡ l ∷ links → IsClientTrace ours l.happened a → Serves edge theirs ours (record kept { server = Some a }) stage history all xs
      → NewestIsPassed theirs history (length links) [] xs (exchanges all.client)
  passing_now stage kept a history all l links xs are ran x =
      let these : map server_of (l ∷ links) ≡ servers history = sym (ap (map server_of) are) ∙ x.tells.carries.forwarded.sums.servers in
      last_passed theirs history (length links) (OnLink ours history l (length links) stage) (UnusedOn ours l)
      (λ y r at z. link_passed theirs ours held history l (length links) (newest_server history l links these) a ran stage y r z) [] xs (exchanges all.client)
      (subst (λ (ls : List Link). OnServer ours history (Some a) ls stage xs (exchanges all.client)) are x.last)

  pub serves_came : (stage : Stage) (e : asked.ClientEvent) (o : asked.ClientOutcome) (event : ProxyEvent) (outcome : ProxyOutcome) (more : List ℕ) (kept : ForwarderKept) (a b : ClientKept)
      → IsLittle (record { event = e; outcome = o }) → AddsNoText e → SaysNoBytes event outcome → is_refusal event ≡ false → ChangesServer e o event outcome → DoesAsked ours e o a b
      → ((v : Server) → (changed_by event outcome v).came ≡ v.came ++ more) → IsTold event outcome [] → IsFirstOf event outcome (Some a.buffered)
      → (history : List ProxyStep) (all : Happenings) (l : Link) (links : List Link) (xs : List Exchange) → all.links ≡ l ∷ links → (server_of l).ended ≡ false
      → IsClientTrace ours l.happened a → Serves edge theirs ours (record kept { server = Some a }) stage history all xs
      → Serves edge theirs ours (record kept { server = Some b }) stage (record { event = event; outcome = outcome } ∷ history)
      (record all { links = record { happened = record { event = e; outcome = o } ∷ l.happened; sent = l.sent } ∷ links }) xs
  serves_came stage e o event outcome more kept a b little adds says not_refused changes does came told first history all l links xs are going ran x =
      let s : ProxyStep = record { event = event; outcome = outcome } in
      let h : Happened = record { event = e; outcome = o } in
      record {
        tells = tells_came edge theirs ours e o event outcome more kept a b adds says not_refused changes does came told first history all l links xs are going
            (passing_now stage kept a history all l links xs are ran x) x.tells;
        last = little_on ours (s ∷ history) h l links stage xs (exchanges all.client) little
            (on_later ours s history (Some a) (l ∷ links) stage xs (exchanges all.client) (sent_so_far edge theirs ours (record kept { server = Some a }) history all xs x.tells)
            (subst (λ (ls : List Link). OnServer ours history (Some a) ls stage xs (exchanges all.client)) are x.last));
        state = in_link kept.under_way a b l (record { happened = h ∷ l.happened; sent = l.sent }) links xs (exchanges all.client)
            (subst (λ (ls : List Link). IsIn kept.under_way (Some a) ls xs (exchanges all.client)) are x.state);
      }

  -- ---- no server connection is to be had

  pub serves_refused : (stage : Stage) (q : ClientRequest) (size : BodySize) (whole broken : Bool) (client : Kept) (history : List ProxyStep) (all : Happenings) (r : Request)
      (rs : List Request) (x : Exchange) (xs : List Exchange) (f : replies.Exchange) (fs : List replies.Exchange) → all.requests ≡ r ∷ rs
      → IsWaiting edge q size whole broken r → exchanges all.client ≡ f ∷ fs
      → Serves edge theirs ours (record { client = client; server = None; under_way = waits q size whole broken }) stage history all (x ∷ xs)
      → Serves edge theirs ours (record { client = client; server = None; under_way = nothing }) stage (record { event = past.refused; outcome = past.done } ∷ history)
      (record all { requests = record r { was_refused = true } ∷ rs }) (record x { was_refused = true } ∷ xs)
  serves_refused stage q size whole broken client history all r rs x xs f fs rs_are w fs_are y = record {
    tells = tells_refused edge theirs ours q size whole broken client None history all r rs x xs f fs rs_are tt w fs_are (subst HasNoReply fs_are y.state) y.tells;
    last = tt;
    state = tt;
  }
