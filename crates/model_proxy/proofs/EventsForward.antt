-- A forwarder that was one so far is one behind a further event.
use Rattle.std.proofs.Common.{◌≡◌, ℕ, Bool, true, false, List, [], ◌∷◌, length, refl, sym, ap, ◌∙◌, arith, inl, Option}
use Rattle.std.specs.Prelude.{◌||◌, ◌&&◌, is_some, is_none}
use Rattle.std.specs.List.{AllByRecursion}
use Rattle.model_h1.specs.Setting.{Setting}
use Rattle.model_h1.specs.Event as on
use Rattle.model_h1.specs.Sums as sums
use Rattle.model_h1.specs.Sums.{Step}
use Rattle.model_state.specs.Kept.{Kept}
use Rattle.model_proxy.specs.Edge.{Edge}
use Rattle.model_proxy.specs.Past as past
use Rattle.model_proxy.specs.Past.{ProxyEvent, ProxyOutcome, ProxyStep, Server, client_bytes, client_written, tick_of, is_client_end, is_refusal, servers_behind, servers, server_at, numbered}
use Rattle.model_proxy.specs.Exchange.{Exchange}
use Rattle.model_proxy.specs.Forwarding.{is_there, IsTold, IsFirstOf, NewestGoesOn, AllGoOn, IsForwardedSoFar, IsForwarding, behind}
use Rattle.model_proxy.specs.Happenings.{Happenings}
use Rattle.model_proxy.specs.Carried.{ForwarderKept, Carries}
use Rattle.model_proxy.specs.Moves.{Does}
use Rattle.model_proxy.proofs.Quiet.{BringsNothing}
use Rattle.model_proxy.proofs.Events.{SaysNoBytes, LeavesServers, nothing_at, client_event_at}
use Rattle.model_proxy.proofs.SoFar.{so_far}
use Rattle.model_proxy.proofs.SentPlaces.{AreSame, AreOn}
use Rattle.model_proxy.proofs.PlacesKept.{IsSentBy, sent_by_then, same_later, on_later}
use Rattle.model_proxy.proofs.Halves.{waiting_in, IsJudged, both_halves}
use Rattle.model_proxy.proofs.SilentSteps.{IsSilent, judged_silent}
use Rattle.model_proxy.proofs.LaterSteps.{Unmoved, judged_later}

-- ---- what holds

-- What is kept is that of all that happened; the requests are those; and by them it is a forwarder so far.
pub record Tells (edge : Edge) (theirs ours : Setting) (kept : ForwarderKept) (history : List ProxyStep) (all : Happenings) (xs : List Exchange) : Type 0 where
  pub carries : Carries edge theirs ours kept history all
  pub same : AreSame history (length all.links) all.requests xs
  pub places : AreOn edge history xs all.links
  pub is : IsForwarding edge theirs history (waiting_in kept.server) all.client xs

pub judged_of : (edge : Edge) (setting : Setting) (history : List ProxyStep) (waiting : Option (List ℕ)) (trace : List Step) (xs : List Exchange)
    → IsForwardedSoFar edge setting history waiting trace xs → IsJudged edge setting history waiting trace xs
judged_of edge setting history waiting trace xs x = record {
  undrained = x.undrained;
  used = x.used;
  told = x.told;
  replied = x.replied;
  clean = x.clean;
  alone = x.alone;
  failed = x.failed;
}

-- ---- requests that go on unchanged

or_none : (a b : Bool) → a ≡ (a || (false && b))
or_none true b = refl
or_none false b = refl

unrefused : (event : ProxyEvent) (x : Exchange) → is_refusal event ≡ false → x.was_refused ≡ (x.was_refused || (is_refusal event && is_none x.server))
unrefused event x is =
    or_none x.was_refused (is_none x.server) ∙ ap (λ (b : Bool). x.was_refused || (b && is_none x.server)) (sym is)

same_go_on : (event : ProxyEvent) (waiting : Option (List ℕ)) (history : List ProxyStep) (xs : List Exchange) → is_refusal event ≡ false
    → NewestGoesOn event waiting history xs xs
same_go_on event waiting history [] is = tt
same_go_on event waiting history (x ∷ xs) is = (record { sent = inl (refl, refl); refused = unrefused event x is }, refl)

pub all_same : (event : ProxyEvent) (waiting : Option (List ℕ)) (history : List ProxyStep) (xs : List Exchange) → is_refusal event ≡ false
    → AllGoOn event waiting history xs xs
all_same event waiting history xs is = record { newer = []; older = xs; are = refl; begun = tt; go_on = same_go_on event waiting history xs is }

-- a server connection that is open was there before the step
pub there_still : (event : ProxyEvent) (waiting : Option (List ℕ)) → is_some waiting ≡ true → is_there event waiting ≡ true
there_still past.connected waiting is = refl
there_still (past.client bytes) waiting is = is
there_still (past.server bytes) waiting is = is
there_still past.client_eof waiting is = is
there_still past.server_eof waiting is = is
there_still past.refused waiting is = is
there_still (past.to_client n) waiting is = is
there_still (past.to_server n) waiting is = is
there_still (past.tick ms) waiting is = is

module _ (edge : Edge) (theirs ours : Setting) where
  pub sent_so_far : (kept : ForwarderKept) (history : List ProxyStep) (all : Happenings) (xs : List Exchange) → Tells edge theirs ours kept history all xs
      → AllByRecursion (IsSentBy (length history)) xs
  sent_so_far kept history all xs x = sent_by_then history (length all.links) all.requests xs x.same

  pub judged_now : (kept : ForwarderKept) (history : List ProxyStep) (all : Happenings) (xs : List Exchange) → Tells edge theirs ours kept history all xs
      → IsJudged edge theirs history (waiting_in kept.server) all.client xs
  judged_now kept history all xs x =
      judged_of edge theirs history (waiting_in kept.server) all.client xs (so_far edge theirs history (waiting_in kept.server) all.client xs x.is)

  -- ---- an event that leaves the servers

  pub same_servers : (event : ProxyEvent) (outcome : ProxyOutcome) (history : List ProxyStep) → LeavesServers event outcome
      → servers (record { event = event; outcome = outcome } ∷ history) ≡ servers history
  unfolding servers
  same_servers event outcome history leaves = leaves (servers history)

  pub unmoved_by : (s : ProxyStep) (history : List ProxyStep) → servers (s ∷ history) ≡ servers history → (k : ℕ) → Unmoved theirs s history k
  unmoved_by s history same k =
      record { came = ap (λ (vs : List Server). (numbered k vs).came) same; ended = ap (λ (vs : List Server). (numbered k vs).ended) same }

  later_now : (event : ProxyEvent) (outcome : ProxyOutcome) (kept : ForwarderKept) (history : List ProxyStep) (all : Happenings) (xs : List Exchange)
      → LeavesServers event outcome → Tells edge theirs ours kept history all xs
      → IsJudged edge theirs (record { event = event; outcome = outcome } ∷ history) (waiting_in kept.server) all.client xs
  later_now event outcome kept history all xs leaves x =
      let same = same_servers event outcome history leaves in
      judged_later theirs (record { event = event; outcome = outcome }) history edge (unmoved_by (record { event = event; outcome = outcome }) history same)
      (waiting_in kept.server) (waiting_in kept.server) all.client xs (sent_so_far kept history all xs x) (ap (λ (vs : List Server). length vs) same)
      (λ none. none) (judged_now kept history all xs x)

  -- it is one of the client's connection
  pub tells_client : (e : on.Event) (o : on.Outcome) (event : ProxyEvent) (outcome : ProxyOutcome) (kept : ForwarderKept) (b : Kept) → BringsNothing o
      → sums.step_taken e o ≡ client_bytes event outcome → sums.step_written o ≡ client_written event outcome → sums.tick_of e ≡ tick_of event
      → sums.is_eof e ≡ is_client_end event → is_refusal event ≡ false → LeavesServers event outcome → Does theirs e o kept.client b
      → IsSilent (record { event = e; outcome = o }) → IsTold event outcome (record { event = e; outcome = o } ∷ [])
      → (history : List ProxyStep) (all : Happenings) (xs : List Exchange) → IsFirstOf event outcome (waiting_in kept.server)
      → Tells edge theirs ours kept history all xs
      → Tells edge theirs ours (record kept { client = b }) (record { event = event; outcome = outcome } ∷ history)
      (record all { client = record { event = e; outcome = o } ∷ all.client }) xs
  tells_client e o event outcome kept b none takes gives moment ends not_refused leaves does silent told history all xs first x =
      let s : ProxyStep = record { event = event; outcome = outcome } in
      let step : Step = record { event = e; outcome = o } in
      let w = waiting_in kept.server in
      let after : Happenings = record all { client = step ∷ all.client } in
      let carries = client_event_at edge theirs ours e o event outcome kept b none takes gives moment ends not_refused leaves does history all x.carries in
      let same = same_later s history (length all.links) (length all.links) all.requests xs (omega arith) x.same in
      let places = on_later edge s history xs all.links (sent_so_far kept history all xs x) x.places in
      let judged = judged_silent edge theirs (s ∷ history) w (step ∷ []) all.client xs (silent, tt) (later_now event outcome kept history all xs leaves x) in
      record {
        carries = carries;
        same = same;
        places = places;
        is = behind s history w all.client xs w (step ∷ []) xs x.is
            (record { told = told; gave = first; opened = there_still event w })
            (all_same event w (s ∷ history) xs not_refused)
            (both_halves edge theirs ours (record kept { client = b }) (s ∷ history) after xs carries same places judged);
      }

  -- nothing happens by it
  pub tells_nothing : (event : ProxyEvent) (outcome : ProxyOutcome) (kept : ForwarderKept) → SaysNoBytes event outcome → is_refusal event ≡ false
      → LeavesServers event outcome → IsTold event outcome [] → (history : List ProxyStep) (all : Happenings) (xs : List Exchange)
      → IsFirstOf event outcome (waiting_in kept.server) → Tells edge theirs ours kept history all xs
      → Tells edge theirs ours kept (record { event = event; outcome = outcome } ∷ history) all xs
  tells_nothing event outcome kept says not_refused leaves told history all xs first x =
      let s : ProxyStep = record { event = event; outcome = outcome } in
      let w = waiting_in kept.server in
      let carries = nothing_at edge theirs ours event outcome kept says not_refused leaves history all x.carries in
      let same = same_later s history (length all.links) (length all.links) all.requests xs (omega arith) x.same in
      let places = on_later edge s history xs all.links (sent_so_far kept history all xs x) x.places in
      record {
        carries = carries;
        same = same;
        places = places;
        is = behind s history w all.client xs w [] xs x.is
            (record { told = told; gave = first; opened = there_still event w })
            (all_same event w (s ∷ history) xs not_refused)
            (both_halves edge theirs ours kept (s ∷ history) all xs carries same places (later_now event outcome kept history all xs leaves x));
      }
