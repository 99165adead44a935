-- What a forwarder keeps stays that of all that happened, whatever event comes.
use Rattle.std.proofs.Common.{◌≡◌, ℕ, Bool, true, false, List, [], ◌∷◌, ◌++◌, map, flat_map, take, Option, Some, None, refl, sym, ap, ◌∙◌, subst, append-nil}
use Rattle.std.specs.Prelude.{is_some, unwrap_or, ◌||◌}
use Rattle.std.specs.List.{AllByRecursion}
use Rattle.std.specs.Option.{option_or}
use Rattle.model_h1.specs.Setting.{Setting}
use Rattle.model_h1.specs.Answer.{BodySize}
use Rattle.model_h1.specs.Event as on
use Rattle.model_h1.specs.Sums as sums
use Rattle.model_h1.specs.Sums.{Step}
use Rattle.model_state.specs.Kept.{Kept}
use Rattle.model_client.specs.ClientEvent as asked
use Rattle.model_client.specs.ClientEvent.{ClientRequest}
use Rattle.model_client.specs.ClientKept.{ClientKept, Waiting, SendingBody, fresh_client}
use Rattle.model_client.specs.ClientTrace.{now_of, sending_of, sending_after, text_of, text_of_event, taken, written, requests_of, requests_by}
use Rattle.model_proxy.specs.Past.{ProxyStep, ProxyEvent, ProxyOutcome, Server, new_server, client, server, client_eof, server_eof, connected, to_client, to_server, tick, took, gave, done, client_bytes, client_taken, client_written, client_given, tick_of, last_tick, now, changed_by, newest_changed, servers_behind, servers, is_client_end, is_refusal, counted_if}
use Rattle.model_proxy.specs.Past as past
use Rattle.model_proxy.specs.Exchange.{Pulled, pulled}
use Rattle.model_proxy.specs.Edge.{Edge}
use Rattle.model_proxy.specs.Forward.{is_forwardable}
use Rattle.model_proxy.specs.Happenings.{Request, Link, Happenings, all_sent, IsRightlySent, refused_count, server_of, IsLink, AreSums}
use Rattle.model_proxy.specs.Carried.{UnderWay, nothing, waits, is_sent, ForwarderKept, IsServer, IsIdle, IsWaiting, IsUnderWay, Carries, Keeps, KeepsBy}
use Rattle.model_proxy.specs.Moves.{Does, DoesAsked}
use Rattle.model_proxy.proofs.Quiet.{BringsNothing, nothing_more}

-- ---- sums

event_sums : (event : ProxyEvent) (outcome : ProxyOutcome) (history : List ProxyStep) (a b : Happenings) → AreSums history a
    → sums.taken b.client ≡ sums.taken a.client ++ client_bytes event outcome
    → sums.written b.client ≡ sums.written a.client ++ client_written event outcome
    → sums.now b.client ≡ unwrap_or (option_or (tick_of event) (last_tick history)) 0
    → map server_of b.links ≡ servers_behind event outcome (map server_of a.links)
    → sums.has_ended b.client ≡ (is_client_end event || sums.has_ended a.client)
    → refused_count b.requests ≡ counted_if (is_refusal event) (refused_count a.requests)
    → AreSums (record { event = event; outcome = outcome } ∷ history) b
unfolding client_taken client_given last_tick servers
event_sums event outcome history a b x takes gives moment came ended refused = record {
  taken = takes ∙ ap (λ (l : List ℕ). l ++ client_bytes event outcome) x.taken;
  written = gives ∙ ap (λ (l : List ℕ). l ++ client_written event outcome) x.written;
  moment = moment;
  servers = came ∙ ap (servers_behind event outcome) x.servers;
  ended = ended ∙ ap (λ (b : Bool). is_client_end event || b) x.ended;
  refused = refused ∙ ap (counted_if (is_refusal event)) x.refused;
}

later : (t u v : Option ℕ) → unwrap_or u 0 ≡ unwrap_or v 0 → unwrap_or (option_or t u) 0 ≡ unwrap_or (option_or t v) 0
later None u v same = same
later (Some ms) u v same = refl

-- the event says nothing of the client's bytes, of its end or of a moment
pub record SaysNoBytes (event : ProxyEvent) (outcome : ProxyOutcome) : Type 0 where
  pub taken : client_bytes event outcome ≡ []
  pub written : client_written event outcome ≡ []
  pub moment : tick_of event ≡ None
  pub going : is_client_end event ≡ false

-- it leaves what came from servers and was given to them
abbrev pub LeavesServers : ProxyEvent → ProxyOutcome → Type 0
LeavesServers event outcome = (ss : List Server) → servers_behind event outcome ss ≡ ss

quiet_sums : (event : ProxyEvent) (outcome : ProxyOutcome) (history : List ProxyStep) (a b : Happenings) → AreSums history a
    → SaysNoBytes event outcome → b.client ≡ a.client → map server_of b.links ≡ servers_behind event outcome (map server_of a.links)
    → refused_count b.requests ≡ counted_if (is_refusal event) (refused_count a.requests)
    → AreSums (record { event = event; outcome = outcome } ∷ history) b
quiet_sums event outcome history a b x says same came refused =
    event_sums event outcome history a b x
    (ap sums.taken same ∙ sym (append-nil (sums.taken a.client)) ∙ ap (λ (l : List ℕ). sums.taken a.client ++ l) (sym says.taken))
    (ap sums.written same ∙ sym (append-nil (sums.written a.client)) ∙ ap (λ (l : List ℕ). sums.written a.client ++ l) (sym says.written))
    (ap sums.now same ∙ x.moment ∙ ap (λ (t : Option ℕ). unwrap_or (option_or t (last_tick history)) 0) (sym says.moment))
    came
    (ap (λ (steps : List Step). sums.has_ended steps) same ∙ ap (λ (b : Bool). b || sums.has_ended a.client) (sym says.going))
    refused

-- nothing is written, or is to be, and nothing is asked
pub record AddsNoText (e : asked.ClientEvent) : Type 0 where
  pub text : (moment : ℕ) (body : Option SendingBody) → text_of_event e moment body ≡ []
  pub sending : (body : Option SendingBody) → sending_after e body ≡ body
  pub asked : requests_by e ≡ []

-- the event and its outcome change the sums of the newest server as this step does
pub record ChangesServer (e : asked.ClientEvent) (o : asked.ClientOutcome) (event : ProxyEvent) (outcome : ProxyOutcome) : Type 0 where
  pub newest : (l : Link) → server_of (record { happened = record { event = e; outcome = o } ∷ l.happened; sent = l.sent }) ≡ changed_by event outcome (server_of l)
  pub others : (s : Server) (ss : List Server) → servers_behind event outcome (s ∷ ss) ≡ changed_by event outcome s ∷ ss

-- ---- which events leave the servers

same_newest : (f : Server → Server) → ((s : Server) → f s ≡ s) → (ss : List Server) → newest_changed f ss ≡ ss
same_newest f same [] = refl
same_newest f same (s ∷ ss) = ap (λ (s : Server). s ∷ ss) (same s)

pub refused_leaves : (outcome : ProxyOutcome) → LeavesServers past.refused outcome
refused_leaves outcome = same_newest (changed_by past.refused outcome) (λ s. refl)

-- one that wasn't sent on, and can be
rightly_refused : (edge : Edge) (p : Pulled) (at : Option ℕ) → at ≡ None → is_forwardable edge p.head ≡ true → IsRightlySent edge p at true
rightly_refused edge p None is may = may
rightly_refused edge p (Some moment) is may = let no : ◌≡◌ {A = Option ℕ} (Some moment) None = is in absurd (cc no)

module _ (edge : Edge) (theirs ours : Setting) where
  -- ---- it goes on

  pub keeps_same : (k : ForwarderKept) → Keeps edge theirs ours k k
  keeps_same k = λ history all x. (all, x)

  pub keeps_then : (a b c : ForwarderKept) → Keeps edge theirs ours a b → Keeps edge theirs ours b c → Keeps edge theirs ours a c
  keeps_then a b c first second = λ history all x. let y = first history all x in second history y.0 y.1

  pub keeps_by_then : (event : ProxyEvent) (outcome : ProxyOutcome) (a b c : ForwarderKept) → KeepsBy edge theirs ours event outcome a b → Keeps edge theirs ours b c
      → KeepsBy edge theirs ours event outcome a c
  keeps_by_then event outcome a b c first second =
      λ history all x. let y = first history all x in second (record { event = event; outcome = outcome } ∷ history) y.0 y.1

  pub keeps_then_by : (event : ProxyEvent) (outcome : ProxyOutcome) (a b c : ForwarderKept) → Keeps edge theirs ours a b → KeepsBy edge theirs ours event outcome b c
      → KeepsBy edge theirs ours event outcome a c
  keeps_then_by event outcome a b c first second = λ history all x. let y = first history all x in second history y.0 y.1

  -- ---- an event by which nothing happens

  pub nothing_at : (event : ProxyEvent) (outcome : ProxyOutcome) (k : ForwarderKept) → SaysNoBytes event outcome → is_refusal event ≡ false
      → LeavesServers event outcome → (history : List ProxyStep) (all : Happenings) → Carries edge theirs ours k history all
      → Carries edge theirs ours k (record { event = event; outcome = outcome } ∷ history) all
  nothing_at event outcome k says none leaves history all x = record {
    stands = x.stands;
    server = x.server;
    under_way = x.under_way;
    forwarded = record {
      traced = x.forwarded.traced;
      sums = quiet_sums event outcome history all all x.forwarded.sums says refl (sym (leaves (map server_of all.links)))
          (ap (λ (b : Bool). counted_if b (refused_count all.requests)) (sym none));
      sent = x.forwarded.sent;
    };
  }

  pub by_nothing : (event : ProxyEvent) (outcome : ProxyOutcome) (k : ForwarderKept) → SaysNoBytes event outcome → is_refusal event ≡ false
      → LeavesServers event outcome → KeepsBy edge theirs ours event outcome k k
  by_nothing event outcome k says none leaves = λ history all x. (all, nothing_at event outcome k says none leaves history all x)

  -- ---- an event of the client's connection

  pub client_event_at : (e : on.Event) (o : on.Outcome) (event : ProxyEvent) (outcome : ProxyOutcome) (k : ForwarderKept) (b : Kept) → BringsNothing o
      → sums.step_taken e o ≡ client_bytes event outcome → sums.step_written o ≡ client_written event outcome → sums.tick_of e ≡ tick_of event
      → sums.is_eof e ≡ is_client_end event → is_refusal event ≡ false
      → LeavesServers event outcome → Does theirs e o k.client b
      → (history : List ProxyStep) (all : Happenings) → Carries edge theirs ours k history all
      → Carries edge theirs ours (record k { client = b }) (record { event = event; outcome = outcome } ∷ history)
      (record all { client = record { event = e; outcome = o } ∷ all.client })
  unfolding sums.taken sums.written sums.last_tick pulled
  client_event_at e o event outcome k b none takes gives moment ends not_refused leaves does history all x =
      let stands = does all.client x.stands in
      let new : Happenings = record all { client = record { event = e; outcome = o } ∷ all.client } in
      record {
        stands = stands;
        server = x.server;
        under_way = x.under_way;
        forwarded = record {
          traced = stands.traced;
          sums = event_sums event outcome history all new x.forwarded.sums
              (ap (λ (l : List ℕ). sums.taken all.client ++ l) takes)
              (ap (λ (l : List ℕ). sums.written all.client ++ l) gives)
              (ap (λ (t : Option ℕ). unwrap_or (option_or t (sums.last_tick all.client)) 0) moment
              ∙ later (tick_of event) (sums.last_tick all.client) (last_tick history) x.forwarded.sums.moment)
              (sym (leaves (map server_of all.links)))
              (ap (λ (b : Bool). b || sums.has_ended all.client) ends)
              (ap (λ (b : Bool). counted_if b (refused_count all.requests)) (sym not_refused));
          sent = record {
            requests = x.forwarded.sent.requests ∙ sym (nothing_more o none (pulled all.client));
            sent = x.forwarded.sent.sent;
            rightly = x.forwarded.sent.rightly;
            links = x.forwarded.sent.links;
          };
        };
      }

  pub by_client : (e : on.Event) (o : on.Outcome) (event : ProxyEvent) (outcome : ProxyOutcome) (k : ForwarderKept) (b : Kept) → BringsNothing o
      → sums.step_taken e o ≡ client_bytes event outcome → sums.step_written o ≡ client_written event outcome → sums.tick_of e ≡ tick_of event
      → sums.is_eof e ≡ is_client_end event → is_refusal event ≡ false
      → LeavesServers event outcome → Does theirs e o k.client b → KeepsBy edge theirs ours event outcome k (record k { client = b })
  by_client e o event outcome k b none takes gives moment ends not_refused leaves does = λ history all x. (
    record all { client = record { event = e; outcome = o } ∷ all.client },
    client_event_at e o event outcome k b none takes gives moment ends not_refused leaves does history all x,
  )

  -- ---- an event of a server's connection

  pub server_event_at : (e : asked.ClientEvent) (o : asked.ClientOutcome) (event : ProxyEvent) (outcome : ProxyOutcome) (k : ForwarderKept) (s t : ClientKept)
      → AddsNoText e → SaysNoBytes event outcome → is_refusal event ≡ false → ChangesServer e o event outcome → DoesAsked ours e o s t
      → (history : List ProxyStep) (all : Happenings) (l : Link) (links : List Link) → all.links ≡ l ∷ links
      → Carries edge theirs ours (record k { server = Some s }) history all
      → Carries edge theirs ours (record k { server = Some t }) (record { event = event; outcome = outcome } ∷ history)
      (record all { links = record { happened = record { event = e; outcome = o } ∷ l.happened; sent = l.sent } ∷ links })
  server_event_at e o event outcome k s t adds says not_refused changes does history all l links is x =
      let driven = does l.happened (subst (IsServer ours (Some s)) is x.server) in
      let old = subst (AllByRecursion (IsLink ours)) is x.forwarded.sent.links in
      let new : Happenings = record all { links = record { happened = record { event = e; outcome = o } ∷ l.happened; sent = l.sent } ∷ links } in
      record {
        stands = x.stands;
        server = driven;
        under_way = under k.under_way all.requests l links (subst (IsUnderWay edge k.under_way all.requests (Some s)) is x.under_way);
        forwarded = record {
          traced = x.forwarded.traced;
          sums = quiet_sums event outcome history all new x.forwarded.sums says refl
              (ap (λ (s : Server). s ∷ map server_of links) (changes.newest l) ∙ sym (changes.others (server_of l) (map server_of links))
              ∙ sym (ap (λ (links : List Link). servers_behind event outcome (map server_of links)) is))
              (ap (λ (b : Bool). counted_if b (refused_count all.requests)) (sym not_refused));
          sent = record {
            requests = x.forwarded.sent.requests;
            sent = x.forwarded.sent.sent ∙ ap (flat_map (λ (l : Link). l.sent)) is;
            rightly = x.forwarded.sent.rightly;
            links = (
              record {
                kept = t;
                driven = driven;
                text =
                    ap (λ (more : List ℕ). text_of l.happened ++ more) (adds.text (now_of l.happened) (sending_of l.happened))
                    ∙ append-nil (text_of l.happened) ∙ old.0.text;
                asked =
                    ap (λ (more : List Waiting). map (λ (w : Waiting). w.method) (requests_of l.happened ++ more)) adds.asked
                    ∙ ap (map (λ (w : Waiting). w.method)) (append-nil (requests_of l.happened)) ∙ old.0.asked;
                whole = old.0.whole;
              },
              old.1,
            );
          };
        };
      }
    where
      stepped : Link → Link
      stepped l = record { happened = record { event = e; outcome = o } ∷ l.happened; sent = l.sent }

      under : (u : UnderWay) (rs : List Request) (l : Link) (links : List Link) → IsUnderWay edge u rs (Some s) (l ∷ links)
          → IsUnderWay edge u rs (Some t) (stepped l ∷ links)
      under nothing rs l links y = y
      under (waits q size whole broken) [] l links y = absurd y
      under (waits q size whole broken) (r ∷ rs) l links y = y
      under (is_sent whole broken) [] l links y = absurd y
      under (is_sent whole broken) (r ∷ rs) l links y = record {
        moment = y.moment;
        at = y.at;
        before = y.before;
        sent = y.sent;
        marked = y.marked;
        body = λ body is. y.body body (sym (adds.sending (sending_of l.happened)) ∙ is);
        sends = λ unended long. ap (λ (o : Option SendingBody). is_some o) (adds.sending (sending_of l.happened)) ∙ y.sends unended long;
      }

  pub by_server : (e : asked.ClientEvent) (o : asked.ClientOutcome) (event : ProxyEvent) (outcome : ProxyOutcome) (k : ForwarderKept) (s t : ClientKept)
      → AddsNoText e → SaysNoBytes event outcome → is_refusal event ≡ false → ChangesServer e o event outcome → DoesAsked ours e o s t
      → KeepsBy edge theirs ours event outcome (record k { server = Some s }) (record k { server = Some t })
  by_server e o event outcome k s t adds says not_refused changes does = λ history all x. went history all all.links x refl
    where
      went : (history : List ProxyStep) (all : Happenings) (links : List Link) → Carries edge theirs ours (record k { server = Some s }) history all
          → all.links ≡ links
          → (after : Happenings) × Carries edge theirs ours (record k { server = Some t }) (record { event = event; outcome = outcome } ∷ history) after
      went history all [] x is = absurd (subst (IsServer ours (Some s)) is x.server)
      went history all (l ∷ links) x is =
          (_, server_event_at e o event outcome k s t adds says not_refused changes does history all l links is x)

  -- ---- a new connection to a server

  pub connected_at : (q : ClientRequest) (size : BodySize) (whole broken : Bool) (kept : Kept) (history : List ProxyStep) (all : Happenings)
      → Carries edge theirs ours (record { client = kept; server = None; under_way = waits q size whole broken }) history all
      → Carries edge theirs ours (record { client = kept; server = Some fresh_client; under_way = waits q size whole broken })
      (record { event = connected; outcome = done } ∷ history) (record all { links = record { happened = []; sent = [] } ∷ all.links })
  connected_at q size whole broken kept history all x =
      let l : Link = record { happened = []; sent = [] } in
      let new : Happenings = record all { links = l ∷ all.links } in
      record {
        stands = x.stands;
        server = refl;
        under_way = under all.requests all.links x.under_way;
        forwarded = record {
          traced = x.forwarded.traced;
          sums = quiet_sums connected done history all new x.forwarded.sums (record { taken = refl; written = refl; moment = refl; going = refl }) refl refl refl;
          sent = record {
            requests = x.forwarded.sent.requests;
            sent = x.forwarded.sent.sent;
            rightly = x.forwarded.sent.rightly;
            links = (record { kept = fresh_client; driven = refl; text = refl; asked = refl; whole = tt }, x.forwarded.sent.links);
          };
        };
      }
    where
      under : (rs : List Request) (links : List Link) → IsUnderWay edge (waits q size whole broken) rs None links
          → IsUnderWay edge (waits q size whole broken) rs (Some fresh_client) (record { happened = []; sent = [] } ∷ links)
      under [] links y = absurd y
      under (r ∷ rs) links y = (tt, y.1)

  pub by_connected : (q : ClientRequest) (size : BodySize) (whole broken : Bool) (kept : Kept)
      → KeepsBy edge theirs ours connected done (record { client = kept; server = None; under_way = waits q size whole broken })
      (record { client = kept; server = Some fresh_client; under_way = waits q size whole broken })
  by_connected q size whole broken kept = λ history all x.
      (record all { links = record { happened = []; sent = [] } ∷ all.links }, connected_at q size whole broken kept history all x)

  -- ---- no server connection is to be had

  -- the request that waits gets none
  pub refused_at : (q : ClientRequest) (size : BodySize) (whole broken : Bool) (kept : Kept) (server : Option ClientKept) (history : List ProxyStep) (all : Happenings)
      (r : Request) (rs : List Request) → all.requests ≡ r ∷ rs
      → Carries edge theirs ours (record { client = kept; server = server; under_way = waits q size whole broken }) history all
      → IsIdle server all.links → IsWaiting edge q size whole broken r
      → Carries edge theirs ours (record { client = kept; server = server; under_way = nothing }) (record { event = past.refused; outcome = done } ∷ history)
      (record all { requests = record r { was_refused = true } ∷ rs })
  refused_at q size whole broken kept at history all r rs rs_are x idle w =
      let new : Happenings = record all { requests = record r { was_refused = true } ∷ rs } in
      let old : refused_count all.requests ≡ refused_count rs =
      ap refused_count rs_are ∙ ap (λ (b : Bool). counted_if b (refused_count rs)) w.unrefused in
      record {
        stands = x.stands;
        server = x.server;
        under_way = idle;
        forwarded = record {
          traced = x.forwarded.traced;
          sums = quiet_sums past.refused done history all new x.forwarded.sums (record { taken = refl; written = refl; moment = refl; going = refl }) refl
              (sym (refused_leaves done (map server_of all.links))) (ap (counted_if true) (sym old));
          sent = record {
            requests = sym (ap (map (λ (r : Request). r.pulled)) rs_are) ∙ x.forwarded.sent.requests;
            sent = sym (ap (all_sent edge) rs_are) ∙ x.forwarded.sent.sent;
            rightly = (
              rightly_refused edge r.pulled r.sent_at w.unsent w.forwardable,
              (subst (AllByRecursion (λ (r : Request). IsRightlySent edge r.pulled r.sent_at r.was_refused)) rs_are x.forwarded.sent.rightly).1,
            );
            links = x.forwarded.sent.links;
          };
        };
      }

  pub by_refused : (q : ClientRequest) (size : BodySize) (whole broken : Bool) (kept : Kept) (server : Option ClientKept)
      → KeepsBy edge theirs ours past.refused done (record { client = kept; server = server; under_way = waits q size whole broken })
      (record { client = kept; server = server; under_way = nothing })
  by_refused q size whole broken kept at = λ history all x. marks history all all.requests refl x x.under_way
    where
      marks : (history : List ProxyStep) (all : Happenings) (rs : List Request) → all.requests ≡ rs
          → Carries edge theirs ours (record { client = kept; server = at; under_way = waits q size whole broken }) history all
          → IsUnderWay edge (waits q size whole broken) rs at all.links
          → (after : Happenings) × Carries edge theirs ours (record { client = kept; server = at; under_way = nothing })
          (record { event = past.refused; outcome = done } ∷ history) after
      marks history all [] rs_are x under = absurd under
      marks history all (r ∷ rs) rs_are x (idle, w) =
          (record all { requests = record r { was_refused = true } ∷ rs }, refused_at q size whole broken kept at history all r rs rs_are x idle w)

-- ---- other events that leave them

pub client_leaves : (bytes : List ℕ) (outcome : ProxyOutcome) → LeavesServers (client bytes) outcome
client_leaves bytes outcome = same_newest (changed_by (client bytes) outcome) (λ s. refl)

pub client_eof_leaves : (outcome : ProxyOutcome) → LeavesServers client_eof outcome
client_eof_leaves outcome = same_newest (changed_by client_eof outcome) (λ s. refl)

pub to_client_leaves : (n : ℕ) (outcome : ProxyOutcome) → LeavesServers (to_client n) outcome
to_client_leaves n outcome = same_newest (changed_by (to_client n) outcome) (λ s. refl)

pub tick_leaves : (ms : ℕ) (outcome : ProxyOutcome) → LeavesServers (tick ms) outcome
tick_leaves ms outcome = same_newest (changed_by (tick ms) outcome) (λ s. refl)

take_none : (bytes : List ℕ) → take 0 bytes ≡ []
take_none [] = refl
take_none (b ∷ bytes) = refl

pub server_none_leaves : (bytes : List ℕ) → LeavesServers (server bytes) (took 0)
server_none_leaves bytes = same_newest (changed_by (server bytes) (took 0)) (λ s.
    ap (λ (came : List ℕ). record { came = came; ended = s.ended; given = s.given }) (ap (λ (l : List ℕ). s.came ++ l) (take_none bytes) ∙ append-nil s.came))

-- ---- the events of a server's connection

pub read_changes : (bytes : List ℕ) (n : ℕ) → ChangesServer (asked.read bytes) (asked.took n) (server bytes) (took n)
read_changes bytes n = record {
  newest = λ l. ap (λ (b : List ℕ). record { came = taken l.happened ++ take n bytes; ended = (server_of l).ended; given = b }) (append-nil (written l.happened));
  others = λ s ss. refl;
}

pub eof_changes : ChangesServer asked.eof asked.done server_eof done
eof_changes = record {
  newest = λ l.
      ap (λ (b : List ℕ). record { came = b; ended = true; given = written l.happened ++ [] }) (append-nil (taken l.happened))
      ∙ ap (λ (b : List ℕ). record { came = taken l.happened; ended = true; given = b }) (append-nil (written l.happened));
  others = λ s ss. refl;
}

pub write_changes : (n : ℕ) (bytes : List ℕ) → ChangesServer (asked.write n) (asked.gave bytes) (to_server n) (gave bytes)
write_changes n bytes = record {
  newest = λ l. ap (λ (b : List ℕ). record { came = b; ended = (server_of l).ended; given = written l.happened ++ bytes }) (append-nil (taken l.happened));
  others = λ s ss. refl;
}

pub read_adds : (bytes : List ℕ) → AddsNoText (asked.read bytes)
read_adds bytes = record { text = λ moment body. refl; sending = λ body. refl; asked = refl }

pub eof_adds : AddsNoText asked.eof
eof_adds = record { text = λ moment body. refl; sending = λ body. refl; asked = refl }

pub write_adds : (n : ℕ) → AddsNoText (asked.write n)
write_adds n = record { text = λ moment body. refl; sending = λ body. refl; asked = refl }
