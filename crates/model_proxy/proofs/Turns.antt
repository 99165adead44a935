-- What a forwarder keeps stays that of all that happened, whatever it does between two events.
use Rattle.std.proofs.Common.{◌≡◌, ℕ, Bool, true, false, not, List, [], ◌∷◌, map, flat_map, Option, Some, None, refl, sym, ap, ◌∙◌, subst}
use Rattle.std.specs.Prelude.{is_some}
use Rattle.std.specs.List.{AllByRecursion}
use Rattle.model_h1.specs.Setting.{Setting}
use Rattle.model_h1.specs.Request.{Head, has_body}
use Rattle.model_h1.specs.Answer.{BodySize}
use Rattle.model_h1.specs.Event as on
use Rattle.model_h1.specs.Sums as sums
use Rattle.model_h1.specs.Sums.{Step}
use Rattle.model_state.specs.Kept.{Kept}
use Rattle.model_state.specs.StandsFor.{StandsFor}
use Rattle.model_client.specs.RequestText.{request_text, asked_shape, given_request_text}
use Rattle.model_client.specs.ClientEvent.{ClientRequest}
use Rattle.model_client.specs.ClientKept.{ClientKept, Waiting, SendingBody}
use Rattle.model_client.specs.ClientTrace.{Happened, IsClientTrace, text_of, taken, written, requests_of}
use Rattle.model_proxy.specs.Edge.{Edge}
use Rattle.model_proxy.specs.Forward.{is_forwardable, forwarded, forwarded_size}
use Rattle.model_proxy.specs.Past.{ProxyStep, Server, counted_if, servers}
use Rattle.model_proxy.specs.Exchange.{Pulled, unpulled, pulled, newest_pulled, with_head, pulled_by}
use Rattle.model_proxy.specs.Happenings.{Request, Link, Happenings, sent_of, all_sent, text_sent, methods_sent, AreWhole, AreWholeBehind, IsRightlySent, refused_count, server_of, IsLink, AreSums}
use Rattle.model_proxy.specs.Carried.{UnderWay, nothing, waits, is_sent, ForwarderKept, IsServer, IsIdle, IsUnderWay, Carries, IsNewest, Keeps}
use Rattle.model_proxy.specs.Moves.{after_outcome, HasBrought, Brings, IsQuiet, Stays}
use Rattle.model_proxy.proofs.Quiet.{BringsNothing, nothing_more}

-- ---- sums

-- what took and gave nothing keeps the sums
pub same_sums : (history : List ProxyStep) (a b : Happenings) → AreSums history a → sums.taken b.client ≡ sums.taken a.client
    → sums.written b.client ≡ sums.written a.client → sums.now b.client ≡ sums.now a.client → sums.has_ended b.client ≡ sums.has_ended a.client
    → refused_count b.requests ≡ refused_count a.requests → map server_of b.links ≡ map server_of a.links → AreSums history b
same_sums history a b x taken written moment ended refused servers = record {
  taken = taken ∙ x.taken;
  written = written ∙ x.written;
  moment = moment ∙ x.moment;
  servers = servers ∙ x.servers;
  ended = ended ∙ x.ended;
  refused = refused ∙ x.refused;
}

module _ (edge : Edge) (theirs ours : Setting) where
  -- ---- the client's side alone

  -- the client's connection brought nothing of a request
  pub client_at : (o : on.Outcome) (k : ForwarderKept) (client : Kept) → BringsNothing o → (history : List ProxyStep) (all : Happenings) (trace : List Step)
      → StandsFor theirs client trace → HasBrought o all.client trace → Carries edge theirs ours k history all
      → Carries edge theirs ours (record k { client = client }) history (record all { client = trace })
  client_at o k client none history all trace stands did x = record {
    stands = stands;
    server = x.server;
    under_way = x.under_way;
    forwarded = record {
      traced = stands.traced;
      sums = same_sums history all (record all { client = trace }) x.forwarded.sums did.taken did.written did.moment did.ended refl refl;
      sent = record {
        requests = x.forwarded.sent.requests ∙ sym (did.pulled ∙ nothing_more o none (pulled all.client));
        sent = x.forwarded.sent.sent;
        rightly = x.forwarded.sent.rightly;
        links = x.forwarded.sent.links;
      };
    };
  }

  pub keeps_client : (o : on.Outcome) (k : ForwarderKept) (client : Kept) → BringsNothing o → Brings theirs o k.client client
      → Keeps edge theirs ours k (record k { client = client })
  keeps_client o k client none brings = λ history all x.
      let did = brings all.client x.stands in
      (record all { client = did.0 }, client_at o k client none history all did.0 did.1 did.2 x)

  -- ---- the connection to a server

  -- it is closed
  pub closed_at : (k : ForwarderKept) (history : List ProxyStep) (all : Happenings) → Carries edge theirs ours k history all
      → Carries edge theirs ours (record k { server = None }) history all
  closed_at k history all x = record {
    stands = x.stands;
    server = tt;
    under_way = closed k.under_way all.requests k.server all.links x.under_way;
    forwarded = x.forwarded;
  }
    where
      closed : (u : UnderWay) (rs : List Request) (server : Option ClientKept) (links : List Link) → IsUnderWay edge u rs server links → IsUnderWay edge u rs None links
      closed nothing rs server links x = tt
      closed (waits q size whole broken) [] server links x = absurd x
      closed (waits q size whole broken) (r ∷ rs) server links x = (tt, x.1)
      closed (is_sent whole broken) [] None links x = absurd x
      closed (is_sent whole broken) [] (Some k) links x = absurd x
      closed (is_sent whole broken) (r ∷ rs) None links x = x
      closed (is_sent whole broken) (r ∷ rs) (Some k) [] x = absurd x
      closed (is_sent whole broken) (r ∷ rs) (Some k) (l ∷ links) x = (x.moment, x.at, x.marked)

  pub keeps_closed : (k : ForwarderKept) → Keeps edge theirs ours k (record k { server = None })
  keeps_closed k = λ history all x. (all, closed_at k history all x)

  -- it did something of its own: nothing was written towards it
  pub same_server : (l : Link) (new : List Happened) → IsQuiet l.happened new → server_of (record { happened = new; sent = l.sent }) ≡ server_of l
  same_server l new q =
      ap (λ (came : List ℕ). record { came = came; ended = (server_of (record { happened = new; sent = l.sent })).ended; given = written new }) q.taken
      ∙ ap (λ (given : List ℕ). record { came = taken l.happened; ended = (server_of (record { happened = new; sent = l.sent })).ended; given = given }) q.written
      ∙ ap (λ (ended : Bool). record { came = taken l.happened; ended = ended; given = written l.happened }) q.ended

  under_quiet : (u : UnderWay) (rs : List Request) (l : Link) (links : List Link) (a b : ClientKept) (new : List Happened) → IsQuiet l.happened new
      → IsUnderWay edge u rs (Some a) (l ∷ links) → IsUnderWay edge u rs (Some b) (record { happened = new; sent = l.sent } ∷ links)
  under_quiet nothing rs l links a b new q y = y
  under_quiet (waits w size whole broken) [] l links a b new q y = absurd y
  under_quiet (waits w size whole broken) (r ∷ rs) l links a b new q y = y
  under_quiet (is_sent whole broken) [] l links a b new q y = absurd y
  under_quiet (is_sent whole broken) (r ∷ rs) l links a b new q y = record {
    moment = y.moment;
    at = y.at;
    before = y.before;
    sent = y.sent;
    marked = y.marked;
    body = λ body says. y.body body (sym q.sending ∙ says);
    sends = λ unended long. ap (λ (o : Option SendingBody). is_some o) q.sending ∙ y.sends unended long;
  }

  pub server_at : (k : ForwarderKept) (a b : ClientKept) (history : List ProxyStep) (all : Happenings) (l : Link) (links : List Link) (new : List Happened)
      → all.links ≡ l ∷ links → IsClientTrace ours new b → IsQuiet l.happened new → Carries edge theirs ours (record k { server = Some a }) history all
      → Carries edge theirs ours (record k { server = Some b }) history (record all { links = record { happened = new; sent = l.sent } ∷ links })
  server_at k a b history all l links new are driven quiet x =
      let old = subst (AllByRecursion (IsLink ours)) are x.forwarded.sent.links in
      let after : Happenings = record all { links = record { happened = new; sent = l.sent } ∷ links } in
      record {
        stands = x.stands;
        server = driven;
        under_way = under_quiet k.under_way all.requests l links a b new quiet (subst (IsUnderWay edge k.under_way all.requests (Some a)) are x.under_way);
        forwarded = record {
          traced = x.forwarded.traced;
          sums = same_sums history all after x.forwarded.sums refl refl refl refl refl
              (ap (λ (s : Server). s ∷ map server_of links) (same_server l new quiet) ∙ sym (ap (map server_of) are));
          sent = record {
            requests = x.forwarded.sent.requests;
            sent = x.forwarded.sent.sent ∙ ap (flat_map (λ (l : Link). l.sent)) are;
            rightly = x.forwarded.sent.rightly;
            links = (
              record {
                kept = b;
                driven = driven;
                text = quiet.text ∙ old.0.text;
                asked = ap (map (λ (w : Waiting). w.method)) quiet.asked ∙ old.0.asked;
                whole = old.0.whole;
              },
              old.1,
            );
          };
        };
      }

  pub keeps_server : (k : ForwarderKept) (a b : ClientKept) → Stays ours a b
      → Keeps edge theirs ours (record k { server = Some a }) (record k { server = Some b })
  keeps_server k a b stays = λ history all x. went history all all.links x refl
    where
      went : (history : List ProxyStep) (all : Happenings) (links : List Link) → Carries edge theirs ours (record k { server = Some a }) history all
          → all.links ≡ links → (after : Happenings) × Carries edge theirs ours (record k { server = Some b }) history after
      went history all [] x is = absurd (subst (IsServer ours (Some a)) is x.server)
      went history all (l ∷ links) x is =
          let did = stays l.happened (subst (IsServer ours (Some a)) is x.server) in
          (record all { links = record { happened = did.0; sent = l.sent } ∷ links }, server_at k a b history all l links did.0 is did.1 did.2 x)

  -- ---- the request that is under way

  pub head_at : (h : Head) (server : Option ClientKept) (a b : Kept) (history : List ProxyStep) (all : Happenings) (trace : List Step)
      → StandsFor theirs b trace → HasBrought (on.head h) all.client trace → Carries edge theirs ours (record { client = a; server = server; under_way = nothing }) history all
      → Carries edge theirs ours (record { client = b; server = server; under_way = nothing }) history
      (record all { client = trace; requests = record { pulled = unpulled h; sent_at = None; was_refused = false } ∷ all.requests })
  head_at h server a b history all trace stands did x =
      let r : Request = record { pulled = unpulled h; sent_at = None; was_refused = false } in
      let new : Happenings = record all { client = trace; requests = r ∷ all.requests } in
      record {
        stands = stands;
        server = x.server;
        under_way = x.under_way;
        forwarded = record {
          traced = stands.traced;
          sums = same_sums history all new x.forwarded.sums did.taken did.written did.moment did.ended refl refl;
          sent = record {
            requests = ap (λ ps. unpulled h ∷ ps) (x.forwarded.sent.requests ∙ sym (none_pulled (pulled all.client))) ∙ sym did.pulled;
            sent = x.forwarded.sent.sent;
            rightly = (tt, x.forwarded.sent.rightly);
            links = x.forwarded.sent.links;
          };
        };
      }
    where
      none_pulled : (ps : List Pulled) → newest_pulled (on.head h) ps ≡ ps
      none_pulled [] = refl
      none_pulled (p ∷ ps) = refl

  pub keeps_head : (h : Head) (server : Option ClientKept) (a b : Kept) (history : List ProxyStep) (all : Happenings) (trace : List Step)
      → StandsFor theirs b trace → HasBrought (on.head h) all.client trace → Carries edge theirs ours (record { client = a; server = server; under_way = nothing }) history all
      → (after : Happenings) × Carries edge theirs ours (record { client = b; server = server; under_way = nothing }) history after × IsNewest h after
  keeps_head h server a b history all trace stands did x =
      let r : Request = record { pulled = unpulled h; sent_at = None; was_refused = false } in (
        record all { client = trace; requests = r ∷ all.requests },
        head_at h server a b history all trace stands did x,
        record { newest = r; others = all.requests; are = refl; pulled = refl; unsent = refl; unrefused = refl },
      )

  -- it waits to be sent on
  pub keeps_waiting : (h : Head) (q : ClientRequest) (size : BodySize) (whole broken : Bool) (client : Kept) (server : Option ClientKept) → is_forwardable edge h ≡ true
      → q.head.method ≡ h.method
      → whole ≡ not (has_body h.body)
      → broken ≡ false
      → size ≡ forwarded_size h
      → ((moment : ℕ) → request_text q.head (asked_shape size) size q.connection moment ≡ given_request_text (forwarded (sent_of edge (unpulled h) moment)))
      → (history : List ProxyStep) (all : Happenings) → Carries edge theirs ours (record { client = client; server = server; under_way = nothing }) history all
      → IsNewest h all → Carries edge theirs ours (record { client = client; server = server; under_way = waits q size whole broken }) history all
  keeps_waiting h q size whole broken client server may method is_whole unbroken sized text history all x newest = record {
    stands = x.stands;
    server = x.server;
    under_way = subst (λ (rs : List Request). IsUnderWay edge (waits q size whole broken) rs server all.links) (sym newest.are) (
      x.under_way,
      record {
        unsent = newest.unsent;
        unrefused = newest.unrefused;
        untaken = newest.pulled ∙ ap (λ (p : Pulled). unpulled p.head) (sym newest.pulled);
        forwardable = ap (λ (p : Pulled). is_forwardable edge p.head) newest.pulled ∙ may;
        method = method ∙ sym (ap (λ (p : Pulled). p.head.method) newest.pulled);
        whole = is_whole ∙ sym (ap (λ (p : Pulled). not (has_body p.head.body)) newest.pulled);
        unbroken = unbroken;
        sized = sized ∙ sym (ap (λ (p : Pulled). forwarded_size p.head) newest.pulled);
        text = λ moment. text moment ∙ sym (ap (λ (p : Pulled). given_request_text (forwarded (sent_of edge p moment))) newest.pulled);
      },
    );
    forwarded = x.forwarded;
  }

  -- its server connection is closed
  pub left_at : (whole broken : Bool) (client : Kept) (history : List ProxyStep) (all : Happenings)
      → Carries edge theirs ours (record { client = client; server = None; under_way = is_sent whole broken }) history all
      → Carries edge theirs ours (record { client = client; server = None; under_way = nothing }) history all
  left_at whole broken client history all x = record { stands = x.stands; server = tt; under_way = tt; forwarded = x.forwarded }

  pub keeps_left : (whole broken : Bool) (client : Kept)
      → Keeps edge theirs ours (record { client = client; server = None; under_way = is_sent whole broken }) (record { client = client; server = None; under_way = nothing })
  keeps_left whole broken client = λ history all x. (all, left_at whole broken client history all x)

  -- it is whole, and its answer
  pub whole_at : (broken : Bool) (client : Kept) (server : Option ClientKept) (history : List ProxyStep) (all : Happenings)
      → Carries edge theirs ours (record { client = client; server = server; under_way = is_sent true broken }) history all
      → Carries edge theirs ours (record { client = client; server = server; under_way = nothing }) history all
  whole_at broken client server history all x = record {
    stands = x.stands;
    server = x.server;
    under_way = idle server all.requests all.links x.under_way x.forwarded.sent.links;
    forwarded = x.forwarded;
  }
    where
      idle : (server : Option ClientKept) (rs : List Request) (links : List Link) → IsUnderWay edge (is_sent true broken) rs server links → AllByRecursion (IsLink ours) links
          → IsIdle server links
      idle None rs links y all = tt
      idle (Some k) [] links y all = absurd y
      idle (Some k) (r ∷ rs) [] y all = absurd y
      idle (Some k) (r ∷ rs) (l ∷ links) y all =
          subst AreWhole (sym y.sent) (sym y.marked.whole, subst AreWholeBehind y.sent all.0.whole)

  pub keeps_whole : (broken : Bool) (client : Kept) (server : Option ClientKept)
      → Keeps edge theirs ours (record { client = client; server = server; under_way = is_sent true broken }) (record { client = client; server = server; under_way = nothing })
  keeps_whole broken client server = λ history all x. (all, whole_at broken client server history all x)

  -- ---- the newest request and the connection that is there, together

  -- both change: nothing is taken or given
  pub changed : (o : on.Outcome) (a b : Kept) (s t : ClientKept) (u v : UnderWay) (r r' : Request) (rs : List Request) (l l' : Link) (links : List Link)
      (history : List ProxyStep) (all : Happenings) (trace : List Step) → all.requests ≡ r ∷ rs → all.links ≡ l ∷ links
      → Carries edge theirs ours (record { client = a; server = Some s; under_way = u }) history all → StandsFor theirs b trace → HasBrought o all.client trace
      → sums.head_of o ≡ None → r'.pulled ≡ pulled_by o r.pulled → r'.was_refused ≡ r.was_refused → server_of l' ≡ server_of l
      → all_sent edge (r' ∷ rs) ≡ flat_map (λ (l : Link). l.sent) (l' ∷ links) → IsRightlySent edge r'.pulled r'.sent_at r'.was_refused
      → IsClientTrace ours l'.happened t → text_of l'.happened ≡ text_sent l'.sent
      → map (λ (w : Waiting). w.method) (requests_of l'.happened) ≡ methods_sent l'.sent → AreWholeBehind l'.sent
      → IsUnderWay edge v (r' ∷ rs) (Some t) (l' ∷ links)
      → Carries edge theirs ours (record { client = b; server = Some t; under_way = v }) history
      (record { client = trace; requests = r' ∷ rs; links = l' ∷ links })
  changed o a b s t u v r r' rs l l' links history all trace requests_are links_are x stands did none pulled_is refused_is same sent_is right driven text asked whole under =
      let new : Happenings = record { client = trace; requests = r' ∷ rs; links = l' ∷ links } in
      record {
        stands = stands;
        server = driven;
        under_way = under;
        forwarded = record {
          traced = stands.traced;
          sums = same_sums history all new x.forwarded.sums did.taken did.written did.moment did.ended
              (ap (λ (b : Bool). counted_if b (refused_count rs)) refused_is ∙ sym (ap refused_count requests_are))
              (ap (λ (s : Server). s ∷ map server_of links) same ∙ sym (ap (map server_of) links_are));
          sent = record {
            requests =
                ap (λ (p : Pulled). p ∷ map (λ (r : Request). r.pulled) rs) pulled_is
                ∙ ap (λ h. with_head h (pulled_by o r.pulled ∷ map (λ (r : Request). r.pulled) rs)) (sym none)
                ∙ ap (λ (rs : List Request). after_outcome o (map (λ (r : Request). r.pulled) rs)) (sym requests_are)
                ∙ ap (after_outcome o) x.forwarded.sent.requests
                ∙ sym did.pulled;
            sent = sent_is;
            rightly = (right, (subst (AllByRecursion (λ (r : Request). IsRightlySent edge r.pulled r.sent_at r.was_refused)) requests_are x.forwarded.sent.rightly).1);
            links = (
              record { kept = t; driven = driven; text = text; asked = asked; whole = whole },
              (subst (AllByRecursion (IsLink ours)) links_are x.forwarded.sent.links).1,
            );
          };
        };
      }
