-- A forwarder that is one behind an event is one behind each turn that takes more of a request's body.
use Rattle.std.proofs.Common.{◌≡◌, ◌⊎◌, ℕ, Bool, true, suc, List, [], ◌∷◌, ◌++◌, length, refl, sym, ap, ◌∙◌, subst, inl, inr, Option, Some, None}
use Rattle.std.specs.Prelude.{IsTrue}
use Rattle.std.specs.List.{AllByRecursion}
use Rattle.model_h1.specs.Setting.{Setting}
use Rattle.model_h1.specs.Event as on
use Rattle.model_h1.specs.Sums.{Step}
use Rattle.model_state.specs.Kept.{Kept}
use Rattle.model_state.specs.StandsFor.{StandsFor}
use Rattle.model_client.specs.ClientEvent as asked
use Rattle.model_client.specs.ClientKept.{ClientKept, client_allows}
use Rattle.model_client.specs.ClientStep.{IsClientStep}
use Rattle.model_client.specs.ClientTrace.{Happened, IsClientTrace}
use Rattle.model_proxy.specs.Edge.{Edge}
use Rattle.model_proxy.specs.Forward.{Sent}
use Rattle.model_proxy.specs.Past.{ProxyStep, now, first_of}
use Rattle.model_proxy.specs.Exchange.{Pulled, Exchange}
use Rattle.model_proxy.specs.Happenings.{Request, Link, Happenings}
use Rattle.model_proxy.specs.Happenings as happened
use Rattle.model_proxy.specs.Carried.{ForwarderKept, UnderWay, is_sent, IsSentOn, Carries}
use Rattle.model_proxy.specs.Moves.{HasBrought}
use Rattle.model_proxy.proofs.Sends.{piece_at, end_at, broken_at}
use Rattle.model_proxy.proofs.SentPlaces.{IsPlaced, AreSame, AreOn}
use Rattle.model_proxy.proofs.PlacesKept.{same_taken, on_taken}
use Rattle.model_proxy.proofs.Halves.{IsJudged}
use Rattle.model_proxy.proofs.SilentSteps.{IsSilent, judged_silent}
use Rattle.model_proxy.proofs.TurnMoves.{judged_taken}
use Rattle.model_proxy.proofs.EventsForward.{Tells, judged_now}
use Rattle.model_proxy.proofs.TurnsForward.{newest_stays, still_open, tells_turn}

module _ (edge : Edge) (theirs ours : Setting) (s : ProxyStep) (history : List ProxyStep) where
  dated_by : (count moment : ℕ) (r : Request) (x : Exchange) → r.sent_at ≡ Some moment
      → ((x.server ≡ None) × (r.sent_at ≡ None)) ⊎ IsPlaced (s ∷ history) count r x → now (first_of x.sent_at (s ∷ history)) ≡ moment
  dated_by count moment r x at (inl none) = let no : ◌≡◌ {A = Option ℕ} None (Some moment) = sym none.1 ∙ at in absurd (cc no)
  dated_by count moment r x at (inr p) =
      let both : Some (now (first_of x.sent_at (s ∷ history))) ≡ Some moment = sym p.at ∙ at in
      let is : now (first_of x.sent_at (s ∷ history)) ≡ moment = cc in
      is

  -- by what is made of what was taken of it
  taken_turn : (change : Pulled → Pulled) (a b : Kept) (c d : ClientKept) (u v : UnderWay) (all : Happenings) (more : List Step) (r : Request) (rs : List Request)
      (l : Link) (links : List Link) (new : List Happened) (moment : ℕ) (before : List Sent) (x : Exchange) (xs : List Exchange)
      → all.requests ≡ r ∷ rs → all.links ≡ l ∷ links → x.server ≡ Some (length links) → r.sent_at ≡ Some moment
      → l.sent ≡ happened.sent_of edge r.pulled moment ∷ before → AllByRecursion IsSilent more
      → ((waiting : Option (List ℕ)) (trace : List Step) → IsJudged edge theirs (s ∷ history) waiting trace (x ∷ xs)
      → IsJudged edge theirs (s ∷ history) waiting trace (record x { pulled = change x.pulled } ∷ xs))
      → Carries edge theirs ours (record { client = b; server = Some d; under_way = v }) (s ∷ history) (record {
        client = more ++ all.client;
        requests = record { pulled = change r.pulled; sent_at = r.sent_at; was_refused = r.was_refused } ∷ rs;
        links = record { happened = new; sent = happened.sent_of edge (change r.pulled) moment ∷ before } ∷ links;
      })
      → Tells edge theirs ours (record { client = a; server = Some c; under_way = u }) (s ∷ history) all (x ∷ xs)
      → Tells edge theirs ours (record { client = b; server = Some d; under_way = v }) (s ∷ history) (record {
        client = more ++ all.client;
        requests = record { pulled = change r.pulled; sent_at = r.sent_at; was_refused = r.was_refused } ∷ rs;
        links = record { happened = new; sent = happened.sent_of edge (change r.pulled) moment ∷ before } ∷ links;
      }) (record x { pulled = change x.pulled } ∷ xs)
  taken_turn change a b c d u v all more r rs l links new moment before x xs rs_are links_are at sent_at sent silent judges carries t =
      let old : ForwarderKept = record { client = a; server = Some c; under_way = u } in
      let count : length all.links ≡ suc (length links) = ap (λ (ls : List Link). length ls) links_are in
      let r' : Request = record { pulled = change r.pulled; sent_at = r.sent_at; was_refused = r.was_refused } in
      let same = subst (λ (n : ℕ). AreSame (s ∷ history) n (r ∷ rs) (x ∷ xs)) count
      (subst (λ (qs : List Request). AreSame (s ∷ history) (length all.links) qs (x ∷ xs)) rs_are t.same) in
      let m : Link = record { happened = new; sent = happened.sent_of edge (change r.pulled) moment ∷ before } in
      let dated = dated_by (suc (length links)) moment r x sent_at same.0.placed in
      let places = on_taken edge (s ∷ history) moment r x xs (change r.pulled) l links new before at same.0.pulled dated sent
      (subst (AreOn edge (s ∷ history) (x ∷ xs)) links_are t.places) in
      tells_turn edge theirs ours s history old (record { client = b; server = Some d; under_way = v }) all more (r' ∷ rs) (m ∷ links) (x ∷ xs)
      (record x { pulled = change x.pulled } ∷ xs) t carries
      (subst (λ (p : Pulled). AreSame (s ∷ history) (suc (length links)) (r' ∷ rs) (record x { pulled = change p } ∷ xs)) (sym same.0.pulled)
      (same_taken (s ∷ history) (suc (length links)) r rs x xs (change r.pulled) same))
      (subst (λ (p : Pulled). AreOn edge (s ∷ history) (record x { pulled = change p } ∷ xs) (m ∷ links)) (sym same.0.pulled) places)
      (λ is. refl)
      (newest_stays (Some c.buffered) (s ∷ history) x (record x { pulled = change x.pulled }) xs refl refl refl)
      (still_open edge theirs (s ∷ history) (Some c.buffered) d.buffered (more ++ all.client) (record x { pulled = change x.pulled } ∷ xs)
      (judges (Some c.buffered) (more ++ all.client)
      (judged_silent edge theirs (s ∷ history) (Some c.buffered) more all.client (x ∷ xs) silent (judged_now edge theirs ours old (s ∷ history) all (x ∷ xs) t))))

  -- a piece of it
  pub tells_piece : (bytes : List ℕ) (whole broken : Bool) (a b : Kept) (c d : ClientKept) → IsTrue (client_allows ours c (asked.chunk bytes))
      → IsClientStep ours c (asked.chunk bytes) asked.done d → (all : Happenings) (more : List Step) (r : Request) (rs : List Request) (l : Link) (links : List Link)
      (x : Exchange) (xs : List Exchange) → all.requests ≡ r ∷ rs → all.links ≡ l ∷ links → x.server ≡ Some (length links) → IsClientTrace ours l.happened c
      → (u : IsSentOn edge whole broken r l) → AllByRecursion IsSilent more → StandsFor theirs b (more ++ all.client)
      → HasBrought (on.bytes bytes) all.client (more ++ all.client)
      → Tells edge theirs ours (record { client = a; server = Some c; under_way = is_sent whole broken }) (s ∷ history) all (x ∷ xs)
      → Tells edge theirs ours (record { client = b; server = Some d; under_way = is_sent whole broken }) (s ∷ history) (record {
        client = more ++ all.client;
        requests = record { pulled = record r.pulled { pieces = r.pulled.pieces ++ bytes ∷ [] }; sent_at = r.sent_at; was_refused = r.was_refused } ∷ rs;
        links = record {
          happened = record { event = asked.chunk bytes; outcome = asked.done } ∷ l.happened;
          sent = happened.sent_of edge (record r.pulled { pieces = r.pulled.pieces ++ bytes ∷ [] }) u.moment ∷ u.before;
        } ∷ links;
      }) (record x { pulled = record x.pulled { pieces = x.pulled.pieces ++ bytes ∷ [] } } ∷ xs)
  tells_piece bytes whole broken a b c d allowed step all more r rs l links x xs rs_are links_are at driven u silent stands did t =
      taken_turn (λ (p : Pulled). record p { pieces = p.pieces ++ bytes ∷ [] }) a b c d (is_sent whole broken) (is_sent whole broken) all more r rs l links
      (record { event = asked.chunk bytes; outcome = asked.done } ∷ l.happened) u.moment u.before x xs rs_are links_are at u.at u.sent silent
      (λ waiting trace. judged_taken edge theirs (s ∷ history) x (x.pulled.pieces ++ bytes ∷ []) x.pulled.is_ended x.pulled.is_broken (λ is. is) waiting trace xs)
      (piece_at edge theirs ours bytes whole broken a b c d allowed step (s ∷ history) all r rs l links rs_are links_are t.carries driven u (more ++ all.client) stands did) t

  -- its end
  pub tells_end : (whole broken : Bool) (a b : Kept) (c d : ClientKept) → IsTrue (client_allows ours c asked.body_end)
      → IsClientStep ours c asked.body_end asked.done d → (all : Happenings) (more : List Step) (r : Request) (rs : List Request) (l : Link) (links : List Link)
      (x : Exchange) (xs : List Exchange) → all.requests ≡ r ∷ rs → all.links ≡ l ∷ links → x.server ≡ Some (length links) → IsClientTrace ours l.happened c
      → (u : IsSentOn edge whole broken r l) → AllByRecursion IsSilent more → StandsFor theirs b (more ++ all.client)
      → HasBrought on.body_ended all.client (more ++ all.client)
      → Tells edge theirs ours (record { client = a; server = Some c; under_way = is_sent whole broken }) (s ∷ history) all (x ∷ xs)
      → Tells edge theirs ours (record { client = b; server = Some d; under_way = is_sent true broken }) (s ∷ history) (record {
        client = more ++ all.client;
        requests = record { pulled = record r.pulled { is_ended = true }; sent_at = r.sent_at; was_refused = r.was_refused } ∷ rs;
        links = record {
          happened = record { event = asked.body_end; outcome = asked.done } ∷ l.happened;
          sent = happened.sent_of edge (record r.pulled { is_ended = true }) u.moment ∷ u.before;
        } ∷ links;
      }) (record x { pulled = record x.pulled { is_ended = true } } ∷ xs)
  tells_end whole broken a b c d allowed step all more r rs l links x xs rs_are links_are at driven u silent stands did t =
      taken_turn (λ (p : Pulled). record p { is_ended = true }) a b c d (is_sent whole broken) (is_sent true broken) all more r rs l links
      (record { event = asked.body_end; outcome = asked.done } ∷ l.happened) u.moment u.before x xs rs_are links_are at u.at u.sent silent
      (λ waiting trace. judged_taken edge theirs (s ∷ history) x x.pulled.pieces true x.pulled.is_broken (λ is. is) waiting trace xs)
      (end_at edge theirs ours whole broken a b c d allowed step (s ∷ history) all r rs l links rs_are links_are t.carries driven u (more ++ all.client) stands did) t

  -- its fault
  pub tells_broken : (fault : on.BodyFault) (whole broken : Bool) (a b : Kept) (c : ClientKept) → (all : Happenings) (more : List Step) (r : Request) (rs : List Request)
      (l : Link) (links : List Link) (x : Exchange) (xs : List Exchange) → all.requests ≡ r ∷ rs → all.links ≡ l ∷ links → x.server ≡ Some (length links)
      → IsClientTrace ours l.happened c → (u : IsSentOn edge whole broken r l) → AllByRecursion IsSilent more → StandsFor theirs b (more ++ all.client)
      → HasBrought (on.broken_by fault) all.client (more ++ all.client)
      → Tells edge theirs ours (record { client = a; server = Some c; under_way = is_sent whole broken }) (s ∷ history) all (x ∷ xs)
      → Tells edge theirs ours (record { client = b; server = Some c; under_way = is_sent whole true }) (s ∷ history) (record {
        client = more ++ all.client;
        requests = record { pulled = record r.pulled { is_broken = true }; sent_at = r.sent_at; was_refused = r.was_refused } ∷ rs;
        links = record { happened = l.happened; sent = happened.sent_of edge (record r.pulled { is_broken = true }) u.moment ∷ u.before } ∷ links;
      }) (record x { pulled = record x.pulled { is_broken = true } } ∷ xs)
  tells_broken fault whole broken a b c all more r rs l links x xs rs_are links_are at driven u silent stands did t =
      taken_turn (λ (p : Pulled). record p { is_broken = true }) a b c c (is_sent whole broken) (is_sent whole true) all more r rs l links l.happened u.moment u.before x xs
      rs_are links_are at u.at u.sent silent
      (λ waiting trace. judged_taken edge theirs (s ∷ history) x x.pulled.pieces x.pulled.is_ended true (λ is. refl) waiting trace xs)
      (broken_at edge theirs ours fault whole broken a b c (s ∷ history) all r rs l links rs_are links_are t.carries driven u (more ++ all.client) stands did) t
