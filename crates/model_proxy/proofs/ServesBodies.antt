-- A forwarder that serves its client does so behind each turn that takes more of a request's body.
use Rattle.std.proofs.Common.{◌≡◌, ℕ, Bool, true, List, [], ◌∷◌, ◌++◌, length, refl, sym, subst, Some}
use Rattle.std.specs.Prelude.{IsTrue}
use Rattle.std.specs.List.{AllByRecursion}
use Rattle.model_h1.specs.Setting.{Setting}
use Rattle.model_h1.specs.Event as on
use Rattle.model_h1.specs.Sums.{Step}
use Rattle.model_h1.specs.Laws.Exchanges.{exchanges}
use Rattle.model_state.specs.Kept.{Kept}
use Rattle.model_state.specs.StandsFor.{StandsFor}
use Rattle.model_client.specs.ClientEvent as asked
use Rattle.model_client.specs.ClientKept.{ClientKept, client_allows}
use Rattle.model_client.specs.ClientStep.{IsClientStep}
use Rattle.model_client.specs.ClientTrace.{Happened, IsClientTrace}
use Rattle.model_proxy.specs.Edge.{Edge}
use Rattle.model_proxy.specs.Past.{ProxyStep}
use Rattle.model_proxy.specs.Exchange.{Pulled, Exchange}
use Rattle.model_proxy.specs.Happenings.{Request, Link, Happenings}
use Rattle.model_proxy.specs.Happenings as happened
use Rattle.model_proxy.specs.Carried.{is_sent, IsSentOn}
use Rattle.model_proxy.specs.Moves.{HasBrought}
use Rattle.model_proxy.proofs.SilentSteps.{IsSilent, silent_exchanges}
use Rattle.model_proxy.proofs.BodiesForward.{tells_piece, tells_end, tells_broken}
use Rattle.model_proxy.proofs.WholeBodies.{HasAll, sound_end}
use Rattle.model_proxy.proofs.LastSent.{LastOn, on_newest}
use Rattle.model_proxy.proofs.OnLinks.{Stage}
use Rattle.model_proxy.proofs.LinkSteps.{OnLink, IsLittle, little_link, end_link, same_link, UnusedOn}
use Rattle.model_proxy.proofs.Serves.{OnServer, IsIn, Serves}

module _ (edge : Edge) (theirs ours : Setting) (s : ProxyStep) (history : List ProxyStep) where
  module _ (stage : Stage) (whole broken : Bool) (a b : Kept) (c : ClientKept) (all : Happenings) (more : List Step) (r : Request) (rs : List Request) (l : Link) (links : List Link)
      (x : Exchange) (xs : List Exchange) (rs_are : all.requests ≡ r ∷ rs) (links_are : all.links ≡ l ∷ links) (driven : IsClientTrace ours l.happened c)
      (u : IsSentOn edge whole broken r l) (silent : AllByRecursion IsSilent more) (stands : StandsFor theirs b (more ++ all.client))
      (t : Serves edge theirs ours (record { client = a; server = Some c; under_way = is_sent whole broken }) stage (s ∷ history) all (x ∷ xs)) where
    at : x.server ≡ Some (length links)
    at = subst (λ (ls : List Link). IsIn (is_sent whole broken) (Some c) ls (x ∷ xs) (exchanges all.client)) links_are t.state

    last : LastOn (length links) (OnLink ours (s ∷ history) l (length links) stage) (UnusedOn ours l) (x ∷ xs) (exchanges (more ++ all.client))
    last =
        subst (LastOn (length links) (OnLink ours (s ∷ history) l (length links) stage) (UnusedOn ours l) (x ∷ xs)) (sym (silent_exchanges more all.client silent))
        (subst (λ (ls : List Link). OnServer ours (s ∷ history) (Some c) ls stage (x ∷ xs) (exchanges all.client)) links_are t.last)

    -- with what is made of what was taken of it, and a step on the server connection
    moved : (change : Pulled → Pulled) (e : Happened) (m : Link) → IsLittle e → m.happened ≡ e ∷ l.happened → (change x.pulled).head.method ≡ x.pulled.head.method
        → LastOn (length links) (OnLink ours (s ∷ history) m (length links) stage) (UnusedOn ours m) (record x { pulled = change x.pulled } ∷ xs) (exchanges (more ++ all.client))
    moved change e m little are method =
        on_newest (length links) (OnLink ours (s ∷ history) l (length links) stage) (OnLink ours (s ∷ history) m (length links) stage) (UnusedOn ours l)
        (UnusedOn ours m) x
        (record x { pulled = change x.pulled }) xs (exchanges (more ++ all.client)) at at
        (λ r z. little_link ours (s ∷ history) e l m (length links) stage x (record x { pulled = change x.pulled }) r little are method refl z) last

    pub serves_piece : (bytes : List ℕ) (d : ClientKept) → IsTrue (client_allows ours c (asked.chunk bytes)) → IsClientStep ours c (asked.chunk bytes) asked.done d
        → HasBrought (on.bytes bytes) all.client (more ++ all.client)
        → Serves edge theirs ours (record { client = b; server = Some d; under_way = is_sent whole broken }) stage (s ∷ history) (record {
          client = more ++ all.client;
          requests = record { pulled = record r.pulled { pieces = r.pulled.pieces ++ bytes ∷ [] }; sent_at = r.sent_at; was_refused = r.was_refused } ∷ rs;
          links = record {
            happened = record { event = asked.chunk bytes; outcome = asked.done } ∷ l.happened;
            sent = happened.sent_of edge (record r.pulled { pieces = r.pulled.pieces ++ bytes ∷ [] }) u.moment ∷ u.before;
          } ∷ links;
        }) (record x { pulled = record x.pulled { pieces = x.pulled.pieces ++ bytes ∷ [] } } ∷ xs)
    serves_piece bytes d allowed step did = record {
      tells = tells_piece edge theirs ours s history bytes whole broken a b c d allowed step all more r rs l links x xs rs_are links_are at driven u silent stands did t.tells;
      last = moved (λ (p : Pulled). record p { pieces = p.pieces ++ bytes ∷ [] }) (record { event = asked.chunk bytes; outcome = asked.done })
          (record {
            happened = record { event = asked.chunk bytes; outcome = asked.done } ∷ l.happened;
            sent = happened.sent_of edge (record r.pulled { pieces = r.pulled.pieces ++ bytes ∷ [] }) u.moment ∷ u.before;
          }) (record { calm = refl; sound = refl; none = refl; little = tt }) refl refl;
      state = at;
    }

    pub serves_end : (d : ClientKept) → IsTrue (client_allows ours c asked.body_end) → IsClientStep ours c asked.body_end asked.done d
        → HasAll r.pulled
        → HasBrought on.body_ended all.client (more ++ all.client)
        → Serves edge theirs ours (record { client = b; server = Some d; under_way = is_sent true broken }) stage (s ∷ history) (record {
          client = more ++ all.client;
          requests = record { pulled = record r.pulled { is_ended = true }; sent_at = r.sent_at; was_refused = r.was_refused } ∷ rs;
          links = record {
            happened = record { event = asked.body_end; outcome = asked.done } ∷ l.happened;
            sent = happened.sent_of edge (record r.pulled { is_ended = true }) u.moment ∷ u.before;
          } ∷ links;
        }) (record x { pulled = record x.pulled { is_ended = true } } ∷ xs)
    serves_end d allowed step full did = record {
      tells = tells_end edge theirs ours s history whole broken a b c d allowed step all more r rs l links x xs rs_are links_are at driven u silent stands did t.tells;
      last = on_newest (length links) (OnLink ours (s ∷ history) l (length links) stage)
          (OnLink ours (s ∷ history) (record {
            happened = record { event = asked.body_end; outcome = asked.done } ∷ l.happened;
            sent = happened.sent_of edge (record r.pulled { is_ended = true }) u.moment ∷ u.before;
          }) (length links) stage) (UnusedOn ours l)
          (UnusedOn ours (record {
            happened = record { event = asked.body_end; outcome = asked.done } ∷ l.happened;
            sent = happened.sent_of edge (record r.pulled { is_ended = true }) u.moment ∷ u.before;
          })) x (record x { pulled = record x.pulled { is_ended = true } }) xs (exchanges (more ++ all.client)) at at
          (λ q z.
          end_link ours (s ∷ history) l (record {
            happened = record { event = asked.body_end; outcome = asked.done } ∷ l.happened;
            sent = happened.sent_of edge (record r.pulled { is_ended = true }) u.moment ∷ u.before;
          }) (length links) stage x (record x { pulled = record x.pulled { is_ended = true } }) q c d refl refl refl driven step
          (sound_end edge ours whole broken r l c d u full driven step) z) last;
      state = at;
    }

    pub serves_broken : (fault : on.BodyFault) → HasBrought (on.broken_by fault) all.client (more ++ all.client)
        → Serves edge theirs ours (record { client = b; server = Some c; under_way = is_sent whole true }) stage (s ∷ history) (record {
          client = more ++ all.client;
          requests = record { pulled = record r.pulled { is_broken = true }; sent_at = r.sent_at; was_refused = r.was_refused } ∷ rs;
          links = record { happened = l.happened; sent = happened.sent_of edge (record r.pulled { is_broken = true }) u.moment ∷ u.before } ∷ links;
        }) (record x { pulled = record x.pulled { is_broken = true } } ∷ xs)
    serves_broken fault did =
        let m : Link = record { happened = l.happened; sent = happened.sent_of edge (record r.pulled { is_broken = true }) u.moment ∷ u.before } in
        record {
          tells = tells_broken edge theirs ours s history fault whole broken a b c all more r rs l links x xs rs_are links_are at driven u silent stands did t.tells;
          last = on_newest (length links) (OnLink ours (s ∷ history) l (length links) stage) (OnLink ours (s ∷ history) m (length links) stage) (UnusedOn ours l)
              (UnusedOn ours m) x
              (record x { pulled = record x.pulled { is_broken = true } }) xs (exchanges (more ++ all.client)) at at
              (λ q z. same_link ours (s ∷ history) l m (length links) stage x (record x { pulled = record x.pulled { is_broken = true } }) q refl refl refl z) last;
          state = at;
        }
