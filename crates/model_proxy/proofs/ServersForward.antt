-- A forwarder that was one so far is one behind an event on the side of its servers.
use Rattle.std.proofs.Common.{◌≡◌, ◌⊎◌, ℕ, ◌<◌, ◌≤◌, Bool, true, false, cond, eqb, suc, List, [], ◌∷◌, ◌++◌, length, map, filter, take, refl, sym, ap, ◌∙◌, subst, arith, inl, inr, Option, Some, None}
use Rattle.std.proofs.lemmas.Bool.{eqb-true, eqb-false, eq-eqb, ne_eqb}
use Rattle.std.proofs.lemmas.List.{length-map}
use Rattle.model_h1.specs.Setting.{Setting}
use Rattle.model_h1.specs.Answer.{BodySize}
use Rattle.model_h1.specs.Laws.Exchanges.{exchanges}
use Rattle.model_state.specs.Kept.{Kept}
use Rattle.model_client.specs.ClientEvent as asked
use Rattle.model_client.specs.ClientEvent.{ClientRequest}
use Rattle.model_client.specs.ClientKept.{ClientKept, fresh_client}
use Rattle.model_proxy.specs.Edge.{Edge}
use Rattle.model_proxy.specs.Past as past
use Rattle.model_proxy.specs.Past.{ProxyEvent, ProxyOutcome, ProxyStep, Server, new_server, is_refusal, changed_by, newest_changed, servers_behind, servers, numbered, server_at}
use Rattle.model_proxy.specs.Exchange.{Exchange, is_on}
use Rattle.model_proxy.specs.Forwarding.{IsTold, IsFirstOf, behind}
use Rattle.model_proxy.specs.Happenings.{Request, Link, Happenings, server_of}
use Rattle.model_proxy.specs.Carried.{ForwarderKept, waits}
use Rattle.model_proxy.specs.Moves.{DoesAsked}
use Rattle.model_proxy.proofs.Events.{SaysNoBytes, AddsNoText, ChangesServer, server_event_at, connected_at}
use Rattle.model_proxy.proofs.SentPlaces.{IsPlaced, AreSame, AreOn, counted}
use Rattle.model_proxy.proofs.PlacesKept.{same_later, on_later, on_still, on_new}
use Rattle.model_proxy.proofs.Halves.{both_halves}
use Rattle.model_proxy.proofs.LaterSteps.{Unmoved, judged_later, judged_opened}
use Rattle.model_proxy.proofs.Came.{behind_all}
use Rattle.model_proxy.proofs.MovedSteps.{NewestIsPassed, Moved, judged_moved}
use Rattle.model_proxy.proofs.EventsForward.{Tells, all_same, there_still, sent_so_far, judged_now}

some_not : (bytes : List ℕ) → Some bytes ≡ None → ⊥
some_not bytes e = cc

-- ---- which connections change

-- the newest changes in what was given to it, and in nothing else
still_by : (f : Server → Server) → ((v : Server) → ((f v).came ≡ v.came) × ((f v).ended ≡ v.ended)) → (k : ℕ) (vs : List Server)
    → ((numbered k (newest_changed f vs)).came ≡ (numbered k vs).came) × ((numbered k (newest_changed f vs)).ended ≡ (numbered k vs).ended)
still_by f keeps k [] = (refl, refl)
still_by f keeps k (v ∷ older) = by_test (eqb k (length older))
  where
    by_test : (t : Bool) → ((cond t (f v) (numbered k older)).came ≡ (cond t v (numbered k older)).came)
        × ((cond t (f v) (numbered k older)).ended ≡ (cond t v (numbered k older)).ended)
    by_test true = keeps v
    by_test false = (refl, refl)

length_changed : (f : Server → Server) (vs : List Server) → length (newest_changed f vs) ≡ length vs
length_changed f [] = refl
length_changed f (v ∷ vs) = refl

module _ (setting : Setting) (history : List ProxyStep) where
  written_still : (n : ℕ) (bytes : List ℕ) (k : ℕ) → Unmoved setting (record { event = past.to_server n; outcome = past.gave bytes }) history k
  unfolding servers
  written_still n bytes k =
      let x = still_by (changed_by (past.to_server n) (past.gave bytes)) (λ v. (refl, refl)) k (servers history) in
      record { came = x.0; ended = x.1 }

  written_many : (n : ℕ) (bytes : List ℕ) → length (servers (record { event = past.to_server n; outcome = past.gave bytes } ∷ history)) ≡ length (servers history)
  unfolding servers
  written_many n bytes = length_changed (changed_by (past.to_server n) (past.gave bytes)) (servers history)

  opened_still : (k : ℕ) → Unmoved setting (record { event = past.connected; outcome = past.done }) history k
  unfolding servers
  opened_still k = by_test (eqb k (length (servers history))) refl
    where
      by_test : (t : Bool) → eqb k (length (servers history)) ≡ t → Unmoved setting (record { event = past.connected; outcome = past.done }) history k
      by_test true is =
          let high = eqb-true k (length (servers history)) is in
          let none : numbered k (servers history) ≡ new_server = behind_all k (servers history) (omega (arith, high)) in
          let now : numbered k (new_server ∷ servers history) ≡ new_server = ap (λ (t : Bool). cond t new_server (numbered k (servers history))) is in
          let same = now ∙ sym none in
          record { came = ap (λ (v : Server). v.came) same; ended = ap (λ (v : Server). v.ended) same }
      by_test false is =
          let now : numbered k (new_server ∷ servers history) ≡ numbered k (servers history) = ap (λ (t : Bool). cond t new_server (numbered k (servers history))) is in
          record { came = ap (λ (v : Server). v.came) now; ended = ap (λ (v : Server). v.ended) now }

  opened_many : length (servers (record { event = past.connected; outcome = past.done } ∷ history)) ≡ suc (length (servers history))
  unfolding servers
  opened_many = refl

  -- of the newest more came, or the end of its input; the others are as before
  module _ (s : ProxyStep) (v : Server) (older : List Server) (are : servers history ≡ v ∷ older) (others : (w : Server) (ws : List Server) → servers_behind s.event s.outcome (w ∷ ws) ≡ changed_by s.event s.outcome w ∷ ws) where
    after_it : servers (s ∷ history) ≡ changed_by s.event s.outcome v ∷ older
    unfolding servers
    after_it = ap (servers_behind s.event s.outcome) are ∙ others v older

    moved_many : length (servers (s ∷ history)) ≡ length (servers history)
    moved_many = ap (λ (vs : List Server). length vs) after_it ∙ sym (ap (λ (vs : List Server). length vs) are)

    newest_at : (w : Server) → numbered (length older) (w ∷ older) ≡ w
    newest_at w = ap (λ (t : Bool). cond t w (numbered (length older) older)) (eq-eqb (length older) (length older) refl)

    moved_it : (more : List ℕ) → (changed_by s.event s.outcome v).came ≡ v.came ++ more → v.ended ≡ false → Moved setting s history (length older) more
    moved_it more came going = record {
      came =
          ap (λ (vs : List Server). (numbered (length older) vs).came) after_it
          ∙ ap (λ (w : Server). w.came) (newest_at (changed_by s.event s.outcome v)) ∙ came
          ∙ ap (λ (w : Server). w.came ++ more) (sym (newest_at v))
          ∙ sym (ap (λ (vs : List Server). (numbered (length older) vs).came ++ more) are);
      going = ap (λ (vs : List Server). (numbered (length older) vs).ended) are ∙ ap (λ (w : Server). w.ended) (newest_at v) ∙ going;
    }

    others_still : (k : ℕ) → (k ≡ length older → ⊥) → Unmoved setting s history k
    others_still k other =
        let away = ne_eqb k (length older) other in
        let now : numbered k (servers (s ∷ history)) ≡ numbered k (servers history) =
        ap (numbered k) after_it
        ∙ ap (λ (t : Bool). cond t (changed_by s.event s.outcome v) (numbered k older)) away
        ∙ sym (ap (λ (t : Bool). cond t v (numbered k older)) away)
        ∙ sym (ap (numbered k) are) in
        record { came = ap (λ (w : Server). w.came) now; ended = ap (λ (w : Server). w.ended) now }

-- ---- none was sent on one that is new

pub none_there : (history : List ProxyStep) (count k : ℕ) (rs : List Request) (xs : List Exchange) → count ≤ k → AreSame history count rs xs → filter (is_on k) xs ≡ []
none_there history count k [] [] high same = refl
none_there history count k [] (x ∷ xs) high same = absurd same
none_there history count k (r ∷ rs) [] high same = absurd same
none_there history count k (r ∷ rs) (x ∷ xs) high same =
    ap (λ (t : Bool). cond t (x ∷ filter (is_on k) xs) (filter (is_on k) xs)) (off_it same.0.placed) ∙ none_there history count k rs xs high same.1
  where
    off_it : ((x.server ≡ None) × (r.sent_at ≡ None)) ⊎ IsPlaced history count r x → is_on k x ≡ false
    off_it (inl none) = ap (λ (o : Option ℕ). is_on k (record x { server = o })) none.0
    off_it (inr p) =
        ap (λ (o : Option ℕ). is_on k (record x { server = o })) p.server
        ∙ ne_eqb p.number k (λ e. let low = p.there in let none : ⊥ = omega (arith, high, low, e) in none)

module _ (edge : Edge) (theirs ours : Setting) where
  -- ---- a server connection is there

  pub tells_connected : (q : ClientRequest) (size : BodySize) (whole broken : Bool) (kept : Kept) (history : List ProxyStep) (all : Happenings) (xs : List Exchange)
      → Tells edge theirs ours (record { client = kept; server = None; under_way = waits q size whole broken }) history all xs
      → Tells edge theirs ours (record { client = kept; server = Some fresh_client; under_way = waits q size whole broken })
      (record { event = past.connected; outcome = past.done } ∷ history) (record all { links = record { happened = []; sent = [] } ∷ all.links }) xs
  tells_connected q size whole broken kept history all xs x =
      let s : ProxyStep = record { event = past.connected; outcome = past.done } in
      let old : ForwarderKept = record { client = kept; server = None; under_way = waits q size whole broken } in
      let new : ForwarderKept = record { client = kept; server = Some fresh_client; under_way = waits q size whole broken } in
      let after : Happenings = record all { links = record { happened = []; sent = [] } ∷ all.links } in
      let sent = sent_so_far edge theirs ours old history all xs x in
      let carries = connected_at edge theirs ours q size whole broken kept history all x.carries in
      let same = same_later s history (length all.links) (suc (length all.links)) all.requests xs (omega arith) x.same in
      let places = on_later edge s history xs (record { happened = []; sent = [] } ∷ all.links) sent (on_new edge history xs all.links x.places) in
      let many = counted edge theirs ours history all x.carries.forwarded.sums.servers in
      let judged = judged_opened theirs s history edge (opened_still theirs history) None (Some []) all.client xs sent (some_not [])
      (λ k low. which k many (subst (λ (n : ℕ). k < n) (opened_many theirs history) low) (none_there history (length all.links) k all.requests xs))
      (judged_now edge theirs ours old history all xs x) in
      record {
        carries = carries;
        same = same;
        places = places;
        is = behind s history None all.client xs (Some []) [] xs x.is (record { told = tt; gave = tt; opened = λ is. refl })
            (all_same past.connected None (s ∷ history) xs refl)
            (both_halves edge theirs ours new (s ∷ history) after xs carries same places judged);
      }
    where
      which : (k : ℕ) → length all.links ≡ length (servers history) → k < suc (length (servers history))
          → (length all.links ≤ k → AreSame history (length all.links) all.requests xs → filter (is_on k) xs ≡ [])
          → (k < length (servers history)) ⊎ (filter (is_on k) xs ≡ [])
      which k many low none = by_test (eqb k (length (servers history))) refl
        where
          by_test : (t : Bool) → eqb k (length (servers history)) ≡ t → (k < length (servers history)) ⊎ (filter (is_on k) xs ≡ [])
          by_test true is = let here = eqb-true k (length (servers history)) is in inr (none (omega (arith, here, many)) x.same)
          by_test false is =
              let away = eqb-false k (length (servers history)) is in
              inl (omega (arith, low, away))

  -- ---- bytes are written towards it

  pub tells_written : (n : ℕ) (bytes : List ℕ) (kept : ForwarderKept) (a b : ClientKept) → AddsNoText (asked.write n)
      → SaysNoBytes (past.to_server n) (past.gave bytes) → ChangesServer (asked.write n) (asked.gave bytes) (past.to_server n) (past.gave bytes)
      → DoesAsked ours (asked.write n) (asked.gave bytes) a b → bytes ≡ take n a.buffered
      → (history : List ProxyStep) (all : Happenings) (l : Link) (links : List Link) (xs : List Exchange) → all.links ≡ l ∷ links
      → Tells edge theirs ours (record kept { server = Some a }) history all xs
      → Tells edge theirs ours (record kept { server = Some b }) (record { event = past.to_server n; outcome = past.gave bytes } ∷ history)
      (record all { links = record { happened = record { event = asked.write n; outcome = asked.gave bytes } ∷ l.happened; sent = l.sent } ∷ links }) xs
  tells_written n bytes kept a b adds says changes does first history all l links xs are x =
      let s : ProxyStep = record { event = past.to_server n; outcome = past.gave bytes } in
      let after : Happenings = record all { links = record { happened = record { event = asked.write n; outcome = asked.gave bytes } ∷ l.happened; sent = l.sent } ∷ links } in
      let sent = sent_so_far edge theirs ours (record kept { server = Some a }) history all xs x in
      let carries = server_event_at edge theirs ours (asked.write n) (asked.gave bytes) (past.to_server n) (past.gave bytes) kept a b adds says refl changes does history all l links are x.carries in
      let count : length all.links ≡ suc (length links) = ap (λ (ls : List Link). length ls) are in
      let same = same_later s history (length all.links) (suc (length links)) all.requests xs (omega (arith, count)) x.same in
      let places = on_later edge s history xs (record { happened = record { event = asked.write n; outcome = asked.gave bytes } ∷ l.happened; sent = l.sent } ∷ links) sent
      (on_still edge history xs l links (record { event = asked.write n; outcome = asked.gave bytes } ∷ l.happened)
      (subst (AreOn edge history xs) are x.places)) in
      let judged = judged_later theirs s history edge (written_still theirs history n bytes) (Some a.buffered) (Some b.buffered) all.client xs sent
      (written_many theirs history n bytes) (λ none. absurd (some_not b.buffered none)) (judged_now edge theirs ours (record kept { server = Some a }) history all xs x) in
      record {
        carries = carries;
        same = same;
        places = places;
        is = behind s history (Some a.buffered) all.client xs (Some b.buffered) [] xs x.is (record { told = tt; gave = first; opened = λ is. refl })
            (all_same (past.to_server n) (Some a.buffered) (s ∷ history) xs refl)
            (both_halves edge theirs ours (record kept { server = Some b }) (s ∷ history) after xs carries same places judged);
      }

  -- ---- bytes come of it, or the end of its input

  pub tells_came : (e : asked.ClientEvent) (o : asked.ClientOutcome) (event : ProxyEvent) (outcome : ProxyOutcome) (more : List ℕ) (kept : ForwarderKept) (a b : ClientKept)
      → AddsNoText e → SaysNoBytes event outcome → is_refusal event ≡ false → ChangesServer e o event outcome → DoesAsked ours e o a b
      → ((v : Server) → (changed_by event outcome v).came ≡ v.came ++ more) → IsTold event outcome [] → IsFirstOf event outcome (Some a.buffered)
      → (history : List ProxyStep) (all : Happenings) (l : Link) (links : List Link) (xs : List Exchange) → all.links ≡ l ∷ links → (server_of l).ended ≡ false
      → NewestIsPassed theirs history (length links) [] xs (exchanges all.client)
      → Tells edge theirs ours (record kept { server = Some a }) history all xs
      → Tells edge theirs ours (record kept { server = Some b }) (record { event = event; outcome = outcome } ∷ history)
      (record all { links = record { happened = record { event = e; outcome = o } ∷ l.happened; sent = l.sent } ∷ links }) xs
  tells_came e o event outcome more kept a b adds says not_refused changes does came told first history all l links xs are going passing x =
      let s : ProxyStep = record { event = event; outcome = outcome } in
      let after : Happenings = record all { links = record { happened = record { event = e; outcome = o } ∷ l.happened; sent = l.sent } ∷ links } in
      let old : ForwarderKept = record kept { server = Some a } in
      let sent = sent_so_far edge theirs ours old history all xs x in
      let carries = server_event_at edge theirs ours e o event outcome kept a b adds says not_refused changes does history all l links are x.carries in
      let count : length all.links ≡ suc (length links) = ap (λ (ls : List Link). length ls) are in
      let same = same_later s history (length all.links) (suc (length links)) all.requests xs (omega (arith, count)) x.same in
      let places = on_later edge s history xs (record { happened = record { event = e; outcome = o } ∷ l.happened; sent = l.sent } ∷ links) sent
      (on_still edge history xs l links (record { event = e; outcome = o } ∷ l.happened) (subst (AreOn edge history xs) are x.places)) in
      let older : List Server = map server_of links in
      let these : servers history ≡ server_of l ∷ older = sym x.carries.forwarded.sums.servers ∙ ap (map server_of) are in
      let number : length older ≡ length links = length-map links server_of in
      let moved = moved_it theirs history s (server_of l) older these changes.others more (came (server_of l)) going in
      let still = others_still theirs history s (server_of l) older these changes.others in
      let judged = judged_moved theirs s history edge (length older) more moved still (Some a.buffered) (Some b.buffered) all.client xs sent
      (moved_many theirs history s (server_of l) older these changes.others) (some_not b.buffered)
      (subst (λ (n : ℕ). NewestIsPassed theirs history n [] xs (exchanges all.client)) (sym number) passing) (judged_now edge theirs ours old history all xs x) in
      record {
        carries = carries;
        same = same;
        places = places;
        is = behind s history (Some a.buffered) all.client xs (Some b.buffered) [] xs x.is
            (record { told = told; gave = first; opened = λ is. there_still event (Some a.buffered) refl })
            (all_same event (Some a.buffered) (s ∷ history) xs not_refused)
            (both_halves edge theirs ours (record kept { server = Some b }) (s ∷ history) after xs carries same places judged);
      }
