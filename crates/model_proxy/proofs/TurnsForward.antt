-- A forwarder that is one behind an event is one behind each turn.
use Rattle.std.proofs.Common.{◌≡◌, ◌⊎◌, ℕ, ◌+◌, Bool, true, false, suc, List, [], ◌∷◌, ◌++◌, length, filter, refl, sym, ap, ◌∙◌, subst, arith, inl, inr, Option, Some, None}
use Rattle.std.specs.Prelude.{IsTrue, is_some}
use Rattle.std.specs.List.{AllByRecursion}
use Rattle.std.proofs.lemmas.Bool.{false≢true}
use Rattle.model_h1.specs.Request.{Head}
use Rattle.model_h1.specs.Setting.{Setting}
use Rattle.model_h1.specs.Answer.{BodySize}
use Rattle.model_h1.specs.Event as on
use Rattle.model_h1.specs.Sums.{Step}
use Rattle.model_h1.specs.Laws.Exchanges.{no_reply, exchanges}
use Rattle.model_h1.specs.Laws.Exchanges as replies
use Rattle.model_state.specs.Kept.{Kept}
use Rattle.model_state.specs.StandsFor.{StandsFor}
use Rattle.model_client.specs.ClientEvent as asked
use Rattle.model_client.specs.ClientEvent.{ClientRequest}
use Rattle.model_client.specs.ClientKept.{ClientKept, client_allows}
use Rattle.model_client.specs.ClientStep.{IsClientStep}
use Rattle.model_client.specs.ClientTrace.{Happened, IsClientTrace, now_of}
use Rattle.model_proxy.specs.Edge.{Edge}
use Rattle.model_proxy.specs.Past.{ProxyStep, servers, server_at, now, first_of}
use Rattle.model_proxy.specs.Exchange.{unpulled, Exchange, is_on}
use Rattle.model_proxy.specs.Forwarding.{IsUsed}
use Rattle.model_proxy.specs.Happenings.{Request, Link, Happenings}
use Rattle.model_proxy.specs.Happenings as happened
use Rattle.model_proxy.specs.Carried.{ForwarderKept, nothing, waits, is_sent, IsIdle, IsWaiting, Carries}
use Rattle.model_proxy.specs.Moves.{HasBrought, IsQuiet}
use Rattle.model_proxy.proofs.Quiet.{BringsNothing}
use Rattle.model_proxy.proofs.Turns.{client_at, closed_at, server_at as link_at_server, head_at}
use Rattle.model_proxy.proofs.Sends.{asked_at}
use Rattle.model_proxy.proofs.LaterTurns.{NewestTurnsOn, AllTurnOn, turned}
use Rattle.model_proxy.proofs.SentPlaces.{IsPlaced, AreSame, AreOn, counted}
use Rattle.model_proxy.proofs.PlacesKept.{sent_now, on_still, same_begun, same_sent, on_sent}
use Rattle.model_proxy.proofs.Halves.{waiting_in, IsJudged, both_halves}
use Rattle.model_proxy.proofs.SilentSteps.{IsSilent, judged_silent}
use Rattle.model_proxy.proofs.TurnMoves.{judged_begun}
use Rattle.model_proxy.proofs.SentMoves.{LastIsAlone, IsFreshFor, judged_sent}
use Rattle.model_proxy.proofs.EventsForward.{Tells, judged_now}

some_not : (bytes : List ℕ) → Some bytes ≡ None → ⊥
some_not bytes e = cc

-- ---- what a turn makes of the requests

same_turn : (waiting : Option (List ℕ)) (history : List ProxyStep) (xs : List Exchange) → NewestTurnsOn waiting history xs xs
same_turn waiting history [] = tt
same_turn waiting history (x ∷ xs) = (record { sent = inl (refl, refl); refused = refl }, refl)

pub all_same : (waiting : Option (List ℕ)) (history : List ProxyStep) (xs : List Exchange) → AllTurnOn waiting history xs xs
all_same waiting history xs = record { newer = []; older = xs; are = refl; begun = tt; go_on = same_turn waiting history xs }

-- the newest stays where it was sent
pub newest_stays : (waiting : Option (List ℕ)) (history : List ProxyStep) (x y : Exchange) (xs : List Exchange) → y.server ≡ x.server → y.sent_at ≡ x.sent_at
    → y.was_refused ≡ x.was_refused → AllTurnOn waiting history (x ∷ xs) (y ∷ xs)
newest_stays waiting history x y xs server at refused =
    record { newer = []; older = y ∷ xs; are = refl; begun = tt; go_on = (record { sent = inl (server, at); refused = refused }, refl) }

-- a server connection that is open goes on, whatever waits to be given to it
pub still_open : (edge : Edge) (setting : Setting) (history : List ProxyStep) (waiting : Option (List ℕ)) (bytes : List ℕ) (trace : List Step) (xs : List Exchange)
    → IsJudged edge setting history waiting trace xs → IsJudged edge setting history (Some bytes) trace xs
still_open edge setting history waiting bytes trace xs x = record {
  undrained = x.undrained;
  used = λ none. absurd (some_not bytes none);
  told = x.told;
  replied = x.replied;
  clean = x.clean;
  alone = x.alone;
  failed = x.failed;
}

now_closed : (edge : Edge) (setting : Setting) (history : List ProxyStep) (waiting : Option (List ℕ)) (trace : List Step) (xs : List Exchange)
    → ((k : ℕ) → k + 1 ≡ length (servers history) → IsUsed (filter (is_on k) xs) (server_at k history))
    → IsJudged edge setting history waiting trace xs → IsJudged edge setting history None trace xs
now_closed edge setting history waiting trace xs used x = record {
  undrained = x.undrained;
  used = λ none. used;
  told = x.told;
  replied = x.replied;
  clean = x.clean;
  alone = x.alone;
  failed = x.failed;
}

module _ (edge : Edge) (theirs ours : Setting) (s : ProxyStep) (history : List ProxyStep) where
  -- ---- any turn

  pub tells_turn : (kept after : ForwarderKept) (all : Happenings) (more : List Step) (rs : List Request) (links : List Link) (xs zs : List Exchange)
      → Tells edge theirs ours kept (s ∷ history) all xs
      → Carries edge theirs ours after (s ∷ history) (record { client = more ++ all.client; requests = rs; links = links })
      → AreSame (s ∷ history) (length links) rs zs → AreOn edge (s ∷ history) zs links
      → (is_some (waiting_in after.server) ≡ true → is_some (waiting_in kept.server) ≡ true)
      → AllTurnOn (waiting_in kept.server) (s ∷ history) xs zs
      → IsJudged edge theirs (s ∷ history) (waiting_in after.server) (more ++ all.client) zs
      → Tells edge theirs ours after (s ∷ history) (record { client = more ++ all.client; requests = rs; links = links }) zs
  tells_turn kept after all more rs links xs zs x carries same places stays turns judged = record {
    carries = carries;
    same = same;
    places = places;
    is = turned edge theirs s history (waiting_in kept.server) all.client xs x.is (waiting_in after.server) more zs stays turns
        (both_halves edge theirs ours after (s ∷ history) (record { client = more ++ all.client; requests = rs; links = links }) zs carries same places judged);
  }

  -- ---- the client's connection does something that puts nothing of a reply

  pub tells_silent : (o : on.Outcome) (kept : ForwarderKept) (client : Kept) (all : Happenings) (more : List Step) (xs : List Exchange) → BringsNothing o
      → AllByRecursion IsSilent more → StandsFor theirs client (more ++ all.client) → HasBrought o all.client (more ++ all.client)
      → Tells edge theirs ours kept (s ∷ history) all xs
      → Tells edge theirs ours (record kept { client = client }) (s ∷ history) (record all { client = more ++ all.client }) xs
  tells_silent o kept client all more xs none silent stands did x =
      tells_turn kept (record kept { client = client }) all more all.requests all.links xs xs x
      (client_at edge theirs ours o kept client none (s ∷ history) all (more ++ all.client) stands did x.carries) x.same x.places (λ is. is)
      (all_same (waiting_in kept.server) (s ∷ history) xs)
      (judged_silent edge theirs (s ∷ history) (waiting_in kept.server) more all.client xs silent (judged_now edge theirs ours kept (s ∷ history) all xs x))

  -- ---- the server connection does something of its own, or is closed

  pub tells_quiet : (kept : ForwarderKept) (a b : ClientKept) (all : Happenings) (l : Link) (links : List Link) (new : List Happened) (xs : List Exchange)
      → all.links ≡ l ∷ links → IsClientTrace ours new b → IsQuiet l.happened new → Tells edge theirs ours (record kept { server = Some a }) (s ∷ history) all xs
      → Tells edge theirs ours (record kept { server = Some b }) (s ∷ history) (record all { links = record { happened = new; sent = l.sent } ∷ links }) xs
  tells_quiet kept a b all l links new xs are driven quiet x =
      let count : length all.links ≡ suc (length links) = ap (λ (ls : List Link). length ls) are in
      tells_turn (record kept { server = Some a }) (record kept { server = Some b }) all [] all.requests (record { happened = new; sent = l.sent } ∷ links) xs xs x
      (link_at_server edge theirs ours kept a b (s ∷ history) all l links new are driven quiet x.carries)
      (subst (λ (n : ℕ). AreSame (s ∷ history) n all.requests xs) count x.same)
      (on_still edge (s ∷ history) xs l links new (subst (AreOn edge (s ∷ history) xs) are x.places)) (λ is. refl)
      (all_same (Some a.buffered) (s ∷ history) xs)
      (still_open edge theirs (s ∷ history) (Some a.buffered) b.buffered all.client xs (judged_now edge theirs ours (record kept { server = Some a }) (s ∷ history) all xs x))

  pub tells_closed : (kept : ForwarderKept) (all : Happenings) (xs : List Exchange)
      → ((k : ℕ) → k + 1 ≡ length (servers (s ∷ history)) → IsUsed (filter (is_on k) xs) (server_at k (s ∷ history)))
      → Tells edge theirs ours kept (s ∷ history) all xs → Tells edge theirs ours (record kept { server = None }) (s ∷ history) all xs
  tells_closed kept all xs used x =
      tells_turn kept (record kept { server = None }) all [] all.requests all.links xs xs x
      (closed_at edge theirs ours kept (s ∷ history) all x.carries) x.same x.places (λ is. absurd (false≢true is))
      (all_same (waiting_in kept.server) (s ∷ history) xs)
      (now_closed edge theirs (s ∷ history) (waiting_in kept.server) all.client xs used (judged_now edge theirs ours kept (s ∷ history) all xs x))

  -- ---- a head is handed out

  pub tells_head : (h : Head) (server : Option ClientKept) (a b : Kept) (all : Happenings) (xs : List Exchange)
      → StandsFor theirs b (record { event = on.next; outcome = on.head h } ∷ all.client)
      → HasBrought (on.head h) all.client (record { event = on.next; outcome = on.head h } ∷ all.client)
      → Tells edge theirs ours (record { client = a; server = server; under_way = nothing }) (s ∷ history) all xs
      → Tells edge theirs ours (record { client = b; server = server; under_way = nothing }) (s ∷ history) (record {
        client = record { event = on.next; outcome = on.head h } ∷ all.client;
        requests = record { pulled = unpulled h; sent_at = None; was_refused = false } ∷ all.requests;
        links = all.links;
      }) (record { pulled = unpulled h; server = None; sent_at = 0; was_refused = false } ∷ xs)
  tells_head h server a b all xs stands did x =
      let kept : ForwarderKept = record { client = a; server = server; under_way = nothing } in
      let new : Exchange = record { pulled = unpulled h; server = None; sent_at = 0; was_refused = false } in
      tells_turn kept (record { client = b; server = server; under_way = nothing }) all (record { event = on.next; outcome = on.head h } ∷ [])
      (record { pulled = unpulled h; sent_at = None; was_refused = false } ∷ all.requests) all.links xs (new ∷ xs) x
      (head_at edge theirs ours h server a b (s ∷ history) all (record { event = on.next; outcome = on.head h } ∷ all.client) stands did x.carries)
      (same_begun (s ∷ history) (length all.links) all.requests xs (unpulled h) x.same) x.places (λ is. is)
      (record {
        newer = new ∷ [];
        older = xs;
        are = refl;
        begun = (record { unsent = refl; unrefused = refl }, tt);
        go_on = same_turn (waiting_in server) (s ∷ history) xs;
      })
      (judged_begun edge theirs (s ∷ history) h (waiting_in server) all.client xs (judged_now edge theirs ours kept (s ∷ history) all xs x))

  -- ---- the newest request is sent on

  unsent_by : (count : ℕ) (r : Request) (x : Exchange) → r.sent_at ≡ None
      → ((x.server ≡ None) × (r.sent_at ≡ None)) ⊎ IsPlaced (s ∷ history) count r x → x.server ≡ None
  unsent_by count r x unsent (inl none) = none.0
  unsent_by count r x unsent (inr p) =
      let no : ◌≡◌ {A = Option ℕ} None (Some (now (first_of x.sent_at (s ∷ history)))) = sym unsent ∙ p.at in absurd (cc no)

  pub tells_sent : (q : ClientRequest) (size : BodySize) (whole broken : Bool) (client : Kept) (a b : ClientKept)
      → IsTrue (client_allows ours a (asked.ask q size)) → IsClientStep ours a (asked.ask q size) asked.done b
      → (all : Happenings) (r : Request) (rs : List Request) (l : Link) (links : List Link) (x : Exchange) (xs : List Exchange) (f : replies.Exchange) (fs : List replies.Exchange)
      → all.requests ≡ r ∷ rs → all.links ≡ l ∷ links → IsClientTrace ours l.happened a → IsIdle (Some a) (l ∷ links) → IsWaiting edge q size whole broken r
      → now_of l.happened ≡ now (s ∷ history) → exchanges all.client ≡ f ∷ fs → f.reply ≡ no_reply
      → LastIsAlone theirs (s ∷ history) (length links) [] xs → IsFreshFor (s ∷ history) (length links) xs
      → Tells edge theirs ours (record { client = client; server = Some a; under_way = waits q size whole broken }) (s ∷ history) all (x ∷ xs)
      → Tells edge theirs ours (record { client = client; server = Some b; under_way = is_sent whole broken }) (s ∷ history) (record {
        client = all.client;
        requests = record r { sent_at = Some (now_of l.happened) } ∷ rs;
        links = record {
          happened = record { event = asked.ask q size; outcome = asked.done } ∷ l.happened;
          sent = happened.sent_of edge r.pulled (now_of l.happened) ∷ l.sent;
        } ∷ links;
      }) (sent_now (length links) (s ∷ history) x ∷ xs)
  tells_sent q size whole broken client a b allowed step all r rs l links x xs f fs rs_are links_are driven idle w dated replies_are none last fresh t =
      let old : ForwarderKept = record { client = client; server = Some a; under_way = waits q size whole broken } in
      let new : ForwarderKept = record { client = client; server = Some b; under_way = is_sent whole broken } in
      let moment = now_of l.happened in
      let m : Link = record { happened = record { event = asked.ask q size; outcome = asked.done } ∷ l.happened; sent = happened.sent_of edge r.pulled moment ∷ l.sent } in
      let count : length all.links ≡ suc (length links) = ap (λ (ls : List Link). length ls) links_are in
      let many = counted edge theirs ours (s ∷ history) all t.carries.forwarded.sums.servers in
      let same = subst (λ (n : ℕ). AreSame (s ∷ history) n (r ∷ rs) (x ∷ xs)) count
      (subst (λ (qs : List Request). AreSame (s ∷ history) (length all.links) qs (x ∷ xs)) rs_are t.same) in
      let unsent = unsent_by (suc (length links)) r x w.unsent same.0.placed in
      tells_turn old new all [] (record r { sent_at = Some moment } ∷ rs) (m ∷ links) (x ∷ xs) (sent_now (length links) (s ∷ history) x ∷ xs) t
      (asked_at edge theirs ours q size whole broken client a b allowed step (s ∷ history) all r rs l links rs_are links_are t.carries driven idle w)
      (same_sent (s ∷ history) (suc (length links)) (length links) moment r rs x xs (omega arith) dated same)
      (on_sent edge (s ∷ history) moment r x xs l links (record { event = asked.ask q size; outcome = asked.done } ∷ l.happened) unsent same.0.pulled dated
      (subst (AreOn edge (s ∷ history) (x ∷ xs)) links_are t.places)) (λ is. refl)
      (record {
        newer = [];
        older = sent_now (length links) (s ∷ history) x ∷ xs;
        are = refl;
        begun = tt;
        go_on = (
          record {
            sent = inr (unsent, record { open_before = refl; number = length links; server = refl; newest = omega (arith, count, many); at = refl });
            refused = refl;
          },
          refl,
        );
      })
      (still_open edge theirs (s ∷ history) (Some a.buffered) b.buffered all.client (sent_now (length links) (s ∷ history) x ∷ xs)
      (judged_sent edge theirs (s ∷ history) (length links) x unsent (Some a.buffered) all.client xs f fs replies_are none last fresh
      (judged_now edge theirs ours old (s ∷ history) all (x ∷ xs) t)))
