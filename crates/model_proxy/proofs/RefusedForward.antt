-- A forwarder that was one so far is one behind a step that says that no server connection can be had.
use Rattle.std.proofs.Common.{◌≡◌, ◌⊎◌, ℕ, Bool, true, false, cond, List, [], ◌∷◌, length, filter, reverse, refl, sym, ap, ◌∙◌, subst, arith, inl, inr, Option, Some, None}
use Rattle.std.specs.Prelude.{◌||◌, ◌&&◌, is_none}
use Rattle.model_h1.specs.Setting.{Setting}
use Rattle.model_h1.specs.Answer.{BodySize}
use Rattle.model_h1.specs.Sums.{Step}
use Rattle.model_h1.specs.Laws.Exchanges.{Reply, no_reply, exchanges}
use Rattle.model_h1.specs.Laws.Exchanges as replies
use Rattle.model_state.specs.Kept.{Kept}
use Rattle.model_client.specs.ClientEvent.{ClientRequest}
use Rattle.model_client.specs.ClientKept.{ClientKept}
use Rattle.model_proxy.specs.Edge.{Edge}
use Rattle.model_proxy.specs.Past as past
use Rattle.model_proxy.specs.Past.{ProxyStep, Server, servers, server_at, now, first_of}
use Rattle.model_proxy.specs.Exchange.{Exchange, is_on, first_sent}
use Rattle.model_proxy.specs.Forwarding.{IsReply, AreReplies, IsAloneBefore, IsCleanAtFirst, IsUsed, HasFailed, behind}
use Rattle.model_proxy.specs.Happenings.{Request, Happenings}
use Rattle.model_proxy.specs.Carried.{ForwarderKept, nothing, waits, IsIdle, IsWaiting}
use Rattle.model_proxy.proofs.Events.{refused_leaves, refused_at}
use Rattle.model_proxy.proofs.SentPlaces.{IsPlaced, AreSame}
use Rattle.model_proxy.proofs.PlacesKept.{sent_by_then, same_later, on_later, same_refused, on_refused}
use Rattle.model_proxy.proofs.Halves.{waiting_in, IsJudged, both_halves}
use Rattle.model_proxy.proofs.LaterSteps.{judged_later}
use Rattle.model_proxy.proofs.TurnMoves.{replies_as, alone_as, alone_first}
use Rattle.model_proxy.proofs.EventsForward.{Tells, judged_now, same_servers, unmoved_by}

abbrev refused_now : Exchange → Exchange
refused_now x = record x { was_refused = true }

module _ (edge : Edge) (setting : Setting) (history : List ProxyStep) (x : Exchange) (unsent : x.server ≡ None) where
  off_both : (k : ℕ) (ys : List Exchange) → filter (is_on k) (x ∷ ys) ≡ filter (is_on k) (refused_now x ∷ ys)
  off_both k ys =
      let off : is_on k x ≡ false = ap (λ (s : Option ℕ). is_on k (record x { server = s })) unsent in
      ap (λ (t : Bool). cond t (x ∷ filter (is_on k) ys) (filter (is_on k) ys)) off
      ∙ sym (ap (λ (t : Bool). cond t (refused_now x ∷ filter (is_on k) ys) (filter (is_on k) ys)) off)

  replied_refused : (xs : List Exchange) (f : replies.Exchange) (fs : List replies.Exchange) → f.reply ≡ no_reply → AreReplies edge setting history [] (x ∷ xs) (f ∷ fs)
      → AreReplies edge setting history [] (refused_now x ∷ xs) (f ∷ fs)
  replied_refused xs f fs none y = (
    y.0,
    subst (λ (r : Reply). IsReply edge setting history [] (refused_now x) r) (sym none) tt,
    replies_as edge setting history (x ∷ []) (refused_now x ∷ []) xs fs (λ k. ap (first_sent (length history)) (off_both k [])) y.2,
  )

  not_failed : (xs : List Exchange) → HasFailed setting history (x ∷ xs) → ⊥
  not_failed xs y = let no : ◌≡◌ {A = Option ℕ} None (Some y.0) = sym unsent ∙ y.1 in cc no

  judged_refused : (waiting : Option (List ℕ)) (trace : List Step) (xs : List Exchange) (f : replies.Exchange) (fs : List replies.Exchange) → exchanges trace ≡ f ∷ fs
      → f.reply ≡ no_reply → IsJudged edge setting history waiting trace (x ∷ xs) → IsJudged edge setting history waiting trace (refused_now x ∷ xs)
  judged_refused waiting trace xs f fs are none y = record {
    undrained = y.undrained;
    used = λ closed k newest. subst (λ (ys : List Exchange). IsUsed ys (server_at k history)) (off_both k xs) (y.used closed k newest);
    told = y.told;
    replied = subst (λ (gs : List replies.Exchange). AreReplies edge setting history [] (refused_now x ∷ xs) gs) (sym are)
        (replied_refused xs f fs none (subst (λ (gs : List replies.Exchange). AreReplies edge setting history [] (x ∷ xs) gs) are y.replied));
    clean = λ k low. subst (λ (ys : List Exchange). IsCleanAtFirst history k (reverse ys)) (off_both k xs) (y.clean k low);
    alone = (
      alone_first edge setting history (refused_now x) x.server,
      alone_as edge setting history (x ∷ []) (refused_now x ∷ []) xs (λ z k w. subst (IsAloneBefore setting history z k) (off_both k []) w) y.alone.1,
    );
    failed = λ is. absurd (not_failed xs (y.failed is));
  }

module _ (edge : Edge) (theirs ours : Setting) where
  unsent_by : (history : List ProxyStep) (count : ℕ) (r : Request) (x : Exchange) → r.sent_at ≡ None
      → ((x.server ≡ None) × (r.sent_at ≡ None)) ⊎ IsPlaced history count r x → x.server ≡ None
  unsent_by history count r x unsent (inl none) = none.0
  unsent_by history count r x unsent (inr p) =
      let no : ◌≡◌ {A = Option ℕ} None (Some (now (first_of x.sent_at history))) = sym unsent ∙ p.at in absurd (cc no)

  or_true : (a : Bool) → true ≡ (a || true)
  or_true true = refl
  or_true false = refl

  is_now : (x : Exchange) → x.server ≡ None → true ≡ (x.was_refused || (true && is_none x.server))
  is_now x none = or_true x.was_refused ∙ ap (λ (o : Option ℕ). x.was_refused || (true && is_none o)) (sym none)

  pub tells_refused : (q : ClientRequest) (size : BodySize) (whole broken : Bool) (kept : Kept) (server : Option ClientKept) (history : List ProxyStep) (all : Happenings)
      (r : Request) (rs : List Request) (x : Exchange) (xs : List Exchange) (f : replies.Exchange) (fs : List replies.Exchange) → all.requests ≡ r ∷ rs
      → IsIdle server all.links → IsWaiting edge q size whole broken r → exchanges all.client ≡ f ∷ fs → f.reply ≡ no_reply
      → Tells edge theirs ours (record { client = kept; server = server; under_way = waits q size whole broken }) history all (x ∷ xs)
      → Tells edge theirs ours (record { client = kept; server = server; under_way = nothing }) (record { event = past.refused; outcome = past.done } ∷ history)
      (record all { requests = record r { was_refused = true } ∷ rs }) (record x { was_refused = true } ∷ xs)
  tells_refused q size whole broken kept server history all r rs x xs f fs rs_are idle w are none t =
      let s : ProxyStep = record { event = past.refused; outcome = past.done } in
      let old : ForwarderKept = record { client = kept; server = server; under_way = waits q size whole broken } in
      let r' : Request = record r { was_refused = true } in
      let after : Happenings = record all { requests = r' ∷ rs } in
      let many = length all.links in
      let same = subst (λ (qs : List Request). AreSame history many qs (x ∷ xs)) rs_are t.same in
      let unsent = unsent_by history many r x w.unsent same.0.placed in
      let sent = sent_by_then history many (r' ∷ rs) (refused_now x ∷ xs) (same_refused history many r rs x xs same) in
      let as_before = same_servers edge theirs ours past.refused past.done history (refused_leaves past.done) in
      let carries = refused_at edge theirs ours q size whole broken kept server history all r rs rs_are t.carries idle w in
      let same' = same_later s history many many (r' ∷ rs) (refused_now x ∷ xs) (omega arith) (same_refused history many r rs x xs same) in
      let places = on_later edge s history (refused_now x ∷ xs) all.links sent (on_refused edge history x xs all.links unsent t.places) in
      let judged = judged_later theirs s history edge (unmoved_by edge theirs ours s history as_before) (waiting_in server) (waiting_in server) all.client (refused_now x ∷ xs) sent
      (ap (λ (vs : List Server). length vs) as_before) (λ closed. closed)
      (judged_refused edge theirs history x unsent (waiting_in server) all.client xs f fs are none (judged_now edge theirs ours old history all (x ∷ xs) t)) in
      record {
        carries = carries;
        same = same';
        places = places;
        is = behind s history (waiting_in server) all.client (x ∷ xs) (waiting_in server) [] (refused_now x ∷ xs) t.is
            (record { told = tt; gave = tt; opened = λ is. is })
            (record {
              newer = [];
              older = refused_now x ∷ xs;
              are = refl;
              begun = tt;
              go_on = (record { sent = inl (refl, refl); refused = is_now x unsent }, refl);
            })
            (both_halves edge theirs ours (record { client = kept; server = server; under_way = nothing }) (s ∷ history) after (refused_now x ∷ xs) carries same' places judged);
      }
