-- A forwarder that is one behind an event is one behind each turn that puts a part of a reply which fits.
use Rattle.std.proofs.Common.{◌≡◌, ℕ, Bool, false, List, [], ◌∷◌, refl, sym, ap, ◌∙◌, subst, Option}
use Rattle.std.specs.Prelude.{◌||◌}
use Rattle.std.specs.List.{list_any, AllByRecursion}
use Rattle.model_h1.specs.Setting.{Setting}
use Rattle.model_h1.specs.Event as on
use Rattle.model_h1.specs.Sums.{Step, since_head, is_drain, is_body_error, is_draining, came_since_head}
use Rattle.model_h1.specs.Laws.Exchanges.{Exchange, exchanges, changed_by, newest_changed}
use Rattle.model_state.specs.Kept.{Kept}
use Rattle.model_state.specs.StandsFor.{StandsFor}
use Rattle.model_proxy.specs.Edge.{Edge}
use Rattle.model_proxy.specs.Past.{ProxyStep}
use Rattle.model_proxy.specs.Exchange as requests
use Rattle.model_proxy.specs.Forwarding.{IsToldRightly, IsReply, AreReplies, HasFailed}
use Rattle.model_proxy.specs.Happenings.{Happenings}
use Rattle.model_proxy.specs.Carried.{ForwarderKept}
use Rattle.model_proxy.specs.Moves.{HasBrought}
use Rattle.model_proxy.proofs.Quiet.{done_brings_nothing}
use Rattle.model_proxy.proofs.Turns.{client_at}
use Rattle.model_proxy.proofs.Halves.{waiting_in, IsJudged}
use Rattle.model_proxy.proofs.EventsForward.{Tells, judged_now}
use Rattle.model_proxy.proofs.TurnsForward.{all_same, tells_turn}

-- ---- what a part makes of the replies

pub put_exchanges : (event : on.Event) (trace : List Step) (f : Exchange) (fs : List Exchange) → exchanges trace ≡ f ∷ fs
    → exchanges (record { event = event; outcome = on.done } ∷ trace) ≡ changed_by trace event on.done f ∷ fs
unfolding exchanges
put_exchanges event trace f fs are = ap (newest_changed (changed_by trace event on.done)) are

error_by : (event : on.Event) (trace : List Step) (is : Bool) → is_body_error event ≡ is
    → came_since_head is_body_error (record { event = event; outcome = on.done } ∷ trace) ≡ (is || came_since_head is_body_error trace)
unfolding since_head
error_by event trace is e = ap (λ (b : Bool). b || list_any (λ (s : Step). is_body_error s.event) (since_head trace)) e

module _ (edge : Edge) (setting : Setting) (history : List ProxyStep) where
  fits_as : (x : requests.Exchange) (xs : List requests.Exchange) (f g : Exchange) (fs : List Exchange) → g.head ≡ f.head → IsReply edge setting history [] x g.reply
      → AreReplies edge setting history [] (x ∷ xs) (f ∷ fs) → AreReplies edge setting history [] (x ∷ xs) (g ∷ fs)
  fits_as x xs f g fs head reply y = (head ∙ y.0, reply, y.2)

  -- a part that isn't a cut
  pub judged_put : (event : on.Event) (waiting : Option (List ℕ)) (trace : List Step) (x : requests.Exchange) (xs : List requests.Exchange) (f : Exchange) (fs : List Exchange)
      → is_drain event ≡ false → is_body_error event ≡ false → exchanges trace ≡ f ∷ fs
      → (changed_by trace event on.done f).head ≡ f.head → IsToldRightly edge (changed_by trace event on.done f)
      → IsReply edge setting history [] x (changed_by trace event on.done f).reply → IsJudged edge setting history waiting trace (x ∷ xs)
      → IsJudged edge setting history waiting (record { event = event; outcome = on.done } ∷ trace) (x ∷ xs)
  judged_put event waiting trace x xs f fs no_drain no_error are head told reply y =
      let now = put_exchanges event trace f fs are in
      record {
        undrained = ap (λ (b : Bool). b || is_draining trace) no_drain ∙ y.undrained;
        used = y.used;
        told = subst (λ (gs : List Exchange). AllByRecursion (IsToldRightly edge) gs) (sym now)
            (told, (subst (λ (gs : List Exchange). AllByRecursion (IsToldRightly edge) gs) are y.told).1);
        replied = subst (λ (gs : List Exchange). AreReplies edge setting history [] (x ∷ xs) gs) (sym now)
            (fits_as x xs f (changed_by trace event on.done f) fs head reply
            (subst (λ (gs : List Exchange). AreReplies edge setting history [] (x ∷ xs) gs) are y.replied));
        clean = y.clean;
        alone = y.alone;
        failed = λ is. y.failed (sym (error_by event trace false no_error) ∙ is);
      }

  cut_exchanges : (trace : List Step) → exchanges (record { event = on.body_error; outcome = on.done } ∷ trace) ≡ exchanges trace
  unfolding exchanges changed_by
  cut_exchanges trace = none_left (exchanges trace)
    where
      none_left : (es : List Exchange) → newest_changed (λ (e : Exchange). e) es ≡ es
      none_left [] = refl
      none_left (e ∷ es) = refl

  -- it is cut, where the answer failed
  pub judged_cut : (waiting : Option (List ℕ)) (trace : List Step) (xs : List requests.Exchange) → HasFailed setting history xs
      → IsJudged edge setting history waiting trace xs → IsJudged edge setting history waiting (record { event = on.body_error; outcome = on.done } ∷ trace) xs
  judged_cut waiting trace xs failed y = record {
    undrained = y.undrained;
    used = y.used;
    told = subst (λ (gs : List Exchange). AllByRecursion (IsToldRightly edge) gs) (sym (cut_exchanges trace)) y.told;
    replied = subst (λ (gs : List Exchange). AreReplies edge setting history [] xs gs) (sym (cut_exchanges trace)) y.replied;
    clean = y.clean;
    alone = y.alone;
    failed = λ is. failed;
  }

module _ (edge : Edge) (theirs ours : Setting) (s : ProxyStep) (history : List ProxyStep) where
  pub tells_put : (event : on.Event) (kept : ForwarderKept) (client : Kept) (all : Happenings) (x : requests.Exchange) (xs : List requests.Exchange) (f : Exchange) (fs : List Exchange)
      → is_drain event ≡ false → is_body_error event ≡ false → exchanges all.client ≡ f ∷ fs
      → (changed_by all.client event on.done f).head ≡ f.head → IsToldRightly edge (changed_by all.client event on.done f)
      → IsReply edge theirs (s ∷ history) [] x (changed_by all.client event on.done f).reply
      → StandsFor theirs client (record { event = event; outcome = on.done } ∷ all.client)
      → HasBrought on.done all.client (record { event = event; outcome = on.done } ∷ all.client)
      → Tells edge theirs ours kept (s ∷ history) all (x ∷ xs)
      → Tells edge theirs ours (record kept { client = client }) (s ∷ history) (record all { client = record { event = event; outcome = on.done } ∷ all.client }) (x ∷ xs)
  tells_put event kept client all x xs f fs no_drain no_error are head told reply stands did t =
      tells_turn edge theirs ours s history kept (record kept { client = client }) all (record { event = event; outcome = on.done } ∷ []) all.requests all.links (x ∷ xs) (x ∷ xs) t
      (client_at edge theirs ours on.done kept client done_brings_nothing (s ∷ history) all (record { event = event; outcome = on.done } ∷ all.client) stands did t.carries)
      t.same t.places (λ is. is) (all_same (waiting_in kept.server) (s ∷ history) (x ∷ xs))
      (judged_put edge theirs (s ∷ history) event (waiting_in kept.server) all.client x xs f fs no_drain no_error are head told reply
      (judged_now edge theirs ours kept (s ∷ history) all (x ∷ xs) t))

  pub tells_cut : (kept : ForwarderKept) (client : Kept) (all : Happenings) (xs : List requests.Exchange) → HasFailed theirs (s ∷ history) xs
      → StandsFor theirs client (record { event = on.body_error; outcome = on.done } ∷ all.client)
      → HasBrought on.done all.client (record { event = on.body_error; outcome = on.done } ∷ all.client)
      → Tells edge theirs ours kept (s ∷ history) all xs
      → Tells edge theirs ours (record kept { client = client }) (s ∷ history) (record all { client = record { event = on.body_error; outcome = on.done } ∷ all.client }) xs
  tells_cut kept client all xs failed stands did t =
      tells_turn edge theirs ours s history kept (record kept { client = client }) all (record { event = on.body_error; outcome = on.done } ∷ []) all.requests all.links xs xs t
      (client_at edge theirs ours on.done kept client done_brings_nothing (s ∷ history) all (record { event = on.body_error; outcome = on.done } ∷ all.client) stands did t.carries)
      t.same t.places (λ is. is) (all_same (waiting_in kept.server) (s ∷ history) xs)
      (judged_cut edge theirs (s ∷ history) (waiting_in kept.server) all.client xs failed (judged_now edge theirs ours kept (s ∷ history) all xs t))
