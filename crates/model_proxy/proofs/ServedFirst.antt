-- A forwarder that served its client at first, when nothing had happened; and what it owes where a server connection is refused.
use Rattle.std.proofs.Common.{◌≡◌, Bool, true, List, [], ◌∷◌, refl, ap, ◌∙◌, subst, None}
use Rattle.model_h1.specs.Setting.{Setting}
use Rattle.model_h1.specs.Answer.{BodySize, size_of}
use Rattle.model_h1.specs.Sums.{Step}
use Rattle.model_state.specs.Kept.{Kept}
use Rattle.model_client.specs.ClientEvent.{ClientRequest}
use Rattle.model_proxy.specs.Edge.{Edge}
use Rattle.model_proxy.specs.Forward.{is_forwardable}
use Rattle.model_proxy.specs.Answers.{own_head}
use Rattle.model_proxy.specs.Past as past
use Rattle.model_proxy.specs.Past.{ProxyStep}
use Rattle.model_proxy.specs.Exchange.{Pulled, Exchange}
use Rattle.model_proxy.specs.Forwarding.{IsForwarding, at_first}
use Rattle.model_proxy.specs.Happenings.{Request, nothing_happened}
use Rattle.model_proxy.specs.Carried.{ForwarderKept, nothing, waits, IsIdle, IsWaiting, IsUnderWay, Carries}
use Rattle.model_proxy.proofs.Halves.{waiting_in}
use Rattle.model_proxy.proofs.PartsForward.{no_server_reply}
use Rattle.model_proxy.proofs.OnLinks.{Stage}
use Rattle.model_proxy.proofs.Serves.{Serves, serves_refused}
use Rattle.model_proxy.proofs.Served.{IsServed, ServedAs, has_newest}
use Rattle.model_proxy.proofs.ServedTurns.{some_waits}
use Rattle.model_proxy.proofs.ServedFailures.{Owes}

pub served_first : (edge : Edge) (theirs ours : Setting) (client : Kept) (stage : Stage)
    → Carries edge theirs ours (record { client = client; server = None; under_way = nothing }) [] nothing_happened
    → IsServed edge theirs ours (record { client = client; server = None; under_way = nothing }) stage []
served_first edge theirs ours client stage x = (
  nothing_happened,
  [],
  record { tells = record { carries = x; same = tt; places = λ k. refl; is = at_first }; last = tt; state = tt },
)

-- what it did is as the theorem has it
pub served_is : (edge : Edge) (theirs ours : Setting) (kept : ForwarderKept) (stage : Stage) (history : List ProxyStep) → IsServed edge theirs ours kept stage history
    → (trace : List Step) × (xs : List Exchange) × IsForwarding edge theirs history (waiting_in kept.server) trace xs
served_is edge theirs ours kept stage history (all, xs, t) = (all.client, xs, t.tells.is)

-- no server connection is to be had for the request that waits, which may get 502
pub served_refused : (edge : Edge) (theirs ours : Setting) (held : theirs.hold_size ≡ ours.hold_size) (stage : Stage) (q : ClientRequest) (size : BodySize)
    (whole broken : Bool) (client : Kept) (history : List ProxyStep)
    → IsServed edge theirs ours (record { client = client; server = None; under_way = waits q size whole broken }) stage history
    → ServedAs edge theirs ours (Owes edge theirs ours held (record { event = past.refused; outcome = past.done }) history (own_head 502) (size_of 0))
    (record { client = client; server = None; under_way = nothing }) stage (record { event = past.refused; outcome = past.done } ∷ history)
served_refused edge theirs ours held stage q size whole broken client history (all, xs, t) =
    let kept : ForwarderKept = record { client = client; server = None; under_way = waits q size whole broken } in
    let s : ProxyStep = record { event = past.refused; outcome = past.done } in
    let here = has_newest edge theirs ours kept stage history all xs (some_waits edge q size whole broken all.requests None all.links t.tells.carries.under_way) t in
    let under : IsIdle None all.links × IsWaiting edge q size whole broken here.request =
    subst (λ (rs : List Request). IsUnderWay edge (waits q size whole broken) rs None all.links) here.requests_are t.tells.carries.under_way in
    let may : is_forwardable edge here.newest.pulled.head ≡ true = ap (λ (p : Pulled). is_forwardable edge p.head) here.same.pulled ∙ under.1.forwardable in
    let now : Exchange = record here.newest { was_refused = true } in (
      record all { requests = record here.request { was_refused = true } ∷ here.requests },
      now ∷ here.others,
      record { newest = now; older = here.others; are = refl; reply = λ g head size. no_server_reply edge theirs (s ∷ history) now g may refl (head, size) },
      serves_refused edge theirs ours held stage q size whole broken client history all here.request here.requests here.newest here.others here.exchange
          here.exchanges_before here.requests_are under.1 here.exchanges_are (subst (Serves edge theirs ours kept stage history all) here.are t),
    )
