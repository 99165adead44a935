-- A forwarder that served its client by all that happened so far; and what its two connections do between two events.
use Rattle.std.proofs.Common.{◌≡◌, ◌⊎◌, List, [], ◌∷◌, ◌++◌, length, refl, sym, ap, ◌∙◌, subst, append_assoc, inl, inr, Option, Some, None}
use Rattle.std.specs.Prelude.{⊤}
use Rattle.model_h1.specs.Setting.{Setting}
use Rattle.model_h1.specs.Event as on
use Rattle.model_h1.specs.Sums.{Step}
use Rattle.model_h1.specs.Trace.{IsTrace}
use Rattle.model_h1.specs.Laws.Exchanges.{exchanges}
use Rattle.model_h1.specs.Laws.Exchanges as replies
use Rattle.model_h1.proofs.PastExistence.{past_exists}
use Rattle.model_state.specs.Kept.{Kept}
use Rattle.model_state.specs.KeptOf.{kept_of}
use Rattle.model_state.specs.StandsFor.{StandsFor}
use Rattle.model_client.specs.ClientKept.{ClientKept}
use Rattle.model_client.specs.ClientTrace.{Happened, IsClientTrace}
use Rattle.model_proxy.specs.Edge.{Edge}
use Rattle.model_proxy.specs.Past.{ProxyStep}
use Rattle.model_proxy.specs.Exchange.{Exchange}
use Rattle.model_proxy.specs.Forwarding.{AreReplies}
use Rattle.model_proxy.specs.Happenings.{Request, Link, Happenings}
use Rattle.model_proxy.specs.Carried.{ForwarderKept, nothing, IsServer}
use Rattle.model_proxy.specs.Parts.{Part, leaves_rest, parts_of, Handed, handed_of}
use Rattle.model_proxy.proofs.Quiet.{pending_brings_nothing}
use Rattle.model_proxy.proofs.SentPlaces.{IsSame, AreSame}
use Rattle.model_proxy.proofs.EventsForward.{judged_now}
use Rattle.model_proxy.proofs.PartSteps.{AllBring, none_of, puts_one, brings_one, part_traced, BringsSo}
use Rattle.model_proxy.proofs.PutSteps.{event_of, step_of, drop_brings}
use Rattle.model_proxy.proofs.OnLinks.{Stage}
use Rattle.model_proxy.proofs.OwnSteps.{own_quiet}
use Rattle.model_proxy.proofs.HandedSteps.{idle_steps}
use Rattle.model_proxy.proofs.Serves.{Serves}
use Rattle.model_proxy.proofs.ServesTurns.{serves_silent, serves_quiet, serves_closed}

-- all that happened so far, and the requests
abbrev pub IsServed : Edge → Setting → Setting → ForwarderKept → Stage → List ProxyStep → Type 0
IsServed edge theirs ours kept stage history = (all : Happenings) × (xs : List Exchange) × Serves edge theirs ours kept stage history all xs

-- with what else is so of the requests
abbrev pub ServedAs : Edge → Setting → Setting → (List Exchange → Type 0) → ForwarderKept → Stage → List ProxyStep → Type 0
ServedAs edge theirs ours P kept stage history =
    (all : Happenings) × (xs : List Exchange) × P xs × Serves edge theirs ours kept stage history all xs

-- more happened on the client's connection, by parts that are so
abbrev pub ClientPuts : Setting → (List Part → Type 0) → Kept → Kept → Type 0
ClientPuts setting Are a b = (trace : List Step) → StandsFor setting a trace → (more : List Step) × StandsFor setting b (more ++ trace) × Are (parts_of more)

-- more happened on the server connection, which handed this out
abbrev pub ServerHands : Setting → List Handed → ClientKept → ClientKept → Type 0
ServerHands setting handed c d =
    (trace : List Happened) → IsClientTrace setting trace c → (more : List Happened) × IsClientTrace setting (more ++ trace) d × (handed_of more ≡ handed)

-- ---- what there is

pub record HasLink (setting : Setting) (c : ClientKept) (links : List Link) : Type 0 where
  pub newest : Link
  pub older : List Link
  pub are : links ≡ newest ∷ older
  pub ran : IsClientTrace setting newest.happened c

pub has_link : (setting : Setting) (c : ClientKept) (links : List Link) → IsServer setting (Some c) links → HasLink setting c links
has_link setting c [] x = absurd x
has_link setting c (l ∷ older) x = record { newest = l; older = older; are = refl; ran = x }

-- the newest request, in all words
pub record HasNewest (history : List ProxyStep) (all : Happenings) (xs : List Exchange) : Type 0 where
  pub request : Request
  pub requests : List Request
  pub requests_are : all.requests ≡ request ∷ requests
  pub newest : Exchange
  pub others : List Exchange
  pub are : xs ≡ newest ∷ others
  pub same : IsSame history (length all.links) request newest
  pub exchange : replies.Exchange
  pub exchanges_before : List replies.Exchange
  pub exchanges_are : exchanges all.client ≡ exchange ∷ exchanges_before
  pub named : exchange.head ≡ newest.pulled.head

newest_by : (edge : Edge) (setting : Setting) (history : List ProxyStep) (all : Happenings) (rs : List Request) (xs : List Exchange) (fs : List replies.Exchange)
    → all.requests ≡ rs → exchanges all.client ≡ fs → (rs ≡ [] → ⊥) → AreSame history (length all.links) rs xs → AreReplies edge setting history [] xs fs
    → HasNewest history all xs
newest_by edge setting history all [] xs fs rs_are fs_are some same judged = absurd (some refl)
newest_by edge setting history all (r ∷ rs) [] fs rs_are fs_are some same judged = absurd same
newest_by edge setting history all (r ∷ rs) (x ∷ xs) [] rs_are fs_are some same judged = absurd judged
newest_by edge setting history all (r ∷ rs) (x ∷ xs) (f ∷ fs) rs_are fs_are some same judged = record {
  request = r;
  requests = rs;
  requests_are = rs_are;
  newest = x;
  others = xs;
  are = refl;
  same = same.0;
  exchange = f;
  exchanges_before = fs;
  exchanges_are = fs_are;
  named = judged.0;
}

pub has_newest : (edge : Edge) (theirs ours : Setting) (kept : ForwarderKept) (stage : Stage) (history : List ProxyStep) (all : Happenings) (xs : List Exchange)
    → (all.requests ≡ [] → ⊥) → Serves edge theirs ours kept stage history all xs → HasNewest history all xs
has_newest edge theirs ours kept stage history all xs some t =
    newest_by edge theirs history all all.requests xs (exchanges all.client) refl refl some t.tells.same (judged_now edge theirs ours kept history all xs t.tells).replied

-- ---- what the client's connection did, step by step

-- each trace of a connection leaves something kept
pub record Left (setting : Setting) (trace : List Step) : Type 0 where
  pub kept : Kept
  pub stands : StandsFor setting kept trace

pub left_by : (setting : Setting) (trace : List Step) → IsTrace setting trace → Left setting trace
left_by setting trace traced =
    let past = past_exists setting trace in
    record { kept = kept_of setting past.0; stands = record { traced = traced; past = past.0; of_trace = past.1; parts = refl } }

-- One step put this part, and the steps before it and behind it none.
pub record PutsStep (setting : Setting) (e : on.Event) (b : Kept) (before : List Step) (more : List Step) : Type 0 where
  pub first : List Step
  pub after : List Step
  pub are : more ++ before ≡ after ++ (record { event = e; outcome = on.done } ∷ (first ++ before))
  pub earlier : AllBring on.pending first before
  pub afterwards : AllBring on.pending after (record { event = e; outcome = on.done } ∷ (first ++ before))
  pub start : Kept
  pub stands_first : StandsFor setting start (first ++ before)
  pub put : Kept
  pub stands_put : StandsFor setting put (record { event = e; outcome = on.done } ∷ (first ++ before))
  pub stands : StandsFor setting b (after ++ (record { event = e; outcome = on.done } ∷ (first ++ before)))

pub puts_step : (setting : Setting) (q : Part) (e : on.Event) (b : Kept) (before more : List Step) → event_of q ≡ Some e → StandsFor setting b (more ++ before)
    → parts_of more ≡ q ∷ [] → PutsStep setting e b before more
puts_step setting q e b before more event stands parts =
    let x = puts_one q [] more parts in
    let all : more ++ before ≡ x.after ++ (x.step ∷ (x.first ++ before)) =
    ap (λ (m : List Step). m ++ before) x.are ∙ append_assoc x.after (x.step ∷ x.first) before in
    let traced : IsTrace setting (x.step ∷ (x.first ++ before)) =
    part_traced setting x.after (x.step ∷ (x.first ++ before)) (subst (IsTrace setting) all stands.traced) in
    let is : x.step ≡ record { event = e; outcome = on.done } = step_of setting q e [] more before event x traced in
    let put : IsTrace setting (record { event = e; outcome = on.done } ∷ (x.first ++ before)) =
    subst (λ (s : Step). IsTrace setting (s ∷ (x.first ++ before))) is traced in
    let whole : more ++ before ≡ x.after ++ (record { event = e; outcome = on.done } ∷ (x.first ++ before)) =
    all ∙ ap (λ (s : Step). x.after ++ (s ∷ (x.first ++ before))) is in
    let a = left_by setting (x.first ++ before) traced.2 in
    let p = left_by setting (record { event = e; outcome = on.done } ∷ (x.first ++ before)) put in
    record {
      first = x.first;
      after = x.after;
      are = whole;
      earlier = none_of x.first before x.earlier;
      afterwards = none_of x.after (record { event = e; outcome = on.done } ∷ (x.first ++ before)) x.afterwards;
      start = a.kept;
      stands_first = a.stands;
      put = p.kept;
      stands_put = p.stands;
      stands = subst (StandsFor setting b) whole stands;
    }

-- ---- the moves of one side

module _ (edge : Edge) (theirs ours : Setting) (held : theirs.hold_size ≡ ours.hold_size) (s : ProxyStep) (history : List ProxyStep) (stage : Stage) where
  -- nothing is put
  pub silent_as : (P : List Exchange → Type 0) (kept : ForwarderKept) (b : Kept) → ClientPuts theirs (λ ps. ps ≡ []) kept.client b
      → ServedAs edge theirs ours P kept stage (s ∷ history) → ServedAs edge theirs ours P (record kept { client = b }) stage (s ∷ history)
  silent_as P kept b puts (all, xs, p, t) =
      let did = puts all.client t.tells.carries.stands in
      let none = none_of did.0 all.client did.2 in (
        record all { client = did.0 ++ all.client },
        xs,
        p,
        serves_silent edge theirs ours held s history stage on.pending kept b all did.0 xs pending_brings_nothing none.silent did.1 none.brought t,
      )

  -- the rest of the request's body is left, or it isn't
  pub left_as : (P : List Exchange → Type 0) (kept : ForwarderKept) (b : Kept)
      → (b ≡ kept.client) ⊎ ClientPuts theirs (λ ps. ps ≡ leaves_rest ∷ []) kept.client b → ServedAs edge theirs ours P kept stage (s ∷ history)
      → ServedAs edge theirs ours P (record kept { client = b }) stage (s ∷ history)
  left_as P kept b (inl same) x =
      subst (λ (c : Kept). ServedAs edge theirs ours P (record kept { client = c }) stage (s ∷ history)) (sym same) x
  left_as P kept b (inr puts) (all, xs, p, t) =
      let did = puts all.client t.tells.carries.stands in
      let x = puts_one leaves_rest [] did.0 did.2 in
      let whole : did.0 ++ all.client ≡ x.after ++ (x.step ∷ (x.first ++ all.client)) =
      ap (λ (m : List Step). m ++ all.client) x.are ∙ append_assoc x.after (x.step ∷ x.first) all.client in
      let is : x.step ≡ record { event = on.drop_body; outcome = on.done } =
      step_of theirs leaves_rest on.drop_body [] did.0 all.client refl x
      (part_traced theirs x.after (x.step ∷ (x.first ++ all.client)) (subst (IsTrace theirs) whole did.1.traced)) in
      let brings = brings_one leaves_rest did.0 all.client on.pending x
      (subst (λ (e : Step). BringsSo on.pending e (x.first ++ all.client)) (sym is) (drop_brings (x.first ++ all.client))) in (
        record all { client = did.0 ++ all.client },
        xs,
        p,
        serves_silent edge theirs ours held s history stage on.pending kept b all did.0 xs pending_brings_nothing brings.silent did.1 brings.brought t,
      )

  pub served_silent : (kept : ForwarderKept) (b : Kept) → ClientPuts theirs (λ ps. ps ≡ []) kept.client b → IsServed edge theirs ours kept stage (s ∷ history)
      → IsServed edge theirs ours (record kept { client = b }) stage (s ∷ history)
  served_silent kept b puts (all, xs, t) = let y = silent_as (λ ys. ⊤) kept b puts (all, xs, tt, t) in (y.0, y.1, y.3)

  pub served_left : (kept : ForwarderKept) (b : Kept) → (b ≡ kept.client) ⊎ ClientPuts theirs (λ ps. ps ≡ leaves_rest ∷ []) kept.client b
      → IsServed edge theirs ours kept stage (s ∷ history) → IsServed edge theirs ours (record kept { client = b }) stage (s ∷ history)
  served_left kept b leaves (all, xs, t) = let y = left_as (λ ys. ⊤) kept b leaves (all, xs, tt, t) in (y.0, y.1, y.3)

  -- the server connection hands out nothing
  pub served_quiet : (kept : ForwarderKept) (c d : ClientKept) → ServerHands ours [] c d → IsServed edge theirs ours (record kept { server = Some c }) stage (s ∷ history)
      → IsServed edge theirs ours (record kept { server = Some d }) stage (s ∷ history)
  served_quiet kept c d hands (all, xs, t) =
      let link = has_link ours c all.links t.tells.carries.server in
      let did = hands link.newest.happened link.ran in
      let idle = idle_steps ours did.0 link.newest.happened d did.1 did.2 in (
        record all { links = record { happened = did.0 ++ link.newest.happened; sent = link.newest.sent } ∷ link.older },
        xs,
        serves_quiet edge theirs ours held s history stage kept c d all link.newest link.older did.0 xs link.are did.1
            (own_quiet ours did.0 link.newest.happened d idle.own did.1) idle.little t,
      )

  -- while no request is under way it is closed
  pub served_closed : (client : Kept) (server : Option ClientKept) → IsServed edge theirs ours (record { client = client; server = server; under_way = nothing }) stage (s ∷ history)
      → IsServed edge theirs ours (record { client = client; server = None; under_way = nothing }) stage (s ∷ history)
  served_closed client None x = x
  served_closed client (Some c) (all, xs, t) =
      let link = has_link ours c all.links t.tells.carries.server in
      (all, xs, serves_closed edge theirs ours held s history stage client c all link.newest link.older xs link.are t)
