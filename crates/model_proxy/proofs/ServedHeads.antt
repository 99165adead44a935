-- A forwarder that served its client so far does so behind each turn that hands out a head.
use Rattle.std.proofs.Common.{◌≡◌, true, false, List, [], ◌∷◌, ◌++◌, refl, sym, ap, ◌∙◌, subst, append_assoc, Option, None}
use Rattle.model_h1.specs.Request.{Head}
use Rattle.model_h1.specs.Setting.{Setting}
use Rattle.model_h1.specs.Answer.{size_of}
use Rattle.model_h1.specs.Event as on
use Rattle.model_h1.specs.Sums.{Step}
use Rattle.model_h1.specs.Trace.{IsTrace}
use Rattle.model_h1.specs.Laws.Exchanges.{begun, exchanges}
use Rattle.model_h1.specs.Laws.Exchanges as replies
use Rattle.model_state.specs.Kept.{Kept}
use Rattle.model_state.specs.StandsFor.{StandsFor}
use Rattle.model_client.specs.ClientKept.{ClientKept}
use Rattle.model_proxy.specs.Edge.{Edge}
use Rattle.model_proxy.specs.Judged.{is_refused}
use Rattle.model_proxy.specs.Forward.{is_forwardable}
use Rattle.model_proxy.specs.Answers.{own_head, refusal_head}
use Rattle.model_proxy.specs.Past.{ProxyStep}
use Rattle.model_proxy.specs.Exchange as requests
use Rattle.model_proxy.specs.Exchange.{unpulled, Exchange}
use Rattle.model_proxy.specs.Happenings.{Happenings}
use Rattle.model_proxy.specs.Happenings as happened
use Rattle.model_proxy.specs.Carried.{nothing, IsNewest}
use Rattle.model_proxy.specs.Parts.{hands, parts_of}
use Rattle.model_proxy.proofs.Quiet.{brought, pending_brings_nothing}
use Rattle.model_proxy.proofs.SilentSteps.{silent_exchanges}
use Rattle.model_proxy.proofs.TurnMoves.{head_exchanges}
use Rattle.model_proxy.proofs.PartsForward.{refused_reply, unforwardable_reply}
use Rattle.model_proxy.proofs.PartSteps.{AllBring, none_of, puts_one, part_traced}
use Rattle.model_proxy.proofs.PutSteps.{hands_so}
use Rattle.model_proxy.proofs.OnLinks.{Stage}
use Rattle.model_proxy.proofs.Serves.{Serves}
use Rattle.model_proxy.proofs.ServesTurns.{serves_silent, serves_head}
use Rattle.model_proxy.proofs.Served.{IsServed, ClientPuts, left_by}
use Rattle.model_proxy.proofs.ServedFailures.{Owes}

-- the newest request has this head, and nothing was done with it
pub record IsJust (h : Head) (xs : List Exchange) : Type 0 where
  pub newest : Exchange
  pub older : List Exchange
  pub are : xs ≡ newest ∷ older
  pub head : newest.pulled ≡ unpulled h
  pub unsent : newest.server ≡ None

-- A head is handed out, and no other part comes behind it; before it these steps came.
record HandsStep (setting : Setting) (h : Head) (b : Kept) (before more : List Step) : Type 0 where
  first : List Step
  after : List Step
  are : more ++ before ≡ after ++ (record { event = on.next; outcome = on.head h } ∷ (first ++ before))
  earlier : AllBring on.pending first before
  afterwards : AllBring on.pending after (record { event = on.next; outcome = on.head h } ∷ (first ++ before))
  start : Kept
  stands_first : StandsFor setting start (first ++ before)
  handed : Kept
  stands_handed : StandsFor setting handed (record { event = on.next; outcome = on.head h } ∷ (first ++ before))
  stands : StandsFor setting b (after ++ (record { event = on.next; outcome = on.head h } ∷ (first ++ before)))

hands_step : (setting : Setting) (h : Head) (b : Kept) (before more : List Step) → StandsFor setting b (more ++ before) → parts_of more ≡ hands h ∷ []
    → HandsStep setting h b before more
hands_step setting h b before more stands parts =
    let x = puts_one (hands h) [] more parts in
    let all : more ++ before ≡ x.after ++ (x.step ∷ (x.first ++ before)) =
    ap (λ (m : List Step). m ++ before) x.are ∙ append_assoc x.after (x.step ∷ x.first) before in
    let traced : IsTrace setting (x.step ∷ (x.first ++ before)) =
    part_traced setting x.after (x.step ∷ (x.first ++ before)) (subst (IsTrace setting) all stands.traced) in
    let is : x.step ≡ record { event = on.next; outcome = on.head h } = hands_so setting x.step.event x.step.outcome (x.first ++ before) h x.one traced in
    let handed : IsTrace setting (record { event = on.next; outcome = on.head h } ∷ (x.first ++ before)) =
    subst (λ (s : Step). IsTrace setting (s ∷ (x.first ++ before))) is traced in
    let whole : more ++ before ≡ x.after ++ (record { event = on.next; outcome = on.head h } ∷ (x.first ++ before)) =
    all ∙ ap (λ (s : Step). x.after ++ (s ∷ (x.first ++ before))) is in
    let a = left_by setting (x.first ++ before) traced.2 in
    let p = left_by setting (record { event = on.next; outcome = on.head h } ∷ (x.first ++ before)) handed in
    record {
      first = x.first;
      after = x.after;
      are = whole;
      earlier = none_of x.first before x.earlier;
      afterwards = none_of x.after (record { event = on.next; outcome = on.head h } ∷ (x.first ++ before)) x.afterwards;
      start = a.kept;
      stands_first = a.stands;
      handed = p.kept;
      stands_handed = p.stands;
      stands = subst (StandsFor setting b) whole stands;
    }

module _ (edge : Edge) (theirs ours : Setting) (held : theirs.hold_size ≡ ours.hold_size) (s : ProxyStep) (history : List ProxyStep) (stage : Stage) where
  -- the forwarder behind these steps, by which a head was handed out that is so
  pub record Headed (P : Head → Type 0) (server : Option ClientKept) (b : Kept) (trace : List Step) : Type 0 where
    pub head : Head
    pub so : P head
    pub all : Happenings
    pub client : all.client ≡ trace
    pub xs : List Exchange
    pub just : IsJust head xs
    pub newest : IsNewest head all
    pub before : List replies.Exchange
    pub exchanges_are : exchanges all.client ≡ begun head ∷ before
    pub is : Serves edge theirs ours (record { client = b; server = server; under_way = nothing }) stage (s ∷ history) all xs

  pub headed_by : (P : Head → Type 0) (server : Option ClientKept) (a b : Kept) (all : Happenings) (xs : List Exchange) (more : List Step) (h : Head) → P h
      → StandsFor theirs b (more ++ all.client) → parts_of more ≡ hands h ∷ []
      → Serves edge theirs ours (record { client = a; server = server; under_way = nothing }) stage (s ∷ history) all xs → Headed P server b (more ++ all.client)
  headed_by P server a b all xs more h so stands parts t =
      let p = hands_step theirs h b all.client more stands parts in
      let first : Happenings = record all { client = p.first ++ all.client } in
      let t0 = serves_silent edge theirs ours held s history stage on.pending (record { client = a; server = server; under_way = nothing }) p.start all p.first xs
      pending_brings_nothing p.earlier.silent p.stands_first p.earlier.brought t in
      let t1 = serves_head edge theirs ours held s history stage h server p.start p.handed first xs p.stands_handed
      (brought on.next (on.head h) first.client refl refl refl refl) t0 in
      let new : Exchange = record { pulled = unpulled h; server = None; sent_at = 0; was_refused = false } in
      let request : happened.Request = record { pulled = unpulled h; sent_at = None; was_refused = false } in
      let next : Happenings = record { client = record { event = on.next; outcome = on.head h } ∷ first.client; requests = request ∷ all.requests; links = all.links } in
      record {
        head = h;
        so = so;
        all = record next { client = p.after ++ next.client };
        client = sym p.are;
        xs = new ∷ xs;
        just = record { newest = new; older = xs; are = refl; head = refl; unsent = refl };
        newest = record { newest = request; others = all.requests; are = refl; pulled = refl; unsent = refl; unrefused = refl };
        before = exchanges first.client;
        exchanges_are = silent_exchanges p.after next.client p.afterwards.silent ∙ head_exchanges edge theirs (s ∷ history) h first.client;
        is = serves_silent edge theirs ours held s history stage on.pending (record { client = p.handed; server = server; under_way = nothing }) b next p.after (new ∷ xs)
            pending_brings_nothing p.afterwards.silent p.stands p.afterwards.brought t1;
      }

  -- whatever happened before
  pub headed : (P : Head → Type 0) (server : Option ClientKept) (a b : Kept) → ClientPuts theirs (λ ps. (h : Head) × P h × (ps ≡ hands h ∷ [])) a b
      → IsServed edge theirs ours (record { client = a; server = server; under_way = nothing }) stage (s ∷ history)
      → (trace : List Step) × Headed P server b trace
  headed P server a b puts (all, xs, t) =
      let did = puts all.client t.tells.carries.stands in
      (did.0 ++ all.client, headed_by P server a b all xs did.0 did.2.0 did.2.1 did.1 did.2.2 t)

  -- its request can't be sent on: this is the reply that it may get
  pub owes_head : (h : Head) (xs : List Exchange) → IsJust h xs → (is_refused edge h ≡ false) → (is_forwardable edge h ≡ false)
      → Owes edge theirs ours held s history (own_head 501) (size_of 0) xs
  owes_head h xs x judged can = record {
    newest = x.newest;
    older = x.older;
    are = x.are;
    reply = λ g head size.
        unforwardable_reply edge theirs (s ∷ history) x.newest g (ap (λ (p : requests.Pulled). is_refused edge p.head) x.head ∙ judged)
        (ap (λ (p : requests.Pulled). is_forwardable edge p.head) x.head ∙ can) (head, size);
  }

  pub owes_refusal : (h : Head) (xs : List Exchange) → IsJust h xs → is_refused edge h ≡ true → Owes edge theirs ours held s history refusal_head (size_of 0) xs
  owes_refusal h xs x judged = record {
    newest = x.newest;
    older = x.older;
    are = x.are;
    reply = λ g head size.
        refused_reply edge theirs (s ∷ history) x.newest g (ap (λ (p : requests.Pulled). is_refused edge p.head) x.head ∙ judged) head size;
  }
