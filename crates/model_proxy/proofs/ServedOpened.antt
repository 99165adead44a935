-- A forwarder that served its client so far does so behind each turn by which a head is handed out: its request waits to be sent on, its client is
-- told to go on, or it gets a reply of the forwarder's own.
use Rattle.std.proofs.Common.{◌≡◌, ◌⊎◌, ℕ, Bool, true, false, not, List, [], ◌∷◌, ◌++◌, refl, sym, ap, ◌∙◌, subst, append_assoc, Option, Some, None}
use Rattle.std.specs.Prelude.{◌==◌}
use Rattle.model_h1.specs.Request.{Head, has_body}
use Rattle.model_h1.specs.Setting.{Setting}
use Rattle.model_h1.specs.Answer.{AnswerHead, BodySize, size_of}
use Rattle.model_h1.specs.Event as on
use Rattle.model_h1.specs.Sums.{Step}
use Rattle.model_h1.specs.Trace.{IsTrace}
use Rattle.model_h1.specs.Laws.Exchanges.{begun}
use Rattle.model_state.specs.Kept.{Kept}
use Rattle.model_state.specs.StandsFor.{StandsFor}
use Rattle.model_client.specs.RequestText.{request_text, asked_shape, given_request_text}
use Rattle.model_client.specs.ClientEvent.{ClientRequest}
use Rattle.model_client.specs.ClientKept.{ClientKept}
use Rattle.model_proxy.specs.Edge.{Edge}
use Rattle.model_proxy.specs.Judged.{is_refused}
use Rattle.model_proxy.specs.Forward.{is_forwardable, forwarded, forwarded_size}
use Rattle.model_proxy.specs.Answers.{own_head, refusal_head}
use Rattle.model_proxy.specs.Past.{ProxyStep}
use Rattle.model_proxy.specs.Exchange.{unpulled, Exchange}
use Rattle.model_proxy.specs.Happenings.{Happenings}
use Rattle.model_proxy.specs.Happenings as happened
use Rattle.model_proxy.specs.Carried.{nothing, waits}
use Rattle.model_proxy.specs.Parts.{begins, goes_on, hands, leaves_rest}
use Rattle.model_proxy.proofs.Quiet.{pending_brings_nothing}
use Rattle.model_proxy.proofs.PartSteps.{none_of, puts_one, part_traced}
use Rattle.model_proxy.proofs.PutSteps.{step_of, put_brings}
use Rattle.model_proxy.proofs.OnLinks.{Stage}
use Rattle.model_proxy.proofs.Serves.{HasNoReply, Serves}
use Rattle.model_proxy.proofs.ServesTurns.{serves_silent, serves_waits, serves_closed}
use Rattle.model_proxy.proofs.ServesReplies.{serves_continue}
use Rattle.model_proxy.proofs.Served.{IsServed, ServedAs, ClientPuts, has_link, left_by, left_as}
use Rattle.model_proxy.proofs.ServedFailures.{Owes, own_put}
use Rattle.model_proxy.proofs.ServedHeads.{IsJust, Headed, headed_by, headed, owes_head, owes_refusal}

-- the request of this head can be sent on, and waits as this
pub record Opens (edge : Edge) (q : ClientRequest) (size : BodySize) (whole broken : Bool) (h : Head) : Type 0 where
  pub may : is_forwardable edge h ≡ true
  pub method : q.head.method ≡ h.method
  pub is_whole : whole ≡ not (has_body h.body)
  pub unbroken : broken ≡ false
  pub sized : size ≡ forwarded_size h
  pub text : (moment : ℕ)
      → request_text q.head (asked_shape size) size q.connection moment ≡ given_request_text (forwarded (happened.sent_of edge (unpulled h) moment))

module _ (edge : Edge) (theirs ours : Setting) (held : theirs.hold_size ≡ ours.hold_size) (s : ProxyStep) (history : List ProxyStep) (stage : Stage) where
  -- ---- it waits to be sent on

  opened_by : (P : Head → Type 0) (q : ClientRequest) (size : BodySize) (whole broken : Bool) (server : Option ClientKept) (b : Kept) (trace : List Step)
      → (y : Headed edge theirs ours held s history stage P server b trace) → Opens edge q size whole broken y.head
      → Serves edge theirs ours (record { client = b; server = server; under_way = waits q size whole broken }) stage (s ∷ history) y.all y.xs
  opened_by P q size whole broken server b trace y so =
      serves_waits edge theirs ours held s history stage y.head q size whole broken b server y.all y.xs so.may so.method so.is_whole so.unbroken so.sized so.text y.newest
      (subst HasNoReply (sym y.exchanges_are) refl) y.is

  pub served_opened : (q : ClientRequest) (size : BodySize) (whole broken : Bool) (server : Option ClientKept) (a b : Kept)
      → ClientPuts theirs (λ ps. (h : Head) × Opens edge q size whole broken h × (ps ≡ hands h ∷ [])) a b
      → IsServed edge theirs ours (record { client = a; server = server; under_way = nothing }) stage (s ∷ history)
      → IsServed edge theirs ours (record { client = b; server = server; under_way = waits q size whole broken }) stage (s ∷ history)
  served_opened q size whole broken server a b puts x =
      let made = headed edge theirs ours held s history stage (Opens edge q size whole broken) server a b puts x in
      (made.1.all, made.1.xs, opened_by (Opens edge q size whole broken) q size whole broken server b made.0 made.1 made.1.so)

  -- and its client, of HTTP/1.1, is told to go on
  record OpensTold (q : ClientRequest) (size : BodySize) (whole broken : Bool) (h : Head) : Type 0 where
    opens : Opens edge q size whole broken h
    minor : (h.minor == 0) ≡ false

  pub served_told : (q : ClientRequest) (size : BodySize) (whole broken : Bool) (server : Option ClientKept) (a b : Kept)
      → ClientPuts theirs (λ ps. (h : Head) × Opens edge q size whole broken h × ((h.minor == 0) ≡ false) × (ps ≡ goes_on ∷ hands h ∷ [])) a b
      → IsServed edge theirs ours (record { client = a; server = server; under_way = nothing }) stage (s ∷ history)
      → IsServed edge theirs ours (record { client = b; server = server; under_way = waits q size whole broken }) stage (s ∷ history)
  served_told q size whole broken server a b puts (all, xs, t) =
      let did = puts all.client t.tells.carries.stands in
      let more = did.0 in
      let stands = did.1 in
      let h = did.2.0 in
      let so = did.2.1 in
      let minor = did.2.2 in
      let parts = did.2.3 in
      let rest = hands h ∷ [] in
      let x = puts_one goes_on rest more parts in
      let e : Step = record { event = on.send_continue; outcome = on.done } in
      let trace = x.first ++ all.client in
      let whole_is : more ++ all.client ≡ x.after ++ (x.step ∷ trace) =
      ap (λ (m : List Step). m ++ all.client) x.are ∙ append_assoc x.after (x.step ∷ x.first) all.client in
      let traced : IsTrace theirs (x.step ∷ trace) = part_traced theirs x.after (x.step ∷ trace) (subst (IsTrace theirs) whole_is stands.traced) in
      let is : x.step ≡ e = step_of theirs goes_on on.send_continue rest more all.client refl x traced in
      let k = left_by theirs trace traced.2 in
      let y = headed_by edge theirs ours held s history stage (OpensTold q size whole broken) server a k.kept all xs x.first h
      (record { opens = so; minor = minor }) k.stands x.earlier t in
      let p = left_by theirs (e ∷ trace) (subst (λ (st : Step). IsTrace theirs (st ∷ trace)) is traced) in
      let under_way = waits q size whole broken in
      let t1 : Serves edge theirs ours (record { client = k.kept; server = server; under_way = under_way }) stage (s ∷ history) y.all (y.just.newest ∷ y.just.older) =
      subst (Serves edge theirs ours (record { client = k.kept; server = server; under_way = under_way }) stage (s ∷ history) y.all) y.just.are
      (opened_by (OpensTold q size whole broken) q size whole broken server k.kept trace y y.so.opens) in
      let put : Happenings = record y.all { client = e ∷ y.all.client } in
      let before : e ∷ trace ≡ put.client = ap (λ (m : List Step). e ∷ m) (sym y.client) in
      let t2 = serves_continue edge theirs ours held s history stage q size whole broken k.kept p.kept server y.all y.just.newest y.just.older (begun y.head) y.before
      y.exchanges_are y.just.unsent y.so.opens.may y.so.minor (subst (StandsFor theirs p.kept) before p.stands) (put_brings on.send_continue y.all.client refl refl refl) t1 in
      let last = none_of x.after put.client x.afterwards in
      let final : more ++ all.client ≡ x.after ++ put.client = whole_is ∙ ap (λ (st : Step). x.after ++ (st ∷ trace)) is ∙ ap (λ (m : List Step). x.after ++ m) before in (
        record put { client = x.after ++ put.client },
        y.just.newest ∷ y.just.older,
        serves_silent edge theirs ours held s history stage on.pending (record { client = p.kept; server = server; under_way = under_way }) b put x.after
            (y.just.newest ∷ y.just.older) pending_brings_nothing last.silent (subst (StandsFor theirs b) final stands) last.brought t2,
      )

  -- ---- it can't be

  -- an idle connection is closed, whatever else is so of the requests
  closed_as : (P : List Exchange → Type 0) (client : Kept) (server : Option ClientKept)
      → ServedAs edge theirs ours P (record { client = client; server = server; under_way = nothing }) stage (s ∷ history)
      → ServedAs edge theirs ours P (record { client = client; server = None; under_way = nothing }) stage (s ∷ history)
  closed_as P client None x = x
  closed_as P client (Some c) (all, xs, so, t) =
      let link = has_link ours c all.links t.tells.carries.server in
      (all, xs, so, serves_closed edge theirs ours held s history stage client c all link.newest link.older xs link.are t)

  -- of this head the forwarder gives the reply itself
  owed : (P : Head → Type 0) (head : AnswerHead) (server : Option ClientKept) (a b c d : Kept)
      → ((h : Head) (xs : List Exchange) → P h → IsJust h xs → Owes edge theirs ours held s history head (size_of 0) xs)
      → ClientPuts theirs (λ ps. (h : Head) × P h × (ps ≡ hands h ∷ [])) a b → (c ≡ b) ⊎ ClientPuts theirs (λ ps. ps ≡ leaves_rest ∷ []) b c
      → (d ≡ c) ⊎ ClientPuts theirs (λ ps. ps ≡ begins (record { head = head; size = size_of 0 }) ∷ []) c d
      → IsServed edge theirs ours (record { client = a; server = server; under_way = nothing }) stage (s ∷ history)
      → IsServed edge theirs ours (record { client = d; server = None; under_way = nothing }) stage (s ∷ history)
  owed P head server a b c d owes puts leaves last x =
      let made = headed edge theirs ours held s history stage P server a b puts x in
      let y = made.1 in
      let t0 = closed_as (Owes edge theirs ours held s history head (size_of 0)) b server (y.all, y.xs, owes y.head y.xs y.so y.just, y.is) in
      let t1 = left_as edge theirs ours held s history stage (Owes edge theirs ours held s history head (size_of 0)) (record { client = b; server = None; under_way = nothing }) c leaves t0 in
      own_put edge theirs ours held s history stage head (size_of 0) c d last t1

  pub served_refusal : (server : Option ClientKept) (a b c d : Kept)
      → ClientPuts theirs (λ ps. (h : Head) × (is_refused edge h ≡ true) × (ps ≡ hands h ∷ [])) a b → (c ≡ b) ⊎ ClientPuts theirs (λ ps. ps ≡ leaves_rest ∷ []) b c
      → (d ≡ c) ⊎ ClientPuts theirs (λ ps. ps ≡ begins (record { head = refusal_head; size = size_of 0 }) ∷ []) c d
      → IsServed edge theirs ours (record { client = a; server = server; under_way = nothing }) stage (s ∷ history)
      → IsServed edge theirs ours (record { client = d; server = None; under_way = nothing }) stage (s ∷ history)
  served_refusal server a b c d =
      owed (λ h. is_refused edge h ≡ true) refusal_head server a b c d (λ h xs so just. owes_refusal edge theirs ours held s history stage h xs just so)

  pub served_unforwardable : (server : Option ClientKept) (a b c d : Kept)
      → ClientPuts theirs (λ ps. (h : Head) × ((is_refused edge h ≡ false) × (is_forwardable edge h ≡ false)) × (ps ≡ hands h ∷ [])) a b
      → (c ≡ b) ⊎ ClientPuts theirs (λ ps. ps ≡ leaves_rest ∷ []) b c
      → (d ≡ c) ⊎ ClientPuts theirs (λ ps. ps ≡ begins (record { head = own_head 501; size = size_of 0 }) ∷ []) c d
      → IsServed edge theirs ours (record { client = a; server = server; under_way = nothing }) stage (s ∷ history)
      → IsServed edge theirs ours (record { client = d; server = None; under_way = nothing }) stage (s ∷ history)
  served_unforwardable server a b c d =
      owed (λ h. (is_refused edge h ≡ false) × (is_forwardable edge h ≡ false)) (own_head 501) server a b c d
      (λ h xs so just. owes_head edge theirs ours held s history stage h xs just so.0 so.1)
