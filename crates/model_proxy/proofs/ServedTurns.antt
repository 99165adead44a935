-- A forwarder that served its client so far does so behind each turn on the request that was sent on, and on the one that waits for that.
use Rattle.std.proofs.Common.{◌≡◌, ◌⊎◌, ℕ, Bool, true, false, List, [], ◌∷◌, ◌++◌, length, map, append_assoc, refl, sym, ap, ◌∙◌, subst, inl, inr, Option, Some, None}
use Rattle.std.specs.Prelude.{IsTrue, ◌||◌, ◌==◌, ◌<◌}
use Rattle.model_h1.specs.Setting.{Setting}
use Rattle.model_h1.specs.Answer.{BodySize}
use Rattle.model_h1.specs.Event as on
use Rattle.model_h1.specs.Sums.{Step}
use Rattle.model_h1.specs.Laws.Exchanges.{no_reply}
use Rattle.model_state.specs.Kept.{Kept}
use Rattle.model_client.specs.AnswerReading.{Answer}
use Rattle.model_client.specs.AnswerParse.{is_interim}
use Rattle.model_client.specs.ClientEvent as asked
use Rattle.model_client.specs.ClientEvent.{ClientRequest}
use Rattle.model_client.specs.ClientKept.{ClientKept, is_free, can_be_sent, client_allows}
use Rattle.model_client.specs.ClientStep.{IsClientStep}
use Rattle.model_client.specs.ClientTrace.{Happened, IsClientTrace, now_of}
use Rattle.model_client.proofs.Written.{is_text}
use Rattle.model_proxy.specs.Edge.{Edge}
use Rattle.model_proxy.specs.Answers.{says_close}
use Rattle.model_proxy.specs.Past as past
use Rattle.model_proxy.specs.Past.{ProxyStep, first_of}
use Rattle.model_proxy.specs.Exchange.{pulled, Exchange}
use Rattle.model_proxy.specs.Happenings.{Request, Link, Happenings}
use Rattle.model_proxy.specs.Carried.{ForwarderKept, nothing, waits, is_sent, IsIdle, IsWaiting, IsSentOn, IsUnderWay}
use Rattle.model_proxy.specs.Moves.{after_outcome}
use Rattle.model_h1.specs.Trace.{IsTrace}
use Rattle.model_proxy.specs.Parts.{takes, takes_end, request_breaks, parts_of, body_end}
use Rattle.model_proxy.proofs.SentPlaces.{IsPlaced}
use Rattle.model_proxy.proofs.PiecesPut.{IsPutOf}
use Rattle.model_proxy.proofs.PartSteps.{none_of, one_of, puts_one, part_traced, one_by, out_of, same_pulled}
use Rattle.model_proxy.proofs.OnLinks.{Stage, before_head, over, answering}
use Rattle.model_proxy.proofs.OwnSteps.{own_quiet}
use Rattle.model_proxy.proofs.WholeBodies.{HasAll, ended_bytes}
use Rattle.model_proxy.proofs.Serves.{Serves}
use Rattle.model_proxy.proofs.LinkSteps.{IsUnused}
use Rattle.model_proxy.proofs.ServesTurns.{IsUnfit, serves_left, serves_sent}
use Rattle.model_proxy.proofs.ServesBodies.{serves_piece, serves_end, serves_broken}
use Rattle.model_proxy.proofs.ServesReplies.{answer_link, here, serves_moved, serves_over, serves_dropped}
use Rattle.model_proxy.proofs.HandedSteps.{hands_one, one_quiet, end_behind}
use Rattle.model_proxy.proofs.Served.{IsServed, ClientPuts, ServerHands, HasLink, has_link, HasNewest, has_newest}

-- ---- the request that is under way

pub some_waits : (edge : Edge) (q : ClientRequest) (size : BodySize) (whole broken : Bool) (rs : List Request) (server : Option ClientKept) (links : List Link)
    → IsUnderWay edge (waits q size whole broken) rs server links → rs ≡ [] → ⊥
some_waits edge q size whole broken [] server links x e = x
some_waits edge q size whole broken (r ∷ rs) server links x e = let no : r ∷ rs ≡ [] = e in cc no

some_sent : (edge : Edge) (whole broken : Bool) (rs : List Request) (c : ClientKept) (links : List Link) → IsUnderWay edge (is_sent whole broken) rs (Some c) links
    → rs ≡ [] → ⊥
some_sent edge whole broken [] c links x e = x
some_sent edge whole broken (r ∷ rs) c links x e = let no : r ∷ rs ≡ [] = e in cc no

unsent_by : (history : List ProxyStep) (count : ℕ) (r : Request) (x : Exchange) → r.sent_at ≡ None
    → ((x.server ≡ None) × (r.sent_at ≡ None)) ⊎ IsPlaced history count r x → x.server ≡ None
unsent_by history count r x unsent (inl none) = none.0
unsent_by history count r x unsent (inr p) =
    let no : ◌≡◌ {A = Option ℕ} None (Some (past.now (first_of x.sent_at history))) = sym unsent ∙ p.at in absurd (cc no)

module _ (edge : Edge) (theirs ours : Setting) (held : theirs.hold_size ≡ ours.hold_size) (s : ProxyStep) (history : List ProxyStep) where
  -- ---- one that waits

  -- it is sent on, on a connection of which all was read
  pub served_sent : (q : ClientRequest) (size : BodySize) (whole broken : Bool) (client : Kept) (a b : ClientKept) → IsTrue (client_allows ours a (asked.ask q size))
      → IsClientStep ours a (asked.ask q size) asked.done b → a.waiting ≡ [] → is_free a ≡ true → a.unread ≡ [] → a.now ≡ past.now (s ∷ history)
      → IsServed edge theirs ours (record { client = client; server = Some a; under_way = waits q size whole broken }) over (s ∷ history)
      → IsServed edge theirs ours (record { client = client; server = Some b; under_way = is_sent whole broken }) before_head (s ∷ history)
  served_sent q size whole broken client a b allowed step waiting free unread moment (all, xs, t) =
      let kept : ForwarderKept = record { client = client; server = Some a; under_way = waits q size whole broken } in
      let link = has_link ours a all.links t.tells.carries.server in
      let here = has_newest edge theirs ours kept over (s ∷ history) all xs (some_waits edge q size whole broken all.requests (Some a) all.links t.tells.carries.under_way) t in
      let under : IsIdle (Some a) (link.newest ∷ link.older) × IsWaiting edge q size whole broken here.request =
      subst (λ (ls : List Link). IsIdle (Some a) ls × IsWaiting edge q size whole broken here.request) link.are
      (subst (λ (rs : List Request). IsUnderWay edge (waits q size whole broken) rs (Some a) all.links) here.requests_are t.tells.carries.under_way) in
      let dated : now_of link.newest.happened ≡ past.now (s ∷ history) = sym (is_text ours link.newest.happened a link.ran).now ∙ moment in (
        _,
        _,
        serves_sent edge theirs ours held s history q size whole broken client a b allowed step waiting free unread all here.request here.requests link.newest link.older
            here.newest here.others here.exchange here.exchanges_before here.requests_are link.are link.ran under.0 under.1 dated here.exchanges_are
            (unsent_by (s ∷ history) (length all.links) here.request here.newest under.1.unsent here.same.placed) here.same.pulled
            (subst (Serves edge theirs ours kept over (s ∷ history) all) here.are t),
      )

  -- it can't be asked on the connection that is open, which is closed
  pub served_left_waiting : (stage : Stage) (q : ClientRequest) (size : BodySize) (whole broken : Bool) (client : Kept) (a : ClientKept) → can_be_sent q size ≡ true
      → 0 < ours.write_buffer → (IsUnused a → a.waiting ≡ [] → IsUnfit ours a q size)
      → IsServed edge theirs ours (record { client = client; server = Some a; under_way = waits q size whole broken }) stage (s ∷ history)
      → IsServed edge theirs ours (record { client = client; server = None; under_way = waits q size whole broken }) stage (s ∷ history)
  served_left_waiting stage q size whole broken client a can room why (all, xs, t) =
      let link = has_link ours a all.links t.tells.carries.server in
      (all, xs, serves_left edge theirs ours held s history stage q size whole broken client a all link.newest link.older xs link.are link.ran can room why t)

  -- ---- one that was sent on

  module _ (stage : Stage) (whole broken : Bool) (a : Kept) (c : ClientKept) where
    abbrev sent : ForwarderKept
    sent = record { client = a; server = Some c; under_way = is_sent whole broken }

    -- all that is known of it
    pub record Sent (all : Happenings) (xs : List Exchange) : Type 0 where
      pub link : HasLink ours c all.links
      pub here : HasNewest (s ∷ history) all xs
      pub body : IsSentOn edge whole broken here.request link.newest
      pub is : Serves edge theirs ours sent stage (s ∷ history) all (here.newest ∷ here.others)

    pub sent_so : (all : Happenings) (xs : List Exchange) → Serves edge theirs ours sent stage (s ∷ history) all xs → Sent all xs
    sent_so all xs t =
        let link = has_link ours c all.links t.tells.carries.server in
        let here = has_newest edge theirs ours sent stage (s ∷ history) all xs (some_sent edge whole broken all.requests c all.links t.tells.carries.under_way) t in
        record {
          link = link;
          here = here;
          body = subst (λ (ls : List Link). IsUnderWay edge (is_sent whole broken) (here.request ∷ here.requests) (Some c) ls) link.are
              (subst (λ (rs : List Request). IsUnderWay edge (is_sent whole broken) rs (Some c) all.links) here.requests_are t.tells.carries.under_way);
          is = subst (Serves edge theirs ours sent stage (s ∷ history) all) here.are t;
        }

    -- a piece of its body goes on
    pub served_piece : (bytes : List ℕ) (b : Kept) (d : ClientKept) → IsTrue (client_allows ours c (asked.chunk bytes)) → IsClientStep ours c (asked.chunk bytes) asked.done d
        → ClientPuts theirs (λ ps. ps ≡ takes bytes ∷ []) a b → IsServed edge theirs ours sent stage (s ∷ history)
        → IsServed edge theirs ours (record { client = b; server = Some d; under_way = is_sent whole broken }) stage (s ∷ history)
    served_piece bytes b d allowed step puts (all, xs, t) =
        let y = sent_so all xs t in
        let did = puts all.client t.tells.carries.stands in
        let brings = one_of did.0 all.client (takes bytes) (on.bytes bytes) refl did.2 in (
          _,
          _,
          serves_piece edge theirs ours s history stage whole broken a b c all did.0 y.here.request y.here.requests y.link.newest y.link.older y.here.newest y.here.others
              y.here.requests_are y.link.are y.link.ran y.body brings.silent did.1 y.is bytes d allowed step brings.brought,
        )

    -- its end does
    pub served_whole : (b : Kept) (d : ClientKept) → IsTrue (client_allows ours c asked.body_end) → IsClientStep ours c asked.body_end asked.done d
        → ClientPuts theirs (λ ps. ps ≡ takes_end ∷ []) a b → IsServed edge theirs ours sent stage (s ∷ history)
        → IsServed edge theirs ours (record { client = b; server = Some d; under_way = is_sent true broken }) stage (s ∷ history)
    served_whole b d allowed step puts (all, xs, t) =
        let y = sent_so all xs t in
        let did = puts all.client t.tells.carries.stands in
        let brings = one_of did.0 all.client takes_end on.body_ended refl did.2 in (
          _,
          _,
          serves_end edge theirs ours s history stage whole broken a b c all did.0 y.here.request y.here.requests y.link.newest y.link.older y.here.newest y.here.others
              y.here.requests_are y.link.are y.link.ran y.body brings.silent did.1 y.is d allowed step
              (has_all all did.0 y.here.request y.here.requests did.2 did.1.traced
              (sym (sym t.tells.carries.forwarded.sent.requests ∙ ap (map (λ (r : Request). r.pulled)) y.here.requests_are))) brings.brought,
        )
      where
        has_all : (all : Happenings) (more : List Step) (r : Request) (rs : List Request) → parts_of more ≡ takes_end ∷ [] → IsTrace theirs (more ++ all.client)
            → r.pulled ∷ map (λ (r : Request). r.pulled) rs ≡ pulled all.client → HasAll r.pulled
        has_all all more r rs parts traced are =
            let x = puts_one takes_end [] more parts in
            let before = x.first ++ all.client in
            let whole : more ++ all.client ≡ x.after ++ (x.step ∷ before) =
            ap (λ (m : List Step). m ++ all.client) x.are ∙ append_assoc x.after (x.step ∷ x.first) all.client in
            let there = part_traced theirs x.after (x.step ∷ before) (subst (IsTrace theirs) whole traced) in
            let one = one_by x.step.event x.step.outcome takes_end on.body_ended before x.one refl in
            let first = none_of x.first all.client x.earlier in
            let now : pulled (x.step ∷ before) ≡ record r.pulled { is_ended = true } ∷ map (λ (r : Request). r.pulled) rs =
            one.brought.pulled ∙ ap (after_outcome on.body_ended) (same_pulled all.client before first.brought ∙ sym are) in
            ended_bytes theirs x.step before (record r.pulled { is_ended = true }) (map (λ (r : Request). r.pulled) rs) there
            (out_of x.step.event x.step.outcome takes_end on.body_ended x.one refl) now

    -- its body broke
    pub served_broken : (fault : on.BodyFault) (b : Kept) → ClientPuts theirs (λ ps. ps ≡ request_breaks fault ∷ []) a b → IsServed edge theirs ours sent stage (s ∷ history)
        → IsServed edge theirs ours (record { client = b; server = Some c; under_way = is_sent whole true }) stage (s ∷ history)
    served_broken fault b puts (all, xs, t) =
        let y = sent_so all xs t in
        let did = puts all.client t.tells.carries.stands in
        let brings = one_of did.0 all.client (request_breaks fault) (on.broken_by fault) refl did.2 in (
          _,
          _,
          serves_broken edge theirs ours s history stage whole broken a b c all did.0 y.here.request y.here.requests y.link.newest y.link.older y.here.newest y.here.others
              y.here.requests_are y.link.are y.link.ran y.body brings.silent did.1 y.is fault brings.brought,
        )

    -- no request is under way any more, and its connection is closed
    pub served_dropped : (next : Stage) → IsServed edge theirs ours sent stage (s ∷ history)
        → IsServed edge theirs ours (record { client = a; server = None; under_way = nothing }) next (s ∷ history)
    served_dropped next (all, xs, t) =
        let y = sent_so all xs t in
        (_, _, serves_dropped edge theirs ours held s history stage next whole broken a c all y.link.newest y.link.older y.here.newest y.here.others y.link.are y.is)

  -- the connection is kept
  pub served_over : (broken : Bool) (client : Kept) (c : ClientKept) (a : Answer) → says_close a ≡ false
      → IsServed edge theirs ours (record { client = client; server = Some c; under_way = is_sent true broken }) (answering a) (s ∷ history)
      → IsServed edge theirs ours (record { client = client; server = Some c; under_way = nothing }) over (s ∷ history)
  served_over broken client c a stays (all, xs, t) =
      let y = sent_so (answering a) true broken client c all xs t in
      (_, _, serves_over edge theirs ours held s history broken client c a all y.link.newest y.link.older y.here.newest y.here.others y.link.are stays y.is)

  -- ---- its answer

  -- the head is handed out, and may not be put
  pub served_answered : (whole broken : Bool) (a : Kept) (c d : ClientKept) (ans : Answer) → is_interim ans.status ≡ false → (ans.is_lax || (ans.status == 101)) ≡ false
      → ((trace : List Happened) → IsClientTrace ours trace c → IsClientTrace ours (record { event = asked.next; outcome = asked.answer ans } ∷ trace) d)
      → IsServed edge theirs ours (record { client = a; server = Some c; under_way = is_sent whole broken }) before_head (s ∷ history)
      → IsServed edge theirs ours (record { client = a; server = Some d; under_way = is_sent whole broken }) (answering ans) (s ∷ history)
  served_answered whole broken a c d ans final good tells (all, xs, t) =
      let y = sent_so before_head whole broken a c all xs t in
      let l = y.link.newest in
      let e : Happened = record { event = asked.next; outcome = asked.answer ans } in
      let ran = tells l.happened y.link.ran in
      let quiet = own_quiet ours (e ∷ []) l.happened d (refl, tt) ran in
      let z = here edge theirs ours held s history before_head (answering ans) whole broken a c d all l y.link.older (e ∷ l.happened) y.here.newest y.here.others y.here.exchange
      y.here.exchanges_before y.link.are y.here.exchanges_are ran quiet y.is in
      let unput : y.here.exchange.reply ≡ no_reply = (z.at c y.link.ran).unput in (
        _,
        _,
        serves_moved edge theirs ours held s history before_head (answering ans) whole broken a c d all l y.link.older (e ∷ l.happened) y.here.newest y.here.others
            y.here.exchange y.here.exchanges_before y.link.are y.here.exchanges_are ran quiet y.is
            (answer_link ours (s ∷ history) l (length y.link.older) y.here.newest y.here.exchange.reply ans y.here.exchange.reply final good
            (subst (IsPutOf y.here.newest.pulled.head.method ans []) (sym unput) tt) z),
      )

  -- the end of its body was handed out, and the end of the reply may not be put
  pub served_ended : (whole broken : Bool) (a : Kept) (c d : ClientKept) (ans : Answer) → ServerHands ours (body_end ∷ []) c d
      → IsServed edge theirs ours (record { client = a; server = Some c; under_way = is_sent whole broken }) (answering ans) (s ∷ history)
      → IsServed edge theirs ours (record { client = a; server = Some d; under_way = is_sent whole broken }) (answering ans) (s ∷ history)
  served_ended whole broken a c d ans hands (all, xs, t) =
      let y = sent_so (answering ans) whole broken a c all xs t in
      let l = y.link.newest in
      let n = length y.link.older in
      let did = hands l.happened y.link.ran in
      let one = hands_one ours body_end did.0 l.happened d did.1 did.2 in
      let quiet = one_quiet ours body_end asked.body_ended did.0 l.happened d refl tt did.1 one in
      let z = here edge theirs ours held s history (answering ans) (answering ans) whole broken a c d all l y.link.older (did.0 ++ l.happened) y.here.newest y.here.others
      y.here.exchange y.here.exchanges_before y.link.are y.here.exchanges_are did.1 quiet y.is in (
        _,
        _,
        serves_moved edge theirs ours held s history (answering ans) (answering ans) whole broken a c d all l y.link.older (did.0 ++ l.happened) y.here.newest y.here.others
            y.here.exchange y.here.exchanges_before y.link.are y.here.exchanges_are did.1 quiet y.is
            (end_behind ours (s ∷ history) l n y.here.newest y.here.exchange.reply ans did.0 d z y.here.exchange.reply (λ items ended put. put) one),
      )
