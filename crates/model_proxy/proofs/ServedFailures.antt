-- A forwarder that served its client so far does so behind each turn that puts a reply of its own, or cuts one.
use Rattle.std.proofs.Common.{◌≡◌, ◌⊎◌, ℕ, ◌<◌, Bool, true, false, List, [], ◌∷◌, ◌++◌, length, map, refl, sym, ap, ◌∙◌, subst, inl, inr, Some, None}
use Rattle.std.specs.Prelude.{⊤}
use Rattle.model_h1.specs.Setting.{Setting}
use Rattle.model_h1.specs.Answer.{AnswerHead, BodySize, size_of}
use Rattle.model_h1.specs.Event as on
use Rattle.model_h1.specs.Event.{BodyFault}
use Rattle.model_h1.specs.Sums.{is_draining, now}
use Rattle.model_h1.specs.Laws.Exchanges.{AnswerGiven, Reply, answer_given, exchanges}
use Rattle.model_state.specs.Kept.{Kept}
use Rattle.model_client.specs.AnswerReading.{Answer, answer_is, refused}
use Rattle.model_client.specs.ClientEvent as asked
use Rattle.model_client.specs.ClientEvent.{ClientOutcome}
use Rattle.model_client.specs.ClientKept.{ClientKept}
use Rattle.model_client.specs.ClientStep.{IsClientStep}
use Rattle.model_client.specs.ClientTrace.{Happened, IsClientTrace}
use Rattle.model_client.specs.ReadOut.{ReadAnswer, read_out}
use Rattle.model_proxy.specs.Edge.{Edge}
use Rattle.model_proxy.specs.Forward.{is_forwardable}
use Rattle.model_proxy.specs.Answers.{own_head}
use Rattle.model_proxy.specs.Past.{ProxyStep, servers, server_at}
use Rattle.model_proxy.specs.Exchange.{Pulled, Exchange}
use Rattle.model_proxy.specs.Forwarding.{IsReply, HasFailed}
use Rattle.model_proxy.specs.Happenings.{Request, Link, Happenings, server_of}
use Rattle.model_proxy.specs.Carried.{nothing, is_sent}
use Rattle.model_proxy.specs.Parts.{begins, breaks_off, body_fault}
use Rattle.model_proxy.proofs.Quiet.{pending_brings_nothing}
use Rattle.model_proxy.proofs.Turns.{same_server}
use Rattle.model_proxy.proofs.SoFar.{so_far}
use Rattle.model_proxy.proofs.Halves.{waiting_in}
use Rattle.model_proxy.proofs.SentPlaces.{AreSame}
use Rattle.model_proxy.proofs.PartsForward.{server_reply}
use Rattle.model_proxy.proofs.FoundHanded.{is_out}
use Rattle.model_proxy.proofs.BadAnswers.{FindsBad, finds_nothing, closed_bad, head_bad, body_fails}
use Rattle.model_proxy.proofs.PutSteps.{put_brings}
use Rattle.model_proxy.proofs.OnLinks.{Stage, before_head, answering, IsAt}
use Rattle.model_proxy.proofs.LinkSteps.{one_trace, OnLink, quiet_link, newest_server}
use Rattle.model_proxy.proofs.OwnSteps.{own_quiet}
use Rattle.model_proxy.proofs.Serves.{IsIn, Serves}
use Rattle.model_proxy.proofs.ServesTurns.{serves_silent}
use Rattle.model_proxy.proofs.ServesReplies.{here, serves_own, serves_cut, serves_dropped}
use Rattle.model_proxy.proofs.HandedSteps.{hands_one, pulls_it}
use Rattle.model_proxy.proofs.Served.{IsServed, ServedAs, ClientPuts, ServerHands, has_newest, puts_step}
use Rattle.model_proxy.proofs.ServedTurns.{Sent, sent_so}

no_requests : (history : List ProxyStep) (count : ℕ) (rs : List Request) (x : Exchange) (xs : List Exchange) → AreSame history count rs (x ∷ xs) → rs ≡ [] → ⊥
no_requests history count [] x xs same e = same
no_requests history count (r ∷ rs) x xs same e = let no : r ∷ rs ≡ [] = e in cc no

module _ (edge : Edge) (theirs ours : Setting) (held : theirs.hold_size ≡ ours.hold_size) (s : ProxyStep) (history : List ProxyStep) where
  -- the newest request may get a reply with this head, of this size
  pub record Owes (head : AnswerHead) (size : BodySize) (xs : List Exchange) : Type 0 where
    pub newest : Exchange
    pub older : List Exchange
    pub are : xs ≡ newest ∷ older
    pub reply : (g : AnswerGiven) → g.answered.head ≡ head → g.answered.size ≡ size → IsReply edge theirs (s ∷ history) [] newest (answer_given g)

  -- it is put, or may not be
  pub own_put : (stage : Stage) (head : AnswerHead) (size : BodySize) (a b : Kept)
      → (b ≡ a) ⊎ ClientPuts theirs (λ ps. ps ≡ begins (record { head = head; size = size }) ∷ []) a b
      → ServedAs edge theirs ours (Owes head size) (record { client = a; server = None; under_way = nothing }) stage (s ∷ history)
      → IsServed edge theirs ours (record { client = b; server = None; under_way = nothing }) stage (s ∷ history)
  own_put stage head size a b (inl same) (all, xs, owes, t) =
      (all, xs, subst (λ (c : Kept). Serves edge theirs ours (record { client = c; server = None; under_way = nothing }) stage (s ∷ history) all xs) (sym same) t)
  own_put stage head size a b (inr puts) (all, xs, owes, t) =
      let did = puts all.client t.tells.carries.stands in
      let p = puts_step theirs (begins (record { head = head; size = size })) (on.answer head size) b all.client did.0 refl did.1 did.2 in
      let first : Happenings = record all { client = p.first ++ all.client } in
      let t0 = serves_silent edge theirs ours held s history stage on.pending (record { client = a; server = None; under_way = nothing }) p.start all p.first xs
      pending_brings_nothing p.earlier.silent p.stands_first p.earlier.brought t in
      let t1 : Serves edge theirs ours (record { client = p.start; server = None; under_way = nothing }) stage (s ∷ history) first (owes.newest ∷ owes.older) =
      subst (Serves edge theirs ours (record { client = p.start; server = None; under_way = nothing }) stage (s ∷ history) first) owes.are t0 in
      let here = has_newest edge theirs ours (record { client = p.start; server = None; under_way = nothing }) stage (s ∷ history) first (owes.newest ∷ owes.older)
      (no_requests (s ∷ history) (length first.links) first.requests owes.newest owes.older t1.tells.same) t1 in
      let t2 = serves_own edge theirs ours held s history stage p.start p.put first owes.newest owes.older here.exchange here.exchanges_before here.exchanges_are head size
      (owes.reply (record { answered = record { head = head; size = size; drained = is_draining first.client }; moment = now first.client; pieces = []; is_ended = false }) refl refl)
      p.stands_put (put_brings (on.answer head size) first.client refl refl refl) t1 in
      let put : Happenings = record first { client = record { event = on.answer head size; outcome = on.done } ∷ first.client } in (
        record put { client = p.after ++ put.client },
        owes.newest ∷ owes.older,
        serves_silent edge theirs ours held s history stage on.pending (record { client = p.put; server = None; under_way = nothing }) b put p.after (owes.newest ∷ owes.older)
            pending_brings_nothing p.afterwards.silent p.stands p.afterwards.brought t2,
      )

  -- ---- no answer comes

  -- the next answer is one that is never passed on, or a fault, or none will come
  abbrev pub IsBadOutcome : ClientOutcome → Type 0
  IsBadOutcome (asked.answer a) = is_out a ≡ true
  IsBadOutcome (asked.fault f) = ⊤
  IsBadOutcome (asked.closed end) = ⊤
  IsBadOutcome o = ⊥

  bad_by : (n : ℕ) (l : Link) (x : Exchange) (r : Reply) (c d : ClientKept) (ran : IsClientTrace ours l.happened c) → server_at n (s ∷ history) ≡ server_of l
      → (o : ClientOutcome) → IsBadOutcome o → IsClientTrace ours (record { event = asked.next; outcome = o } ∷ l.happened) d → OnLink ours (s ∷ history) l n before_head x r
      → FindsBad theirs (s ∷ history) x n
  bad_by n l x r c d ran same (asked.answer a) out after z =
      head_bad theirs ours held (s ∷ history) n l x r c d ran (asked.answer a) (answer_is a) (λ read. refl) out
      (same ∙ sym (same_server edge theirs ours l (record { event = asked.next; outcome = asked.answer a } ∷ l.happened)
      (own_quiet ours (record { event = asked.next; outcome = asked.answer a } ∷ []) l.happened d (refl, tt) after))) after z
  bad_by n l x r c d ran same (asked.fault f) out after z =
      head_bad theirs ours held (s ∷ history) n l x r c d ran (asked.fault f) (refused f) (λ read. refl) tt
      (same ∙ sym (same_server edge theirs ours l (record { event = asked.next; outcome = asked.fault f } ∷ l.happened)
      (own_quiet ours (record { event = asked.next; outcome = asked.fault f } ∷ []) l.happened d (refl, tt) after))) after z
  bad_by n l x r c d ran same (asked.closed end) out (b, before, allowed, step) z =
      closed_bad theirs ours held (s ∷ history) n l x r c ran same end d
      (subst (λ (k : ClientKept). IsClientStep ours k asked.next (asked.closed end) d) (one_trace ours l.happened b c before ran) step) z
  bad_by n l x r c d ran same (asked.took m) out after z = absurd out
  bad_by n l x r c d ran same (asked.bytes bytes) out after z = absurd out
  bad_by n l x r c d ran same (asked.trailers lines) out after z = absurd out
  bad_by n l x r c d ran same asked.body_ended out after z = absurd out
  bad_by n l x r c d ran same asked.pending out after z = absurd out
  bad_by n l x r c d ran same (asked.broken_by f) out after z = absurd out
  bad_by n l x r c d ran same (asked.gave bytes) out after z = absurd out
  bad_by n l x r c d ran same asked.done out after z = absurd out

  -- what is known of the newest request while its connection is open
  record Known (stage : Stage) (whole broken : Bool) (a : Kept) (c : ClientKept) (all : Happenings) (xs : List Exchange) : Type 0 where
    sent : Sent edge theirs ours held s history stage whole broken a c all xs
    at : sent.here.newest.server ≡ Some (length sent.link.older)
    there : server_at (length sent.link.older) (s ∷ history) ≡ server_of sent.link.newest
    link : OnLink ours (s ∷ history) sent.link.newest (length sent.link.older) stage sent.here.newest sent.here.exchange.reply
    rightly : (is_forwardable edge sent.here.newest.pulled.head ≡ true) × (sent.here.newest.was_refused ≡ false)
        × (length sent.link.older < length (servers (s ∷ history)))

  known : (stage : Stage) (whole broken : Bool) (a : Kept) (c : ClientKept) (all : Happenings) (xs : List Exchange)
      → Serves edge theirs ours (record { client = a; server = Some c; under_way = is_sent whole broken }) stage (s ∷ history) all xs → Known stage whole broken a c all xs
  known stage whole broken a c all xs t =
      let y = sent_so edge theirs ours held s history stage whole broken a c all xs t in
      let l = y.link.newest in
      let at : y.here.newest.server ≡ Some (length y.link.older) =
      subst (λ (ls : List Link). IsIn (is_sent whole broken) (Some c) ls (y.here.newest ∷ y.here.others) (exchanges all.client)) y.link.are y.is.state in
      record {
        sent = y;
        at = at;
        there = newest_server (s ∷ history) l y.link.older (sym (ap (map server_of) y.link.are) ∙ t.tells.carries.forwarded.sums.servers);
        link = here edge theirs ours held s history stage stage whole broken a c c all l y.link.older l.happened y.here.newest y.here.others y.here.exchange
            y.here.exchanges_before y.link.are y.here.exchanges_are y.link.ran
            (record { taken = refl; written = refl; ended = refl; text = refl; sending = refl; asked = refl }) y.is;
        rightly = (so_far edge theirs (s ∷ history) (waiting_in (Some c)) all.client (y.here.newest ∷ y.here.others) y.is.tells.is).rightly.0 (length y.link.older) at;
      }

  -- how far its answer is
  pub served_at : (stage : Stage) (whole broken : Bool) (a : Kept) (c : ClientKept)
      → IsServed edge theirs ours (record { client = a; server = Some c; under_way = is_sent whole broken }) stage (s ∷ history)
      → (outs : List ReadAnswer) × (answers : List ReadAnswer) × (method : List ℕ) × (r : Reply) × IsAt stage outs answers method c r
  served_at stage whole broken a c (all, xs, t) =
      let k = known stage whole broken a c all xs t in (
        (read_out k.link.asked.before).answers,
        (read_out k.sent.link.newest.happened).answers,
        k.sent.here.newest.pulled.head.method,
        k.sent.here.exchange.reply,
        k.link.at c k.sent.link.ran,
      )

  -- so 502 is owed, and the server connection is closed
  pub owes_bad : (next : Stage) (whole broken : Bool) (a : Kept) (c d : ClientKept) (o : ClientOutcome) → IsBadOutcome o
      → ((trace : List Happened) → IsClientTrace ours trace c → IsClientTrace ours (record { event = asked.next; outcome = o } ∷ trace) d)
      → IsServed edge theirs ours (record { client = a; server = Some c; under_way = is_sent whole broken }) before_head (s ∷ history)
      → ServedAs edge theirs ours (Owes (own_head 502) (size_of 0)) (record { client = a; server = None; under_way = nothing }) next (s ∷ history)
  owes_bad next whole broken a c d o out tells (all, xs, t) =
      let k = known before_head whole broken a c all xs t in
      let y = k.sent in
      let f = bad_by (length y.link.older) y.link.newest y.here.newest y.here.exchange.reply c d y.link.ran k.there o out (tells y.link.newest.happened y.link.ran) k.link in (
        all,
        y.here.newest ∷ y.here.others,
        record {
          newest = y.here.newest;
          older = y.here.others;
          are = refl;
          reply = λ g head size.
              server_reply edge theirs (s ∷ history) y.here.newest g (length y.link.older) k.rightly.0 k.rightly.1 k.at
              (f.found, f.is, inr (f.bad_one.none, inl (f.bad_one.spoiled, (head, size))));
        },
        serves_dropped edge theirs ours held s history before_head next whole broken a c all y.link.newest y.link.older y.here.newest y.here.others y.link.are y.is,
      )

  -- 400, where the request's body broke while no head of its answer was there
  pub owes_broken : (next : Stage) (whole : Bool) (a : Kept) (c : ClientKept) → c.is_coming ≡ false
      → IsServed edge theirs ours (record { client = a; server = Some c; under_way = is_sent whole true }) before_head (s ∷ history)
      → ServedAs edge theirs ours (Owes (own_head 400) (size_of 0)) (record { client = a; server = None; under_way = nothing }) next (s ∷ history)
  owes_broken next whole a c none (all, xs, t) =
      let k = known before_head whole true a c all xs t in
      let y = k.sent in
      let f = finds_nothing theirs ours held (s ∷ history) (length y.link.older) y.link.newest y.here.newest y.here.exchange.reply c y.link.ran k.there none k.link in
      let broke : y.here.newest.pulled.is_broken ≡ true = ap (λ (p : Pulled). p.is_broken) y.here.same.pulled ∙ sym y.body.marked.broken in (
        all,
        y.here.newest ∷ y.here.others,
        record {
          newest = y.here.newest;
          older = y.here.others;
          are = refl;
          reply = λ g head size.
              server_reply edge theirs (s ∷ history) y.here.newest g (length y.link.older) k.rightly.0 k.rightly.1 k.at
              (f.found, f.is, inr (f.none, inr (broke, (head, size))));
        },
        serves_dropped edge theirs ours held s history before_head next whole true a c all y.link.newest y.link.older y.here.newest y.here.others y.link.are y.is,
      )

  -- ---- an answer fails

  pub has_failed : (next : Stage) (whole broken : Bool) (a : Kept) (c d : ClientKept) (ans : Answer) (fault : BodyFault) → ServerHands ours (body_fault fault ∷ []) c d
      → IsServed edge theirs ours (record { client = a; server = Some c; under_way = is_sent whole broken }) (answering ans) (s ∷ history)
      → ServedAs edge theirs ours (HasFailed theirs (s ∷ history)) (record { client = a; server = None; under_way = nothing }) next (s ∷ history)
  has_failed next whole broken a c d ans fault hands (all, xs, t) =
      let k = known (answering ans) whole broken a c all xs t in
      let y = k.sent in
      let l = y.link.newest in
      let n = length y.link.older in
      let did = hands l.happened y.link.ran in
      let one = hands_one ours (body_fault fault) did.0 l.happened d did.1 did.2 in
      let e : Happened = record { event = asked.pull; outcome = asked.broken_by fault } in
      let first : Link = record l { happened = one.first ++ l.happened } in
      let z = quiet_link ours (s ∷ history) one.first l first n (answering ans) y.here.newest y.here.exchange.reply one.earlier.little refl k.link in
      let step : one.step ≡ e = pulls_it ours (body_fault fault) (asked.broken_by fault) did.0 l.happened d refl tt one in
      let after : IsClientTrace ours (e ∷ first.happened) one.new = subst (λ (h : Happened). IsClientTrace ours (h ∷ first.happened) one.new) step one.behind in
      let earlier : server_of first ≡ server_of l = same_server edge theirs ours l (one.first ++ l.happened) (own_quiet ours one.first l.happened one.old one.earlier.own one.ran) in
      let here : server_of (record first { happened = e ∷ first.happened }) ≡ server_of first =
      same_server edge theirs ours first (e ∷ first.happened) (own_quiet ours (e ∷ []) first.happened one.new (refl, tt) after) in (
        all,
        y.here.newest ∷ y.here.others,
        body_fails theirs ours held (s ∷ history) n first y.here.newest y.here.exchange.reply one.old one.new one.ran ans fault k.at (k.there ∙ sym earlier ∙ sym here) after
            y.here.others z,
        serves_dropped edge theirs ours held s history (answering ans) next whole broken a c all l y.link.older y.here.newest y.here.others y.link.are y.is,
      )

  -- the reply is cut, or may not be
  pub cut_put : (stage : Stage) (a b : Kept) → (b ≡ a) ⊎ ClientPuts theirs (λ ps. ps ≡ breaks_off ∷ []) a b
      → ServedAs edge theirs ours (HasFailed theirs (s ∷ history)) (record { client = a; server = None; under_way = nothing }) stage (s ∷ history)
      → IsServed edge theirs ours (record { client = b; server = None; under_way = nothing }) stage (s ∷ history)
  cut_put stage a b (inl same) (all, xs, failed, t) =
      (all, xs, subst (λ (c : Kept). Serves edge theirs ours (record { client = c; server = None; under_way = nothing }) stage (s ∷ history) all xs) (sym same) t)
  cut_put stage a b (inr puts) (all, xs, failed, t) =
      let did = puts all.client t.tells.carries.stands in
      let p = puts_step theirs breaks_off on.body_error b all.client did.0 refl did.1 did.2 in
      let first : Happenings = record all { client = p.first ++ all.client } in
      let t0 = serves_silent edge theirs ours held s history stage on.pending (record { client = a; server = None; under_way = nothing }) p.start all p.first xs
      pending_brings_nothing p.earlier.silent p.stands_first p.earlier.brought t in
      let t1 = serves_cut edge theirs ours held s history stage p.start p.put first xs failed p.stands_put (put_brings on.body_error first.client refl refl refl) t0 in
      let put : Happenings = record first { client = record { event = on.body_error; outcome = on.done } ∷ first.client } in (
        record put { client = p.after ++ put.client },
        xs,
        serves_silent edge theirs ours held s history stage on.pending (record { client = p.put; server = None; under_way = nothing }) b put p.after xs
            pending_brings_nothing p.afterwards.silent p.stands p.afterwards.brought t1,
      )
