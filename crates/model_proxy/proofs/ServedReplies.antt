-- A forwarder that served its client so far does so behind each turn that puts a part of the answer's reply.
use Rattle.std.proofs.Common.{◌≡◌, ℕ, Bool, true, false, List, [], ◌∷◌, ◌++◌, length, map, bytes_eq, codes, refl, sym, ap, ◌∙◌, subst, inl, Option, Some, None}
use Rattle.std.specs.Prelude.{⊤, ◌||◌, ◌==◌}
use Rattle.std.specs.Option.{option_or}
use Rattle.std.proofs.lemmas.Bool.{false≢true}
use Rattle.model_h1.specs.Request.{Head}
use Rattle.model_h1.specs.Setting.{Setting}
use Rattle.model_h1.specs.Answer.{asked_of}
use Rattle.model_h1.specs.Event as on
use Rattle.model_h1.specs.Sums.{Step, head_of, request, is_drain, is_body_error, is_draining, now}
use Rattle.model_h1.specs.Laws.Exchanges.{Reply, newly_given, with_piece, with_end, exchanges, changed_by}
use Rattle.model_h1.specs.Laws.Exchanges as replies
use Rattle.model_state.specs.Kept.{Kept}
use Rattle.model_state.specs.StandsFor.{StandsFor}
use Rattle.model_client.specs.AnswerReading.{Answer}
use Rattle.model_client.specs.AnswerParse.{is_interim}
use Rattle.model_client.specs.ClientEvent as asked
use Rattle.model_client.specs.ClientKept.{ClientKept, is_free}
use Rattle.model_client.specs.ClientTrace.{Happened, IsClientTrace}
use Rattle.model_proxy.specs.Edge.{Edge}
use Rattle.model_proxy.specs.Answers.{reply_head, reply_size}
use Rattle.model_proxy.specs.Past.{ProxyStep}
use Rattle.model_proxy.specs.Exchange.{Pulled, unpulled, pulled_by, newest_pulled, with_head, pulled, Exchange}
use Rattle.model_proxy.specs.Happenings.{Link, Happenings}
use Rattle.model_proxy.specs.Carried.{ForwarderKept, is_sent}
use Rattle.model_proxy.specs.Moves.{HasBrought, IsQuiet}
use Rattle.model_proxy.specs.Parts.{begins, continues, ends, body_bytes, body_end}
use Rattle.model_proxy.specs.Wants.{IsAskedBy}
use Rattle.model_proxy.proofs.SoFar.{so_far}
use Rattle.model_proxy.proofs.Halves.{waiting_in}
use Rattle.model_proxy.proofs.Quiet.{pending_brings_nothing}
use Rattle.model_proxy.proofs.Wants.{asked_by}
use Rattle.model_proxy.proofs.PartsForward.{head_put, piece_put, end_put}
use Rattle.model_proxy.proofs.PutSteps.{put_brings}
use Rattle.model_proxy.proofs.OnLinks.{Stage, before_head, answering, put_end}
use Rattle.model_proxy.proofs.LinkSteps.{OnLink}
use Rattle.model_proxy.proofs.OwnSteps.{own_quiet}
use Rattle.model_proxy.proofs.Serves.{Serves}
use Rattle.model_proxy.proofs.ServesTurns.{serves_silent}
use Rattle.model_proxy.proofs.ServesReplies.{answer_link, read_up_link, here, serves_put}
use Rattle.model_proxy.proofs.HandedSteps.{HandsOne, hands_one, one_quiet, bytes_behind, end_behind}
use Rattle.model_proxy.proofs.Served.{IsServed, ServedAs, ClientPuts, ServerHands, PutsStep, puts_step}
use Rattle.model_proxy.proofs.ServedTurns.{sent_so}

-- ---- the newest request is the last head

same_head : (o : on.Outcome) (p : Pulled) → (pulled_by o p).head ≡ p.head
same_head (on.bytes bytes) p = refl
same_head on.body_ended p = refl
same_head (on.broken_by fault) p = refl
same_head o p = refl

newest_request : (trace : List Step) (p : Pulled) (ps : List Pulled) → pulled trace ≡ p ∷ ps → request trace ≡ Some p.head
unfolding pulled request
newest_request [] p ps e = let no : [] ≡ p ∷ ps = e in absurd (cc no)
newest_request (s ∷ before) p ps e = by_head (head_of s.outcome) (pulled before) e (λ q qs are. newest_request before q qs are)
  where
    by_head : (o : Option Head) (qs : List Pulled) → with_head o (newest_pulled s.outcome qs) ≡ p ∷ ps
        → ((q : Pulled) (more : List Pulled) → qs ≡ q ∷ more → request before ≡ Some q.head) → option_or o (request before) ≡ Some p.head
    by_head None [] e earlier = let no : [] ≡ p ∷ ps = e in absurd (cc no)
    by_head None (q ∷ qs) e earlier =
        let whole : pulled_by s.outcome q ∷ qs ≡ p ∷ ps = e in
        let same : pulled_by s.outcome q ≡ p = cc in
        earlier q qs refl ∙ ap Some (sym (same_head s.outcome q) ∙ ap (λ (r : Pulled). r.head) same)
    by_head (Some h) qs e earlier =
        let whole : unpulled h ∷ newest_pulled s.outcome qs ≡ p ∷ ps = e in
        let same : unpulled h ≡ p = cc in
        ap (λ (r : Pulled). Some r.head) same

-- ---- a part is put

-- its method is HEAD, or isn't
abbrev pub IsHead : Bool → Exchange → Type 0
IsHead is_head x = bytes_eq x.pulled.head.method (codes "HEAD") ≡ is_head

-- this is so of the newest request
abbrev pub AboutNewest : (Exchange → Type 0) → List Exchange → Type 0
AboutNewest About xs = (x : Exchange) (older : List Exchange) → xs ≡ x ∷ older → About x

module _ (edge : Edge) (theirs ours : Setting) (held : theirs.hold_size ≡ ours.hold_size) (s : ProxyStep) (history : List ProxyStep) where
  -- the newest request counts as one of HEAD, or doesn't
  about_head : (kept : ForwarderKept) (stage : Stage) (is_head : Bool) → IsAskedBy is_head kept.client → (all : Happenings) (xs : List Exchange)
      → Serves edge theirs ours kept stage (s ∷ history) all xs → (x : Exchange) (older : List Exchange) → xs ≡ x ∷ older
      → bytes_eq x.pulled.head.method (codes "HEAD") ≡ is_head
  about_head kept stage is_head asks all xs t x older are =
      let h = asked_by theirs is_head kept.client all.client t.tells.carries.stands asks in
      let these : x.pulled ∷ map (λ (y : Exchange). y.pulled) older ≡ pulled all.client =
      sym (ap (map (λ (y : Exchange). y.pulled)) are) ∙ (so_far edge theirs (s ∷ history) (waiting_in kept.server) all.client xs t.tells.is).requests in
      let newest : request all.client ≡ Some x.pulled.head = newest_request all.client x.pulled (map (λ (y : Exchange). y.pulled) older) (sym these) in
      let both : Some h.0 ≡ Some x.pulled.head = sym h.1 ∙ newest in
      let same : h.0 ≡ x.pulled.head = cc both in
      ap (λ (g : Head). (asked_of g).is_head) (sym same) ∙ h.2

  -- whether its method is HEAD, by what the client's connection keeps
  pub about_as : (kept : ForwarderKept) (stage : Stage) (is_head : Bool) → IsAskedBy is_head kept.client → IsServed edge theirs ours kept stage (s ∷ history)
      → ServedAs edge theirs ours (AboutNewest (IsHead is_head)) kept stage (s ∷ history)
  about_as kept stage is_head asks (all, xs, t) = (all, xs, about_head kept stage is_head asks all xs t, t)

  -- what the server connection did, and what that and the part make of the answer and the reply
  record Moves (stage next : Stage) (About : Exchange → Type 0) (change : List Step → Reply → Reply) (trace : List Happened) (d : ClientKept) : Type 0 where
    new : List Happened
    ran : IsClientTrace ours new d
    quiet : IsQuiet trace new
    link : (l : Link) (n : ℕ) (x : Exchange) (r : Reply) (before : List Step) → l.happened ≡ trace → About x → OnLink ours (s ∷ history) l n stage x r
        → OnLink ours (s ∷ history) (record { happened = new; sent = l.sent }) n next x (change before r)

  served_part : (stage next : Stage) (whole broken : Bool) (a b : Kept) (c d : ClientKept) (event : on.Event) (About : Exchange → Type 0) (change : List Step → Reply → Reply)
      → is_drain event ≡ false → is_body_error event ≡ false
      → ((trace : List Step) (f : replies.Exchange) → changed_by trace event on.done f ≡ record f { reply = change trace f.reply })
      → ((trace : List Step) → HasBrought on.done trace (record { event = event; outcome = on.done } ∷ trace))
      → ((trace : List Happened) → IsClientTrace ours trace c → Moves stage next About change trace d)
      → ((trace : List Step) → StandsFor theirs a trace → (more : List Step) × PutsStep theirs event b trace more)
      → ServedAs edge theirs ours (AboutNewest About) (record { client = a; server = Some c; under_way = is_sent whole broken }) stage (s ∷ history)
      → IsServed edge theirs ours (record { client = b; server = Some d; under_way = is_sent whole broken }) next (s ∷ history)
  served_part stage next whole broken a b c d event About change no_drain no_error is brings hands puts (all, xs, about, t) =
      let p = (puts all.client t.tells.carries.stands).1 in
      let first : Happenings = record all { client = p.first ++ all.client } in
      let t0 : Serves edge theirs ours (record { client = p.start; server = Some c; under_way = is_sent whole broken }) stage (s ∷ history) first xs =
      serves_silent edge theirs ours held s history stage on.pending (record { client = a; server = Some c; under_way = is_sent whole broken }) p.start all p.first xs
      pending_brings_nothing p.earlier.silent p.stands_first p.earlier.brought t in
      let y = sent_so edge theirs ours held s history stage whole broken p.start c first xs t0 in
      let l = y.link.newest in
      let h = hands l.happened y.link.ran in
      let m : Link = record { happened = h.new; sent = l.sent } in
      let z = here edge theirs ours held s history stage next whole broken p.start c d first l y.link.older h.new y.here.newest y.here.others y.here.exchange
      y.here.exchanges_before y.link.are y.here.exchanges_are h.ran h.quiet y.is in
      let t1 = serves_put edge theirs ours held s history stage next whole broken p.start c d first l y.link.older h.new y.here.newest y.here.others y.here.exchange
      y.here.exchanges_before y.link.are y.here.exchanges_are h.ran h.quiet y.is event p.put (change first.client y.here.exchange.reply) no_drain no_error
      (is first.client y.here.exchange)
      (h.link l (length y.link.older) y.here.newest y.here.exchange.reply first.client refl (about y.here.newest y.here.others y.here.are) z) p.stands_put
      (brings first.client) in
      let put : Happenings = record first { client = record { event = event; outcome = on.done } ∷ first.client; links = m ∷ y.link.older } in (
        record put { client = p.after ++ put.client },
        y.here.newest ∷ y.here.others,
        serves_silent edge theirs ours held s history next on.pending (record { client = p.put; server = Some d; under_way = is_sent whole broken }) b put p.after
            (y.here.newest ∷ y.here.others) pending_brings_nothing p.afterwards.silent p.stands p.afterwards.brought t1,
      )

  -- its head, as the answer's was handed out, where the method of the newest request is HEAD, or isn't
  pub served_head_as : (whole broken : Bool) (a b : Kept) (c d : ClientKept) (ans : Answer) (is_head : Bool) → is_interim ans.status ≡ false
      → (ans.is_lax || (ans.status == 101)) ≡ false
      → ((trace : List Happened) → IsClientTrace ours trace c → IsClientTrace ours (record { event = asked.next; outcome = asked.answer ans } ∷ trace) d)
      → ClientPuts theirs (λ ps. ps ≡ begins (record { head = reply_head ans; size = reply_size is_head ans }) ∷ []) a b
      → ServedAs edge theirs ours (AboutNewest (IsHead is_head)) (record { client = a; server = Some c; under_way = is_sent whole broken }) before_head (s ∷ history)
      → IsServed edge theirs ours (record { client = b; server = Some d; under_way = is_sent whole broken }) (answering ans) (s ∷ history)
  served_head_as whole broken a b c d ans is_head final good tells puts x =
      let e : Happened = record { event = asked.next; outcome = asked.answer ans } in
      let put : List Step → Reply → Reply = λ trace r. newly_given (record { head = reply_head ans; size = reply_size is_head ans; drained = is_draining trace }) (now trace) in
      served_part before_head (answering ans) whole broken a b c d (on.answer (reply_head ans) (reply_size is_head ans)) (IsHead is_head) put refl refl
      (λ trace f. head_put trace (reply_head ans) (reply_size is_head ans) f)
      (λ trace. put_brings (on.answer (reply_head ans) (reply_size is_head ans)) trace refl refl refl)
      (λ trace ran. record {
        new = e ∷ trace;
        ran = tells trace ran;
        quiet = own_quiet ours (e ∷ []) trace d (refl, tt) (tells trace ran);
        link = λ l n x r before same about z.
            moved_to l n x trace (put before r) same
            (answer_link ours (s ∷ history) l n x r ans (put before r) final good
            (record { head = refl; size = ap (λ (t : Bool). reply_size t ans) (sym about); pieces = refl; ended = λ no. absurd (false≢true no) }) z);
      })
      (λ trace stands. let did = puts trace stands in (
        did.0,
        puts_step theirs (begins (record { head = reply_head ans; size = reply_size is_head ans })) (on.answer (reply_head ans) (reply_size is_head ans)) b trace did.0 refl did.1
            did.2,
      )) x
    where
      moved_to : (l : Link) (n : ℕ) (x : Exchange) (trace : List Happened) (q : Reply) → l.happened ≡ trace
          → OnLink ours (s ∷ history) (record l { happened = record { event = asked.next; outcome = asked.answer ans } ∷ l.happened }) n (answering ans) x q
          → OnLink ours (s ∷ history) (record { happened = record { event = asked.next; outcome = asked.answer ans } ∷ trace; sent = l.sent }) n (answering ans) x q
      moved_to l n x trace q same z =
          subst (λ (h : List Happened). OnLink ours (s ∷ history) (record { happened = record { event = asked.next; outcome = asked.answer ans } ∷ h; sent = l.sent }) n (answering ans) x q)
          same z

  -- and where that is so of the client's connection
  pub served_head : (whole broken : Bool) (a b : Kept) (c d : ClientKept) (ans : Answer) (is_head : Bool) → is_interim ans.status ≡ false
      → (ans.is_lax || (ans.status == 101)) ≡ false → IsAskedBy is_head a
      → ((trace : List Happened) → IsClientTrace ours trace c → IsClientTrace ours (record { event = asked.next; outcome = asked.answer ans } ∷ trace) d)
      → ClientPuts theirs (λ ps. ps ≡ begins (record { head = reply_head ans; size = reply_size is_head ans }) ∷ []) a b
      → IsServed edge theirs ours (record { client = a; server = Some c; under_way = is_sent whole broken }) before_head (s ∷ history)
      → IsServed edge theirs ours (record { client = b; server = Some d; under_way = is_sent whole broken }) (answering ans) (s ∷ history)
  served_head whole broken a b c d ans is_head final good asks tells puts x =
      served_head_as whole broken a b c d ans is_head final good tells puts
      (about_as (record { client = a; server = Some c; under_way = is_sent whole broken }) before_head is_head asks x)

  -- a piece of its body, as it was handed out
  pub served_bytes : (whole broken : Bool) (a b : Kept) (c d : ClientKept) (ans : Answer) (bytes : List ℕ) → ServerHands ours (body_bytes bytes ∷ []) c d
      → ClientPuts theirs (λ ps. ps ≡ continues bytes ∷ []) a b
      → IsServed edge theirs ours (record { client = a; server = Some c; under_way = is_sent whole broken }) (answering ans) (s ∷ history)
      → IsServed edge theirs ours (record { client = b; server = Some d; under_way = is_sent whole broken }) (answering ans) (s ∷ history)
  served_bytes whole broken a b c d ans bytes hands puts x =
      served_part (answering ans) (answering ans) whole broken a b c d (on.chunk bytes) (λ x. ⊤) (λ trace r. with_piece bytes r) refl refl
      (λ trace f. piece_put trace bytes f) (λ trace. put_brings (on.chunk bytes) trace refl refl refl)
      (λ trace ran.
      let did = hands trace ran in
      let one = hands_one ours (body_bytes bytes) did.0 trace d did.1 did.2 in
      record {
        new = did.0 ++ trace;
        ran = did.1;
        quiet = one_quiet ours (body_bytes bytes) (asked.bytes bytes) did.0 trace d refl tt did.1 one;
        link = λ l n x r before same about z. behind did.0 l n x r trace d same one z;
      })
      (λ trace stands. let did = puts trace stands in (did.0, puts_step theirs (continues bytes) (on.chunk bytes) b trace did.0 refl did.1 did.2)) (x.0, x.1, (λ y older are. tt), x.2)
    where
      behind : (more : List Happened) (l : Link) (n : ℕ) (x : Exchange) (r : Reply) (trace : List Happened) (d : ClientKept) → l.happened ≡ trace
          → HandsOne (body_bytes bytes) more trace d ours → OnLink ours (s ∷ history) l n (answering ans) x r
          → OnLink ours (s ∷ history) (record { happened = more ++ trace; sent = l.sent }) n (answering ans) x (with_piece bytes r)
      behind more l n x r trace d same one z =
          subst (λ (h : List Happened). OnLink ours (s ∷ history) (record { happened = more ++ h; sent = l.sent }) n (answering ans) x (with_piece bytes r)) same
          (bytes_behind ours (s ∷ history) l n x r ans more d z bytes
          (subst (λ (h : List Happened). HandsOne (body_bytes bytes) more h d ours) (sym same) one))

  -- its end, as that was
  pub served_end_put : (whole broken : Bool) (a b : Kept) (c d : ClientKept) (ans : Answer) → ServerHands ours (body_end ∷ []) c d
      → ClientPuts theirs (λ ps. ps ≡ ends ∷ []) a b
      → IsServed edge theirs ours (record { client = a; server = Some c; under_way = is_sent whole broken }) (answering ans) (s ∷ history)
      → IsServed edge theirs ours (record { client = b; server = Some d; under_way = is_sent whole broken }) (answering ans) (s ∷ history)
  served_end_put whole broken a b c d ans hands puts x =
      served_part (answering ans) (answering ans) whole broken a b c d on.body_end (λ x. ⊤) (λ trace r. with_end r) refl refl
      (λ trace f. end_put trace f) (λ trace. put_brings on.body_end trace refl refl refl)
      (λ trace ran.
      let did = hands trace ran in
      let one = hands_one ours body_end did.0 trace d did.1 did.2 in
      record {
        new = did.0 ++ trace;
        ran = did.1;
        quiet = one_quiet ours body_end asked.body_ended did.0 trace d refl tt did.1 one;
        link = λ l n x r before same about z. behind did.0 l n x r trace d same one z;
      })
      (λ trace stands. let did = puts trace stands in (did.0, puts_step theirs ends on.body_end b trace did.0 refl did.1 did.2)) (x.0, x.1, (λ y older are. tt), x.2)
    where
      behind : (more : List Happened) (l : Link) (n : ℕ) (x : Exchange) (r : Reply) (trace : List Happened) (d : ClientKept) → l.happened ≡ trace
          → HandsOne body_end more trace d ours → OnLink ours (s ∷ history) l n (answering ans) x r
          → OnLink ours (s ∷ history) (record { happened = more ++ trace; sent = l.sent }) n (answering ans) x (with_end r)
      behind more l n x r trace d same one z =
          subst (λ (h : List Happened). OnLink ours (s ∷ history) (record { happened = more ++ h; sent = l.sent }) n (answering ans) x (with_end r)) same
          (end_behind ours (s ∷ history) l n x r ans more d z (with_end r) (λ items ended put. put_end x.pulled.head.method ans items r (inl ended) put)
          (subst (λ (h : List Happened). HandsOne body_end more h d ours) (sym same) one))

  -- or as it was before, since nothing is left to read of it
  pub served_end_up : (whole broken : Bool) (a b : Kept) (c : ClientKept) (ans : Answer) → is_free c ≡ true → ClientPuts theirs (λ ps. ps ≡ ends ∷ []) a b
      → IsServed edge theirs ours (record { client = a; server = Some c; under_way = is_sent whole broken }) (answering ans) (s ∷ history)
      → IsServed edge theirs ours (record { client = b; server = Some c; under_way = is_sent whole broken }) (answering ans) (s ∷ history)
  served_end_up whole broken a b c ans free puts x =
      served_part (answering ans) (answering ans) whole broken a b c c on.body_end (λ x. ⊤) (λ trace r. with_end r) refl refl
      (λ trace f. end_put trace f) (λ trace. put_brings on.body_end trace refl refl refl)
      (λ trace ran. record {
        new = trace;
        ran = ran;
        quiet = record { taken = refl; written = refl; ended = refl; text = refl; sending = refl; asked = refl };
        link = λ l n x r before same about z. read_up_to l n x r trace same ran z;
      })
      (λ trace stands. let did = puts trace stands in (did.0, puts_step theirs ends on.body_end b trace did.0 refl did.1 did.2)) (x.0, x.1, (λ y older are. tt), x.2)
    where
      read_up_to : (l : Link) (n : ℕ) (x : Exchange) (r : Reply) (trace : List Happened) → l.happened ≡ trace → IsClientTrace ours trace c
          → OnLink ours (s ∷ history) l n (answering ans) x r
          → OnLink ours (s ∷ history) (record { happened = trace; sent = l.sent }) n (answering ans) x (with_end r)
      read_up_to l n x r trace same ran z =
          subst (λ (h : List Happened). OnLink ours (s ∷ history) (record { happened = h; sent = l.sent }) n (answering ans) x (with_end r)) same
          (read_up_link ours (s ∷ history) l n x r ans c (subst (λ (h : List Happened). IsClientTrace ours h c) (sym same) ran) free z)
