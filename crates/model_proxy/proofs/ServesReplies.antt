-- A forwarder that serves its client does so behind each turn that puts a part of a reply.
use Rattle.std.proofs.Common.{◌≡◌, ℕ, ◌<◌, Bool, true, false, List, [], ◌∷◌, length, filter, refl, sym, ap, ◌∙◌, subst, inl, Option, Some, None}
use Rattle.std.specs.Prelude.{◌==◌, ◌||◌}
use Rattle.model_h1.specs.Setting.{Setting}
use Rattle.model_h1.specs.Answer.{AnswerHead, BodySize}
use Rattle.model_h1.specs.Event as on
use Rattle.model_h1.specs.Handed.{Item}
use Rattle.model_h1.specs.Sums.{is_drain, is_body_error, is_draining, now}
use Rattle.model_h1.specs.Laws.Exchanges.{Reply, no_reply, answer_given, session, newly_given, with_end, exchanges, changed_by}
use Rattle.model_h1.specs.Laws.Exchanges as replies
use Rattle.model_state.specs.Kept.{Kept}
use Rattle.model_state.specs.StandsFor.{StandsFor}
use Rattle.model_client.specs.AnswerReading.{Answer}
use Rattle.model_client.specs.AnswerParse.{is_interim}
use Rattle.model_client.specs.ClientEvent as asked
use Rattle.model_client.specs.ClientEvent.{ClientRequest}
use Rattle.model_client.specs.ClientKept.{ClientKept, is_free}
use Rattle.model_client.specs.ClientTrace.{Happened, IsClientTrace}
use Rattle.model_client.specs.ReadOut.{read_out}
use Rattle.model_proxy.specs.Edge.{Edge}
use Rattle.model_proxy.specs.Forward.{is_forwardable}
use Rattle.model_proxy.specs.Answers.{says_close}
use Rattle.model_proxy.specs.Past.{ProxyStep, servers, server_at}
use Rattle.model_proxy.specs.Exchange.{Exchange, is_on}
use Rattle.model_proxy.specs.Forwarding.{IsReply, IsUsed, HasFailed}
use Rattle.model_proxy.specs.Happenings.{Link, Happenings}
use Rattle.model_proxy.specs.Carried.{ForwarderKept, nothing, waits, is_sent}
use Rattle.model_proxy.specs.Moves.{HasBrought, IsQuiet}
use Rattle.model_proxy.proofs.SoFar.{so_far}
use Rattle.model_proxy.proofs.Turns.{left_at, whole_at}
use Rattle.model_proxy.proofs.SentPlaces.{counted}
use Rattle.model_proxy.proofs.Halves.{waiting_in}
use Rattle.model_proxy.proofs.MovedSteps.{IsPassedReply}
use Rattle.model_proxy.proofs.EventsForward.{Tells}
use Rattle.model_proxy.proofs.TurnsForward.{tells_quiet, tells_closed}
use Rattle.model_proxy.proofs.RepliesForward.{put_exchanges, tells_cut}
use Rattle.model_proxy.proofs.PartsForward.{server_reply, told_put, told_now, puts_as, tells_answer, tells_continue}
use Rattle.model_proxy.proofs.PiecesPut.{has_end, IsPutOf}
use Rattle.model_proxy.proofs.LastSent.{LastOn, is_on_it, last_each, of_newest, to_newest, of_older, to_older, now_filled}
use Rattle.model_proxy.proofs.OnLinks.{Stage, before_head, over, answering, head_at, bytes_at, end_at, read_up}
use Rattle.model_proxy.proofs.LinkSteps.{one_trace, OnLink, link_step, UnusedOn, newest_server, link_passed}
use Rattle.model_proxy.proofs.Serves.{OnServer, HasNoReply, IsIn, Serves}
use Rattle.model_proxy.proofs.ServesTurns.{newest_number, used_by}

-- ---- what a step on the server connection makes of the answer

module _ (ours : Setting) (history : List ProxyStep) (l : Link) (n : ℕ) (x : Exchange) (r : Reply) where
  -- its head is handed out, and put or not
  pub answer_link : (a : Answer) (q : Reply) → is_interim a.status ≡ false → (a.is_lax || (a.status == 101)) ≡ false → IsPutOf x.pulled.head.method a [] q
      → OnLink ours history l n before_head x r
      → OnLink ours history (record l { happened = record { event = asked.next; outcome = asked.answer a } ∷ l.happened }) n (answering a) x q
  answer_link a q final good put z =
      let e : Happened = record { event = asked.next; outcome = asked.answer a } in
      link_step ours history e l (record l { happened = e ∷ l.happened }) n before_head (answering a) x x r q refl refl refl refl z
      (λ c d ran allowed did here.
      head_at ours l.happened e c d ran allowed did refl refl (read_out z.asked.before).answers x.pulled.head.method a r q refl good final put here)

  -- bytes of its body
  pub bytes_link : (a : Answer) (bytes : List ℕ) → OnLink ours history l n (answering a) x r
      → OnLink ours history (record l { happened = record { event = asked.pull; outcome = asked.bytes bytes } ∷ l.happened }) n (answering a) x (replies.with_piece bytes r)
  bytes_link a bytes z =
      let e : Happened = record { event = asked.pull; outcome = asked.bytes bytes } in
      link_step ours history e l (record l { happened = e ∷ l.happened }) n (answering a) (answering a) x x r (replies.with_piece bytes r) refl refl refl refl z
      (λ c d ran allowed did here.
      bytes_at ours l.happened e c d ran allowed did refl refl (read_out z.asked.before).answers x.pulled.head.method a bytes r refl here)

  -- its end, which is put or not
  pub end_link : (a : Answer) (q : Reply) → ((items : List Item) → has_end items ≡ true → IsPutOf x.pulled.head.method a items r → IsPutOf x.pulled.head.method a items q)
      → OnLink ours history l n (answering a) x r
      → OnLink ours history (record l { happened = record { event = asked.pull; outcome = asked.body_ended } ∷ l.happened }) n (answering a) x q
  end_link a q so z =
      let e : Happened = record { event = asked.pull; outcome = asked.body_ended } in
      link_step ours history e l (record l { happened = e ∷ l.happened }) n (answering a) (answering a) x x r q refl refl refl refl z
      (λ c d ran allowed did here.
      end_at ours l.happened e c d ran allowed did refl refl (read_out z.asked.before).answers x.pulled.head.method a r q so refl here)

  pub read_up_link : (a : Answer) (c : ClientKept) → IsClientTrace ours l.happened c → is_free c ≡ true → OnLink ours history l n (answering a) x r
      → OnLink ours history l n (answering a) x (with_end r)
  read_up_link a c ran free z = record {
    asked = z.asked;
    at = λ d also.
        read_up (read_out z.asked.before).answers (read_out l.happened).answers x.pulled.head.method d a r
        (ap is_free (one_trace ours l.happened d c also ran) ∙ free) (z.at d also);
  }

  -- the connection is kept behind it
  pub over_link : (a : Answer) → says_close a ≡ false → OnLink ours history l n (answering a) x r → OnLink ours history l n over x r
  over_link a stays z = record { asked = z.asked; at = λ d ran. (a, z.at d ran, stays) }

  -- no WebSocket is put
  no_session : (stage : Stage) (w : replies.Session) (c : ClientKept) → r ≡ session w → IsClientTrace ours l.happened c → OnLink ours history l n stage x r → ⊥
  no_session before_head w c is ran z = let no : no_reply ≡ session w = sym (z.at c ran).unput ∙ is in cc no
  no_session (answering a) w c is ran z =
      let y = z.at c ran in subst (IsPutOf x.pulled.head.method a y.newest.items) is y.put
  no_session over w c is ran z =
      let y = z.at c ran in subst (IsPutOf x.pulled.head.method y.0 y.1.newest.items) is y.1.put

module _ (edge : Edge) (theirs ours : Setting) (held : theirs.hold_size ≡ ours.hold_size) (s : ProxyStep) (history : List ProxyStep) where
  passed_reply : (n : ℕ) (x : Exchange) (q : Reply) → ((w : replies.Session) → q ≡ session w → ⊥) → is_forwardable edge x.pulled.head ≡ true → x.was_refused ≡ false
      → x.server ≡ Some n → IsPassedReply theirs (s ∷ history) x n q → IsReply edge theirs (s ∷ history) [] x q
  passed_reply n x no_reply none can was at p = tt
  passed_reply n x (answer_given g) none can was at p = server_reply edge theirs (s ∷ history) x g n can was at (p.found, p.is, inl (p.answer, p.passed))
  passed_reply n x (session w) none can was at p = absurd (none w refl)

  -- ---- a part of the answer's reply, with what happened on the server connection

  module _ (stage next : Stage) (whole broken : Bool) (a : Kept) (c d : ClientKept) (all : Happenings) (l : Link) (links : List Link) (new : List Happened) (x : Exchange)
      (xs : List Exchange) (f : replies.Exchange) (fs : List replies.Exchange) (links_are : all.links ≡ l ∷ links) (fs_are : exchanges all.client ≡ f ∷ fs)
      (driven : IsClientTrace ours new d) (quiet : IsQuiet l.happened new)
      (t : Serves edge theirs ours (record { client = a; server = Some c; under_way = is_sent whole broken }) stage (s ∷ history) all (x ∷ xs)) where
    abbrev m : Link
    m = record { happened = new; sent = l.sent }

    abbrev moved : Happenings
    moved = record all { links = m ∷ links }

    abbrev old : ForwarderKept
    old = record { client = a; server = Some c; under_way = is_sent whole broken }

    at : x.server ≡ Some (length links)
    at = subst (λ (ls : List Link). IsIn (is_sent whole broken) (Some c) ls (x ∷ xs) (exchanges all.client)) links_are t.state

    -- where it is before
    pub here : OnLink ours (s ∷ history) l (length links) stage x f.reply
    here =
        of_newest (length links) (OnLink ours (s ∷ history) l (length links) stage) (UnusedOn ours l) x xs f fs at
        (subst (LastOn (length links) (OnLink ours (s ∷ history) l (length links) stage) (UnusedOn ours l) (x ∷ xs)) fs_are
        (subst (λ (ls : List Link). OnServer ours (s ∷ history) (Some c) ls stage (x ∷ xs) (exchanges all.client)) links_are t.last))

    told : Tells edge theirs ours (record { client = a; server = Some d; under_way = is_sent whole broken }) (s ∷ history) moved (x ∷ xs)
    told = tells_quiet edge theirs ours s history old c d all l links new (x ∷ xs) links_are driven quiet t.tells

    rightly : (is_forwardable edge x.pulled.head ≡ true) × (x.was_refused ≡ false) × (length links < length (servers (s ∷ history)))
    rightly = (so_far edge theirs (s ∷ history) (waiting_in (Some c)) all.client (x ∷ xs) t.tells.is).rightly.0 (length links) at

    reply_of : (q : Reply) → OnLink ours (s ∷ history) m (length links) next x q → IsReply edge theirs (s ∷ history) [] x q
    reply_of q z =
        passed_reply (length links) x q (λ w is. no_session ours (s ∷ history) m (length links) x q next w d is driven z) rightly.0 rightly.1 at
        (link_passed theirs ours held (s ∷ history) m (length links) (newest_server (s ∷ history) m links told.carries.forwarded.sums.servers) d driven next x q z)

    -- nothing is put
    pub serves_moved : OnLink ours (s ∷ history) m (length links) next x f.reply
        → Serves edge theirs ours (record { client = a; server = Some d; under_way = is_sent whole broken }) next (s ∷ history) moved (x ∷ xs)
    serves_moved z = record {
      tells = told;
      last = subst (LastOn (length links) (OnLink ours (s ∷ history) m (length links) next) (UnusedOn ours m) (x ∷ xs)) (sym fs_are)
          (to_newest (length links) (OnLink ours (s ∷ history) m (length links) next) (UnusedOn ours m) x xs f fs at z);
      state = at;
    }

    -- this part is, which makes this reply
    pub serves_put : (event : on.Event) (b : Kept) (q : Reply) → is_drain event ≡ false → is_body_error event ≡ false
        → changed_by all.client event on.done f ≡ record f { reply = q } → OnLink ours (s ∷ history) m (length links) next x q
        → StandsFor theirs b (record { event = event; outcome = on.done } ∷ all.client)
        → HasBrought on.done all.client (record { event = event; outcome = on.done } ∷ all.client)
        → Serves edge theirs ours (record { client = b; server = Some d; under_way = is_sent whole broken }) next (s ∷ history)
        (record moved { client = record { event = event; outcome = on.done } ∷ all.client }) (x ∷ xs)
    serves_put event b q no_drain no_error is z stands did =
        let after : exchanges (record { event = event; outcome = on.done } ∷ all.client) ≡ record f { reply = q } ∷ fs =
        put_exchanges event all.client f fs fs_are ∙ ap (λ (g : replies.Exchange). g ∷ fs) is in
        record {
          tells = puts_as edge theirs ours s history event (record { client = a; server = Some d; under_way = is_sent whole broken }) b moved x xs f (record f { reply = q }) fs
              no_drain no_error fs_are is refl
              (told_now edge theirs ours s history (record { client = a; server = Some d; under_way = is_sent whole broken }) moved (x ∷ xs) f fs fs_are told) (reply_of q z)
              stands did told;
          last = subst (LastOn (length links) (OnLink ours (s ∷ history) m (length links) next) (UnusedOn ours m) (x ∷ xs)) (sym after)
              (to_newest (length links) (OnLink ours (s ∷ history) m (length links) next) (UnusedOn ours m) x xs (record f { reply = q }) fs at z);
          state = at;
        }

  -- ---- the reply is over

  -- the server connection is kept
  pub serves_over : (broken : Bool) (client : Kept) (c : ClientKept) (a : Answer) (all : Happenings) (l : Link) (links : List Link) (x : Exchange) (xs : List Exchange)
      → all.links ≡ l ∷ links → says_close a ≡ false
      → Serves edge theirs ours (record { client = client; server = Some c; under_way = is_sent true broken }) (answering a) (s ∷ history) all (x ∷ xs)
      → Serves edge theirs ours (record { client = client; server = Some c; under_way = nothing }) over (s ∷ history) all (x ∷ xs)
  serves_over broken client c a all l links x xs are stays t =
      let n = length links in
      let at : x.server ≡ Some n = subst (λ (ls : List Link). IsIn (is_sent true broken) (Some c) ls (x ∷ xs) (exchanges all.client)) are t.state in
      record {
        tells = record {
          carries = whole_at edge theirs ours broken client (Some c) (s ∷ history) all t.tells.carries;
          same = t.tells.same;
          places = t.tells.places;
          is = t.tells.is;
        };
        last = subst (λ (ls : List Link). OnServer ours (s ∷ history) (Some c) ls over (x ∷ xs) (exchanges all.client)) (sym are)
            (last_each n (OnLink ours (s ∷ history) l n (answering a)) (OnLink ours (s ∷ history) l n over) (UnusedOn ours l) (UnusedOn ours l)
            (λ y r here z. over_link ours (s ∷ history) l n y r a stays z) (λ z. z)
            (x ∷ xs) (exchanges all.client)
            (subst (λ (ls : List Link). OnServer ours (s ∷ history) (Some c) ls (answering a) (x ∷ xs) (exchanges all.client)) are t.last));
        state = subst (λ (ls : List Link). IsIn nothing (Some c) ls (x ∷ xs) (exchanges all.client)) (sym are) (now_filled n x xs (is_on_it n x at));
      }

  -- it is closed
  pub serves_dropped : (stage next : Stage) (whole broken : Bool) (client : Kept) (c : ClientKept) (all : Happenings) (l : Link) (links : List Link) (x : Exchange)
      (xs : List Exchange) → all.links ≡ l ∷ links
      → Serves edge theirs ours (record { client = client; server = Some c; under_way = is_sent whole broken }) stage (s ∷ history) all (x ∷ xs)
      → Serves edge theirs ours (record { client = client; server = None; under_way = nothing }) next (s ∷ history) all (x ∷ xs)
  serves_dropped stage next whole broken client c all l links x xs are t =
      let n = length links in
      let at : x.server ≡ Some n = subst (λ (ls : List Link). IsIn (is_sent whole broken) (Some c) ls (x ∷ xs) (exchanges all.client)) are t.state in
      let many = counted edge theirs ours (s ∷ history) all t.tells.carries.forwarded.sums.servers in
      let closed = tells_closed edge theirs ours s history (record { client = client; server = Some c; under_way = is_sent whole broken }) all (x ∷ xs)
      (λ k newest. subst (λ (j : ℕ). IsUsed (filter (is_on j) (x ∷ xs)) (server_at j (s ∷ history))) (sym (newest_number all l links are (length (servers (s ∷ history))) many k newest))
      (used_by n (x ∷ xs) (server_at n (s ∷ history)) (now_filled n x xs (is_on_it n x at)))) t.tells in
      record {
        tells = record {
          carries = left_at edge theirs ours whole broken client (s ∷ history) all closed.carries;
          same = closed.same;
          places = closed.places;
          is = closed.is;
        };
        last = tt;
        state = tt;
      }

  -- ---- without a server connection

  -- a reply of the forwarder's own
  pub serves_own : (stage : Stage) (a b : Kept) (all : Happenings) (x : Exchange) (xs : List Exchange) (f : replies.Exchange) (fs : List replies.Exchange)
      → exchanges all.client ≡ f ∷ fs → (head : AnswerHead) (size : BodySize)
      → IsReply edge theirs (s ∷ history) [] x (newly_given (record { head = head; size = size; drained = is_draining all.client }) (now all.client))
      → StandsFor theirs b (record { event = on.answer head size; outcome = on.done } ∷ all.client)
      → HasBrought on.done all.client (record { event = on.answer head size; outcome = on.done } ∷ all.client)
      → Serves edge theirs ours (record { client = a; server = None; under_way = nothing }) stage (s ∷ history) all (x ∷ xs)
      → Serves edge theirs ours (record { client = b; server = None; under_way = nothing }) stage (s ∷ history)
      (record all { client = record { event = on.answer head size; outcome = on.done } ∷ all.client }) (x ∷ xs)
  serves_own stage a b all x xs f fs are head size reply stands did t = record {
    tells = tells_answer edge theirs ours s history (record { client = a; server = None; under_way = nothing }) b all x xs f fs are t.tells head size reply stands did;
    last = tt;
    state = tt;
  }

  -- it is cut
  pub serves_cut : (stage : Stage) (a b : Kept) (all : Happenings) (xs : List Exchange) → HasFailed theirs (s ∷ history) xs
      → StandsFor theirs b (record { event = on.body_error; outcome = on.done } ∷ all.client)
      → HasBrought on.done all.client (record { event = on.body_error; outcome = on.done } ∷ all.client)
      → Serves edge theirs ours (record { client = a; server = None; under_way = nothing }) stage (s ∷ history) all xs
      → Serves edge theirs ours (record { client = b; server = None; under_way = nothing }) stage (s ∷ history)
      (record all { client = record { event = on.body_error; outcome = on.done } ∷ all.client }) xs
  serves_cut stage a b all xs failed stands did t = record {
    tells = tells_cut edge theirs ours s history (record { client = a; server = None; under_way = nothing }) b all xs failed stands did t.tells;
    last = tt;
    state = tt;
  }

  -- ---- the client is told to go on

  on_told : (server : Option ClientKept) (links : List Link) (stage : Stage) (x : Exchange) (xs : List Exchange) (f g : replies.Exchange) (fs : List replies.Exchange)
      → x.server ≡ None → OnServer ours (s ∷ history) server links stage (x ∷ xs) (f ∷ fs) → OnServer ours (s ∷ history) server links stage (x ∷ xs) (g ∷ fs)
  on_told None links stage x xs f g fs none y = tt
  on_told (Some c) [] stage x xs f g fs none y = absurd y
  on_told (Some c) (l ∷ links) stage x xs f g fs none y =
      to_older (length links) (OnLink ours (s ∷ history) l (length links) stage) (UnusedOn ours l) x xs g fs none
      (of_older (length links) (OnLink ours (s ∷ history) l (length links) stage) (UnusedOn ours l) x xs f fs none y)

  pub serves_continue : (stage : Stage) (q : ClientRequest) (size : BodySize) (whole broken : Bool) (a b : Kept) (server : Option ClientKept) (all : Happenings) (x : Exchange)
      (xs : List Exchange) (f : replies.Exchange) (fs : List replies.Exchange) → exchanges all.client ≡ f ∷ fs → x.server ≡ None → is_forwardable edge f.head ≡ true
      → (f.head.minor == 0) ≡ false → StandsFor theirs b (record { event = on.send_continue; outcome = on.done } ∷ all.client)
      → HasBrought on.done all.client (record { event = on.send_continue; outcome = on.done } ∷ all.client)
      → Serves edge theirs ours (record { client = a; server = server; under_way = waits q size whole broken }) stage (s ∷ history) all (x ∷ xs)
      → Serves edge theirs ours (record { client = b; server = server; under_way = waits q size whole broken }) stage (s ∷ history)
      (record all { client = record { event = on.send_continue; outcome = on.done } ∷ all.client }) (x ∷ xs)
  serves_continue stage q size whole broken a b server all x xs f fs are unsent can minor stands did t =
      let kept : ForwarderKept = record { client = a; server = server; under_way = waits q size whole broken } in
      let none : f.reply ≡ no_reply = subst HasNoReply are t.state in
      let after : exchanges (record { event = on.send_continue; outcome = on.done } ∷ all.client) ≡ record f { was_told = true } ∷ fs =
      put_exchanges on.send_continue all.client f fs are ∙ ap (λ (g : replies.Exchange). g ∷ fs) (told_put all.client f) in
      record {
        tells = tells_continue edge theirs ours s history kept b all x xs f fs are t.tells can minor
            (subst (IsReply edge theirs (s ∷ history) [] x) (sym none) tt) stands did;
        last = subst (λ (gs : List replies.Exchange). OnServer ours (s ∷ history) server all.links stage (x ∷ xs) gs) (sym after)
            (on_told server all.links stage x xs f (record f { was_told = true }) fs unsent
            (subst (λ (gs : List replies.Exchange). OnServer ours (s ∷ history) server all.links stage (x ∷ xs) gs) are t.last));
        state = subst HasNoReply (sym after) none;
      }
