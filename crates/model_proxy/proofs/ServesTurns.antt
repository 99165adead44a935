-- A forwarder that serves its client does so behind each turn that puts nothing of a reply.
use Rattle.std.proofs.Common.{◌≡◌, ◌⊎◌, ℕ, ◌+◌, ◌<◌, Bool, true, false, cond, not, ◌&&◌, zero, suc, List, [], ◌∷◌, ◌++◌, length, map, filter, reverse, drop, refl, sym, ap, ap₂, ◌∙◌, subst, arith, inl, inr, Option, Some, None, is_some}
use Rattle.std.specs.Prelude.{IsTrue, ◌||◌, is_none, nat_lt, if◌then◌else◌}
use Rattle.std.specs.List.{list_any, AllByRecursion}
use Rattle.std.proofs.lemmas.Bool.{false≢true, lt-ltb}
use Rattle.std.proofs.lemmas.List.{map-append, reverse-append}
use Rattle.model_h1.specs.Request.{Head, has_body}
use Rattle.model_h1.specs.Setting.{Setting}
use Rattle.model_h1.specs.Answer.{BodySize}
use Rattle.model_h1.specs.Event as on
use Rattle.model_h1.specs.Sums.{Step}
use Rattle.model_h1.specs.Laws.Exchanges.{Reply, no_reply, begun, exchanges}
use Rattle.model_h1.specs.Laws.Exchanges as replies
use Rattle.model_state.specs.Kept.{Kept}
use Rattle.model_state.specs.StandsFor.{StandsFor}
use Rattle.model_state.specs.Change.{IsComing}
use Rattle.model_client.specs.RequestText.{request_text, asked_shape, given_request_text}
use Rattle.model_client.specs.ClientEvent as asked
use Rattle.model_client.specs.ClientEvent.{ClientRequest, ClientEnd, unasked, input_ended}
use Rattle.model_client.specs.ClientKept.{Waiting, SendingBody, ClientKept, is_free, is_waited_for, has_bytes, client_closing, waiting_of, can_be_sent, has_room, allowed_running, client_allows}
use Rattle.model_client.specs.ClientStep.{IsClientStep, KnowsComing}
use Rattle.model_client.specs.ClientTrace.{Happened, IsClientTrace, taken, body_after, sending_after, sending_of, requests_by, requests_of, answered_of, written, now_of}
use Rattle.model_client.specs.Parsed.{has_ended, methods_of}
use Rattle.model_client.specs.ReadOut.{read_out}
use Rattle.model_client.proofs.AllHappened.{known_of}
use Rattle.model_client.proofs.Ended.{trace_ended}
use Rattle.model_client.proofs.Left.{trace_leaves}
use Rattle.model_client.proofs.Order.{in_order}
use Rattle.model_client.proofs.Written.{is_text}
use Rattle.model_client.proofs.NextAnswers.{fine_while, allowed_while}
use Rattle.model_proxy.specs.Edge.{Edge}
use Rattle.model_proxy.specs.Forward.{is_forwardable, Sent, forwarded, forwarded_size}
use Rattle.model_proxy.specs.Past.{ProxyStep, Server, servers, server_at, now}
use Rattle.model_proxy.specs.Exchange.{Pulled, unpulled, Exchange, is_on, sent_on}
use Rattle.model_proxy.specs.Exchange as requests
use Rattle.model_proxy.specs.Forwarding.{IsUsed}
use Rattle.model_proxy.specs.Happenings.{Request, Link, Happenings, server_of, text_sent, methods_sent, IsLink}
use Rattle.model_proxy.specs.Happenings as happened
use Rattle.model_proxy.specs.Carried.{ForwarderKept, nothing, waits, is_sent, IsIdle, IsWaiting, IsNewest}
use Rattle.model_proxy.specs.Moves.{HasBrought, IsQuiet}
use Rattle.model_proxy.proofs.Given.{given_and_waiting}
use Rattle.model_proxy.proofs.Quiet.{BringsNothing}
use Rattle.model_proxy.proofs.Server.{comes_true}
use Rattle.model_proxy.proofs.Turns.{keeps_waiting}
use Rattle.model_proxy.proofs.SentPlaces.{AreOn, newest_link, counted}
use Rattle.model_proxy.proofs.PlacesKept.{first_all, sent_now}
use Rattle.model_proxy.proofs.SilentSteps.{IsSilent, silent_exchanges}
use Rattle.model_proxy.proofs.TurnMoves.{head_exchanges}
use Rattle.model_proxy.proofs.SentMoves.{LastIsAlone}
use Rattle.model_proxy.proofs.TurnsForward.{tells_silent, tells_quiet, tells_closed, tells_head, tells_sent}
use Rattle.model_proxy.proofs.FreshLinks.{nothing_came}
use Rattle.model_proxy.proofs.AskedSince.{same_end}
use Rattle.model_proxy.proofs.ReadsOn.{asked_so}
use Rattle.model_proxy.proofs.LastSent.{LastOn, is_off, last_each, last_unused, last_alone, of_older, to_newest}
use Rattle.model_proxy.proofs.OnLinks.{Stage, before_head, over, AwaitsHead}
use Rattle.model_proxy.proofs.LinkSteps.{one_trace, OnLink, IsLittle, quiet_link, IsUnused, UnusedOn, quiet_unused, newest_server, link_alone}
use Rattle.model_proxy.proofs.Serves.{OnServer, HasNoReply, IsIn, Serves, in_link}

-- ---- a connection that doesn't close

closes_else : (failed : Option ClientEnd) (free closes stray ended coming : Bool)
    → (if is_some failed then failed else (if not free then None else (if closes then Some asked.asked else (if stray then Some unasked else (if ended && not coming then Some input_ended else None))))) ≡ None
    → free ≡ true → coming ≡ false → (ended ≡ false) × (closes ≡ false)
closes_else (Some end) free closes stray ended coming is free_is none = absurd (cc is)
closes_else None false closes stray ended coming is free_is none = absurd (false≢true free_is)
closes_else None true true stray ended coming is free_is none = absurd (cc is)
closes_else None true false true ended coming is free_is none = absurd (cc is)
closes_else None true false false false coming is free_is none = (refl, refl)
closes_else None true false false true true is free_is none = absurd (false≢true (sym none))
closes_else None true false false true false is free_is none = absurd (cc is)

not_over : (over moment rest : Bool) → (not over && moment && rest) ≡ true → over ≡ false
not_over false moment rest is = refl
not_over true moment rest is = absurd (false≢true is)

none_coming : (k : ClientKept) → KnowsComing k → k.unread ≡ [] → k.is_coming ≡ false
none_coming k known none = by_coming k.is_coming refl
  where
    by_coming : (t : Bool) → k.is_coming ≡ t → k.is_coming ≡ false
    by_coming false is = is
    by_coming true is =
        let x = comes_true (is_free k) k.unread (subst (IsComing (is_free k) k.unread) is known) in
        absurd (false≢true (ap has_bytes (sym none) ∙ x.1))

-- what a request may be asked on, once all that came was read
pub record IsOpenFor (k : ClientKept) : Type 0 where
  pub fine : k.failed ≡ None
  pub going : k.has_ended ≡ false
  pub stays : k.closes ≡ false
  pub runs : k.is_over ≡ false

pub open_for : (setting : Setting) (trace : List Happened) (k : ClientKept) (q : ClientRequest) (size : BodySize) → IsClientTrace setting trace k
    → IsTrue (client_allows setting k (asked.ask q size)) → is_free k ≡ true → k.unread ≡ [] → IsOpenFor k
open_for setting trace k q size ran allowed free none = by_closing (client_closing k) refl
  where
    by_closing : (closing : Option ClientEnd) → client_closing k ≡ closing → IsOpenFor k
    by_closing (Some end) is = absurd (false≢true (allowed_while setting k (asked.ask q size) end is allowed))
    by_closing None is =
        let x = closes_else k.failed (is_free k) k.closes (not (is_waited_for k.waiting) && has_bytes k.unread) k.has_ended k.is_coming is free
        (none_coming k (known_of setting (taken trace) (has_ended trace) (methods_of trace) trace k ran) none) in
        record { fine = fine_while k is; going = x.0; stays = x.1; runs = not_over k.is_over _ _ allowed }

-- ---- connections on which nothing was sent

none_reversed : (ss : List Sent) → [] ≡ reverse ss → ss ≡ []
none_reversed [] e = refl
none_reversed (s ∷ ss) e = absurd (not_none (reverse ss) (e ∙ reverse-append (s ∷ []) ss))
  where
    not_none : (ts : List Sent) → [] ≡ ts ++ s ∷ [] → ⊥
    not_none [] e = cc
    not_none (t ∷ ts) e = cc

none_asked : (ws : List Waiting) → map (λ (w : Waiting). w.method) ws ≡ [] → ws ≡ []
none_asked [] e = refl
none_asked (w ∷ ws) e = let no : w.method ∷ map (λ (w : Waiting). w.method) ws ≡ [] = e in absurd (cc no)

-- on one on which no request was sent none was asked
record IsUnasked (l : Link) : Type 0 where
  sent : l.sent ≡ []
  asked : requests_of l.happened ≡ []

unasked_link : (edge : Edge) (history : List ProxyStep) (l : Link) (links : List Link) (xs : List Exchange) → AreOn edge history xs (l ∷ links)
    → map (λ (w : Waiting). w.method) (requests_of l.happened) ≡ methods_sent l.sent → filter (is_on (length links)) xs ≡ [] → IsUnasked l
unasked_link edge history l links xs on asked none =
    let n = length links in
    let sent : [] ≡ reverse l.sent =
    sym (ap (λ (ys : List Exchange). map (requests.sent_of edge history) (reverse ys)) none) ∙ on n
    ∙ ap (λ (m : Link). reverse m.sent) (newest_link l links n (omega arith)) in
    let unsent = none_reversed l.sent sent in
    record { sent = unsent; asked = none_asked (requests_of l.happened) (asked ∙ ap methods_sent unsent) }

-- nothing came of one on which no request was sent
fresh_link : (edge : Edge) (ours : Setting) (history : List ProxyStep) (l : Link) (links : List Link) (xs : List Exchange) (a : ClientKept) → AreOn edge history xs (l ∷ links)
    → map (λ (w : Waiting). w.method) (requests_of l.happened) ≡ methods_sent l.sent → IsClientTrace ours l.happened a → a.failed ≡ None → is_free a ≡ true → a.unread ≡ []
    → a.has_ended ≡ false → server_at (length links) history ≡ server_of l → filter (is_on (length links)) xs ≡ []
    → ((server_at (length links) history).came ≡ []) × ((server_at (length links) history).ended ≡ false)
fresh_link edge ours history l links xs a on asked driven fine free unread going there none = (
  ap (λ (v : Server). v.came) there ∙ nothing_came ours l.happened a driven (unasked_link edge history l links xs on asked none).asked fine free unread,
  ap (λ (v : Server). v.ended) there ∙ same_end l.happened ∙ trace_ended ours l.happened a driven ∙ going,
)

-- ---- where an unused connection can't be asked

-- it is to end, or doesn't allow the request
abbrev pub IsUnfit : Setting → ClientKept → ClientRequest → BodySize → Type 0
IsUnfit ours a q size = (is_some (client_closing a) ≡ true) ⊎ (client_allows ours a (asked.ask q size) ≡ false)

stray_or_ended : (k : ClientKept) → IsUnused k → k.waiting ≡ [] → is_some (client_closing k) ≡ true → (has_bytes k.unread ≡ true) ⊎ (k.has_ended ≡ true)
stray_or_ended k y none is = by_tests (has_bytes k.unread) k.has_ended k.is_coming (sym (ap (λ (o : Option ClientEnd). is_some o) same) ∙ is)
  where
    same : client_closing k ≡ (if has_bytes k.unread then Some unasked else (if k.has_ended && not k.is_coming then Some input_ended else None))
    same =
        ap₂ (λ (f : Option ClientEnd) (t : Bool). if is_some f then f
        else (if not t then None
        else (if k.closes then Some asked.asked
        else (if not (is_waited_for k.waiting) && has_bytes k.unread then Some unasked
        else (if k.has_ended && not k.is_coming then Some input_ended else None))))) y.fine y.free
        ∙ ap₂ (λ (t : Bool) (ws : List Waiting). if t then Some asked.asked
        else (if not (is_waited_for ws) && has_bytes k.unread then Some unasked
        else (if k.has_ended && not k.is_coming then Some input_ended else None))) y.stays none

    by_tests : (stray ended coming : Bool) → is_some (if stray then Some unasked else (if ended && not coming then Some input_ended else None)) ≡ true
        → (stray ≡ true) ⊎ (ended ≡ true)
    by_tests true ended coming is = inl refl
    by_tests false true coming is = inr refl
    by_tests false false coming is = absurd (false≢true is)

-- it may be asked unless it is to end
asked_else : (setting : Setting) (k : ClientKept) (q : ClientRequest) (size : BodySize) → IsUnused k → k.waiting ≡ [] → k.sending ≡ None → k.buffered ≡ []
    → can_be_sent q size ≡ true → 0 < setting.write_buffer → client_allows setting k (asked.ask q size) ≡ false → is_some (client_closing k) ≡ true
asked_else setting k q size y none idle empty can room refuses = by_closing (is_some (client_closing k)) refl
  where
    running : allowed_running setting k (asked.ask q size) ≡ true
    running =
        ap₂ (λ (sending : Option SendingBody) (closes : Bool). is_none sending && not (closes || list_any (λ (w : Waiting). w.closes) k.waiting) && can_be_sent q size && has_room setting k) idle y.stays
        ∙ ap₂ (λ (ws : List Waiting) (t : Bool). true && not (list_any (λ (w : Waiting). w.closes) ws) && t && has_room setting k) none can
        ∙ ap (λ (bytes : List ℕ). nat_lt (length bytes) setting.write_buffer) empty ∙ lt-ltb 0 setting.write_buffer room

    by_closing : (t : Bool) → is_some (client_closing k) ≡ t → is_some (client_closing k) ≡ true
    by_closing true is = is
    by_closing false is =
        let allows : client_allows setting k (asked.ask q size) ≡ true =
        ap₂ (λ (o t : Bool). not o && true && (if t then false else allowed_running setting k (asked.ask q size))) y.runs is ∙ running in
        absurd (false≢true (sym refuses ∙ allows))

none_left : (n : ℕ) → ◌≡◌ {A = List Waiting} (drop n []) []
none_left zero = refl
none_left (suc n) = refl

not_empty : (passed unread : List ℕ) → has_bytes unread ≡ true → passed ++ unread ≡ [] → ⊥
not_empty [] [] some e = false≢true some
not_empty [] (b ∷ unread) some e = cc e
not_empty (b ∷ passed) unread some e = let no : b ∷ (passed ++ unread) ≡ [] = e in cc no

never_sending : (trace : List Happened) → requests_of trace ≡ [] → sending_of trace ≡ None
never_sending [] none = refl
never_sending (s ∷ before) none = by_event s.event none (never_sending before)
  where
    front : (l : List Waiting) (m : List Waiting) → l ++ m ≡ [] → l ≡ []
    front [] m e = refl
    front (w ∷ l) m e = let no : w ∷ (l ++ m) ≡ [] = e in absurd (cc no)

    back : (l : List Waiting) (w : Waiting) → l ++ w ∷ [] ≡ [] → ⊥
    back [] w e = cc e
    back (v ∷ l) w e = let no : v ∷ (l ++ w ∷ []) ≡ [] = e in cc no

    on_body : (bytes : List ℕ) (o : Option SendingBody) → o ≡ None → body_after bytes o ≡ None
    on_body bytes o is = ap (body_after bytes) is

    by_event : (e : asked.ClientEvent) → requests_of before ++ requests_by e ≡ [] → (requests_of before ≡ [] → sending_of before ≡ None)
        → sending_after e (sending_of before) ≡ None
    by_event (asked.ask r size) none earlier = absurd (back (requests_of before) (waiting_of r) none)
    by_event (asked.chunk bytes) none earlier = on_body bytes (sending_of before) (earlier (front (requests_of before) [] none))
    by_event asked.body_end none earlier = refl
    by_event asked.body_error none earlier = refl
    by_event (asked.read bytes) none earlier = earlier (front (requests_of before) [] none)
    by_event asked.eof none earlier = earlier (front (requests_of before) [] none)
    by_event asked.next none earlier = earlier (front (requests_of before) [] none)
    by_event asked.pull none earlier = earlier (front (requests_of before) [] none)
    by_event asked.drop_body none earlier = earlier (front (requests_of before) [] none)
    by_event (asked.write n) none earlier = earlier (front (requests_of before) [] none)
    by_event (asked.tick ms) none earlier = earlier (front (requests_of before) [] none)

-- it is to end, or may not be asked: then bytes came, or the end of its input
unfit_link : (ours : Setting) (history : List ProxyStep) (l : Link) (n : ℕ) (a : ClientKept) (q : ClientRequest) (size : BodySize) → IsUnasked l → IsLink ours l
    → server_at n history ≡ server_of l → IsClientTrace ours l.happened a → IsUnused a → can_be_sent q size ≡ true → 0 < ours.write_buffer
    → (IsUnused a → a.waiting ≡ [] → IsUnfit ours a q size) → IsUsed [] (server_at n history)
unfit_link ours history l n a q size none link there ran y can room why = by_which (stray_or_ended a y waiting (closing (why y waiting)))
  where
    waiting : a.waiting ≡ []
    waiting =
        (in_order ours l.happened a ran).0 ∙ ap (drop (answered_of l.happened)) none.asked ∙ none_left (answered_of l.happened)

    empty : a.buffered ≡ []
    empty = last_none (written l.happened) a.buffered (given_and_waiting ours l a link ran ∙ ap text_sent none.sent)
      where
        last_none : (front back : List ℕ) → front ++ back ≡ [] → back ≡ []
        last_none [] back e = e
        last_none (b ∷ front) back e = let no : b ∷ (front ++ back) ≡ [] = e in absurd (cc no)

    closing : IsUnfit ours a q size → is_some (client_closing a) ≡ true
    closing (inl is) = is
    closing (inr refuses) =
        asked_else ours a q size y waiting ((is_text ours l.happened a ran).sending ∙ never_sending l.happened none.asked) empty can room refuses

    by_which : (has_bytes a.unread ≡ true) ⊎ (a.has_ended ≡ true) → IsUsed [] (server_at n history)
    by_which (inl stray) =
        let left = trace_leaves ours l.happened a ran in
        inr (λ e. not_empty left.0 a.unread stray (sym left.1 ∙ ap (λ (v : Server). v.came) (sym there) ∙ e))
    by_which (inr ended) = inl (ap (λ (v : Server). v.ended) there ∙ same_end l.happened ∙ trace_ended ours l.happened a ran ∙ ended)

-- one was asked, and nothing of an answer is there
awaits_first : (ours : Setting) (l m : Link) (q : ClientRequest) (size : BodySize) (a d : ClientKept) (method : List ℕ) (r : Reply)
    → m.happened ≡ record { event = asked.ask q size; outcome = asked.done } ∷ l.happened → IsClientTrace ours l.happened a → a.waiting ≡ [] → is_free a ≡ true
    → IsOpenFor a → q.head.method ≡ method → r ≡ no_reply → IsClientTrace ours m.happened d
    → AwaitsHead (read_out l.happened).answers (read_out m.happened).answers method d r
unfolding read_out
awaits_first ours l m q size a d method r are driven waiting free now_open method_is none ran =
    by_ran (subst (λ (h : List Happened). IsClientTrace ours h d) are ran)
  where
    by_ran : IsClientTrace ours (record { event = asked.ask q size; outcome = asked.done } ∷ l.happened) d
        → AwaitsHead (read_out l.happened).answers (read_out m.happened).answers method d r
    by_ran (b, before, allowed, step) =
        let same = one_trace ours l.happened b a before driven in
        let after = asked_so b d q size step in
        record {
          news = [];
          answers = ap (λ (h : List Happened). (read_out h).answers) are;
          passed = tt;
          waiting = waiting_of q;
          waits = after.waits ∙ ap (λ (ws : List Waiting). ws ++ waiting_of q ∷ []) (ap (λ (k : ClientKept). k.waiting) same ∙ waiting);
          method_is = method_is;
          free = after.free ∙ ap is_free same ∙ free;
          runs = after.over ∙ ap (λ (k : ClientKept). k.is_over) same ∙ now_open.runs;
          stays = after.closes ∙ ap (λ (k : ClientKept). k.closes) same ∙ now_open.stays;
          fine = after.failed ∙ ap (λ (k : ClientKept). k.failed) same ∙ now_open.fine;
          unput = none;
        }

-- one was sent there
pub used_by : (n : ℕ) (xs : List Exchange) (v : Server) → (filter (is_on n) xs ≡ [] → ⊥) → IsUsed (filter (is_on n) xs) v
used_by n xs v some = by_list (filter (is_on n) xs) some
  where
    by_list : (ys : List Exchange) → (ys ≡ [] → ⊥) → IsUsed ys v
    by_list [] some = absurd (some refl)
    by_list (y ∷ ys) some = tt

-- the newest connection has the last number
pub newest_number : (all : Happenings) (l : Link) (links : List Link) → all.links ≡ l ∷ links → (n : ℕ) → length all.links ≡ n → (k : ℕ) → k + 1 ≡ n → k ≡ length links
newest_number all l links are n many k newest =
    let count : length all.links ≡ suc (length links) = ap (λ (ls : List Link). length ls) are in
    omega (arith, count, many, newest)

module _ (edge : Edge) (theirs ours : Setting) (held : theirs.hold_size ≡ ours.hold_size) (s : ProxyStep) (history : List ProxyStep) where
  -- ---- either side does something of its own

  pub serves_silent : (stage : Stage) (o : on.Outcome) (kept : ForwarderKept) (client : Kept) (all : Happenings) (more : List Step) (xs : List Exchange) → BringsNothing o
      → AllByRecursion IsSilent more → StandsFor theirs client (more ++ all.client) → HasBrought o all.client (more ++ all.client)
      → Serves edge theirs ours kept stage (s ∷ history) all xs
      → Serves edge theirs ours (record kept { client = client }) stage (s ∷ history) (record all { client = more ++ all.client }) xs
  serves_silent stage o kept client all more xs none silent stands did x =
      let same : exchanges (more ++ all.client) ≡ exchanges all.client = silent_exchanges more all.client silent in
      record {
        tells = tells_silent edge theirs ours s history o kept client all more xs none silent stands did x.tells;
        last = subst (λ (fs : List replies.Exchange). OnServer ours (s ∷ history) kept.server all.links stage xs fs) (sym same) x.last;
        state = subst (λ (fs : List replies.Exchange). IsIn kept.under_way kept.server all.links xs fs) (sym same) x.state;
      }

  pub serves_quiet : (stage : Stage) (kept : ForwarderKept) (a b : ClientKept) (all : Happenings) (l : Link) (links : List Link) (more : List Happened) (xs : List Exchange)
      → all.links ≡ l ∷ links → IsClientTrace ours (more ++ l.happened) b → IsQuiet l.happened (more ++ l.happened) → AllByRecursion IsLittle more
      → Serves edge theirs ours (record kept { server = Some a }) stage (s ∷ history) all xs
      → Serves edge theirs ours (record kept { server = Some b }) stage (s ∷ history)
      (record all { links = record { happened = more ++ l.happened; sent = l.sent } ∷ links }) xs
  serves_quiet stage kept a b all l links more xs are driven quiet little x =
      let m : Link = record { happened = more ++ l.happened; sent = l.sent } in
      let fs = exchanges all.client in
      record {
        tells = tells_quiet edge theirs ours s history kept a b all l links (more ++ l.happened) xs are driven quiet x.tells;
        last = last_each (length links) (OnLink ours (s ∷ history) l (length links) stage) (OnLink ours (s ∷ history) m (length links) stage) (UnusedOn ours l) (UnusedOn ours m)
            (λ y r at z. quiet_link ours (s ∷ history) more l m (length links) stage y r little refl z) (λ z. quiet_unused ours more l m little refl z) xs fs
            (subst (λ (ls : List Link). OnServer ours (s ∷ history) (Some a) ls stage xs fs) are x.last);
        state = in_link kept.under_way a b l m links xs fs (subst (λ (ls : List Link). IsIn kept.under_way (Some a) ls xs fs) are x.state);
      }

  -- ---- the server connection is closed while no request is under way, or one waits

  pub serves_closed : (stage : Stage) (client : Kept) (a : ClientKept) (all : Happenings) (l : Link) (links : List Link) (xs : List Exchange) → all.links ≡ l ∷ links
      → Serves edge theirs ours (record { client = client; server = Some a; under_way = nothing }) stage (s ∷ history) all xs
      → Serves edge theirs ours (record { client = client; server = None; under_way = nothing }) stage (s ∷ history) all xs
  serves_closed stage client a all l links xs are x =
      let old : ForwarderKept = record { client = client; server = Some a; under_way = nothing } in
      let some = subst (λ (ls : List Link). IsIn nothing (Some a) ls xs (exchanges all.client)) are x.state in
      let many = counted edge theirs ours (s ∷ history) all x.tells.carries.forwarded.sums.servers in
      record {
        tells = tells_closed edge theirs ours s history old all xs
            (λ k newest. subst (λ (j : ℕ). IsUsed (filter (is_on j) xs) (server_at j (s ∷ history))) (sym (newest_number all l links are (length (servers (s ∷ history))) many k newest))
            (used_by (length links) xs (server_at (length links) (s ∷ history)) some)) x.tells;
        last = tt;
        state = tt;
      }

  -- one waits, and it can't be asked there
  pub serves_left : (stage : Stage) (q : ClientRequest) (size : BodySize) (whole broken : Bool) (client : Kept) (a : ClientKept) (all : Happenings) (l : Link) (links : List Link)
      (xs : List Exchange) → all.links ≡ l ∷ links → IsClientTrace ours l.happened a → can_be_sent q size ≡ true → 0 < ours.write_buffer
      → (IsUnused a → a.waiting ≡ [] → IsUnfit ours a q size)
      → Serves edge theirs ours (record { client = client; server = Some a; under_way = waits q size whole broken }) stage (s ∷ history) all xs
      → Serves edge theirs ours (record { client = client; server = None; under_way = waits q size whole broken }) stage (s ∷ history) all xs
  serves_left stage q size whole broken client a all l links xs are driven can room why x =
      let n = length links in
      let old : ForwarderKept = record { client = client; server = Some a; under_way = waits q size whole broken } in
      let many = counted edge theirs ours (s ∷ history) all x.tells.carries.forwarded.sums.servers in
      let these : map server_of (l ∷ links) ≡ servers (s ∷ history) = sym (ap (map server_of) are) ∙ x.tells.carries.forwarded.sums.servers in
      let there : server_at n (s ∷ history) ≡ server_of l = newest_server (s ∷ history) l links these in
      let link = (subst (AllByRecursion (IsLink ours)) are x.tells.carries.forwarded.sent.links).0 in
      let last = subst (λ (ls : List Link). OnServer ours (s ∷ history) (Some a) ls stage xs (exchanges all.client)) are x.last in
      record {
        tells = tells_closed edge theirs ours s history old all xs
            (λ k newest. subst (λ (j : ℕ). IsUsed (filter (is_on j) xs) (server_at j (s ∷ history))) (sym (newest_number all l links are (length (servers (s ∷ history))) many k newest))
            (by_list (filter (is_on n) xs) refl
            (λ none. unfit_link ours (s ∷ history) l n a q size
            (unasked_link edge (s ∷ history) l links xs (subst (AreOn edge (s ∷ history) xs) are x.tells.places) link.asked none) link there driven
            (last_unused n (OnLink ours (s ∷ history) l n stage) (UnusedOn ours l) xs (exchanges all.client) none last a driven) can room why))) x.tells;
        last = tt;
        state = x.state;
      }
    where
      by_list : (ys : List Exchange) → filter (is_on (length links)) xs ≡ ys → (filter (is_on (length links)) xs ≡ [] → IsUsed [] (server_at (length links) (s ∷ history)))
          → IsUsed ys (server_at (length links) (s ∷ history))
      by_list [] is unfit = unfit is
      by_list (y ∷ ys) is unfit = tt

  -- ---- a head is handed out, and its request waits

  on_head : (server : Option ClientKept) (links : List Link) (stage : Stage) (h : Head) (xs : List Exchange) (fs : List replies.Exchange)
      → OnServer ours (s ∷ history) server links stage xs fs
      → OnServer ours (s ∷ history) server links stage (record { pulled = unpulled h; server = None; sent_at = 0; was_refused = false } ∷ xs) (begun h ∷ fs)
  on_head None links stage h xs fs y = tt
  on_head (Some c) [] stage h xs fs y = absurd y
  on_head (Some c) (l ∷ links) stage h xs fs y = y

  in_head : (server : Option ClientKept) (links : List Link) (h : Head) (xs : List Exchange) (fs gs : List replies.Exchange) → IsIn nothing server links xs fs
      → IsIn nothing server links (record { pulled = unpulled h; server = None; sent_at = 0; was_refused = false } ∷ xs) gs
  in_head None links h xs fs gs y = tt
  in_head (Some c) [] h xs fs gs y = absurd y
  in_head (Some c) (l ∷ links) h xs fs gs y = y

  pub serves_head : (stage : Stage) (h : Head) (server : Option ClientKept) (a b : Kept) (all : Happenings) (xs : List Exchange)
      → StandsFor theirs b (record { event = on.next; outcome = on.head h } ∷ all.client)
      → HasBrought (on.head h) all.client (record { event = on.next; outcome = on.head h } ∷ all.client)
      → Serves edge theirs ours (record { client = a; server = server; under_way = nothing }) stage (s ∷ history) all xs
      → Serves edge theirs ours (record { client = b; server = server; under_way = nothing }) stage (s ∷ history) (record {
        client = record { event = on.next; outcome = on.head h } ∷ all.client;
        requests = record { pulled = unpulled h; sent_at = None; was_refused = false } ∷ all.requests;
        links = all.links;
      }) (record { pulled = unpulled h; server = None; sent_at = 0; was_refused = false } ∷ xs)
  serves_head stage h server a b all xs stands did x =
      let new : Exchange = record { pulled = unpulled h; server = None; sent_at = 0; was_refused = false } in
      let same : exchanges (record { event = on.next; outcome = on.head h } ∷ all.client) ≡ begun h ∷ exchanges all.client = head_exchanges edge theirs (s ∷ history) h all.client in
      record {
        tells = tells_head edge theirs ours s history h server a b all xs stands did x.tells;
        last = subst (λ (fs : List replies.Exchange). OnServer ours (s ∷ history) server all.links stage (new ∷ xs) fs) (sym same)
            (on_head server all.links stage h xs (exchanges all.client) x.last);
        state = in_head server all.links h xs (exchanges all.client) (exchanges (record { event = on.next; outcome = on.head h } ∷ all.client)) x.state;
      }

  pub serves_waits : (stage : Stage) (h : Head) (q : ClientRequest) (size : BodySize) (whole broken : Bool) (client : Kept) (server : Option ClientKept) (all : Happenings)
      (xs : List Exchange) → is_forwardable edge h ≡ true → q.head.method ≡ h.method → whole ≡ not (has_body h.body) → broken ≡ false → size ≡ forwarded_size h
      → ((moment : ℕ) → request_text q.head (asked_shape size) size q.connection moment ≡ given_request_text (forwarded (happened.sent_of edge (unpulled h) moment)))
      → IsNewest h all → HasNoReply (exchanges all.client)
      → Serves edge theirs ours (record { client = client; server = server; under_way = nothing }) stage (s ∷ history) all xs
      → Serves edge theirs ours (record { client = client; server = server; under_way = waits q size whole broken }) stage (s ∷ history) all xs
  serves_waits stage h q size whole broken client server all xs may method is_whole unbroken sized text newest none x = record {
    tells = record {
      carries = keeps_waiting edge theirs ours h q size whole broken client server may method is_whole unbroken sized text (s ∷ history) all x.tells.carries newest;
      same = x.tells.same;
      places = x.tells.places;
      is = x.tells.is;
    };
    last = x.last;
    state = none;
  }

  -- ---- the newest request is sent on

  pub serves_sent : (q : ClientRequest) (size : BodySize) (whole broken : Bool) (client : Kept) (a b : ClientKept)
      → (allowed : IsTrue (client_allows ours a (asked.ask q size))) → (step : IsClientStep ours a (asked.ask q size) asked.done b)
      → a.waiting ≡ [] → is_free a ≡ true → a.unread ≡ []
      → (all : Happenings) (r : Request) (rs : List Request) (l : Link) (links : List Link) (x : Exchange) (xs : List Exchange) (f : replies.Exchange) (fs : List replies.Exchange)
      → all.requests ≡ r ∷ rs → all.links ≡ l ∷ links → IsClientTrace ours l.happened a → IsIdle (Some a) (l ∷ links) → IsWaiting edge q size whole broken r
      → now_of l.happened ≡ now (s ∷ history) → exchanges all.client ≡ f ∷ fs → x.server ≡ None → x.pulled ≡ r.pulled
      → Serves edge theirs ours (record { client = client; server = Some a; under_way = waits q size whole broken }) over (s ∷ history) all (x ∷ xs)
      → Serves edge theirs ours (record { client = client; server = Some b; under_way = is_sent whole broken }) before_head (s ∷ history) (record {
        client = all.client;
        requests = record r { sent_at = Some (now_of l.happened) } ∷ rs;
        links = record {
          happened = record { event = asked.ask q size; outcome = asked.done } ∷ l.happened;
          sent = happened.sent_of edge r.pulled (now_of l.happened) ∷ l.sent;
        } ∷ links;
      }) (sent_now (length links) (s ∷ history) x ∷ xs)
  serves_sent q size whole broken client a b allowed step waiting free unread all r rs l links x xs f fs rs_are links_are driven idle w dated fs_are unsent pulled y =
      let n = length links in
      let e : Happened = record { event = asked.ask q size; outcome = asked.done } in
      let m : Link = record { happened = e ∷ l.happened; sent = happened.sent_of edge r.pulled (now_of l.happened) ∷ l.sent } in
      let now_open = open_for ours l.happened a q size driven allowed free unread in
      let these : map server_of (l ∷ links) ≡ servers (s ∷ history) = sym (ap (map server_of) links_are) ∙ y.tells.carries.forwarded.sums.servers in
      let there : server_at n (s ∷ history) ≡ server_of l = newest_server (s ∷ history) l links these in
      let last = subst (λ (gs : List replies.Exchange). LastOn n (OnLink ours (s ∷ history) l n over) (UnusedOn ours l) (x ∷ xs) gs) fs_are
      (subst (λ (ls : List Link). OnServer ours (s ∷ history) (Some a) ls over (x ∷ xs) (exchanges all.client)) links_are y.last) in
      let none : f.reply ≡ no_reply = subst HasNoReply fs_are y.state in
      let alone : LastIsAlone theirs (s ∷ history) n [] xs =
      last_alone theirs (s ∷ history) n (OnLink ours (s ∷ history) l n over) (UnusedOn ours l)
      (λ z g at o. link_alone theirs ours held (s ∷ history) l n there a driven now_open.fine free unread now_open.going z g o) [] xs fs
      (of_older n (OnLink ours (s ∷ history) l n over) (UnusedOn ours l) x xs f fs unsent last) in
      let method : q.head.method ≡ x.pulled.head.method = w.method ∙ sym (ap (λ (p : Pulled). p.head.method) pulled) in
      record {
        tells = tells_sent edge theirs ours s history q size whole broken client a b allowed step all r rs l links x xs f fs rs_are links_are driven idle w dated fs_are none alone
            (λ off. fresh_link edge ours (s ∷ history) l links (x ∷ xs) a (subst (AreOn edge (s ∷ history) (x ∷ xs)) links_are y.tells.places)
            (subst (AllByRecursion (IsLink ours)) links_are y.tells.carries.forwarded.sent.links).0.asked driven now_open.fine free unread now_open.going there
            (ap (λ (t : Bool). cond t (x ∷ filter (is_on n) xs) (filter (is_on n) xs)) (is_off n x unsent) ∙ off)) y.tells;
        last = subst (LastOn n (OnLink ours (s ∷ history) m n before_head) (UnusedOn ours m) (sent_now n (s ∷ history) x ∷ xs)) (sym fs_are)
            (to_newest n (OnLink ours (s ∷ history) m n before_head) (UnusedOn ours m) (sent_now n (s ∷ history) x) xs f fs refl (record {
              asked = record {
                before = l.happened;
                kept = a;
                ran = driven;
                fine = now_open.fine;
                free = free;
                unread = unread;
                waiting = waiting;
                going = now_open.going;
                more = [];
                came = refl;
                methods =
                    map-append (λ (v : Waiting). v.method) (requests_of l.happened) (waiting_of q ∷ [])
                    ∙ ap (λ (name : List ℕ). methods_of l.happened ++ name ∷ []) method;
                place = ap (λ (h : List ProxyStep). (server_at n h).came) (first_all (s ∷ history)) ∙ ap (λ (v : Server). v.came) there;
              };
              at = λ d ran. awaits_first ours l m q size a d x.pulled.head.method f.reply refl driven waiting free now_open method none ran;
            }));
        state = refl;
      }
