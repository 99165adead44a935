-- What is sent on of the newest request is put after the text of the others.
use Rattle.std.proofs.Common.{◌≡◌, ℕ, ◌-◌, Bool, true, false, not, ◌&&◌, List, [], ◌∷◌, ◌++◌, map, flat_map, length, Option, Some, None, refl, sym, ap, ap₂, ◌∙◌, subst, append_assoc, append-nil, arith}
use Rattle.std.specs.Prelude.{IsTrue, is_some, cond, ◌==◌, if◌then◌else◌}
use Rattle.std.specs.List.{AllByRecursion}
use Rattle.std.proofs.lemmas.Bool.{false≢true, true≢false, and_parts}
use Rattle.model_h1.specs.Setting.{Setting}
use Rattle.model_h1.specs.Request.{BodyKind, no_body, fixed_body, chunked_body, raw_body, has_body}
use Rattle.model_h1.specs.Answer.{BodySize, shape_none, shape_length, is_at_once}
use Rattle.model_h1.specs.AnswerText.{end_text}
use Rattle.model_h1.specs.Event as on
use Rattle.model_h1.specs.Sums.{Step}
use Rattle.model_state.specs.Kept.{Kept}
use Rattle.model_state.specs.StandsFor.{StandsFor}
use Rattle.model_state.specs.Reply.{stated}
use Rattle.model_client.specs.RequestText.{asked_shape, joined}
use Rattle.model_client.specs.ClientEvent as asked
use Rattle.model_client.specs.ClientEvent.{ClientRequest}
use Rattle.model_client.specs.ClientKept.{ClientKept, Waiting, SendingBody, waiting_of, client_allows, client_closing, has_room}
use Rattle.model_client.specs.ClientStep.{piece_of, IsClientStep, begun_body}
use Rattle.model_client.specs.ClientTrace.{IsClientTrace, requests_of, now_of, sending_of, text_of, piece_text_of, end_text_of, body_after}
use Rattle.model_client.proofs.Written.{is_text}
use Rattle.model_proxy.specs.Edge.{Edge}
use Rattle.model_proxy.specs.Forward.{is_forwardable, states_length, size_by, forwarded_size, Sent, forward}
use Rattle.model_proxy.specs.Past.{ProxyStep}
use Rattle.model_proxy.specs.Exchange.{Pulled, pulled}
use Rattle.model_proxy.specs.Happenings.{Request, Link, Happenings, sent_of, with_sent, all_sent, text_sent, methods_sent, AreWholeBehind, IsRightlySent, IsLink}
use Rattle.model_proxy.specs.Carried.{waits, is_sent, IsServer, IsIdle, IsWaiting, IsSentOn, IsUnderWay, Carries, Keeps}
use Rattle.model_proxy.specs.Moves.{HasBrought, Brings}
use Rattle.model_proxy.proofs.TextLemmas.{begun_text, more_text, end_text_sent, missing_more}
use Rattle.model_proxy.proofs.Quiet.{nothing_more, done_brings_nothing, quiet_server}
use Rattle.model_proxy.proofs.Turns.{changed}

-- ---- the list of what was sent

behind : List Sent → List Sent
behind [] = []
behind (s ∷ ss) = ss

-- another one in place of the newest
resent : (edge : Edge) (p p' : Pulled) (at : Option ℕ) (moment : ℕ) (ss sent before links : List Sent) → at ≡ Some moment → sent ≡ sent_of edge p moment ∷ before
    → with_sent edge p at ss ≡ sent ++ links → with_sent edge p' at ss ≡ sent_of edge p' moment ∷ (before ++ links)
unfolding behind
resent edge p p' at moment ss sent before links is newest all =
    let others : ss ≡ before ++ links =
    ap behind (sym (ap (λ at. with_sent edge p at ss) is) ∙ all ∙ ap (λ (sent : List Sent). sent ++ links) newest) in
    ap (λ at. with_sent edge p' at ss) is ∙ ap (λ (ss : List Sent). sent_of edge p' moment ∷ ss) others

rightly_kept : (edge : Edge) (p q : Pulled) (at : Option ℕ) (refused : Bool) → q.head ≡ p.head → IsRightlySent edge p at refused → IsRightlySent edge q at refused
rightly_kept edge p q None false same x = tt
rightly_kept edge p q None true same x = ap (λ h. is_forwardable edge h) same ∙ x
rightly_kept edge p q (Some moment) false same x = ap (λ h. is_forwardable edge h) same ∙ x
rightly_kept edge p q (Some moment) true same x = absurd x

-- one that waited is sent on
rightly_asked : (edge : Edge) (p : Pulled) (moment : ℕ) (refused : Bool) → refused ≡ false → is_forwardable edge p.head ≡ true → IsRightlySent edge p (Some moment) refused
rightly_asked edge p moment false is may = may
rightly_asked edge p moment true is may = absurd (false≢true (sym is))

-- a body that has any is being sent
abbrev begun_where : Bool → BodySize → Option SendingBody
begun_where at_once size = if at_once then None else Some (record { shape = asked_shape size; missing = stated (asked_shape size) })

begins_open : (size : BodySize) → is_at_once size ≡ false → is_some (begun_body size) ≡ true
begins_open size long = ap (λ (b : Bool). is_some (begun_where b size)) long

-- ---- the requests that were asked

abbrev methods : List Waiting → List (List ℕ)
methods ws = map (λ (w : Waiting). w.method) ws

methods_more : (ws more : List Waiting) → methods (ws ++ more) ≡ methods ws ++ methods more
methods_more [] more = refl
methods_more (w ∷ ws) more = ap (λ (ms : List (List ℕ)). w.method ∷ ms) (methods_more ws more)

none_asked : (ws : List Waiting) → methods (ws ++ []) ≡ methods ws
none_asked ws = ap methods (append-nil ws)

-- one more is
asks_more : (ws : List Waiting) (ss : List Sent) (w : Waiting) (s : Sent) → methods ws ≡ methods_sent ss → w.method ≡ s.head.method
    → methods (ws ++ w ∷ []) ≡ methods_sent (s ∷ ss)
asks_more ws ss w s before same =
    methods_more ws (w ∷ []) ∙ ap₂ (λ (ms : List (List ℕ)) (m : List ℕ). ms ++ m ∷ []) before same

-- ---- what may be sent

running_sends : (closes sends room : Bool) → (cond closes false (sends && room)) ≡ true → sends ≡ true
running_sends true sends room x = absurd (false≢true x)
running_sends false true room x = refl
running_sends false false room x = absurd (false≢true x)

ends_sends : (closes sends : Bool) → (cond closes false sends) ≡ true → sends ≡ true
ends_sends true sends x = absurd (false≢true x)
ends_sends false sends x = x

some_of : (sending : Option SendingBody) → is_some sending ≡ true → (body : SendingBody) × (sending ≡ Some body)
some_of None x = absurd (false≢true x)
some_of (Some body) x = (body, refl)

pub chunk_sends : (setting : Setting) (k : ClientKept) (bytes : List ℕ) → IsTrue (client_allows setting k (asked.chunk bytes))
    → (body : SendingBody) × (k.sending ≡ Some body)
chunk_sends setting k bytes x =
    some_of k.sending (running_sends (is_some (client_closing k)) (is_some k.sending) (has_room setting k) (and_parts _ _ x).1)

pub end_sends : (setting : Setting) (k : ClientKept) → IsTrue (client_allows setting k asked.body_end) → (body : SendingBody) × (k.sending ≡ Some body)
end_sends setting k x = some_of k.sending (ends_sends (is_some (client_closing k)) (is_some k.sending) (and_parts _ _ x).1)

-- ---- a body that begins

abbrev begun_if : Bool → ℕ → Option SendingBody
begun_if t n =
    if t then None else Some (record { shape = if t then shape_none else shape_length n; missing = stated (if t then shape_none else shape_length n) })

record Begun (says : Bool) (kind : BodyKind) (body : SendingBody) : Type 0 where
  has : not (has_body kind) ≡ false
  shape : body.shape ≡ asked_shape (size_by says kind)
  missing : body.missing ≡ stated (asked_shape (size_by says kind))

begun_sized : (t : Bool) (n : ℕ) (body : SendingBody) → begun_if t n ≡ Some body
    → (body.shape ≡ (if t then shape_none else shape_length n)) × (body.missing ≡ stated (if t then shape_none else shape_length n))
begun_sized true n body x = cc
begun_sized false n body x = (cc, cc)

begun : (says : Bool) (kind : BodyKind) (body : SendingBody) → begun_body (size_by says kind) ≡ Some body → Begun says kind body
begun true no_body body x = cc
begun false no_body body x = cc
begun says raw_body body x = cc
begun says chunked_body body x = record { has = refl; shape = cc; missing = cc }
begun says (fixed_body n) body x = let b = begun_sized (n == 0) n body x in record { has = refl; shape = b.0; missing = b.1 }

module _ (edge : Edge) (theirs ours : Setting) where
  -- ---- a request is sent on

  -- no step of the client's connection is made
  still : (trace : List Step) → HasBrought on.done trace trace
  still trace = record { taken = refl; written = refl; moment = refl; ended = refl; pulled = sym (nothing_more on.done done_brings_nothing (pulled trace)) }

  pub asked_at : (q : ClientRequest) (size : BodySize) (whole broken : Bool) (client : Kept) (s t : ClientKept)
      → IsTrue (client_allows ours s (asked.ask q size)) → IsClientStep ours s (asked.ask q size) asked.done t
      → (history : List ProxyStep) (all : Happenings) (r : Request) (rs : List Request) (l : Link) (links : List Link) → all.requests ≡ r ∷ rs → all.links ≡ l ∷ links
      → Carries edge theirs ours (record { client = client; server = Some s; under_way = waits q size whole broken }) history all
      → IsClientTrace ours l.happened s → IsIdle (Some s) (l ∷ links) → IsWaiting edge q size whole broken r
      → Carries edge theirs ours (record { client = client; server = Some t; under_way = is_sent whole broken }) history (record {
        client = all.client;
        requests = record r { sent_at = Some (now_of l.happened) } ∷ rs;
        links = record {
          happened = record { event = asked.ask q size; outcome = asked.done } ∷ l.happened;
          sent = sent_of edge r.pulled (now_of l.happened) ∷ l.sent;
        } ∷ links;
      })
  asked_at q size whole broken client s t allowed step history all r rs l links rs_are links_are x server idle w =
      let moment = now_of l.happened in
      let r' : Request = record r { sent_at = Some moment } in
      let m : Link = record { happened = record { event = asked.ask q size; outcome = asked.done } ∷ l.happened; sent = sent_of edge r.pulled moment ∷ l.sent } in
      let link = (subst (AllByRecursion (IsLink ours)) links_are x.forwarded.sent.links).0 in
      let none : r.pulled.pieces ≡ [] = ap (λ (p : Pulled). p.pieces) w.untaken in
      let is_ended : r.pulled.is_ended ≡ not (has_body r.pulled.head.body) = ap (λ (p : Pulled). p.is_ended) w.untaken in
      changed edge theirs ours on.done client client s t (waits q size whole broken) (is_sent whole broken) r r' rs l m links history all all.client rs_are links_are x x.stands
      (still all.client) refl refl refl
      (quiet_server l (asked.ask q size) asked.done (sent_of edge r.pulled moment ∷ l.sent) refl refl refl)
      (ap (λ (ss : List Sent). sent_of edge r.pulled moment ∷ ss)
      (sym (ap (λ at. with_sent edge r.pulled at (all_sent edge rs)) w.unsent) ∙ sym (ap (all_sent edge) rs_are) ∙ x.forwarded.sent.sent
      ∙ ap (flat_map (λ (l : Link). l.sent)) links_are))
      (rightly_asked edge r.pulled moment r.was_refused w.unrefused w.forwardable)
      (s, server, allowed, step)
      (ap₂ (λ (a b : List ℕ). a ++ b) link.text (w.text moment ∙ sym (begun_text (sent_of edge r.pulled moment) none is_ended)))
      (asks_more (requests_of l.happened) l.sent (waiting_of q) (sent_of edge r.pulled moment) link.asked w.method)
      idle
      (record {
        moment = moment;
        at = refl;
        before = l.sent;
        sent = refl;
        marked = record { whole = w.whole ∙ sym is_ended; broken = w.unbroken ∙ sym (ap (λ (p : Pulled). p.is_broken) w.untaken) };
        body = λ body is.
            let b = begun (states_length r.pulled.head) r.pulled.head.body body (sym (ap begun_body w.sized) ∙ is) in
            record {
              unended = is_ended ∙ b.has;
              shape = b.shape;
              missing = b.missing ∙ nothing_less (stated (asked_shape (forwarded_size r.pulled.head))) r.pulled.pieces none;
            };
        sends = λ unended long. begins_open size (ap is_at_once w.sized ∙ long);
      })
    where
      nothing_less : (n : ℕ) (pieces : List (List ℕ)) → pieces ≡ [] → n ≡ n - length (joined pieces)
      nothing_less n pieces is = let zero : length (joined pieces) ≡ 0 = ap (λ (ps : List (List ℕ)). length (joined ps)) is in omega (arith, zero)

  pub keeps_asked : (q : ClientRequest) (size : BodySize) (whole broken : Bool) (client : Kept) (s t : ClientKept)
      → IsTrue (client_allows ours s (asked.ask q size)) → IsClientStep ours s (asked.ask q size) asked.done t
      → Keeps edge theirs ours (record { client = client; server = Some s; under_way = waits q size whole broken })
      (record { client = client; server = Some t; under_way = is_sent whole broken })
  keeps_asked q size whole broken client s t allowed step = λ history all x. sends history all all.requests all.links refl refl x x.server x.under_way
    where
      sends : (history : List ProxyStep) (all : Happenings) (rs : List Request) (links : List Link) → all.requests ≡ rs → all.links ≡ links
          → Carries edge theirs ours (record { client = client; server = Some s; under_way = waits q size whole broken }) history all
          → IsServer ours (Some s) links → IsUnderWay edge (waits q size whole broken) rs (Some s) links
          → (after : Happenings) × Carries edge theirs ours (record { client = client; server = Some t; under_way = is_sent whole broken }) history after
      sends history all [] links rs_are links_are x server under = absurd under
      sends history all (r ∷ rs) [] rs_are links_are x server under = absurd server
      sends history all (r ∷ rs) (l ∷ links) rs_are links_are x server (idle, w) =
          (_, asked_at q size whole broken client s t allowed step history all r rs l links rs_are links_are x server idle w)

  -- ---- more of it

  -- what was taken of its body is put behind it
  pub piece_at : (bytes : List ℕ) (whole broken : Bool) (a b : Kept) (s t : ClientKept)
      → IsTrue (client_allows ours s (asked.chunk bytes)) → IsClientStep ours s (asked.chunk bytes) asked.done t
      → (history : List ProxyStep) (all : Happenings) (r : Request) (rs : List Request) (l : Link) (links : List Link) → all.requests ≡ r ∷ rs → all.links ≡ l ∷ links
      → Carries edge theirs ours (record { client = a; server = Some s; under_way = is_sent whole broken }) history all
      → IsClientTrace ours l.happened s → (u : IsSentOn edge whole broken r l) → (trace : List Step) → StandsFor theirs b trace → HasBrought (on.bytes bytes) all.client trace
      → Carries edge theirs ours (record { client = b; server = Some t; under_way = is_sent whole broken }) history (record {
        client = trace;
        requests = record { pulled = record r.pulled { pieces = r.pulled.pieces ++ bytes ∷ [] }; sent_at = r.sent_at; was_refused = r.was_refused } ∷ rs;
        links = record {
          happened = record { event = asked.chunk bytes; outcome = asked.done } ∷ l.happened;
          sent = sent_of edge (record r.pulled { pieces = r.pulled.pieces ++ bytes ∷ [] }) u.moment ∷ u.before;
        } ∷ links;
      })
  piece_at bytes whole broken a b s t allowed step history all r rs l links rs_are links_are x server u trace stands did =
      let p : Pulled = record r.pulled { pieces = r.pulled.pieces ++ bytes ∷ [] } in
      let r' : Request = record { pulled = p; sent_at = r.sent_at; was_refused = r.was_refused } in
      let m : Link = record { happened = record { event = asked.chunk bytes; outcome = asked.done } ∷ l.happened; sent = sent_of edge p u.moment ∷ u.before } in
      let link = (subst (AllByRecursion (IsLink ours)) links_are x.forwarded.sent.links).0 in
      let sending = chunk_sends ours s bytes allowed in
      let is_sending : sending_of l.happened ≡ Some sending.0 = sym (is_text ours l.happened s server).sending ∙ sending.1 in
      let body = u.body sending.0 is_sending in
      changed edge theirs ours (on.bytes bytes) a b s t (is_sent whole broken) (is_sent whole broken) r r' rs l m links history all trace rs_are links_are x stands
      did refl refl refl
      (quiet_server l (asked.chunk bytes) asked.done (sent_of edge p u.moment ∷ u.before) refl refl refl)
      (resent edge r.pulled p r.sent_at u.moment (all_sent edge rs) l.sent u.before (flat_map (λ (l : Link). l.sent) links) u.at u.sent
      (sym (ap (all_sent edge) rs_are) ∙ x.forwarded.sent.sent ∙ ap (flat_map (λ (l : Link). l.sent)) links_are))
      (rightly_kept edge r.pulled p r.sent_at r.was_refused refl
      (subst (AllByRecursion (λ (r : Request). IsRightlySent edge r.pulled r.sent_at r.was_refused)) rs_are x.forwarded.sent.rightly).0)
      (s, server, allowed, step)
      (ap (λ o. text_of l.happened ++ piece_text_of bytes o) is_sending
      ∙ ap₂ (λ (t : List ℕ) shape. t ++ piece_of shape sending.0.missing bytes) (link.text ∙ ap text_sent u.sent) body.shape
      ∙ ap (λ n. text_sent (sent_of edge r.pulled u.moment ∷ u.before) ++ piece_of (asked_shape (forwarded_size p.head)) n bytes) body.missing
      ∙ append_assoc (text_sent u.before) (forward (sent_of edge r.pulled u.moment)) _
      ∙ ap (λ (t : List ℕ). text_sent u.before ++ t) (sym (more_text (sent_of edge r.pulled u.moment) bytes body.unended)))
      (none_asked (requests_of l.happened) ∙ link.asked ∙ ap methods_sent u.sent)
      (subst AreWholeBehind u.sent link.whole)
      (record {
        moment = u.moment;
        at = u.at;
        before = u.before;
        sent = refl;
        marked = record { whole = u.marked.whole; broken = u.marked.broken };
        body = λ next is.
            let after : Some (record sending.0 { missing = sending.0.missing - length bytes }) ≡ Some next =
            sym (ap (body_after bytes) is_sending) ∙ is in
            record {
              unended = body.unended;
              shape = let same : next.shape ≡ sending.0.shape = cc in same ∙ body.shape;
              missing =
                  let same : next.missing ≡ sending.0.missing - length bytes = cc in
                  same ∙ ap (λ n. n - length bytes) body.missing
                  ∙ missing_more (stated (asked_shape (forwarded_size p.head))) r.pulled.pieces bytes;
            };
        sends = λ unended long. ap (λ (o : Option SendingBody). is_some (body_after bytes o)) is_sending;
      })

  pub keeps_piece : (bytes : List ℕ) (whole broken : Bool) (a b : Kept) (s t : ClientKept) → Brings theirs (on.bytes bytes) a b
      → IsTrue (client_allows ours s (asked.chunk bytes)) → IsClientStep ours s (asked.chunk bytes) asked.done t
      → Keeps edge theirs ours (record { client = a; server = Some s; under_way = is_sent whole broken }) (record { client = b; server = Some t; under_way = is_sent whole broken })
  keeps_piece bytes whole broken a b s t brings allowed step = λ history all x. sends history all all.requests all.links refl refl x x.server x.under_way
    where
      sends : (history : List ProxyStep) (all : Happenings) (rs : List Request) (links : List Link) → all.requests ≡ rs → all.links ≡ links
          → Carries edge theirs ours (record { client = a; server = Some s; under_way = is_sent whole broken }) history all
          → IsServer ours (Some s) links → IsUnderWay edge (is_sent whole broken) rs (Some s) links
          → (after : Happenings) × Carries edge theirs ours (record { client = b; server = Some t; under_way = is_sent whole broken }) history after
      sends history all [] links rs_are links_are x server under = absurd under
      sends history all (r ∷ rs) [] rs_are links_are x server under = absurd server
      sends history all (r ∷ rs) (l ∷ links) rs_are links_are x server u =
          let did = brings all.client x.stands in
          (_, piece_at bytes whole broken a b s t allowed step history all r rs l links rs_are links_are x server u did.0 did.1 did.2)

  -- its body has ended
  pub end_at : (whole broken : Bool) (a b : Kept) (s t : ClientKept)
      → IsTrue (client_allows ours s asked.body_end) → IsClientStep ours s asked.body_end asked.done t
      → (history : List ProxyStep) (all : Happenings) (r : Request) (rs : List Request) (l : Link) (links : List Link) → all.requests ≡ r ∷ rs → all.links ≡ l ∷ links
      → Carries edge theirs ours (record { client = a; server = Some s; under_way = is_sent whole broken }) history all
      → IsClientTrace ours l.happened s → (u : IsSentOn edge whole broken r l) → (trace : List Step) → StandsFor theirs b trace → HasBrought (on.body_ended) all.client trace
      → Carries edge theirs ours (record { client = b; server = Some t; under_way = is_sent true broken }) history (record {
        client = trace;
        requests = record { pulled = record r.pulled { is_ended = true }; sent_at = r.sent_at; was_refused = r.was_refused } ∷ rs;
        links = record {
          happened = record { event = asked.body_end; outcome = asked.done } ∷ l.happened;
          sent = sent_of edge (record r.pulled { is_ended = true }) u.moment ∷ u.before;
        } ∷ links;
      })
  end_at whole broken a b s t allowed step history all r rs l links rs_are links_are x server u trace stands did =
      let p : Pulled = record r.pulled { is_ended = true } in
      let r' : Request = record { pulled = p; sent_at = r.sent_at; was_refused = r.was_refused } in
      let m : Link = record { happened = record { event = asked.body_end; outcome = asked.done } ∷ l.happened; sent = sent_of edge p u.moment ∷ u.before } in
      let link = (subst (AllByRecursion (IsLink ours)) links_are x.forwarded.sent.links).0 in
      let sending = end_sends ours s allowed in
      let is_sending : sending_of l.happened ≡ Some sending.0 = sym (is_text ours l.happened s server).sending ∙ sending.1 in
      let body = u.body sending.0 is_sending in
      changed edge theirs ours on.body_ended a b s t (is_sent whole broken) (is_sent true broken) r r' rs l m links history all trace rs_are links_are x stands
      did refl refl refl
      (quiet_server l asked.body_end asked.done (sent_of edge p u.moment ∷ u.before) refl refl refl)
      (resent edge r.pulled p r.sent_at u.moment (all_sent edge rs) l.sent u.before (flat_map (λ (l : Link). l.sent) links) u.at u.sent
      (sym (ap (all_sent edge) rs_are) ∙ x.forwarded.sent.sent ∙ ap (flat_map (λ (l : Link). l.sent)) links_are))
      (rightly_kept edge r.pulled p r.sent_at r.was_refused refl
      (subst (AllByRecursion (λ (r : Request). IsRightlySent edge r.pulled r.sent_at r.was_refused)) rs_are x.forwarded.sent.rightly).0)
      (s, server, allowed, step)
      (ap (λ o. text_of l.happened ++ end_text_of o) is_sending
      ∙ ap₂ (λ (t : List ℕ) shape. t ++ end_text shape) (link.text ∙ ap text_sent u.sent) body.shape
      ∙ append_assoc (text_sent u.before) (forward (sent_of edge r.pulled u.moment)) _
      ∙ ap (λ (t : List ℕ). text_sent u.before ++ t) (sym (end_text_sent (sent_of edge r.pulled u.moment) body.unended)))
      (none_asked (requests_of l.happened) ∙ link.asked ∙ ap methods_sent u.sent)
      (subst AreWholeBehind u.sent link.whole)
      (record {
        moment = u.moment;
        at = u.at;
        before = u.before;
        sent = refl;
        marked = record { whole = refl; broken = u.marked.broken };
        body = λ next is. let none : None ≡ Some next = is in cc;
        sends = λ unended long. absurd (true≢false unended);
      })

  pub keeps_end : (whole broken : Bool) (a b : Kept) (s t : ClientKept) → Brings theirs on.body_ended a b
      → IsTrue (client_allows ours s asked.body_end) → IsClientStep ours s asked.body_end asked.done t
      → Keeps edge theirs ours (record { client = a; server = Some s; under_way = is_sent whole broken }) (record { client = b; server = Some t; under_way = is_sent true broken })
  keeps_end whole broken a b s t brings allowed step = λ history all x. sends history all all.requests all.links refl refl x x.server x.under_way
    where
      sends : (history : List ProxyStep) (all : Happenings) (rs : List Request) (links : List Link) → all.requests ≡ rs → all.links ≡ links
          → Carries edge theirs ours (record { client = a; server = Some s; under_way = is_sent whole broken }) history all
          → IsServer ours (Some s) links → IsUnderWay edge (is_sent whole broken) rs (Some s) links
          → (after : Happenings) × Carries edge theirs ours (record { client = b; server = Some t; under_way = is_sent true broken }) history after
      sends history all [] links rs_are links_are x server under = absurd under
      sends history all (r ∷ rs) [] rs_are links_are x server under = absurd server
      sends history all (r ∷ rs) (l ∷ links) rs_are links_are x server u =
          let did = brings all.client x.stands in
          (_, end_at whole broken a b s t allowed step history all r rs l links rs_are links_are x server u did.0 did.1 did.2)

  -- its body broke, or was cut
  pub broken_at : (fault : on.BodyFault) (whole broken : Bool) (a b : Kept) (s : ClientKept)
      → (history : List ProxyStep) (all : Happenings) (r : Request) (rs : List Request) (l : Link) (links : List Link) → all.requests ≡ r ∷ rs → all.links ≡ l ∷ links
      → Carries edge theirs ours (record { client = a; server = Some s; under_way = is_sent whole broken }) history all
      → IsClientTrace ours l.happened s → (u : IsSentOn edge whole broken r l) → (trace : List Step) → StandsFor theirs b trace → HasBrought (on.broken_by fault) all.client trace
      → Carries edge theirs ours (record { client = b; server = Some s; under_way = is_sent whole true }) history (record {
        client = trace;
        requests = record { pulled = record r.pulled { is_broken = true }; sent_at = r.sent_at; was_refused = r.was_refused } ∷ rs;
        links = record { happened = l.happened; sent = sent_of edge (record r.pulled { is_broken = true }) u.moment ∷ u.before } ∷ links;
      })
  broken_at fault whole broken a b s history all r rs l links rs_are links_are x server u trace stands did =
      let p : Pulled = record r.pulled { is_broken = true } in
      let r' : Request = record { pulled = p; sent_at = r.sent_at; was_refused = r.was_refused } in
      let m : Link = record { happened = l.happened; sent = sent_of edge p u.moment ∷ u.before } in
      let link = (subst (AllByRecursion (IsLink ours)) links_are x.forwarded.sent.links).0 in
      changed edge theirs ours (on.broken_by fault) a b s s (is_sent whole broken) (is_sent whole true) r r' rs l m links history all trace rs_are links_are x stands
      did refl refl refl
      refl
      (resent edge r.pulled p r.sent_at u.moment (all_sent edge rs) l.sent u.before (flat_map (λ (l : Link). l.sent) links) u.at u.sent
      (sym (ap (all_sent edge) rs_are) ∙ x.forwarded.sent.sent ∙ ap (flat_map (λ (l : Link). l.sent)) links_are))
      (rightly_kept edge r.pulled p r.sent_at r.was_refused refl
      (subst (AllByRecursion (λ (r : Request). IsRightlySent edge r.pulled r.sent_at r.was_refused)) rs_are x.forwarded.sent.rightly).0)
      server
      (link.text ∙ ap text_sent u.sent)
      (link.asked ∙ ap methods_sent u.sent)
      (subst AreWholeBehind u.sent link.whole)
      (record {
        moment = u.moment;
        at = u.at;
        before = u.before;
        sent = refl;
        marked = record { whole = u.marked.whole; broken = refl };
        body = λ next is. let y = u.body next is in record { unended = y.unended; shape = y.shape; missing = y.missing };
        sends = λ unended long. u.sends unended long;
      })

  pub keeps_broken : (fault : on.BodyFault) (whole broken : Bool) (a b : Kept) (s : ClientKept) → Brings theirs (on.broken_by fault) a b
      → Keeps edge theirs ours (record { client = a; server = Some s; under_way = is_sent whole broken }) (record { client = b; server = Some s; under_way = is_sent whole true })
  keeps_broken fault whole broken a b s brings = λ history all x. breaks history all all.requests all.links refl refl x x.server x.under_way
    where
      breaks : (history : List ProxyStep) (all : Happenings) (rs : List Request) (links : List Link) → all.requests ≡ rs → all.links ≡ links
          → Carries edge theirs ours (record { client = a; server = Some s; under_way = is_sent whole broken }) history all
          → IsServer ours (Some s) links → IsUnderWay edge (is_sent whole broken) rs (Some s) links
          → (after : Happenings) × Carries edge theirs ours (record { client = b; server = Some s; under_way = is_sent whole true }) history after
      breaks history all [] links rs_are links_are x server under = absurd under
      breaks history all (r ∷ rs) [] rs_are links_are x server under = absurd server
      breaks history all (r ∷ rs) (l ∷ links) rs_are links_are x server u =
          let did = brings all.client x.stands in
          (_, broken_at fault whole broken a b s history all r rs l links rs_are links_are x server u did.0 did.1 did.2)
