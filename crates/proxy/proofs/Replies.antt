-- Why a forwarder puts each part of a reply.
use Rattle.std.proofs.Common.{◌≡◌, ◌⊎◌, inl, inr, ℕ, Bool, true, false, List, [], ◌∷◌, Option, Some, None, refl, sym, ap, ◌∙◌, subst, subst₂}
use Rattle.std.specs.Prelude.{if◌then◌else◌}
use Rattle.std.proofs.lemmas.Bool.{false≢true}
use Rattle.model_h1.specs.Answer.{AnswerHead, BodySize, is_at_once}
use Rattle.model_h1.specs.Event as on
use Rattle.model_h1.specs.Request.{Head}
use Rattle.model_h1.specs.Sums.{Step}
use Rattle.model_proxy.specs.Forward.{is_forwardable}
use Rattle.h1_decoder.specs.HeadItem.{SaysHead}
use Rattle.h1_decoder.specs.declared.decoder.HeadItem.{HeadItem}
use Rattle.h1_decoder.specs.declared.response.ResponseItem.{ResponseItem}
use Rattle.h1_payload.specs.declared.pulled.Pulled.TheVariants as pulled
use Rattle.h1_connection.specs.State.{State, Stands, Is}
use Rattle.model_client.specs.AnswerParse.{is_interim}
use Rattle.model_client.specs.AnswerReading.{Answer}
use Rattle.model_client.specs.ClientEvent as asked
use Rattle.h1_client.specs.State as servers
use Rattle.h1_client.specs.declared.event.ClientEnd.{ClientEnd}
use Rattle.h1_client.specs.declared.event.NextAnswer.TheVariants as answered
use Rattle.model_proxy.specs.Answers.{says_close, reply_head, reply_size}
use Rattle.proxy.specs.Leaves.{LeavesAnswer}
use Rattle.model_proxy.specs.Parts.{Part, begins, continues, ends, breaks_off, goes_on, request_breaks, is_refused, Handed, body_bytes, body_fault}
use Rattle.proxy.specs.Puts.{Puts, IsRefused, MayPut, MayLeave, HandsHead, HandsAnswer, HandsPiece, Hands, HandsNone, CannotPull, IsReadUp}
use Rattle.proxy.proofs.Puts.{puts_none, then_none, behind_a_head, hands_same, hands_then, tells_none}
use Rattle.proxy_heads.specs.Edges.{edge_of}
use Rattle.proxy_heads.specs.declared.refusal.Refusal.TheVariants.{BadHead}
use Rattle.proxy.specs.declared.proxy.Proxy.{Proxy}
use Rattle.proxy.specs.declared.proxy.ProxyConfig.{ProxyConfig}
use Rattle.proxy.specs.declared.proxy.SentRequest.{SentRequest}
use Rattle.proxy.specs.declared.proxy.Unsent.{Unsent}
use Rattle.proxy.specs.Kept.{HoldsNoRequest, Runs, is_closing}
use Rattle.proxy.specs.Rests.{IsNoted}
use Rattle.proxy.specs.Replies.{nothing_put, opened, told_to_go_on, body_on, body_whole, PutsAfter, AreBehindHead, IsOpened, IsHeadRefused, CannotBeSent, SendsOn, KeepsBody, broken_body, broken_late, refused_head, not_forwardable, no_answer, passed_on, piece_on, end_on, cut_off, own, refusal_part, passed, PutsLast, PutsHead, IsUnanswered, WasAnswered, Marks, marks_of, GoesOnBy, GoesOnWaiting, IsDropped, ReplyIsOver, KeepsServer, KeepsIdle, KeepsFor, LacksAnswer, Follows, FollowsHead, LacksEnd, AwaitsAnswer, HasCause, TurnReplies, Fails, Breaks, PassesBody, UsesAnswer, TakesAnswer, Opens}
use Rattle.proxy.proofs.AnswerUses.{over_out}
use Rattle.proxy.proofs.BodyMarks.{idle_body, gone_body, as_far, same_body, whole_far, broken_far}

-- ---- one after another

-- the rest of the request's body is left first
pub left_put : (part : Part) (a b c : State) → MayLeave a b → MayPut part b c → PutsLast [] part a c
left_put part a b c leaves last = record { mid = a; first = puts_none a; there = b; leaves = leaves; last = last }

pub then_last : (before : List Part) (part : Part) (a b c : State) → Puts before a b → PutsLast [] part b c → PutsLast before part a c
then_last before part a b c first x = record { mid = x.mid; first = then_none before a b x.mid first x.first; there = x.there; leaves = x.leaves; last = x.last }

pub same_puts : (a b : State) → b ≡ a → Puts [] a b
same_puts a b is = subst (Puts [] a) (sym is) (puts_none a)

pub last_as : (before : List Part) (part : Part) (a b c : State) → c ≡ b → PutsLast before part a b → PutsLast before part a c
last_as before part a b c is x = subst (PutsLast before part a) (sym is) x

pub noted_client : (p q : Proxy) → IsNoted p q → q.client ≡ p.client
noted_client p q (n, is) = ap (λ (p : Proxy). p.client) is

-- behind a head that was handed out
pub after_head : (Is : Head → Type 0) (part : Part) (a b c : State) → HandsHead Is a b → PutsLast [] part b c → PutsAfter (AreBehindHead Is []) part a c
after_head Is part a b c hands x =
    record { mid = x.mid; first = behind_a_head Is [] a b x.mid hands x.first; there = x.there; leaves = x.leaves; last = x.last }

-- ---- nothing waits for an answer

pub idle_cause : (p q : Proxy) → HoldsNoRequest p → HasCause nothing_put p q
idle_cause p q idle = λ sent s x is. let no : ◌≡◌ {A = Option SentRequest} None (Some sent) = sym idle.sent ∙ x.sent in absurd (cc no)

pub unsent_cause : (p q : Proxy) (u : Unsent) → HasCause nothing_put (record p { unsent = Some u }) q
unsent_cause p q u = λ sent s x is. let no : ◌≡◌ {A = Option Unsent} (Some u) None = x.unsent in absurd (cc no)

-- this is the request that was sent on
abbrev marks_or : Marks → Option SentRequest → Marks
marks_or marks None = marks
marks_or marks (Some s) = marks_of s

pub same_marks : (p : Proxy) (sent other : SentRequest) → p.sent ≡ Some sent → p.sent ≡ Some other → marks_of sent ≡ marks_of other
same_marks p sent other here there = let same : Some sent ≡ Some other = sym here ∙ there in ap (marks_or (marks_of sent)) same

pub unanswered_here : (p : Proxy) (sent : SentRequest) (o : Option servers.State) → Runs sent p → sent.is_answered ≡ false → IsUnanswered sent (record p { server = o })
unanswered_here p sent o runs is = record { runs = record { unsent = runs.unsent; sent = runs.sent }; unanswered = is }

pub answered_here : (p : Proxy) (sent : SentRequest) (o : Option servers.State) → Runs sent p → sent.is_answered ≡ true → WasAnswered sent (record p { server = o })
answered_here p sent o runs is = record { runs = record { unsent = runs.unsent; sent = runs.sent }; answered = is }

-- ---- it goes on

pub waits_cause : (p q : Proxy) (sent : SentRequest) (server : servers.State) → Runs sent p → GoesOnWaiting (marks_of sent) server q
    → HasCause nothing_put (record p { server = Some server }) q
waits_cause p q sent server runs waits = λ other s x is.
    let same : server ≡ s = cc is in
    subst (λ (s : servers.State). GoesOnWaiting (marks_of other) s q) same
    (subst (λ (m : Marks). GoesOnWaiting m server q) (same_marks p sent other runs.sent x.sent) waits)

pub goes_on_before : (marks : Marks) (handed : List Handed) (s t : servers.State) (q : Proxy) → HandsNone s t → GoesOnBy marks handed t q
    → GoesOnBy marks handed s q
goes_on_before marks handed s t q none x = record {
  sent = x.sent;
  runs = x.runs;
  marked = x.marked;
  after = x.after;
  is_there = x.is_there;
  hands = hands_then handed s t x.after none x.hands;
}

-- under these marks, by this server connection
pub goes_as : (q : Proxy) (sent : SentRequest) (s t : servers.State) (marks : Marks) (handed : List Handed) → Runs sent q → marks_of sent ≡ marks
    → q.server ≡ Some t → Hands handed s t → GoesOnBy marks handed s q
goes_as q sent s t marks handed runs marked is hands = record {
  sent = sent;
  runs = runs;
  marked = marked;
  after = t;
  is_there = is;
  hands = hands;
}

noted_goes_on : (marks : Marks) (handed : List Handed) (server : servers.State) (p q : Proxy) → IsNoted p q → GoesOnBy marks handed server p
    → GoesOnBy marks handed server q
noted_goes_on marks handed server p q (n, is) x =
    subst (GoesOnBy marks handed server) (sym is) (record {
      sent = x.sent;
      runs = record { unsent = x.runs.unsent; sent = x.runs.sent };
      marked = x.marked;
      after = x.after;
      is_there = x.is_there;
      hands = x.hands;
    })

pub noted_sent : (p q : Proxy) → IsNoted p q → q.sent ≡ p.sent
noted_sent p q (n, is) = ap (λ (p : Proxy). p.sent) is

pub noted_server : (p q : Proxy) → IsNoted p q → q.server ≡ p.server
noted_server p q (n, is) = ap (λ (p : Proxy). p.server) is

pub noted_unsent : (p q : Proxy) → IsNoted p q → q.unsent ≡ p.unsent
noted_unsent p q (n, is) = ap (λ (p : Proxy). p.unsent) is

-- a reply of the forwarder's own was put, while no request was under way and no server connection was there
pub dropped : (p q : Proxy) → p.unsent ≡ None → p.sent ≡ None → p.server ≡ None → (HoldsNoRequest p → HoldsNoRequest q) → q.server ≡ p.server → IsDropped q
dropped p q unsent sent server idle same = record {
  unsent = (idle (record { unsent = unsent; sent = sent })).unsent;
  sent = (idle (record { unsent = unsent; sent = sent })).sent;
  server = same ∙ server;
}

pub closing_marks : (is_head closes says : Bool) → closes ≡ says
    → ◌≡◌ {A = Marks} (record { is_head = is_head; is_answered = true; closes = closes }) (record { is_head = is_head; is_answered = true; closes = says })
closing_marks is_head closes says is = ap (λ (b : Bool). record { is_head = is_head; is_answered = true; closes = b }) is

pub over_as : (whole is_whole closes says : Bool) (server : servers.State) (q : Proxy) → whole ≡ is_whole → closes ≡ says → ReplyIsOver whole closes server q
    → ReplyIsOver is_whole says server q
over_as whole is_whole closes says server q wholly closing over = subst₂ (λ (w c : Bool). ReplyIsOver w c server q) wholly closing over

-- the server connection is kept, or closed
pub kept_over : (t : Bool) (s : servers.State) → t ≡ true → Some s ≡ (if t then Some s else None)
kept_over t s is = subst (λ (t : Bool). ◌≡◌ {A = Option servers.State} (Some s) (if t then Some s else None)) (sym is) refl

pub closed_over : (t : Bool) (s : servers.State) → t ≡ false → None ≡ (if t then Some s else None)
closed_over t s is = subst (λ (t : Bool). ◌≡◌ {A = Option servers.State} None (if t then Some s else None)) (sym is) refl

noted_follows : (t : Bool) (sent : SentRequest) (a : Answer) (server : servers.State) (p q : Proxy) → IsNoted p q → Follows t sent a server p → Follows t sent a server q
noted_follows true sent a server p q noted x =
    record { unsent = noted_unsent p q noted ∙ x.unsent; sent = noted_sent p q noted ∙ x.sent; server = noted_server p q noted ∙ x.server }
noted_follows false sent a server p q noted x = (noted_goes_on _ [] server p q noted x.0, noted_sent p q noted ∙ x.1)

-- of a request whose answer's head is passed on
follows_far : (is_head t : Bool) (sent : SentRequest) (a : Answer) (server : servers.State) (p q : Proxy) → p.sent ≡ Some sent → Follows t sent a server q
    → KeepsBody (passed_on is_head a) p q
follows_far is_head true sent a server p q old x = gone_body (passed_on is_head a) p q x.sent
follows_far is_head false sent a server p q old x =
    as_far p q sent (record sent { is_answered = true; closes = says_close a }) old x.1 refl refl

pub noted_head : (sent : SentRequest) (a : Answer) (server : servers.State) (p q : Proxy) → IsNoted p q → FollowsHead sent a server p → FollowsHead sent a server q
noted_head sent a server p q noted x = noted_follows (is_at_once (reply_size sent.is_head a)) sent a server p q noted x

-- what follows a head of this size
pub follows_on : (size : BodySize) (t : Bool) (sent : SentRequest) (a : Answer) (server : servers.State) (q : Proxy) → size ≡ reply_size sent.is_head a
    → is_at_once size ≡ t → Follows t sent a server q → FollowsHead sent a server q
follows_on size t sent a server q same once x =
    subst (λ (b : Bool). Follows b sent a server q) (sym once ∙ ap is_at_once same) x

pub still_replies : (p : Proxy) → TurnReplies p p
still_replies p = (
  nothing_put,
  λ sent s x is. goes_as p sent s s (marks_of sent) [] x refl is (hands_same s),
  puts_none p.client,
  same_body p p refl,
  refl,
)

-- ---- a turn

pub no_part_put : (p q : Proxy) → HasCause nothing_put p q → Puts [] p.client q.client → KeepsBody nothing_put p q → q.unsent ≡ p.unsent → TurnReplies p q
no_part_put p q cause puts far unsent = (nothing_put, cause, puts, far, unsent)

pub body_replies : (p q : Proxy) (sent : SentRequest) (server : servers.State) → Runs sent p → (sent.is_answered ≡ false → AwaitsAnswer (Some server))
    → PassesBody sent server p.client q → TurnReplies (record p { server = Some server }) q
body_replies p q sent server runs awaits (inl x) = (
  nothing_put,
  waits_cause p q sent server runs x.1,
  x.0,
  as_far (record p { server = Some server }) q sent sent runs.sent x.2 refl refl,
  x.1.runs.unsent ∙ sym runs.unsent,
)
body_replies p q sent server runs awaits (inr (inl (bytes, puts, more))) = (
  body_on bytes,
  (sent, server, record { unsent = runs.unsent; sent = runs.sent }, refl, more),
  puts,
  as_far (record p { server = Some server }) q sent sent runs.sent more.runs.sent refl refl,
  tt,
)
body_replies p q sent server runs awaits (inr (inr (inl (puts, more)))) = (
  body_whole,
  (sent, server, record { unsent = runs.unsent; sent = runs.sent }, refl, more),
  puts,
  whole_far (record p { server = Some server }) q sent runs.sent more.runs.sent,
  tt,
)
body_replies p q sent server runs awaits (inr (inr (inr x))) = by_mark sent.is_answered refl x.3
  where
    by_mark : (t : Bool) → sent.is_answered ≡ t → Breaks t sent server x.1 q → TurnReplies (record p { server = Some server }) q
    by_mark true is y = (
      broken_late x.0,
      (
        sent,
        answered_here p sent (Some server) runs is,
        λ s at. let same : server ≡ s = cc at in subst (λ (s : servers.State). GoesOnWaiting (marks_of sent) s q) same y.1,
      ),
      then_none (request_breaks x.0 ∷ []) p.client x.1 q.client x.2 y.0,
      broken_far x.0 (record p { server = Some server }) q sent runs.sent y.2,
      tt,
    )
    by_mark false is y = (
      broken_body x.0,
      (sent, unanswered_here p sent (Some server) runs is, awaits is, y.1),
      then_last (request_breaks x.0 ∷ []) (own 400) p.client x.1 q.client x.2 y.0,
      gone_body (broken_body x.0) (record p { server = Some server }) q y.1.sent,
      tt,
    )

breaks_before : (answered : Bool) (sent : SentRequest) (s t : servers.State) (client : State) (q : Proxy) → HandsNone s t → Breaks answered sent t client q
    → Breaks answered sent s client q
breaks_before true sent s t client q none x = (x.0, goes_on_before (marks_of sent) [] s t q none x.1, x.2)
breaks_before false sent s t client q none x = x

sends_before : (event : asked.ClientEvent) (s t : servers.State) (sent : SentRequest) (q : Proxy) → HandsNone s t → SendsOn event t sent q
    → SendsOn event s sent q
sends_before event s t sent q none x = record {
  runs = x.runs;
  mid = x.mid;
  quiet = hands_then [] s t x.mid none x.quiet;
  after = x.after;
  is_there = x.is_there;
  did = x.did;
}

pub body_before : (client : State) (q : Proxy) (sent : SentRequest) (s t : servers.State) → HandsNone s t → PassesBody sent t client q → PassesBody sent s client q
body_before client q sent s t none (inl x) = inl (x.0, goes_on_before (marks_of sent) [] s t q none x.1, x.2)
body_before client q sent s t none (inr (inl (bytes, puts, more))) = inr (inl (bytes, puts, sends_before (asked.chunk bytes) s t sent q none more))
body_before client q sent s t none (inr (inr (inl (puts, more)))) =
    inr (inr (inl (puts, sends_before asked.body_end s t (record sent { is_whole = true }) q none more)))
body_before client q sent s t none (inr (inr (inr x))) =
    inr (inr (inr (x.0, x.1, x.2, breaks_before sent.is_answered sent s t x.1 q none x.3)))

-- the next answer was asked for, and isn't there
pub awaits_by : (s t : servers.State) → HandsNone s t → LeavesAnswer answered.Pending s t → AwaitsAnswer (Some s)
awaits_by s t none leaves = (t, none, leaves)

pub fails_replies : (p q : Proxy) (sent : SentRequest) (o : Option servers.State) → Runs sent p → (sent.is_answered ≡ false → LacksAnswer o)
    → (sent.is_answered ≡ true → LacksEnd o) → Fails sent.is_answered p.client q → TurnReplies (record p { server = o }) q
fails_replies p q sent o runs no_answer_comes no_end_comes fails = by_mark sent.is_answered refl fails
  where
    by_mark : (t : Bool) → sent.is_answered ≡ t → Fails t p.client q → TurnReplies (record p { server = o }) q
    by_mark true is x = (cut_off, (sent, answered_here p sent o runs is, no_end_comes is, x.1), x.0, gone_body cut_off (record p { server = o }) q x.1.sent, tt)
    by_mark false is x = (no_answer, (sent, unanswered_here p sent o runs is, no_answer_comes is, x.1), x.0, gone_body no_answer (record p { server = o }) q x.1.sent, tt)

pub answer_replies : (p q : Proxy) (sent : SentRequest) (s t : servers.State) (item : ResponseItem) → Runs sent p → sent.is_answered ≡ false
    → HandsAnswer (answered.Answer item) s t → TakesAnswer sent t item p q → TurnReplies (record p { server = Some s }) q
answer_replies p q sent s t item runs unanswered (a, says, read, tells) takes = by_use (takes unanswered a read says)
  where
    waits : IsUnanswered sent (record p { server = Some s })
    waits = unanswered_here p sent (Some s) runs unanswered

    by_use : UsesAnswer sent t a p q → TurnReplies (record p { server = Some s }) q
    by_use (inl x) = (
      no_answer,
      (sent, waits, inr (asked.answer a, x.0, t, tells), x.2),
      x.1,
      gone_body no_answer (record p { server = Some s }) q x.2.sent,
      tt,
    )
    by_use (inr (inl x)) = (
      nothing_put,
      waits_cause p q sent s runs
          (goes_on_before (marks_of sent) [] s t q (tells_none (asked.answer a) s t (over_out a (is_refused a) (is_interim a.status) x.0 x.1) tells) x.3),
      x.2,
      as_far (record p { server = Some s }) q sent sent runs.sent x.4 refl refl,
      x.3.runs.unsent ∙ sym runs.unsent,
    )
    by_use (inr (inr x)) = (
      passed_on sent.is_head a,
      (sent, waits, refl, (x.0, read, t, tells, x.2)),
      x.1,
      follows_far sent.is_head (is_at_once (reply_size sent.is_head a)) sent a t (record p { server = Some s }) q runs.sent x.2,
      tt,
    )

-- the request of a head waits to be sent on, and nothing is put after it
opened_replies : (p q : Proxy) (item : HeadItem) (c : State) → HoldsNoRequest p → HandsHead (IsOpened (edge_of p.config.edge) q) p.client c → q.client ≡ c
    → TurnReplies p q
opened_replies p q item c idle hands same = (
  opened,
  idle,
  behind_a_head (IsOpened (edge_of p.config.edge) q) [] p.client c q.client hands (same_puts c q.client same),
  idle_body opened p q idle.sent,
  tt,
)

-- a head that this item says is one that is so
hands_so : (Is : Head → Type 0) (item : HeadItem) (a c : State) → ((h : Head) → SaysHead item h → Is h) → HandsHead (SaysHead item) a c → HandsHead Is a c
hands_so Is item a c so hands = (hands.0, λ trace stands. let y = hands.1 trace stands in (y.0, so y.0 y.1, y.2))

pub head_replies : (p q : Proxy) (item : HeadItem) (c : State) → HoldsNoRequest p → HandsHead (SaysHead item) p.client c
    → Opens (edge_of p.config.edge) item c q → TurnReplies p q
head_replies p q item c idle hands (inl (may, inr (old, same), u, at, is)) =
    opened_replies p q item c idle (hands_so _ item p.client c (λ h says. (may h says, u, at, is h says)) hands) same
head_replies p q item c idle hands (inl (may, inl (new, inl (none, same)), u, at, is)) =
    opened_replies p q item c idle (hands_so _ item p.client c (λ h says. (may h says, u, at, is h says)) hands) same
head_replies p q item c idle hands (inl (may, inl (new, inr told), u, at, is)) = (
  told_to_go_on,
  (idle, c, hands_so _ item p.client c (λ h says. (may h says, new h says)) hands),
  behind_a_head _ (goes_on ∷ []) p.client c q.client (hands_so _ item p.client c (λ h says. ((may h says, u, at, is h says), new h says)) hands) told,
  idle_body told_to_go_on p q idle.sent,
  tt,
)
head_replies p q item c idle hands (inr (cannot, (true, refused, puts, gone))) = (
  refused_head,
  (idle, c, hands_so _ item p.client c refused hands, gone),
  after_head (IsHeadRefused (edge_of p.config.edge)) (refusal_part BadHead) p.client c q.client (hands_so _ item p.client c refused hands) puts,
  idle_body refused_head p q idle.sent,
  tt,
)
head_replies p q item c idle hands (inr (cannot, (false, right, puts, gone))) = (
  not_forwardable,
  (idle, c, hands_so _ item p.client c (λ h says. (right h says, cannot h says)) hands, gone),
  after_head (CannotBeSent (edge_of p.config.edge)) (own 501) p.client c q.client
      (hands_so _ item p.client c (λ h says. (right h says, cannot h says)) hands) puts,
  idle_body not_forwardable p q idle.sent,
  tt,
)

-- the client's connection, which isn't to end, hasn't closed
pub closed_replies : (p : Proxy) (c : State) → HoldsNoRequest p → is_closing p ≡ false → c.settings ≡ p.client.settings
    → ((trace : List Step) → Stands p.client trace → is_closing p ≡ true) → TurnReplies p (record p { client = c })
closed_replies p c idle going settings closing = (
  nothing_put,
  idle_cause p (record p { client = c }) idle,
  (settings, λ trace stands. absurd (false≢true (sym going ∙ closing trace stands))),
  idle_body nothing_put p (record p { client = c }) idle.sent,
  refl,
)

-- ---- a server connection on which no request is under way

pub head_keeps : (p b q : Proxy) (item : HeadItem) → b.config ≡ p.config → b.server ≡ p.server → HandsHead (SaysHead item) p.client b.client → KeepsFor item b q
    → KeepsIdle p q
head_keeps p b q item config same hands (none, x) = λ idle. (none, by_case x)
  where
    by_case : (q.server ≡ b.server) ⊎ ((q.server ≡ None) × ((h : Head) → SaysHead item h → is_forwardable (edge_of b.config.edge) h ≡ false)) → KeepsServer p q
    by_case (inl x) = inl (x ∙ same)
    by_case (inr x) = inr (inr (
      x.0,
      b.client,
      (
        hands.0,
        λ trace stands.
            let y = hands.1 trace stands in (y.0, ap (λ (c : ProxyConfig). is_forwardable (edge_of c.edge) y.0) (sym config) ∙ x.1 y.0 y.1, y.2),
      ),
    ))

pub busy_keeps : (p q : Proxy) (sent : SentRequest) → p.sent ≡ Some sent → KeepsIdle p q
busy_keeps p q sent is = λ idle. let no : ◌≡◌ {A = Option SentRequest} None (Some sent) = sym idle.sent ∙ is in absurd (cc no)

pub waiting_keeps : (p q : Proxy) (u : Unsent) → p.unsent ≡ Some u → KeepsIdle p q
waiting_keeps p q u is = λ idle. let no : ◌≡◌ {A = Option Unsent} None (Some u) = sym idle.unsent ∙ is in absurd (cc no)

pub keeps_of_unsent : (p q : Proxy) (o : Option Unsent) → p.unsent ≡ o → KeepsIdle (record p { unsent = o }) q → KeepsIdle p q
keeps_of_unsent p q o is x = subst (λ (o : Option Unsent). KeepsIdle (record p { unsent = o }) q) (sym is) x

-- ---- the body of an answer

pub piece_replies : (p q : Proxy) (sent : SentRequest) (s t : servers.State) (bytes : List ℕ) → Runs sent p → sent.is_answered ≡ true
    → HandsPiece (pulled.Bytes bytes) s t → Runs sent q → q.server ≡ Some t → MayPut (continues bytes) p.client q.client
    → (IsRefused (continues bytes) p.client → ⊥) → TurnReplies (record p { server = Some s }) q
piece_replies p q sent s t bytes runs answered hands after there (inl x) may = absurd (may x.0)
piece_replies p q sent s t bytes runs answered hands after there (inr x) may = (
  piece_on bytes,
  (sent, answered_here p sent (Some s) runs answered, goes_as q sent s t (marks_of sent) (body_bytes bytes ∷ []) after refl there hands),
  x,
  as_far (record p { server = Some s }) q sent sent runs.sent after.sent refl refl,
  tt,
)

-- trailers are left out
pub trailers_reply : (p q : Proxy) (sent : SentRequest) (s t : servers.State) → Runs sent p → HandsNone s t → Runs sent q → q.server ≡ Some t
    → q.client ≡ p.client → TurnReplies (record p { server = Some s }) q
trailers_reply p q sent s t runs none after there same = (
  nothing_put,
  waits_cause p q sent s runs (goes_as q sent s t (marks_of sent) [] after refl there none),
  same_puts p.client q.client same,
  as_far (record p { server = Some s }) q sent sent runs.sent after.sent refl refl,
  after.unsent ∙ sym runs.unsent,
)

pub end_replies : (p q : Proxy) (sent : SentRequest) (s t : servers.State) → Runs sent p → sent.is_answered ≡ true → HandsPiece pulled.End s t
    → PutsLast [] ends p.client q.client → ReplyIsOver sent.is_whole sent.closes t q → TurnReplies (record p { server = Some s }) q
end_replies p q sent s t runs answered hands puts over =
    (end_on, (sent, answered_here p sent (Some s) runs answered, (t, hands, over)), puts, gone_body end_on (record p { server = Some s }) q over.sent, tt)

pub broken_lacks : (s t : servers.State) (fault : on.BodyFault) → Hands (body_fault fault ∷ []) s t ⊎ ((t ≡ s) × CannotPull s × (IsReadUp s → ⊥)) → LacksEnd (Some s)
broken_lacks s t fault (inl x) = inl (fault, t, x)
broken_lacks s t fault (inr x) = inr (x.1, x.2)

-- ---- by whether the head of its answer was passed on

pub fails_last : (t : Bool) (a : State) (q : Proxy) → t ≡ false → Fails t a q → PutsLast [] (own 502) a q.client × IsDropped q
fails_last true a q is x = absurd (false≢true (sym is))
fails_last false a q is x = x

pub cut_fails : (t : Bool) (a : State) (q : Proxy) → t ≡ true → MayPut breaks_off a q.client → IsDropped q → Fails t a q
cut_fails true a q is x over = (x, over)
cut_fails false a q is x over = absurd (false≢true is)

pub own_fails : (t : Bool) (a : State) (q : Proxy) → t ≡ false → PutsLast [] (own 502) a q.client → IsDropped q → Fails t a q
own_fails true a q is x over = absurd (false≢true (sym is))
own_fails false a q is x over = (x, over)

pub kept_breaks : (t : Bool) (sent : SentRequest) (server : servers.State) (a : State) (q : Proxy) → t ≡ true → Puts [] a q.client
    → GoesOnWaiting (marks_of sent) server q → q.sent ≡ Some (record sent { is_broken = true }) → Breaks t sent server a q
kept_breaks true sent server a q is x y broken = (x, y, broken)
kept_breaks false sent server a q is x y broken = absurd (false≢true is)

pub own_breaks : (t : Bool) (sent : SentRequest) (server : servers.State) (a : State) (q : Proxy) → t ≡ false → PutsLast [] (own 400) a q.client → IsDropped q
    → Breaks t sent server a q
own_breaks true sent server a q is x over = absurd (false≢true (sym is))
own_breaks false sent server a q is x over = (x, over)

-- its body breaks
pub body_breaks : (q : Proxy) (sent : SentRequest) (server : servers.State) (client c : State) (fault : on.BodyFault) → Puts (request_breaks fault ∷ []) client c
    → Breaks sent.is_answered sent server c q → PassesBody sent server client q
body_breaks q sent server client c fault puts breaks = inr (inr (inr (fault, c, puts, breaks)))

-- the head of this answer is passed on
pub head_passes : (is_head : Bool) (a : Answer) (head : AnswerHead) (size : BodySize) (b c : State) → head ≡ reply_head a → size ≡ reply_size is_head a
    → MayPut (begins (record { head = head; size = size })) b c → MayPut (passed is_head a) b c
head_passes is_head a head size b c same sized x =
    subst₂ (λ (h : AnswerHead) (s : BodySize). MayPut (begins (record { head = h; size = s })) b c) same sized x

-- with this size
pub head_on : (size : BodySize) (t : Bool) (is_head : Bool) (a : Answer) (b c : State) → size ≡ reply_size is_head a → is_at_once size ≡ t
    → PutsHead t (passed is_head a) b c → PutsHead (is_at_once (reply_size is_head a)) (passed is_head a) b c
head_on size t is_head a b c same once x = subst (λ (t : Bool). PutsHead t (passed is_head a) b c) (sym once ∙ ap is_at_once same) x

pub head_as : (t : Bool) (part : Part) (a b c : State) → c ≡ b → PutsHead t part a b → PutsHead t part a c
head_as t part a b c is x = subst (PutsHead t part a) (sym is) x

-- a server connection that closes lacks an answer
pub closed_lacks : (s t : servers.State) (end : ClientEnd) → HandsAnswer (answered.Closed end) s t → LacksAnswer (Some s)
closed_lacks s t end (inl x) = inl x
closed_lacks s t end (inr x) = inr (asked.closed _, tt, t, x)

-- where a part was taken out
pub replies_of_unsent : (p q : Proxy) (o : Option Unsent) → p.unsent ≡ o → TurnReplies (record p { unsent = o }) q → TurnReplies p q
replies_of_unsent p q o is x = subst (λ (o : Option Unsent). TurnReplies (record p { unsent = o }) q) (sym is) x

pub replies_of_server : (p q : Proxy) (o : Option servers.State) → p.server ≡ o → TurnReplies (record p { server = o }) q → TurnReplies p q
replies_of_server p q o is x = subst (λ (o : Option servers.State). TurnReplies (record p { server = o }) q) (sym is) x
