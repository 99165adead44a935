-- What a forwarder's moves make of what its client waits for.
use Rattle.std.proofs.Common.{◌≡◌, ◌⊎◌, inl, inr, ℕ, ◌≤◌, Bool, true, false, not, ◌&&◌, ◌||◌, List, ◌∷◌, Option, Some, None, refl, sym, ap, ap₂, ◌∙◌, subst, subst₂}
use Rattle.std.specs.Prelude.{[], IsTrue, zero, suc, is_some, is_none, if◌then◌else◌, length, map, nat_lt, ◌==◌}
use Rattle.std.specs.Option.{option_or}
use Rattle.std.proofs.lemmas.Option.{none-some, same_Some}
use Rattle.std.proofs.Math.Dec.{eqb-suc-zero}
use Rattle.std.proofs.lemmas.Bool.{false≢true, true≢false, ltb-false}
use Rattle.http_config.specs.Config.{Settings}
use Rattle.model_h1.specs.Event as on
use Rattle.model_h1.specs.Answer.{asked_of, BodySize, is_at_once}
use Rattle.model_h1.specs.Request.{Head}
use Rattle.model_h1.specs.End.{End}
use Rattle.model_h1.specs.Sums.{Step, head_of, request}
use Rattle.model_state.specs.Kept.{of_exchange}
use Rattle.model_state.specs.Local.{closing_by, allowed_by, waits_for_answer, is_answering}
use Rattle.model_state.specs.StandsFor.{StandsFor}
use Rattle.model_proxy.specs.Wants.{is_running, is_of_old}
use Rattle.proxy.specs.Leaves.{IsAwaited, LacksBytes, LacksHead}
use Rattle.http_framing.specs.declared.body.size.BodySize as ours
use Rattle.http_framing.specs.declared.body.size.BodySize.TheVariants as sizes
use Rattle.h1_encoder.specs.Meaning.{size_of}
use Rattle.h1_decoder.specs.HeadItem.{SaysHead}
use Rattle.h1_decoder.specs.declared.decoder.HeadItem.{HeadItem}
use Rattle.h1_connection.specs.EventMeaning.{setting_of}
use Rattle.h1_connection.specs.State.{State, GoesOn, Is, IsAllowed, fresh_state}
use Rattle.h1_connection.specs.declared.connection.heads.NextHead.TheVariants as next
use Rattle.model_client.specs.ClientEvent.{ClientEnd}
use Rattle.model_client.specs.ClientKept.{client_closing}
use Rattle.h1_client.specs.State as servers
use Rattle.model_proxy.specs.Wants as wanted
use Rattle.model_proxy.proofs.Wants.{asked_by, owed_old}
use Rattle.model_proxy.specs.Exchange.{Pulled, pulled_by, newest_pulled, with_head, pulled}
use Rattle.model_proxy.specs.Past.{ProxyStep}
use Rattle.model_proxy.specs.Happenings.{Request, Happenings}
use Rattle.proxy.specs.Sides.{ClientBrings, ClientBringsHead}
use Rattle.proxy.specs.Wants.{IsAnswered, IsAnswering, IsAskedBy, IsTold, WantsTheSame, Wants, WantsNext, HasHead, HasEnd, TellsToContinue}
use Rattle.proxy.proofs.Wants.{client_wants}
use Rattle.proxy.specs.declared.proxy.Proxy.{Proxy}
use Rattle.proxy.specs.declared.proxy.Unsent.{Unsent}
use Rattle.proxy.specs.declared.proxy.SentRequest.{SentRequest}
use Rattle.proxy.specs.Kept.{Forwards, Runs, HoldsNoRequest, is_closing, wants_server}
use Rattle.proxy.proofs.EventMoves.{three_parts, some_unsent}
use Rattle.model_proxy.specs.Rests.{MAX_WAITING}
use Rattle.proxy.specs.Fresh.{WaitsAlone}
use Rattle.proxy.specs.Rests.{IsNoted, may_begin, is_over, may_turn, IsFull, IsHeldUp, RestsBy, RestsWhereItMay}
use Rattle.proxy.specs.Served.{FitsAnswer, Fits, IsServed, Serves, HasTrace, Serving, GoesOnServing, HasNoReply, HasNoReplyTo, WantsNothing, IsKeptAs, IsNewestBy}
use Rattle.proxy.specs.Replies.{Marks, marks_of}
use Rattle.proxy.proofs.Work.{told_of, third_true, not_false}

-- ---- the client's connection

pub told_by : (o : on.Outcome) (a b : State) → ClientBrings o a b → HasTrace a → HasTrace b
told_by o a b x (trace, stands) =
    let y = x.brings trace stands in
    (y.0, subst (λ (s : Settings). StandsFor (setting_of s) b.kept y.0) (sym x.settings) y.1)

fits_less : (u : Option Unsent) (s : Option SentRequest) (a b : State) → WantsTheSame a b → Fits u s a → Fits u s b
fits_less (Some u) s a b x f = ((x.complete f.0.0, x.waited f.0.1), f.1, x.asked u.sent.is_head f.2, x.told f.3, f.4)
fits_less None (Some s) a b x f = (by_answer s.is_answered f.0, x.asked s.is_head f.1, x.told f.2)
  where
    by_answer : (t : Bool) → FitsAnswer t a → FitsAnswer t b
    by_answer true f = (x.answered f.0, x.answering f.1)
    by_answer false f = (x.complete f.0, x.waited f.1)
fits_less None None a b x f = (x.answered f.0, x.complete f.1)

-- a call after which nothing more is wanted
pub client_serves : (o : on.Outcome) (p : Proxy) (c : State) → ClientBrings o p.client c → Wants WantsTheSame p.client c → GoesOnServing p (record p { client = c })
client_serves o p c x wants = λ s. record {
  told = told_by o p.client c x s.told;
  served = fits_less p.unsent p.sent p.client c (wants s.told.0 s.told.1) s.served;
}

-- an event
pub event_serves : (event : on.Event) (o : on.Outcome) (p : Proxy) (c : State) → c.settings ≡ p.client.settings → GoesOn p.client event (Is o) c
    → wanted.AnswersNothing event → IsAllowed p.client event → GoesOnServing p (record p { client = c })
event_serves event o p c settings one asks allowed = λ s.
    let y = one s.told.0 s.told.1 in
    record {
      told = (record { event = event; outcome = y.0 } ∷ s.told.0, y.3);
      served = fits_less p.unsent p.sent p.client c (client_wants p.client event o c settings one asks allowed s.told.0 s.told.1) s.served;
    }

-- ---- other parts

pub with_server : (p : Proxy) (o : Option servers.State) → GoesOnServing p (record p { server = o })
with_server p o s = record { told = s.told; served = s.served }

pub with_moment : (p : Proxy) (m : Option ℕ) → GoesOnServing p (record p { moment = m })
with_moment p m s = record { told = s.told; served = s.served }

pub noted_serves : (p q : Proxy) → IsNoted p q → Serving p → Serving q
noted_serves p q (n, is) s = subst Serving (sym is) (record { told = s.told; served = s.served })

pub noted_idle : (p q : Proxy) → IsNoted p q → HoldsNoRequest p → HoldsNoRequest q
noted_idle p q (n, is) x = subst HoldsNoRequest (sym is) (record { unsent = x.unsent; sent = x.sent })

pub noted_no_reply : (p q : Proxy) → IsNoted p q → HasNoReply p → HasNoReply q
noted_no_reply p q (n, is) x = subst HasNoReply (sym is) (record { told = x.told; complete = x.complete; waited = x.waited })

pub serves_of_unsent : (p q : Proxy) (u : Option Unsent) → p.unsent ≡ u → GoesOnServing (record p { unsent = u }) q → GoesOnServing p q
serves_of_unsent p q u is x = subst (λ (o : Option Unsent). GoesOnServing (record p { unsent = o }) q) (sym is) x

pub serves_of_sent : (p q : Proxy) (s : SentRequest) → p.sent ≡ Some s → GoesOnServing (record p { sent = Some s }) q → GoesOnServing p q
serves_of_sent p q s is x = subst (λ (o : Option SentRequest). GoesOnServing (record p { sent = o }) q) (sym is) x

-- ---- the request under way

runs_fits : (p : Proxy) (s : SentRequest) → Runs s p → Serving p → FitsAnswer s.is_answered p.client × IsAskedBy s.is_head p.client × IsTold p.client
runs_fits p s runs x = subst₂ (λ (u : Option Unsent) (o : Option SentRequest). Fits u o p.client) runs.unsent runs.sent x.served

pub no_reply_of : (p : Proxy) (s : SentRequest) → Runs s p → s.is_answered ≡ false → Serving p → HasNoReply p
no_reply_of p s runs is x =
    let fits = subst (λ (t : Bool). FitsAnswer t p.client) is (runs_fits p s runs x).0 in
    record { told = x.told; complete = fits.0; waited = fits.1 }

pub no_reply_to : (p : Proxy) (s : SentRequest) → Runs s p → s.is_answered ≡ false → Serving p → HasNoReplyTo s.is_head p
no_reply_to p s runs is x = (no_reply_of p s runs is x, (runs_fits p s runs x).1)

pub told_to_continue : (p : Proxy) (s : SentRequest) → Runs s p → Serving p → IsTold p.client
told_to_continue p s runs x = (runs_fits p s runs x).2

pub answered_of : (p : Proxy) (s : SentRequest) → Runs s p → s.is_answered ≡ true → Serving p → IsAnswered p.client
answered_of p s runs is x = (subst (λ (t : Bool). FitsAnswer t p.client) is (runs_fits p s runs x).0).0

-- it goes on under another mark
pub resent_serves : (p : Proxy) (s t : SentRequest) → Runs s p → marks_of t ≡ marks_of s → GoesOnServing p (record p { sent = Some t })
resent_serves p s t runs same = λ x. record {
  told = x.told;
  served = subst (λ (u : Option Unsent). Fits u (Some t) p.client) (sym runs.unsent)
      (subst (λ (m : Marks). FitsAnswer m.is_answered p.client × IsAskedBy m.is_head p.client × IsTold p.client) (sym same) (runs_fits p s runs x));
}

-- the head of its answer was passed on
pub passed_serves : (is_head closes : Bool) (p : Proxy) (t : SentRequest) → p.unsent ≡ None
    → marks_of t ≡ record { is_head = is_head; is_answered = true; closes = closes } → HasTrace p.client → IsAnswered p.client → IsAnswering p.client
    → IsAskedBy is_head p.client → IsTold p.client → Serving (record p { sent = Some t })
passed_serves is_head closes p t none is told answered answering asked on = record {
  told = told;
  served = subst (λ (u : Option Unsent). Fits u (Some t) p.client) (sym none)
      (subst (λ (m : Marks). FitsAnswer m.is_answered p.client × IsAskedBy m.is_head p.client × IsTold p.client) (sym is) ((answered, answering), asked, on));
}

-- its client is told to go on, and it waits to be sent on
pub waits_serves : (is_head : Bool) (p : Proxy) (c : State) (u : Unsent) → p.sent ≡ None → u.sent.is_answered ≡ false → u.sent.is_head ≡ is_head
    → ClientBrings on.done p.client c → Wants WantsTheSame p.client c → Wants TellsToContinue p.client c → HasNoReplyTo is_head p
    → Serving (record p { client = c; unsent = Some u })
waits_serves is_head p c u none is method brings wants tells x =
    let same = wants x.0.told.0 x.0.told.1 in
    record {
      told = told_by on.done p.client c brings x.0.told;
      served = (
        (same.complete x.0.complete, same.waited x.0.waited),
        is,
        subst (λ (b : Bool). IsAskedBy b c) (sym method) (same.asked is_head x.1),
        tells x.0.told.0 x.0.told.1 x.0.waited,
        none,
      );
    }

-- the same of a client that isn't told, since it is one of HTTP/1.0
pub old_serves : (is_head : Bool) (p : Proxy) (u : Unsent) → p.sent ≡ None → u.sent.is_answered ≡ false → u.sent.is_head ≡ is_head → HasNoReplyTo is_head p → IsTold p.client
    → Serving (record p { unsent = Some u })
old_serves is_head p u none is method x on = record {
  told = x.0.told;
  served = ((x.0.complete, x.0.waited), is, subst (λ (b : Bool). IsAskedBy b p.client) (sym method) x.1, on, none);
}

-- it was sent on
pub sent_serves : (p : Proxy) (u : Unsent) (o : Option servers.State)
    → GoesOnServing (record p { unsent = Some u }) (record p { unsent = None; sent = Some u.sent; server = o })
sent_serves p u o = λ x. record { told = x.told; served = (subst (λ (b : Bool). FitsAnswer b p.client) (sym x.served.1) x.served.0, x.served.2, x.served.3) }

pub waiting_no_reply : (p : Proxy) (u : Unsent) → p.unsent ≡ Some u → Serving p → HasNoReply p
waiting_no_reply p u is x =
    let fits = (subst (λ (o : Option Unsent). Fits o p.sent p.client) is x.served).0 in
    record { told = x.told; complete = fits.0; waited = fits.1 }

-- none is
pub idle_serves : (p : Proxy) → HoldsNoRequest p → WantsNothing p → Serving p
idle_serves p idle x = record {
  told = x.told;
  served = subst₂ (λ (u : Option Unsent) (s : Option SentRequest). Fits u s p.client) (sym idle.unsent) (sym idle.sent) (x.answered, x.complete);
}

-- ---- a head, and an answer

pub head_opens : (item : HeadItem) (p : Proxy) (c : State) → ClientBringsHead item p.client c → Wants (WantsNext (next.Head item)) p.client c
    → Serving p → (h : Head) × SaysHead item h × HasNoReplyTo (asked_of h).is_head (record p { client = c }) × ((h.minor == 0) ≡ true → IsTold c)
head_opens item p c x wants s =
    let y = x.brings s.told.0 s.told.1 in
    let z = wants s.told.0 s.told.1 in
    let told : HasTrace c = (y.2, subst (λ (t : Settings). StandsFor (setting_of t) c.kept y.2) (sym x.settings) y.3) in
    (y.0, y.1, (record { told = told; complete = z.0; waited = z.1 }, z.2 y.0 y.1), z.3 y.0 y.1)

-- the size of an answer without a byte
pub at_once_of : (size : ours.BodySize) → ((size ≡ sizes.None) ⊎ (size ≡ sizes.Sized 0)) → is_at_once (size_of size) ≡ true
at_once_of size (inl is) = ap (λ (s : ours.BodySize). is_at_once (size_of s)) is
at_once_of size (inr is) = ap (λ (s : ours.BodySize). is_at_once (size_of s)) is

-- and of one with a body that isn't empty
pub not_at_once : (size : ours.BodySize) → ((size ≡ sizes.None) ⊎ (size ≡ sizes.Sized 0) → ⊥) → is_at_once (size_of size) ≡ false
not_at_once sizes.None some = absurd (some (inl refl))
not_at_once (sizes.Sized zero) some = absurd (some (inr refl))
not_at_once (sizes.Sized (suc n)) some = eqb-suc-zero n
not_at_once sizes.Stream some = refl

-- the body of the request is left, and the head of an answer is put
pub head_put : (size : BodySize) (p : Proxy) (b c : State) → ClientBrings on.done p.client b → Wants WantsTheSame p.client b → ClientBrings on.done b c
    → Wants (HasHead size) b c → is_at_once size ≡ true → HasNoReply p → WantsNothing (record p { client = c })
head_put size p b c first leaves second head once x =
    let told = told_by on.done p.client b first x.told in
    let y = head told.0 told.1 in
    record {
      told = told_by on.done b c second told;
      answered = y.answered;
      complete = y.complete once ((leaves x.told.0 x.told.1).complete x.complete);
    }

-- the end of an answer
pub end_put : (p : Proxy) (c : State) → ClientBrings on.done p.client c → Wants HasEnd p.client c → HasTrace p.client → IsAnswered p.client
    → WantsNothing (record p { client = c })
end_put p c x ends told answered =
    let y = ends told.0 told.1 in
    record { told = told_by on.done p.client c x told; answered = y.answered answered; complete = y.complete }

-- ---- events

pub serves_by : (p q r : Proxy) → GoesOnServing p q → GoesOnServing q r → Serves p r
serves_by p q r first second = λ history all f served.
    let told = told_of p history all f in
    (second (first (record { told = (told.trace, told.stands); served = served }))).served

-- a server connection is refused for the request that waits
pub refused_no_reply : (p : Proxy) → IsTrue (wants_server p) → Serving p → HasNoReply p
refused_no_reply p wants x =
    let u = some_unsent p.unsent (three_parts (is_some p.unsent) (is_none p.server) (not (is_closing p)) wants).0 in
    waiting_no_reply p u.0 u.1 x

pub fresh_serves : (p : Proxy) (c : State) → c ≡ fresh_state p.config.connections → IsServed (record p { client = c; server = None; unsent = None; sent = None })
fresh_serves p c is =
    subst (λ (c : State). IsServed (record p { client = c; server = None; unsent = None; sent = None })) (sym is) (λ runs. refl, λ runs. refl)

-- ---- one at a time

pub waits_alone : (p : Proxy) → IsServed p → WaitsAlone p
waits_alone p served = by_waiting p.unsent p.sent served
  where
    by_waiting : (u : Option Unsent) (s : Option SentRequest) → Fits u s p.client → is_some u ≡ true → s ≡ None
    by_waiting (Some u) s fits waits = fits.4
    by_waiting None s fits waits = absurd (false≢true waits)

-- ---- nobody waits in vain

abbrev Awaited : Option Unsent → Option servers.State → Bool → Type 0
Awaited u o closes = ((is_some u && is_none o && not closes) ≡ true) ⊎ ((server : servers.State) × (o ≡ Some server) × IsAwaited server)

module _ (client : State) (runs : is_running (setting_of client.settings) client.kept ≡ true) where
  -- a request that waits for its answer
  answer_awaited : (u : Option Unsent) (s : Option SentRequest) (o : Option servers.State) (closes : Bool) → closes ≡ false → Fits u s client → RestsBy u s client o
      → waits_for_answer client.kept ≡ true → Awaited u o closes
  answer_awaited (Some u) s o closes none fits rests waits =
      inl (ap₂ (λ (o : Option servers.State) (c : Bool). is_some (Some u) && is_none o && not c) rests none)
  answer_awaited None (Some s) (Some server) closes none fits rests waits = by_answer s.is_answered refl fits.0
    where
      by_answer : (t : Bool) → s.is_answered ≡ t → FitsAnswer t client → Awaited None (Some server) closes
      by_answer true is answered = absurd (false≢true (sym (answered.0 runs) ∙ waits))
      by_answer false is complete = inr (server, refl, rests.answer is)
  answer_awaited None (Some s) None closes none fits rests waits = absurd rests
  answer_awaited None None o closes none fits rests waits = absurd (false≢true (sym (fits.0 runs) ∙ waits))

  -- an answer that isn't complete
  body_awaited : (u : Option Unsent) (s : Option SentRequest) (o : Option servers.State) → Fits u s client → RestsBy u s client o
      → is_answering client.kept ≡ true
      → (server : servers.State) × (o ≡ Some server) × (((bytes : List ℕ) → IsAllowed client (on.chunk bytes)) → LacksBytes server)
  body_awaited (Some u) s o fits rests going = absurd (false≢true (sym (fits.0.0 runs) ∙ going))
  body_awaited None (Some s) (Some server) fits rests going = by_answer s.is_answered refl fits.0
    where
      by_answer : (t : Bool) → s.is_answered ≡ t → FitsAnswer t client
          → (r : servers.State) × (Some server ≡ Some r) × (((bytes : List ℕ) → IsAllowed client (on.chunk bytes)) → LacksBytes r)
      by_answer true is answered = (server, refl, rests.piece is)
      by_answer false is complete = absurd (false≢true (sym (complete.0 runs) ∙ going))
  body_awaited None (Some s) None fits rests going = absurd rests
  body_awaited None None o fits rests going = absurd (false≢true (sym (fits.1 runs) ∙ going))

  -- where neither is, nothing is kept under way
  next_left : (u : Option Unsent) (s : Option SentRequest) (o : Option servers.State) → Fits u s client → RestsBy u s client o
      → waits_for_answer client.kept ≡ false → is_answering client.kept ≡ false → LacksHead client
  next_left (Some u) s o fits rests waits going allowed = absurd (false≢true (sym waits ∙ fits.0.1 runs))
  next_left None (Some s) o fits rests waits going allowed = absurd (by_answer s.is_answered fits.0)
    where
      by_answer : (t : Bool) → FitsAnswer t client → ⊥
      by_answer true fits = false≢true (sym going ∙ fits.1 runs)
      by_answer false fits = false≢true (sym waits ∙ fits.1 runs)
  next_left None None o fits rests waits going allowed = rests.head allowed

not_closing : (p : Proxy) → may_turn p ≡ true → is_closing p ≡ false
not_closing p may = third_true (nat_lt (length p.client.kept.buffered) MAX_WAITING) (may_begin p.sent p.server || is_over p.server) (is_closing p) may

running_of : (p : Proxy) → may_turn p ≡ true → p.client.kept.is_over ≡ false → is_running (setting_of p.client.settings) p.client.kept ≡ true
running_of p may over =
    ap₂ (λ (o c : Bool). not o && c) over (none_of (closing_by (setting_of p.client.settings) p.client.kept) (not_closing p may))
  where
    none_of : (e : Option End) → is_some e ≡ false → is_none e ≡ true
    none_of None is = refl
    none_of (Some end) is = absurd (true≢false is)

-- ---- where no turns are made

held_up : (waits : ℕ) (sent : Option SentRequest) (o : Option servers.State) (closes : Bool) → (nat_lt waits MAX_WAITING && (may_begin sent o || is_over o) && not closes) ≡ false
    → (MAX_WAITING ≤ waits) ⊎ (IsFull sent o ⊎ (closes ≡ true))
held_up waits sent o closes none = by_room (nat_lt waits MAX_WAITING) refl
  where
    by_begin : (b : Bool) → (true && b && not closes) ≡ false → b ≡ true → closes ≡ true
    by_begin true still is = not_false closes still
    by_begin false still is = absurd (false≢true is)

    by_server : (s : Option SentRequest) (o : Option servers.State) → (true && (may_begin s o || is_over o) && not closes) ≡ false → IsFull s o ⊎ (closes ≡ true)
    by_server (Some s) o still = inr (by_begin true still refl)
    by_server None None still = inr (by_begin true still refl)
    by_server None (Some s) still = by_full (nat_lt (length s.kept.buffered) MAX_WAITING) (client_closing s.kept) refl refl
      where
        by_full : (b : Bool) (e : Option ClientEnd) → nat_lt (length s.kept.buffered) MAX_WAITING ≡ b → client_closing s.kept ≡ e → IsFull None (Some s) ⊎ (closes ≡ true)
        by_full false None full over = inl (ltb-false (length s.kept.buffered) MAX_WAITING full, over)
        by_full true e full over = inr (by_begin _ still (ap (λ (b : Bool). b || is_some (client_closing s.kept)) full))
        by_full false (Some e) full over = inr (by_begin _ still (ap₂ (λ (b : Bool) (e : Option ClientEnd). b || is_some e) full over))

    by_room : (b : Bool) → nat_lt waits MAX_WAITING ≡ b → (MAX_WAITING ≤ waits) ⊎ (IsFull sent o ⊎ (closes ≡ true))
    by_room false is = inl (ltb-false waits MAX_WAITING is)
    by_room true is = inr (by_server sent o (subst (λ (b : Bool). (b && (may_begin sent o || is_over o) && not closes) ≡ false) is none))

pub none_turns : (p : Proxy) → may_turn p ≡ false → IsHeldUp p
none_turns p none = held_up (length p.client.kept.buffered) p.sent p.server (is_closing p) none

pub no_answer_in_vain : (p : Proxy) → IsServed p → RestsWhereItMay p → may_turn p ≡ true → p.client.kept.is_over ≡ false
    → waits_for_answer p.client.kept ≡ true
    → (wants_server p ≡ true) ⊎ ((s : servers.State) × (p.server ≡ Some s) × IsAwaited s)
no_answer_in_vain p served rests may over waits =
    answer_awaited p.client (running_of p may over) p.unsent p.sent p.server (is_closing p) (not_closing p may) served (rests may) waits

pub no_body_in_vain : (p : Proxy) → IsServed p → RestsWhereItMay p → may_turn p ≡ true → p.client.kept.is_over ≡ false
    → is_answering p.client.kept ≡ true
    → (s : servers.State) × (p.server ≡ Some s) × (((bytes : List ℕ) → IsAllowed p.client (on.chunk bytes)) → LacksBytes s)
no_body_in_vain p served rests may over going =
    body_awaited p.client (running_of p may over) p.unsent p.sent p.server served (rests may) going

pub no_head_in_vain : (p : Proxy) → IsServed p → RestsWhereItMay p → may_turn p ≡ true → p.client.kept.is_over ≡ false
    → waits_for_answer p.client.kept ≡ false → is_answering p.client.kept ≡ false → LacksHead p.client
no_head_in_vain p served rests may over waits going allowed =
    next_left p.client (running_of p may over) p.unsent p.sent p.server served (rests may) waits going allowed

-- ---- nobody waits to be told to go on

-- a client that goes on, and to which 100 may be sent, is one of HTTP/1.0
old_by : (client : State) (u : Option Unsent) (s : Option SentRequest) → Fits u s client → is_running (setting_of client.settings) client.kept ≡ true
    → waits_for_answer client.kept ≡ true → of_exchange (λ x. x.expects && not x.had_continue) client.kept ≡ true → is_of_old client.kept ≡ true
old_by client (Some u) s fits runs waits owed = owed_old (setting_of client.settings) client.kept client.kept.exchange (fits.3 runs) owed
old_by client None (Some s) fits runs waits owed = owed_old (setting_of client.settings) client.kept client.kept.exchange (fits.2 runs) owed
old_by client None None fits runs waits owed = absurd (false≢true (sym (fits.0 runs) ∙ waits))

both_true : (a b : Bool) → (a && b) ≡ true → (a ≡ true) × (b ≡ true)
both_true true b is = (refl, is)
both_true false b is = absurd (false≢true is)

pub old_to_tell : (p : Proxy) → IsServed p → allowed_by (setting_of p.client.settings) p.client.kept on.send_continue ≡ true → is_of_old p.client.kept ≡ true
unfolding allowed_by
old_to_tell p served may =
    by_parts p.client.kept.is_over (closing_by (setting_of p.client.settings) p.client.kept) (waits_for_answer p.client.kept)
    (of_exchange (λ x. x.expects && not x.had_continue) p.client.kept) (old_by p.client p.unsent p.sent served) may
  where
    by_parts : (over : Bool) (closing : Option End) (waits owed : Bool)
        → ((not over && is_none closing) ≡ true → waits ≡ true → owed ≡ true → is_of_old p.client.kept ≡ true)
        → (not over && (if is_some closing then false else (waits && owed))) ≡ true → is_of_old p.client.kept ≡ true
    by_parts true closing waits owed old may = absurd (false≢true may)
    by_parts false (Some end) waits owed old may = absurd (false≢true may)
    by_parts false None waits owed old may = let two = both_true waits owed may in old refl two.0 two.1

-- ---- the newest request

abbrev NewestBy : Bool → List Pulled → Type 0
NewestBy is_head [] = ⊥
NewestBy is_head (p ∷ ps) = (asked_of p.head).is_head ≡ is_head

pulled_head : (o : on.Outcome) (p : Pulled) → (pulled_by o p).head ≡ p.head
pulled_head (on.bytes bytes) p = refl
pulled_head on.body_ended p = refl
pulled_head (on.broken_by fault) p = refl
pulled_head o p = refl

newest_stays : (o : on.Outcome) (is_head : Bool) (ps : List Pulled) → NewestBy is_head ps → NewestBy is_head (newest_pulled o ps)
newest_stays o is_head [] none = absurd none
newest_stays o is_head (p ∷ ps) is = ap (λ (h : Head). (asked_of h).is_head) (pulled_head o p) ∙ is

newest_by : (is_head : Bool) (trace : List Step) (h : Head) → request trace ≡ Some h → (asked_of h).is_head ≡ is_head → NewestBy is_head (pulled trace)
unfolding request pulled
newest_by is_head [] h last is = absurd (none-some h last)
newest_by is_head (s ∷ before) h last is = by_head (head_of s.outcome) last (λ last. newest_by is_head before h last is)
  where
    by_head : (o : Option Head) → option_or o (request before) ≡ Some h → (request before ≡ Some h → NewestBy is_head (pulled before))
        → NewestBy is_head (with_head o (newest_pulled s.outcome (pulled before)))
    by_head None last there = newest_stays s.outcome is_head (pulled before) (there last)
    by_head (Some g) last there = ap (λ (h : Head). (asked_of h).is_head) (same_Some g h last) ∙ is

newest_of : (is_head : Bool) (rs : List Request) → NewestBy is_head (map (λ r. r.pulled) rs) → IsNewestBy is_head rs
newest_of is_head [] x = x
newest_of is_head (r ∷ rs) x = x

kept_asks : (client : State) (this : SentRequest) (u : Option Unsent) (s : Option SentRequest) → Fits u s client → IsKeptAs this u s → IsAskedBy this.is_head client
kept_asks client this (Some u) s fits is = subst (λ (t : SentRequest). IsAskedBy t.is_head client) is fits.2
kept_asks client this None (Some s) fits is = subst (λ (t : SentRequest). IsAskedBy t.is_head client) (same_Some s this is) fits.1
kept_asks client this None None fits is = absurd (none-some this is)

-- what is kept of the request under way is the method of the newest
pub kept_by_newest : (p : Proxy) (history : List ProxyStep) (all : Happenings) (this : SentRequest) → Forwards p history all → IsServed p → IsKeptAs this p.unsent p.sent
    → IsNewestBy this.is_head all.requests
kept_by_newest p history all this f served is =
    let x = asked_by (setting_of p.config.connections) this.is_head p.client.kept all.client f.carries.stands (kept_asks p.client this p.unsent p.sent served is) in
    newest_of this.is_head all.requests
    (subst (NewestBy this.is_head) (sym f.carries.forwarded.sent.requests) (newest_by this.is_head all.client x.0 x.1 x.2))
