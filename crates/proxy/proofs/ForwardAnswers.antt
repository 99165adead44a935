-- A forwarder that holds so far does so behind each turn on the answer to the request that was sent on: it is passed on, or no answer comes.
use Rattle.std.proofs.Common.{◌≡◌, ◌⊎◌, inl, inr, ℕ, Bool, true, false, not, ◌&&◌, List, [], ◌∷◌, Option, Some, None, refl, sym, ap, ◌∙◌, subst, subst₂}
use Rattle.std.specs.Prelude.{is_some, is_none, if◌then◌else◌}
use Rattle.std.proofs.lemmas.Bool.{false≢true, cond-true, cond-false}
use Rattle.http_config.specs.Config.{Settings}
use Rattle.model_h1.specs.Answer.{size_of, is_at_once}
use Rattle.model_h1.specs.Event as on
use Rattle.model_state.specs.Kept.{Kept}
use Rattle.h1_connection.specs.State.{State}
use Rattle.model_client.specs.AnswerParse.{is_interim}
use Rattle.model_client.specs.AnswerReading.{Answer}
use Rattle.model_client.specs.ClientEvent as asked
use Rattle.model_client.specs.ClientEvent.{ClientEnd, input_ended}
use Rattle.model_client.specs.ClientKept.{ClientKept, is_free, is_waited_for, has_bytes, client_closing}
use Rattle.model_client.specs.ClientTrace.{Happened, IsClientTrace}
use Rattle.h1_client.specs.ClientMeaning as asking
use Rattle.h1_client.specs.State as servers
use Rattle.model_proxy.specs.Answers.{says_close, reply_size, own_head}
use Rattle.model_proxy.specs.Past.{ProxyStep}
use Rattle.model_proxy.specs.Carried.{nothing, is_sent, IsServer, ForwarderKept}
use Rattle.model_proxy.specs.Parts.{is_refused, body_bytes, body_end, body_fault, continues, ends, breaks_off, request_breaks}
use Rattle.model_proxy.proofs.OnLinks.{Stage, before_head, over, answering}
use Rattle.model_proxy.proofs.BadAnswers.{may_tell, reads_up, pulled_up}
use Rattle.model_proxy.proofs.Served.{IsServed as ServesSoFar, ServedAs, ClientPuts, silent_as, left_as, served_silent, served_left, served_quiet}
use Rattle.model_proxy.proofs.ServedTurns.{served_broken, served_dropped, served_over, served_answered, served_ended}
use Rattle.model_proxy.proofs.ServedReplies.{IsHead, AboutNewest, about_as, served_head, served_head_as, served_bytes, served_end_put, served_end_up}
use Rattle.model_proxy.proofs.ServedFailures.{Owes, own_put, IsBadOutcome, owes_bad, owes_broken, has_failed, cut_put, served_at}
use Rattle.proxy.specs.declared.proxy.Proxy.{Proxy}
use Rattle.proxy.specs.declared.proxy.ProxyConfig.{ProxyConfig}
use Rattle.proxy.specs.declared.proxy.Unsent.{Unsent}
use Rattle.proxy.specs.declared.proxy.SentRequest.{SentRequest}
use Rattle.proxy.specs.Puts.{MayPut, MayLeave, Hands, CannotTell, is_sound, IsReadUp}
use Rattle.proxy.specs.Kept.{Runs}
use Rattle.proxy.specs.Wants.{IsAskedBy}
use Rattle.proxy.specs.Served.{Fits}
use Rattle.proxy.specs.Replies.{own, passed, PutsLast, PutsHead, broken_body, no_answer, passed_on, piece_on, end_on, cut_off, marks_of, may_keep, ReplyIsOver, IsDropped, IsBad, LacksAnswer, Follows, HasAnswer, HasBytes, HasEnd, LacksEnd, AwaitsAnswer, HasCause, HasPut, KeepsBody}
use Rattle.proxy.proofs.BodyMarks.{same_sent}
use Rattle.proxy.proofs.Times.{trace_of}
use Rattle.proxy.proofs.ForwardState.{edge, theirs, ours, kept_in, FitsMark, Now, Holds, at_stage, at_client, idle_now, goes_on_now, puts_to, may_to, leaves_to, leaves_settings, hands_to, tells_to}
use Rattle.proxy.proofs.ForwardSent.{AtSent, at_sent}

-- ---- what a server's connection can be asked

-- no fault brings its end
sound_by : (free closes stray ended : Bool) → is_sound (if not free then None else (if closes then Some asked.asked else (if stray then Some asked.unasked else (if ended then Some input_ended else None)))) ≡ true
sound_by false closes stray ended = refl
sound_by true true stray ended = refl
sound_by true false true ended = refl
sound_by true false false true = refl
sound_by true false false false = refl

sound_closing : (k : ClientKept) → k.failed ≡ None → is_sound (client_closing k) ≡ true
sound_closing k fine =
    ap (λ (f : Option ClientEnd). is_sound (if is_some f then f
    else (if not (is_free k) then None
    else (if k.closes then Some asked.asked
    else (if not (is_waited_for k.waiting) && has_bytes k.unread then Some asked.unasked
    else (if k.has_ended && not k.is_coming then Some input_ended else None)))))) fine
    ∙ sound_by (is_free k) k.closes (not (is_waited_for k.waiting) && has_bytes k.unread) (k.has_ended && not k.is_coming)

-- an answer that is passed on is neither refused nor interim
good_one : (refused interim : Bool) → (not refused && not interim) ≡ true → (refused ≡ false) × (interim ≡ false)
good_one false false is = (refl, refl)
good_one false true is = absurd (false≢true is)
good_one true interim is = absurd (false≢true is)

-- both messages are whole, and the answer doesn't say close
keeps_by : (whole closes goes : Bool) → (whole && not closes && goes) ≡ true → (whole ≡ true) × (closes ≡ false)
keeps_by true false goes is = (refl, refl)
keeps_by true true goes is = absurd (false≢true is)
keeps_by false closes goes is = absurd (false≢true is)

-- ---- turn by turn

module _ (s : ProxyStep) (history : List ProxyStep) (p q : Proxy) (h : Holds (s ∷ history) p) where
  abbrev c : ProxyConfig
  c = p.config

  abbrev So : ForwarderKept → Stage → Type 0
  So k stage = ServesSoFar (edge c) (theirs c) (ours c) k stage (s ∷ history)

  -- this server connection, and this request
  abbrev sending : Kept → ClientKept → Bool → Bool → ForwarderKept
  sending client server whole broken = record { client = client; server = Some server; under_way = is_sent whole broken }

  -- none
  abbrev done : Kept → ForwarderKept
  done client = record { client = client; server = None; under_way = nothing }

  client_at : p.client.settings ≡ c.connections
  client_at = h.forwards.client

  -- a server connection that is there
  same_server : (a b : servers.State) → p.server ≡ Some a → p.server ≡ Some b → b ≡ a
  same_server a b here there =
      let both : Some b ≡ Some a = sym there ∙ here in
      let same : b ≡ a = cc in
      same

  -- a request whose answer's head wasn't passed on
  unanswered : (sent : SentRequest) (at : AtSent (s ∷ history) p sent h.now.stage) → sent.is_answered ≡ false
      → So (sending p.client.kept at.server.kept sent.is_whole sent.is_broken) before_head
  unanswered sent at none =
      at_stage c (s ∷ history) (sending p.client.kept at.server.kept sent.is_whole sent.is_broken) h.now.stage before_head
      (subst (λ (t : Bool). FitsMark t sent.closes h.now.stage) none at.fits) at.served

  -- and one of which it was
  record Answered (sent : SentRequest) (at : AtSent (s ∷ history) p sent h.now.stage) : Type 0 where
    answer : Answer
    stage_is : h.now.stage ≡ answering answer
    says : says_close answer ≡ sent.closes
    so_far : So (sending p.client.kept at.server.kept sent.is_whole sent.is_broken) (answering answer)

  answered : (sent : SentRequest) (at : AtSent (s ∷ history) p sent h.now.stage) → sent.is_answered ≡ true → Answered sent at
  answered sent at is =
      let x : FitsMark true sent.closes h.now.stage = subst (λ (t : Bool). FitsMark t sent.closes h.now.stage) is at.fits in
      record {
        answer = x.0;
        stage_is = x.1;
        says = x.2;
        so_far = at_stage c (s ∷ history) (sending p.client.kept at.server.kept sent.is_whole sent.is_broken) h.now.stage (answering x.0) x.1 at.served;
      }

  -- ---- it is over

  gone_now : IsDropped q → So (done q.client.kept) over → Now c (s ∷ history) q
  gone_now gone x = idle_now c (s ∷ history) q gone.unsent gone.sent None (ap kept_in gone.server) x

  over_now : (sent : SentRequest) (a : Answer) (closes : Bool) (last : servers.State) → says_close a ≡ closes → ReplyIsOver sent.is_whole closes last q
      → So (sending q.client.kept last.kept sent.is_whole sent.is_broken) (answering a) → Now c (s ∷ history) q
  over_now sent a closes last says gone x = by_keep (may_keep sent.is_whole closes last) refl
    where
      by_keep : (t : Bool) → may_keep sent.is_whole closes last ≡ t → Now c (s ∷ history) q
      by_keep true is =
          let y = keeps_by sent.is_whole closes (is_none (client_closing last.kept)) is in
          let there : q.server ≡ Some last = gone.server ∙ cond-true {A = Option servers.State} (may_keep sent.is_whole closes last) (Some last) None is in
          idle_now c (s ∷ history) q gone.unsent gone.sent (Some last.kept) (ap kept_in there)
          (served_over (edge c) (theirs c) (ours c) refl s history sent.is_broken q.client.kept last.kept a (says ∙ y.1)
          (subst (λ (w : Bool). So (sending q.client.kept last.kept w sent.is_broken) (answering a)) y.0 x))
      by_keep false is =
          let none : q.server ≡ None = gone.server ∙ cond-false {A = Option servers.State} (may_keep sent.is_whole closes last) (Some last) None is in
          idle_now c (s ∷ history) q gone.unsent gone.sent None (ap kept_in none)
          (served_dropped (edge c) (theirs c) (ours c) refl s history (answering a) sent.is_whole sent.is_broken q.client.kept last.kept over x)

  -- ---- no answer comes

  bad_to : (o : asked.ClientOutcome) → IsBad o → IsBadOutcome (edge c) (theirs c) (ours c) refl s history o
  bad_to (asked.answer a) bad = bad
  bad_to (asked.fault f) bad = bad
  bad_to (asked.closed end) bad = bad
  bad_to (asked.took m) bad = absurd bad
  bad_to (asked.bytes bytes) bad = absurd bad
  bad_to (asked.trailers lines) bad = absurd bad
  bad_to asked.body_ended bad = absurd bad
  bad_to asked.pending bad = absurd bad
  bad_to (asked.broken_by f) bad = absurd bad
  bad_to (asked.gave bytes) bad = absurd bad
  bad_to asked.done bad = absurd bad

  -- the reply that is owed is put, after the rest of the request's body was left where it may be
  own_now : (status : ℕ) (mid there : State) → mid.settings ≡ c.connections
      → ServedAs (edge c) (theirs c) (ours c) (Owes (edge c) (theirs c) (ours c) refl s history (own_head status) (size_of 0)) (done mid.kept) over (s ∷ history)
      → (leaves : MayLeave mid there) → MayPut (own status) there q.client → IsDropped q → Now c (s ∷ history) q
  own_now status mid there at owed leaves last gone =
      gone_now gone
      (own_put (edge c) (theirs c) (ours c) refl s history over (own_head status) (size_of 0) there.kept q.client.kept
      (may_to c.connections (own status) there q.client (leaves_settings mid there leaves ∙ at) last)
      (left_as (edge c) (theirs c) (ours c) refl s history over (Owes (edge c) (theirs c) (ours c) refl s history (own_head status) (size_of 0)) (done mid.kept) there.kept
      (leaves_to c.connections mid there at leaves) owed))

  -- the next answer may be asked for
  may_ask : (sent : SentRequest) (at : AtSent (s ∷ history) p sent h.now.stage) → sent.is_answered ≡ false → CannotTell at.server → ⊥
  may_ask sent at none cannot =
      let x = served_at (edge c) (theirs c) (ours c) refl s history before_head sent.is_whole sent.is_broken p.client.kept at.server.kept (unanswered sent at none) in
      false≢true (sym cannot ∙ may_tell (asking.setting_of at.server.settings) at.server.kept x.4.runs x.4.free)

  pub sent_unanswered : HasCause no_answer p q → HasPut no_answer p q → Now c (s ∷ history) q
  sent_unanswered (sent, un, lacks, gone) puts = by_lack (subst LacksAnswer at.there lacks)
    where
      at : AtSent (s ∷ history) p sent h.now.stage
      at = at_sent (s ∷ history) p sent h un.runs

      by_lack : LacksAnswer (Some at.server) → Now c (s ∷ history) q
      by_lack (inl cannot) = absurd (may_ask sent at un.unanswered cannot)
      by_lack (inr (o, bad, t, tells)) =
          own_now 502 puts.mid puts.there (puts.first.0 ∙ client_at)
          (silent_as (edge c) (theirs c) (ours c) refl s history over (Owes (edge c) (theirs c) (ours c) refl s history (own_head 502) (size_of 0)) (done p.client.kept) puts.mid.kept
          (puts_to c.connections (λ ps. ps ≡ []) p.client puts.mid client_at puts.first)
          (owes_bad (edge c) (theirs c) (ours c) refl s history over sent.is_whole sent.is_broken p.client.kept at.server.kept t.kept o (bad_to o bad)
          (tells_to c.connections o at.server t at.settings tells) (unanswered sent at un.unanswered))) puts.leaves puts.last gone

  -- its body broke before
  pub sent_broken : (fault : on.BodyFault) → HasCause (broken_body fault) p q → HasPut (broken_body fault) p q → Now c (s ∷ history) q
  sent_broken fault (sent, un, awaits, gone) puts =
      let at = at_sent (s ∷ history) p sent h un.runs in
      let x : AwaitsAnswer (Some at.server) = subst AwaitsAnswer at.there awaits in
      let t = x.0 in
      let link = trace_of (ours c) at.server.kept h.all.links
      (subst (λ (o : Option servers.State). IsServer (ours c) (kept_in o) h.all.links) at.there h.forwards.carries.server) in
      let waits = x.2 link.0 (subst (λ (e : Settings). IsClientTrace (asking.setting_of e) link.0 at.server.kept) (sym at.settings) link.1) in
      let t0 = served_broken (edge c) (theirs c) (ours c) refl s history before_head sent.is_whole sent.is_broken p.client.kept at.server.kept fault puts.mid.kept
      (puts_to c.connections (λ ps. ps ≡ request_breaks fault ∷ []) p.client puts.mid client_at puts.first) (unanswered sent at un.unanswered) in
      let t1 = served_quiet (edge c) (theirs c) (ours c) refl s history before_head (sending puts.mid.kept at.server.kept sent.is_whole true) at.server.kept t.kept
      (hands_to c.connections [] at.server t at.settings x.1) t0 in
      own_now 400 puts.mid puts.there (puts.first.0 ∙ client_at)
      (owes_broken (edge c) (theirs c) (ours c) refl s history over sent.is_whole puts.mid.kept t.kept waits.coming t1) puts.leaves puts.last gone

  -- ---- its answer's head

  asks : (sent : SentRequest) → Runs sent p → IsAskedBy sent.is_head p.client
  asks sent runs = (subst₂ (λ (u : Option Unsent) (o : Option SentRequest). Fits u o p.client) runs.unsent runs.sent h.wanted).1

  pub head_on : (is_head : Bool) (a : Answer) → HasCause (passed_on is_head a) p q → HasPut (passed_on is_head a) p q → Now c (s ∷ history) q
  head_on is_head a (sent, un, same, has) puts =
      by_size (is_at_once (reply_size is_head a)) puts (subst (λ (b : Bool). Follows (is_at_once (reply_size b a)) sent a t q) same x.4)
    where
      at : AtSent (s ∷ history) p sent h.now.stage
      at = at_sent (s ∷ history) p sent h un.runs

      x : HasAnswer sent a (Some at.server) q
      x = subst (λ (o : Option servers.State). HasAnswer sent a o q) at.there has

      t : servers.State
      t = x.2

      good : (is_refused a ≡ false) × (is_interim a.status ≡ false)
      good = good_one (is_refused a) (is_interim a.status) x.0

      told : (trace : List Happened) → IsClientTrace (ours c) trace at.server.kept → IsClientTrace (ours c) (record { event = asked.next; outcome = asked.answer a } ∷ trace) t.kept
      told = tells_to c.connections (asked.answer a) at.server t at.settings x.3

      t_at : t.settings ≡ c.connections
      t_at = x.3.0 ∙ at.settings

      before : So (sending p.client.kept at.server.kept sent.is_whole sent.is_broken) before_head
      before = unanswered sent at un.unanswered

      asks_so : IsAskedBy is_head p.client
      asks_so = subst (λ (b : Bool). IsAskedBy b p.client) same (asks sent un.runs)

      -- its head alone, and then the rest
      whole_by : (y : MayPut (passed is_head a) p.client q.client) → So (sending q.client.kept t.kept sent.is_whole sent.is_broken) (answering a)
      whole_by (inl y) =
          at_client c (s ∷ history) p.client.kept q.client.kept (Some t.kept) (is_sent sent.is_whole sent.is_broken) (answering a) (ap (λ (k : State). k.kept) y.1)
          (served_answered (edge c) (theirs c) (ours c) refl s history sent.is_whole sent.is_broken p.client.kept at.server.kept t.kept a good.1 good.0 told before)
      whole_by (inr y) =
          served_head (edge c) (theirs c) (ours c) refl s history sent.is_whole sent.is_broken p.client.kept q.client.kept at.server.kept t.kept a is_head good.1 good.0 asks_so told
          (puts_to c.connections (λ ps. ps ≡ passed is_head a ∷ []) p.client q.client client_at y) before

      -- all of it
      last_by : (y : PutsLast [] (passed is_head a) p.client q.client) → So (sending q.client.kept t.kept sent.is_whole sent.is_broken) (answering a)
      last_by y = by_last y.last
        where
          mid_at : y.mid.settings ≡ c.connections
          mid_at = y.first.0 ∙ client_at

          left : ServedAs (edge c) (theirs c) (ours c) (AboutNewest (IsHead is_head)) (sending y.there.kept at.server.kept sent.is_whole sent.is_broken) before_head (s ∷ history)
          left =
              left_as (edge c) (theirs c) (ours c) refl s history before_head (AboutNewest (IsHead is_head)) (sending y.mid.kept at.server.kept sent.is_whole sent.is_broken) y.there.kept
              (leaves_to c.connections y.mid y.there mid_at y.leaves)
              (silent_as (edge c) (theirs c) (ours c) refl s history before_head (AboutNewest (IsHead is_head)) (sending p.client.kept at.server.kept sent.is_whole sent.is_broken) y.mid.kept
              (puts_to c.connections (λ ps. ps ≡ []) p.client y.mid client_at y.first)
              (about_as (edge c) (theirs c) (ours c) refl s history (sending p.client.kept at.server.kept sent.is_whole sent.is_broken) before_head is_head asks_so before))

          by_last : MayPut (passed is_head a) y.there q.client → So (sending q.client.kept t.kept sent.is_whole sent.is_broken) (answering a)
          by_last (inl z) =
              at_client c (s ∷ history) y.there.kept q.client.kept (Some t.kept) (is_sent sent.is_whole sent.is_broken) (answering a) (ap (λ (k : State). k.kept) z.1)
              (served_answered (edge c) (theirs c) (ours c) refl s history sent.is_whole sent.is_broken y.there.kept at.server.kept t.kept a good.1 good.0 told
              (left.0, left.1, left.3))
          by_last (inr z) =
              served_head_as (edge c) (theirs c) (ours c) refl s history sent.is_whole sent.is_broken y.there.kept q.client.kept at.server.kept t.kept a is_head good.1 good.0 told
              (puts_to c.connections (λ ps. ps ≡ passed is_head a ∷ []) y.there q.client (leaves_settings y.mid y.there y.leaves ∙ mid_at) z) left

      by_size : (t' : Bool) → PutsHead t' (passed is_head a) p.client q.client → Follows t' sent a t q → Now c (s ∷ history) q
      by_size true y follows = over_now sent a (says_close a) t refl follows (last_by y)
      by_size false y follows =
          let goes = follows.0 in
          let next : SentRequest = record sent { is_answered = true; closes = says_close a } in
          let is = same_sent q.sent goes.sent next goes.runs.sent follows.1 in
          goes_on_now c (s ∷ history) q (record { is_head = sent.is_head; is_answered = true; closes = says_close a }) [] t sent.is_whole sent.is_broken (answering a) goes
          (ap (λ (r : SentRequest). r.is_whole) is) (ap (λ (r : SentRequest). r.is_broken) is) (a, refl, refl)
          (served_quiet (edge c) (theirs c) (ours c) refl s history (answering a) (sending q.client.kept t.kept sent.is_whole sent.is_broken) t.kept goes.after.kept
          (hands_to c.connections [] t goes.after t_at goes.hands) (whole_by y))

  -- ---- its body

  pub piece_goes_on : (bytes : List ℕ) → HasCause (piece_on bytes) p q → HasPut (piece_on bytes) p q → KeepsBody (piece_on bytes) p q → Now c (s ∷ history) q
  piece_goes_on bytes (sent, did, has) puts far =
      let at = at_sent (s ∷ history) p sent h did.runs in
      let y = answered sent at did.answered in
      let x : HasBytes (marks_of sent) bytes (Some at.server) q = subst (λ (o : Option servers.State). HasBytes (marks_of sent) bytes o q) at.there has in
      let body = far sent x.sent did.runs.sent x.runs.sent in
      goes_on_now c (s ∷ history) q (marks_of sent) (body_bytes bytes ∷ []) at.server sent.is_whole sent.is_broken (answering y.answer) x body.0 body.1
      (subst (λ (t : Bool). FitsMark t sent.closes (answering y.answer)) (sym did.answered) (y.answer, refl, y.says))
      (served_bytes (edge c) (theirs c) (ours c) refl s history sent.is_whole sent.is_broken p.client.kept q.client.kept at.server.kept x.after.kept y.answer bytes
      (hands_to c.connections (body_bytes bytes ∷ []) at.server x.after at.settings x.hands)
      (puts_to c.connections (λ ps. ps ≡ continues bytes ∷ []) p.client q.client client_at puts) y.so_far)

  -- it is read to its end
  is_up : (sent : SentRequest) (at : AtSent (s ∷ history) p sent h.now.stage) (y : Answered sent at) → IsReadUp at.server → is_free at.server.kept ≡ true
  is_up sent at y read =
      let x = served_at (edge c) (theirs c) (ours c) refl s history (answering y.answer) sent.is_whole sent.is_broken p.client.kept at.server.kept y.so_far in
      reads_up (asking.setting_of at.server.settings) at.server.kept x.4.fine read.next

  pub answer_ends : HasCause end_on p q → HasPut end_on p q → Now c (s ∷ history) q
  answer_ends (sent, did, has) puts = over_now sent y.answer sent.closes t y.says x.2 (by_end x.1 puts.last)
    where
      at : AtSent (s ∷ history) p sent h.now.stage
      at = at_sent (s ∷ history) p sent h did.runs

      y : Answered sent at
      y = answered sent at did.answered

      x : HasEnd sent (Some at.server) q
      x = subst (λ (o : Option servers.State). HasEnd sent o q) at.there has

      t : servers.State
      t = x.0

      mid_at : puts.mid.settings ≡ c.connections
      mid_at = puts.first.0 ∙ client_at

      there_at : puts.there.settings ≡ c.connections
      there_at = leaves_settings puts.mid puts.there puts.leaves ∙ mid_at

      left : So (sending puts.there.kept at.server.kept sent.is_whole sent.is_broken) (answering y.answer)
      left =
          served_left (edge c) (theirs c) (ours c) refl s history (answering y.answer) (sending puts.mid.kept at.server.kept sent.is_whole sent.is_broken) puts.there.kept
          (leaves_to c.connections puts.mid puts.there mid_at puts.leaves)
          (served_silent (edge c) (theirs c) (ours c) refl s history (answering y.answer) (sending p.client.kept at.server.kept sent.is_whole sent.is_broken) puts.mid.kept
          (puts_to c.connections (λ ps. ps ≡ []) p.client puts.mid client_at puts.first) y.so_far)

      ends_to : MayPut ends puts.there q.client → (q.client.kept ≡ puts.there.kept) ⊎ ClientPuts (theirs c) (λ ps. ps ≡ ends ∷ []) puts.there.kept q.client.kept
      ends_to z = may_to c.connections ends puts.there q.client there_at z

      by_put : Hands (body_end ∷ []) at.server t → (q.client.kept ≡ puts.there.kept) ⊎ ClientPuts (theirs c) (λ ps. ps ≡ ends ∷ []) puts.there.kept q.client.kept
          → So (sending q.client.kept t.kept sent.is_whole sent.is_broken) (answering y.answer)
      by_put hands (inl same) =
          at_client c (s ∷ history) puts.there.kept q.client.kept (Some t.kept) (is_sent sent.is_whole sent.is_broken) (answering y.answer) same
          (served_ended (edge c) (theirs c) (ours c) refl s history sent.is_whole sent.is_broken puts.there.kept at.server.kept t.kept y.answer
          (hands_to c.connections (body_end ∷ []) at.server t at.settings hands) left)
      by_put hands (inr put) =
          served_end_put (edge c) (theirs c) (ours c) refl s history sent.is_whole sent.is_broken puts.there.kept q.client.kept at.server.kept t.kept y.answer
          (hands_to c.connections (body_end ∷ []) at.server t at.settings hands) put left

      up_put : is_free at.server.kept ≡ true → (q.client.kept ≡ puts.there.kept) ⊎ ClientPuts (theirs c) (λ ps. ps ≡ ends ∷ []) puts.there.kept q.client.kept
          → So (sending q.client.kept at.server.kept sent.is_whole sent.is_broken) (answering y.answer)
      up_put free (inl same) =
          at_client c (s ∷ history) puts.there.kept q.client.kept (Some at.server.kept) (is_sent sent.is_whole sent.is_broken) (answering y.answer) same left
      up_put free (inr put) =
          served_end_up (edge c) (theirs c) (ours c) refl s history sent.is_whole sent.is_broken puts.there.kept q.client.kept at.server.kept y.answer free put left

      by_end : Hands (body_end ∷ []) at.server t ⊎ ((t ≡ at.server) × IsReadUp at.server) → MayPut ends puts.there q.client
          → So (sending q.client.kept t.kept sent.is_whole sent.is_broken) (answering y.answer)
      by_end (inl hands) z = by_put hands (ends_to z)
      by_end (inr up) z =
          subst (λ (u : servers.State). So (sending q.client.kept u.kept sent.is_whole sent.is_broken) (answering y.answer)) (sym up.0)
          (up_put (is_up sent at y up.1) (ends_to z))

  -- it fails
  pub answer_fails : HasCause cut_off p q → HasPut cut_off p q → Now c (s ∷ history) q
  answer_fails (sent, did, lacks, gone) puts = by_lack (subst LacksEnd at.there lacks)
    where
      at : AtSent (s ∷ history) p sent h.now.stage
      at = at_sent (s ∷ history) p sent h did.runs

      y : Answered sent at
      y = answered sent at did.answered

      by_lack : LacksEnd (Some at.server) → Now c (s ∷ history) q
      by_lack (inl (fault, t, hands)) =
          gone_now gone
          (cut_put (edge c) (theirs c) (ours c) refl s history over p.client.kept q.client.kept (may_to c.connections breaks_off p.client q.client client_at puts)
          (has_failed (edge c) (theirs c) (ours c) refl s history over sent.is_whole sent.is_broken p.client.kept at.server.kept t.kept y.answer fault
          (hands_to c.connections (body_fault fault ∷ []) at.server t at.settings hands) y.so_far))
      by_lack (inr (cannot, unread)) =
          let x = served_at (edge c) (theirs c) (ours c) refl s history (answering y.answer) sent.is_whole sent.is_broken p.client.kept at.server.kept y.so_far in
          let free = pulled_up (asking.setting_of at.server.settings) at.server.kept x.4.runs x.4.fine x.4.kept cannot in
          absurd (unread (record {
            next = may_tell (asking.setting_of at.server.settings) at.server.kept x.4.runs free;
            sound = sound_closing at.server.kept x.4.fine;
          }))
