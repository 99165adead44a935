-- Over all that happened, client and server close after the same exchange where a side asked for it.
use Rattle.std.proofs.Common.{◌≡◌, ℕ, ◌≤◌, Bool, true, false, ◌&&◌, not, List, [], ◌∷◌, ◌++◌, length, drop, reverse, Option, Some, None, is_some, refl, sym, ap, ap₂, ◌∙◌, subst, inl, inr, arith}
use Rattle.std.specs.Prelude.{⊤, suc, if◌then◌else◌}
use Rattle.std.specs.List.{AllByRecursion}
use Rattle.std.proofs.lemmas.Bool.{false≢true}
use Rattle.std.proofs.lemmas.List.{length-reverse}
use Rattle.std.proofs.lemmas.Grind.{reverse_onto}
use Rattle.model_h1.specs.Request.{Head}
use Rattle.model_h1.specs.Setting.{Setting}
use Rattle.model_h1.specs.Answer.{asked_of as needed_of, type_of}
use Rattle.model_h1.specs.End as ends
use Rattle.model_h1.specs.End.{End}
use Rattle.model_h1.specs.Closing.{is_kept, asked_by}
use Rattle.model_h1.specs.Sums.{Step, Answered, request, answered, has_ended}
use Rattle.model_h1.specs.Laws.Exchanges.{Reply, no_reply, answer_given, session, Exchange, exchanges}
use Rattle.model_h1.proofs.ExchangeReplies.{ReplyIs}
use Rattle.model_h1.proofs.ExchangeSteps.{NewestIs}
use Rattle.model_h1.proofs.ExchangeTraces.{spoken}
use Rattle.model_client.specs.AnswerReading.{Answer}
use Rattle.model_client.specs.ClientEvent.{ClientEnd, asked as was_asked, unasked, input_ended, failed_request, broken_answer}
use Rattle.model_client.specs.ClientKept.{Waiting, ClientKept, is_free, is_waited_for, has_bytes, client_closing}
use Rattle.model_client.specs.ClientStep.{is_ambiguous, is_closed_after}
use Rattle.model_client.specs.ClientTrace.{Happened, requests_of, answered_of}
use Rattle.model_ends.specs.PlainExchange.{IsFramedReply, IsPlain}
use Rattle.model_ends.specs.SentAnswer.{SentAnswer, sent_answer, sent_by, interim_sent, sent_to, answers_sent}
use Rattle.model_ends.specs.AskedTrace.{requests_asked, IsPlainAsked}
use Rattle.model_ends.specs.Connected.{AreConnected, ArePlain, AreClear, EndsAsAsked}
use Rattle.model_client.specs.ReadOut.{read_out}
use Rattle.model_ends.proofs.Agreement.{joined_ends}
use Rattle.model_ends.proofs.Holds.{IsFaulty, Holds}
use Rattle.model_ends.proofs.Methods.{agreed_methods}
use Rattle.model_ends.proofs.ReadOuts.{all_for}
use Rattle.model_ends.proofs.Closings.{closes_alike}
use Rattle.model_ends.proofs.KeptOn.{KeepsAfter, IsKeptOn, older_kept}
use Rattle.model_ends.proofs.ClosesAfter.{finals, closes_from, finals_count, closes_is}
use Rattle.model_ends.proofs.AskedFor.{IsFor, AreFor, requests_for}
use Rattle.model_ends.proofs.FinalAnswers.{finals_in, finals_sent, IsFinalOf, AreFinals, sent_all, finals_are}

-- ---- lists

all_with : {A : Type 0} (P : A → Type 0) (xs : List A) (x : A) → AllByRecursion P xs → P x → AllByRecursion P (xs ++ x ∷ [])
all_with P [] x all last = (last, tt)
all_with P (y ∷ xs) x all last = (all.0, all_with P xs x all.1 last)

all_turned : {A : Type 0} (P : A → Type 0) (xs : List A) → AllByRecursion P xs → AllByRecursion P (reverse xs)
all_turned P [] all = tt
all_turned P (x ∷ xs) all = subst (AllByRecursion P) (sym (reverse_onto xs x [])) (all_with P (reverse xs) x (all_turned P xs all.1) all.0)

first_all : {A : Type 0} (P : A → Type 0) (xs ys : List A) → AllByRecursion P (xs ++ ys) → AllByRecursion P xs
first_all P [] ys all = tt
first_all P (x ∷ xs) ys all = (all.0, first_all P xs ys all.1)

last_all : {A : Type 0} (P : A → Type 0) (xs ys : List A) → AllByRecursion P (xs ++ ys) → AllByRecursion P ys
last_all P [] ys all = all
last_all P (x ∷ xs) ys all = last_all P xs ys all.1

module _ (server : Setting) where
  -- ---- one exchange

  -- after its answer the server closes as it was asked to
  abbrev is_last : Head → Reply → Bool
  is_last h (answer_given g) = not (is_kept (type_of server g.answered.drained (needed_of h) g.answered.head g.answered.size))
  is_last h _ = false

  abbrev IsClearReply : Head → Reply → Type 0
  IsClearReply h (answer_given g) = is_ambiguous (sent_answer server h g).answer ≡ false
  IsClearReply h _ = ⊤

  abbrev IsClear : Exchange → Type 0
  IsClear e = IsClearReply e.head e.reply

  abbrev AreClearAnswers : List SentAnswer → Type 0
  AreClearAnswers ss = AllByRecursion (λ (s : SentAnswer). is_ambiguous s.answer ≡ false) ss

  one_clear : (e : Exchange) → AreClearAnswers (sent_by server e) → IsClear e
  one_clear e all = by_reply e.reply all
    where
      by_reply : (r : Reply) → AreClearAnswers (sent_by server (record { head = e.head; was_told = e.was_told; reply = r })) → IsClearReply e.head r
      by_reply no_reply all = tt
      by_reply (answer_given g) all = all.0
      by_reply (session s) all = tt

  each_clear : (es : List Exchange) → AreClearAnswers (sent_all server es) → AllByRecursion IsClear es
  each_clear [] all = tt
  each_clear (e ∷ es) all =
      let P : SentAnswer → Type 0 = λ s. is_ambiguous s.answer ≡ false in
      let interim = if e.was_told then interim_sent e.head.method ∷ [] else [] in
      let own = first_all P (sent_to server e) (sent_all server es) all in (
        one_clear e (last_all P interim (sent_by server e) own),
        each_clear es (last_all P (sent_to server e) (sent_all server es) all),
      )

  -- the client closes after it exactly where the server does
  same_by : (h : Head) (r : Reply) (a : Answer) (w : Waiting) → IsFor w h → h.minor ≤ 1 → IsFramedReply server h r → IsClearReply h r
      → IsFinalOf server a h r → is_closed_after w a ≡ is_last h r
  same_by h (answer_given g) a w for minor framed clear final =
      ap₂ is_closed_after for.is final ∙ closes_alike server h g for.request minor framed for.method for.connection for.none clear
  same_by h no_reply a w for minor framed clear final = absurd final
  same_by h (session s) a w for minor framed clear final = absurd final

  same_for : (e : Exchange) (a : Answer) (w : Waiting) → IsFor w e.head → IsPlain server e → IsClear e → IsFinalOf server a e.head e.reply
      → is_closed_after w a ≡ is_last e.head e.reply
  same_for e a w for plain clear final = same_by e.head e.reply a w for plain.version plain.reply clear final

  -- not where the connection goes on
  kept_goes : (h : Head) (r : Reply) → KeepsAfter server h r → is_last h r ≡ false
  kept_goes h (answer_given g) kept = by_test (not (is_kept (type_of server g.answered.drained (needed_of h) g.answered.head g.answered.size))) kept
    where
      by_test : (t : Bool) → ◌≡◌ {A = Option End} (if t then Some ends.asked else None) None → t ≡ false
      by_test false e = refl
      by_test true e = absurd (cc e)
  kept_goes h no_reply kept = refl
  kept_goes h (session s) kept = refl

  -- ---- exchanges, the oldest first

  -- what is known of them
  record Known (ws : List Waiting) (fs : List Answer) (es : List Exchange) (e : Exchange) : Type 0 where
    for : AreFor ws (es ++ e ∷ [])
    plain : AllByRecursion (IsPlain server) (es ++ e ∷ [])
    clear : AllByRecursion IsClear (es ++ e ∷ [])
    are : AreFinals server fs (es ++ e ∷ [])
    kept : AllByRecursion (IsKeptOn server) es

  -- that of the further ones
  others : (w : Waiting) (ws : List Waiting) (a : Answer) (fs : List Answer) (x : Exchange) (es : List Exchange) (e : Exchange)
      → Known (w ∷ ws) (a ∷ fs) (x ∷ es) e → Known ws fs es e
  others w ws a fs x es e k = record { for = k.for.1; plain = k.plain.1; clear = k.clear.1; are = k.are.1; kept = k.kept.1 }

  -- a client that is to close has the answer of the newest, after which the server closes
  client_last : (ws : List Waiting) (fs : List Answer) (es : List Exchange) (e : Exchange) → Known ws fs es e → closes_from ws fs ≡ true
      → (is_last e.head e.reply ≡ true) × (length fs ≡ suc (length es))
  client_last ws [] es e k closes = absurd (false≢true closes)
  client_last [] (a ∷ fs) es e k closes = absurd (false≢true closes)
  client_last (w ∷ ws) (a ∷ []) [] e k closes = (sym (same_for e a w k.for.0 k.plain.0 k.clear.0 k.are.0) ∙ closes, refl)
  client_last (w ∷ ws) (a ∷ []) (x ∷ es) e k closes =
      absurd (false≢true (sym (kept_goes x.head x.reply k.kept.0) ∙ sym (same_for x a w k.for.0 k.plain.0 k.clear.0 k.are.0) ∙ closes))
  client_last (w ∷ ws) (a ∷ b ∷ fs) [] e k closes = absurd k.are.1
  client_last (w ∷ ws) (a ∷ b ∷ fs) (x ∷ es) e k closes =
      let r = client_last ws (b ∷ fs) es e (others w ws a (b ∷ fs) x es e k) closes in (r.0, ap suc r.1)

  -- and where the server closes after the newest, a client that has its answer is to close
  server_last : (ws : List Waiting) (fs : List Answer) (es : List Exchange) (e : Exchange) → Known ws fs es e → is_last e.head e.reply ≡ true
      → length fs ≡ suc (length es) → closes_from ws fs ≡ true
  server_last ws [] es e k last all = absurd (omega (arith, all))
  server_last [] (a ∷ fs) [] e k last all = absurd k.for
  server_last [] (a ∷ fs) (x ∷ es) e k last all = absurd k.for
  server_last (w ∷ ws) (a ∷ []) [] e k last all = same_for e a w k.for.0 k.plain.0 k.clear.0 k.are.0 ∙ last
  server_last (w ∷ ws) (a ∷ []) (x ∷ es) e k last all = absurd (omega (arith, all))
  server_last (w ∷ ws) (a ∷ b ∷ fs) [] e k last all = absurd k.are.1
  server_last (w ∷ ws) (a ∷ b ∷ fs) (x ∷ es) e k last all =
      server_last ws (b ∷ fs) es e (others w ws a (b ∷ fs) x es e k) last (omega (arith, all))

  -- ---- the server's end

  -- by the newest exchange
  ends_where : (trace : List Step) (h : Head) (r : Reply) → request trace ≡ Some h → ReplyIs trace r → is_last h r ≡ true → EndsAsAsked server trace
  ends_where trace h (answer_given g) asked x last =
      ap₂ (λ (o : Option Head) (a : Option Answered). asked_by server o a) asked x.0 ∙ ap (λ (t : Bool). if t then Some ends.asked else None) last
  ends_where trace h no_reply asked x last = absurd (false≢true last)
  ends_where trace h (session s) asked x last = absurd (false≢true last)

  none_asked : ◌≡◌ {A = Option End} None (Some ends.asked) → ⊥
  none_asked e = cc

  where_ends : (trace : List Step) (h : Head) (r : Reply) → request trace ≡ Some h → ReplyIs trace r → EndsAsAsked server trace → is_last h r ≡ true
  where_ends trace h (answer_given g) asked x end =
      by_test (is_last h (answer_given g)) (sym (ap₂ (λ (o : Option Head) (a : Option Answered). asked_by server o a) asked x.0) ∙ end)
    where
      by_test : (t : Bool) → ◌≡◌ {A = Option End} (if t then Some ends.asked else None) (Some ends.asked) → t ≡ true
      by_test true e = refl
      by_test false e = absurd (none_asked e)
  where_ends trace h no_reply asked x end =
      absurd (none_asked (sym (ap₂ (λ (o : Option Head) (a : Option Answered). asked_by server o a) asked x.0) ∙ end))
  where_ends trace h (session s) asked x end =
      absurd (none_asked (sym (ap₂ (λ (o : Option Head) (a : Option Answered). asked_by server o a) asked x.0) ∙ end))

  no_end : (trace : List Step) → request trace ≡ None → EndsAsAsked server trace → ⊥
  no_end trace none end = none_asked (sym (ap (λ (o : Option Head). asked_by server o (answered trace)) none) ∙ end)

  -- ---- all exchanges

  -- what is known of all, the newest first
  record KnownOf (trace : List Step) (ws : List Waiting) (fs : List Answer) (es : List Exchange) : Type 0 where
    newest : NewestIs trace es
    for : AreFor ws (reverse es)
    plain : AllByRecursion (IsPlain server) es
    clear : AreClearAnswers (sent_all server (reverse es))
    further : List Answer
    are : fs ++ further ≡ finals_in (sent_all server (reverse es))
    kept : AllByRecursion (IsKeptOn server) (drop 1 es)

  known_last : (trace : List Step) (ws : List Waiting) (fs : List Answer) (e : Exchange) (es : List Exchange) → KnownOf trace ws fs (e ∷ es)
      → Known ws fs (reverse es) e
  known_last trace ws fs e es k =
      let turned = reverse_onto es e [] in
      let plain = subst (AllByRecursion (IsPlain server)) turned (all_turned (IsPlain server) (e ∷ es) k.plain) in
      let kept = all_turned (IsKeptOn server) es k.kept in
      record {
        for = subst (AreFor ws) turned k.for;
        plain = plain;
        clear = subst (AllByRecursion IsClear) turned (each_clear (reverse (e ∷ es)) k.clear);
        are = finals_are server fs k.further (reverse es) e (k.are ∙ ap (λ (l : List Exchange). finals_in (sent_all server l)) turned) plain kept;
        kept = kept;
      }

  nothing_told : (fs more : List Answer) → fs ++ more ≡ [] → fs ≡ []
  nothing_told [] more e = refl
  nothing_told (a ∷ fs) more e = absurd (cc e)

  client_ends : (trace : List Step) (ws : List Waiting) (fs : List Answer) (es : List Exchange) → KnownOf trace ws fs es → closes_from ws fs ≡ true
      → EndsAsAsked server trace × (length fs ≡ length es)
  client_ends trace ws fs [] k closes =
      absurd (false≢true (ap (closes_from ws) (sym (nothing_told fs k.further k.are)) ∙ closes))
  client_ends trace ws fs (e ∷ es) k closes =
      let r = client_last ws fs (reverse es) e (known_last trace ws fs e es k) closes in
      (ends_where trace e.head e.reply k.newest.asked k.newest.reply_is r.0, r.1 ∙ ap suc (length-reverse es))

  server_ends : (trace : List Step) (ws : List Waiting) (fs : List Answer) (es : List Exchange) → KnownOf trace ws fs es → EndsAsAsked server trace
      → length fs ≡ length es → closes_from ws fs ≡ true
  server_ends trace ws fs [] k end all = absurd (no_end trace k.newest.0 end)
  server_ends trace ws fs (e ∷ es) k end all =
      server_last ws fs (reverse es) e (known_last trace ws fs e es k) (where_ends trace e.head e.reply k.newest.asked k.newest.reply_is end)
      (all ∙ ap suc (sym (length-reverse es)))

-- ---- why the client closes

not_asked : (f : Option ClientEnd) (t : Bool) → IsFaulty f t → f ≡ Some was_asked → ⊥
not_asked f t faulty e = elim faulty [
  | inl own ↦ let no : ◌≡◌ {A = Option ClientEnd} (Some failed_request) (Some was_asked) = sym own ∙ e in cc no
  | inr (cut, _) ↦ let no : ◌≡◌ {A = Option ClientEnd} (Some broken_answer) (Some was_asked) = sym cut ∙ e in cc no
]

abbrev closing_of : Option ClientEnd → Bool → Bool → Bool → Bool → Option ClientEnd
closing_of failed free closes stray ended =
    if is_some failed then failed
    else (if not free then None else (if closes then Some was_asked else (if stray then Some unasked else (if ended then Some input_ended else None))))

-- for no other reason than that it is to close
asked_closes : (f : Option ClientEnd) (free closes stray ended : Bool) → (f ≡ Some was_asked → ⊥)
    → closing_of f free closes stray ended ≡ Some was_asked → closes ≡ true
asked_closes (Some f) free closes stray ended never e = absurd (never e)
asked_closes None false closes stray ended never e = absurd (cc e)
asked_closes None true true stray ended never e = refl
asked_closes None true false true ended never e = absurd (cc e)
asked_closes None true false false true never e = absurd (cc e)
asked_closes None true false false false never e = absurd (cc e)

closes_asked : (f : Option ClientEnd) (free closes stray ended : Bool) → f ≡ None → free ≡ true → closes ≡ true
    → closing_of f free closes stray ended ≡ Some was_asked
closes_asked f free closes stray ended fine is_free to_close i = closing_of (fine i) (is_free i) (to_close i) stray ended

-- ---- both

-- what is known of both
record Together (client server : Setting) (asked : List Happened) (k : ClientKept) (trace : List Step) : Type 0 where
  known : KnownOf server trace (requests_of asked) (finals asked) (exchanges trace)
  closes : k.closes ≡ closes_from (requests_of asked) (finals asked)
  fair : k.failed ≡ Some was_asked → ⊥

together : (client server : Setting) (asked : List Happened) (k : ClientKept) (trace : List Step) → AreConnected client server asked k trace
    → ArePlain client server asked trace → AreClear server trace → Together client server asked k trace
together client server asked k trace c plain clear =
    let j = joined_ends client server asked k trace c plain in
    let ss = answers_sent server trace in
    let x = all_for client ss plain.client_holds asked k j.more [] c.client_ran j.came j.to j.sent plain.held in
    let h = x.2 in
    let sound = (agreed_methods (has_ended trace) trace asked j.requests.1).0 in
    record {
      known = record {
        newest = (spoken server trace c.server_ran).newest;
        for = requests_for (has_ended trace) server.hold_size trace asked sound j.requests.1
            (all_turned (IsPlainAsked server.hold_size) (requests_asked asked) plain.requests);
        plain = plain.answers;
        clear = clear;
        further = finals_in x.1;
        are = finals_sent k.has_ended asked ss x.0 x.1 h.are h.so;
        kept = older_kept server trace c.server_ran;
      };
      closes = closes_is client asked k c.client_ran;
      fair = by_state h;
    }
  where
    by_state : {ds rest : List SentAnswer} {more : List ℕ} → Holds client.hold_size (answers_sent server trace) (read_out asked).stray (read_out asked).answers ds rest k more []
        → k.failed ≡ Some was_asked → ⊥
    by_state h e = elim h.state [
      | inl failed ↦ not_asked k.failed k.has_ended failed e
      | inr (fine, _) ↦ let no : ◌≡◌ {A = Option ClientEnd} None (Some was_asked) = sym fine ∙ e in cc no
    ]

pub server_closes_too : (client server : Setting) (asked : List Happened) (k : ClientKept) (trace : List Step) → AreConnected client server asked k trace
    → ArePlain client server asked trace → AreClear server trace → client_closing k ≡ Some was_asked
    → EndsAsAsked server trace × (answered_of asked ≡ length (exchanges trace))
server_closes_too client server asked k trace c plain clear closing =
    let t = together client server asked k trace c plain clear in
    let to_close = asked_closes k.failed (is_free k) k.closes (not (is_waited_for k.waiting) && has_bytes k.unread) (k.has_ended && not k.is_coming) t.fair closing in
    let r = client_ends server trace (requests_of asked) (finals asked) (exchanges trace) t.known (sym t.closes ∙ to_close) in
    (r.0, sym (finals_count asked) ∙ r.1)

pub client_closes_too : (client server : Setting) (asked : List Happened) (k : ClientKept) (trace : List Step) → AreConnected client server asked k trace
    → ArePlain client server asked trace → AreClear server trace → EndsAsAsked server trace → answered_of asked ≡ length (exchanges trace)
    → is_free k ≡ true → k.failed ≡ None → client_closing k ≡ Some was_asked
client_closes_too client server asked k trace c plain clear end all free fine =
    let t = together client server asked k trace c plain clear in
    let to_close = t.closes ∙ server_ends server trace (requests_of asked) (finals asked) (exchanges trace) t.known end (finals_count asked ∙ all) in
    closes_asked k.failed (is_free k) k.closes (not (is_waited_for k.waiting) && has_bytes k.unread) (k.has_ended && not k.is_coming) fine free to_close
