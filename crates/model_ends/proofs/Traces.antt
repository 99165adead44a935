-- What a connection writes is the text of its answers, each to the first of the requests that wait.
use Rattle.std.proofs.Common.{◌≡◌, ℕ, ◌≤◌, length, Bool, true, false, cond, eqb, ◌||◌, List, [], ◌∷◌, ◌++◌, map, reverse, flat_map, drop, All, refl, sym, ap, ap₂, ◌∙◌, subst, inl, inr, append-nil, append_assoc, le-leb}
use Rattle.std.specs.Prelude.{bytes_eq, codes}
use Rattle.std.specs.List.{AllByRecursion}
use Rattle.std.proofs.lemmas.Bool.{false≢true, cond-true, cond-false}
use Rattle.std.proofs.lemmas.List.{reverse-append, map-append}
use Rattle.std.proofs.lemmas.List.Concat.{flat_map-append}
use Rattle.std.proofs.lemmas.List.Elements.{All-head, All-tail}
use Rattle.model_h1.specs.Request.{Head}
use Rattle.model_h1.specs.Setting.{Setting}
use Rattle.model_h1.specs.Answer.{AnswerHead, Asked, asked_of, BodySize, size_none, size_of, size_stream, is_at_once, Shape, shape_none, shape_length, shape_chunked, shape_raw, switching_shape, sized_shape, is_raw, is_bodiless}
use Rattle.model_h1.specs.AnswerText.{interim_text}
use Rattle.model_h1.specs.Sums.{Step}
use Rattle.model_h1.specs.Text.{text}
use Rattle.model_h1.specs.Laws.Exchanges.{AnswerGiven, Reply, no_reply, answer_given, session, is_whole, Exchange, reply_text, exchange_text, exchanges, exchanges_text, refusal_text}
use Rattle.model_h1.proofs.ExchangeTraces.{spoken}
use Rattle.model_client.specs.RequestText.{joined}
use Rattle.model_ends.specs.PlainExchange.{given_shape, is_full, is_complete, IsSelfFramed, IsFramedReply, IsPlain, IsPlainTrace}
use Rattle.model_ends.specs.SentAnswer.{SentAnswer, IsSent, AreSent, sent_text, CountsAnswers, IsWaiting, AreTo, sent_answer, sent_by, interim_sent, sent_to, answers_sent, methods_asked}
use Rattle.model_ends.proofs.ComeBodies.{HasCome, trace_come}
use Rattle.model_ends.proofs.PlainTraces.{IsQuiet, none_refused, quiet_exchanges}
use Rattle.model_ends.proofs.PlainExchange.{plain_sent}
use Rattle.model_ends.proofs.InterimAnswers.{interim_is_sent}

-- ---- lists

sent_text-append : (a b : List SentAnswer) → sent_text (a ++ b) ≡ sent_text a ++ sent_text b
sent_text-append [] b = refl
sent_text-append (s ∷ a) b =
    ap (λ t. s.head ++ (s.body ++ t)) (sent_text-append a b) ∙ ap (λ t. s.head ++ t) (sym (append_assoc s.body (sent_text a) (sent_text b)))
    ∙ sym (append_assoc s.head (s.body ++ sent_text a) (sent_text b))

recursion-append : {A : Type 0} (P : A → Type 0) (xs ys : List A) → AllByRecursion P xs → AllByRecursion P ys → AllByRecursion P (xs ++ ys)
recursion-append P [] ys a b = b
recursion-append P (x ∷ xs) ys a b = (a.0, recursion-append P xs ys a.1 b)

reverse-cons : {A : Type 0} (x : A) (xs : List A) → reverse (x ∷ xs) ≡ reverse xs ++ x ∷ []
reverse-cons x xs = reverse-append (x ∷ []) xs

recursion-reverse : {A : Type 0} (P : A → Type 0) (xs : List A) → AllByRecursion P xs → AllByRecursion P (reverse xs)
recursion-reverse P [] a = a
recursion-reverse P (x ∷ xs) a = subst (AllByRecursion P) (sym (reverse-cons x xs)) (recursion-append P (reverse xs) (x ∷ []) (recursion-reverse P xs a.1) (a.0, tt))

-- it is sent, and whole
abbrev IsSentWhole : SentAnswer → Type 0
IsSentWhole s = IsSent s × (s.is_whole ≡ true)

-- answers of which none but the last is under way may follow whole ones
sent-append : (a b : List SentAnswer) → AllByRecursion IsSentWhole a → AreSent b → AreSent (a ++ b)
sent-append [] b x y = y
sent-append (s ∷ a) b x y = (x.0.0, (λ part. absurd (false≢true (sym part ∙ x.0.1))), sent-append a b x.1 y)

-- ---- an answer that is handed in whole is complete

-- only a stream goes out in chunks
not_at_once : (asked : Asked) (answer : AnswerHead) (size : BodySize) (t u : Bool)
    → cond t (switching_shape size) (cond u shape_none (sized_shape asked answer size)) ≡ shape_chunked → is_at_once size ≡ false
not_at_once asked answer size_stream t u e = refl
not_at_once asked answer size_none true u e = cc
not_at_once asked answer size_none false true e = cc
not_at_once asked answer size_none false false e = cc
not_at_once asked answer (size_of n) true u e = cc
not_at_once asked answer (size_of n) false true e = cc
not_at_once asked answer (size_of n) false false e = by_test (eqb n 0) e
  where
    by_test : (t : Bool) → cond t shape_none (shape_length n) ≡ shape_chunked → t ≡ false
    by_test true x = cc
    by_test false x = refl

completed : (setting : Setting) (h : Head) (a : AnswerGiven) → IsSelfFramed setting h a
    → (bytes_eq h.method (codes "HEAD") ≡ false → (n : ℕ) → given_shape h a ≡ shape_length n → n ≤ length (joined a.pieces))
    → is_whole (answer_given a) ≡ true → is_complete h a ≡ true
completed setting h a x came whole = by_head (bytes_eq h.method (codes "HEAD")) came
  where
    by_shape : (s : Shape) → given_shape h a ≡ s → ((n : ℕ) → given_shape h a ≡ shape_length n → n ≤ length (joined a.pieces)) → is_full s a ≡ true
    by_shape shape_none is came = refl
    by_shape (shape_length n) is came = le-leb n _ (came n is)
    by_shape shape_raw is came = absurd (false≢true (sym (subst (λ s. is_raw s ≡ false) is x.shape)))
    by_shape shape_chunked is came =
        let streams = not_at_once (asked_of h) a.answered.head a.answered.size (eqb a.answered.head.status 101) (is_bodiless a.answered.head.status) is in
        sym (ap (λ t. t || a.is_ended) streams) ∙ whole

    by_head : (t : Bool) → (t ≡ false → (n : ℕ) → given_shape h a ≡ shape_length n → n ≤ length (joined a.pieces))
        → (t || is_full (given_shape h a) a) ≡ true
    by_head true came = refl
    by_head false came = by_shape (given_shape h a) refl (came refl)

module _ (setting : Setting) where
  -- ---- one exchange

  -- the answer alone
  abbrev sents : Head → Reply → List SentAnswer
  sents h (answer_given a) = sent_answer setting h a ∷ []
  sents h _ = []

  same_sents : (e : Exchange) → sent_by setting e ≡ sents e.head e.reply
  same_sents e = by_reply e.reply
    where
      by_reply : (r : Reply) → sent_by setting (record { head = e.head; was_told = e.was_told; reply = r }) ≡ sents e.head r
      by_reply no_reply = refl
      by_reply (answer_given a) = refl
      by_reply (session s) = refl

  reply_words : (h : Head) (reply : Reply) → IsFramedReply setting h reply → reply_text setting h reply ≡ sent_text (sents h reply)
  reply_words h no_reply framed = refl
  reply_words h (answer_given a) framed =
      let s = sent_answer setting h a in
      ap (λ t. s.head ++ t) (sym (append-nil s.body))
  reply_words h (session x) framed = absurd framed

  reply_sent : (h : Head) (reply : Reply) → h.minor ≤ 1 → IsFramedReply setting h reply → AreSent (sents h reply)
  reply_sent h no_reply version framed = tt
  reply_sent h (answer_given a) version framed = (plain_sent setting h a version framed, (λ part. refl), tt)
  reply_sent h (session x) version framed = tt

  -- the interim answer, if the client got one
  abbrev interim : Bool → List ℕ → List SentAnswer
  interim told method = cond told (interim_sent method ∷ []) []

  interim_words : (told : Bool) (method : List ℕ) → cond told interim_text [] ≡ sent_text (interim told method)
  interim_words true method = sym (append-nil interim_text)
  interim_words false method = refl

  interim_whole : (told : Bool) (method : List ℕ) → AllByRecursion IsSentWhole (interim told method)
  interim_whole true method = ((interim_is_sent method, refl), tt)
  interim_whole false method = tt

  exchange_words : (e : Exchange) → IsPlain setting e → exchange_text setting e ≡ sent_text (sent_to setting e)
  exchange_words e plain =
      ap₂ (λ x y. x ++ y) (interim_words e.was_told e.head.method) (reply_words e.head e.reply plain.reply ∙ ap sent_text (sym (same_sents e)))
      ∙ sym (sent_text-append (interim e.was_told e.head.method) (sent_by setting e))

  exchange_sent : (e : Exchange) → IsPlain setting e → AreSent (sent_to setting e)
  exchange_sent e plain =
      sent-append (interim e.was_told e.head.method) (sent_by setting e) (interim_whole e.was_told e.head.method)
      (subst AreSent (sym (same_sents e)) (reply_sent e.head e.reply plain.version plain.reply))

  -- one that was answered whole
  abbrev IsAnswered : Exchange → Type 0
  IsAnswered e = IsPlain setting e × (HasCome e × (is_whole e.reply ≡ true))

  exchange_whole : (e : Exchange) → IsAnswered e → AllByRecursion IsSentWhole (sent_to setting e)
  exchange_whole e x =
      recursion-append IsSentWhole (interim e.was_told e.head.method) (sent_by setting e) (interim_whole e.was_told e.head.method)
      (by_reply e.reply x.0.version x.0.reply x.1.0 x.1.1)
    where
      by_reply : (r : Reply) → e.head.minor ≤ 1 → IsFramedReply setting e.head r → HasCome (record { head = e.head; was_told = e.was_told; reply = r })
          → is_whole r ≡ true → AllByRecursion IsSentWhole (sent_by setting (record { head = e.head; was_told = e.was_told; reply = r }))
      by_reply no_reply version framed come whole = tt
      by_reply (answer_given a) version framed come whole = ((plain_sent setting e.head a version framed, completed setting e.head a framed come whole), tt)
      by_reply (session s) version framed come whole = tt

  -- ---- exchanges, the oldest first

  abbrev sent_all : List Exchange → List SentAnswer
  sent_all es = flat_map (sent_to setting) es

  all_words : (es : List Exchange) → AllByRecursion (IsPlain setting) es → flat_map (exchange_text setting) es ≡ sent_text (sent_all es)
  all_words [] plain = refl
  all_words (e ∷ es) plain =
      ap₂ (λ a b. a ++ b) (exchange_words e plain.0) (all_words es plain.1) ∙ sym (sent_text-append (sent_to setting e) (sent_all es))

  all_whole : (es : List Exchange) → AllByRecursion IsAnswered es → AllByRecursion IsSentWhole (sent_all es)
  all_whole [] x = tt
  all_whole (e ∷ es) x = recursion-append IsSentWhole (sent_to setting e) (sent_all es) (exchange_whole e x.0) (all_whole es x.1)

  answered_all : (es : List Exchange) → AllByRecursion (IsPlain setting) es → AllByRecursion HasCome es → All (λ e. is_whole e.reply ≡ true) es → AllByRecursion IsAnswered es
  answered_all [] plain come whole = tt
  answered_all (e ∷ es) plain come whole =
      ((plain.0, (come.0, All-head (λ x. is_whole x.reply ≡ true) e es whole)), answered_all es plain.1 come.1 (All-tail (λ x. is_whole x.reply ≡ true) e es whole))

  -- all of them, of which the newest may be under way
  all_sent : (es : List Exchange) → AllByRecursion (IsPlain setting) es → AllByRecursion HasCome (drop 1 es) → All (λ e. is_whole e.reply ≡ true) (drop 1 es)
      → AreSent (sent_all (reverse es))
  all_sent [] plain come whole = tt
  all_sent (e ∷ es) plain come whole =
      let older = recursion-reverse IsAnswered es (answered_all es plain.1 come whole) in
      let is : sent_all (reverse (e ∷ es)) ≡ sent_all (reverse es) ++ sent_to setting e =
      ap sent_all (reverse-cons e es) ∙ flat_map-append (sent_to setting) (reverse es) (e ∷ [])
      ∙ ap (λ (l : List SentAnswer). sent_all (reverse es) ++ l) (append-nil (sent_to setting e)) in
      subst AreSent (sym is) (sent-append (sent_all (reverse es)) (sent_to setting e) (all_whole (reverse es) older) (exchange_sent e plain.0))

  -- ---- a trace

  -- its text is that of its answers
  pub trace_words : (trace : List Step) → IsPlainTrace setting trace → text setting trace ≡ sent_text (answers_sent setting trace)
  trace_words trace x =
      let es = exchanges trace in
      (spoken setting trace x.traced).says ∙ ap (λ r. exchanges_text setting es ++ refusal_text r) (none_refused trace x.unrefused)
      ∙ append-nil (exchanges_text setting es) ∙ all_words (reverse es) (recursion-reverse (IsPlain setting) es x.plain)

  -- and they are sent
  pub trace_sent : (trace : List Step) → IsPlainTrace setting trace → AreSent (answers_sent setting trace)
  trace_sent trace x = all_sent (exchanges trace) x.plain (trace_come setting trace x.traced) (spoken setting trace x.traced).whole

  -- ---- whose answer each is

  module _ (waits : ℕ → Bool) (counts : CountsAnswers waits) where
    -- after a 100 its request waits on
    abbrev IsAwaited : Exchange → Type 0
    IsAwaited e = e.was_told ≡ true → waits 100 ≡ true

    interim_to : (told : Bool) (method : List ℕ) (more : List (List ℕ)) (rest : List SentAnswer) → (told ≡ true → waits 100 ≡ true)
        → AreTo waits (method ∷ more) rest → AreTo waits (method ∷ more) (interim told method ++ rest)
    interim_to true method more rest lets x =
        (more, refl, subst (λ l. AreTo waits l rest) (sym (cond-true (waits 100) (method ∷ more) more (lets refl))) x)
    interim_to false method more rest lets x = x

    answer_to : (h : Head) (a : AnswerGiven) (more : List (List ℕ)) (rest : List SentAnswer) → IsSelfFramed setting h a → AreTo waits more rest
        → AreTo waits (h.method ∷ more) (sent_answer setting h a ∷ rest)
    answer_to h a more rest framed x =
        let status = a.answered.head.status in
        (more, refl, subst (λ l. AreTo waits l rest) (sym (cond-false (waits status) (h.method ∷ more) more (counts status framed.status))) x)

    -- an exchange that was answered, and those that follow
    exchange_to : (e : Exchange) (more : List (List ℕ)) (rest : List SentAnswer) → IsAwaited e → IsAnswered e → AreTo waits more rest
        → AreTo waits (e.head.method ∷ more) (sent_to setting e ++ rest)
    exchange_to e more rest lets x to =
        let i = interim e.was_told e.head.method in
        subst (AreTo waits (e.head.method ∷ more)) (sym (append_assoc i (sent_by setting e) rest))
        (interim_to e.was_told e.head.method more (sent_by setting e ++ rest) lets (by_reply e.reply x.0.reply x.1.1))
      where
        by_reply : (r : Reply) → IsFramedReply setting e.head r → is_whole r ≡ true
            → AreTo waits (e.head.method ∷ more) (sent_by setting (record { head = e.head; was_told = e.was_told; reply = r }) ++ rest)
        by_reply no_reply framed whole = absurd (false≢true whole)
        by_reply (answer_given a) framed whole = answer_to e.head a more rest framed to
        by_reply (session s) framed whole = absurd framed

    -- the newest one
    newest_to : (e : Exchange) (more : List (List ℕ)) → IsAwaited e → IsPlain setting e → AreTo waits (e.head.method ∷ more) (sent_to setting e)
    newest_to e more lets plain = interim_to e.was_told e.head.method more (sent_by setting e) lets (by_reply e.reply plain.reply)
      where
        by_reply : (r : Reply) → IsFramedReply setting e.head r
            → AreTo waits (e.head.method ∷ more) (sent_by setting (record { head = e.head; was_told = e.was_told; reply = r }))
        by_reply no_reply framed = tt
        by_reply (answer_given a) framed = answer_to e.head a more [] framed tt
        by_reply (session s) framed = tt

    older_to : (es : List Exchange) (more : List (List ℕ)) (rest : List SentAnswer) → AllByRecursion IsAwaited es → AllByRecursion IsAnswered es → AreTo waits more rest
        → AreTo waits (map (λ e. e.head.method) es ++ more) (sent_all es ++ rest)
    older_to [] more rest lets x to = to
    older_to (e ∷ es) more rest lets x to =
        subst (AreTo waits (e.head.method ∷ (map (λ k. k.head.method) es ++ more))) (sym (append_assoc (sent_to setting e) (sent_all es) rest))
        (exchange_to e (map (λ k. k.head.method) es ++ more) (sent_all es ++ rest) lets.0 x.0 (older_to es more rest lets.1 x.1 to))

    all_to : (es : List Exchange) (further : List (List ℕ)) → AllByRecursion IsAwaited es → AllByRecursion (IsPlain setting) es → AllByRecursion HasCome (drop 1 es)
        → All (λ e. is_whole e.reply ≡ true) (drop 1 es) → AreTo waits (map (λ e. e.head.method) (reverse es) ++ further) (sent_all (reverse es))
    all_to [] further lets plain come whole = tt
    all_to (e ∷ es) further lets plain come whole =
        let older = recursion-reverse IsAnswered es (answered_all es plain.1 come whole) in
        let awaited = recursion-reverse IsAwaited es lets.1 in
        let methods : map (λ k. k.head.method) (reverse (e ∷ es)) ++ further ≡ map (λ k. k.head.method) (reverse es) ++ (e.head.method ∷ further) =
        ap (λ l. map (λ (k : Exchange). k.head.method) l ++ further) (reverse-cons e es)
        ∙ ap (λ l. l ++ further) (map-append (λ (k : Exchange). k.head.method) (reverse es) (e ∷ []))
        ∙ append_assoc (map (λ (k : Exchange). k.head.method) (reverse es)) (e.head.method ∷ []) further in
        let is : sent_all (reverse (e ∷ es)) ≡ sent_all (reverse es) ++ sent_to setting e =
        ap sent_all (reverse-cons e es) ∙ flat_map-append (sent_to setting) (reverse es) (e ∷ [])
        ∙ ap (λ (l : List SentAnswer). sent_all (reverse es) ++ l) (append-nil (sent_to setting e)) in
        subst (λ l. AreTo waits l (sent_all (reverse (e ∷ es)))) (sym methods) (subst (AreTo waits (map (λ k. k.head.method) (reverse es) ++ (e.head.method ∷ further))) (sym is)
        (older_to (reverse es) (e.head.method ∷ further) (sent_to setting e) awaited older (newest_to e further lets.0 plain.0)))

  -- who lets requests wait after a 100, or gets none
  awaited_all : (waits : ℕ → Bool) (trace : List Step) → IsWaiting waits trace → AllByRecursion (λ e. e.was_told ≡ true → waits 100 ≡ true) (exchanges trace)
  awaited_all waits trace x = elim x.goes_on [
    | inl lets ↦ always lets (exchanges trace)
    | inr none ↦ never (exchanges trace) (quiet_exchanges trace none)
  ]
    where
      always : waits 100 ≡ true → (es : List Exchange) → AllByRecursion (λ e. e.was_told ≡ true → waits 100 ≡ true) es
      always lets [] = tt
      always lets (e ∷ es) = ((λ told. lets), always lets es)

      never : (es : List Exchange) → AllByRecursion IsQuiet es → AllByRecursion (λ e. e.was_told ≡ true → waits 100 ≡ true) es
      never [] quiet = tt
      never (e ∷ es) quiet = ((λ told. absurd (false≢true (sym quiet.0 ∙ told))), never es quiet.1)

  -- each answer of a trace is to the first of the requests that wait
  pub trace_to : (waits : ℕ → Bool) (trace : List Step) (further : List (List ℕ)) → IsWaiting waits trace → IsPlainTrace setting trace
      → AreTo waits (methods_asked trace ++ further) (answers_sent setting trace)
  trace_to waits trace further w x =
      all_to waits w.counts (exchanges trace) further (awaited_all waits trace w) x.plain (trace_come setting trace x.traced) (spoken setting trace x.traced).whole
