-- What holds of replies and answers holds behind a further step by which nothing came of a server.
use Rattle.std.proofs.Common.{◌≡◌, ◌⊎◌, ℕ, ◌<◌, ◌≤◌, Bool, true, false, cond, suc, List, [], ◌∷◌, ◌++◌, length, filter, reverse, drop, refl, sym, ap, ap₂, ◌∙◌, subst, inl, inr, Option, Some, None}
use Rattle.std.specs.List.{AllByRecursion}
use Rattle.std.proofs.lemmas.List.{reverse-append}
use Rattle.std.proofs.lemmas.Bool.{false≢true}
use Rattle.model_h1.specs.Setting.{Setting}
use Rattle.model_h1.specs.Sums.{Step}
use Rattle.model_h1.specs.Laws.Exchanges.{AnswerGiven, Reply, no_reply, answer_given, session, exchanges}
use Rattle.model_h1.specs.Laws.Exchanges as replies
use Rattle.model_client.specs.AnswerParse.{Received}
use Rattle.model_proxy.specs.Edge.{Edge}
use Rattle.model_proxy.specs.Judged.{is_refused}
use Rattle.model_proxy.specs.Forward.{is_forwardable}
use Rattle.model_proxy.specs.Answers.{whole_at, IsAnswer}
use Rattle.model_proxy.specs.Past.{ProxyStep, Server, servers, server_at, first_of}
use Rattle.model_proxy.specs.Exchange.{Exchange, is_on, first_sent, answer_input}
use Rattle.model_proxy.specs.Forwarding.{IsReplyBy, IsReply, AreReplies, IsAloneBefore, IsAloneOn, AreAlone, IsCleanAtFirst, IsUsed, HasFailed}
use Rattle.model_proxy.proofs.PlacesKept.{first_before, first_all, IsSentBy}
use Rattle.model_proxy.proofs.Halves.{IsJudged}

-- ---- requests on one connection

by_number : (n k : ℕ) (x : Exchange) → (o : Option ℕ) → x.server ≡ o → is_on k x ≡ true → IsSentBy n x → x.sent_at ≤ n
by_number n k x None at is by =
    let no : false ≡ true = sym (ap (λ (s : Option ℕ). is_on k (record x { server = s })) at) ∙ is in
    absurd (false≢true no)
by_number n k x (Some j) at is by = by j at

-- each that was sent on this connection was by so many steps
pub all_by : (n k : ℕ) (xs : List Exchange) → AllByRecursion (IsSentBy n) xs → AllByRecursion (λ x. x.sent_at ≤ n) (filter (is_on k) xs)
all_by n k [] all = tt
all_by n k (x ∷ xs) all = by_test (all_by n k xs all.1) (is_on k x) refl
  where
    by_test : AllByRecursion (λ x. x.sent_at ≤ n) (filter (is_on k) xs) → (t : Bool) → is_on k x ≡ t
        → AllByRecursion (λ x. x.sent_at ≤ n) (cond t (x ∷ filter (is_on k) xs) (filter (is_on k) xs))
    by_test rest true is = (by_number n k x x.server refl is all.0, rest)
    by_test rest false is = rest

all_back : (P : Exchange → Type 0) (xs : List Exchange) → AllByRecursion P xs → AllByRecursion P (reverse xs)
all_back P [] all = tt
all_back P (x ∷ xs) all = subst (AllByRecursion P) (sym (reverse-append (x ∷ []) xs)) (one_more (reverse xs) (all_back P xs all.1))
  where
    one_more : (ys : List Exchange) → AllByRecursion P ys → AllByRecursion P (ys ++ x ∷ [])
    one_more [] y = (all.0, tt)
    one_more (z ∷ ys) y = (y.0, one_more ys y.1)

-- ---- what came of a connection

module _ (setting : Setting) (s : ProxyStep) (history : List ProxyStep) where
  -- nothing came of it by the step, and not its end
  pub record Unmoved (k : ℕ) : Type 0 where
    pub came : (server_at k (s ∷ history)).came ≡ (server_at k history).came
    pub ended : (server_at k (s ∷ history)).ended ≡ (server_at k history).ended

  pub earlier_input : (k from to : ℕ) → from ≤ length history → to ≤ length history
      → answer_input setting (s ∷ history) k from to ≡ answer_input setting history k from to
  earlier_input k from to low up =
      ap₂ (λ (a b : List ProxyStep). record {
        bytes = drop (length (server_at k a).came) (server_at k b).came;
        ended = (server_at k b).ended;
        hold_size = Some setting.hold_size;
      }) (first_before from s history low) (first_before to s history up)

  pub now_input : (k from : ℕ) → from ≤ length history → Unmoved k
      → answer_input setting (s ∷ history) k from (suc (length history)) ≡ answer_input setting history k from (length history)
  now_input k from low u =
      let hold = Some setting.hold_size in
      ap₂ (λ (a b : List ProxyStep). record {
        bytes = drop (length (server_at k a).came) (server_at k b).came;
        ended = (server_at k b).ended;
        hold_size = hold;
      }) (first_before from s history low) (first_all (s ∷ history))
      ∙ ap (λ (came : List ℕ). record {
        bytes = drop (length (server_at k (first_of from history)).came) came;
        ended = (server_at k (s ∷ history)).ended;
        hold_size = hold;
      }) u.came
      ∙ ap (λ (ended : Bool). record {
        bytes = drop (length (server_at k (first_of from history)).came) (server_at k history).came;
        ended = ended;
        hold_size = hold;
      }) u.ended
      ∙ sym (ap (λ (b : List ProxyStep). record {
        bytes = drop (length (server_at k (first_of from history)).came) (server_at k b).came;
        ended = (server_at k b).ended;
        hold_size = hold;
      }) (first_all history))

  -- up to where the next of these was sent on, or to the end
  pub input_until : (k from : ℕ) (later : List Exchange) → from ≤ length history → AllByRecursion (λ y. y.sent_at ≤ length history) later → Unmoved k
      → answer_input setting (s ∷ history) k from (first_sent (suc (length history)) later) ≡ answer_input setting history k from (first_sent (length history) later)
  input_until k from [] low all u = now_input k from low u
  input_until k from (y ∷ later) low all u = earlier_input k from y.sent_at low all.0

  -- ---- one answer a request

  alone_before : (x : Exchange) (k : ℕ) (later : List Exchange) → x.sent_at ≤ length history → AllByRecursion (λ y. y.sent_at ≤ length history) later
      → IsAloneBefore setting history x k later → IsAloneBefore setting (s ∷ history) x k later
  alone_before x k [] by all y = tt
  alone_before x k (next ∷ more) by all y = (
    y.0,
    subst (λ (r : Received). IsAnswer r x.pulled.head.method y.0) (sym (earlier_input k x.sent_at next.sent_at by all.0)) y.1,
    y.2 ∙ ap (λ (r : Received). whole_at (length r.bytes)) (sym (earlier_input k x.sent_at next.sent_at by all.0)),
    ap (λ (r : Received). r.ended) (earlier_input k x.sent_at next.sent_at by all.0) ∙ y.3,
    y.4,
  )

  alone_on : (x : Exchange) (later : List Exchange) (o : Option ℕ) → IsSentBy (length history) x → x.server ≡ o
      → AllByRecursion (IsSentBy (length history)) later → IsAloneOn setting history later x o → IsAloneOn setting (s ∷ history) later x o
  alone_on x later None by at all y = y
  alone_on x later (Some k) by at all y = alone_before x k (filter (is_on k) later) (by k at) (all_by (length history) k later all) y

  pub alone_later : (later xs : List Exchange) → AllByRecursion (IsSentBy (length history)) later → AllByRecursion (IsSentBy (length history)) xs
      → AreAlone setting history later xs → AreAlone setting (s ∷ history) later xs
  alone_later later [] before all y = tt
  alone_later later (x ∷ xs) before all y =
      (alone_on x later x.server all.0 refl before y.0, alone_later (x ∷ later) xs (all.0, before) all.1 y.1)

  clean_first : (k : ℕ) (xs : List Exchange) → AllByRecursion (λ y. y.sent_at ≤ length history) xs → IsCleanAtFirst history k xs
      → IsCleanAtFirst (s ∷ history) k xs
  clean_first k [] all y = tt
  clean_first k (x ∷ xs) all y =
      let same : server_at k (first_of x.sent_at (s ∷ history)) ≡ server_at k (first_of x.sent_at history) =
      ap (server_at k) (first_before x.sent_at s history all.0) in
      (ap (λ (v : Server). v.came) same ∙ y.0, ap (λ (v : Server). v.ended) same ∙ y.1)

  pub clean_later : (k : ℕ) (xs : List Exchange) → AllByRecursion (IsSentBy (length history)) xs → IsCleanAtFirst history k (reverse (filter (is_on k) xs))
      → IsCleanAtFirst (s ∷ history) k (reverse (filter (is_on k) xs))
  clean_later k xs all y =
      clean_first k (reverse (filter (is_on k) xs)) (all_back (λ y. y.sent_at ≤ length history) (filter (is_on k) xs) (all_by (length history) k xs all)) y

  module _ (edge : Edge) (still : (k : ℕ) → Unmoved k) where
    -- ---- replies

    reply_by : (x : Exchange) (later : List Exchange) (a : AnswerGiven) (bad can was : Bool) (o : Option ℕ) → IsSentBy (length history) x → x.server ≡ o
        → AllByRecursion (IsSentBy (length history)) later → IsReplyBy edge setting history later x a bad can was o
        → IsReplyBy edge setting (s ∷ history) later x a bad can was o
    reply_by x later a true can was o by at all y = y
    reply_by x later a false false was o by at all y = y
    reply_by x later a false true true o by at all y = y
    reply_by x later a false true false None by at all y = y
    reply_by x later a false true false (Some k) by at all y = (
      y.0,
      subst (λ (r : Received). IsAnswer r x.pulled.head.method y.0)
          (sym (input_until k x.sent_at (filter (is_on k) later) (by k at) (all_by (length history) k later all) (still k))) y.1,
      y.2,
    )

    reply_later : (x : Exchange) (later : List Exchange) (r : Reply) → IsSentBy (length history) x → AllByRecursion (IsSentBy (length history)) later
        → IsReply edge setting history later x r → IsReply edge setting (s ∷ history) later x r
    reply_later x later no_reply by all y = tt
    reply_later x later (answer_given a) by all y =
        reply_by x later a (is_refused edge x.pulled.head) (is_forwardable edge x.pulled.head) x.was_refused x.server by refl all y
    reply_later x later (session w) by all y = absurd y

    replies_later : (later xs : List Exchange) (fs : List replies.Exchange) → AllByRecursion (IsSentBy (length history)) later
        → AllByRecursion (IsSentBy (length history)) xs → AreReplies edge setting history later xs fs → AreReplies edge setting (s ∷ history) later xs fs
    replies_later later [] [] before all y = tt
    replies_later later [] (f ∷ fs) before all y = absurd y
    replies_later later (x ∷ xs) [] before all y = absurd y
    replies_later later (x ∷ xs) (f ∷ fs) before all y =
        (y.0, reply_later x later f.reply all.0 before y.1, replies_later (x ∷ later) xs fs (all.0, before) all.1 y.2)

    -- ---- the rest

    used_still : (k : ℕ) (xs : List Exchange) → IsUsed xs (server_at k history) → IsUsed xs (server_at k (s ∷ history))
    used_still k [] (inl ended) = inl ((still k).ended ∙ ended)
    used_still k [] (inr some) = inr (λ none. some (sym (still k).came ∙ none))
    used_still k (x ∷ xs) y = tt

    failed_still : (xs : List Exchange) → AllByRecursion (IsSentBy (length history)) xs → HasFailed setting history xs → HasFailed setting (s ∷ history) xs
    failed_still [] all y = y
    failed_still (x ∷ xs) all y = (
      y.0,
      y.1,
      y.2,
      subst (λ (r : Received). IsAnswer r x.pulled.head.method y.2) (sym (now_input y.0 x.sent_at (all.0 y.0 y.1) (still y.0))) y.3,
      y.4,
      y.5,
    )

    -- while there are as many connections, and none is closed
    pub judged_later : (waiting after : Option (List ℕ)) (trace : List Step) (xs : List Exchange) → AllByRecursion (IsSentBy (length history)) xs
        → length (servers (s ∷ history)) ≡ length (servers history) → (after ≡ None → waiting ≡ None)
        → IsJudged edge setting history waiting trace xs → IsJudged edge setting (s ∷ history) after trace xs
    judged_later waiting after trace xs all many closes x = record {
      undrained = x.undrained;
      used = λ none k newest. used_still k (filter (is_on k) xs) (x.used (closes none) k (newest ∙ many));
      told = x.told;
      replied = replies_later [] xs (exchanges trace) tt all x.replied;
      clean = λ k low. clean_later k xs all (x.clean k (subst (λ (n : ℕ). k < n) many low));
      alone = alone_later [] xs tt all x.alone;
      failed = λ is. failed_still xs all (x.failed is);
    }

    -- where one is new, on which no request was sent
    pub judged_opened : (waiting after : Option (List ℕ)) (trace : List Step) (xs : List Exchange) → AllByRecursion (IsSentBy (length history)) xs
        → (after ≡ None → ⊥) → ((k : ℕ) → k < length (servers (s ∷ history)) → (k < length (servers history)) ⊎ (filter (is_on k) xs ≡ []))
        → IsJudged edge setting history waiting trace xs → IsJudged edge setting (s ∷ history) after trace xs
    judged_opened waiting after trace xs all opens which x = record {
      undrained = x.undrained;
      used = λ none k newest. absurd (opens none);
      told = x.told;
      replied = replies_later [] xs (exchanges trace) tt all x.replied;
      clean = λ k low. clean_by k (which k low);
      alone = alone_later [] xs tt all x.alone;
      failed = λ is. failed_still xs all (x.failed is);
    }
      where
        clean_by : (k : ℕ) → (k < length (servers history)) ⊎ (filter (is_on k) xs ≡ []) → IsCleanAtFirst (s ∷ history) k (reverse (filter (is_on k) xs))
        clean_by k (inl low) = clean_later k xs all (x.clean k low)
        clean_by k (inr none) = subst (λ (ys : List Exchange). IsCleanAtFirst (s ∷ history) k (reverse ys)) (sym none) tt
