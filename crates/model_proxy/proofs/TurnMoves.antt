-- What holds of replies and answers holds behind what a turn does of a request: its head is handed out, more of it is taken, or it is sent on.
use Rattle.std.proofs.Common.{◌≡◌, ℕ, Bool, true, false, cond, List, [], ◌∷◌, ◌++◌, length, filter, reverse, refl, sym, ap, subst, inl, inr, Option, Some, None}
use Rattle.std.specs.List.{AllByRecursion}
use Rattle.std.proofs.lemmas.Bool.{false≢true}
use Rattle.std.proofs.lemmas.List.{reverse-append}
use Rattle.model_h1.specs.Request.{Head}
use Rattle.model_h1.specs.Setting.{Setting}
use Rattle.model_h1.specs.Event as on
use Rattle.model_h1.specs.Sums.{Step, since_head}
use Rattle.model_h1.specs.Laws.Exchanges.{AnswerGiven, Reply, no_reply, answer_given, session, exchanges, changed_by, newest_changed, begun}
use Rattle.model_h1.specs.Laws.Exchanges as replies
use Rattle.model_proxy.specs.Edge.{Edge}
use Rattle.model_proxy.specs.Judged.{is_refused}
use Rattle.model_proxy.specs.Forward.{is_forwardable}
use Rattle.model_proxy.specs.Past.{ProxyStep, Server, server_at}
use Rattle.model_proxy.specs.Exchange.{unpulled, Exchange, is_on, first_sent, until}
use Rattle.model_proxy.specs.Forwarding.{IsReplyFrom, IsReplyBy, IsReply, AreReplies, IsToldRightly, IsAloneBefore, IsAloneOn, AreAlone, IsCleanAtFirst, IsUsed}
use Rattle.model_proxy.proofs.Halves.{IsJudged}
use Rattle.model_proxy.proofs.SilentSteps.{none_changed}

module _ (edge : Edge) (setting : Setting) (history : List ProxyStep) where
  -- ---- which later ones there are

  until_more : (x : Exchange) (later others : List Exchange) → ((k : ℕ) → until history k later ≡ until history k others) → (k : ℕ)
      → until history k (x ∷ later) ≡ until history k (x ∷ others)
  until_more x later others same k = by_test (is_on k x)
    where
      by_test : (t : Bool) → first_sent (length history) (cond t (x ∷ filter (is_on k) later) (filter (is_on k) later))
          ≡ first_sent (length history) (cond t (x ∷ filter (is_on k) others) (filter (is_on k) others))
      by_test true = refl
      by_test false = same k

  reply_by_as : (x : Exchange) (later others : List Exchange) (a : AnswerGiven) (bad can was : Bool) (o : Option ℕ)
      → ((k : ℕ) → until history k later ≡ until history k others) → IsReplyBy edge setting history later x a bad can was o
      → IsReplyBy edge setting history others x a bad can was o
  reply_by_as x later others a true can was o same y = y
  reply_by_as x later others a false false was o same y = y
  reply_by_as x later others a false true true o same y = y
  reply_by_as x later others a false true false None same y = y
  reply_by_as x later others a false true false (Some k) same y = subst (λ (to : ℕ). IsReplyFrom setting history x k to a) (same k) y

  reply_as : (x : Exchange) (later others : List Exchange) (r : Reply) → ((k : ℕ) → until history k later ≡ until history k others)
      → IsReply edge setting history later x r → IsReply edge setting history others x r
  reply_as x later others no_reply same y = tt
  reply_as x later others (answer_given a) same y =
      reply_by_as x later others a (is_refused edge x.pulled.head) (is_forwardable edge x.pulled.head) x.was_refused x.server same y
  reply_as x later others (session w) same y = absurd y

  -- replies are judged by where the next request was sent on, and by nothing else of the later ones
  pub replies_as : (later others xs : List Exchange) (fs : List replies.Exchange) → ((k : ℕ) → until history k later ≡ until history k others)
      → AreReplies edge setting history later xs fs → AreReplies edge setting history others xs fs
  replies_as later others [] [] same y = tt
  replies_as later others [] (f ∷ fs) same y = absurd y
  replies_as later others (x ∷ xs) [] same y = absurd y
  replies_as later others (x ∷ xs) (f ∷ fs) same y =
      (y.0, reply_as x later others f.reply same y.1, replies_as (x ∷ later) (x ∷ others) xs fs (until_more x later others same) y.2)

  abbrev AloneAs : List Exchange → List Exchange → Type 0
  AloneAs later others = (y : Exchange) (k : ℕ) → IsAloneBefore setting history y k (filter (is_on k) later) → IsAloneBefore setting history y k (filter (is_on k) others)

  as_more : (x : Exchange) (later others : List Exchange) → AloneAs later others → AloneAs (x ∷ later) (x ∷ others)
  as_more x later others so y k = by_test (is_on k x)
    where
      by_test : (t : Bool) → IsAloneBefore setting history y k (cond t (x ∷ filter (is_on k) later) (filter (is_on k) later))
          → IsAloneBefore setting history y k (cond t (x ∷ filter (is_on k) others) (filter (is_on k) others))
      by_test true z = z
      by_test false z = so y k z

  alone_on_as : (x : Exchange) (later others : List Exchange) (o : Option ℕ) → AloneAs later others → IsAloneOn setting history later x o
      → IsAloneOn setting history others x o
  alone_on_as x later others None so y = tt
  alone_on_as x later others (Some k) so y = so x k y

  pub alone_as : (later others xs : List Exchange) → AloneAs later others → AreAlone setting history later xs → AreAlone setting history others xs
  alone_as later others [] so y = tt
  alone_as later others (x ∷ xs) so y =
      (alone_on_as x later others x.server so y.0, alone_as (x ∷ later) (x ∷ others) xs (as_more x later others so) y.1)

  -- none is later
  pub alone_first : (x : Exchange) (o : Option ℕ) → IsAloneOn setting history [] x o
  alone_first x None = tt
  alone_first x (Some k) = tt

  -- ---- its head is handed out

  pub head_exchanges : (h : Head) (trace : List Step) → exchanges (record { event = on.next; outcome = on.head h } ∷ trace) ≡ begun h ∷ exchanges trace
  unfolding exchanges changed_by
  head_exchanges h trace = ap (λ (fs : List replies.Exchange). begun h ∷ fs) (none_changed (λ (e : replies.Exchange). e) (λ e. refl) (exchanges trace))

  pub judged_begun : (h : Head) (waiting : Option (List ℕ)) (trace : List Step) (xs : List Exchange) → IsJudged edge setting history waiting trace xs
      → IsJudged edge setting history waiting (record { event = on.next; outcome = on.head h } ∷ trace)
      (record { pulled = unpulled h; server = None; sent_at = 0; was_refused = false } ∷ xs)
  unfolding since_head
  judged_begun h waiting trace xs x =
      let new : Exchange = record { pulled = unpulled h; server = None; sent_at = 0; was_refused = false } in
      record {
        undrained = x.undrained;
        used = x.used;
        told = subst (λ (fs : List replies.Exchange). AllByRecursion (IsToldRightly edge) fs) (sym (head_exchanges h trace)) (λ t. absurd (false≢true t), x.told);
        replied = subst (λ (fs : List replies.Exchange). AreReplies edge setting history [] (new ∷ xs) fs) (sym (head_exchanges h trace))
            (refl, tt, replies_as [] (new ∷ []) xs (exchanges trace) (λ k. refl) x.replied);
        clean = x.clean;
        alone = (tt, alone_as [] (new ∷ []) xs (λ y k z. z) x.alone);
        failed = λ is. absurd (false≢true is);
      }

  -- ---- more of it is taken

  abbrev pub taken_of : Exchange → List (List ℕ) → Bool → Bool → Exchange
  taken_of x pieces is_ended is_broken = record x { pulled = record { head = x.pulled.head; pieces = pieces; is_ended = is_ended; is_broken = is_broken } }

  module _ (x : Exchange) (pieces : List (List ℕ)) (is_ended is_broken : Bool) (broken : x.pulled.is_broken ≡ true → is_broken ≡ true) where
    taken_by : (later : List Exchange) (a : AnswerGiven) (bad can was : Bool) (o : Option ℕ) → IsReplyBy edge setting history later x a bad can was o
        → IsReplyBy edge setting history later (taken_of x pieces is_ended is_broken) a bad can was o
    taken_by later a true can was o y = y
    taken_by later a false false was o y = y
    taken_by later a false true true o y = y
    taken_by later a false true false None y = y
    taken_by later a false true false (Some k) (found, is, inl passed) = (found, is, inl passed)
    taken_by later a false true false (Some k) (found, is, inr (none, inl own)) = (found, is, inr (none, inl own))
    taken_by later a false true false (Some k) (found, is, inr (none, inr own)) = (found, is, inr (none, inr (broken own.0, own.1)))

    taken_reply : (later : List Exchange) (r : Reply) → IsReply edge setting history later x r
        → IsReply edge setting history later (taken_of x pieces is_ended is_broken) r
    taken_reply later no_reply y = tt
    taken_reply later (answer_given a) y =
        taken_by later a (is_refused edge x.pulled.head) (is_forwardable edge x.pulled.head) x.was_refused x.server y
    taken_reply later (session w) y = absurd y

    until_taken : (k : ℕ) → until history k (x ∷ []) ≡ until history k (taken_of x pieces is_ended is_broken ∷ [])
    until_taken k = by_test (is_on k x)
      where
        by_test : (t : Bool) → first_sent (length history) (cond t (x ∷ []) []) ≡ first_sent (length history) (cond t (taken_of x pieces is_ended is_broken ∷ []) [])
        by_test true = refl
        by_test false = refl

    alone_taken : AloneAs (x ∷ []) (taken_of x pieces is_ended is_broken ∷ [])
    alone_taken y k = by_test (is_on k x)
      where
        by_test : (t : Bool) → IsAloneBefore setting history y k (cond t (x ∷ []) [])
            → IsAloneBefore setting history y k (cond t (taken_of x pieces is_ended is_broken ∷ []) [])
        by_test true z = z
        by_test false z = z

    clean_last : (k : ℕ) (ys : List Exchange) → IsCleanAtFirst history k (ys ++ x ∷ []) → IsCleanAtFirst history k (ys ++ taken_of x pieces is_ended is_broken ∷ [])
    clean_last k [] y = y
    clean_last k (z ∷ ys) y = y

    clean_taken : (k : ℕ) (ys : List Exchange) (t : Bool) → IsCleanAtFirst history k (reverse (cond t (x ∷ ys) ys))
        → IsCleanAtFirst history k (reverse (cond t (taken_of x pieces is_ended is_broken ∷ ys) ys))
    clean_taken k ys false y = y
    clean_taken k ys true y =
        subst (IsCleanAtFirst history k) (sym (reverse-append (taken_of x pieces is_ended is_broken ∷ []) ys))
        (clean_last k (reverse ys) (subst (IsCleanAtFirst history k) (reverse-append (x ∷ []) ys) y))

    used_taken : (k : ℕ) (ys : List Exchange) (t : Bool) (v : Server) → IsUsed (cond t (x ∷ ys) ys) v → IsUsed (cond t (taken_of x pieces is_ended is_broken ∷ ys) ys) v
    used_taken k ys false v y = y
    used_taken k ys true v y = tt

    replied_taken : (xs : List Exchange) (fs : List replies.Exchange) → AreReplies edge setting history [] (x ∷ xs) fs
        → AreReplies edge setting history [] (taken_of x pieces is_ended is_broken ∷ xs) fs
    replied_taken xs [] y = absurd y
    replied_taken xs (f ∷ fs) y =
        (y.0, taken_reply [] f.reply y.1, replies_as (x ∷ []) (taken_of x pieces is_ended is_broken ∷ []) xs fs until_taken y.2)

    pub judged_taken : (waiting : Option (List ℕ)) (trace : List Step) (xs : List Exchange) → IsJudged edge setting history waiting trace (x ∷ xs)
        → IsJudged edge setting history waiting trace (taken_of x pieces is_ended is_broken ∷ xs)
    judged_taken waiting trace xs y = record {
      undrained = y.undrained;
      used = λ none k newest. used_taken k (filter (is_on k) xs) (is_on k x) (server_at k history) (y.used none k newest);
      told = y.told;
      replied = replied_taken xs (exchanges trace) y.replied;
      clean = λ k low. clean_taken k (filter (is_on k) xs) (is_on k x) (y.clean k low);
      alone = (alone_first (taken_of x pieces is_ended is_broken) x.server, alone_as (x ∷ []) (taken_of x pieces is_ended is_broken ∷ []) xs alone_taken y.alone.1);
      failed = λ is. y.failed is;
    }
