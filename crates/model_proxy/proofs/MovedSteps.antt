-- What holds of replies holds behind a step by which more came of one server connection, or the end of its input.
use Rattle.std.proofs.Common.{◌≡◌, ℕ, ◌<◌, ◌≤◌, Bool, true, false, eqb, suc, List, [], ◌∷◌, ◌++◌, length, filter, drop, refl, sym, ap, ap₂, ◌∙◌, subst, append_assoc, inl, Option, Some, None}
use Rattle.std.specs.Prelude.{⊤, is_some}
use Rattle.std.specs.List.{AllByRecursion}
use Rattle.std.proofs.lemmas.Bool.{false≢true, eqb-true, eqb-false}
use Rattle.std.proofs.lemmas.List.{drop-append-le}
use Rattle.model_h1.specs.Setting.{Setting}
use Rattle.model_h1.specs.Handed.{Begins}
use Rattle.model_h1.specs.Sums.{Step}
use Rattle.model_h1.specs.Laws.Exchanges.{AnswerGiven, Reply, no_reply, answer_given, session, exchanges}
use Rattle.model_h1.specs.Laws.Exchanges as replies
use Rattle.model_client.specs.RequestText.{joined}
use Rattle.model_client.specs.AnswerReading.{Answer}
use Rattle.model_client.specs.AnswerParse.{Received}
use Rattle.model_proxy.specs.Edge.{Edge}
use Rattle.model_proxy.specs.Judged.{is_refused}
use Rattle.model_proxy.specs.Forward.{is_forwardable}
use Rattle.model_proxy.specs.Answers.{Fate, unfinished, bad, whole_at, Found, IsAnswer}
use Rattle.model_proxy.specs.Past.{ProxyStep, servers, server_at, first_of}
use Rattle.model_proxy.specs.Exchange.{Exchange, is_on, first_sent, answer_input}
use Rattle.model_proxy.specs.Forwarding.{IsWhole, IsPassedOn, IsReplyFrom, IsReplyBy, IsReply, AreReplies, HasFailed}
use Rattle.model_proxy.proofs.PlacesKept.{first_before, first_all, IsSentBy}
use Rattle.model_proxy.proofs.Halves.{IsJudged}
use Rattle.model_proxy.proofs.LaterSteps.{all_by, Unmoved, earlier_input, now_input, alone_later, clean_later}
use Rattle.model_proxy.proofs.Came.{came_shorter}
use Rattle.model_proxy.proofs.FoundAnswers.{answer_found}
use Rattle.model_proxy.proofs.FoundGrows.{FoundGrows, answer_grows}

-- ---- a reply that passes an answer on, while more of it comes

whole_place : (f : Fate) → IsWhole f → (place : ℕ) × (f ≡ whole_at place)
whole_place unfinished x = absurd x
whole_place bad x = absurd x
whole_place (whole_at place) x = (place, refl)

begins_on : (a b c : List ℕ) → Begins a b → Begins b c → Begins a c
begins_on a b c x y = (
  x.0 ++ y.0,
  y.1 ∙ ap (λ (l : List ℕ). l ++ y.0) x.1 ∙ append_assoc a x.0 y.0,
)

pub passed_grows : (method : List ℕ) (a : AnswerGiven) (found after : Found) (answer : Answer) → FoundGrows found after → IsPassedOn method a found answer
    → IsPassedOn method a after answer
passed_grows method a found after answer grows x =
    let y = grows.head answer x.response in
    record {
      response = y.0;
      head = x.head;
      size = x.size;
      bytes = begins_on (joined a.pieces) found.bytes after.bytes x.bytes y.1;
      end = λ whole.
          let z = x.end whole in
          let place = whole_place found.fate z.0 in
          let same = grows.whole place.0 place.1 in (
            subst (λ (f : Found). IsWhole f.fate) (sym same) z.0,
            z.1 ∙ sym (ap (λ (f : Found). f.bytes) same),
          );
    }

-- the reply passes on what came of the connection with this number up to so many steps, if there is one
pub record PassesOn (setting : Setting) (history : List ProxyStep) (x : Exchange) (k to : ℕ) (a : AnswerGiven) : Type 0 where
  pub found : Found
  pub is : IsAnswer (answer_input setting history k x.sent_at to) x.pulled.head.method found
  pub answer : Answer
  pub passed : IsPassedOn x.pulled.head.method a found answer

abbrev pub IsPassedReply : Setting → List ProxyStep → Exchange → ℕ → Reply → Type 0
IsPassedReply setting history x k no_reply = ⊤
IsPassedReply setting history x k (answer_given a) = PassesOn setting history x k (length history) a
IsPassedReply setting history x k (session w) = ⊤

-- so is the reply to the newest request on this connection
abbrev pub NewestIsPassed : Setting → List ProxyStep → ℕ → List Exchange → List Exchange → List replies.Exchange → Type 0
NewestIsPassed setting history k later [] fs = ⊤
NewestIsPassed setting history k later (x ∷ xs) [] = ⊤
NewestIsPassed setting history k later (x ∷ xs) (f ∷ fs) =
    (x.server ≡ Some k → filter (is_on k) later ≡ [] → IsPassedReply setting history x k f.reply) × NewestIsPassed setting history k (x ∷ later) xs fs

module _ (setting : Setting) (s : ProxyStep) (history : List ProxyStep) where
  -- these bytes came of it, or the end of its input
  pub record Moved (k : ℕ) (more : List ℕ) : Type 0 where
    pub came : (server_at k (s ∷ history)).came ≡ (server_at k history).came ++ more
    pub going : (server_at k history).ended ≡ false

  pub more_input : (k from : ℕ) (more : List ℕ) → from ≤ length history → Moved k more
      → (answer_input setting (s ∷ history) k from (suc (length history))).bytes ≡ (answer_input setting history k from (length history)).bytes ++ more
  more_input k from more low m =
      ap₂ (λ (a b : List ProxyStep). drop (length (server_at k a).came) (server_at k b).came) (first_before from s history low) (first_all (s ∷ history))
      ∙ ap (λ (came : List ℕ). drop (length (server_at k (first_of from history)).came) came) m.came
      ∙ drop-append-le (length (server_at k (first_of from history)).came) (server_at k history).came more (came_shorter k from history)
      ∙ ap (λ (b : List ProxyStep). drop (length (server_at k (first_of from history)).came) (server_at k b).came ++ more) (sym (first_all history))

  went_on : (k from : ℕ) (more : List ℕ) → Moved k more → (answer_input setting history k from (length history)).ended ≡ false
  went_on k from more m = ap (λ (b : List ProxyStep). (server_at k b).ended) (first_all history) ∙ m.going

  pub grown : (k from : ℕ) (more : List ℕ) (method : List ℕ) (a b : Found) → from ≤ length history → Moved k more
      → IsAnswer (answer_input setting history k from (length history)) method a
      → IsAnswer (answer_input setting (s ∷ history) k from (suc (length history))) method b → FoundGrows a b
  grown k from more method a b low m x y =
      answer_grows (answer_input setting history k from (length history)) (answer_input setting (s ∷ history) k from (suc (length history))) more method a b
      (more_input k from more low m) refl (went_on k from more m) x y

  passes_more : (x : Exchange) (k : ℕ) (more : List ℕ) (a : AnswerGiven) → x.sent_at ≤ length history → Moved k more → PassesOn setting history x k (length history) a
      → PassesOn setting (s ∷ history) x k (suc (length history)) a
  passes_more x k more a low m y =
      let next = answer_found (answer_input setting (s ∷ history) k x.sent_at (suc (length history))) x.pulled.head.method in
      record {
        found = next.0;
        is = next.1;
        answer = y.answer;
        passed = passed_grows x.pulled.head.method a y.found next.0 y.answer (grown k x.sent_at more x.pulled.head.method y.found next.0 low m y.is next.1) y.passed;
      }

  module _ (edge : Edge) (n : ℕ) (more : List ℕ) (moved : Moved n more) (still : (k : ℕ) → (k ≡ n → ⊥) → Unmoved setting s history k) where
    from_input : (x : Exchange) (k to to' : ℕ) (a : AnswerGiven) → answer_input setting (s ∷ history) k x.sent_at to' ≡ answer_input setting history k x.sent_at to
        → IsReplyFrom setting history x k to a → IsReplyFrom setting (s ∷ history) x k to' a
    from_input x k to to' a same y = (y.0, subst (λ (r : Received). IsAnswer r x.pulled.head.method y.0) (sym same) y.1, y.2)

    by_until : (x : Exchange) (k : ℕ) (a : AnswerGiven) (later : List Exchange) → x.sent_at ≤ length history → AllByRecursion (λ y. y.sent_at ≤ length history) later
        → (k ≡ n → later ≡ [] → PassesOn setting history x k (length history) a)
        → IsReplyFrom setting history x k (first_sent (length history) later) a → IsReplyFrom setting (s ∷ history) x k (first_sent (suc (length history)) later) a
    by_until x k a (z ∷ zs) low all passing y = from_input x k z.sent_at z.sent_at a (earlier_input setting s history k x.sent_at z.sent_at low all.0) y
    by_until x k a [] low all passing y = by_test (eqb k n) refl
      where
        by_test : (t : Bool) → eqb k n ≡ t → IsReplyFrom setting (s ∷ history) x k (suc (length history)) a
        by_test true is =
            let same = eqb-true k n is in
            let p = passes_more x k more a low (subst (λ (j : ℕ). Moved j more) (sym same) moved) (passing same refl) in
            (p.found, p.is, inl (p.answer, p.passed))
        by_test false is = from_input x k (length history) (suc (length history)) a (now_input setting s history k x.sent_at low (still k (eqb-false k n is))) y

    reply_by : (x : Exchange) (later : List Exchange) (a : AnswerGiven) (bad_head can was : Bool) (o : Option ℕ) → IsSentBy (length history) x → x.server ≡ o
        → AllByRecursion (IsSentBy (length history)) later
        → (x.server ≡ Some n → filter (is_on n) later ≡ [] → PassesOn setting history x n (length history) a)
        → IsReplyBy edge setting history later x a bad_head can was o → IsReplyBy edge setting (s ∷ history) later x a bad_head can was o
    reply_by x later a true can was o by at all passing y = y
    reply_by x later a false false was o by at all passing y = y
    reply_by x later a false true true o by at all passing y = y
    reply_by x later a false true false None by at all passing y = y
    reply_by x later a false true false (Some k) by at all passing y =
        by_until x k a (filter (is_on k) later) (by k at) (all_by (length history) k later all)
        (λ same none. subst (λ (j : ℕ). PassesOn setting history x j (length history) a) (sym same)
        (passing (at ∙ ap Some same) (subst (λ (j : ℕ). filter (is_on j) later ≡ []) same none))) y

    reply_moved : (x : Exchange) (later : List Exchange) (r : Reply) → IsSentBy (length history) x → AllByRecursion (IsSentBy (length history)) later
        → (x.server ≡ Some n → filter (is_on n) later ≡ [] → IsPassedReply setting history x n r)
        → IsReply edge setting history later x r → IsReply edge setting (s ∷ history) later x r
    reply_moved x later no_reply by all passing y = tt
    reply_moved x later (answer_given a) by all passing y =
        reply_by x later a (is_refused edge x.pulled.head) (is_forwardable edge x.pulled.head) x.was_refused x.server by refl all passing y
    reply_moved x later (session w) by all passing y = absurd y

    pub replies_moved : (later xs : List Exchange) (fs : List replies.Exchange) → AllByRecursion (IsSentBy (length history)) later
        → AllByRecursion (IsSentBy (length history)) xs → NewestIsPassed setting history n later xs fs
        → AreReplies edge setting history later xs fs → AreReplies edge setting (s ∷ history) later xs fs
    replies_moved later [] [] before all passing y = tt
    replies_moved later [] (f ∷ fs) before all passing y = absurd y
    replies_moved later (x ∷ xs) [] before all passing y = absurd y
    replies_moved later (x ∷ xs) (f ∷ fs) before all passing y =
        (y.0, reply_moved x later f.reply all.0 before passing.0 y.1, replies_moved (x ∷ later) xs fs (all.0, before) all.1 passing.1 y.2)

    one_passing : (x : Exchange) (r : Reply) → x.sent_at ≤ length history → IsPassedReply setting history x n r → IsPassedReply setting (s ∷ history) x n r
    one_passing x no_reply low y = tt
    one_passing x (answer_given a) low y = passes_more x n more a low moved y
    one_passing x (session w) low y = tt

    -- it goes on so
    pub passing_moved : (later xs : List Exchange) (fs : List replies.Exchange) → AllByRecursion (IsSentBy (length history)) xs
        → NewestIsPassed setting history n later xs fs → NewestIsPassed setting (s ∷ history) n later xs fs
    passing_moved later [] fs all passing = tt
    passing_moved later (x ∷ xs) [] all passing = tt
    passing_moved later (x ∷ xs) (f ∷ fs) all passing = (
      λ at none. one_passing x f.reply (all.0 n at) (passing.0 at none),
      passing_moved (x ∷ later) xs fs all.1 passing.1,
    )

    failed_by : (x : Exchange) (k : ℕ) (found : Found) (t : Bool) → eqb k n ≡ t → x.sent_at ≤ length history
        → IsAnswer (answer_input setting history k x.sent_at (length history)) x.pulled.head.method found
        → (is_some found.response ≡ true) × (found.fate ≡ bad)
        → (after : Found) × IsAnswer (answer_input setting (s ∷ history) k x.sent_at (suc (length history))) x.pulled.head.method after
        × (is_some after.response ≡ true) × (after.fate ≡ bad)
    failed_by x k found false is low y z = (
      found,
      subst (λ (r : Received). IsAnswer r x.pulled.head.method found) (sym (now_input setting s history k x.sent_at low (still k (eqb-false k n is)))) y,
      z.0,
      z.1,
    )
    failed_by x k found true is low y z =
        let same = eqb-true k n is in
        let next = answer_found (answer_input setting (s ∷ history) k x.sent_at (suc (length history))) x.pulled.head.method in
        let grows = grown k x.sent_at more x.pulled.head.method found next.0 low (subst (λ (j : ℕ). Moved j more) (sym same) moved) y next.1 in
        let it : next.0 ≡ found = spoiled_of found next.0 found.response refl z.0 z.1 grows in (
          next.0,
          next.1,
          subst (λ (f : Found). is_some f.response ≡ true) (sym it) z.0,
          subst (λ (f : Found). f.fate ≡ bad) (sym it) z.1,
        )
      where
        spoiled_of : (a b : Found) (o : Option Answer) → a.response ≡ o → is_some a.response ≡ true → a.fate ≡ bad → FoundGrows a b → b ≡ a
        spoiled_of a b None is some fate grows =
            let no : false ≡ true = sym (ap (λ (o : Option Answer). is_some o) is) ∙ some in
            absurd (false≢true no)
        spoiled_of a b (Some answer) is some fate grows = grows.spoiled answer is fate

    pub failed_moved : (xs : List Exchange) → AllByRecursion (IsSentBy (length history)) xs → HasFailed setting history xs → HasFailed setting (s ∷ history) xs
    failed_moved [] all y = y
    failed_moved (x ∷ xs) all y =
        let z = failed_by x y.0 y.2 (eqb y.0 n) refl (all.0 y.0 y.1) y.3 (y.4, y.5) in
        (y.0, y.1, z.0, z.1, z.2, z.3)

    -- while it is open
    pub judged_moved : (waiting after : Option (List ℕ)) (trace : List Step) (xs : List Exchange) → AllByRecursion (IsSentBy (length history)) xs
        → length (servers (s ∷ history)) ≡ length (servers history) → (after ≡ None → ⊥) → NewestIsPassed setting history n [] xs (exchanges trace)
        → IsJudged edge setting history waiting trace xs → IsJudged edge setting (s ∷ history) after trace xs
    judged_moved waiting after trace xs all many opens passing x = record {
      undrained = x.undrained;
      used = λ none k newest. absurd (opens none);
      told = x.told;
      replied = replies_moved [] xs (exchanges trace) tt all passing x.replied;
      clean = λ k low. clean_later setting s history k xs all (x.clean k (subst (λ (n : ℕ). k < n) many low));
      alone = alone_later setting s history [] xs tt all x.alone;
      failed = λ is. failed_moved xs all (x.failed is);
    }
