-- What holds of replies and answers holds where a turn sends the newest request on.
use Rattle.std.proofs.Common.{◌≡◌, ℕ, Bool, true, false, cond, eqb, List, [], ◌∷◌, ◌++◌, length, filter, reverse, refl, sym, ap, ◌∙◌, subst, append-nil, Option, Some, None}
use Rattle.std.specs.Prelude.{⊤}
use Rattle.std.proofs.lemmas.Bool.{eqb-true}
use Rattle.std.proofs.lemmas.List.{reverse-append}
use Rattle.std.proofs.lemmas.List.Elements.{filter-append}
use Rattle.model_h1.specs.Setting.{Setting}
use Rattle.model_h1.specs.Sums.{Step}
use Rattle.model_h1.specs.Laws.Exchanges.{Reply, no_reply, exchanges}
use Rattle.model_h1.specs.Laws.Exchanges as replies
use Rattle.model_proxy.specs.Edge.{Edge}
use Rattle.model_proxy.specs.Past.{ProxyStep, Server, server_at}
use Rattle.model_proxy.specs.Exchange.{Exchange, is_on, first_sent, until}
use Rattle.model_proxy.specs.Forwarding.{IsReply, AreReplies, IsAlone, IsAloneBefore, IsAloneOn, AreAlone, IsCleanAtFirst, IsUsed, HasFailed}
use Rattle.model_proxy.proofs.PlacesKept.{first_all, sent_now}
use Rattle.model_proxy.proofs.Halves.{IsJudged}
use Rattle.model_proxy.proofs.TurnMoves.{replies_as, alone_first}

-- ---- when it may be

-- the last request on this connection has its whole answer, and nothing came behind it
abbrev pub LastIsAlone : Setting → List ProxyStep → ℕ → List Exchange → List Exchange → Type 0
LastIsAlone setting history n later [] = ⊤
LastIsAlone setting history n later (y ∷ ys) =
    (y.server ≡ Some n → filter (is_on n) later ≡ [] → IsAlone setting history y n (length history)) × LastIsAlone setting history n (y ∷ later) ys

-- where none was sent there, nothing came of it
abbrev pub IsFreshFor : List ProxyStep → ℕ → List Exchange → Type 0
IsFreshFor history n xs = filter (is_on n) xs ≡ [] → ((server_at n history).came ≡ []) × ((server_at n history).ended ≡ false)

module _ (edge : Edge) (setting : Setting) (history : List ProxyStep) (n : ℕ) (x : Exchange) (unsent : x.server ≡ None) where
  off_all : (k : ℕ) → is_on k x ≡ false
  off_all k = ap (λ (s : Option ℕ). is_on k (record x { server = s })) unsent

  left_out : (k : ℕ) (ys : List Exchange) → filter (is_on k) (x ∷ ys) ≡ filter (is_on k) ys
  left_out k ys = ap (λ (t : Bool). cond t (x ∷ filter (is_on k) ys) (filter (is_on k) ys)) (off_all k)

  -- ---- replies

  until_sent : (k : ℕ) → until history k (x ∷ []) ≡ until history k (sent_now n history x ∷ [])
  until_sent k = ap (first_sent (length history)) (left_out k []) ∙ by_test (eqb n k)
    where
      by_test : (t : Bool) → length history ≡ first_sent (length history) (cond t (sent_now n history x ∷ []) [])
      by_test true = refl
      by_test false = refl

  replied_sent : (xs : List Exchange) (fs : List replies.Exchange) (f : replies.Exchange) → f.reply ≡ no_reply → AreReplies edge setting history [] (x ∷ xs) (f ∷ fs)
      → AreReplies edge setting history [] (sent_now n history x ∷ xs) (f ∷ fs)
  replied_sent xs fs f none y = (
    y.0,
    subst (λ (r : Reply). IsReply edge setting history [] (sent_now n history x) r) (sym none) tt,
    replies_as edge setting history (x ∷ []) (sent_now n history x ∷ []) xs fs until_sent y.2,
  )

  -- ---- one answer a request

  last_off : (k : ℕ) (later : List Exchange) → filter (is_on k) (later ++ x ∷ []) ≡ filter (is_on k) later ++ []
  last_off k later = filter-append (is_on k) later (x ∷ []) ∙ ap (λ (ys : List Exchange). filter (is_on k) later ++ ys) (left_out k [])

  alone_by : (y : Exchange) (k : ℕ) (later : List Exchange) (t : Bool) → eqb n k ≡ t → (k ≡ n → later ≡ [] → IsAlone setting history y k (length history))
      → IsAloneBefore setting history y k (later ++ []) → IsAloneBefore setting history y k (later ++ cond t (sent_now n history x ∷ []) [])
  alone_by y k (z ∷ more) t is last alone = alone
  alone_by y k [] false is last alone = tt
  alone_by y k [] true is last alone = last (sym (eqb-true n k is)) refl

  alone_on_sent : (y : Exchange) (later : List Exchange) (o : Option ℕ) → y.server ≡ o
      → (y.server ≡ Some n → filter (is_on n) later ≡ [] → IsAlone setting history y n (length history))
      → IsAloneOn setting history (later ++ x ∷ []) y o → IsAloneOn setting history (later ++ sent_now n history x ∷ []) y o
  alone_on_sent y later None at last alone = tt
  alone_on_sent y later (Some k) at last alone =
      subst (IsAloneBefore setting history y k) (sym (filter-append (is_on k) later (sent_now n history x ∷ [])))
      (alone_by y k (filter (is_on k) later) (eqb n k) refl
      (λ same none. subst (λ (j : ℕ). IsAlone setting history y j (length history)) (sym same)
      (last (at ∙ ap Some same) (subst (λ (j : ℕ). filter (is_on j) later ≡ []) same none)))
      (subst (IsAloneBefore setting history y k) (last_off k later) alone))

  alone_sent : (later ys : List Exchange) → LastIsAlone setting history n later ys → AreAlone setting history (later ++ x ∷ []) ys
      → AreAlone setting history (later ++ sent_now n history x ∷ []) ys
  alone_sent later [] last alone = tt
  alone_sent later (y ∷ ys) last alone =
      (alone_on_sent y later y.server refl last.0 alone.0, alone_sent (y ∷ later) ys last.1 alone.1)

  -- ---- the rest

  clean_behind : (k : ℕ) (ys : List Exchange) (t : Bool) → eqb n k ≡ t
      → (k ≡ n → ys ≡ [] → ((server_at k history).came ≡ []) × ((server_at k history).ended ≡ false))
      → IsCleanAtFirst history k ys → IsCleanAtFirst history k (ys ++ cond t (sent_now n history x ∷ []) [])
  clean_behind k (z ∷ ys) t is fresh y = y
  clean_behind k [] false is fresh y = tt
  clean_behind k [] true is fresh y =
      subst (λ (h : List ProxyStep). ((server_at k h).came ≡ []) × ((server_at k h).ended ≡ false)) (sym (first_all history))
      (fresh (sym (eqb-true n k is)) refl)

  none_reversed : (ys : List Exchange) → reverse ys ≡ [] → ys ≡ []
  none_reversed [] e = refl
  none_reversed (y ∷ ys) e = absurd (not_none (reverse ys) (sym (reverse-append (y ∷ []) ys) ∙ e))
    where
      not_none : (zs : List Exchange) → zs ++ y ∷ [] ≡ [] → ⊥
      not_none [] e = cc
      not_none (z ∷ zs) e = cc

  turned_about : (k : ℕ) (ys : List Exchange) (t : Bool) → reverse (cond t (sent_now n history x ∷ ys) ys) ≡ reverse ys ++ cond t (sent_now n history x ∷ []) []
  turned_about k ys true = reverse-append (sent_now n history x ∷ []) ys
  turned_about k ys false = sym (append-nil (reverse ys))

  clean_sent : (xs : List Exchange) (k : ℕ) → IsFreshFor history n xs → IsCleanAtFirst history k (reverse (filter (is_on k) (x ∷ xs)))
      → IsCleanAtFirst history k (reverse (filter (is_on k) (sent_now n history x ∷ xs)))
  clean_sent xs k fresh y =
      subst (IsCleanAtFirst history k) (sym (turned_about k (filter (is_on k) xs) (eqb n k)))
      (clean_behind k (reverse (filter (is_on k) xs)) (eqb n k) refl
      (λ same none. subst (λ (j : ℕ). ((server_at j history).came ≡ []) × ((server_at j history).ended ≡ false)) (sym same)
      (fresh (subst (λ (j : ℕ). filter (is_on j) xs ≡ []) same (none_reversed (filter (is_on k) xs) none))))
      (subst (λ (ys : List Exchange). IsCleanAtFirst history k (reverse ys)) (left_out k xs) y))

  used_sent : (k : ℕ) (ys : List Exchange) (t : Bool) (v : Server) → IsUsed ys v → IsUsed (cond t (sent_now n history x ∷ ys) ys) v
  used_sent k ys true v y = tt
  used_sent k ys false v y = y

  not_failed : (xs : List Exchange) → HasFailed setting history (x ∷ xs) → ⊥
  not_failed xs y = let no : ◌≡◌ {A = Option ℕ} None (Some y.0) = sym unsent ∙ y.1 in cc no

  pub judged_sent : (waiting : Option (List ℕ)) (trace : List Step) (xs : List Exchange) (f : replies.Exchange) (fs : List replies.Exchange) → exchanges trace ≡ f ∷ fs
      → f.reply ≡ no_reply → LastIsAlone setting history n [] xs → IsFreshFor history n xs → IsJudged edge setting history waiting trace (x ∷ xs)
      → IsJudged edge setting history waiting trace (sent_now n history x ∷ xs)
  judged_sent waiting trace xs f fs are none last fresh y = record {
    undrained = y.undrained;
    used = λ closed k newest.
        used_sent k (filter (is_on k) xs) (eqb n k) (server_at k history)
        (subst (λ (ys : List Exchange). IsUsed ys (server_at k history)) (left_out k xs) (y.used closed k newest));
    told = y.told;
    replied = subst (λ (gs : List replies.Exchange). AreReplies edge setting history [] (sent_now n history x ∷ xs) gs) (sym are)
        (replied_sent xs fs f none (subst (λ (gs : List replies.Exchange). AreReplies edge setting history [] (x ∷ xs) gs) are y.replied));
    clean = λ k low. clean_sent xs k fresh (y.clean k low);
    alone = (alone_first edge setting history (sent_now n history x) (Some n), alone_sent [] xs last y.alone.1);
    failed = λ is. absurd (not_failed xs (y.failed is));
  }
