-- What a forwarder does behind its event, turn by turn, belongs to the step of that event.
use Rattle.std.proofs.Common.{◌≡◌, ◌⊎◌, ℕ, ◌+◌, true, false, List, [], ◌∷◌, ◌++◌, length, sym, ap, ◌∙◌, subst, append_assoc, inl, inr, Option, Some, None, is_some}
use Rattle.std.specs.Prelude.{⊤}
use Rattle.std.specs.List.{AllByRecursion}
use Rattle.model_h1.specs.Setting.{Setting}
use Rattle.model_h1.specs.Sums.{Step}
use Rattle.model_proxy.specs.Edge.{Edge}
use Rattle.model_proxy.specs.Past as past
use Rattle.model_proxy.specs.Past.{ProxyEvent, ProxyOutcome, ProxyStep, servers}
use Rattle.model_proxy.specs.Exchange.{Exchange}
use Rattle.model_proxy.specs.Forwarding.{is_there, BeginsWith, IsTold, IsStep, IsSentNow, IsNew, NewestGoesOn, AllGoOn, IsForwardedSoFar, IsForwarding, behind}

-- ---- what a turn makes of the requests

-- it is sent on, on the newest server connection, which is open before the turn
pub record IsSentInTurn (waiting : Option (List ℕ)) (history : List ProxyStep) (y : Exchange) : Type 0 where
  pub open_before : is_some waiting ≡ true
  pub number : ℕ
  pub server : y.server ≡ Some number
  pub newest : number + 1 ≡ length (servers history)
  pub at : y.sent_at ≡ length history

-- the newest stays where it was sent, or is sent on; none is refused
pub record TurnsOn (waiting : Option (List ℕ)) (history : List ProxyStep) (x y : Exchange) : Type 0 where
  pub sent : ((y.server ≡ x.server) × (y.sent_at ≡ x.sent_at)) ⊎ ((x.server ≡ None) × IsSentInTurn waiting history y)
  pub refused : y.was_refused ≡ x.was_refused

abbrev pub NewestTurnsOn : Option (List ℕ) → List ProxyStep → List Exchange → List Exchange → Type 0
NewestTurnsOn waiting history [] [] = ⊤
NewestTurnsOn waiting history (x ∷ xs) (y ∷ ys) = TurnsOn waiting history x y × (ys ≡ xs)
NewestTurnsOn waiting history _ _ = ⊥

-- one that was just handed out
pub record IsBegun (y : Exchange) : Type 0 where
  pub unsent : y.server ≡ None
  pub unrefused : y.was_refused ≡ false

-- what a turn makes of all requests
pub record AllTurnOn (waiting : Option (List ℕ)) (history : List ProxyStep) (xs ys : List Exchange) : Type 0 where
  pub newer : List Exchange
  pub older : List Exchange
  pub are : ys ≡ newer ++ older
  pub begun : AllByRecursion IsBegun newer
  pub go_on : NewestTurnsOn waiting history xs older

-- ---- it goes on by the step

module _ (event : ProxyEvent) (before waiting : Option (List ℕ)) (history : List ProxyStep) (opened : is_some waiting ≡ true → is_there event before ≡ true) where
  sent_now : (y : Exchange) → IsSentInTurn waiting history y → IsSentNow event before history y
  sent_now y x = record { there = opened x.open_before; number = x.number; server = x.server; newest = x.newest; at = x.at }

  -- one that was sent on by the step stays so
  still_now : (y z : Exchange) → z.server ≡ y.server → z.sent_at ≡ y.sent_at → IsSentNow event before history y → IsSentNow event before history z
  still_now y z server at x =
      record { there = x.there; number = x.number; server = server ∙ x.server; newest = x.newest; at = at ∙ x.at }

  not_sent : (y : Exchange) → IsSentNow event before history y → y.server ≡ None → ⊥
  not_sent y x none = let no : ◌≡◌ {A = Option ℕ} None (Some x.number) = sym none ∙ x.server in cc no

  begins_new : (y : Exchange) → IsBegun y → IsNew event before history y
  begins_new y x = record { sent = inl x.unsent; unrefused = x.unrefused }

  all_new : (ys more : List Exchange) → AllByRecursion IsBegun ys → AllByRecursion (IsNew event before history) more
      → AllByRecursion (IsNew event before history) (ys ++ more)
  all_new [] more x rest = rest
  all_new (y ∷ ys) more x rest = (begins_new y x.0, all_new ys more x.1 rest)

  new_on : (y z : Exchange) → (y.server ≡ None) ⊎ IsSentNow event before history y
      → ((z.server ≡ y.server) × (z.sent_at ≡ y.sent_at)) ⊎ ((y.server ≡ None) × IsSentInTurn waiting history z)
      → (z.server ≡ None) ⊎ IsSentNow event before history z
  new_on y z (inl none) (inl same) = inl (same.0 ∙ none)
  new_on y z (inr now) (inl same) = inr (still_now y z same.0 same.1 now)
  new_on y z sent (inr later) = inr (sent_now z later.1)

  old_on : (x y z : Exchange) → ((y.server ≡ x.server) × (y.sent_at ≡ x.sent_at)) ⊎ ((x.server ≡ None) × IsSentNow event before history y)
      → ((z.server ≡ y.server) × (z.sent_at ≡ y.sent_at)) ⊎ ((y.server ≡ None) × IsSentInTurn waiting history z)
      → ((z.server ≡ x.server) × (z.sent_at ≡ x.sent_at)) ⊎ ((x.server ≡ None) × IsSentNow event before history z)
  old_on x y z (inl same) (inl more) = inl (more.0 ∙ same.0, more.1 ∙ same.1)
  old_on x y z (inl same) (inr later) = inr (sym same.0 ∙ later.0, sent_now z later.1)
  old_on x y z (inr now) (inl more) = inr (now.0, still_now y z more.0 more.1 now.1)
  old_on x y z (inr now) (inr later) = absurd (not_sent y now.1 later.0)

  newest_on : (xs ys zs : List Exchange) → NewestGoesOn event before history xs ys → NewestTurnsOn waiting history ys zs
      → NewestGoesOn event before history xs zs
  newest_on [] [] [] first second = tt
  newest_on [] [] (z ∷ zs) first second = absurd second
  newest_on [] (y ∷ ys) zs first second = absurd first
  newest_on (x ∷ xs) [] zs first second = absurd first
  newest_on (x ∷ xs) (y ∷ ys) [] first second = absurd second
  newest_on (x ∷ xs) (y ∷ ys) (z ∷ zs) first second = (
    record { sent = old_on x y z first.0.sent second.0.sent; refused = second.0.refused ∙ first.0.refused },
    second.1 ∙ first.1,
  )

  -- by those that the step handed out before the turn, the newest first
  all_on_by : (xs newer older zs : List Exchange) → AllByRecursion (IsNew event before history) newer → NewestGoesOn event before history xs older
      → AllTurnOn waiting history (newer ++ older) zs → AllGoOn event before history xs zs
  all_on_by xs [] older zs begun go x = record {
    newer = x.newer ++ [];
    older = x.older;
    are = x.are ∙ sym (append_assoc x.newer [] x.older);
    begun = all_new x.newer [] x.begun tt;
    go_on = newest_on xs older x.older go x.go_on;
  }
  all_on_by xs (y ∷ newer) older zs begun go x = by_older x.older x.are x.go_on
    where
      by_older : (others : List Exchange) → zs ≡ x.newer ++ others → NewestTurnsOn waiting history (y ∷ (newer ++ older)) others
          → AllGoOn event before history xs zs
      by_older [] are on = absurd on
      by_older (z ∷ others) are on = record {
        newer = x.newer ++ z ∷ newer;
        older = older;
        are = are ∙ ap (λ (rest : List Exchange). x.newer ++ z ∷ rest) on.1 ∙ sym (append_assoc x.newer (z ∷ newer) older);
        begun = all_new x.newer (z ∷ newer) x.begun
            (record { sent = new_on y z begun.0.sent on.0.sent; unrefused = on.0.refused ∙ begun.0.unrefused }, begun.1);
        go_on = go;
      }

  all_on : (xs ys zs : List Exchange) → AllGoOn event before history xs ys → AllTurnOn waiting history ys zs → AllGoOn event before history xs zs
  all_on xs ys zs go x =
      all_on_by xs go.newer go.older zs go.begun go.go_on (subst (λ (ys : List Exchange). AllTurnOn waiting history ys zs) go.are x)

-- ---- the step

begins_still : (Is : Step → Type 0) (did more : List Step) → BeginsWith Is did → BeginsWith Is (more ++ did)
begins_still Is did more (behind_it, first, are, is) = (
  more ++ behind_it,
  first,
  ap (λ (rest : List Step). more ++ rest) are ∙ sym (append_assoc more behind_it (first ∷ [])),
  is,
)

told_still : (event : ProxyEvent) (outcome : ProxyOutcome) (did more : List Step) → IsTold event outcome did → IsTold event outcome (more ++ did)
told_still (past.client bytes) (past.took n) did more (inl none) = inl none
told_still (past.client bytes) (past.took n) did more (inr x) = inr (begins_still _ did more x)
told_still past.client_eof past.done did more x = begins_still _ did more x
told_still (past.to_client n) (past.gave bytes) did more x = begins_still _ did more x
told_still (past.tick ms) past.done did more x = begins_still _ did more x
told_still (past.server bytes) (past.took n) did more x = x
told_still past.server_eof past.done did more x = x
told_still past.connected past.done did more x = x
told_still past.refused past.done did more x = x
told_still (past.to_server n) (past.gave bytes) did more x = x
told_still event outcome did more x = x

step_still : (s : ProxyStep) (before waiting after : Option (List ℕ)) (did more : List Step) → IsStep s before waiting did
    → (is_some after ≡ true → is_some waiting ≡ true) → IsStep s before after (more ++ did)
step_still s before waiting after did more x stays =
    record { told = told_still s.event s.outcome did more x.told; gave = x.gave; opened = λ is. x.opened (stays is) }

-- A turn behind a step: with more on the client's connection, and what it made of the requests, what holds behind it holds behind the step.
pub turned : (edge : Edge) (setting : Setting) (s : ProxyStep) (history : List ProxyStep) (waiting : Option (List ℕ)) (trace : List Step) (ys : List Exchange)
    → IsForwarding edge setting (s ∷ history) waiting trace ys → (after : Option (List ℕ)) (more : List Step) (zs : List Exchange)
    → (is_some after ≡ true → is_some waiting ≡ true) → AllTurnOn waiting (s ∷ history) ys zs
    → IsForwardedSoFar edge setting (s ∷ history) after (more ++ trace) zs → IsForwarding edge setting (s ∷ history) after (more ++ trace) zs
turned edge setting s history _ _ _ (behind _ _ before trace xs waiting did ys x does go fits) = λ after more zs stays turns holds.
    subst (λ (t : List Step). IsForwarding edge setting (s ∷ history) after t zs) (append_assoc more did trace)
    (behind s history before trace xs after (more ++ did) zs x (step_still s before waiting after did more does stays)
    (all_on s.event before waiting (s ∷ history) does.opened xs ys zs go turns)
    (subst (λ (t : List Step). IsForwardedSoFar edge setting (s ∷ history) after t zs) (sym (append_assoc more did trace)) holds))
