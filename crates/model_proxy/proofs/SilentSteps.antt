-- Steps of the client's connection that put nothing of a reply, and hand out no request.
use Rattle.std.proofs.Common.{◌≡◌, ℕ, Bool, true, false, cond, List, [], ◌∷◌, ◌++◌, refl, sym, ap, ◌∙◌, subst, Option, None}
use Rattle.std.specs.Prelude.{◌||◌, is_some}
use Rattle.std.specs.List.{list_any, AllByRecursion}
use Rattle.std.proofs.lemmas.Bool.{false≢true}
use Rattle.model_h1.specs.Request.{Head}
use Rattle.model_h1.specs.Setting.{Setting}
use Rattle.model_h1.specs.Event as on
use Rattle.model_h1.specs.Sums.{Step, head_of, since_head, is_drain, is_body_error, is_draining, came_since_head}
use Rattle.model_h1.specs.Laws.Exchanges.{Exchange, exchanges, changed_by, newest_changed, with_head}
use Rattle.model_proxy.specs.Edge.{Edge}
use Rattle.model_proxy.specs.Past.{ProxyStep}
use Rattle.model_proxy.specs.Exchange as requests
use Rattle.model_proxy.specs.Forwarding.{IsToldRightly, AreReplies}
use Rattle.model_proxy.proofs.Halves.{IsJudged}

abbrev pub is_silent : on.Event → Bool
is_silent on.next = true
is_silent on.pull = true
is_silent on.drop_body = true
is_silent on.eof = true
is_silent (on.read bytes) = true
is_silent (on.write n) = true
is_silent (on.tick ms) = true
is_silent _ = false

pub record IsSilent (s : Step) : Type 0 where
  pub event : is_silent s.event ≡ true
  pub headless : head_of s.outcome ≡ None

-- ---- one

unchanged : (before : List Step) (event : on.Event) (outcome : on.Outcome) → is_silent event ≡ true → (e : Exchange) → changed_by before event outcome e ≡ e
unfolding changed_by
unchanged before on.next outcome is e = refl
unchanged before on.pull outcome is e = refl
unchanged before on.drop_body outcome is e = refl
unchanged before on.eof outcome is e = refl
unchanged before (on.read bytes) outcome is e = refl
unchanged before (on.write n) outcome is e = refl
unchanged before (on.tick ms) outcome is e = refl
unchanged before event outcome is e = absurd (false≢true is)

pub none_changed : (f : Exchange → Exchange) → ((e : Exchange) → f e ≡ e) → (es : List Exchange) → newest_changed f es ≡ es
none_changed f same [] = refl
none_changed f same (e ∷ es) = ap (λ (e : Exchange). e ∷ es) (same e)

no_drain : (event : on.Event) → is_silent event ≡ true → is_drain event ≡ false
no_drain on.next is = refl
no_drain on.pull is = refl
no_drain on.drop_body is = refl
no_drain on.eof is = refl
no_drain (on.read bytes) is = refl
no_drain (on.write n) is = refl
no_drain (on.tick ms) is = refl
no_drain event is = absurd (false≢true is)

no_error : (event : on.Event) → is_silent event ≡ true → is_body_error event ≡ false
no_error on.next is = refl
no_error on.pull is = refl
no_error on.drop_body is = refl
no_error on.eof is = refl
no_error (on.read bytes) is = refl
no_error (on.write n) is = refl
no_error (on.tick ms) is = refl
no_error event is = absurd (false≢true is)

one_exchanges : (s : Step) (t : List Step) → IsSilent s → exchanges (s ∷ t) ≡ exchanges t
unfolding exchanges
one_exchanges s t x =
    ap (λ (h : Option Head). with_head h (newest_changed (changed_by t s.event s.outcome) (exchanges t))) x.headless
    ∙ none_changed (changed_by t s.event s.outcome) (unchanged t s.event s.outcome x.event) (exchanges t)

one_error : (s : Step) (t : List Step) → IsSilent s → came_since_head is_body_error (s ∷ t) ≡ came_since_head is_body_error t
unfolding since_head
one_error s t x =
    ap (λ (h : Option Head). list_any (λ (s : Step). is_body_error s.event) (cond (is_some h) [] (s ∷ since_head t))) x.headless
    ∙ ap (λ (b : Bool). b || list_any (λ (s : Step). is_body_error s.event) (since_head t)) (no_error s.event x.event)

-- ---- some

pub silent_exchanges : (more t : List Step) → AllByRecursion IsSilent more → exchanges (more ++ t) ≡ exchanges t
silent_exchanges [] t x = refl
silent_exchanges (s ∷ more) t x = one_exchanges s (more ++ t) x.0 ∙ silent_exchanges more t x.1

pub silent_draining : (more t : List Step) → AllByRecursion IsSilent more → is_draining (more ++ t) ≡ is_draining t
silent_draining [] t x = refl
silent_draining (s ∷ more) t x = ap (λ (b : Bool). b || is_draining (more ++ t)) (no_drain s.event x.0.event) ∙ silent_draining more t x.1

pub silent_error : (more t : List Step) → AllByRecursion IsSilent more → came_since_head is_body_error (more ++ t) ≡ came_since_head is_body_error t
silent_error [] t x = refl
silent_error (s ∷ more) t x = one_error s (more ++ t) x.0 ∙ silent_error more t x.1

-- what holds of replies and answers holds behind them
pub judged_silent : (edge : Edge) (setting : Setting) (history : List ProxyStep) (waiting : Option (List ℕ)) (more t : List Step) (xs : List requests.Exchange)
    → AllByRecursion IsSilent more → IsJudged edge setting history waiting t xs → IsJudged edge setting history waiting (more ++ t) xs
judged_silent edge setting history waiting more t xs silent x = record {
  undrained = silent_draining more t silent ∙ x.undrained;
  used = x.used;
  told = subst (λ (fs : List Exchange). AllByRecursion (IsToldRightly edge) fs) (sym (silent_exchanges more t silent)) x.told;
  replied = subst (λ (fs : List Exchange). AreReplies edge setting history [] xs fs) (sym (silent_exchanges more t silent)) x.replied;
  clean = x.clean;
  alone = x.alone;
  failed = λ is. x.failed (sym (silent_error more t silent) ∙ is);
}
