-- The text of a trace is that of its exchanges, and its exchanges have the heads and the answers that came.
use Rattle.std.proofs.Common.{◌≡◌, List, [], true, ◌∷◌, map, Option, Some, None, refl, sym, ap, ◌∙◌, subst}
use Rattle.std.specs.List.{cons_option}
use Rattle.std.proofs.lemmas.List.Elements.{All-nil}
use Rattle.model_h1.specs.Request.{Head}
use Rattle.model_h1.specs.Setting.{Setting}
use Rattle.model_h1.specs.Event.{Event, Outcome}
use Rattle.model_h1.specs.Event as on
use Rattle.model_h1.specs.Sums.{Step, request, answered, accepted, head_of}
use Rattle.model_h1.specs.Past.{ParsedStep, steps}
use Rattle.model_h1.specs.Text.{text}
use Rattle.model_h1.specs.Trace.{IsTrace}
use Rattle.model_h1.specs.Laws.Exchanges.{is_whole, Exchange, changed_by, newest_changed, with_head, exchanges, refusal, heads, answers}
use Rattle.model_h1.proofs.PastLemmas.{Legal, legal_of}
use Rattle.model_h1.proofs.PastExistence.{past_exists}
use Rattle.model_h1.proofs.HandedParsed.{sound}
use Rattle.model_h1.proofs.ExchangeSteps.{Spoken, Goes}
use Rattle.model_h1.proofs.ExchangeEvents.{event_goes}

-- ---- the text

-- before the first step
nothing_said : (setting : Setting) → Spoken setting [] (exchanges []) (refusal [])
unfolding text exchanges refusal request accepted answered answers
nothing_said setting = record {
  says = refl;
  refused = λ untold. refl;
  slow = λ moment x. refl;
  newest = (refl, refl, refl);
  has = refl;
  whole = All-nil (λ (e : Exchange). is_whole e.reply ≡ true);
}

-- behind each past
said : (setting : Setting) (past : List ParsedStep) → Legal setting past
    → Spoken setting (steps past) (exchanges (steps past)) (refusal (steps past))
unfolding exchanges refusal
said setting [] x = nothing_said setting
said setting (m ∷ before) x =
    let trace = steps before in
    subst (λ o. Goes setting trace m.step.event o (exchanges trace) (refusal trace)) (sym x.2)
    (event_goes setting before m.step.event (exchanges trace) (refusal trace) x.1 (sound setting before x.3) (said setting before x.3))

-- behind each trace
pub spoken : (setting : Setting) (trace : List Step) → IsTrace setting trace → Spoken setting trace (exchanges trace) (refusal trace)
spoken setting trace x =
    let past = past_exists setting trace in
    subst (λ t. Spoken setting t (exchanges t) (refusal t)) past.1.same (said setting past.0 (legal_of setting trace past.0 x past.1))

-- ---- the heads

-- a step leaves the head of the newest exchange
changed_head : (before : List Step) (event : Event) (outcome : Outcome) (e : Exchange) → (changed_by before event outcome e).head ≡ e.head
unfolding changed_by
changed_head before on.send_continue on.done e = refl
changed_head before (on.answer head size) on.done e = refl
changed_head before (on.chunk bytes) on.done e = refl
changed_head before on.body_end on.done e = refl
changed_head before (on.accept limit) on.done e = refl
changed_head before (on.send m) on.done e = refl
changed_head before _ _ e = refl

-- the heads of a change that leaves them
changed_heads : (change : Exchange → Exchange) (es : List Exchange) → ((e : Exchange) → (change e).head ≡ e.head)
    → map (λ e. e.head) (newest_changed change es) ≡ map (λ e. e.head) es
changed_heads change [] same = refl
changed_heads change (e ∷ es) same = ap (λ h. h ∷ map (λ n. n.head) es) (same e)

-- a new head
more_heads : (h : Option Head) (es : List Exchange) → map (λ e. e.head) (with_head h es) ≡ cons_option h (map (λ e. e.head) es)
more_heads None es = refl
more_heads (Some h) es = refl

-- the heads of the exchanges are those that were handed out
pub exchange_heads : (trace : List Step) → map (λ e. e.head) (exchanges trace) ≡ heads trace
unfolding exchanges
exchange_heads [] = refl
exchange_heads (s ∷ before) =
    let change = changed_by before s.event s.outcome in
    more_heads (head_of s.outcome) (newest_changed change (exchanges before))
    ∙ ap (cons_option (head_of s.outcome))
    (changed_heads change (exchanges before) (changed_head before s.event s.outcome) ∙ exchange_heads before)
