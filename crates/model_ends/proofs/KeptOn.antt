-- A server hands out no request after an answer that ends its connection.
use Rattle.std.proofs.Common.{◌≡◌, true, false, List, [], ◌∷◌, drop, Option, Some, None, is_some, refl, sym, ap, ap₂, ◌∙◌, subst}
use Rattle.std.specs.Prelude.{IsTrue}
use Rattle.std.specs.List.{AllByRecursion}
use Rattle.std.specs.Option.{option_or}
use Rattle.std.proofs.lemmas.Bool.{false≢true, cond-true}
use Rattle.model_h1.specs.Request.{Head}
use Rattle.model_h1.specs.Setting.{Setting}
use Rattle.model_h1.specs.End.{End}
use Rattle.model_h1.specs.Event.{Event, Outcome}
use Rattle.model_h1.specs.Event as on
use Rattle.model_h1.specs.Sums.{Step, Answered, request, answered, head_of, is_complete, is_open}
use Rattle.model_h1.specs.Past.{ParsedStep, steps, current}
use Rattle.model_h1.specs.Closing.{told, body_end_of, asked_by, unread_by, answered_end, closing}
use Rattle.model_h1.specs.Allowed.{is_allowed}
use Rattle.model_h1.specs.OutcomeTable.{outcome_of}
use Rattle.model_h1.specs.Trace.{IsTrace}
use Rattle.model_h1.specs.Laws.Exchanges.{Reply, no_reply, answer_given, session, Exchange, changed_by, newest_changed, with_head, exchanges}
use Rattle.model_h1.proofs.PastLemmas.{past_of_unique}
use Rattle.model_h1.proofs.HandedHeads.{is_done}
use Rattle.model_h1.proofs.HandedTrace.{is_silent, silent_opening, opening_head, closing_case, other, grows, accepts, comes, pulls, step_case}
use Rattle.model_h1.proofs.HeldSteps.{pull_no_head}
use Rattle.model_h1.proofs.ExchangeReplies.{ReplyIs}
use Rattle.model_h1.proofs.ExchangeSteps.{Newest, NewestIs}
use Rattle.model_h1.proofs.ExchangeTraces.{spoken}

-- the request has an answer, after which the connection goes on
abbrev pub KeepsAfter : Setting → Head → Reply → Type 0
KeepsAfter setting h (answer_given a) = asked_by setting (Some h) (Some a.answered) ≡ None
KeepsAfter setting h _ = ⊥

abbrev pub IsKeptOn : Setting → Exchange → Type 0
IsKeptOn setting e = KeepsAfter setting e.head e.reply

-- ---- when a head comes

-- only where the connection doesn't close, and no request is open
record Comes (setting : Setting) (before : List ParsedStep) (event : Event) : Type 0 where
  event_is : event ≡ on.next
  going : closing setting before ≡ None
  done : is_open (steps before) ≡ false

no_head : (h : Head) → None ≡ Some h → ⊥
no_head h e = cc

head_comes : (setting : Setting) (before : List ParsedStep) (event : Event) (outcome : Outcome) (h : Head) → IsTrue (is_allowed setting before event)
    → outcome ≡ outcome_of setting before event → head_of outcome ≡ Some h → Comes setting before event
head_comes setting before event outcome h allowed is head = by_closing (closing setting before) refl
  where
    silent : is_silent outcome ≡ true → ⊥
    silent quiet = no_head h (sym (opening_head outcome (silent_opening outcome quiet)) ∙ head)

    by_closing : (o : Option End) → closing setting before ≡ o → Comes setting before event
    by_closing (Some end) e = absurd (silent (closing_case setting before event outcome (ap is_some e) allowed is).other.silent)
    by_closing None e = elim (step_case setting before event outcome allowed is) [
      | other o ↦ absurd (silent o.silent)
      | grows g ↦ absurd (silent g.silent)
      | accepts a ↦ absurd (no_head h (sym (ap head_of a.outcome) ∙ head))
      | comes c ↦ record { event_is = c.event; going = e; done = c.done }
      | pulls p ↦ absurd (no_head h (sym (ap head_of p.outcome ∙ pull_no_head (steps before) (current before)) ∙ head))
    ]

-- ---- the answer before it

none_or : (a b : Option End) → option_or a b ≡ None → (a ≡ None) × (b ≡ None)
none_or None b e = (refl, e)
none_or (Some a) b e = absurd (cc e)

-- where nothing closes the connection, neither does the answer that is complete
unasked : (setting : Setting) (past : List ParsedStep) → closing setting past ≡ None → is_complete (steps past) ≡ true
    → asked_by setting (request (steps past)) (answered (steps past)) ≡ None
unfolding closing
unasked setting past going complete =
    let untold = none_or (told (steps past)) _ going in
    let whole = none_or (body_end_of (steps past)) _ untold.1 in
    let kept = none_or (answered_end setting past) _ whole.1 in
    let rest = unread_by (steps past) (current past) in
    let is : answered_end setting past ≡ option_or (asked_by setting (request (steps past)) (answered (steps past))) rest =
    cond-true (is_complete (steps past)) (option_or (asked_by setting (request (steps past)) (answered (steps past))) rest) None complete in
    (none_or (asked_by setting (request (steps past)) (answered (steps past))) rest (sym is ∙ kept.0)).0

newest_keeps : (setting : Setting) (past : List ParsedStep) (e : Exchange) → closing setting past ≡ None → is_open (steps past) ≡ false
    → Newest (steps past) e → IsKeptOn setting e
newest_keeps setting past e going shut n = by_reply e.reply n.reply_is (is_done (steps past) e.head n.asked shut).1
  where
    by_reply : (r : Reply) → ReplyIs (steps past) r → is_complete (steps past) ≡ true → KeepsAfter setting e.head r
    by_reply no_reply x complete = absurd (false≢true (sym x.3 ∙ complete))
    by_reply (answer_given a) x complete =
        sym (ap₂ (λ (h : Option Head) (g : Option Answered). asked_by setting h g) n.asked x.0) ∙ unasked setting past going complete
    by_reply (session s) x complete = absurd (false≢true (sym x.2 ∙ complete))

-- ---- all of them

-- a head leaves the exchanges before it
before_head : (before : List Step) (event : Event) (outcome : Outcome) (es : List Exchange) → event ≡ on.next
    → newest_changed (changed_by before event outcome) es ≡ es
unfolding changed_by
before_head before event outcome es is = ap (λ (e : Event). newest_changed (changed_by before e outcome) es) is ∙ by_exchanges es
  where
    by_exchanges : (es : List Exchange) → newest_changed (changed_by before on.next outcome) es ≡ es
    by_exchanges [] = refl
    by_exchanges (e ∷ es) = refl

others_stay : (change : Exchange → Exchange) (es : List Exchange) → drop 1 (newest_changed change es) ≡ drop 1 es
others_stay change [] = refl
others_stay change (e ∷ es) = refl

abbrev AreKeptOn : Setting → List Exchange → Type 0
AreKeptOn setting es = AllByRecursion (IsKeptOn setting) es

with_newest : (setting : Setting) (past : List ParsedStep) (trace : List Step) (es : List Exchange) → steps past ≡ trace → closing setting past ≡ None
    → is_open (steps past) ≡ false → NewestIs trace es → AreKeptOn setting (drop 1 es) → AreKeptOn setting es
with_newest setting past trace [] same going shut n kept = tt
with_newest setting past trace (e ∷ es) same going shut n kept =
    (newest_keeps setting past e going shut (subst (λ (t : List Step). Newest t e) (sym same) n), kept)

-- after each answer but that to the newest request the connection goes on
pub older_kept : (setting : Setting) (trace : List Step) → IsTrace setting trace → AllByRecursion (IsKeptOn setting) (drop 1 (exchanges trace))
unfolding exchanges
older_kept setting [] x = tt
older_kept setting (s ∷ before) x = by_head (head_of s.outcome) refl (older_kept setting before x.2)
  where
    by_head : (o : Option Head) → head_of s.outcome ≡ o → AreKeptOn setting (drop 1 (exchanges before))
        → AreKeptOn setting (drop 1 (with_head o (newest_changed (changed_by before s.event s.outcome) (exchanges before))))
    by_head None e old = subst (AreKeptOn setting) (sym (others_stay (changed_by before s.event s.outcome) (exchanges before))) old
    by_head (Some h) e old =
        let past = x.0.0 in
        let is = x.1.2 ∙ ap (λ (p : List ParsedStep). outcome_of setting p s.event) (past_of_unique setting before x.1.0 past x.1.1 x.0.1) in
        let c = head_comes setting past s.event s.outcome h x.0.2 is e in
        subst (AreKeptOn setting) (sym (before_head before s.event s.outcome (exchanges before) c.event_is))
        (with_newest setting past before (exchanges before) x.0.1.same c.going c.done (spoken setting before x.2).newest old)
