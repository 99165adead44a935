-- What is taken of an answer.
use Rattle.std.specs.Prelude.{◌≡◌, ◌≢◌, ℕ, ◌+◌, ◌≤◌, false, length, Some, Result, Ok, Err, IfOk, IsTrue}
use Rattle.std.proofs.Common.{refl, sym, ap, subst, ◌∙◌, None, inl, inr, arith}
use Rattle.h1_client.specs.Answers.{SaysNext}
use Rattle.h1_client.specs.declared.event.NextAnswer.{NextAnswer}
use Rattle.h1_client.specs.declared.event.NextAnswer.TheVariants as next
use Rattle.h1_client.specs.ClientMeaning.{setting_of}
use Rattle.h1_client.specs.State.{State, GoesOn, Is}
use Rattle.model_client.specs.ClientEvent as on
use Rattle.model_client.specs.ClientEvent.{ClientEvent, ClientOutcome, ClientEnd}
use Rattle.model_client.specs.ClientKept.{client_allows, client_closing}
use Rattle.app_get.specs.declared.answer.Taken.{Taken}
use Rattle.app_get.specs.declared.answer.Taken.TheVariants as taking
use Rattle.app_get.specs.Exchange.{Ends, Goes, Acts, is_unwanted, is_failure, IsWhole, IsPending, IsTaken}
use Rattle.app_get.specs.Failure.{Hears, Heard}
use Rattle.app_get.proofs.Freed.{free_at_end, free_for_next}
use Rattle.app_get.proofs.Going.{goes_none, goes_then, acts_then, more_then}

-- ---- the rest

-- the connection ends in order
pub whole_at_end : (a : Ends) (status : ℕ) (end : ClientEnd) → client_allows (setting_of a.state.settings) a.state.kept on.pull ≡ false
    → client_closing a.state.kept ≡ Some end → is_failure (Some end) ≡ false → a.status ≡ Some status → status ≢ 101 → is_unwanted a.wanted status ≡ false
    → IsTaken (taking.Whole status) a a
whole_at_end a status end left is fine noted plain wanted = (
  goes_none a,
  record { nothing_left = left; unbroken = ap is_failure is ∙ fine; free = free_at_end (setting_of a.state.settings) a.state.kept end is fine },
  noted,
  plain,
  wanted,
)

-- or the next answer may come
pub whole_for_next : (a : Ends) (status : ℕ) → client_allows (setting_of a.state.settings) a.state.kept on.pull ≡ false → client_closing a.state.kept ≡ None
    → IsTrue (client_allows (setting_of a.state.settings) a.state.kept on.next) → a.status ≡ Some status → status ≢ 101 → is_unwanted a.wanted status ≡ false
    → IsTaken (taking.Whole status) a a
whole_for_next a status left is may noted plain wanted = (
  goes_none a,
  record { nothing_left = left; unbroken = ap is_failure is; free = λ trace stands. free_for_next (setting_of a.state.settings) a.state.kept is may },
  noted,
  plain,
  wanted,
)

-- ---- nothing

as_pending : (before : State) (event : ClientEvent) (Says : ClientOutcome → Type 0) (after : State) → GoesOn before event Says after
    → ((o : ClientOutcome) → Says o → o ≡ on.pending) → GoesOn before event (Is on.pending) after
as_pending before event Says after goes is = record { outcome = goes.outcome; says = is goes.outcome goes.says; step = goes.step; stands = goes.stands }

-- no head has come
pub pending_head : (old new : Ends) (x : NextAnswer) → old.status ≡ None → Heard old x new → x ≡ next.Pending → IsTaken taking.Nothing old new
pending_head old new x none heard is =
    let hears : Hears old next.Pending new = subst (λ (x : NextAnswer). Hears old x new) is heard.hears in
    let says : SaysNext x on.pending = subst (λ (x : NextAnswer). SaysNext x on.pending) (sym is) refl in (
      heard.acts,
      record {
        before = old.state;
        answered = inl (heard.notes on.pending says ∙ none, as_pending old.state on.next (SaysNext next.Pending) new.state hears (λ o same. same));
      },
    )

-- no more of the body has
pub pending_body : (before : State) (Says : ClientOutcome → Type 0) (after : Ends) → GoesOn before on.pull Says after.state
    → ((o : ClientOutcome) → Says o → o ≡ on.pending) → IsPending after
pending_body before Says after goes is = record { before = before; answered = inr (as_pending before on.pull Says after.state goes is) }

-- ---- a part, and then

-- a head was heard, and perhaps written out
pub shown_taken : {E : Type 0} (r : Result Taken E) (a b c : Ends) → Acts a b → IfOk r (λ t. (t ≡ taking.Part) × Goes b c) → IfOk r (λ t. IsTaken t a c)
shown_taken (Ok t) a b c first second = subst (λ (t : Taken). IsTaken t a c) (sym second.0) (acts_then a b c first second.1)
shown_taken (Err e) a b c first second = tt

pub part_acts : (t : Taken) (a b : Ends) → IsTaken t a b → t ≡ taking.Part → Acts a b
part_acts t a b taken is = subst (λ (t : Taken). IsTaken t a b) is taken

pub nothing_acts : (t : Taken) (a b : Ends) → IsTaken t a b → t ≡ taking.Nothing → Acts a b
nothing_acts t a b taken is = let n : IsTaken taking.Nothing a b = subst (λ (t : Taken). IsTaken t a b) is taken in n.0

pub nothing_pending : (t : Taken) (a b : Ends) → IsTaken t a b → t ≡ taking.Nothing → IsPending b
nothing_pending t a b taken is = let n : IsTaken taking.Nothing a b = subst (λ (t : Taken). IsTaken t a b) is taken in n.1

pub whole_is : (t : Taken) (a b : Ends) (status : ℕ) → IsTaken t a b → t ≡ taking.Whole status → IsWhole b.state × (b.status ≡ Some status) × (status ≢ 101) × (is_unwanted b.wanted status ≡ false)
whole_is t a b status taken is = let w : IsTaken (taking.Whole status) a b = subst (λ (t : Taken). IsTaken t a b) is taken in (w.1, w.2, w.3, w.4)

-- a turn more, by an event at least
turned : (a b c : Ends) (n : ℕ) (first : Goes a b) → n ≤ length first.more → Acts b c → (goes : Goes a c) × (n + 1 ≤ length goes.more)
turned a b c n first few then_ =
    (goes_then a b c first then_.goes, omega (arith, few, then_.some, more_then a b c first then_.goes))

pub turned_as : (a b c d : Ends) (n : ℕ) → d ≡ c → (first : Goes a b) → n ≤ length first.more → Acts b c → (goes : Goes a d) × (n + 1 ≤ length goes.more)
turned_as a b c d n same first few then_ = subst (λ (l : Ends). (goes : Goes a l) × (n + 1 ≤ length goes.more)) (sym same) (turned a b c n first few then_)
