use Rattle.std.proofs.Common.{refl, sym}
use Rattle.std.proofs.lemmas.Bool.{false≢true}
use Rattle.model_h1.specs.Event as on
use Rattle.h1_connection.specs.Heads.{SaysNext}
use Rattle.h1_connection.specs.declared.event.Event.TheVariants.{Next}
use Rattle.h1_traced.specs.Outcomes.{next_outcome}
use Rattle.h1_traced.proofs.TracedLaws.{any_err, ok_given, next_says, traced_steps, fails_before, fails_noting}
use Rattle.h1_traced.proofs.traced.Traced.next.Goals as goal

pub returns-clause-stands : goal.returns-clause-stands
returns-clause-stands g c =
    rw (sym c.self.view_is) (ok_given c.note_next.result c.in_ok-next.next _ c.note_next.ensures.same c.note_next.ensures.ok
    (λ grows. traced_steps c.self.inside.connection c.next.new.self _ _ _ _ (record { event = Next; outcome = next_outcome c.in_ok-next.next }) on.next (SaysNext c.in_ok-next.next) c.in_ok-next.ensures.stands c.in_ok-next.ensures.settings grows (λ out says. record { event = refl; outcome = next_says c.in_ok-next.next out says })))

pub returns-clause-err : goal.returns-clause-err
returns-clause-err g c =
    rw (sym c.self.view_is) (fails_noting c.note_next.result c.self.inside.connection c.next.new.self _ _ _ _ on.next (SaysNext c.in_ok-next.next) c.in_ok-next.ensures.stands c.note_next.ensures.err c.note_next.ensures.no_memory_needed)

pub returns-in_err-next-clause-err : goal.returns-in_err-next-clause-err
returns-in_err-next-clause-err g c =
    rw (sym c.self.view_is) (any_err _ (fails_before c.self.inside.connection c.next.new.self _ _ on.next c.in_err-next.ensures.err (λ unheard takes. false≢true (c.in_err-next.ensures.no_memory_needed takes))))
