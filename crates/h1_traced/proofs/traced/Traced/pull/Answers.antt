use Rattle.std.proofs.Common.{refl, sym}
use Rattle.std.proofs.lemmas.Bool.{false≢true}
use Rattle.model_h1.specs.Event as on
use Rattle.h1_payload.specs.Rests.{SaysPulled}
use Rattle.h1_connection.specs.declared.event.Event.TheVariants.{Pull}
use Rattle.h1_traced.specs.Outcomes.{pulled_outcome}
use Rattle.h1_traced.proofs.TracedLaws.{any_err, ok_given, pull_says, traced_steps, fails_before, fails_noting}
use Rattle.h1_traced.proofs.traced.Traced.pull.Goals as goal

pub returns-clause-stands : goal.returns-clause-stands
returns-clause-stands g c =
    rw (sym c.self.view_is) (ok_given c.note_pull.result c.in_ok-pulled.pulled _ c.note_pull.ensures.same c.note_pull.ensures.ok
    (λ grows. traced_steps c.self.inside.connection c.pull.new.self _ _ _ _ (record { event = Pull; outcome = pulled_outcome c.in_ok-pulled.pulled }) on.pull (SaysPulled c.in_ok-pulled.pulled) c.in_ok-pulled.ensures.stands c.in_ok-pulled.ensures.settings grows (λ out says. record { event = refl; outcome = pull_says c.in_ok-pulled.pulled out says })))

pub returns-clause-err : goal.returns-clause-err
returns-clause-err g c =
    rw (sym c.self.view_is) (fails_noting c.note_pull.result c.self.inside.connection c.pull.new.self _ _ _ _ on.pull (SaysPulled c.in_ok-pulled.pulled) c.in_ok-pulled.ensures.stands c.note_pull.ensures.err c.note_pull.ensures.no_memory_needed)

pub returns-in_err-pulled-clause-err : goal.returns-in_err-pulled-clause-err
returns-in_err-pulled-clause-err g c =
    rw (sym c.self.view_is) (any_err _ (fails_before c.self.inside.connection c.pull.new.self _ _ on.pull c.in_err-pulled.ensures.err (λ unheard takes. false≢true (c.in_err-pulled.ensures.no_memory_needed takes))))
