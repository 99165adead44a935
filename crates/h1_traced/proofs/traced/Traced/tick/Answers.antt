use Rattle.std.proofs.Common.{refl, sym}
use Rattle.std.proofs.lemmas.Bool.{false≢true}
use Rattle.model_h1.specs.Event as on
use Rattle.h1_connection.specs.State.{Is}
use Rattle.h1_connection.specs.Ticks.{expiry_of}
use Rattle.h1_connection.specs.declared.event.Event.TheVariants.{Tick}
use Rattle.h1_traced.specs.Outcomes.{tick_outcome}
use Rattle.h1_traced.proofs.TracedLaws.{any_err, tick_says, traced_steps, fails_before, fails_after}
use Rattle.h1_traced.proofs.traced.Traced.tick.Goals as goal

pub returns-clause-stands : goal.returns-clause-stands
returns-clause-stands g c =
    rw (sym c.self.view_is) (traced_steps c.self.inside.connection c.tick.new.self _ _ _ _ (record { event = (Tick c.args.moment); outcome = tick_outcome c.in_ok-expiry.expiry }) (on.tick c.args.moment) (Is (expiry_of c.in_ok-expiry.expiry))
    c.in_ok-expiry.ensures.stands c.in_ok-expiry.ensures.settings c.in_ok-note_tick.ensures.ok (λ out is. record { event = refl; outcome = tick_says c.in_ok-expiry.expiry out is }))

pub returns-in_err-note_tick-clause-err : goal.returns-in_err-note_tick-clause-err
returns-in_err-note_tick-clause-err g c =
    rw (sym c.self.view_is) (any_err _ (fails_after c.self.inside.connection c.tick.new.self _ _ _ _ (on.tick c.args.moment) (Is (expiry_of c.in_ok-expiry.expiry)) c.in_ok-expiry.ensures.stands c.in_err-note_tick.ensures.err (λ unheard takes. false≢true (c.in_err-note_tick.ensures.no_memory_needed unheard))))

pub returns-in_err-expiry-clause-err : goal.returns-in_err-expiry-clause-err
returns-in_err-expiry-clause-err g c =
    rw (sym c.self.view_is) (any_err _ (fails_before c.self.inside.connection c.tick.new.self _ _ (on.tick c.args.moment) c.in_err-expiry.ensures.err (λ unheard takes. false≢true (c.in_err-expiry.ensures.no_memory_needed takes))))
