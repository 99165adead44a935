use Rattle.std.proofs.Common.{rules, refl, inr}
use Rattle.h1_connection.specs.declared.connection.ticks.Expiry.TheVariants as expiries
use Rattle.h1_dispatcher.proofs.dispatcher.begin.Dispatcher+T+S+S+Call+L+B.tick.Goals as goal

pub returns-in-Ok-Abandoned-clause-says : goal.returns-in-Ok-Abandoned-clause-says
returns-in-Ok-Abandoned-clause-says g c =
    inr (search rules, (expiries.Abandoned, (record { steps = rw c.in-Ok-Abandoned.field-0-is at c.in-Ok-Abandoned.ensures.stands; settings = c.tick.ensures.settings; listens = c.tick.ensures.listening }, refl)))

pub returns-in-Ok-Expired-clause-says : goal.returns-in-Ok-Expired-clause-says
returns-in-Ok-Expired-clause-says g c =
    inr (search rules, (expiries.Expired c.in-Ok-Expired.field-0-0, (record { steps = rw c.in-Ok-Expired.field-0-is at c.in-Ok-Expired.ensures.stands; settings = c.tick.ensures.settings; listens = c.tick.ensures.listening }, refl)))

pub returns-in-Ok-None-clause-says : goal.returns-in-Ok-None-clause-says
returns-in-Ok-None-clause-says g c =
    inr (search rules, (expiries.None, (record { steps = rw c.in-Ok-None.field-0-is at c.in-Ok-None.ensures.stands; settings = c.tick.ensures.settings; listens = c.tick.ensures.listening }, refl)))

pub returns-in-Err-clause-says : goal.returns-in-Err-clause-says
returns-in-Err-clause-says g c = (search rules, c.in-Err.ensures.err, refl)
