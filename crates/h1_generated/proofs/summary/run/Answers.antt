use Rattle.std.proofs.Common.{sym, subst}
use Rattle.http_config.specs.Config.{Settings}
use Rattle.h1_connection.specs.Run.{AreAllowed}
use Rattle.h1_generated.proofs.Totals.{allowed_events}
use Rattle.h1_generated.proofs.summary.run.Goals as goal

pub returns-clause-none_is_refused : goal.returns-clause-none_is_refused
returns-clause-none_is_refused c = λ seed count fits is.
    c.drive.ensures.complete (subst (λ (s : Settings). AreAllowed s c.args.events.now) (sym c.default.ensures) (allowed_events seed count c.args.events.now fits is))
