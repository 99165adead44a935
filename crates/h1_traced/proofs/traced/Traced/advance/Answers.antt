use Rattle.std.proofs.Common.{sym}
use Rattle.h1_traced.proofs.TracedLaws.{unheard, traced_steps_unheard}
use Rattle.h1_traced.proofs.traced.Traced.advance.Goals as goal

pub returns-clause-stands : goal.returns-clause-stands
returns-clause-stands g c =
    rw (sym c.self.view_is) (traced_steps_unheard c.self.inside.connection c.advance.new.self _ _ _ _ c.advance.ensures.stands c.advance.ensures.settings
    (unheard _ _ _ c.listens.ensures.value c.if-listens.false c.listens.ensures.unheard))
