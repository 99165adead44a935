use Rattle.std.proofs.Common.{ap, subst}
use Rattle.std.specs.Prelude.{IfErr}
use Rattle.http_transport.proofs.framed.Framed.write.Goals as goal

pub returns-clause-refused : goal.returns-clause-refused
returns-clause-refused g c =
    subst (λ d. IfErr c.encode.result (λ e. ¬ (g.U.Encoder.lacks e) → g.U.Encoder.refuses e d c.args.item)) (ap (λ p. p.codec) c.self.view_is)
    c.encode.ensures.refused
