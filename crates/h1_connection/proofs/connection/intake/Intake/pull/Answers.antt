use Rattle.std.proofs.Common.{ap}
use Rattle.h1_connection.specs.Stock.{Stock}
use Rattle.h1_connection.proofs.ResultLemmas.{err_any}
use Rattle.h1_connection.proofs.IntakeLemmas.{pulls_counted, stays_counted}
use Rattle.h1_connection.proofs.connection.intake.Intake.pull.Goals as goal

pub invariant_of-self : goal.invariant_of-self
invariant_of-self c =
    (stays_counted c.args.rest.now c.self.inside.count c.beside_body-self-inside.result c.self.inside.input c.pull.new.self c.args.self.now c.is_nothing.result c.self.view_is c.self.invariant
    c.is_nothing.ensures c.beside_body-self-inside.ensures c.requires.behind c.in_err-pulled.ensures.err.0).1

pub invariant_of-self-2 : goal.invariant_of-self-2
invariant_of-self-2 c =
    (pulls_counted c.args.has_ended c.args.rest.now c.pull.new.rest c.in_ok-pulled.pulled c.self.inside.count c.beside_body-self-inside.result c.self.inside.input c.pull.new.self c.args.self.now c.is_nothing.result
    c.self.view_is c.self.invariant c.is_nothing.ensures c.beside_body-self-inside.ensures c.requires.behind c.in_ok-pulled.ensures.pulled).1

pub returns-clause-ahead : goal.returns-clause-ahead
returns-clause-ahead c =
    (pulls_counted c.args.has_ended c.args.rest.now c.pull.new.rest c.in_ok-pulled.pulled c.self.inside.count c.beside_body-self-inside.result c.self.inside.input c.pull.new.self c.args.self.now c.is_nothing.result
    c.self.view_is c.self.invariant c.is_nothing.ensures c.beside_body-self-inside.ensures c.requires.behind c.in_ok-pulled.ensures.pulled).0

-- ---- memory was wanted

pub returns-in_err-pulled-clause-ahead : goal.returns-in_err-pulled-clause-ahead
returns-in_err-pulled-clause-ahead c =
    ap (λ (s : Stock). s.ahead)
    (stays_counted c.args.rest.now c.self.inside.count c.beside_body-self-inside.result c.self.inside.input c.pull.new.self c.args.self.now c.is_nothing.result c.self.view_is c.self.invariant
    c.is_nothing.ensures c.beside_body-self-inside.ensures c.requires.behind c.in_err-pulled.ensures.err.0).0

pub returns-in_err-pulled-clause-err : goal.returns-in_err-pulled-clause-err
returns-in_err-pulled-clause-err c =
    err_any c.from_residual.result _ (
      (stays_counted c.args.rest.now c.self.inside.count c.beside_body-self-inside.result c.self.inside.input c.pull.new.self c.args.self.now c.is_nothing.result c.self.view_is c.self.invariant
          c.is_nothing.ensures c.beside_body-self-inside.ensures c.requires.behind c.in_err-pulled.ensures.err.0).0,
      c.in_err-pulled.ensures.err.1,
    )
