use Rattle.std.proofs.Common.{◌≡◌, length, take, subst}
use Rattle.std.specs.Prelude.{IfOk, OnOk, IsOk, OnErr, min}
use Rattle.h1_output.specs.Queued.{Queued, behind}
use Rattle.h1_connection.proofs.connection.output.Output.give.Goals as goal

pub returns-clause-ok : goal.returns-clause-ok
returns-clause-ok c = subst (λ (q : Queued). IfOk c.give.result (λ bytes. bytes ≡ take c.args.limit q.bytes)) c.self.view_is c.give.ensures.ok

pub returns-clause-rest : goal.returns-clause-rest
returns-clause-rest c =
    subst (λ (q : Queued). OnOk c.give.result (c.give.new.self ≡ behind (min c.args.limit (length q.bytes)) q)) c.self.view_is c.give.ensures.rest

pub returns-clause-none : goal.returns-clause-none
returns-clause-none c = subst (λ (q : Queued). length (take c.args.limit q.bytes) ≡ 0 → IsOk c.give.result) c.self.view_is c.give.ensures.no_memory_needed

pub returns-clause-err : goal.returns-clause-err
returns-clause-err c = subst (λ (q : Queued). OnErr c.give.result (c.give.new.self ≡ q)) c.self.view_is c.give.ensures.err
