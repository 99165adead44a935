use Rattle.serve_blocking.proofs.Doubts.{undoubted, doubted}
use Rattle.serve_blocking.proofs.connection.judged.Goals as goal

pub returns-in-Ok : goal.returns-in-Ok
returns-in-Ok c = undoubted _ c.args.item.now _ _ c.if-not-judges_heads.false c.check_head.ensures c.in-Ok.is

pub returns-in-Err : goal.returns-in-Err
returns-in-Err c = doubted _ c.args.item.now _ _ c.if-not-judges_heads.false c.check_head.ensures c.in-Err.is
