use Rattle.serve_blocking.specs.Fails.{NotBegun}
use Rattle.serve_blocking.proofs.Answered.{answers_empty, part_none, part_unended, sends_none}
use Rattle.serve_blocking.proofs.Followed.{follows_then}
use Rattle.serve_blocking.proofs.Failed.{memory_fails}
use Rattle.serve_blocking.proofs.Results.{err_as, on_err}
use Rattle.serve_blocking.proofs.answer.Answer.empty.Goals as goal

pub returns-in_err-writer-clause-part : goal.returns-in_err-writer-clause-part
returns-in_err-writer-clause-part g c = on_err c.from_residual.result (part_none _ _ _ _ c.in_err-writer.ensures.none)

pub returns-in_err-end-clause-part : goal.returns-in_err-end-clause-part
returns-in_err-end-clause-part g c =
    on_err c.from_residual-in_err-end.result (part_unended _ _ _ _ _ _ c.in_ok-writer.ensures.begins (sends_none _) c.in_err-end.ensures.none)

pub returns-in_err-end-clause-follows : goal.returns-in_err-end-clause-follows
returns-in_err-end-clause-follows g c = follows_then _ _ _ c.in_ok-writer.ensures.follows c.in_err-end.ensures.follows

pub returns-clause-follows : goal.returns-clause-follows
returns-clause-follows g c = follows_then _ _ _ c.in_ok-writer.ensures.follows c.in_ok-end.ensures.follows

pub returns-clause-answers : goal.returns-clause-answers
returns-clause-answers g c = answers_empty _ _ _ _ c.in_ok-writer.ensures.begins c.in_ok-end.ensures.ends c.in_ok-end.ensures.whole

pub returns-in_err-writer-clause-fails : goal.returns-in_err-writer-clause-fails
returns-in_err-writer-clause-fails g c =
    err_as c.from_residual.result c.in_err-writer.field-0.0 (λ e. NotBegun e c.args.body.now c.begin.new.body) c.from_residual.ensures.1
    c.in_err-writer.ensures.fails

pub returns-in_err-end-clause-fails : goal.returns-in_err-end-clause-fails
returns-in_err-end-clause-fails g c =
    err_as c.from_residual-in_err-end.result c.in_err-end.field-0.0 (λ e. NotBegun e c.args.body.now c.end.new.body) c.from_residual-in_err-end.ensures.1
    (memory_fails _ _ c.in_err-end.field-0.0 c.in_err-end.ensures.memory)
