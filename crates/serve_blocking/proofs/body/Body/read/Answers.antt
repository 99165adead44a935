use Rattle.serve_blocking.specs.Acts.{ReadsNone}
use Rattle.serve_blocking.proofs.Gave.{read_piece, read_none, read_follows, unread}
use Rattle.serve_blocking.proofs.Results.{err_as}
use Rattle.serve_blocking.proofs.body.Body.read.Goals as goal

pub returns-in_err-want-clause-none : goal.returns-in_err-want-clause-none
returns-in_err-want-clause-none g c =
    err_as c.from_residual.result c.in_err-want.field-0.0 (λ e. ReadsNone e c.args.self.now c.want.new.self) c.from_residual.ensures.1
    (unread c.in_err-want.field-0.0 _ _ c.in_err-want.ensures.memory c.in_err-want.ensures.none)

pub returns-clause-follows : goal.returns-clause-follows
returns-clause-follows g c = read_follows c.next_piece.result _ _ _ c.in_ok-want.ensures.follows c.next_piece.ensures.gives c.next_piece.ensures.none

pub returns-clause-reads : goal.returns-clause-reads
returns-clause-reads g c = read_piece c.next_piece.result _ _ _ c.in_ok-want.ensures.leave c.next_piece.ensures.gives

pub returns-clause-none : goal.returns-clause-none
returns-clause-none g c = read_none c.next_piece.result _ _ _ c.in_ok-want.ensures.leave c.next_piece.ensures.none
