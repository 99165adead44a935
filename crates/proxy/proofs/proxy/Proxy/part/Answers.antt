use Rattle.std.proofs.Common.{Some, None, refl, sym, ◌∙◌}
use Rattle.proxy.proofs.Moves.{fails, is_over}
use Rattle.proxy.proofs.Work.{less_same, weaker, closed_less}
use Rattle.proxy.proofs.Served.{with_server}
use Rattle.proxy.proofs.Replies.{kept_over, closed_over}
use Rattle.proxy.proofs.Below.{below_none, below_same}
use Rattle.proxy.proofs.proxy.Proxy.part.Goals as goal

pub returns-then-may_keep-clause-goes : goal.returns-then-may_keep-clause-goes
returns-then-may_keep-clause-goes c =
    is_over (record c.args.self.now { server = Some c.args.server }) c.args.sent (record { unsent = c.requires.runs.unsent; sent = c.requires.runs.sent })
    (c.may_keep.ensures.whole c.if-may_keep.true)

pub returns-clause-goes : goal.returns-clause-goes
returns-clause-goes c = fails (record c.args.self.now { server = Some c.args.server }) c.requires.runs.unsent

pub returns-then-may_keep-clause-works : goal.returns-then-may_keep-clause-works
returns-then-may_keep-clause-works c = less_same (record c.args.self.now { server = Some c.args.server; sent = None })

pub returns-clause-works : goal.returns-clause-works
returns-clause-works c = weaker 1 _ _ (closed_less (record c.args.self.now { sent = None }) c.args.server)

pub returns-then-may_keep-clause-serves : goal.returns-then-may_keep-clause-serves
returns-then-may_keep-clause-serves c = with_server (record c.args.self.now { sent = None }) (Some c.args.server)

pub returns-clause-serves : goal.returns-clause-serves
returns-clause-serves c = with_server (record c.args.self.now { sent = None }) None

pub returns-then-may_keep-clause-over : goal.returns-then-may_keep-clause-over
returns-then-may_keep-clause-over c = record { unsent = c.requires.runs.unsent; sent = refl; server = kept_over _ c.args.server (sym c.may_keep.ensures.keeps ∙ c.if-may_keep.true) }

pub returns-clause-over : goal.returns-clause-over
returns-clause-over c = record { unsent = c.requires.runs.unsent; sent = refl; server = closed_over _ c.args.server (sym c.may_keep.ensures.keeps ∙ c.if-may_keep.false) }

pub returns-then-may_keep-clause-below : goal.returns-then-may_keep-clause-below
returns-then-may_keep-clause-below c = below_same (Some c.args.server)

pub returns-clause-below : goal.returns-clause-below
returns-clause-below c = below_none (Some c.args.server)
