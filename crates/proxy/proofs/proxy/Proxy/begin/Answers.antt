use Rattle.std.proofs.Common.{None, sym, ◌∙◌}
use Rattle.proxy.proofs.Fresh.{goes_on_closes}
use Rattle.proxy.proofs.Moves.{closes}
use Rattle.std.proofs.Common.{arith, inl, inr, refl}
use Rattle.proxy.proofs.Work.{works, over_less}
use Rattle.proxy.proofs.Served.{with_server}
use Rattle.proxy.specs.Replies.{nothing_put}
use Rattle.proxy.proofs.BodyMarks.{idle_body}
use Rattle.proxy.proofs.Replies.{no_part_put, idle_cause}
use Rattle.proxy.proofs.Puts.{puts_none}
use Rattle.proxy.proofs.Below.{below_none}
use Rattle.proxy.proofs.proxy.Proxy.begin.Goals as goal

pub take_head-requires : goal.take_head-requires
take_head-requires c = record { idle = c.requires.idle; going = c.requires.going; goes_on = c.is_server_over.ensures.goes_on c.if-is_server_over.false }

pub returns-then-is_server_over-clause-goes : goal.returns-then-is_server_over-clause-goes
returns-then-is_server_over-clause-goes c = closes c.args.self.now

pub returns-then-is_server_over-clause-works : goal.returns-then-is_server_over-clause-works
returns-then-is_server_over-clause-works c = works 1 _ _ (omega arith) (over_less c.args.self.now (c.is_server_over.ensures.some c.if-is_server_over.true))

pub returns-then-is_server_over-clause-serves : goal.returns-then-is_server_over-clause-serves
returns-then-is_server_over-clause-serves c = with_server c.args.self.now None

pub returns-then-is_server_over-clause-replies : goal.returns-then-is_server_over-clause-replies
returns-then-is_server_over-clause-replies c =
    no_part_put c.args.self.now (record c.args.self.now { server = None }) (idle_cause c.args.self.now _ c.requires.idle) (puts_none c.args.self.now.client)
    (idle_body nothing_put c.args.self.now (record c.args.self.now { server = None }) c.requires.idle.sent) refl

pub returns-then-is_server_over-clause-keeps : goal.returns-then-is_server_over-clause-keeps
returns-then-is_server_over-clause-keeps c = λ idle. let x = c.is_server_over.ensures.over c.if-is_server_over.true in (idle.sent, inr (inl (refl, x.0, x.1, x.2)))

pub returns-clause-keeps : goal.returns-clause-keeps
returns-clause-keeps c = c.in_ok-more.ensures.keeps

pub returns-then-is_server_over-clause-closes : goal.returns-then-is_server_over-clause-closes
returns-then-is_server_over-clause-closes c = λ over none. refl

pub returns-clause-closes : goal.returns-clause-closes
returns-clause-closes c = goes_on_closes c.args.self.now c.take_head.new.self (sym c.is_server_over.ensures.is ∙ c.if-is_server_over.false)

pub returns-then-is_server_over-clause-below : goal.returns-then-is_server_over-clause-below
returns-then-is_server_over-clause-below c = below_none c.args.self.now.server
