use Rattle.std.specs.Prelude.{take}
use Rattle.model_proxy.specs.Past.{to_server, gave}
use Rattle.proxy.proofs.Moves.{by_then}
use Rattle.proxy.proofs.Work.{rests_by}
use Rattle.proxy.specs.Kept.{server_text}
use Rattle.proxy.proofs.Served.{serves_by}
use Rattle.proxy.proofs.EventReplies.{replies_by}
use Rattle.std.proofs.lemmas.Bool.{false≢true}
use Rattle.proxy.proofs.Still.{held_still, held_as}
use Rattle.proxy.proofs.proxy.Proxy.advance_server.Goals as goal

pub returns-clause-goes : goal.returns-clause-goes
returns-clause-goes c =
    by_then (to_server c.args.count) (gave (take c.args.count (server_text c.args.self.now.server))) c.args.self.now c.write_server.new.self c.settle.new.self
    c.write_server.ensures.goes c.in_ok-settle.ensures.goes

pub returns-clause-rests : goal.returns-clause-rests
returns-clause-rests c =
    rests_by (to_server c.args.count) (gave (take c.args.count (server_text c.args.self.now.server))) c.args.self.now c.write_server.new.self c.settle.new.self
    c.write_server.ensures.goes c.in_ok-settle.ensures.rests

pub returns-clause-serves : goal.returns-clause-serves
returns-clause-serves c = serves_by c.args.self.now c.write_server.new.self c.settle.new.self c.write_server.ensures.serves c.in_ok-settle.ensures.serves

pub returns-clause-replies : goal.returns-clause-replies
returns-clause-replies c = replies_by (to_server c.args.count) (gave (take c.args.count (server_text c.args.self.now.server))) c.args.self.now c.write_server.new.self c.settle.new.self
    c.write_server.ensures.goes c.write_server.ensures.serves c.write_server.ensures.replies c.in_ok-settle.ensures.replies

pub returns-in_err-settle-clause-no_memory_needed : goal.returns-in_err-settle-clause-no_memory_needed
returns-in_err-settle-clause-no_memory_needed c = λ held.
    absurd (false≢true (c.in_err-settle.ensures.no_memory_needed
    (held_still c.write_server.new.self (held_as c.args.self.now.client c.write_server.new.self.client c.write_server.ensures.replies.client held))))
