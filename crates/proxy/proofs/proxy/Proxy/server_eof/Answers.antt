use Rattle.model_proxy.specs.Past.{server_eof, done}
use Rattle.proxy.proofs.Moves.{by_then}
use Rattle.proxy.proofs.Work.{rests_by}
use Rattle.proxy.proofs.Served.{serves_by}
use Rattle.proxy.proofs.EventReplies.{replies_by}
use Rattle.std.proofs.lemmas.Bool.{false≢true}
use Rattle.proxy.proofs.Still.{held_still, held_as}
use Rattle.proxy.proofs.proxy.Proxy.server_eof.Goals as goal

pub returns-clause-goes : goal.returns-clause-goes
returns-clause-goes c =
    by_then server_eof done c.args.self.now c.end_server.new.self c.settle.new.self c.end_server.ensures.goes c.in_ok-settle.ensures.goes

pub returns-clause-rests : goal.returns-clause-rests
returns-clause-rests c =
    rests_by server_eof done c.args.self.now c.end_server.new.self c.settle.new.self c.end_server.ensures.goes c.in_ok-settle.ensures.rests

pub returns-clause-serves : goal.returns-clause-serves
returns-clause-serves c = serves_by c.args.self.now c.end_server.new.self c.settle.new.self c.end_server.ensures.serves c.in_ok-settle.ensures.serves

pub returns-clause-replies : goal.returns-clause-replies
returns-clause-replies c = replies_by server_eof done c.args.self.now c.end_server.new.self c.settle.new.self c.end_server.ensures.goes c.end_server.ensures.serves c.end_server.ensures.replies c.in_ok-settle.ensures.replies

pub returns-in_err-settle-clause-no_memory_needed : goal.returns-in_err-settle-clause-no_memory_needed
returns-in_err-settle-clause-no_memory_needed c = λ held.
    absurd (false≢true (c.in_err-settle.ensures.no_memory_needed
    (held_still c.end_server.new.self (held_as c.args.self.now.client c.end_server.new.self.client c.end_server.ensures.replies.client held))))
