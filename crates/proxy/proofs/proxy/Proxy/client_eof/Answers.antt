use Rattle.model_proxy.specs.Past.{client_eof, done}
use Rattle.proxy.proofs.Moves.{by_then}
use Rattle.proxy.proofs.Work.{rests_by}
use Rattle.proxy.proofs.Served.{serves_by}
use Rattle.proxy.proofs.EventReplies.{replies_by}
use Rattle.std.proofs.Common.{ap, ◌∙◌}
use Rattle.std.proofs.lemmas.Bool.{false≢true}
use Rattle.proxy.specs.Rests.{may_turn}
use Rattle.proxy.proofs.proxy.Proxy.client_eof.Goals as goal

pub returns-clause-goes : goal.returns-clause-goes
returns-clause-goes c =
    by_then client_eof done c.args.self.now c.end_client.new.self c.settle.new.self c.end_client.ensures.goes c.in_ok-settle.ensures.goes

pub returns-clause-rests : goal.returns-clause-rests
returns-clause-rests c =
    rests_by client_eof done c.args.self.now c.end_client.new.self c.settle.new.self c.end_client.ensures.goes c.in_ok-settle.ensures.rests

pub returns-clause-serves : goal.returns-clause-serves
returns-clause-serves c = serves_by c.args.self.now c.end_client.new.self c.settle.new.self c.end_client.ensures.serves c.in_ok-settle.ensures.serves

pub returns-clause-replies : goal.returns-clause-replies
returns-clause-replies c = replies_by client_eof done c.args.self.now c.end_client.new.self c.settle.new.self c.end_client.ensures.goes c.end_client.ensures.serves c.end_client.ensures.replies c.in_ok-settle.ensures.replies

pub returns-in_err-settle-clause-no_memory_needed : goal.returns-in_err-settle-clause-no_memory_needed
returns-in_err-settle-clause-no_memory_needed c = λ no still.
    absurd (false≢true (c.in_err-settle.ensures.no_memory_needed (ap may_turn (c.end_client.ensures.nothing no) ∙ still)))
