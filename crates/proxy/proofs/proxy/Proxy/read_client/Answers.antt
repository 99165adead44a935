use Rattle.model_proxy.specs.Past.{client, took}
use Rattle.proxy.proofs.Moves.{by_then}
use Rattle.proxy.proofs.Work.{rests_by}
use Rattle.proxy.proofs.Served.{serves_by}
use Rattle.proxy.proofs.EventReplies.{replies_by}
use Rattle.std.proofs.Common.{ap, ◌∙◌}
use Rattle.std.proofs.lemmas.Bool.{false≢true}
use Rattle.proxy.specs.Rests.{may_turn}
use Rattle.proxy.proofs.proxy.Proxy.read_client.Goals as goal

pub returns-clause-goes : goal.returns-clause-goes
returns-clause-goes c =
    by_then (client c.args.bytes.now) (took c.in_ok-taken.taken) c.args.self.now c.take_from_client.new.self c.settle.new.self c.in_ok-taken.ensures.goes c.in_ok-settle.ensures.goes

pub returns-clause-rests : goal.returns-clause-rests
returns-clause-rests c =
    rests_by (client c.args.bytes.now) (took c.in_ok-taken.taken) c.args.self.now c.take_from_client.new.self c.settle.new.self c.in_ok-taken.ensures.goes c.in_ok-settle.ensures.rests

pub returns-clause-serves : goal.returns-clause-serves
returns-clause-serves c = serves_by c.args.self.now c.take_from_client.new.self c.settle.new.self c.in_ok-taken.ensures.serves c.in_ok-settle.ensures.serves

pub returns-clause-took : goal.returns-clause-took
returns-clause-took c = c.in_ok-taken.ensures.took

pub returns-clause-replies : goal.returns-clause-replies
returns-clause-replies c = replies_by (client c.args.bytes.now) (took c.in_ok-taken.taken) c.args.self.now c.take_from_client.new.self c.settle.new.self c.in_ok-taken.ensures.goes c.in_ok-taken.ensures.serves c.in_ok-taken.ensures.replies c.in_ok-settle.ensures.replies

pub returns-in_err-taken-clause-no_memory_needed : goal.returns-in_err-taken-clause-no_memory_needed
returns-in_err-taken-clause-no_memory_needed c = λ none still. absurd (false≢true (c.in_err-taken.ensures.nothing none).0)

pub returns-in_err-settle-clause-no_memory_needed : goal.returns-in_err-settle-clause-no_memory_needed
returns-in_err-settle-clause-no_memory_needed c = λ none still.
    absurd (false≢true (c.in_err-settle.ensures.no_memory_needed (ap may_turn (c.in_ok-taken.ensures.nothing none).1 ∙ still)))
