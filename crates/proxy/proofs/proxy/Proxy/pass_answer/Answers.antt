use Rattle.std.proofs.Common.{Some, None}
use Rattle.proxy.proofs.Moves.{goes_then, closes, server_moves}
use Rattle.std.proofs.Common.{Some, None}
use Rattle.std.proofs.Common.{arith, sym, ◌∙◌}
use Rattle.std.proofs.lemmas.Bool.{false≢true}
use Rattle.proxy.proofs.Work.{works, less_then, server_less, server_much_less, closed_less, drop_sent, then_told, sent_rests}
use Rattle.std.proofs.Common.{subst}
use Rattle.h1_client.specs.declared.event.NextAnswer.{NextAnswer}
use Rattle.proxy.specs.Leaves.{LeavesAnswer}
use Rattle.proxy.proofs.Served.{serves_of_sent}
use Rattle.std.proofs.Common.{inr}
use Rattle.proxy.proofs.Replies.{answer_replies, fails_replies, closed_lacks, body_replies, body_before, awaits_by}
use Rattle.proxy.specs.Puts.{HandsAnswer}
use Rattle.model_client.specs.ClientEvent as asked
use Rattle.proxy.proofs.Below.{below_kept, fails_below}
use Rattle.proxy.proofs.proxy.Proxy.pass_answer.Goals as goal

pub take_answer-requires : goal.take_answer-requires
take_answer-requires c = c.requires

pub fail-requires : goal.fail-requires
fail-requires c = record { unsent = c.requires.runs.unsent }

pub fail-requires-in-Closed : goal.fail-requires-in-Closed
fail-requires-in-Closed c = record { unsent = c.requires.runs.unsent }

pub pass_body-requires : goal.pass_body-requires
pass_body-requires c = c.requires

pub returns-in_ok-take_answer-in-Answer-clause-goes : goal.returns-in_ok-take_answer-in-Answer-clause-goes
returns-in_ok-take_answer-in-Answer-clause-goes c =
    goes_then _ _ _ (server_moves c.args.self.now c.args.server c.next_answer.new.server c.in_ok-item.ensures.stays c.in_ok-item.ensures.time) c.in_ok-take_answer-in-Answer.ensures.goes

pub returns-in_ok-fail-in-Fault-clause-goes : goal.returns-in_ok-fail-in-Fault-clause-goes
returns-in_ok-fail-in-Fault-clause-goes c = goes_then _ _ _ (closes (record c.args.self.now { server = Some c.args.server })) c.in_ok-fail-in-Fault.ensures.goes

pub returns-in_ok-fail-in-Closed-clause-goes : goal.returns-in_ok-fail-in-Closed-clause-goes
returns-in_ok-fail-in-Closed-clause-goes c = goes_then _ _ _ (closes (record c.args.self.now { server = Some c.args.server })) c.in_ok-fail-in-Closed.ensures.goes

pub returns-in_ok-more-in-Pending-clause-goes : goal.returns-in_ok-more-in-Pending-clause-goes
returns-in_ok-more-in-Pending-clause-goes c =
    goes_then _ _ _ (server_moves c.args.self.now c.args.server c.next_answer.new.server c.in_ok-item.ensures.stays c.in_ok-item.ensures.time) c.in_ok-more-in-Pending.ensures.goes

pub returns-in_ok-take_answer-in-Answer-clause-works : goal.returns-in_ok-take_answer-in-Answer-clause-works
returns-in_ok-take_answer-in-Answer-clause-works c = λ unanswered.
    works 15 _ _ (omega arith)
    (less_then 15 (record c.args.self.now { server = Some c.args.server }) (record c.args.self.now { server = Some c.next_answer.new.server }) _
    (server_much_less 15 c.args.self.now c.args.server c.next_answer.new.server c.in_ok-item.ensures.stays (subst (λ (n : NextAnswer). LeavesAnswer n c.args.server c.next_answer.new.server) c.in-Answer.is c.in_ok-item.ensures.leaves))
    c.in_ok-take_answer-in-Answer.ensures.works)

pub returns-in_ok-fail-in-Fault-clause-works : goal.returns-in_ok-fail-in-Fault-clause-works
returns-in_ok-fail-in-Fault-clause-works c = λ unanswered.
    let p = record c.args.self.now { server = None } in
    works 1 _ _ (omega arith)
    (less_then 1 (record c.args.self.now { server = Some c.args.server }) p _ (closed_less c.args.self.now c.args.server)
    (less_then 0 p (record p { sent = None }) _ (drop_sent p) c.in_ok-fail-in-Fault.ensures.works))

pub returns-in_ok-fail-in-Closed-clause-works : goal.returns-in_ok-fail-in-Closed-clause-works
returns-in_ok-fail-in-Closed-clause-works c = λ unanswered.
    let p = record c.args.self.now { server = None } in
    works 1 _ _ (omega arith)
    (less_then 1 (record c.args.self.now { server = Some c.args.server }) p _ (closed_less c.args.self.now c.args.server)
    (less_then 0 p (record p { sent = None }) _ (drop_sent p) c.in_ok-fail-in-Closed.ensures.works))

pub returns-in_ok-more-in-Pending-clause-works : goal.returns-in_ok-more-in-Pending-clause-works
returns-in_ok-more-in-Pending-clause-works c = λ unanswered.
    then_told c.args.sent c.next_answer.new.server c.in_ok-more-in-Pending.more c.args.server c.args.self.now c.pass_body.new.self
    (server_less c.args.self.now c.args.server c.next_answer.new.server c.in_ok-item.ensures.stays) c.in_ok-more-in-Pending.ensures.works
    (λ told rests. sent_rests c.args.sent c.next_answer.new.server c.args.self.now c.pass_body.new.self rests
    (λ _. subst (λ (n : NextAnswer). LeavesAnswer n c.args.server c.next_answer.new.server) c.in-Pending.is c.in_ok-item.ensures.leaves told.server.0 told.server.1) (λ is. absurd (false≢true (sym unanswered ∙ is))))

pub returns-in_ok-take_answer-in-Answer-clause-serves : goal.returns-in_ok-take_answer-in-Answer-clause-serves
returns-in_ok-take_answer-in-Answer-clause-serves c = c.in_ok-take_answer-in-Answer.ensures.serves

pub returns-in_ok-fail-in-Fault-clause-serves : goal.returns-in_ok-fail-in-Fault-clause-serves
returns-in_ok-fail-in-Fault-clause-serves c = λ _. serves_of_sent c.args.self.now _ c.args.sent c.requires.runs.sent c.in_ok-fail-in-Fault.ensures.serves

pub returns-in_ok-fail-in-Closed-clause-serves : goal.returns-in_ok-fail-in-Closed-clause-serves
returns-in_ok-fail-in-Closed-clause-serves c = λ _. serves_of_sent c.args.self.now _ c.args.sent c.requires.runs.sent c.in_ok-fail-in-Closed.ensures.serves

pub returns-in_ok-more-in-Pending-clause-serves : goal.returns-in_ok-more-in-Pending-clause-serves
returns-in_ok-more-in-Pending-clause-serves c = λ _. c.in_ok-more-in-Pending.ensures.serves

pub returns-in_ok-take_answer-in-Answer-clause-replies : goal.returns-in_ok-take_answer-in-Answer-clause-replies
returns-in_ok-take_answer-in-Answer-clause-replies c = λ unanswered.
    answer_replies c.args.self.now c.take_answer.new.self c.args.sent c.args.server c.next_answer.new.server _ c.requires.runs unanswered
    (subst (λ (n : NextAnswer). HandsAnswer n c.args.server c.next_answer.new.server) c.in-Answer.is c.in_ok-item.ensures.hands)
    c.in_ok-take_answer-in-Answer.ensures.replies

pub returns-in_ok-fail-in-Fault-clause-replies : goal.returns-in_ok-fail-in-Fault-clause-replies
returns-in_ok-fail-in-Fault-clause-replies c = λ unanswered.
    fails_replies c.args.self.now c.fail.new.self c.args.sent (Some c.args.server) c.requires.runs
    (λ _. inr (asked.fault _, tt, c.next_answer.new.server, subst (λ (n : NextAnswer). HandsAnswer n c.args.server c.next_answer.new.server) c.in-Fault.is c.in_ok-item.ensures.hands))
    (λ answered. absurd (false≢true (sym unanswered ∙ answered)))
    c.in_ok-fail-in-Fault.ensures.replies

pub returns-in_ok-fail-in-Closed-clause-replies : goal.returns-in_ok-fail-in-Closed-clause-replies
returns-in_ok-fail-in-Closed-clause-replies c = λ unanswered.
    fails_replies c.args.self.now c.fail-in-Closed.new.self c.args.sent (Some c.args.server) c.requires.runs
    (λ _. closed_lacks c.args.server c.next_answer.new.server _ (subst (λ (n : NextAnswer). HandsAnswer n c.args.server c.next_answer.new.server) c.in-Closed.is c.in_ok-item.ensures.hands))
    (λ answered. absurd (false≢true (sym unanswered ∙ answered)))
    c.in_ok-fail-in-Closed.ensures.replies

pub returns-in_ok-more-in-Pending-clause-replies : goal.returns-in_ok-more-in-Pending-clause-replies
returns-in_ok-more-in-Pending-clause-replies c = λ unanswered.
    body_replies c.args.self.now c.pass_body.new.self c.args.sent c.args.server c.requires.runs
    (λ _. awaits_by c.args.server c.next_answer.new.server
    (subst (λ (n : NextAnswer). HandsAnswer n c.args.server c.next_answer.new.server) c.in-Pending.is c.in_ok-item.ensures.hands)
    (subst (λ (n : NextAnswer). LeavesAnswer n c.args.server c.next_answer.new.server) c.in-Pending.is c.in_ok-item.ensures.leaves))
    (body_before c.args.self.now.client c.pass_body.new.self c.args.sent c.args.server c.next_answer.new.server
    (subst (λ (n : NextAnswer). HandsAnswer n c.args.server c.next_answer.new.server) c.in-Pending.is c.in_ok-item.ensures.hands) c.in_ok-more-in-Pending.ensures.replies)

pub returns-in_ok-take_answer-in-Answer-clause-below : goal.returns-in_ok-take_answer-in-Answer-clause-below
returns-in_ok-take_answer-in-Answer-clause-below c =
    below_kept c.args.server c.next_answer.new.server _ c.in_ok-item.ensures.waits c.in_ok-take_answer-in-Answer.ensures.below

pub returns-in_ok-fail-in-Fault-clause-below : goal.returns-in_ok-fail-in-Fault-clause-below
returns-in_ok-fail-in-Fault-clause-below c = fails_below c.args.sent.is_answered _ (Some c.args.server) _ c.in_ok-fail-in-Fault.ensures.replies

pub returns-in_ok-fail-in-Closed-clause-below : goal.returns-in_ok-fail-in-Closed-clause-below
returns-in_ok-fail-in-Closed-clause-below c = fails_below c.args.sent.is_answered _ (Some c.args.server) _ c.in_ok-fail-in-Closed.ensures.replies

pub returns-in_ok-more-in-Pending-clause-below : goal.returns-in_ok-more-in-Pending-clause-below
returns-in_ok-more-in-Pending-clause-below c =
    below_kept c.args.server c.next_answer.new.server _ c.in_ok-item.ensures.waits c.in_ok-more-in-Pending.ensures.below
