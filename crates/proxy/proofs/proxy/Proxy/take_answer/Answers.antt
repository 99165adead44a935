use Rattle.std.proofs.Common.{Some, None, refl}
use Rattle.proxy.proofs.Moves.{goes_same, goes_then, closes}
use Rattle.proxy.proofs.Work.{less_same, less_then, weaker, closed_less, drop_sent}
use Rattle.proxy.proofs.Served.{serves_of_sent, with_server, no_reply_to, told_to_continue}
use Rattle.std.proofs.Common.{subst, inl, inr, ◌≡◌, []}
use Rattle.proxy.proofs.AnswerUses.{is_refused_so, is_passed_over, is_passed_on}
use Rattle.proxy.proofs.Replies.{goes_as}
use Rattle.proxy.proofs.Puts.{puts_none, hands_same}
use Rattle.proxy.proofs.Replies.{fails_last}
use Rattle.proxy.specs.Replies.{marks_of}
use Rattle.proxy_heads.specs.declared.replies.AnswerUse.{AnswerUse}
use Rattle.proxy_heads.specs.ForwardedMeaning.{found_as}
use Rattle.model_proxy.specs.Answers.{found_by}
use Rattle.model_client.specs.AnswerReading.{answer_is}
use Rattle.proxy.proofs.Below.{below_same, fails_below}
use Rattle.proxy.proofs.proxy.Proxy.take_answer.Goals as goal

pub fail-requires : goal.fail-requires
fail-requires c = record { unsent = c.requires.runs.unsent }

pub returns-in_ok-fail-in-Refuse-clause-goes : goal.returns-in_ok-fail-in-Refuse-clause-goes
returns-in_ok-fail-in-Refuse-clause-goes c = goes_then _ _ _ (closes (record c.args.self.now { server = Some c.args.server })) c.in_ok-fail-in-Refuse.ensures.goes

pub returns-in-PassOver-clause-goes : goal.returns-in-PassOver-clause-goes
returns-in-PassOver-clause-goes c = goes_same (record c.args.self.now { server = Some c.args.server })

pub returns-in_ok-fail-in-Refuse-clause-works : goal.returns-in_ok-fail-in-Refuse-clause-works
returns-in_ok-fail-in-Refuse-clause-works c =
    let p = record c.args.self.now { server = None } in
    less_then 0 (record c.args.self.now { server = Some c.args.server }) p _ (weaker 1 _ _ (closed_less c.args.self.now c.args.server))
    (less_then 0 p (record p { sent = None }) _ (drop_sent p) c.in_ok-fail-in-Refuse.ensures.works)

pub returns-in-PassOver-clause-works : goal.returns-in-PassOver-clause-works
returns-in-PassOver-clause-works c = less_same (record c.args.self.now { server = Some c.args.server })

pub returns-in_ok-fail-in-Refuse-clause-serves : goal.returns-in_ok-fail-in-Refuse-clause-serves
returns-in_ok-fail-in-Refuse-clause-serves c = λ _. serves_of_sent c.args.self.now _ c.args.sent c.requires.runs.sent c.in_ok-fail-in-Refuse.ensures.serves

pub returns-in-PassOver-clause-serves : goal.returns-in-PassOver-clause-serves
returns-in-PassOver-clause-serves c = λ _. with_server c.args.self.now (Some c.args.server)

pub returns-in_ok-pass_noted-in-PassOn-clause-serves : goal.returns-in_ok-pass_noted-in-PassOn-clause-serves
returns-in_ok-pass_noted-in-PassOn-clause-serves c = λ unanswered s.
    c.in_ok-pass_noted-in-PassOn.ensures.serves (no_reply_to c.args.self.now c.args.sent c.requires.runs unanswered s)
    (told_to_continue c.args.self.now c.args.sent c.requires.runs s)

pub returns-in_ok-fail-in-Refuse-clause-replies : goal.returns-in_ok-fail-in-Refuse-clause-replies
returns-in_ok-fail-in-Refuse-clause-replies c = λ unanswered a read says.
    let x = fails_last c.args.sent.is_answered c.args.self.now.client c.fail.new.self unanswered c.in_ok-fail-in-Refuse.ensures.replies in
    inl (
      is_refused_so a (λ r b later. subst (λ (u : AnswerUse). found_by r (answer_is a) b later ≡ found_as u r a b later) c.in-Refuse.is (c.answer_use.ensures a r b later says)),
      x.0,
      x.1,
    )

pub returns-in-PassOver-clause-replies : goal.returns-in-PassOver-clause-replies
returns-in-PassOver-clause-replies c = λ unanswered a read says.
    let over = is_passed_over a (λ r b later. subst (λ (u : AnswerUse). found_by r (answer_is a) b later ≡ found_as u r a b later) c.in-PassOver.is (c.answer_use.ensures a r b later says)) in
    inr (inl (
      over.0,
      over.1,
      puts_none c.args.self.now.client,
      goes_as (record c.args.self.now { server = Some c.args.server }) c.args.sent c.args.server c.args.server (marks_of c.args.sent) []
          (record { unsent = c.requires.runs.unsent; sent = c.requires.runs.sent }) refl refl (hands_same c.args.server),
      c.requires.runs.sent,
    ))

pub returns-in_ok-pass_noted-in-PassOn-clause-replies : goal.returns-in_ok-pass_noted-in-PassOn-clause-replies
returns-in_ok-pass_noted-in-PassOn-clause-replies c = λ unanswered a read says.
    let x = c.in_ok-pass_noted-in-PassOn.ensures.replies a read says in
    inr (inr (
      is_passed_on a (λ r b later. subst (λ (u : AnswerUse). found_by r (answer_is a) b later ≡ found_as u r a b later) c.in-PassOn.is (c.answer_use.ensures a r b later says)),
      x.0,
      x.1,
    ))

pub returns-in_ok-fail-in-Refuse-clause-below : goal.returns-in_ok-fail-in-Refuse-clause-below
returns-in_ok-fail-in-Refuse-clause-below c = fails_below c.args.sent.is_answered _ (Some c.args.server) _ c.in_ok-fail-in-Refuse.ensures.replies

pub returns-in-PassOver-clause-below : goal.returns-in-PassOver-clause-below
returns-in-PassOver-clause-below c = below_same (Some c.args.server)
