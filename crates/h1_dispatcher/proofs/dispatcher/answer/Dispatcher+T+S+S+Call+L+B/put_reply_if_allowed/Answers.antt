use Rattle.std.proofs.Common.{sym, ◌∙◌, rules}
use Rattle.h1_dispatcher.proofs.Turns.{clash}
use Rattle.h1_dispatcher.proofs.dispatcher.answer.Dispatcher+T+S+S+Call+L+B.put_reply_if_allowed.Goals as goal

pub returns-then-can_pull-clause-handed : goal.returns-then-can_pull-clause-handed
returns-then-can_pull-clause-handed g c = λ dropped may. absurd (clash (sym (search rules) ∙ dropped))

pub returns-then-not-can_answer-clause-handed : goal.returns-then-not-can_answer-clause-handed
returns-then-not-can_answer-clause-handed g c = λ dropped may. absurd (clash (sym may ∙ search rules))

pub returns-clause-handed : goal.returns-clause-handed
returns-clause-handed g c = λ dropped may. c.put_reply.ensures.handed
