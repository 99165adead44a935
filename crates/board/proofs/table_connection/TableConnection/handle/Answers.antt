use Rattle.std.proofs.Common.{rules, subst}
use Rattle.model_h1.specs.Answer.{size_of}
use Rattle.model_h1.specs.Event as on
use Rattle.h1_connection.specs.State.{GoesOn, Is}
use Rattle.board.specs.Asks.{head_by}
use Rattle.board.proofs.table_connection.TableConnection.handle.Goals as goal

pub returns-clause-ok : goal.returns-clause-ok
returns-clause-ok g c =
    let answer = head_by c.in_ok-said.said in record {
      answer = answer;
      replies = search rules;
      answers = subst (λ seat. GoesOn seat.connection (on.answer answer (size_of 0)) (Is on.done) c.answer.new.self) c.self.view_is
          (subst (λ head. GoesOn c.self.inside.connection (on.answer head (size_of 0)) (Is on.done) c.answer.new.self) c.in_ok-head.ensures c.in_ok-answer.ensures.stands);
      settings = search rules;
      asked = search rules;
    }
