use Rattle.h1_connection.proofs.EventLemmas.{write_steps, write_sound}
use Rattle.h1_connection.proofs.ResultLemmas.{ok_both, on_map}
use Rattle.h1_connection.proofs.MarkLemmas.{given_marks, given_rest}
use Rattle.h1_connection.proofs.connection.parts.Parts.give.Goals as goal

pub returns-clause-ok : goal.returns-clause-ok
returns-clause-ok c =
    ok_both c.give.result _ _ _ (λ bytes given rest. write_steps c.args.config.now c.args.self.now c.args.limit bytes c.give.new.self c.requires given (given_rest c.args.self.now.output c.give.new.self c.args.limit rest)) c.give.ensures.ok c.give.ensures.rest

pub returns-clause-sound : goal.returns-clause-sound
returns-clause-sound c = on_map c.give.result _ _ (λ rest. write_sound c.args.config.now c.args.self.now _ c.requires) c.give.ensures.rest

pub returns-clause-marks : goal.returns-clause-marks
returns-clause-marks c =
    ok_both c.give.result _ _ _ (λ bytes given rest. given_marks c.args.self.now.output c.give.new.self c.args.limit bytes given rest) c.give.ensures.ok c.give.ensures.rest
