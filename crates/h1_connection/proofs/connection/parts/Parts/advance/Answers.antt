use Rattle.std.proofs.Common.{refl}
use Rattle.h1_connection.proofs.EventLemmas.{write_steps, write_sound}
use Rattle.h1_connection.proofs.MarkLemmas.{given_marks, given_rest, passed_queue}
use Rattle.h1_connection.proofs.connection.parts.Parts.advance.Goals as goal

pub returns-clause-ok : goal.returns-clause-ok
returns-clause-ok c = write_steps c.args.config.now c.args.self.now c.args.count _ c.advance.new.self c.requires.sound refl
    (given_rest c.args.self.now.output c.advance.new.self c.args.count (passed_queue c.args.self.now.output c.advance.new.self c.args.count c.requires.fits c.advance.ensures))

pub returns-clause-sound : goal.returns-clause-sound
returns-clause-sound c = write_sound c.args.config.now c.args.self.now _ c.requires.sound

pub returns-clause-marks : goal.returns-clause-marks
returns-clause-marks c = given_marks c.args.self.now.output c.advance.new.self c.args.count _ refl (passed_queue c.args.self.now.output c.advance.new.self c.args.count c.requires.fits c.advance.ensures)
