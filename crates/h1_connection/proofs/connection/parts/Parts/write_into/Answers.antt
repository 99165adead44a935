use Rattle.std.proofs.Common.{refl, length}
use Rattle.h1_connection.proofs.EventLemmas.{write_steps, write_sound}
use Rattle.h1_connection.proofs.MarkLemmas.{given_marks, given_rest, moved_queue, copied_first}
use Rattle.h1_connection.proofs.connection.parts.Parts.write_into.Goals as goal

pub returns-clause-ok : goal.returns-clause-ok
returns-clause-ok c = write_steps c.args.config.now c.args.self.now (length c.args.room.now) _ c.give_into.new.self c.requires refl
    (given_rest c.args.self.now.output c.give_into.new.self (length c.args.room.now) (moved_queue c.args.self.now.output c.give_into.new.self (length c.args.room.now) c.give_into.result c.give_into.ensures.count c.give_into.ensures.left))

pub returns-clause-sound : goal.returns-clause-sound
returns-clause-sound c = write_sound c.args.config.now c.args.self.now _ c.requires

pub returns-clause-marks : goal.returns-clause-marks
returns-clause-marks c =
    given_marks c.args.self.now.output c.give_into.new.self (length c.args.room.now) _ refl (moved_queue c.args.self.now.output c.give_into.new.self (length c.args.room.now) c.give_into.result c.give_into.ensures.count c.give_into.ensures.left)

pub returns-clause-given : goal.returns-clause-given
returns-clause-given c =
    copied_first c.args.self.now.output.bytes c.give_into.new.room (length c.args.room.now) c.give_into.result c.give_into.ensures.count c.give_into.ensures.given
