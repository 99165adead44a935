use Rattle.h1_client.proofs.AnswerLemmas.{handed_settled, handed_sound, begun_may}
use Rattle.h1_client.proofs.connection.parts.Parts.hand_out.Goals as goal

pub settle-requires : goal.settle-requires
settle-requires c = begun_may c.begin.new.self c.pass_head.new.self _ c.begin.ensures.input c.pass_head.ensures

pub returns-clause-handed : goal.returns-clause-handed
returns-clause-handed c = λ a w ws reading says waits asked.
    handed_settled c.args.self.now c.begin.new.self _ c.pass_head.new.self c.args.start c.args.end c.args.first c.args.item.now a w ws c.pass_head.ensures c.begin.ensures
    reading says waits asked c.settle.ensures

pub returns-clause-sound : goal.returns-clause-sound
returns-clause-sound c = λ a w ws reading says waits asked.
    handed_sound c.args.self.now c.begin.new.self _ c.pass_head.new.self c.args.start c.args.end c.args.first c.args.item.now a w ws c.pass_head.ensures c.begin.ensures
    reading says waits asked c.requires.sound c.requires.runs c.requires.found c.settle.ensures
