use Rattle.std.proofs.Common.{refl}
use Rattle.h1_replay.specs.Run.{usage}
use Rattle.h1_replay.proofs.Answering.{run_answer}
use Rattle.h1_replay.proofs.program.reply_unread.Goals as goal

pub returns-in-Some : goal.returns-in-Some
returns-in-Some c = λ source. run_answer _ source c.in-Some.seed c.in-Some.count c.sum_up.result c.in-Some.ensures.some c.sum_up.ensures

pub returns-in-None : goal.returns-in-None
returns-in-None c = λ source. usage (record { not_replay = c.requires; not_gen = c.in-None.ensures.none refl }) refl refl refl
