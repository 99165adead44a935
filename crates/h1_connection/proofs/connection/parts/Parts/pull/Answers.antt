use Rattle.std.proofs.Common.{refl}
use Rattle.h1_connection.proofs.ResultLemmas.{on_any, ok_three, on_both}
use Rattle.h1_connection.proofs.StepLemmas.{rest_behind}
use Rattle.h1_connection.proofs.PullLemmas.{pull_of, pull_steps, pull_sound}
use Rattle.h1_connection.proofs.connection.parts.Parts.pull.Goals as goal

pub returns-clause-ok : goal.returns-clause-ok
returns-clause-ok c =
    ok_three c.pull.result _ _ _ _
    (λ answer pulled parts frames p of_parts. pull_steps c.args.config.now c.args.self.now c.in-Some.exchange _ p answer _ c.pull.ensures.ahead c.pull.ensures.nothing c.in-Some.is c.requires.open frames c.pull.ensures.piece parts
    c.requires.sound (pull_of c.args.self.now c.in-Some.exchange p c.in-Some.is of_parts)
    (pulled p (pull_of c.args.self.now c.in-Some.exchange p c.in-Some.is of_parts)))
    c.pull.ensures.pulled c.pull.ensures.parts c.pull.ensures.no_frames

pub returns-clause-sound : goal.returns-clause-sound
returns-clause-sound c =
    on_both c.pull.result _ _ _
    (λ parts frames. pull_sound c.args.config.now c.args.self.now c.in-Some.exchange _ _ c.pull.ensures.ahead c.pull.ensures.nothing c.in-Some.is c.requires.open frames c.pull.ensures.piece parts c.requires.sound)
    c.pull.ensures.parts c.pull.ensures.no_frames

pub returns-clause-marks : goal.returns-clause-marks
returns-clause-marks c = on_any c.pull.result _ refl

pub pull-requires-clause-behind : goal.pull-requires-clause-behind
pull-requires-clause-behind c = rest_behind c.args.self.now c.in-Some.exchange c.in-Some.is c.requires.sound.behind
