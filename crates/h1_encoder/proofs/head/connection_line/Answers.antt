use Rattle.std.proofs.Common.{◌≡◌, refl, arith}
use Rattle.model_h1.specs.AnswerText.{camel_rest}
use Rattle.h1_encoder.proofs.head.connection_line.Goals as goal

pub returns-in-Upgrade : goal.returns-in-Upgrade
unfolding camel_rest
returns-in-Upgrade c = rw (c.in-Upgrade.is, c.if-camel.true) refl

pub returns-in-KeepAlive-2 : goal.returns-in-KeepAlive-2
unfolding camel_rest
returns-in-KeepAlive-2 c =
    let old : c.args.asked.minor ≡ 0 = omega arith in
    rw (c.in-KeepAlive.is, c.if-camel-2.true, old) refl

pub returns-in-Close-2 : goal.returns-in-Close-2
unfolding camel_rest
returns-in-Close-2 c =
    let new : c.args.asked.minor ≡ 1 = omega arith in
    rw (c.in-Close.is, c.if-camel-3.true, new) refl
