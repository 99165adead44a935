use Rattle.std.proofs.Common.{rules}
use Rattle.h1_encoder.proofs.HeadText.{ok_line}
use Rattle.h1_encoder.specs.Meaning.{answer_of}
use Rattle.h1_encoder.proofs.head.is_plain_ok.Goals as goal

pub returns-then-eq : goal.returns-then-eq
returns-then-eq c = λ plain.
    ok_line c.args.asked.minor (answer_of c.args.head.now) c.has_own_reason.result (search rules) (search rules) plain c.has_own_reason.ensures.1
