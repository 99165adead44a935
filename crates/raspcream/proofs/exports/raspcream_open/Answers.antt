use Rattle.std.proofs.Common.{refl, arith}
use Rattle.raspcream.proofs.OpenLemmas.{known_of, invalid_of}
use Rattle.raspcream.proofs.exports.raspcream_open.Goals as goal

pub returns-in-Err-clause-known : goal.returns-in-Err-clause-known
returns-in-Err-clause-known c = known_of _ _ c.in-Err.ensures.code

pub returns-in-Err-clause-invalid : goal.returns-in-Err-clause-invalid
returns-in-Err-clause-invalid c = invalid_of _ _ c.in-Err.ensures.code

pub returns-in-Ok-clause-invalid : goal.returns-in-Ok-clause-invalid
returns-in-Ok-clause-invalid c = (λ three. absurd (omega arith), λ never. absurd (c.in-Ok.ensures.can_be refl never))
