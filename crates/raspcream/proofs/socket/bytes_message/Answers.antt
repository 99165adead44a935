use Rattle.std.proofs.Common.{arith}
use Rattle.raspcream.proofs.NamedLemmas.{no_plain, fails_too}
use Rattle.raspcream.proofs.socket.bytes_message.Goals as goal

pub returns-in_default-clause-why : goal.returns-in_default-clause-why
returns-in_default-clause-why c = no_plain _ (λ e. absurd (omega arith)) (λ e. absurd (omega arith)) (λ e. absurd (omega arith)) (λ e. absurd (omega arith)) (λ e. absurd (omega arith)) (λ e. absurd (omega arith)) (λ e. absurd (omega arith))
