use Rattle.std.proofs.Common.{◌≡◌, ◌≤◌, take}
use Rattle.model_client.specs.LaxText.{without_blanks}
use Rattle.h1_decoder.proofs.lax.len_without_blanks.Given as goal

-- up to the last byte that is no blank
abbrev pub invariant-loop-at : goal.invariant-loop-at
invariant-loop-at l = (l.len ≤ l.at) × (take l.len l.bytes ≡ without_blanks (take l.at l.bytes))
