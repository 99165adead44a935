use Rattle.std.proofs.Common.{refl}
use Rattle.http_values.proofs.EscapeLemmas.{same, all_below, agree_below}
use Rattle.http_values.proofs.utils.escaped_bytes.Goals as goal

pub returns : goal.returns
unfolding same all_below
returns c = agree_below _ _ 128 refl
