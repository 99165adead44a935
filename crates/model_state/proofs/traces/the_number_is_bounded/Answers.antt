use Rattle.std.proofs.Common.{ℕ, ◌≤◌, sym, subst}
use Rattle.model_state.specs.Ahead.{MAX_AHEAD}
use Rattle.model_state.proofs.Numbers.{ahead_bound}
use Rattle.model_state.proofs.traces.the_number_is_bounded.Goals as goal

pub returns : goal.returns
returns c = λ setting trace n is. subst (λ (n : ℕ). n ≤ MAX_AHEAD) (sym is.2) (ahead_bound is.0)
