use Rattle.std.specs.Prelude.{unwrap_or}
use Rattle.std.proofs.Common.{ℕ, Option, ap, refl, ◌∙◌}
use Rattle.raspcream.proofs.told.numbers_of.Goals as goal

pub returns : goal.returns
returns c =
    record {
      calls = c.calls_of.ensures;
      waiting = refl;
      buffered = c.buffered.ensures.value;
      write_room = c.write_room.ensures;
      held = c.held.ensures.value;
      read_room = c.read_room.ensures;
      deadline = c.unwrap_or.ensures ∙ ap (λ (d : Option ℕ). unwrap_or d 18446744073709551615) c.deadline.ensures.value;
    }
