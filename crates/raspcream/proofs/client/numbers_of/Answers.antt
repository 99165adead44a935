use Rattle.std.proofs.Common.{ℕ, ap, ◌∙◌, min, length, refl}
use Rattle.raspcream.proofs.client.numbers_of.Goals as goal

pub returns : goal.returns
returns c =
    record {
      calls = c.calls_of.ensures;
      waiting = c.min.ensures ∙ ap (λ (n : ℕ). min n 4294967295) c.waiting.ensures;
      buffered = ap length c.front.ensures;
      write_room = c.write_room.ensures;
      held = ap length c.held_bytes.ensures;
      read_room = c.read_room.ensures;
      deadline = refl;
    }
