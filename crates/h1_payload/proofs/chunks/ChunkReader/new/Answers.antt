use Rattle.std.proofs.Common.{sym, subst}
use Rattle.model_h1.specs.Place.{start}
use Rattle.h1_payload.specs.Readers.{HasRoom}
use Rattle.h1_payload.proofs.Rooms.{room_start}
use Rattle.h1_payload.proofs.chunks.ChunkReader.new.Goals as goal

pub invariant_of-result : goal.invariant_of-result
invariant_of-result c = subst (HasRoom start) (sym c.new.ensures) room_start
