use Rattle.model_rooms.proofs.RoomLemmas.{room_is_path}
use Rattle.model_rooms.proofs.rooms.rooms_are_paths.Goals as goal

pub returns : goal.returns
returns c = room_is_path
