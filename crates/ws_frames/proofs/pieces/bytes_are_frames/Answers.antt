-- Frames are read at places.
use Rattle.ws_frames.proofs.PlaceLemmas.{without_places, some_frames, one_reading}
use Rattle.ws_frames.proofs.pieces.bytes_are_frames.Goals as goal

pub returns-clause-some : goal.returns-clause-some
returns-clause-some c = some_frames

pub returns-clause-one : goal.returns-clause-one
returns-clause-one c = one_reading

pub returns-clause-placed : goal.returns-clause-placed
returns-clause-placed c = without_places
