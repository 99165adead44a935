use Rattle.model_h1.specs.Place.{start}
use Rattle.model_h1.proofs.TrailerRoom.{trailers_fit}
use Rattle.model_h1.proofs.reading.trailers_are_bounded.Goals as goal

pub returns : goal.returns
returns c = λ bytes. trailers_fit bytes start
