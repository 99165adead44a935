use Rattle.std.proofs.Common.{refl}
use Rattle.std.specs.Prelude.{codes}
use Rattle.model_h1.specs.Place.{after}
use Rattle.model_h1.proofs.RunPlaces.{runs_of}
use Rattle.model_h1.proofs.ToldByPlaces.{front_told}
use Rattle.model_h1.proofs.chunk_examples.one_chunk_cut_is_unfinished.Goals as goal

pub returns : goal.returns
unfolding after runs_of
returns c = λ k short. front_told k (codes "4\r\ndata\r\n0\r\n\r\n") refl short
