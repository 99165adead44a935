use Rattle.std.proofs.Common.{[], refl}
use Rattle.model_h1.specs.Runs.{cut_runs}
use Rattle.model_h1.specs.Place.{after}
use Rattle.model_h1.proofs.RunPlaces.{runs_of}
use Rattle.model_h1.proofs.ToldByPlaces.{broken_told}
use Rattle.model_h1.proofs.chunk_examples.letter_past_f_is_refused.Goals as goal

pub returns : goal.returns
unfolding after runs_of cut_runs
returns c = broken_told [] [] 103 refl refl
