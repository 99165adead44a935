use Rattle.std.proofs.Common.{[], refl}
use Rattle.std.specs.Prelude.{codes}
use Rattle.model_h1.specs.Runs.{cut_runs}
use Rattle.model_h1.specs.Place.{after}
use Rattle.model_h1.proofs.RunPlaces.{runs_of}
use Rattle.model_h1.proofs.ToldByPlaces.{unfinished_told, broken_told}
use Rattle.model_h1.proofs.chunk_examples.seventeen_digits_are_refused.Goals as goal

pub returns-clause-sixteen : goal.returns-clause-sixteen
unfolding after runs_of cut_runs
returns-clause-sixteen c = unfinished_told (codes "ffffffffffffffff") refl

pub returns-clause-seventeen : goal.returns-clause-seventeen
unfolding after runs_of cut_runs
returns-clause-seventeen c = broken_told (codes "ffffffffffffffff") [] 102 refl refl
