use Rattle.std.proofs.Common.{[], refl}
use Rattle.std.specs.Prelude.{codes}
use Rattle.model_h1.specs.Place.{after}
use Rattle.model_h1.specs.Reading.{read}
use Rattle.model_h1.proofs.RunPlaces.{runs_of}
use Rattle.model_h1.proofs.ToldByPlaces.{whole_told}
use Rattle.model_h1.proofs.chunk_examples.extension_is_passed_over.Goals as goal

pub returns : goal.returns
unfolding after read runs_of
returns c = whole_told (codes "4 ;name=value\r\ndata\r\n0\r\n\r\n") [] [] refl tt refl
