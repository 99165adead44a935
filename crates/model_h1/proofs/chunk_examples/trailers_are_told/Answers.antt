use Rattle.std.proofs.Common.{[], ◌∷◌, refl, arith}
use Rattle.std.specs.Prelude.{codes}
use Rattle.std.specs.List.{AllByRecursion}
use Rattle.httparse.specs.Grammar.{is_token_byte}
use Rattle.model_h1.specs.ChunkedText.{Trailer, IsTrailer}
use Rattle.model_h1.specs.Place.{after}
use Rattle.model_h1.specs.Reading.{read}
use Rattle.model_h1.proofs.RunPlaces.{runs_of}
use Rattle.model_h1.proofs.ToldByPlaces.{whole_told}
use Rattle.model_h1.proofs.chunk_examples.trailers_are_told.Goals as goal

-- the two lines
abbrev first : Trailer
first = record { name = codes "x-sum"; value = codes " 9" }

abbrev second : Trailer
second = record { name = codes "x-size"; value = codes " 4" }

-- they are trailer lines
well_formed : AllByRecursion IsTrailer (first ∷ second ∷ [])
unfolding is_token_byte
well_formed = ((omega arith, refl, refl), ((omega arith, refl, refl), tt))

pub returns-clause-one : goal.returns-clause-one
unfolding after read runs_of is_token_byte
returns-clause-one c =
    whole_told (codes "4\r\ndata\r\n0\r\nx-sum: 9\r\n\r\n") [] (first ∷ []) refl (well_formed.0, tt) refl

pub returns-clause-two : goal.returns-clause-two
unfolding after read runs_of is_token_byte
returns-clause-two c =
    whole_told (codes "4\r\ndata\r\n0\r\nx-sum: 9\r\nx-size: 4\r\n\r\n") [] (first ∷ second ∷ []) refl well_formed refl
