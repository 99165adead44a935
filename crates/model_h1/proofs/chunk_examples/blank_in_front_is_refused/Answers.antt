use Rattle.std.proofs.Common.{refl}
use Rattle.std.specs.Prelude.{codes}
use Rattle.httparse.specs.Grammar.{is_token_byte}
use Rattle.model_h1.specs.Runs.{cut_runs}
use Rattle.model_h1.specs.Place.{after}
use Rattle.model_h1.proofs.RunPlaces.{runs_of}
use Rattle.model_h1.proofs.ToldByPlaces.{broken_told}
use Rattle.model_h1.proofs.chunk_examples.blank_in_front_is_refused.Goals as goal

pub returns-clause-first_line : goal.returns-clause-first_line
unfolding after runs_of cut_runs is_token_byte
returns-clause-first_line c = broken_told (codes "0\r\n") (codes "x-sum: 9\r\n\r\n") 32 refl refl

pub returns-clause-folded_line : goal.returns-clause-folded_line
unfolding after runs_of cut_runs is_token_byte
returns-clause-folded_line c = broken_told (codes "0\r\nx-sum: 9\r\n") (codes "10\r\n\r\n") 32 refl refl
