use Rattle.std.proofs.Common.{refl}
use Rattle.std.specs.Prelude.{codes}
use Rattle.httparse.specs.Grammar.{is_token_byte}
use Rattle.model_h1.specs.Runs.{cut_runs}
use Rattle.model_h1.specs.Place.{after}
use Rattle.model_h1.proofs.RunPlaces.{runs_of}
use Rattle.model_h1.proofs.ToldByPlaces.{broken_told}
use Rattle.model_h1.proofs.chunk_examples.blank_in_a_name_is_refused.Goals as goal

pub returns-clause-within : goal.returns-clause-within
unfolding after runs_of cut_runs is_token_byte
returns-clause-within c = broken_told (codes "0\r\nx") (codes "sum: 9\r\n\r\n") 32 refl refl

pub returns-clause-behind : goal.returns-clause-behind
unfolding after runs_of cut_runs is_token_byte
returns-clause-behind c = broken_told (codes "0\r\nx-sum") (codes ": 9\r\n\r\n") 32 refl refl
