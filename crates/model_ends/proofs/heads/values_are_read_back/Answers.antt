use Rattle.model_client.specs.RequestText.{as_answer}
use Rattle.model_ends.proofs.ValuesByName.{by_name_values, given_values, date_given}
use Rattle.model_ends.proofs.heads.values_are_read_back.Goals as goal

pub returns-clause-by_name : goal.returns-clause-by_name
returns-clause-by_name c = by_name_values

pub returns-clause-answer : goal.returns-clause-answer
returns-clause-answer c = given_values

pub returns-clause-request : goal.returns-clause-request
returns-clause-request c name connection no_length no_coding r = given_values name connection no_length no_coding r.minor (as_answer r)

pub returns-clause-date : goal.returns-clause-date
returns-clause-date c = date_given
