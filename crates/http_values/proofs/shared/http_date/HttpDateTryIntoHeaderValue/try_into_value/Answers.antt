use Rattle.http_values.proofs.shared.http_date.HttpDateTryIntoHeaderValue.try_into_value.Goals as goal

pub returns-clause-invalid : goal.returns-clause-invalid
returns-clause-invalid c = rw c.to_bytes.ensures at c.value_of_bytes.ensures.invalid
