use Rattle.http_values.proofs.ExtendedReadings.{set_unique, language_unique, bytes_unique}
use Rattle.http_values.proofs.shared.extended.extended_value_is_unique.Goals as goal

pub returns-clause-charset : goal.returns-clause-charset
returns-clause-charset c = set_unique

pub returns-clause-tag : goal.returns-clause-tag
returns-clause-tag c = language_unique

pub returns-clause-value : goal.returns-clause-value
returns-clause-value c = bytes_unique
