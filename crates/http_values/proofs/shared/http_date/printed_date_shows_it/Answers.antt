use Rattle.std.proofs.Common.{inl, refl}
use Rattle.http_values.proofs.shared.http_date.printed_date_shows_it.Goals as goal

pub returns : goal.returns
returns c = λ d. inl refl
