use Rattle.std.proofs.Common.{List, ℕ, subst, sym}
use Rattle.http_values.specs.LanguageTag.{IsLanguageTag}
use Rattle.http_values.proofs.shared.language_tag.printed_tag_is_read.Goals as goal

pub returns : goal.returns
returns c = λ text tag h same. let P : List ℕ → Type 0 = λ t. IsLanguageTag t in subst P (sym same) h
