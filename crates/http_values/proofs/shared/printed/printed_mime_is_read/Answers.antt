use Rattle.std.proofs.Common.{ℕ, List, sym, subst}
use Rattle.http_values.specs.MimeValue.{SaysMime}
use Rattle.http_values.proofs.shared.printed.printed_mime_is_read.Goals as goal

pub returns : goal.returns
returns c = λ text m h. let P : List ℕ → Type 0 = λ t. SaysMime t m in subst P (sym h.kept) h
