use Rattle.std.proofs.Common.{Some, ap, ◌∙◌, lit<}
use Rattle.std.specs.Str.{trim}
use Rattle.std.proofs.lemmas.Str.Pattern.{split_once_first}
use Rattle.app_get.proofs.fields.cut.Goals as goal

pub returns-in-Some : goal.returns-in-Some
returns-in-Some c =
    let parts = split_once_first 58 c.args.text.now (Some (c.in-Some.name, c.in-Some.value)) c.in-Some.ensures.cases (lit< tt) in
    (parts.1, c.trim.ensures.trim ∙ ap trim parts.2)
