use Rattle.std.proofs.Common.{◌≡◌, ◌<◌, rules, arith, Some, sym, ap, ◌∙◌, length, get_or}
use Rattle.std.specs.List.{slice_get}
use Rattle.std.proofs.lemmas.Option.{slice_get-get_or}
use Rattle.board.proofs.Cursors.{stand_other, stand_found}
use Rattle.board.proofs.compare.find.Goals as goal

pub returns-in_default : goal.returns-in_default
returns-in_default g c = λ journal stand told. stand_other journal c.args.passes.now c.args.cursors.now c.args.entry.now (search rules) stand

pub returns : goal.returns
returns g c =
    let pass = c.in-Some-get.pass.now in
    let at = c.in-Some.cursor.at in
    let within : at < length c.args.passes.now = search rules in
    let is : get_or c.args.passes.now at pass ≡ pass = search rules in
    let there : slice_get c.args.passes.now at ≡ Some pass = slice_get-get_or c.args.passes.now at pass within ∙ ap Some is in
    λ journal stand told. stand_found journal c.args.passes.now c.args.cursors.now c.args.entry.now c.in-Some.cursor pass (search rules) there (search rules) stand
