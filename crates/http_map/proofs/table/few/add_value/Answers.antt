use Rattle.std.proofs.Common.{◌∷◌, ◌++◌, [], sym, ap, ◌∙◌}
use Rattle.std.proofs.lemmas.Result.{on_ok_weaker}
use Rattle.std.specs.Prelude.{slice_set}
use Rattle.http_map.specs.HeaderMap.{Entry}
use Rattle.http_map.proofs.LineLemmas.{append-stands}
use Rattle.http_map.proofs.table.few.add_value.Goals as goal

pub returns-clause-ok : goal.returns-clause-ok
returns-clause-ok c =
    let m = c.args.lines.now.items in
    let i = c.args.index in
    let more : Entry → Entry = λ e. (e.0, e.1 ++ c.args.value ∷ []) in
    on_ok_weaker c.push.result (λ pushed name found. ap (slice_set m i) (pushed ∙ ap more c.index_mut.ensures.value) ∙ sym (append-stands name c.args.value m i c.index_mut.result.now found)) c.push.ensures.ok
