use Rattle.std.proofs.Common.{◌≡◌, ap, ◌∙◌, take, get_or, bytes_eq}
use Rattle.indexmap.specs.IndexMap.{insert_entry}
use Rattle.http_map.proofs.DistinctLemmas.{insert_entry-next}
use Rattle.http_map.proofs.table.few.hashed.Goals as goal

pub loop-line-preserved : goal.loop-line-preserved
loop-line-preserved c =
    let m = c.args.lines.now in
    let i = c.loop-line.line-index in
    let name : c.in_ok-clone.field-0 ≡ (get_or m i c.line-item.result).0 = c.in_ok-clone.ensures.cases ∙ c.name.ensures ∙ ap (λ e. e.0) c.line-item.is in
    let values : c.in_ok-clone-2.field-0 ≡ (get_or m i c.line-item.result).1 = c.in_ok-clone-2.ensures.cases ∙ c.values.ensures ∙ ap (λ e. e.1) c.line-item.is in
    c.in_ok-insert.ensures.entries ∙ ap (λ n. insert_entry bytes_eq n c.in_ok-clone.field-0 c.in_ok-clone-2.field-0) c.loop-line.invariant ∙ ap (λ k. insert_entry bytes_eq (take i m) k c.in_ok-clone-2.field-0) name ∙ ap (λ v. insert_entry bytes_eq (take i m) (get_or m i c.line-item.result).0 v) values ∙ insert_entry-next m i c.line-item.result c.loop-line-test.true c.requires
