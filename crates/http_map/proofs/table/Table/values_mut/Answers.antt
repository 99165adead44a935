use Rattle.std.proofs.Common.{◌≡◌, Some, refl, sym, ap, ◌∙◌, length, slice_get}
use Rattle.std.proofs.lemmas.Option.{slice_get_read}
use Rattle.http_map.proofs.LineLemmas.{values_of-at}
use Rattle.http_map.proofs.table.Table.values_mut.Goals as goal

pub returns-in-Few : goal.returns-in-Few
returns-in-Few c =
    let e = rw c.in-Few.is at c.index_mut.ensures.value in
    let within = rw c.in-Few.is at c.requires in
    let there : slice_get c.in-Few.lines.items c.args.index ≡ Some c.index_mut.result.now = slice_get_read c.in-Few.lines.items (length c.in-Few.lines.items) c.args.index c.index_mut.result.now refl within e in
    rw c.in-Few.is (
      (refl, λ w. rw there refl),
      record {
        writes_back = tt;
        value = values_of-at c.in-Few.lines.items c.args.index c.index_mut.result.now within ∙ ap (λ x. Some x.1) (sym e) ∙ ap Some (sym c.values_mut.ensures.value);
      },
    )
