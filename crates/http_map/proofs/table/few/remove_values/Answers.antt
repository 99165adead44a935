use Rattle.std.proofs.Common.{sym, ap, subst, ◌∙◌}
use Rattle.http_header.specs.Token.{lowercase}
use Rattle.http_map.specs.Lines.{StandsFirstAt, Lacks}
use Rattle.http_map.proofs.LineLemmas.{get_all-stands, get_all-lacks, remove-stands, remove-lacks}
use Rattle.http_map.proofs.table.few.remove_values.Goals as goal

pub returns-in-Some-clause-removed : goal.returns-in-Some-clause-removed
returns-in-Some-clause-removed c =
    let name = lowercase c.args.bytes.now in
    let found = subst (λ m. StandsFirstAt m name c.in-Some.i) c.as_slice.ensures.value c.in-Some.ensures.found in
    c.into_iter.ensures.into_iter_gives ∙ ap (λ e. e.1) (c.into_pair.ensures ∙ c.remove.ensures.value) ∙ sym (get_all-stands name c.args.lines.now.items c.in-Some.i c.remove.result found)

pub returns-in-Some-clause-after : goal.returns-in-Some-clause-after
returns-in-Some-clause-after c =
    let name = lowercase c.args.bytes.now in
    let found = subst (λ m. StandsFirstAt m name c.in-Some.i) c.as_slice.ensures.value c.in-Some.ensures.found in
    c.remove.ensures.items ∙ sym (remove-stands name c.args.lines.now.items c.in-Some.i found)

pub returns-in-None-clause-removed : goal.returns-in-None-clause-removed
returns-in-None-clause-removed c =
    let name = lowercase c.args.bytes.now in
    let lacks = subst (λ m. Lacks m name) c.as_slice.ensures.value c.in-None.ensures.lacks in
    c.none.ensures ∙ sym (get_all-lacks name c.args.lines.now.items lacks)

pub returns-in-None-clause-after : goal.returns-in-None-clause-after
returns-in-None-clause-after c =
    let name = lowercase c.args.bytes.now in
    let lacks = subst (λ m. Lacks m name) c.as_slice.ensures.value c.in-None.ensures.lacks in
    sym (remove-lacks name c.args.lines.now.items lacks)
