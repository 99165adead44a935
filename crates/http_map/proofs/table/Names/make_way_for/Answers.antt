use Rattle.std.proofs.Common.{◌≡◌, true, false, sym, ap, subst, ◌∙◌}
use Rattle.http_header.specs.Token.{lowercase}
use Rattle.http_map.specs.HeaderMap.{contains_key}
use Rattle.http_map.specs.Lines.{Lacks}
use Rattle.http_map.specs.Names.{listed}
use Rattle.http_map.proofs.LineLemmas.{contains_key-lacks, where_none}
use Rattle.http_map.proofs.table.Names.make_way_for.Goals as goal

pub returns-in_err-names-clause-no_memory_needed : goal.returns-in_err-names-clause-no_memory_needed
returns-in_err-names-clause-no_memory_needed c there =
    let same : lowercase c.as_bytes.result.now ≡ c.args.name.now = ap lowercase c.as_bytes.ensures.value ∙ c.as_bytes.ensures.valid.1 in
    let lacks = where_none (Lacks c.as_slice.result.now (lowercase c.as_bytes.result.now)) c.find.result (sym c.is_some.ensures ∙ c.if-is_some.false) c.find.ensures.lacks in
    let lacks-there = subst (λ m. Lacks m c.args.name.now) c.as_slice.ensures.value (subst (λ n. Lacks c.as_slice.result.now n) same lacks) in
    let is : c.in-Few.lines.items ≡ c.args.self.now = ap listed (sym c.in-Few.is) ∙ c.self.view_is in
    let no : true ≡ false = sym (ap (λ m. contains_key m c.args.name.now) is ∙ there) ∙ contains_key-lacks c.args.name.now c.in-Few.lines.items lacks-there in
    cc
