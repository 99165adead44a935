use Rattle.std.proofs.Common.{Some, sym, ap, subst, ◌∙◌}
use Rattle.http_header.specs.Token.{lowercase}
use Rattle.http_map.specs.Lines.{StandsFirstAt, Lacks}
use Rattle.http_map.proofs.LineLemmas.{lookup-stands, lookup-lacks}
use Rattle.http_map.proofs.table.Names.get.Goals as goal

pub returns-in_err-index-in-Few : goal.returns-in_err-index-in-Few
returns-in_err-index-in-Few c =
    let name = lowercase c.args.bytes.now in
    let lacks = subst (λ m. Lacks m name) c.as_slice.ensures.value c.in_err-index-in-Few.ensures.lacks in
    record { value = rw (c.from_residual.ensures, ← c.self.view_is, c.in-Few.is) (sym (lookup-lacks name c.in-Few.lines.items lacks)) }

pub returns-in_ok-index-in-Few : goal.returns-in_ok-index-in-Few
returns-in_ok-index-in-Few c =
    let name = lowercase c.args.bytes.now in
    let index = c.in_ok-index-in-Few.index in
    let found = subst (λ m. StandsFirstAt m name index) c.as_slice.ensures.value c.in_ok-index-in-Few.ensures.found in
    record { value = rw (← c.self.view_is, c.in-Few.is) (ap Some (c.values.ensures ∙ ap (λ e. e.1) c.index.ensures) ∙ sym (lookup-stands name c.in-Few.lines.items index c.index.result.now found)) }
