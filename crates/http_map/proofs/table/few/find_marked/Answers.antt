use Rattle.std.proofs.Common.{◌+◌, bytes_eq, refl, sym, ap, ◌∙◌, arith, add-one}
use Rattle.http_header.specs.Token.{lowercase}
use Rattle.http_map.proofs.LineLemmas.{none_before, passed, stands, lacks_all}
use Rattle.http_map.proofs.table.few.find_marked.Goals as goal

pub loop-line-init : goal.loop-line-init
loop-line-init c = (refl, none_before (lowercase c.args.bytes.now) c.args.lines.now)

pub returns-then-is-clause-found : goal.returns-then-is-clause-found
returns-then-is-clause-found c =
    let name = lowercase c.args.bytes.now in
    let here = ap (λ e. bytes_eq name e.0) (sym c.line-item.is) ∙ sym c.is.ensures ∙ c.if-is.true in
    rw c.loop-line.invariant.0 (stands name c.args.lines.now c.loop-line.line-index c.line-item.result c.loop-line-test.true c.loop-line.invariant.1 here)

pub loop-line-preserved : goal.loop-line-preserved
loop-line-preserved c =
    let name = lowercase c.args.bytes.now in
    let other = ap (λ e. bytes_eq name e.0) (sym c.line-item.is) ∙ sym c.is.ensures ∙ c.if-is.false in
    (ap (λ n. n + 1) c.loop-line.invariant.0, rw add-one (passed name c.args.lines.now c.loop-line.line-index c.line-item.result c.loop-line-test.true c.loop-line.invariant.1 other))

pub returns-clause-lacks : goal.returns-clause-lacks
returns-clause-lacks c =
    lacks_all (lowercase c.args.bytes.now) c.args.lines.now c.loop-line.line-index (omega (arith, c.loop-line-test.false)) c.loop-line.invariant.1
