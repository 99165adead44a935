use Rattle.std.proofs.Common.{◌≡◌}
use Rattle.http_header.specs.Token.{lowercase}
use Rattle.http_map.proofs.LineLemmas.{IsNotBefore}
use Rattle.http_map.proofs.table.few.find_marked.Given as goal

-- the lines so far have other names
abbrev pub invariant-loop-line : goal.invariant-loop-line
invariant-loop-line l = (l.i ≡ l.line-index) × IsNotBefore l.lines (lowercase l.bytes) l.line-index
