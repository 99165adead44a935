use Rattle.std.proofs.Common.{◌≡◌, ◌++◌}
use Rattle.http_map.specs.HeaderMap.{pairs}
use Rattle.app_get.specs.Heads.{lines_text}
use Rattle.app_get.proofs.show.put_lines.Given as goal

abbrev pub invariant-loop-name : goal.invariant-loop-name
invariant-loop-name l = l.text.items ++ lines_text l.name-iterator ≡ l.fn.text.items ++ lines_text (pairs l.head.headers)
