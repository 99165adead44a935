use Rattle.std.proofs.Common.{take}
use Rattle.http_values.specs.Mime.{HasNoName, pairs_of}
use Rattle.http_values.proofs.shared.mime.Mime.get_param.Given as goal

-- none so far has the name
abbrev pub invariant-loop-param : goal.invariant-loop-param
invariant-loop-param l = HasNoName l.name (pairs_of (take l.param-index l.self.params.items))
