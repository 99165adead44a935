use Rattle.std.proofs.Common.{is_some, sym, ap, ◌∙◌}
use Rattle.http_header.specs.Token.{lowercase}
use Rattle.http_map.proofs.EntryLemmas.{contains_key-lookup}
use Rattle.http_map.proofs.LineLemmas.{is_some-copied}
use Rattle.http_map.proofs.table.Names.contains.Goals as goal

pub returns : goal.returns
returns c =
    c.is_some.ensures ∙ is_some-copied c.get.result ∙ ap is_some c.get.ensures.value ∙ sym (contains_key-lookup (lowercase c.args.bytes.now) c.args.self.now)
