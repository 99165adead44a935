use Rattle.std.proofs.Common.{◌≡◌, ◌∙◌}
use Rattle.http_map.proofs.OwnedLemmas.{length-drained}
use Rattle.http_map.proofs.map.HeaderMap.drain.Goals as goal

pub returns-clause-count : goal.returns-clause-count
returns-clause-count c =
    let later : c.into_iter.result ≡ c.self.inside.names = c.into_iter.ensures ∙ c.replace-names.ensures.value in
    rw (c.new-2.ensures, later, ← c.self.view_is) (length-drained c.self.inside.names)
