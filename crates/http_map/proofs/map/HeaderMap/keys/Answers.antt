use Rattle.std.proofs.Common.{arith}
use Rattle.std.proofs.lemmas.List.{length-map}
use Rattle.http_map.specs.HeaderMap.{Entry}
use Rattle.http_map.proofs.MapLemmas.{length-counted}
use Rattle.http_map.proofs.map.HeaderMap.keys.Goals as goal

pub returns-clause-fits : goal.returns-clause-fits
returns-clause-fits c =
    let first : Entry → _ = λ e. e.0 in
    rw (c.new.ensures, c.iter.ensures) (omega (arith, length-map c.self.inside.names first, length-counted c.self.inside.names c.self.invariant.entries, c.self.invariant.count, c.self.invariant.fits))
