use Rattle.std.proofs.Common.{◌≡◌, true, sym, ap, ◌∙◌, arith}
use Rattle.http_header.specs.Token.{lowercase}
use Rattle.http_map.specs.HeaderMap.{contains_key}
use Rattle.http_map.proofs.MapLemmas.{some-get_all}
use Rattle.http_map.proofs.map.HeaderMap.can_count_one_in.Goals as goal

pub returns-else-self-lt18446744073709551615-clause-fits : goal.returns-else-self-lt18446744073709551615-clause-fits
returns-else-self-lt18446744073709551615-clause-fits c counted =
    let same : lowercase c.as_bytes.result.now ≡ c.args.name.now = ap lowercase c.as_bytes.ensures.value ∙ c.as_bytes.ensures.valid.1 in
    let there : contains_key c.self.inside.names c.args.name.now ≡ true = ap (contains_key c.self.inside.names) (sym same) ∙ sym c.contains.ensures ∙ counted in
    let some = some-get_all c.args.name.now c.self.inside.names c.self.invariant.entries there in
    rw (← c.self.view_is) (omega (arith, some, c.self.invariant.count, c.self.invariant.fits))

pub returns-else-self-lt18446744073709551615-clause-replaced : goal.returns-else-self-lt18446744073709551615-clause-replaced
returns-else-self-lt18446744073709551615-clause-replaced c there =
    let same : lowercase c.as_bytes.result.now ≡ c.args.name.now = ap lowercase c.as_bytes.ensures.value ∙ c.as_bytes.ensures.valid.1 in
    c.contains.ensures ∙ ap (contains_key c.self.inside.names) same ∙ rw c.self.view_is there
