use Rattle.std.proofs.Common.{rules, ◌≡◌, ◌∙◌, ap, Some}
use Rattle.h1_connection.specs.Incoming.{is_coming_in}
use Rattle.h1_connection.proofs.InputLemmas.{scan_is}
use Rattle.h1_connection.proofs.connection.head_search.has_head.Goals as goal

pub returns : goal.returns
returns c =
    let here : c.ne.result ≡ is_coming_in (Some c.scan_head.result) = search rules in
    here ∙ ap (λ p. is_coming_in (Some p)) (scan_is c.args.bytes.now c.scan_head.result c.scan_head.ensures.answer)
