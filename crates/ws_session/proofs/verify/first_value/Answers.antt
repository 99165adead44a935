-- The first value in the map is the first of the head.
use Rattle.std.proofs.Common.{ℕ, List, ap, ◌∙◌}
use Rattle.http_header.specs.Token.{lowercase}
use Rattle.http_map.specs.HeaderMap.{get_all}
use Rattle.model_h1.specs.LengthTable.{values_of}
use Rattle.ws_session.proofs.CheckLemmas.{first_of}
use Rattle.ws_session.proofs.verify.first_value.Goals as goal

pub returns : goal.returns
returns c = λ h says.
    first_of c.get.result (get_all c.args.req.now.headers (lowercase c.args.name.now)) (values_of c.args.name.now h.headers) c.get.ensures.value
    (says.values (lowercase c.args.name.now) ∙ ap (λ (name : List ℕ). values_of name h.headers) c.requires)
