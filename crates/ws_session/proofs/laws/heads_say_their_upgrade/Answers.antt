use Rattle.std.proofs.Common.{ap, ◌∙◌}
use Rattle.http_map.specs.HeaderMap.{Entries, get_all}
use Rattle.ws_session.specs.Upgrade.{value_bytes}
use Rattle.ws_session.proofs.ValueLemmas.{head_values}
use Rattle.ws_session.proofs.laws.heads_say_their_upgrade.Goals as goal

pub returns : goal.returns
returns c = λ item h says. record {
  method = says.method;
  values = λ name. ap (λ (entries : Entries). value_bytes (get_all entries name)) says.headers ∙ head_values name h.headers;
}
