use Rattle.std.proofs.Common.{codes, refl, inl, lit≤}
use Rattle.std.proofs.lemmas.Bool.{false≢true}
use Rattle.http_uri.specs.Grammar.{IsOriginForm}
use Rattle.model_proxy.proofs.Targets.{IsPathAndQuery_star}
use Rattle.proxy_heads.proofs.TargetLemmas.{star_sent}
use Rattle.proxy_heads.proofs.forwarded_request.asterisk.Goals as goal

-- `*` is a target
star_form : IsOriginForm (codes "*")
star_form = (inl refl, record { start = inl refl; short = lit≤ tt; kept = IsPathAndQuery_star })

pub returns : goal.returns
returns c = star_sent (codes "*") c.in-Ok.uri refl c.in-Ok.ensures.ok

pub unreachable-requires : goal.unreachable-requires
unreachable-requires c = false≢true (c.in-Err.ensures.origin star_form)
