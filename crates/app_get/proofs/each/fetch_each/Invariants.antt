use Rattle.app_get.proofs.Outcomes.{HasFetched}
use Rattle.app_get.proofs.each.fetch_each.Given as goal

abbrev pub invariant-loop-url : goal.invariant-loop-url
invariant-loop-url g l = HasFetched (g.F.Fetches.done l.initial.fetcher) l.url-index l.refused (g.F.Fetches.done l.fetcher) l.status
