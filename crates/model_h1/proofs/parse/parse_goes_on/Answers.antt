use Rattle.std.proofs.Common.{◌≡◌, [], subst, MatchOption}
use Rattle.model_h1.specs.Parse.{AreMessages}
use Rattle.model_h1.proofs.parse.parse_goes_on.Goals as goal

pub returns : goal.returns
returns c i place next m ms x e = subst (λ o. MatchOption o (ms ≡ []) (λ k. AreMessages i k ms)) e x.1
