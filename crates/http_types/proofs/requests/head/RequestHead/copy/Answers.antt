use Rattle.http_types.proofs.RequestHeadEquality.{with_equal_parts}
use Rattle.http_types.proofs.UriEquality.{uri_equal}
use Rattle.http_types.proofs.requests.head.RequestHead.copy.Goals as goal

-- the copied URI has the parts of the one copied, and so is equal to it
pub returns : goal.returns
returns c = with_equal_parts c.args.self.now _ _ _ c.in_ok-clone.ensures.cases (uri_equal c.args.self.now.uri _ c.in_ok-clone-2.ensures.cases) c.in_ok-copy.ensures
