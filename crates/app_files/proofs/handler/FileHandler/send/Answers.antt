use Rattle.serve_blocking.proofs.Followed.{follows_then}
use Rattle.app_files.proofs.handler.FileHandler.send.Goals as goal

pub returns-then-left-eq0 : goal.returns-then-left-eq0
returns-then-left-eq0 g c =
    record { follows = follows_then _ _ _ (follows_then _ _ _ c.in_ok-writer.ensures.follows c.loop.invariant.follows) c.end.ensures.follows }

pub returns-in_default : goal.returns-in_default
returns-in_default g c =
    record { follows = follows_then _ _ _ (follows_then _ _ _ c.in_ok-writer.ensures.follows c.loop.invariant.follows) c.fail.ensures.follows }

pub returns : goal.returns
returns g c =
    record { follows = follows_then _ _ _ (follows_then _ _ _ c.in_ok-writer.ensures.follows c.loop.invariant.follows) c.end-2.ensures.follows }
