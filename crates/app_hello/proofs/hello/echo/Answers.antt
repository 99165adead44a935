use Rattle.serve_blocking.proofs.Followed.{follows_then}
use Rattle.app_hello.proofs.hello.echo.Goals as goal

pub returns-in_err-writer-in-Ok-Bytes : goal.returns-in_err-writer-in-Ok-Bytes
returns-in_err-writer-in-Ok-Bytes g c = record {
  follows = follows_then _ _ _ c.begin.ensures.follows (follows_then _ _ _ c.loop.invariant.follows (follows_then _ _ _ c.read.ensures.follows c.write.ensures.follows));
}

pub returns-in-Ok-Trailers : goal.returns-in-Ok-Trailers
returns-in-Ok-Trailers g c = record {
  follows = follows_then _ _ _ c.begin.ensures.follows (follows_then _ _ _ c.loop.invariant.follows (follows_then _ _ _ c.read.ensures.follows c.end.ensures.follows));
}

pub returns-in-Err : goal.returns-in-Err
returns-in-Err g c = record {
  follows = follows_then _ _ _ c.begin.ensures.follows (follows_then _ _ _ c.loop.invariant.follows (follows_then _ _ _ c.read.ensures.follows c.fail.ensures.follows));
}

pub returns : goal.returns
returns g c = record { follows = follows_then _ _ _ c.begin.ensures.follows (follows_then _ _ _ c.loop.invariant.follows c.end-2.ensures.follows) }
