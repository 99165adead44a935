-- Only where memory ran out a frame other than a Close is not taken.
use Rattle.std.proofs.Common.{◌≢◌, rules}
use Rattle.ws_frames.specs.declared.kind.Kind.TheVariants as kinds
use Rattle.ws_frames.proofs.ErrorLemmas.{other_kind}
use Rattle.ws_frames.proofs.take.take_frame.Goals as goal

pub returns-in-Err-clause-taken : goal.returns-in-Err-clause-taken
returns-in-Err-clause-taken c =
    let other : c.args.kind ≢ kinds.Close = search rules in
    (other_kind c.args.kind _ other, c.in-Err.ensures.err)
