use Rattle.std.proofs.Common.{◌++◌}
use Rattle.h1_codec.proofs.Refusals.{stops_append, one_stop}
use Rattle.h1_codec.proofs.message_laws.a_refusal_stays.Goals as goal

pub returns : goal.returns
returns g c = λ limit bytes more fault items stop stops heads.
    one_stop g.T.ReadHead.kind g.met.T.ReadHead.one_reading limit (bytes ++ more) fault items stop
    (stops_append g.T.ReadHead.kind g.met.T.ReadHead.one_reading limit bytes more fault stops) heads
