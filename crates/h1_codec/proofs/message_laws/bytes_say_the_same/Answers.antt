use Rattle.h1_codec.proofs.Refusals.{one_reading_of_all}
use Rattle.h1_codec.proofs.message_laws.bytes_say_the_same.Goals as goal

pub returns : goal.returns
returns g c = one_reading_of_all g.T.ReadHead.kind g.met.T.ReadHead.one_reading
