use Rattle.h1_codec.proofs.Whole.{sends-trans}
use Rattle.h1_codec.proofs.send_laws.polls_send_one_message.Goals as goal

pub returns : goal.returns
returns g c = sends-trans g.U.Encoder.writes
