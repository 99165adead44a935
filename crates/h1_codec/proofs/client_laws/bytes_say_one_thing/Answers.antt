use Rattle.h1_codec.specs.Kinds.{answers}
use Rattle.h1_codec.specs.OneReading.{one_answer}
use Rattle.h1_codec.proofs.OneSaid.{one_said}
use Rattle.h1_codec.proofs.client_laws.bytes_say_one_thing.Goals as goal

pub returns : goal.returns
returns c = λ is_head. one_said answers one_answer is_head
