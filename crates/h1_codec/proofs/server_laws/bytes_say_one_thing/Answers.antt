use Rattle.std.specs.Prelude.{false}
use Rattle.h1_codec.specs.Kinds.{requests}
use Rattle.h1_codec.specs.OneReading.{one_request}
use Rattle.h1_codec.proofs.OneSaid.{one_said}
use Rattle.h1_codec.proofs.server_laws.bytes_say_one_thing.Goals as goal

pub returns : goal.returns
returns c = one_said requests one_request false
