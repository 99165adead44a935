use Rattle.h1_connection.specs.EventMeaning.{setting_of}
use Rattle.ws_service.proofs.Closes.{no_input}
use Rattle.ws_service.proofs.laws.nothing_is_read_while_it_closes.Goals as goal

pub returns : goal.returns
returns c = λ v w came answer closes is. no_input (setting_of v.traced.state.settings) v.traced.state.kept closes is.1
