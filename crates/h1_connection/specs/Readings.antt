-- What the bytes after a head are read as.
use Rattle.model_state.specs.Kept as machine
use Rattle.h1_connection.specs.declared.connection.reading.Form.{Form}
use Rattle.h1_connection.specs.declared.connection.reading.Form.TheVariants.{Body, Frames}

abbrev pub form_rest : Form → machine.Rest
form_rest (Body rest) = rest
form_rest (Frames frames) = machine.frames_rest frames.under_way frames.limit
