-- Pieces of bodies and heads, as the items of a message that they are.
use Rattle.std.specs.Prelude.{List, ℕ, Option, Some, None, Result, Ok, Err}
use Rattle.http_types.specs.declared.error.ParseError.{ParseError}
use Rattle.h1_decoder.specs.declared.response.ResponseItem.{ResponseItem}
use Rattle.h1_codec.specs.declared.framed_message.Message.{Message}
use Rattle.h1_codec.specs.declared.framed_message.Message.TheVariants.{Item, Chunk}
use Rattle.h1_codec.specs.declared.client_error.ClientError.{ClientError}
use Rattle.h1_codec.specs.declared.client_error.ClientError.TheVariants.{Parse}

-- bytes of a body, or its end, as an item of a message
abbrev pub as_chunk : Option (Option (List ℕ)) → Option (Message ResponseItem)
as_chunk None = None
as_chunk (Some piece) = Some (Chunk piece)

abbrev pub as_message : Result (Option (Option (List ℕ))) ParseError → Result (Option (Message ResponseItem)) ParseError
as_message (Ok answer) = Ok (as_chunk answer)
as_message (Err e) = Err e

-- a head as an item of a message
abbrev pub as_head : Option ResponseItem → Option (Message ResponseItem)
as_head None = None
as_head (Some item) = Some (Item item)

-- an answer by the codec's own error
abbrev pub as_answered : {A : Type 0} → Result A ParseError → Result A ClientError
as_answered (Ok answer) = Ok answer
as_answered (Err e) = Err (Parse e)
