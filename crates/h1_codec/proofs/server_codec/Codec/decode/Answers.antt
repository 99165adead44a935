-- An answer goes on as the next item does.
use Rattle.std.proofs.Common.{◌≡◌, ℕ, List, subst}
use Rattle.std.specs.Prelude.{false, Option, Some, None, Result, Ok, IfOk}
use Rattle.http_framing.specs.AnyPieces.{GoesOn, in_front}
use Rattle.http_types.specs.declared.error.ParseError.{ParseError}
use Rattle.h1_decoder.specs.declared.decoder.HeadItem.{HeadItem}
use Rattle.h1_codec.specs.Kinds.{requests}
use Rattle.h1_codec.specs.FramedMessages.{Standing, Reads, given}
use Rattle.h1_codec.specs.ServerState.{codec_standing}
use Rattle.h1_codec.specs.declared.framed_message.Message.{Message}
use Rattle.h1_codec.specs.declared.framed_message.Message.TheVariants.{Chunk}
use Rattle.h1_codec.proofs.server_codec.Codec.decode.Goals as goal

goes_on_at : (old new : Standing) (bytes rest : List ℕ) (result : Result (Option (Message HeadItem)) ParseError) (answer : Option (Message HeadItem)) → result ≡ Ok answer
    → IfOk result (λ a. GoesOn (Reads requests false) given old bytes (in_front (Reads requests false) given a) new rest)
    → GoesOn (Reads requests false) given old bytes (in_front (Reads requests false) given answer) new rest
goes_on_at old new bytes rest result answer is x =
    subst (λ (r : Result (Option (Message HeadItem)) ParseError). IfOk r (λ a. GoesOn (Reads requests false) given old bytes (in_front (Reads requests false) given a) new rest)) is x

pub returns-in-Ok-Some-Chunk-clause-goes_on : goal.returns-in-Ok-Some-Chunk-clause-goes_on
returns-in-Ok-Some-Chunk-clause-goes_on c =
    let is : c.next_message.result ≡ Ok (Some (Chunk c.in-Ok-Some-Chunk.piece)) = cc in
    goes_on_at (codec_standing c.args.self.now) (record { search = c.next_message.new.heads; body = c.next_message.new.body }) c.args.src.now.items c.next_message.new.src.items
    c.next_message.result (Some (Chunk c.in-Ok-Some-Chunk.piece)) is c.next_message.ensures.next.goes_on

pub returns-in-Ok-None-clause-goes_on : goal.returns-in-Ok-None-clause-goes_on
returns-in-Ok-None-clause-goes_on c =
    let is : c.next_message.result ≡ Ok None = cc in
    goes_on_at (codec_standing c.args.self.now) (record { search = c.next_message.new.heads; body = c.next_message.new.body }) c.args.src.now.items c.next_message.new.src.items
    c.next_message.result None is c.next_message.ensures.next.goes_on
