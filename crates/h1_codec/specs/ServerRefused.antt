-- What an encoder refuses it doesn't write.
use Rattle.std.proofs.Common.{ℕ, List, arith}
use Rattle.std.specs.Prelude.{Some, None}
use Rattle.h1_encoder.specs.declared.error.EncodeError.{EncodeError}
use Rattle.h1_encoder.specs.declared.error.EncodeError.TheVariants.{Short, Version, NoMemory}
use Rattle.h1_codec.specs.ServerState.{Sent, Writes, Refuses}
use Rattle.h1_codec.specs.declared.server_codec.Codec.{Codec}
use Rattle.h1_codec.specs.declared.framed_message.Message.TheVariants.{Item, Chunk}

-- no item is both refused and written
pub refused_is_not_written : (old new : Codec) (item : Sent) (text : List ℕ) (error : EncodeError) → Refuses error old item → ¬ (Writes old item text new)
refused_is_not_written old new (Chunk None) text (Short n) refuses writes = omega (arith, refuses.0, refuses.1, writes.0)
refused_is_not_written old new (Chunk None) text Version refuses writes = refuses
refused_is_not_written old new (Chunk None) text NoMemory refuses writes = refuses
refused_is_not_written old new (Chunk (Some bytes)) text (Short n) refuses writes = refuses
refused_is_not_written old new (Chunk (Some bytes)) text Version refuses writes = refuses
refused_is_not_written old new (Chunk (Some bytes)) text NoMemory refuses writes = refuses
refused_is_not_written old new (Item sent) text (Short n) refuses writes = refuses
refused_is_not_written old new (Item sent) text Version refuses writes = refuses
refused_is_not_written old new (Item sent) text NoMemory refuses writes = refuses
