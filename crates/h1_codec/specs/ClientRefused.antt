-- What an encoder refuses it doesn't write.
use Rattle.std.proofs.Common.{◌≡◌, ℕ, List, true, false, sym, ◌∙◌, arith}
use Rattle.std.specs.Prelude.{Some, None}
use Rattle.h1_encoder.specs.declared.error.EncodeError.{EncodeError}
use Rattle.h1_encoder.specs.declared.error.EncodeError.TheVariants.{Short, Version, NoMemory}
use Rattle.h1_codec.specs.declared.framed_message.Message.TheVariants.{Item, Chunk}
use Rattle.h1_codec.specs.ClientState.{of_codec}
use Rattle.h1_codec.specs.Writing.{Sent, Writes, Refuses}
use Rattle.h1_codec.specs.declared.client_codec.ClientCodec.{ClientCodec}

-- no item is both refused and written
pub refused_is_not_written : (old new : ClientCodec) (item : Sent) (text : List ℕ) (error : EncodeError) → Refuses error (of_codec old) item → ¬ (Writes old item text new)
refused_is_not_written old new (Chunk None) text (Short n) refuses writes = omega (arith, refuses.0, refuses.1, writes.0)
refused_is_not_written old new (Chunk None) text Version refuses writes = refuses
refused_is_not_written old new (Chunk None) text NoMemory refuses writes = refuses
refused_is_not_written old new (Chunk (Some bytes)) text (Short n) refuses writes = refuses
refused_is_not_written old new (Chunk (Some bytes)) text Version refuses writes = refuses
refused_is_not_written old new (Chunk (Some bytes)) text NoMemory refuses writes = refuses
refused_is_not_written old new (Item sent) text (Short n) refuses writes = refuses
refused_is_not_written old new (Item sent) text Version refuses writes = let never : false ≡ true = sym refuses ∙ writes.version in cc never
refused_is_not_written old new (Item sent) text NoMemory refuses writes = refuses
