use Rattle.std.proofs.Common.{◌≡◌, drop}
use Rattle.model_client.specs.LaxText.{unpadded}
use Rattle.h1_decoder.specs.LaxCopy.{IsCopying, copy_with}
use Rattle.h1_decoder.proofs.lax.copy_of.Given as goal

-- with the bytes that are left it is the whole copy
abbrev pub invariant-loop-byte : goal.invariant-loop-byte
invariant-loop-byte l = IsCopying l.copy × (copy_with l.copy (drop l.byte-index l.piece) ≡ unpadded l.piece)
