-- Four bytes are masked and stored where they were.
use Rattle.std.proofs.Common.{ℕ, ◌+◌, List, sym, subst}
use lib.Lanes.{zip2, chunk, put_chunk}
use Rattle.std.specs.Int.Bits.{bit_xor}
use Rattle.ws_frames.specs.MaskLanes.{IsMaskedUpTo}
use Rattle.ws_frames.proofs.MaskLemmas.{word_run, chunk_masked}
use Rattle.ws_frames.proofs.mask.mask_word.Goals as goal

pub returns : goal.returns
returns c = λ mask all word four even so.
    subst (λ (l : List ℕ). IsMaskedUpTo mask all (c.args.at + 4) (put_chunk c.args.at c.args.buf.now (zip2 bit_xor (chunk c.args.at 4 c.args.buf.now) l)))
    (sym word) (chunk_masked mask _ all c.args.buf.now 4 c.args.at c.requires (word_run mask four) even so)
