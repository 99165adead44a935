use Rattle.std.proofs.Common.{drop, ap, ◌∙◌, arith}
use Rattle.h1_payload.proofs.Places.{shared}
use Rattle.h1_payload.proofs.chunks.ChunkReader.hand_out.Goals as goal

pub returns-clause-bytes : goal.returns-clause-bytes
returns-clause-bytes c =
    c.advance.ensures ∙ ap (drop c.args.at) c.in_ok-bytes.ensures.front ∙ shared c.args.unread.now.items c.args.at c.args.end (omega arith)
