use Rattle.std.proofs.Common.{List, ℕ, refl, subst}
use Rattle.model_h1.specs.Request.{faulty}
use Rattle.model_h1.specs.RequestHead.{IsReading}
use Rattle.h1_decoder.specs.Refusal.{fault_of}
use Rattle.h1_connection.proofs.InputLemmas.{piece_searched, cut_slice, head_found}
use Rattle.h1_connection.proofs.connection.front_head.read_found.Goals as goal

pub returns-in-Err-clause-fault : goal.returns-in-Err-clause-fault
returns-in-Err-clause-fault c = λ ne.
    let here = (piece_searched c.args.head_bytes.now c.args.bytes.now.items c.args.search.now c.in-Done.scan c.in-Piece.start c.in-Piece.end c.in-Done.is c.in-Piece.is c.requires.searched).0 in (
      _,
      head_found _ _ c.args.search.now c.in-Done.scan c.in-Piece.start c.in-Piece.end refl c.in-Done.is c.in-Piece.is here,
      subst (λ (head : List ℕ). IsReading head (faulty (fault_of c.in-Err.error))) (cut_slice _ c.cut.new.head_bytes c.in-Piece.start c.in-Piece.end here c.in-Ok.ensures.head_bytes)
          (c.in-Err.ensures.fault ne),
    )
