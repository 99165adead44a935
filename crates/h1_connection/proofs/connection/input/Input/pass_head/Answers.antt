use Rattle.h1_connection.proofs.InputLemmas.{caught_incoming, passed, whole_found}
use Rattle.h1_connection.proofs.connection.input.Input.pass_head.Goals as goal

pub returns : goal.returns
returns c =
    passed c.self.inside.head_bytes c.self.inside.bytes.items c.pass.new.head_bytes c.pass.new.bytes.items c.args.self.now c.self.inside.search c.caught_up.result c.in-Done.scan _ c.in-Piece.end c.self.view_is
    (caught_incoming _ _ _ _ _ c.as_slice.ensures c.self.invariant c.caught_up.ensures) c.in-Done.is c.in-Piece.is c.pass.ensures.head_bytes c.pass.ensures.bytes

pub returns-in_default-piece : goal.returns-in_default-piece
returns-in_default-piece c =
    absurd (whole_found c.self.inside.head_bytes c.self.inside.bytes.items c.args.self.now c.self.inside.search c.caught_up.result c.in-Done.scan c.self.view_is
    (caught_incoming _ _ _ _ _ c.as_slice.ensures c.self.invariant c.caught_up.ensures) c.in-Done.is (λ start end is. c.in_default-piece.not-Piece start end is) c.requires)
