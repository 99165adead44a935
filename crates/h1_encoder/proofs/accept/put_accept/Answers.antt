-- Piece by piece.
use Rattle.std.proofs.Common.{ℕ, List, ◌++◌, ap, ◌∙◌}
use Rattle.h1_encoder.specs.WrittenLines.{accept_start}
use Rattle.h1_encoder.proofs.AcceptText.{accept_is}
use Rattle.h1_encoder.proofs.accept.put_accept.Goals as goal

pub returns-clause-ok : goal.returns-clause-ok
returns-clause-ok c = λ setting draining.
    let start = c.accept_start-start.result.now in
    accept_is setting draining c.args.asked c.args.key.now c.args.now c.set.new.self start c.as_bytes-end.result.now
    c.args.out.now.items c.extend_reserved.new.self.items c.extend_reserved-2.new.self.items c.extend_reserved-3.new.self.items c.extend_reserved-4.new.self.items
    (c.accept_start-start.ensures ∙ ap accept_start c.minor.ensures.value) c.as_bytes-end.ensures.value c.set.ensures
    (c.extend_reserved.ensures.items ∙ ap (λ (l : List ℕ). l ++ start) c.reserve.ensures.items)
    c.extend_reserved-2.ensures.items c.extend_reserved-3.ensures.items c.extend_reserved-4.ensures.items
