use Rattle.std.proofs.Common.{rules, ◌≡◌, false, map, refl}
use Rattle.std.specs.Prelude.{is_some}
use Rattle.board.specs.Work.{Worked}
use Rattle.board.proofs.Kept.{kept_first, none_of}
use Rattle.board.proofs.work.Work.begin.Goals as goal

pub invariant_of-self-2 : goal.invariant_of-self-2
invariant_of-self-2 g c =
    let i = c.self.inside in
    let w : Worked = record { pass = i.pass.pass; waiting = i.waiting; is_lost = i.is_lost; is_broken = i.is_broken; waits = i.waits; calls = map (λ p. p.0) i.calls.items; answers = i.answers.items } in
    let none : is_some i.waiting ≡ false = search rules in
    kept_first w c.args.request i.calls.items c.and-self-inside.result.items refl c.and-self-inside.ensures c.if-self.false (none_of i.waiting none) c.self.invariant
