use Rattle.std.proofs.Common.{◌+◌, ℕ, sym, ap, ◌∙◌, rules, arith}
use Rattle.board_server.proofs.Kept.{counted_more}
use Rattle.board_server.proofs.accept.accept_all.Goals.{in-Some+in-Ok-None, in-Some+in-Err, in_default}
use Rattle.board_server.proofs.accept.accept_all.Goals as goal

pub loop-pass-preserved : goal.loop-pass-preserved
loop-pass-preserved g c =
    let says = rw c.in-Ok-Some.field-0-is at c.in-Ok-Some.ensures.says in
    record {
      count = ap (λ (n : ℕ). n + 1) c.loop-pass.invariant.count ∙ sym c.keep.ensures.count;
      all = search (rules, arith);
      room_for_handles = rw c.keep.ensures.room.0 c.loop-pass.invariant.room_for_handles;
      room_for_served = rw c.keep.ensures.room.1 c.loop-pass.invariant.room_for_served;
      promises = c.keep.ensures.promises;
      kept = c.keep.ensures.kept;
      given = counted_more c.loop-pass.conn _ _ _ c.loop-pass.invariant.given says.0;
      never_falls = search (rules, arith);
      not_failed = c.loop-pass.invariant.not_failed;
    }

pub returns-clause-taken : goal.returns-clause-taken
returns-clause-taken g c = elim c.match-pop.branch [
  | in-Some+in-Ok-None w ↦ record { given = search (rules, arith); never_falls = search (rules, arith); failed = search rules; ended = search rules }
  | in-Some+in-Err w ↦ record { given = search (rules, arith); never_falls = search (rules, arith); failed = search rules; ended = search rules }
  | in_default w ↦ record { given = search (rules, arith); never_falls = search (rules, arith); failed = search rules; ended = search (rules, arith) }
]
