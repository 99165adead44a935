use Rattle.std.proofs.Common.{[], refl, rules}
use Rattle.std.proofs.KnownBytes.{Appends-nil}
use Rattle.std.proofs.lemmas.List.{take_rest}
use Rattle.board_server.proofs.Writing.{written_more}
use Rattle.board_server.proofs.write.write_all.Goals as goal

pub loop-rest-init : goal.loop-rest-init
loop-rest-init g c = record { front = ([], refl, Appends-nil _); faults = refl }

pub loop-rest-preserved : goal.loop-rest-preserved
loop-rest-preserved g c = record {
  front = (let more = written_more _ _ _ _ _ _ c.loop-rest.invariant.front c.in_ok-count.ensures.bytes in simp take_rest more);
  faults = search rules;
}
