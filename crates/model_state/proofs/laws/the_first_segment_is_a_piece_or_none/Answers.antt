use Rattle.std.proofs.Common.{length, sym, subst, ◌-◌}
use Rattle.std.proofs.lemmas.List.{length-drop}
use Rattle.model_h1.specs.Sums.{written}
use Rattle.model_h1.specs.Text.{text, buffered}
use Rattle.model_state.specs.Runs.{AreInOrder}
use Rattle.model_state.specs.Marks.{buffered_runs}
use Rattle.model_state.proofs.Order.{waiting_in_order}
use Rattle.model_state.proofs.First.{first_is}
use Rattle.model_state.proofs.laws.the_first_segment_is_a_piece_or_none.Goals as goal

pub returns : goal.returns
returns c = λ setting trace.
    first_is (buffered_runs setting trace) (buffered setting trace)
    (subst (λ q. AreInOrder 0 q (buffered_runs setting trace)) (sym (length-drop (length (written trace)) (text setting trace))) (waiting_in_order setting trace))
