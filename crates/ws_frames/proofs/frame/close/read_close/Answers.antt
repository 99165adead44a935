-- One byte, or two and a text.
use Rattle.std.proofs.Common.{sym, ap, subst, arith, get_or, ◌+◌, ◌*◌}
use Rattle.std.proofs.lemmas.List.{take_rest}
use Rattle.ws_frames.specs.Close.{CloseSays, reason_frame}
use Rattle.ws_frames.specs.Refusal.{error_of}
use Rattle.ws_frames.proofs.CloseLemmas.{close_of_one, close_of_two}
use Rattle.ws_frames.proofs.frame.close.read_close.Goals as goal

pub returns-in-len1-clause-says : goal.returns-in-len1-clause-says
returns-in-len1-clause-says c = sym (ap error_of (close_of_one c.args.payload.now (omega arith) (omega arith)))

pub returns-in-len2-up-clause-says : goal.returns-in-len2-up-clause-says
returns-in-len2-up-clause-says c =
    subst (CloseSays c.read_reason.result) (sym (close_of_two c.args.payload.now (omega arith)))
    (subst (λ t. CloseSays c.read_reason.result (reason_frame (get_or c.args.payload.now 0 0 * 256 + get_or c.args.payload.now 1 0) t)) (take_rest c.args.payload.now 2) c.read_reason.ensures.says)
