-- What the kind says, the frame says.
use Rattle.std.proofs.Common.{refl, sym, ap, ◌∙◌, subst}
use Rattle.ws_frames.specs.Header.{payload_at}
use Rattle.ws_frames.specs.Judged.{judged_taken}
use Rattle.ws_frames.specs.Protocol.{opcode_written}
use Rattle.ws_frames.specs.Refusal.{error_of}
use Rattle.ws_frames.proofs.KindLemmas.{KindSays, kind_says}
use Rattle.ws_frames.proofs.ErrorLemmas.{rule_said}
use Rattle.ws_frames.proofs.take.take_judged.Goals as goal

pub returns-in-Err-take_frame-clause-taken : goal.returns-in-Err-take_frame-clause-taken
returns-in-Err-take_frame-clause-taken c =
    let says = subst (λ r. KindSays r (judged_taken c.args.under_way c.args.found.0 (opcode_written c.args.found.1))) (sym c.in-Ok.ensures)
    (kind_says c.args.under_way c.args.found.0 (opcode_written c.args.found.1)) in
    let is = says (payload_at c.args.server c.args.header_len c.args.payload_len c.args.src.now.items) in
    (c.in-Err-take_frame.ensures.taken.0 ∙ ap error_of (sym is), c.in-Err-take_frame.ensures.taken.1)

pub returns-in-Err-clause-taken : goal.returns-in-Err-clause-taken
returns-in-Err-clause-taken c =
    let says = subst (λ r. KindSays r (judged_taken c.args.under_way c.args.found.0 (opcode_written c.args.found.1))) (sym c.in-Err.ensures)
    (kind_says c.args.under_way c.args.found.0 (opcode_written c.args.found.1)) in
    (rule_said _ c.in-Err.error (says (payload_at c.args.server c.args.header_len c.args.payload_len c.args.src.now.items)), refl)
