use Rattle.std.proofs.Common.{◌∙◌, ap, not}
use Rattle.h1_connection.proofs.EventLemmas.{none_told, told_steps, told_sound_by}
use Rattle.h1_output.specs.Queued.{Queued}
use Rattle.h1_connection.specs.declared.connection.parts.Parts.{Parts}
use Rattle.h1_connection.proofs.connection.parts.Parts.send_continue.Goals as goal

pub returns-then-is_none-clause-ok : goal.returns-then-is_none-clause-ok
returns-then-is_none-clause-ok c = none_told c.args.config.now c.args.self.now c.requires (c.is_none.ensures ∙ ap not c.if-is_none.true)

pub returns-clause-ok : goal.returns-clause-ok
returns-clause-ok c =
    told_steps c.args.config.now c.args.self.now c.set_had_continue.new.self c.put_interim.new.self c.requires (c.is_none.ensures ∙ ap not c.if-is_none.false) (ap (λ (q : Queued). q.bytes) c.in_ok-put_interim.ensures.ok) c.set_had_continue.ensures

pub returns-clause-sound : goal.returns-clause-sound
returns-clause-sound c = told_sound_by c.args.config.now c.args.self.now _ _ c.requires c.set_had_continue.ensures

pub returns-clause-marks : goal.returns-clause-marks
returns-clause-marks c = ap (λ (q : Queued). q.marks) (ap (λ (p : Parts). p.output) c.set_had_continue.ensures ∙ c.in_ok-put_interim.ensures.ok)

pub returns-clause-ahead : goal.returns-clause-ahead
returns-clause-ahead c = ap (λ (p : Parts). p.input.ahead) c.set_had_continue.ensures
