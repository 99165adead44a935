use Rattle.std.proofs.Common.{ℕ, ◌-◌, length, ap, ◌∙◌}
use Rattle.std.specs.Prelude.{min}
use Rattle.h1_client.specs.ClientMeaning.{setting_of}
use Rattle.h1_client.proofs.BodyLemmas.{read_step}
use Rattle.h1_client.proofs.connection.parts.Parts.read.Goals as goal

pub returns-clause-ok : goal.returns-clause-ok
returns-clause-ok c =
    read_step (setting_of c.args.config.now) c.args.self.now _ _ c.take.new.self c.args.bytes.now c.in_ok-count.count
    (c.in_ok-count.ensures.count ∙ ap (λ (h : ℕ). min (length c.args.bytes.now) (h - length c.args.self.now.input.unread)) c.h1_hold_size.ensures.value) c.in_ok-count.ensures.ok c.pass_body.ensures c.settle.ensures
