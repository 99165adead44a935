use Rattle.std.proofs.Common.{◌∙◌, ap}
use Rattle.model_state.specs.Local.{closing_by}
use Rattle.h1_connection.specs.EventMeaning.{setting_of}
use Rattle.h1_connection.specs.State.{State}
use Rattle.h1_connection.proofs.GoesOnLemmas.{closing_traced}
use Rattle.h1_connection.proofs.StepLemmas.{sound_may}
use Rattle.h1_connection.proofs.connection.Connection.closing.Goals as goal

pub returns-clause-traced : goal.returns-clause-traced
returns-clause-traced c = λ trace past stands is_past.
    c.closing.ensures ∙ ap (λ (s : State). closing_by (setting_of s.settings) s.kept) c.self.view_is
    ∙ closing_traced c.args.self.now trace past stands is_past

pub closing-requires : goal.closing-requires
closing-requires c = sound_may c.self.inside.config _ c.self.invariant
