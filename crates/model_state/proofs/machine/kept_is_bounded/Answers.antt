use Rattle.model_state.proofs.KeptBounds.{unread_bounded, section_bounded}
use Rattle.model_state.proofs.machine.kept_is_bounded.Goals as goal

pub returns-clause-unread : goal.returns-clause-unread
returns-clause-unread c = unread_bounded

pub returns-clause-section : goal.returns-clause-section
returns-clause-section c = section_bounded
