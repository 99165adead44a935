use Rattle.std.proofs.Common.{sym, ◌∙◌}
use Rattle.h1_connection.proofs.RunLemmas.{says_more}
use Rattle.h1_connection.proofs.GivenLemmas.{body_left}
use Rattle.h1_connection.proofs.connection.Connection.step_pull.Goals as goal

pub returns-then-can_pull_frame-clause-stands : goal.returns-then-can_pull_frame-clause-stands
returns-then-can_pull_frame-clause-stands c =
    says_more c.args.self.now c.pull_frame.new.self _ _ _ c.outcome_of_frame.ensures c.in_ok-pulled.ensures.stands

pub pull-requires : goal.pull-requires
pull-requires c = record { can_pull = body_left c.args.self.now c.requires (sym c.can_pull_frame.ensures.value ∙ c.if-can_pull_frame.false) }

pub returns-clause-stands : goal.returns-clause-stands
returns-clause-stands c = says_more c.args.self.now c.pull.new.self _ _ _ c.outcome_of_pull.ensures c.in_ok-pulled-2.ensures.stands
