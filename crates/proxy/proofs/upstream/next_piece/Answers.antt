use Rattle.std.proofs.Common.{refl, sym, ◌∙◌}
use Rattle.model_client.specs.ClientEvent as asked
use Rattle.proxy.proofs.Sides.{pull_stays, piece_less, time_stays, time_same}
use Rattle.proxy.proofs.Puts.{piece_hands}
use Rattle.proxy.proofs.Below.{pull_keeps}
use Rattle.proxy.proofs.upstream.next_piece.Goals as goal

pub returns-clause-stays : goal.returns-clause-stays
returns-clause-stays c =
    pull_stays c.in_ok-pulled.pulled c.args.server.now c.pull.new.self c.pull.ensures.settings (sym c.can_pull.ensures ∙ c.if-not-can_pull.false) c.in_ok-pulled.ensures.stands

pub returns-then-not-can_pull-clause-time : goal.returns-then-not-can_pull-clause-time
returns-then-not-can_pull-clause-time c = time_same c.args.server.now

pub returns-clause-time : goal.returns-clause-time
returns-clause-time c = time_stays c.args.server.now asked.pull _ c.pull.new.self c.pull.ensures.settings c.in_ok-pulled.ensures.stands (λ n. refl)

pub returns-clause-leaves : goal.returns-clause-leaves
returns-clause-leaves c =
    piece_less c.in_ok-pulled.pulled c.args.server.now c.pull.new.self c.pull.ensures.settings (sym c.can_pull.ensures ∙ c.if-not-can_pull.false) c.in_ok-pulled.ensures.stands

pub returns-clause-hands : goal.returns-clause-hands
returns-clause-hands c = piece_hands c.in_ok-pulled.pulled c.args.server.now c.pull.new.self c.pull.ensures.settings c.in_ok-pulled.ensures.stands

pub returns-then-not-can_pull-clause-hands : goal.returns-then-not-can_pull-clause-hands
returns-then-not-can_pull-clause-hands c = c.last_piece.ensures.hands (sym c.can_pull.ensures ∙ c.if-not-can_pull.true)

pub returns-clause-waits : goal.returns-clause-waits
returns-clause-waits c = pull_keeps c.args.server.now c.pull.new.self _ c.in_ok-pulled.ensures.stands
