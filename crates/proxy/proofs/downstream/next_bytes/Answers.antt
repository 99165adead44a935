use Rattle.std.proofs.Common.{sym, ◌∙◌}
use Rattle.std.proofs.lemmas.Bool.{false≢true}
use Rattle.proxy.proofs.Sides.{pull_brings, pull_less}
use Rattle.proxy.proofs.Wants.{wants_same, pulled_wants}
use Rattle.proxy.proofs.Puts.{pulled_hands, puts_none}
use Rattle.proxy.proofs.downstream.next_bytes.Goals as goal

pub returns-clause-brings : goal.returns-clause-brings
returns-clause-brings c =
    pull_brings c.in_ok-pulled.pulled c.args.client.now c.pull.new.self c.pull.ensures.settings (sym c.can_pull.ensures.value ∙ c.if-not-can_pull.false) c.in_ok-pulled.ensures.stands

pub returns-clause-leaves : goal.returns-clause-leaves
returns-clause-leaves c =
    pull_less c.in_ok-pulled.pulled c.args.client.now c.pull.new.self c.pull.ensures.settings (sym c.can_pull.ensures.value ∙ c.if-not-can_pull.false) c.in_ok-pulled.ensures.stands

pub returns-then-not-can_pull-clause-leaves : goal.returns-then-not-can_pull-clause-leaves
returns-then-not-can_pull-clause-leaves c = λ trace stands. (λ allowed. absurd (false≢true (sym c.if-not-can_pull.true ∙ c.can_pull.ensures.value ∙ allowed)), λ bytes is. is)

pub returns-clause-wants : goal.returns-clause-wants
returns-clause-wants c =
    pulled_wants c.in_ok-pulled.pulled c.args.client.now c.pull.new.self c.pull.ensures.settings c.in_ok-pulled.ensures.stands
    (sym c.can_pull.ensures.value ∙ c.if-not-can_pull.false)

pub returns-then-not-can_pull-clause-wants : goal.returns-then-not-can_pull-clause-wants
returns-then-not-can_pull-clause-wants c = λ trace stands. wants_same c.args.client.now

pub returns-clause-hands : goal.returns-clause-hands
returns-clause-hands c = pulled_hands c.in_ok-pulled.pulled c.args.client.now c.pull.new.self c.pull.ensures.settings c.in_ok-pulled.ensures.stands

pub returns-then-not-can_pull-clause-hands : goal.returns-then-not-can_pull-clause-hands
returns-then-not-can_pull-clause-hands c = puts_none c.args.client.now
