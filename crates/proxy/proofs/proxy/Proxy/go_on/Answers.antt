use Rattle.proxy.proofs.Replies.{busy_keeps}
use Rattle.proxy.proofs.Fresh.{sent_closes}
use Rattle.proxy.proofs.proxy.Proxy.go_on.Goals as goal

pub pass_on-requires : goal.pass_on-requires
pass_on-requires c = record { runs = record { unsent = c.requires.unsent; sent = c.in-Some.is } }

pub begin-requires : goal.begin-requires
begin-requires c = record { idle = record { unsent = c.requires.unsent; sent = c.in-None.is }; going = c.requires.going }

pub returns-in_ok-more-in-Some-clause-keeps : goal.returns-in_ok-more-in-Some-clause-keeps
returns-in_ok-more-in-Some-clause-keeps c = busy_keeps c.args.self.now c.pass_on.new.self c.in-Some.sent c.in-Some.is

pub returns-in_ok-more-in-Some-clause-closes : goal.returns-in_ok-more-in-Some-clause-closes
returns-in_ok-more-in-Some-clause-closes c = sent_closes c.args.self.now c.pass_on.new.self c.in-Some.sent c.in-Some.is
