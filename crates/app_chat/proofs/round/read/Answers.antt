use Rattle.app_chat.proofs.FlowLemmas.{passes_none, passes_stays}
use Rattle.app_chat.proofs.round.read.Goals as goal

pub returns-then-not-standing : goal.returns-then-not-standing
returns-then-not-standing g c = λ given. passes_none _ _

pub returns-then-is_not_now : goal.returns-then-is_not_now
returns-then-is_not_now g c = λ given. let x = rw c.in-Failed.is at c.in_ok-count.ensures in passes_stays _ _ _ _ _ given _ _ x

pub returns-in-End : goal.returns-in-End
returns-in-End g c = λ given. let x = rw c.in-End.is at c.in_ok-count.ensures in passes_stays _ _ _ _ _ given _ _ x.0

pub returns-in-Full : goal.returns-in-Full
returns-in-Full g c = λ given. let x = rw c.in-Full.is at c.in_ok-count.ensures in passes_stays _ _ _ _ _ given _ _ x
