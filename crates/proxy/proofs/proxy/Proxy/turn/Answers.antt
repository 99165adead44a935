use Rattle.std.proofs.Common.{sym, ◌∙◌}
use Rattle.proxy.proofs.Moves.{goes_same, of_unsent, of_no_unsent}
use Rattle.proxy.proofs.Work.{turns, still_rests, works_of_unsent, not_still, runs_on}
use Rattle.proxy.proofs.Served.{serves_of_unsent}
use Rattle.proxy.proofs.Replies.{still_replies, replies_of_unsent, waiting_keeps, keeps_of_unsent}
use Rattle.std.proofs.Common.{refl, inl}
use Rattle.proxy.proofs.Fresh.{still_sends, may_of, idle_sends, sends_of_unsent, begins_by, closes_of_unsent}
use Rattle.std.proofs.lemmas.Bool.{false≢true}
use Rattle.proxy.proofs.Below.{still_below, turn_below}
use Rattle.std.proofs.Common.{ap, is_some}
use Rattle.proxy.proofs.proxy.Proxy.turn.Goals as goal

pub returns-then-is_still-clause-goes : goal.returns-then-is_still-clause-goes
returns-then-is_still-clause-goes c = goes_same _

pub returns-in_ok-more-in-Some-clause-goes : goal.returns-in_ok-more-in-Some-clause-goes
returns-in_ok-more-in-Some-clause-goes c = of_unsent c.args.self.now _ c.in-Some.unsent (sym c.in-Some.ensures.value) c.in_ok-more-in-Some.ensures.goes

pub go_on-requires : goal.go_on-requires
go_on-requires c = record { unsent = c.take.ensures.after; going = runs_on c.is_still.result c.args.self.now c.is_still.ensures c.if-is_still.false }

pub returns-in_ok-more-in-None-clause-goes : goal.returns-in_ok-more-in-None-clause-goes
returns-in_ok-more-in-None-clause-goes c = of_no_unsent c.args.self.now _ _ (sym c.in-None.ensures.value ∙ sym c.take.ensures.after) c.in_ok-more-in-None.ensures.goes

pub returns-then-is_still-clause-works : goal.returns-then-is_still-clause-works
returns-then-is_still-clause-works c = still_rests c.args.self.now (not_still _ _ c.is_still.ensures c.if-is_still.true)

pub returns-in_ok-more-in-Some-clause-works : goal.returns-in_ok-more-in-Some-clause-works
returns-in_ok-more-in-Some-clause-works c =
    turns c.in_ok-more-in-Some.more c.args.self.now c.send.new.self (runs_on c.is_still.result c.args.self.now c.is_still.ensures c.if-is_still.false)
    (works_of_unsent c.in_ok-more-in-Some.more c.args.self.now c.send.new.self _ (sym c.in-Some.ensures.value) c.in_ok-more-in-Some.ensures.works)

pub returns-in_ok-more-in-None-clause-works : goal.returns-in_ok-more-in-None-clause-works
returns-in_ok-more-in-None-clause-works c =
    turns c.in_ok-more-in-None.more c.args.self.now c.go_on.new.self (runs_on c.is_still.result c.args.self.now c.is_still.ensures c.if-is_still.false)
    (works_of_unsent c.in_ok-more-in-None.more c.args.self.now c.go_on.new.self _ (sym c.in-None.ensures.value ∙ sym c.take.ensures.after) c.in_ok-more-in-None.ensures.works)

pub returns-then-is_still-clause-serves : goal.returns-then-is_still-clause-serves
returns-then-is_still-clause-serves c = λ s. s

pub returns-in_ok-more-in-Some-clause-serves : goal.returns-in_ok-more-in-Some-clause-serves
returns-in_ok-more-in-Some-clause-serves c = serves_of_unsent c.args.self.now c.send.new.self _ (sym c.in-Some.ensures.value) c.in_ok-more-in-Some.ensures.serves

pub returns-in_ok-more-in-None-clause-serves : goal.returns-in_ok-more-in-None-clause-serves
returns-in_ok-more-in-None-clause-serves c =
    serves_of_unsent c.args.self.now c.go_on.new.self _ (sym c.in-None.ensures.value ∙ sym c.take.ensures.after) c.in_ok-more-in-None.ensures.serves

pub returns-then-is_still-clause-replies : goal.returns-then-is_still-clause-replies
returns-then-is_still-clause-replies c = still_replies c.args.self.now

pub returns-in_ok-more-in-Some-clause-replies : goal.returns-in_ok-more-in-Some-clause-replies
returns-in_ok-more-in-Some-clause-replies c = replies_of_unsent c.args.self.now c.send.new.self _ (sym c.in-Some.ensures.value) c.in_ok-more-in-Some.ensures.replies

pub returns-in_ok-more-in-None-clause-replies : goal.returns-in_ok-more-in-None-clause-replies
returns-in_ok-more-in-None-clause-replies c =
    replies_of_unsent c.args.self.now c.go_on.new.self _ (sym c.in-None.ensures.value ∙ sym c.take.ensures.after) c.in_ok-more-in-None.ensures.replies

pub returns-then-is_still-clause-begins : goal.returns-then-is_still-clause-begins
returns-then-is_still-clause-begins c = inl refl

pub returns-in_ok-more-in-Some-clause-begins : goal.returns-in_ok-more-in-Some-clause-begins
returns-in_ok-more-in-Some-clause-begins c =
    begins_by c.args.self.now c.send.new.self (may_of c.is_still.result c.args.self.now c.is_still.ensures c.if-is_still.false)
    (closes_of_unsent c.args.self.now c.send.new.self _ (sym c.in-Some.ensures.value) c.in_ok-more-in-Some.ensures.closes)

pub returns-in_ok-more-in-None-clause-begins : goal.returns-in_ok-more-in-None-clause-begins
returns-in_ok-more-in-None-clause-begins c =
    begins_by c.args.self.now c.go_on.new.self (may_of c.is_still.result c.args.self.now c.is_still.ensures c.if-is_still.false)
    (closes_of_unsent c.args.self.now c.go_on.new.self _ (sym c.in-None.ensures.value ∙ sym c.take.ensures.after) c.in_ok-more-in-None.ensures.closes)

pub returns-then-is_still-clause-sends : goal.returns-then-is_still-clause-sends
returns-then-is_still-clause-sends c = still_sends c.args.self.now (not_still _ _ c.is_still.ensures c.if-is_still.true)

pub returns-in_ok-more-in-Some-clause-sends : goal.returns-in_ok-more-in-Some-clause-sends
returns-in_ok-more-in-Some-clause-sends c = sends_of_unsent c.args.self.now c.send.new.self c.in-Some.unsent (sym c.in-Some.ensures.value) c.in_ok-more-in-Some.ensures.sends

pub returns-in_ok-more-in-None-clause-sends : goal.returns-in_ok-more-in-None-clause-sends
returns-in_ok-more-in-None-clause-sends c = idle_sends c.args.self.now c.go_on.new.self (sym c.in-None.ensures.value)

pub returns-then-is_still-clause-keeps : goal.returns-then-is_still-clause-keeps
returns-then-is_still-clause-keeps c = λ idle. (idle.sent, inl refl)

pub returns-in_ok-more-in-Some-clause-keeps : goal.returns-in_ok-more-in-Some-clause-keeps
returns-in_ok-more-in-Some-clause-keeps c = waiting_keeps c.args.self.now c.send.new.self c.in-Some.unsent (sym c.in-Some.ensures.value)

pub returns-in_ok-more-in-None-clause-keeps : goal.returns-in_ok-more-in-None-clause-keeps
returns-in_ok-more-in-None-clause-keeps c =
    keeps_of_unsent c.args.self.now c.go_on.new.self _ (sym c.in-None.ensures.value ∙ sym c.take.ensures.after) c.in_ok-more-in-None.ensures.keeps

pub returns-in_err-more-in-Some-clause-no_memory_needed : goal.returns-in_err-more-in-Some-clause-no_memory_needed
returns-in_err-more-in-Some-clause-no_memory_needed c = λ still.
    absurd (false≢true (sym still ∙ may_of c.is_still.result c.args.self.now c.is_still.ensures c.if-is_still.false))

pub returns-in_err-more-in-None-clause-no_memory_needed : goal.returns-in_err-more-in-None-clause-no_memory_needed
returns-in_err-more-in-None-clause-no_memory_needed c = λ still.
    absurd (false≢true (sym still ∙ may_of c.is_still.result c.args.self.now c.is_still.ensures c.if-is_still.false))

pub returns-then-is_still-clause-below : goal.returns-then-is_still-clause-below
returns-then-is_still-clause-below c = still_below c.args.self.now

pub returns-in_ok-more-in-Some-clause-below : goal.returns-in_ok-more-in-Some-clause-below
returns-in_ok-more-in-Some-clause-below c =
    let may = may_of c.is_still.result c.args.self.now c.is_still.ensures c.if-is_still.false in
    turn_below c.args.self.now c.send.new.self may (λ alone. c.in_ok-more-in-Some.ensures.below (alone (ap is_some (sym c.in-Some.ensures.value))) may)

pub returns-in_ok-more-in-None-clause-below : goal.returns-in_ok-more-in-None-clause-below
returns-in_ok-more-in-None-clause-below c =
    turn_below c.args.self.now c.go_on.new.self (may_of c.is_still.result c.args.self.now c.is_still.ensures c.if-is_still.false)
    (λ alone. c.in_ok-more-in-None.ensures.below)
