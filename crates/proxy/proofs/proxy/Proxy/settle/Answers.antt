use Rattle.std.proofs.Common.{arith}
use Rattle.proxy.proofs.Moves.{goes_same, goes_then}
use Rattle.proxy.proofs.Work.{told_of, more_turns, no_more_turns, too_many}
use Rattle.proxy.specs.Replies.{nothing, turned}
use Rattle.std.proofs.Common.{ap, ◌∙◌}
use Rattle.std.proofs.lemmas.Bool.{false≢true}
use Rattle.proxy.specs.Rests.{may_turn}
use Rattle.proxy.proofs.Still.{still_turns}
use Rattle.proxy.proofs.proxy.Proxy.settle.Goals as goal

pub loop-turn-init : goal.loop-turn-init
loop-turn-init c = record { goes = goes_same _; leaves = λ history all f. (told_of _ history all f, omega arith); serves = λ s. s; replies = nothing }

pub loop-turn-preserved : goal.loop-turn-preserved
loop-turn-preserved c = record {
  goes = goes_then _ _ _ c.loop-turn.invariant.goes c.in_ok-more.ensures.goes;
  leaves = λ history all f. let x = c.loop-turn.invariant.leaves history all f in more_turns c.in_ok-more.more c.loop-turn.turn c.args.self.now c.loop-turn.self c.turn.new.self c.if-not-more.false x.0 x.1 c.in_ok-more.ensures.works;
  serves = λ s. c.in_ok-more.ensures.serves (c.loop-turn.invariant.serves s);
  replies = turned _ _ c.loop-turn.invariant.replies (record { goes = c.in_ok-more.ensures.goes; serves = c.in_ok-more.ensures.serves; begins = c.in_ok-more.ensures.begins; replies = c.in_ok-more.ensures.replies; keeps = c.in_ok-more.ensures.keeps; sends = c.in_ok-more.ensures.sends; below = c.in_ok-more.ensures.below });
}

pub returns-then-not-more-clause-goes : goal.returns-then-not-more-clause-goes
returns-then-not-more-clause-goes c = goes_then _ _ _ c.loop-turn.invariant.goes c.in_ok-more.ensures.goes

pub returns-then-not-more-clause-rests : goal.returns-then-not-more-clause-rests
returns-then-not-more-clause-rests c = no_more_turns c.in_ok-more.more c.loop-turn.turn c.args.self.now c.loop-turn.self c.turn.new.self c.loop-turn.invariant c.if-not-more.true c.in_ok-more.ensures.works

pub returns-clause-goes : goal.returns-clause-goes
returns-clause-goes c = c.loop-turn.invariant.goes

pub returns-clause-rests : goal.returns-clause-rests
returns-clause-rests c = too_many c.loop-turn.turn c.args.self.now c.loop-turn.self c.loop-turn.invariant (omega (arith, c.most_turns-turn-end.ensures, c.loop-turn-test.false))

pub returns-then-not-more-clause-serves : goal.returns-then-not-more-clause-serves
returns-then-not-more-clause-serves c = λ s. c.in_ok-more.ensures.serves (c.loop-turn.invariant.serves s)

pub returns-clause-serves : goal.returns-clause-serves
returns-clause-serves c = c.loop-turn.invariant.serves

pub returns-then-not-more-clause-replies : goal.returns-then-not-more-clause-replies
returns-then-not-more-clause-replies c = turned _ _ c.loop-turn.invariant.replies (record { goes = c.in_ok-more.ensures.goes; serves = c.in_ok-more.ensures.serves; begins = c.in_ok-more.ensures.begins; replies = c.in_ok-more.ensures.replies; keeps = c.in_ok-more.ensures.keeps; sends = c.in_ok-more.ensures.sends; below = c.in_ok-more.ensures.below })

pub returns-clause-replies : goal.returns-clause-replies
returns-clause-replies c = c.loop-turn.invariant.replies

pub returns-in_err-more-clause-no_memory_needed : goal.returns-in_err-more-clause-no_memory_needed
returns-in_err-more-clause-no_memory_needed c = λ still.
    absurd (false≢true (c.in_err-more.ensures.no_memory_needed (ap may_turn (still_turns c.args.self.now c.loop-turn.self still c.loop-turn.invariant.replies) ∙ still)))
