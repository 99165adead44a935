use Rattle.std.proofs.Common.{[]}
use Rattle.h1_traced.proofs.TracedLaws.{fresh_traced, says_none, says_empty}
use Rattle.h1_traced.proofs.traced.Traced.new.Goals as goal

pub returns-clause-stands : goal.returns-clause-stands
returns-clause-stands g c = λ none. rw c.new.ensures (fresh_traced c.args.config (g.L.Recorder.noted c.args.recorder) (g.L.Recorder.is_listening c.args.recorder) (says_none _ [] none))

pub returns-clause-starts : goal.returns-clause-starts
returns-clause-starts g c = λ empty. rw c.new.ensures (fresh_traced c.args.config (g.L.Recorder.noted c.args.recorder) (g.L.Recorder.is_listening c.args.recorder) (says_empty _ empty))
