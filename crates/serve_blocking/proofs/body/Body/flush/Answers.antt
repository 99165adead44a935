use Rattle.serve_blocking.proofs.Waited.{waits_none, waits_then}
use Rattle.serve_blocking.proofs.body.Body.flush.Goals as goal

pub loop-init : goal.loop-init
loop-init g c = record { waits = waits_none _; can = c.has_unwritten.ensures.some c.if-not-has_unwritten.false }

pub loop-preserved : goal.loop-preserved
loop-preserved g c = record {
  waits = waits_then _ _ _ c.loop.invariant.waits c.write_once.ensures.waits;
  can = c.has_unwritten-in-loop.ensures.some c.if-not-has_unwritten-2.false;
}

pub returns-then-not-has_unwritten-clause-waits : goal.returns-then-not-has_unwritten-clause-waits
returns-then-not-has_unwritten-clause-waits g c = waits_none _

pub returns-then-not-has_unwritten-clause-flushed : goal.returns-then-not-has_unwritten-clause-flushed
returns-then-not-has_unwritten-clause-flushed g c = c.has_unwritten.ensures.none c.if-not-has_unwritten.true

pub returns-then-not-has_unwritten-2-clause-waits : goal.returns-then-not-has_unwritten-2-clause-waits
returns-then-not-has_unwritten-2-clause-waits g c = waits_then _ _ _ c.loop.invariant.waits c.write_once.ensures.waits

pub returns-then-not-has_unwritten-2-clause-flushed : goal.returns-then-not-has_unwritten-2-clause-flushed
returns-then-not-has_unwritten-2-clause-flushed g c = c.has_unwritten-in-loop.ensures.none c.if-not-has_unwritten-2.true

pub returns-in_err-write_once-clause-waits : goal.returns-in_err-write_once-clause-waits
returns-in_err-write_once-clause-waits g c = waits_then _ _ _ c.loop.invariant.waits c.write_once.ensures.waits

-- ---- where nothing waited it doesn't come so far

pub returns-in_err-write_once-clause-idle : goal.returns-in_err-write_once-clause-idle
returns-in_err-write_once-clause-idle g c = λ flushed. absurd (cc (c.has_unwritten.ensures.idle flushed, c.if-not-has_unwritten.false))

pub returns-clause-idle : goal.returns-clause-idle
returns-clause-idle g c = λ flushed. absurd (cc (c.has_unwritten.ensures.idle flushed, c.if-not-has_unwritten.false))
