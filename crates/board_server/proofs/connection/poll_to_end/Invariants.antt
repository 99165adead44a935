use Rattle.std.specs.Prelude.{◌≡◌, ℕ, []}
use Rattle.http_bodies.specs.Values.{holds}
use Rattle.http_services.specs.Serving.{unknown_call}
use Rattle.h1_dispatcher.specs.View.{view_of, MayBePolled}
use Rattle.board.specs.Work.{serving_of}
use Rattle.board_server.specs.Serves.{AreWaits}
use Rattle.board_server.proofs.connection.poll_to_end.Given as goal

-- each poll so far was pending, at a moment that the clock may give, and each call that was polled was answered
abbrev pub invariant-loop-count : goal.invariant-loop-count
invariant-loop-count g l = record {
  waits : AreWaits (g.K.Clock.may_give l.fn.clock) (view_of g.W.Transport.wiring (λ s. serving_of s.work) (λ _. unknown_call) (λ _. holds []) g.L.Recorder.noted g.L.Recorder.is_listening l.fn.dispatcher) l.count (view_of g.W.Transport.wiring (λ s. serving_of s.work) (λ _. unknown_call) (λ _. holds []) g.L.Recorder.noted g.L.Recorder.is_listening l.dispatcher);
  open_call : MayBePolled (λ _. unknown_call) l.dispatcher;
  answered : (view_of g.W.Transport.wiring (λ s. serving_of s.work) (λ _. unknown_call) (λ _. holds []) g.L.Recorder.noted g.L.Recorder.is_listening l.dispatcher).service.call_waits ≡ 0;
  same : (moment : ℕ) → g.K.Clock.may_give l.clock moment ≡ g.K.Clock.may_give l.fn.clock moment;
}
