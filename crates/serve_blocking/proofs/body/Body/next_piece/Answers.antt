use Rattle.std.proofs.Common.{refl}
use Rattle.model_h1.specs.Event as on
use Rattle.serve_blocking.specs.declared.error.HandleError.TheVariants as handle_error
use Rattle.serve_blocking.specs.Acts.{GivesNone}
use Rattle.serve_blocking.proofs.Answered.{seen_may}
use Rattle.serve_blocking.proofs.Gave.{then_gives, then_gives_none, piece_came, none_came, told_piece, told_none, lost_none}
use Rattle.serve_blocking.proofs.Results.{err_as}
use Rattle.serve_blocking.proofs.Waited.{waits_none, waits_then}
use Rattle.serve_blocking.proofs.body.Body.next_piece.Goals as goal

pub loop-init : goal.loop-init
loop-init g c = record { waits = waits_none _ }

pub returns-then-not-can_pull-clause-gives : goal.returns-then-not-can_pull-clause-gives
returns-then-not-can_pull-clause-gives g c = told_piece c.told_end.result _ _ c.loop.invariant.waits c.told_end.ensures.end

pub returns-then-not-can_pull-clause-none : goal.returns-then-not-can_pull-clause-none
returns-then-not-can_pull-clause-none g c =
    told_none c.told_end.result _ _ c.loop.invariant.waits
    (seen_may c.loop.self _ on.drop_body _ _ c.self.view_is c.can_pull.ensures.value c.if-not-can_pull.true) c.told_end.ensures.broken

pub returns-in_err-piece-clause-none : goal.returns-in_err-piece-clause-none
returns-in_err-piece-clause-none g c =
    err_as c.from_residual.result c.in_err-piece.field-0.0 (λ e. GivesNone e c.args.self.now c.ask.new.self) c.from_residual.ensures.1
    (then_gives_none c.in_err-piece.field-0.0 _ _ _ c.loop.invariant.waits c.in_err-piece.ensures.none)

pub returns-in-Some-clause-gives : goal.returns-in-Some-clause-gives
returns-in-Some-clause-gives g c = then_gives _ _ _ _ c.loop.invariant.waits (piece_came _ _ _ _ c.in-Some.is c.in_ok-piece.ensures.gives)

pub loop-preserved : goal.loop-preserved
loop-preserved g c = record {
  waits = waits_then _ _ _ (waits_then _ _ _ c.loop.invariant.waits (none_came _ _ _ c.in-None.is c.in_ok-piece.ensures.waits))
      c.in_ok-wait_for_more-in-None.ensures.waits;
}

pub returns-in_err-wait_for_more-in-None-clause-none : goal.returns-in_err-wait_for_more-in-None-clause-none
returns-in_err-wait_for_more-in-None-clause-none g c =
    err_as c.from_residual-in_err-wait_for_more-in-None.result c.in_err-wait_for_more-in-None.field-0.0
    (λ e. GivesNone e c.args.self.now c.wait_for_more.new.self) c.from_residual-in_err-wait_for_more-in-None.ensures.1
    (lost_none c.in_err-wait_for_more-in-None.field-0.0 _ _ c.in_err-wait_for_more-in-None.ensures.lost
    (waits_then _ _ _ (waits_then _ _ _ c.loop.invariant.waits (none_came _ _ _ c.in-None.is c.in_ok-piece.ensures.waits))
    c.in_err-wait_for_more-in-None.ensures.waits))

pub returns-clause-none : goal.returns-clause-none
returns-clause-none g c = lost_none handle_error.Stalled _ _ refl c.loop.invariant.waits
