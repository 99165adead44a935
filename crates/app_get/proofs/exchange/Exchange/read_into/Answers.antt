use Rattle.std.proofs.Common.{[], refl, take, arith}
use Rattle.std.proofs.KnownBytes.{Consumes-nil, Appends-nil, Keeps-refl}
use Rattle.model_client.specs.ClientEvent as on
use Rattle.app_get.proofs.Steps.{ends_none, quiet_still, quiet_heard, emptied, one_step, no_step, done_moves, read_moves, consumes_zero, all_taken}
use Rattle.app_get.proofs.Stopping.{err_stops, no_memory, loses_bytes, unread_ends}
use Rattle.app_get.proofs.exchange.Exchange.read_into.Goals as goal

pub returns-in-Ok-eq0-clause-goes : goal.returns-in-Ok-eq0-clause-goes
returns-in-Ok-eq0-clause-goes g c =
    one_step _ _ _ on.eof _ [] [] [] [] c.self.view_is c.eof.ensures.stands (done_moves on.eof _ refl)
    (consumes_zero _ _ _ _ c.in-Ok-eq0.field-0-test c.in-Ok-eq0.ensures.bytes.0) (Appends-nil _) (Consumes-nil _) (λ _. Appends-nil _)
    (record {
      input = λ _. emptied _ _ _ c.in-Ok-eq0.ensures.bytes.0 (c.in-Ok-eq0.ensures.bytes.1 c.in-Ok-eq0.field-0-test (omega arith));
      body = λ told. absurd (cc told);
      keeps_rest = refl;
    })
    (quiet_still _ _ refl (Keeps-refl _) (λ is. is)) refl

pub returns-else-branch-count-clause-goes : goal.returns-else-branch-count-clause-goes
returns-else-branch-count-clause-goes g c =
    let bytes = take c.in-Ok.count c.read.new.buf in
    one_step _ _ _ (on.read bytes) _ bytes [] [] [] c.self.view_is c.in_ok-read-in-Ok.ensures.stands
    (read_moves bytes c.in_ok-read-in-Ok.field-0 _ (all_taken _ _ _ c.if-branch-count.false c.in-Ok.ensures.bound.0))
    c.in-Ok.ensures.bytes.0 (Appends-nil _) (Consumes-nil _) (λ _. Appends-nil _) (ends_none (on.read bytes) _ _ refl refl refl)
    (quiet_heard _ _ _ refl (Keeps-refl _) (λ is. is)) refl

pub returns-in-Err-clause-goes : goal.returns-in-Err-clause-goes
returns-in-Err-clause-goes g c =
    no_step _ _ _ c.self.view_is refl c.in-Err.ensures.bytes (Keeps-refl _) (Consumes-nil _) (λ _. Appends-nil _) (quiet_still _ _ refl (Keeps-refl _) (λ is. is)) refl refl refl

pub returns-in_err-read-in-Ok-clause-stops : goal.returns-in_err-read-in-Ok-clause-stops
returns-in_err-read-in-Ok-clause-stops g c = err_stops _ _ _ _ c.from_residual.ensures.1 (no_memory _ _ _ _ c.self.view_is refl (Keeps-refl _))

pub returns-then-branch-count-clause-stops : goal.returns-then-branch-count-clause-stops
returns-then-branch-count-clause-stops g c =
    loses_bytes _ _ _ c.read.new.buf c.in_ok-read-in-Ok.field-0 c.in-Ok.count c.self.view_is c.in_ok-read-in-Ok.ensures.stands c.in-Ok.ensures.bound.0 c.if-branch-count.true (Keeps-refl _)

pub returns-in-Err-2-clause-stops : goal.returns-in-Err-2-clause-stops
returns-in-Err-2-clause-stops g c =
    unread_ends _ _ _ _ c.self.view_is c.requires.waiting c.in-Err-2.ensures.cause.failed refl refl (Keeps-refl _) c.error_of.ensures
