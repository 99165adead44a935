use Rattle.std.proofs.Common.{[], refl, sym, subst, take}
use Rattle.std.proofs.KnownBytes.{Consumes-nil, Appends-nil, Keeps-refl}
use Rattle.h1_client.specs.State.{IsAllowed}
use Rattle.model_client.specs.ClientEvent as on
use Rattle.app_get.specs.Exchange.{Ends}
use Rattle.app_get.proofs.Steps.{ends_none, quiet_still, one_act, done_moves}
use Rattle.app_get.proofs.Stopping.{err_stops, file_fails, no_memory}
use Rattle.app_get.proofs.exchange.Exchange.hand_in.Goals as goal

pub chunk-requires : goal.chunk-requires
chunk-requires g c =
    let bytes = take c.in_ok-count.count c.read_file.new.piece in
    record { can_chunk = subst (λ (e : Ends). IsAllowed e.state (on.chunk bytes)) (sym c.self.view_is) (c.requires.can_chunk bytes) }

pub returns-clause-acts : goal.returns-clause-acts
returns-clause-acts g c =
    one_act _ _ _ (on.chunk (take c.in_ok-count.count c.read_file.new.piece)) _ [] [] _ [] c.self.view_is c.in_ok-chunk.ensures.stands
    (done_moves (on.chunk (take c.in_ok-count.count c.read_file.new.piece)) _ refl)
    (Consumes-nil _) (Appends-nil _) c.in_ok-count.ensures.bytes.0 (λ _. Appends-nil _) (ends_none (on.chunk (take c.in_ok-count.count c.read_file.new.piece)) _ _ refl refl refl)
    (quiet_still _ _ refl (Keeps-refl _) (λ is. is)) refl

pub returns-in_err-count-clause-stops : goal.returns-in_err-count-clause-stops
returns-in_err-count-clause-stops g c = err_stops _ _ _ _ c.from_residual.ensures.1 (file_fails _ _ _ _ c.self.view_is c.in_err-count.ensures.cause (Keeps-refl _))

pub returns-in_err-chunk-clause-stops : goal.returns-in_err-chunk-clause-stops
returns-in_err-chunk-clause-stops g c = err_stops _ _ _ _ c.from_residual-in_err-chunk.ensures.1 (no_memory _ _ _ _ c.self.view_is refl (Keeps-refl _))
