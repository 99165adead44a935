use Rattle.std.proofs.Common.{refl}
use Rattle.serve_blocking.specs.declared.error.HandleError.TheVariants as handle_error
use Rattle.serve_blocking.specs.Acts.{GivesNone}
use Rattle.serve_blocking.proofs.Gave.{pulled_bytes, pulled_trailers, pulled_end, pulled_broken, pulled_none, lost_none}
use Rattle.serve_blocking.proofs.Results.{err_as}
use Rattle.serve_blocking.proofs.Waited.{waits_equal}
use Rattle.serve_blocking.proofs.body.Body.ask.Goals as goal

pub returns-in-Bytes-clause-gives : goal.returns-in-Bytes-clause-gives
returns-in-Bytes-clause-gives g c = pulled_bytes _ _ _ _ c.in-Bytes.is c.in_ok-bytes.ensures.pulls

pub returns-in-Trailers-clause-gives : goal.returns-in-Trailers-clause-gives
returns-in-Trailers-clause-gives g c = pulled_trailers _ _ _ _ c.in-Trailers.is c.in_ok-bytes.ensures.pulls

pub returns-in-End-clause-gives : goal.returns-in-End-clause-gives
returns-in-End-clause-gives g c = pulled_end _ _ _ c.in-End.is c.in_ok-bytes.ensures.pulls

pub returns-in-Broken-clause-none : goal.returns-in-Broken-clause-none
returns-in-Broken-clause-none g c = pulled_broken _ _ _ _ c.in-Broken.is c.in_ok-bytes.ensures.pulls

pub returns-in-Pending-clause-waits : goal.returns-in-Pending-clause-waits
returns-in-Pending-clause-waits g c = pulled_none _ _ _ c.in-Pending.is c.in_ok-bytes.ensures.pulls c.in_ok-bytes.ensures.wanted

pub returns-in_err-bytes-clause-none : goal.returns-in_err-bytes-clause-none
returns-in_err-bytes-clause-none g c =
    err_as c.from_residual.result handle_error.NoMemory (λ e. GivesNone e c.args.self.now c.pull.new.self) c.from_residual.ensures.1
    (lost_none handle_error.NoMemory _ _ refl (waits_equal _ _ c.in_err-bytes.ensures.err))
