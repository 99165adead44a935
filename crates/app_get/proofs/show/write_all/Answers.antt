use Rattle.std.proofs.Common.{[], ℕ, refl, subst, ◌∙◌}
use Rattle.std.proofs.KnownBytes.{Appends-nil, Appends-kept}
use Rattle.std.proofs.lemmas.List.{take_rest}
use Rattle.http_config.specs.Causes.{Rose}
use Rattle.app_get.proofs.Steps.{written_more}
use Rattle.app_get.proofs.show.write_all.Goals as goal

pub loop-rest-init : goal.loop-rest-init
loop-rest-init g c = record { written = ([], refl, Appends-nil _); unfailed = refl }

pub loop-rest-preserved : goal.loop-rest-preserved
loop-rest-preserved g c = record {
  written = let more = written_more _ _ _ _ _ _ c.loop-rest.invariant.written c.in-Ok.ensures.bytes in simp take_rest more;
  unfailed = c.in-Ok.ensures.fault ∙ c.loop-rest.invariant.unfailed;
}

pub returns-in-Err-clause-part : goal.returns-in-Err-clause-part
returns-in-Err-clause-part g c = record {
  part = c.loop-rest.invariant.written.0;
  rest = c.loop-rest.rest.now;
  all = c.loop-rest.invariant.written.1;
  grew = Appends-kept _ _ _ _ c.loop-rest.invariant.written.2 c.in-Err.ensures.bytes;
}

pub returns-in-Err-clause-cause : goal.returns-in-Err-clause-cause
returns-in-Err-clause-cause g c =
    (refl, subst (λ (n : ℕ). Rose n (g.O.Sink.faults c.write.new.self)) c.loop-rest.invariant.unfailed c.in-Err.ensures.cause.failed)
