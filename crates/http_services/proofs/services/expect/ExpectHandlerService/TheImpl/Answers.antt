use Rattle.std.proofs.Common.{rules, refl}
use Rattle.http_services.proofs.services.expect.ExpectHandlerService.TheImpl.Goals as goal

pub call-tells : goal.call-tells
call-tells g x x' x'' x3 x4 c = record {
  says = record { called = refl; answered = refl; faults = refl; ready_waits = refl; call_waits = refl };
  begins = search rules;
}
