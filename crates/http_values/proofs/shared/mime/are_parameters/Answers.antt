use Rattle.std.proofs.Common.{[], ◌∷◌, refl}
use Rattle.http_values.proofs.MimeLemmas.{no_parameter, parameter_short, parameters_behind, empty_is}
use Rattle.http_values.proofs.shared.mime.are_parameters.Goals as goal

pub returns-in_default : goal.returns-in_default
returns-in_default c = (
  λ bad. absurd (cc (bad)),
  λ h. absurd (no_parameter c.loop-rest.rest.now c.loop-rest-test.ensures c.in_default.ensures (c.loop-rest.invariant.1 h.0 h.1)),
)

pub loop-rest-smaller : goal.loop-rest-smaller
loop-rest-smaller c =
    parameter_short c.loop-rest.rest.now c.in-Some.field-0-0.now c.in-Some.field-0-1.now c.in-Some.behind.now c.in-Some.ensures

pub loop-rest-preserved : goal.loop-rest-preserved
loop-rest-preserved c = (
  λ qs h. c.loop-rest.invariant.0 ((c.in-Some.field-0-0.now, c.in-Some.field-0-1.now) ∷ qs) (c.in-Some.behind.now, c.in-Some.ensures, h),
  λ ps h.
      let left = c.loop-rest.invariant.1 ps h in
      parameters_behind c.loop-rest.rest.now c.in-Some.field-0-0.now c.in-Some.field-0-1.now c.in-Some.behind.now left.0 c.in-Some.ensures left.1,
)

pub returns : goal.returns
returns c = (λ _. c.loop-rest.invariant.0 [] (empty_is c.loop-rest.rest.now c.loop-rest-test.ensures), λ _. refl)
