use Rattle.std.proofs.Common.{◌+◌, sym, subst}
use Rattle.model_h1.specs.Place.{Place}
use Rattle.model_h1.proofs.ReadSteps.{has_next}
use Rattle.h1_payload.specs.Passing.{LeadsTo}
use Rattle.h1_payload.specs.Places.{place_of}
use Rattle.h1_payload.proofs.PassLemmas.{one_leads}
use Rattle.h1_payload.proofs.pass.pass_between.Goals as goal

pub returns : goal.returns
returns c =
    let p = place_of c.args.place in
    subst (λ (q : Place). LeadsTo p c.args.bytes.now c.args.at (c.args.at + 1) q)
    (sym c.step.ensures)
    (one_leads p c.args.bytes.now c.args.at c.requires.there (has_next p c.requires.on))
