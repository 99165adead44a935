use Rattle.std.proofs.Common.{refl}
use Rattle.model_h1.specs.Place.{after}
use Rattle.model_h1.specs.Reading.{read}
use Rattle.model_client.proofs.machine_examples.dropped_bodies.Goals as goal

pub returns-clause-broken : goal.returns-clause-broken
unfolding read after
returns-clause-broken c = refl

pub returns-clause-broken_is_done : goal.returns-clause-broken_is_done
unfolding read after
returns-clause-broken_is_done c = refl

pub returns-clause-broken_is_passed : goal.returns-clause-broken_is_passed
unfolding read after
returns-clause-broken_is_passed c = refl

pub returns-clause-open : goal.returns-clause-open
unfolding read after
returns-clause-open c = refl

pub returns-clause-not_pulled : goal.returns-clause-not_pulled
unfolding read after
returns-clause-not_pulled c = refl

pub returns-clause-whole : goal.returns-clause-whole
unfolding read after
returns-clause-whole c = refl

pub returns-clause-behind_whole : goal.returns-clause-behind_whole
unfolding read after
returns-clause-behind_whole c = refl
