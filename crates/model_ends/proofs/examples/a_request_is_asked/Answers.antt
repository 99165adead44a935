use Rattle.std.proofs.Common.{refl}
use Rattle.model_ends.specs.AskedTrace.{requests_asked}
use Rattle.model_ends.proofs.examples.a_request_is_asked.Goals as goal

pub returns-clause-begun : goal.returns-clause-begun
unfolding requests_asked
returns-clause-begun c = refl

pub returns-clause-begun_bytes : goal.returns-clause-begun_bytes
unfolding requests_asked
returns-clause-begun_bytes c = refl

pub returns-clause-whole : goal.returns-clause-whole
unfolding requests_asked
returns-clause-whole c = refl

pub returns-clause-whole_bytes : goal.returns-clause-whole_bytes
unfolding requests_asked
returns-clause-whole_bytes c = refl
