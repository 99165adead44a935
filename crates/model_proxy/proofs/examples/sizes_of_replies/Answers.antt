use Rattle.std.proofs.Common.{refl}
use Rattle.httparse.specs.Grammar.{trim_ows}
use Rattle.model_proxy.proofs.examples.sizes_of_replies.Goals as goal

pub returns-clause-head : goal.returns-clause-head
unfolding trim_ows
returns-clause-head c = refl

pub returns-clause-head_beside_chunks : goal.returns-clause-head_beside_chunks
unfolding trim_ows
returns-clause-head_beside_chunks c = refl

pub returns-clause-head_of_a_stream : goal.returns-clause-head_of_a_stream
unfolding trim_ows
returns-clause-head_of_a_stream c = refl

pub returns-clause-chunks : goal.returns-clause-chunks
unfolding trim_ows
returns-clause-chunks c = refl

pub returns-clause-no_content : goal.returns-clause-no_content
unfolding trim_ows
returns-clause-no_content c = refl

pub returns-clause-not_modified : goal.returns-clause-not_modified
unfolding trim_ows
returns-clause-not_modified c = refl

pub returns-clause-empty : goal.returns-clause-empty
unfolding trim_ows
returns-clause-empty c = refl
