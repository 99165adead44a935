use Rattle.std.proofs.lemmas.Bool.{false≢true}
use Rattle.httparse.specs.Grammar.{trim_ows}
use Rattle.model_h1.specs.Sums as sums
use Rattle.model_h1.specs.Past.{place_behind, pulled_to}
use Rattle.model_h1.specs.Closing.{told, closing}
use Rattle.model_proxy.proofs.FaultyRequests.{unforwardable_forwards}
use Rattle.model_proxy.proofs.examples.a_request_that_cannot_be_sent_on_gives_501.Goals as goal

pub returns-clause-forwards : goal.returns-clause-forwards
returns-clause-forwards c = unforwardable_forwards

-- it closes, so that no turn is taken
pub returns-clause-rests : goal.returns-clause-rests
unfolding sums.taken sums.accepted sums.request sums.since_head sums.answered sums.answer_len place_behind pulled_to told closing sums.last_tick trim_ows
returns-clause-rests c may = absurd (false≢true may.running)
