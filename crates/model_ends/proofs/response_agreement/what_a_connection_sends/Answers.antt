use Rattle.model_ends.proofs.Traces.{trace_words, trace_sent, trace_to}
use Rattle.model_ends.proofs.response_agreement.what_a_connection_sends.Goals as goal

pub returns-clause-text : goal.returns-clause-text
returns-clause-text c = trace_words

pub returns-clause-sent : goal.returns-clause-sent
returns-clause-sent c = trace_sent

pub returns-clause-to : goal.returns-clause-to
returns-clause-to c waits setting = trace_to setting waits
