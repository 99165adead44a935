use Rattle.std.proofs.Common.{◌++◌, ◌∙◌}
use Rattle.model_ends.specs.SentAnswer.{methods_asked, answers_sent}
use Rattle.model_ends.proofs.SentAnswers.{sent_is_read, sent_alone}
use Rattle.model_ends.proofs.Traces.{trace_words, trace_sent, trace_to}
use Rattle.model_ends.proofs.response_agreement.two_ends.Goals as goal

pub returns-clause-there_are : goal.returns-clause-there_are
returns-clause-there_are c waits setting trace r further waiting x is held =
    sent_is_read waits r (methods_asked trace ++ further) (answers_sent setting trace) (is ∙ trace_words setting trace x) (trace_sent setting trace x) held
    (trace_to setting waits trace further waiting x)

pub returns-clause-no_others : goal.returns-clause-no_others
returns-clause-no_others c waits setting trace r further ms waiting x is held are =
    sent_alone waits r (methods_asked trace ++ further) (answers_sent setting trace) ms (is ∙ trace_words setting trace x) (trace_sent setting trace x) held
    (trace_to setting waits trace further waiting x) are
