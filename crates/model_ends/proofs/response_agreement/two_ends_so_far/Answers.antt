use Rattle.std.proofs.Common.{◌∙◌, sym, refl, subst}
use Rattle.model_ends.specs.SentAnswer.{AreTo, answers_sent}
use Rattle.model_ends.proofs.BegunAnswers.{begun_read}
use Rattle.model_ends.proofs.Traces.{trace_words, trace_sent, trace_to}
use Rattle.model_ends.proofs.response_agreement.two_ends_so_far.Goals as goal

pub returns : goal.returns
returns c waits setting trace r more asked unasked further ms waiting x is methods held are =
    begun_read r.ended r.hold_size waits r more asked unasked ms (answers_sent setting trace) refl refl (is ∙ trace_words setting trace x) (trace_sent setting trace x) held
    (subst (λ l. AreTo waits l (answers_sent setting trace)) (sym methods) (trace_to setting waits trace further waiting x)) are
