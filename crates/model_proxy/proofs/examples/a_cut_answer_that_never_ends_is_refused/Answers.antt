use Rattle.std.proofs.Common.{None, refl, inl, lit<}
use Rattle.std.proofs.lemmas.Bool.{false≢true}
use Rattle.std.specs.Str.{is_utf8, chars}
use Rattle.std.specs.Char.{encode_utf8}
use Rattle.std.specs.Fmt.{digits}
use Rattle.httparse.specs.Grammar.{trim_ows}
use Rattle.model_h1.specs.AnswerText.{year_at, month_at, date_of, appended, head_text}
use Rattle.model_h1.specs.Sums as sums
use Rattle.model_h1.specs.Past.{place_behind, pulled_to}
use Rattle.model_h1.specs.Text.{step_text, text}
use Rattle.model_h1.specs.Closing.{told, closing}
use Rattle.model_h1.specs.Allowed.{is_allowed}
use Rattle.model_h1.specs.OutcomeTable.{outcome_of}
use Rattle.model_h1.specs.Laws.ExampleTraces.{usual}
use Rattle.model_proxy.specs.Past.{servers}
use Rattle.model_proxy.specs.Rests.{MayTurn}
use Rattle.model_proxy.specs.Laws.Histories.{whole_exchanges, cut_history, cut_past}
use Rattle.model_proxy.proofs.examples.a_cut_answer_that_never_ends_is_refused.Goals as goal

may : MayTurn usual cut_past cut_history None whole_exchanges
unfolding sums.taken sums.accepted sums.request sums.since_head sums.answered sums.answer_len place_behind pulled_to told closing is_allowed outcome_of sums.last_tick servers step_text text head_text date_of year_at month_at appended digits is_utf8 chars encode_utf8 trim_ows sums.written
may = record { running = refl; client = lit< tt; server = inl refl }

pub returns : goal.returns
unfolding sums.taken sums.accepted sums.request sums.since_head sums.answered sums.answer_len place_behind pulled_to told closing is_allowed outcome_of sums.last_tick servers step_text text head_text date_of year_at month_at appended digits is_utf8 chars encode_utf8 trim_ows sums.written
returns c rests = false≢true ((rests may).passing refl (lit< tt) 0 refl).0.0
