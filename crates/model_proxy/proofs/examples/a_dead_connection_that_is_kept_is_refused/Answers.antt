use Rattle.std.proofs.Common.{◌≡◌, ℕ, zero, suc, Option, List, refl, sym, inr, lit<, arith}
use Rattle.std.proofs.lemmas.Bool.{false≢true}
use Rattle.std.specs.Str.{is_utf8, chars}
use Rattle.std.specs.Char.{encode_utf8}
use Rattle.std.specs.Fmt.{digits}
use Rattle.httparse.specs.Grammar.{trim_ows}
use Rattle.model_h1.specs.AnswerText.{year_at, month_at, date_of, appended, head_text}
use Rattle.model_h1.specs.Event as on
use Rattle.model_h1.specs.Sums as sums
use Rattle.model_h1.specs.Past.{place_behind, pulled_to}
use Rattle.model_h1.specs.Text.{step_text, text}
use Rattle.model_h1.specs.Closing.{told, closing}
use Rattle.model_h1.specs.Allowed.{is_allowed}
use Rattle.model_h1.specs.OutcomeTable.{outcome_of}
use Rattle.model_h1.specs.Laws.ExampleTraces.{usual, get_head}
use Rattle.model_proxy.specs.Past.{servers}
use Rattle.model_proxy.specs.Rests.{IsSpent, MayTurn}
use Rattle.model_proxy.specs.Laws.Histories.{whole_exchanges, stuck_history, stuck_past}
use Rattle.model_proxy.proofs.examples.a_dead_connection_that_is_kept_is_refused.Goals as goal

spent : IsSpent usual stuck_history whole_exchanges
unfolding servers
spent zero e = λ x. false≢true (sym x.3)
spent (suc k) e = let none : ⊥ = omega (arith, e) in absurd none

may : (waiting : Option (List ℕ)) → MayTurn usual stuck_past stuck_history waiting whole_exchanges
unfolding sums.taken sums.accepted sums.request sums.since_head sums.answered sums.answer_len place_behind pulled_to told closing is_allowed outcome_of sums.last_tick servers step_text text head_text date_of year_at month_at appended digits is_utf8 chars encode_utf8 trim_ows sums.written
may waiting = record { running = refl; client = lit< tt; server = inr (inr spent) }

unlike : (h : on.Outcome) → on.head get_head ≡ on.pending → ⊥
unlike h e = cc

pub returns : goal.returns
unfolding sums.taken sums.accepted sums.request sums.since_head sums.answered sums.answer_len place_behind pulled_to told closing is_allowed outcome_of sums.last_tick servers step_text text head_text date_of year_at month_at appended digits is_utf8 chars encode_utf8 trim_ows sums.written
returns c waiting rests = unlike on.pending ((rests (may waiting)).next refl)
