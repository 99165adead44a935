-- The past of each history is that of a trace.
use Rattle.std.proofs.Common.{false, refl}
use Rattle.std.specs.Str.{is_utf8, chars}
use Rattle.std.specs.Char.{encode_utf8}
use Rattle.std.specs.Fmt.{digits}
use Rattle.httparse.specs.Grammar.{trim_ows}
use Rattle.model_h1.specs.AnswerText.{year_at, month_at, date_of, appended, head_text}
use Rattle.model_h1.specs.Sums.{taken, written, accepted, last_tick, first_tick, request, since_head, answered, answer_len}
use Rattle.model_h1.specs.Past.{place_behind, pulled_to}
use Rattle.model_h1.specs.Text.{step_text, text}
use Rattle.model_h1.specs.Closing.{told, closing}
use Rattle.model_h1.specs.Allowed.{is_allowed}
use Rattle.model_h1.specs.OutcomeTable.{outcome_of, run_left}
use Rattle.model_h1.specs.Laws.ExampleTraces.{usual}
use Rattle.model_h1.proofs.PastLemmas.{Legal}
use Rattle.model_h1.proofs.ExampleLemmas.{nothing_behind}
use Rattle.model_h1.proofs.ExampleParses.{get_parsed, close_parsed, socket_parsed, broken_parsed}
use Rattle.model_proxy.specs.Laws.Histories.{refused_past, whole_past, hostless_past, unforwardable_past, broken_past}

pub refused_legal : Legal usual refused_past
unfolding taken accepted request since_head answered answer_len place_behind pulled_to told closing is_allowed outcome_of last_tick first_tick written step_text text head_text date_of year_at month_at appended digits
refused_legal = (
  get_parsed false,
  refl,
  refl,
  (
    get_parsed false,
    refl,
    refl,
    (
      get_parsed false,
      refl,
      refl,
      (get_parsed false, refl, refl, (get_parsed false, refl, refl, (nothing_behind, refl, refl, tt))),
    ),
  ),
)

pub whole_legal : Legal usual whole_past
unfolding taken accepted request since_head answered answer_len place_behind pulled_to told closing is_allowed outcome_of last_tick first_tick written step_text text head_text date_of year_at month_at appended digits is_utf8 chars encode_utf8 trim_ows
whole_legal = (
  get_parsed false,
  refl,
  refl,
  (
    get_parsed false,
    refl,
    refl,
    (
      get_parsed false,
      refl,
      refl,
      (
        get_parsed false,
        refl,
        refl,
        (
          get_parsed false,
          refl,
          refl,
          (get_parsed false, refl, refl, (get_parsed false, refl, refl, (nothing_behind, refl, refl, tt))),
        ),
      ),
    ),
  ),
)

pub hostless_legal : Legal usual hostless_past
unfolding taken accepted request since_head answered answer_len place_behind pulled_to told closing is_allowed outcome_of last_tick first_tick written step_text text head_text date_of year_at month_at appended digits trim_ows
hostless_legal = (
  close_parsed,
  refl,
  refl,
  (
    close_parsed,
    refl,
    refl,
    (
      close_parsed,
      refl,
      refl,
      (close_parsed, refl, refl, (nothing_behind, refl, refl, tt)),
    ),
  ),
)

pub unforwardable_legal : Legal usual unforwardable_past
unfolding taken accepted request since_head answered answer_len place_behind pulled_to told closing is_allowed outcome_of last_tick first_tick written step_text text head_text date_of year_at month_at appended digits trim_ows
unforwardable_legal = (
  socket_parsed,
  refl,
  refl,
  (
    socket_parsed,
    refl,
    refl,
    (
      socket_parsed,
      refl,
      refl,
      (
        socket_parsed,
        refl,
        refl,
        (socket_parsed, refl, refl, (nothing_behind, refl, refl, tt)),
      ),
    ),
  ),
)

pub broken_legal : Legal usual broken_past
unfolding taken accepted request since_head answered answer_len place_behind pulled_to told closing is_allowed outcome_of run_left last_tick first_tick written step_text text head_text date_of year_at month_at appended digits trim_ows
broken_legal = (
  broken_parsed,
  refl,
  refl,
  (
    broken_parsed,
    refl,
    refl,
    (
      broken_parsed,
      refl,
      refl,
      (
        broken_parsed,
        refl,
        refl,
        (broken_parsed, refl, refl, (nothing_behind, refl, refl, tt)),
      ),
    ),
  ),
)
