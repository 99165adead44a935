-- A whole exchange between a client and a server is one of both, and plain.
use Rattle.std.proofs.Common.{◌≡◌, ℕ, ◌<◌, ◌≤◌, ◌^◌, true, false, List, [], ◌∷◌, length, None, refl, sym, subst, inl, lit<, lit≤}
use Rattle.std.specs.Prelude.{codes, IsUtf8}
use Rattle.std.specs.Fmt.{digits}
use Rattle.std.proofs.lemmas.List.Sums.{AllPass-from_list_all}
use Rattle.http_header.proofs.TokenLemmas.{IsFieldName-from_test}
use Rattle.httparse.specs.Grammar.{Field, crlf, AllPass, is_token_byte, is_uri_byte, trim_ows, print_request}
use Rattle.model_h1.specs.Answer.{size_none, size_of}
use Rattle.model_h1.specs.AnswerText.{date_of, year_at, month_at, appended, head_text}
use Rattle.model_h1.specs.HeadPiece.{IsHeadPiece}
use Rattle.model_h1.specs.RequestHead.{IsTarget, IsHeadOf}
use Rattle.model_h1.specs.Parse.{IsParse}
use Rattle.model_h1.specs.Sums.{taken, written, accepted, last_tick, first_tick, request, since_head, answered, answer_len}
use Rattle.model_h1.specs.Past.{place_behind, pulled_to}
use Rattle.model_h1.specs.Text.{step_text, text}
use Rattle.model_h1.specs.Closing.{told, closing}
use Rattle.model_h1.specs.Allowed.{is_allowed}
use Rattle.model_h1.specs.OutcomeTable.{outcome_of}
use Rattle.model_h1.specs.Trace.{IsTrace}
use Rattle.model_h1.specs.Laws.Exchanges.{exchanges, changed_by}
use Rattle.model_h1.specs.Laws.ExampleTraces.{usual, ok as ok_head}
use Rattle.model_h1.proofs.ExampleLemmas.{plain_piece, nothing_behind, plain_head}
use Rattle.model_h1.proofs.ExampleSteps.{happens}
use Rattle.model_h1.proofs.PastLemmas.{Legal}
use Rattle.model_client.specs.AnswerReading.{IsTextOf, answer_is}
use Rattle.model_client.specs.RequestText.{request_text}
use Rattle.model_client.specs.WrittenHead.{line_of, IsCleanLine}
use Rattle.model_client.specs.ClientEvent as on
use Rattle.model_client.specs.ClientKept.{fresh_client, waiting_of}
use Rattle.model_client.specs.ClientStep.{IsClientStep, doing, asking, reading, behind_head}
use Rattle.model_client.specs.ClientTrace.{IsClientTrace}
use Rattle.model_ends.proofs.OrdinaryHeads.{clean_line, clean_date, empty_back}
use Rattle.model_ends.specs.PlainExchange.{IsSelfFramed}
use Rattle.model_ends.specs.AgreementSamples.{given}
use Rattle.model_ends.specs.AskedTrace.{requests_asked, IsPlainAsked, newly_asked}
use Rattle.model_ends.specs.Connected.{AreConnected, ArePlain}
use Rattle.model_ends.specs.ReadOut.{bytes_taken}
use Rattle.model_ends.specs.TwoEndsSamples.{get_asked, get_text, get_head, get_read, answer_text, answer_read, served_past, get_served, kept_asked, kept_written, kept_read, kept_answered, get_happened}

-- ---- the server

abbrev host_line : Field
host_line = record { name = codes "host"; raw = codes " a"; end = crlf }

abbrev date_line : Field
date_line = record { name = codes "date"; raw = codes " Thu, 01 Jan 1970 00:00:00 GMT"; end = crlf }

get_is_head : IsHeadOf get_text get_head
unfolding print_request is_token_byte trim_ows
get_is_head = plain_head _ get_head (host_line ∷ date_line ∷ []) refl
    (record { spelled = refl; target = refl; headers = refl; body = refl; connection = refl; expects = refl })

get_parsed : IsParse (record { bytes = get_text; upgraded = None; ended = false; hold_size = 131072 }) (get_read ∷ [])
get_parsed = (
  record {
    start = 0;
    end = 64;
    piece = plain_piece get_text 64 refl;
    body_start = refl;
    reading = inl (lit≤ tt, (lit≤ tt, get_is_head));
    body = refl;
  },
  nothing_behind,
)

served_legal : Legal usual served_past
unfolding taken accepted request since_head answered answer_len place_behind pulled_to told closing is_allowed outcome_of last_tick first_tick written step_text text head_text date_of year_at month_at appended digits
served_legal = (get_parsed, refl, refl, (get_parsed, refl, refl, (get_parsed, refl, refl, (get_parsed, refl, refl, (nothing_behind, refl, refl, tt)))))

pub served_trace : IsTrace usual get_served
served_trace = (happens usual served_past served_legal).trace

-- ---- the client

asked_step : IsClientStep usual fresh_client (on.ask get_asked size_none) on.done kept_asked
asked_step = record { change = doing (asking get_asked size_none fresh_client); coming = false; changes = refl; answers = refl; comes = nothing_behind; keeps = refl }

written_step : IsClientStep usual kept_asked (on.write 64) (on.gave get_text) kept_written
unfolding request_text date_of year_at month_at appended digits
written_step = record {
  change = record { outcome = on.gave get_text; kept = kept_written };
  coming = false;
  changes = refl;
  answers = refl;
  comes = nothing_behind;
  keeps = refl;
}

answer_piece : IsHeadPiece answer_text 0 75
answer_piece = plain_piece answer_text 75 refl

read_step : IsClientStep usual kept_written (on.read answer_text) (on.took 75) kept_read
read_step = record {
  change = reading usual answer_text kept_written;
  coming = true;
  changes = refl;
  answers = refl;
  comes = (0, 75, answer_piece);
  keeps = refl;
}

answer_is_read : IsTextOf answer_text answer_read
unfolding head_text date_of year_at month_at appended digits trim_ows
answer_is_read = record {
  text = empty_back.head;
  reads = empty_back.reads;
  minor_is = sym empty_back.minor_is;
  status_is = (subst (λ (n : ℕ). 100 ≤ n) (sym empty_back.status_is) (lit≤ tt), sym empty_back.status_is);
  reason_is = sym empty_back.reason_is;
  fields = empty_back.fields;
  headers_are = sym empty_back.lines_are;
  body_is = refl;
  connection_is = refl;
}

next_step : IsClientStep usual kept_read on.next (on.answer answer_read) kept_answered
next_step = record {
  change = behind_head kept_read 75 (waiting_of get_asked) [] (answer_is answer_read);
  coming = false;
  changes = (0, 75, answer_is answer_read, answer_piece, inl (lit≤ tt, (lit≤ tt, inl (refl, answer_is_read))), refl);
  answers = refl;
  comes = nothing_behind;
  keeps = refl;
}

pub client_trace : IsClientTrace usual get_happened kept_answered
unfolding request_text date_of year_at month_at appended digits
client_trace = (kept_read, (kept_written, (kept_asked, (fresh_client, refl, refl, asked_step), refl, written_step), refl, read_step), refl, next_step)

pub both_connected : AreConnected usual usual get_happened kept_answered get_served
unfolding taken written bytes_taken
both_connected = record { client_ran = client_trace; server_ran = served_trace; to_server = ([], refl); to_client = ([], refl) }

-- ---- both are plain

target : IsTarget (codes "/")
target = subst IsTarget (sym get_is_head.target_is.1) get_is_head.target_is.0

visible : (0 < length (codes "/")) × AllPass is_uri_byte (codes "/")
visible = subst (λ (t : List ℕ). (0 < length t) × AllPass is_uri_byte t) (sym get_is_head.target_is.1) get_is_head.reads.0.target

utf8 : IsUtf8 (codes "/")
utf8 = subst IsUtf8 (sym get_is_head.target_is.1) get_is_head.reads.0.target_text

clean_host : IsCleanLine false (line_of (codes "host") (codes "a"))
unfolding is_token_byte trim_ows
clean_host = clean_line _ refl refl refl

token : (0 < length (codes "GET")) × AllPass is_token_byte (codes "GET")
unfolding is_token_byte
token = (lit< tt, AllPass-from_list_all is_token_byte (codes "GET") refl)

request_plain : IsPlainAsked 131072 (newly_asked get_asked size_none 0)
unfolding date_of year_at month_at appended digits request_text
request_plain = record {
  head = record {
    version = refl;
    method = (IsFieldName-from_test (codes "GET") refl).0;
    token = token;
    no_connect = refl;
    target = target;
    visible = visible;
    utf8 = utf8;
    no_upgrade = refl;
    lines = (clean_host, (clean_date, tt));
  };
  fits = tt;
  within = λ n e. cc;
  short = tt;
  few = lit≤ tt;
  held = lit≤ tt;
}

answer_plain : IsSelfFramed usual get_head (given ok_head (size_of 0) [] false)
unfolding appended
answer_plain = record {
  status = lit≤ tt;
  unrefused = λ same. refl;
  shape = refl;
  size = λ e. cc;
  fits = λ n e. let same : 0 ≡ n = cc in subst (λ (k : ℕ). k < 2 ^ 64) same (lit< tt);
  short = tt;
  back = empty_back;
  few = lit≤ tt;
}

pub both_plain : ArePlain usual usual get_happened get_served
unfolding requests_asked exchanges changed_by last_tick head_text date_of year_at month_at appended digits
both_plain = record {
  client_holds = lit< tt;
  server_holds = lit< tt;
  requests = (request_plain, tt);
  answers = (record { version = lit≤ tt; reply = answer_plain }, tt);
  in_time = (λ e. cc, (λ e. cc, (λ e. cc, (λ e. cc, (λ e. cc, tt)))));
  held = (lit≤ tt, tt);
}
