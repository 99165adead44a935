use Rattle.std.proofs.Common.{ℕ, ◌<◌, false, List, ◌∷◌, [], length, refl, sym, subst, lit≤, lit<}
use Rattle.std.specs.Prelude.{codes, IsUtf8}
use Rattle.std.specs.Fmt.{digits}
use Rattle.std.proofs.lemmas.List.Sums.{AllPass-from_list_all}
use Rattle.http_header.proofs.TokenLemmas.{IsFieldName-from_test}
use Rattle.httparse.specs.Grammar.{Field, crlf, AllPass, is_token_byte, is_uri_byte, trim_ows, print_request}
use Rattle.model_h1.specs.RequestHead.{IsTarget, IsHeadOf}
use Rattle.model_h1.specs.AnswerText.{date_of, year_at, month_at, appended}
use Rattle.model_h1.specs.Laws.ExampleTraces.{get_head}
use Rattle.model_h1.proofs.ExampleLemmas.{plain_head}
use Rattle.model_client.specs.WrittenHead.{line_of, IsCleanLine}
use Rattle.model_client.specs.RequestText.{request_text}
use Rattle.model_ends.proofs.OrdinaryHeads.{clean_line, clean_date}
use Rattle.model_ends.proofs.agreement_examples.an_ordinary_post_is_plain.Goals as goal

-- that `/` is a target is taken from a head that has it
abbrev line : Field
line = record { name = codes "host"; raw = codes " a"; end = crlf }

is_head : IsHeadOf (codes "GET / HTTP/1.1\r\nhost: a\r\n\r\n") get_head
unfolding print_request is_token_byte trim_ows
is_head = plain_head _ get_head (line ∷ []) refl
    (record { spelled = refl; target = refl; headers = refl; body = refl; connection = refl; expects = refl })

target : IsTarget (codes "/")
target = subst IsTarget (sym is_head.target_is.1) is_head.target_is.0

visible : (0 < length (codes "/")) × AllPass is_uri_byte (codes "/")
visible = subst (λ (t : List ℕ). (0 < length t) × AllPass is_uri_byte t) (sym is_head.target_is.1) is_head.reads.0.target

utf8 : IsUtf8 (codes "/")
utf8 = subst IsUtf8 (sym is_head.target_is.1) is_head.reads.0.target_text

-- its lines
clean_length : IsCleanLine false (line_of (codes "content-length") (codes "3"))
unfolding is_token_byte trim_ows
clean_length = clean_line _ refl refl refl

clean_host : IsCleanLine false (line_of (codes "host") (codes "a"))
unfolding is_token_byte trim_ows
clean_host = clean_line _ refl refl refl

token : (0 < length (codes "POST")) × AllPass is_token_byte (codes "POST")
unfolding is_token_byte
token = (lit< tt, AllPass-from_list_all is_token_byte (codes "POST") refl)

pub returns : goal.returns
unfolding date_of year_at month_at appended digits request_text
returns c = record {
  head = record {
    version = refl;
    method = (IsFieldName-from_test (codes "POST") refl).0;
    token = token;
    no_connect = refl;
    target = target;
    visible = visible;
    utf8 = utf8;
    no_upgrade = refl;
    lines = (clean_length, (clean_host, (clean_date, tt)));
  };
  fits = lit< tt;
  came = λ n e. cc;
  short = (lit< tt, (lit< tt, tt));
  few = lit≤ tt;
  held = lit≤ tt;
}
