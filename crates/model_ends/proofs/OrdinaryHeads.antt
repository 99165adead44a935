-- Ordinary heads and lines are read back as they are written.
use Rattle.std.proofs.Common.{◌≡◌, ◌<◌, ◌^◌, ℕ, List, subst, [], false, true, ◌∷◌, ◌&&◌, length, refl, lit≤, lit<}
use Rattle.std.specs.Prelude.{codes}
use Rattle.std.specs.List.{list_all}
use Rattle.std.specs.Fmt.{digits}
use Rattle.std.proofs.lemmas.Bool.{and_parts, ltb-true}
use Rattle.std.proofs.lemmas.List.Sums.{AllPass-from_list_all}
use Rattle.http_header.specs.FieldName.{is_field_name}
use Rattle.http_header.proofs.TokenLemmas.{IsFieldName-from_test}
use Rattle.http_header.specs.Token.{lowercase}
use Rattle.httparse.specs.Grammar.{is_token, is_token_byte, is_value_byte, trim_ows}
use Rattle.model_h1.specs.Request.{Header, keep_alive}
use Rattle.model_h1.specs.Answer.{AnswerHead, BodySize, size_none, size_of, size_stream, Shape, shape_none, shape_chunked, shape_length}
use Rattle.model_h1.specs.AnswerText.{head_text, date_of, year_at, month_at, appended}
use Rattle.model_h1.specs.Laws.ExampleTraces.{ok, usual, get_head}
use Rattle.model_ends.specs.PlainExchange.{IsSelfFramed}
use Rattle.model_ends.specs.AgreementSamples.{no_content, not_modified, not_modified_with_length, given}
use Rattle.model_client.specs.WrittenHead.{line_of, written_lines, IsCleanLine, IsReadBack}
use Rattle.model_ends.proofs.WrittenHead.{reads_back}

-- a line in lower case is clean, where tests that compute say so
pub clean_line : (h : Header) → (is_token h.name && (is_field_name h.name && list_all is_value_byte h.value)) ≡ true → lowercase h.name ≡ h.name
    → trim_ows (32 ∷ h.value) ≡ h.value → IsCleanLine false h
clean_line h e lowers trimmed =
    let name = and_parts (is_token h.name) (is_field_name h.name && list_all is_value_byte h.value) e in
    let field = and_parts (is_field_name h.name) (list_all is_value_byte h.value) name.1 in
    let token = and_parts _ (list_all is_token_byte h.name) name.0 in
    record {
      name = (ltb-true 0 (length h.name) token.0, AllPass-from_list_all is_token_byte h.name token.1);
      field_name = IsFieldName-from_test h.name field.0;
      lowers = lowers;
      value = AllPass-from_list_all is_value_byte h.value field.1;
      trimmed = trimmed;
    }

-- the lines that frame a body, and the date of the first moment
pub clean_empty : IsCleanLine false (line_of (codes "content-length") (codes "0"))
unfolding is_token_byte trim_ows
clean_empty = clean_line _ refl refl refl

pub clean_two : IsCleanLine false (line_of (codes "content-length") (codes "2"))
unfolding is_token_byte trim_ows
clean_two = clean_line _ refl refl refl

pub clean_chunked : IsCleanLine false (line_of (codes "transfer-encoding") (codes "chunked"))
unfolding is_token_byte trim_ows
clean_chunked = clean_line _ refl refl refl

pub clean_date : IsCleanLine false (line_of (codes "date") (codes "Thu, 01 Jan 1970 00:00:00 GMT"))
unfolding is_token_byte trim_ows
clean_date = clean_line _ refl refl refl

-- a head with one such line and the date is read back
abbrev BackOf : Shape → BodySize → Type 0
BackOf shape size = IsReadBack (head_text 1 ok shape size keep_alive 0) 1 200 (codes "OK") (written_lines 1 ok shape size keep_alive 0)

pub empty_back : BackOf shape_none (size_of 0)
unfolding date_of year_at month_at appended digits
empty_back = reads_back 1 ok shape_none (size_of 0) keep_alive 0 (lit≤ tt) (lit≤ tt, lit< tt) (AllPass-from_list_all is_value_byte (codes "OK") refl) (clean_empty, (clean_date, tt))

pub two_back : BackOf (shape_length 2) (size_of 2)
unfolding date_of year_at month_at appended digits
two_back = reads_back 1 ok (shape_length 2) (size_of 2) keep_alive 0 (lit≤ tt) (lit≤ tt, lit< tt) (AllPass-from_list_all is_value_byte (codes "OK") refl) (clean_two, (clean_date, tt))

pub stream_back : BackOf shape_chunked size_stream
unfolding date_of year_at month_at appended digits
stream_back = reads_back 1 ok shape_chunked size_stream keep_alive 0 (lit≤ tt) (lit≤ tt, lit< tt) (AllPass-from_list_all is_value_byte (codes "OK") refl) (clean_chunked, (clean_date, tt))

-- a head with the date alone, of a status that needs no length, or to HEAD
abbrev BareOf : AnswerHead → List ℕ → Type 0
BareOf head reason = IsReadBack (head_text 1 head shape_none size_none keep_alive 0) 1 head.status reason (written_lines 1 head shape_none size_none keep_alive 0)

pub bare_back : BareOf ok (codes "OK")
unfolding date_of year_at month_at appended digits
bare_back = reads_back 1 ok shape_none size_none keep_alive 0 (lit≤ tt) (lit≤ tt, lit< tt) (AllPass-from_list_all is_value_byte (codes "OK") refl) (clean_date, tt)

pub no_content_back : BareOf no_content (codes "No Content")
unfolding date_of year_at month_at appended digits
no_content_back =
    reads_back 1 no_content shape_none size_none keep_alive 0 (lit≤ tt) (lit≤ tt, lit< tt) (AllPass-from_list_all is_value_byte (codes "No Content") refl) (clean_date, tt)

pub not_modified_back : BareOf not_modified (codes "Not Modified")
unfolding date_of year_at month_at appended digits
not_modified_back =
    reads_back 1 not_modified shape_none size_none keep_alive 0 (lit≤ tt) (lit≤ tt, lit< tt) (AllPass-from_list_all is_value_byte (codes "Not Modified") refl) (clean_date, tt)

clean_five : IsCleanLine false (line_of (codes "content-length") (codes "5"))
unfolding is_token_byte trim_ows
clean_five = clean_line _ refl refl refl

pub with_length_back : BareOf not_modified_with_length (codes "Not Modified")
unfolding date_of year_at month_at appended digits
with_length_back =
    reads_back 1 not_modified_with_length shape_none size_none keep_alive 0 (lit≤ tt) (lit≤ tt, lit< tt) (AllPass-from_list_all is_value_byte (codes "Not Modified") refl)
    (clean_five, (clean_date, tt))

-- an answer without a body says where it ends
pub empty_plain : IsSelfFramed usual get_head (given ok (size_of 0) [] false)
unfolding appended
empty_plain = record {
  status = lit≤ tt;
  unrefused = λ same. refl;
  shape = refl;
  size = λ e. cc;
  fits = λ n e. let same : 0 ≡ n = cc in subst (λ k. k < 2 ^ 64) same (lit< tt);
  short = tt;
  back = empty_back;
  few = lit≤ tt;
}
