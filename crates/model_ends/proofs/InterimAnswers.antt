-- The answer that lets a client go on is sent as it is said.
use Rattle.std.proofs.Common.{ℕ, Bool, true, false, cond, List, [], Some, refl, lit≤}
use Rattle.std.specs.Prelude.{bytes_eq, codes}
use Rattle.std.proofs.lemmas.List.Sums.{AllPass-from_list_all}
use Rattle.std.proofs.lemmas.List.Elements.{All-nil}
use Rattle.std.specs.Char.{is_ascii_digit}
use Rattle.httparse.specs.Grammar.{ResponseHead, IsField, crlf, is_value_byte, print_response}
use Rattle.model_h1.specs.Request.{no_body}
use Rattle.model_h1.specs.AnswerText.{interim_text}
use Rattle.model_client.specs.WrittenHead.{IsReadBack}
use Rattle.model_ends.specs.SentAnswer.{IsBodyText, IsSent, interim_sent}

abbrev interim_head : ResponseHead
interim_head = record { blank = []; minor = 1; digits = codes "100"; reason = Some (codes "Continue"); line_end = crlf; fields = []; last = crlf }

interim_back : IsReadBack interim_text 1 100 (codes "Continue") []
unfolding print_response
interim_back = record {
  head = interim_head;
  reads = (
    record {
      minor = lit≤ tt;
      digits = (refl, AllPass-from_list_all is_ascii_digit (codes "100") refl);
      reason = AllPass-from_list_all is_value_byte (codes "Continue") refl;
      fields = All-nil IsField;
    },
    refl,
  );
  blank = refl;
  minor_is = refl;
  status_is = refl;
  reason_is = refl;
  lines_are = refl;
  fields = tt;
}

-- it is sent, to a request of any method
pub interim_is_sent : (method : List ℕ) → IsSent (interim_sent method)
interim_is_sent method = record {
  back = interim_back;
  strict = refl;
  status = lit≤ tt;
  few = lit≤ tt;
  framed = refl;
  connection = refl;
  body = by_test (bytes_eq method (codes "HEAD"));
}
  where
    by_test : (t : Bool) → IsBodyText (cond t no_body no_body) [] []
    by_test true = (refl, refl)
    by_test false = (refl, refl)
