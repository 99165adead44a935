-- A server's codec gives what was asked.
use Rattle.std.proofs.Common.{◌≡◌, ℕ, ◌<◌, ◌≤◌, zero, suc, false, List, [], ◌∷◌, ◌++◌, length, map, refl, sym, ap, ◌∙◌, subst, arith, append-nil}
use Rattle.std.specs.List.{AllByRecursion}
use Rattle.std.proofs.lemmas.List.{length-map}
use Rattle.httparse.specs.Grammar.{print_request, print_blank}
use Rattle.h1_decoder.specs.declared.decoder.HeadItem.{HeadItem}
use Rattle.model_h1.specs.HeadPiece.{IsHeadPiece, header_lines}
use Rattle.model_h1.specs.RequestHead.{header_of}
use Rattle.model_h1.proofs.LineFeeds.{feeds, feeds-head}
use Rattle.model_ends.specs.SentRequest.{SentRequest, IsAsked, asked_text}
use Rattle.model_ends.proofs.HeadText.{request_is_piece}
use Rattle.h1_codec.specs.Kinds.{requests}
use Rattle.h1_codec.specs.OneReading.{one_request}
use Rattle.h1_codec.specs.FramedMessages.{Standing}
use Rattle.model_codecs.specs.Acts.{Act, bytes_came, IsRun}
use Rattle.model_codecs.specs.Given.{texts, AreGiven}
use Rattle.model_codecs.specs.Requests.{IsFresh, sent_of}
use Rattle.model_codecs.proofs.Heads.{IsHeadSent}
use Rattle.model_codecs.proofs.Runs.{between, AreGood, heads_given, run_gives}
use Rattle.model_codecs.proofs.Ends.{given_all}

module _ (limit : ℕ) (s : SentRequest) (sent : IsAsked limit s) where
  text_is : s.head ≡ print_request sent.back.text
  text_is = sent.back.reads.1 ∙ append-nil (print_request sent.back.text)

  few_lines : header_lines s.head ≤ 96
  few_lines =
      let h = sent.back.text in
      omega (
        arith,
        ap header_lines text_is,
        feeds-head h sent.back.reads.0,
        ap (λ b. feeds (print_blank b)) sent.blank,
        ap length sent.back.headers_are,
        length-map h.fields header_of,
        sent.few,
      )

  pub head_sent : IsHeadSent requests limit (sent_of s)
  head_sent = record {
    piece = λ more. subst (λ (t : List ℕ). IsHeadPiece (t ++ more) 0 (length t)) (sym text_is)
        (request_is_piece sent.back.text more sent.back.reads.0 sent.blank);
    fits = sent.fits;
    reads = (few_lines, sent.back);
  }

same_texts : (ss : List SentRequest) → texts requests (map sent_of ss) ≡ asked_text ss
same_texts [] = refl
same_texts (s ∷ ss) = ap (λ (l : List ℕ). s.head ++ (s.body ++ l)) (same_texts ss)

-- as many heads as one likes
good_more : (limit : ℕ) (some : 0 < limit) (n : ℕ) (ss : List SentRequest) → AllByRecursion (IsAsked limit) ss
    → AreGood requests one_request false limit some n (map sent_of ss)
good_more limit some n [] sent = tt
good_more limit some zero (s ∷ ss) sent = (head_sent limit s sent.0, good_more limit some zero ss sent.1)
good_more limit some (suc n) (s ∷ ss) sent = (head_sent limit s sent.0, sent.0.body, good_more limit some n ss sent.1)

pub requests_given : (limit : ℕ) (standing last : Standing) (ss : List SentRequest) (acts : List (Act HeadItem)) (more rest : List ℕ) → 0 < limit
    → IsFresh standing limit → AllByRecursion (IsAsked limit) ss → IsRun requests false standing [] acts last rest → bytes_came acts ++ more ≡ asked_text ss
    → AreGiven requests false (map sent_of ss) acts more
requests_given limit standing last ss acts more rest some fresh sent run text =
    let n = heads_given requests one_request false limit some acts in
    given_all requests one_request false limit some (map sent_of ss) acts more last rest
    (run_gives requests one_request false limit some acts n (between (map sent_of ss)) standing [] more last rest (omega arith) (good_more limit some n ss sent)
    (fresh.body, fresh.limit_is, fresh.seen, text ∙ sym (same_texts ss)) run)
