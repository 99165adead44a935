use Rattle.std.proofs.Common.{◌≤◌, [], codes, refl, arith, inl, inr, None, subst}
use Rattle.httparse.specs.Grammar.{ResponseHead, ReadsResponse, print_response, status_code}
use Rattle.httparse.proofs.GrammarLemmas.{response_unique}
use Rattle.model_h1.specs.HeadPiece.{IsHeadPiece}
use Rattle.model_h1.proofs.ExampleLemmas.{plain_piece}
use Rattle.model_client.specs.AnswerReading.{Answer, IsAnswerOf}
use Rattle.model_client.proofs.ExampleLemmas.{plain_tree, plain_grammar}
use Rattle.model_client.proofs.answer_examples.status_below_100.Goals as goal

piece : IsHeadPiece (codes "HTTP/1.1 099\r\n\r\nHTTP/1.1 204 No Content\r\n\r\n") 0 16
piece = plain_piece _ 16 refl

-- the head of the grammar
abbrev head : ResponseHead
head = plain_tree 1 (codes "099") None []

reads : ReadsResponse (codes "HTTP/1.1 099\r\n\r\n") head []
unfolding print_response
reads = ((plain_grammar head refl).0, refl)

-- its status is too low, and the second reading reads only what has no text
too_low : (a : Answer) → IsAnswerOf (codes "HTTP/1.1 099\r\n\r\n") a → ⊥
too_low a (inl x) =
    let same = (response_unique _ x.1.text head [] [] x.1.reads reads).0 in
    let low : 100 ≤ 99 = subst (λ (h : ResponseHead). 100 ≤ status_code h) same x.1.status_is.0 in
    omega arith
too_low a (inr x) = x.1 head reads

pub returns : goal.returns
returns c = (record { start = 0; end = 16; piece = piece; body_start = refl; reading = (omega arith, too_low); body = refl }, refl)
