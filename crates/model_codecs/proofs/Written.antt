-- What a client's codec writes is the text of the request.
use Rattle.std.proofs.Common.{◌≡◌, ℕ, ◌<◌, ◌==◌, false, List, [], ◌∷◌, ◌++◌, take, map, refl, ap, ap₂, ◌∙◌, append_assoc}
use Rattle.std.specs.List.{AllByRecursion}
use Rattle.std.proofs.lemmas.Bool.{cond_both}
use Rattle.h1_decoder.specs.declared.decoder.HeadItem.{HeadItem}
use Rattle.model_h1.specs.Answer.{BodySize, size_none, size_of, size_stream, Shape, shape_none, shape_length, shape_chunked, shape_raw, is_raw}
use Rattle.model_client.specs.RequestText.{IsPlainGiven, asked_shape, body_sent}
use Rattle.model_ends.specs.SentRequest.{sent_request, asked_text}
use Rattle.model_ends.proofs.GivenRequests.{each_asked}
use Rattle.h1_encoder.specs.Encoding.{Encoding, first_encoding, behind, encoded_all}
use Rattle.h1_encoder.specs.Pieces.{joined}
use Rattle.h1_encoder.proofs.BodyText.{chunks_all, length_all}
use Rattle.h1_codec.specs.Kinds.{requests}
use Rattle.h1_codec.specs.FramedMessages.{Standing}
use Rattle.h1_codec.specs.ClientState.{of_codec, client_encoding}
use Rattle.h1_codec.specs.declared.client_state.Client.{Client}
use Rattle.h1_codec.specs.declared.client_codec.ClientCodec.{ClientCodec}
use Rattle.model_codecs.specs.Acts.{Act, bytes_came, IsRun}
use Rattle.model_codecs.specs.Given.{AreGiven}
use Rattle.model_codecs.specs.Requests.{IsFresh, sent_of, ArePiecesWritten, AreFilled, WrittenRequest, IsWritten, given_of, text_of}
use Rattle.model_codecs.proofs.Requests.{requests_given}

-- the pieces, and the end
pieces_text : (old : ClientCodec) (pieces : List (List ℕ)) (text : List ℕ) (new : ClientCodec) → ArePiecesWritten old pieces text new
    → text ≡ encoded_all (client_encoding (of_codec old)) pieces
pieces_text old [] text new x = x.1
pieces_text old (piece ∷ pieces) text new (next, first, others, wrote, more, is) =
    let now : client_encoding (of_codec next) ≡ behind (client_encoding (of_codec old)) piece = ap (λ (c : Client). client_encoding c) wrote.1 in
    is ∙ ap₂ (λ (a b : List ℕ). a ++ b) wrote.0 (pieces_text next pieces others new more ∙ ap (λ (e : Encoding). encoded_all e pieces) now)

take_none : (bytes : List ℕ) → take 0 bytes ≡ []
take_none [] = refl
take_none (b ∷ bytes) = refl

-- by the shape of the body
shape_text : (shape : Shape) (pieces : List (List ℕ)) → is_raw shape ≡ false → AreFilled pieces → encoded_all (first_encoding shape) pieces ≡ body_sent shape pieces
shape_text shape_none pieces fine filled = length_all 0 pieces ∙ take_none (joined pieces)
shape_text (shape_length n) pieces fine filled = length_all n pieces
shape_text shape_chunked pieces fine filled = chunks_all pieces filled
shape_text shape_raw pieces fine filled = cc

never_raw : (size : BodySize) → is_raw (asked_shape size) ≡ false
never_raw size_none = refl
never_raw (size_of n) = cond_both (n == 0) shape_none (shape_length n) (λ (s : Shape). is_raw s ≡ false) (λ e. refl) (λ e. refl)
never_raw size_stream = refl

-- a whole request
pub request_written : (w : WrittenRequest) → IsWritten w → w.text ≡ (sent_request (given_of w)).head ++ (sent_request (given_of w)).body
request_written w ((next, first, others, wrote, pieces, is), filled) =
    let g = given_of w in
    let shape = asked_shape g.size in
    let now : client_encoding (of_codec next) ≡ first_encoding shape = ap (λ (c : Client). client_encoding c) wrote.leaves in
    let body : others ≡ body_sent shape g.pieces =
    pieces_text next w.request.pieces others w.after pieces ∙ ap (λ (e : Encoding). encoded_all e w.request.pieces) now
    ∙ shape_text shape w.request.pieces (never_raw g.size) filled in
    is ∙ ap₂ (λ (a b : List ℕ). a ++ b) wrote.text_is body

pub all_written : (ws : List WrittenRequest) → AllByRecursion IsWritten ws → text_of ws ≡ asked_text (map sent_request (map given_of ws))
all_written [] wrote = refl
all_written (w ∷ ws) wrote =
    let s = sent_request (given_of w) in
    ap₂ (λ (a b : List ℕ). a ++ b) (request_written w wrote.0) (all_written ws wrote.1)
    ∙ append_assoc s.head s.body (asked_text (map sent_request (map given_of ws)))

pub written_given : (limit : ℕ) (standing last : Standing) (ws : List WrittenRequest) (acts : List (Act HeadItem)) (more rest : List ℕ) → 0 < limit
    → IsFresh standing limit → AllByRecursion IsWritten ws → AllByRecursion (IsPlainGiven limit) (map given_of ws) → IsRun requests false standing [] acts last rest
    → bytes_came acts ++ more ≡ text_of ws → AreGiven requests false (map sent_of (map sent_request (map given_of ws))) acts more
written_given limit standing last ws acts more rest some fresh wrote plain run text =
    requests_given limit standing last (map sent_request (map given_of ws)) acts more rest some fresh (each_asked limit (map given_of ws) plain) run
    (text ∙ all_written ws wrote)
