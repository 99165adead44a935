-- The text of a whole answer.
use Rattle.std.proofs.Common.{◌≡◌, ℕ, Bool, true, false, List, [], ◌∷◌, ◌++◌, ap, ◌∙◌, subst, append-nil}
use Rattle.std.specs.Prelude.{Option, Some, None}
use Rattle.http_bodies.specs.Giving.{Given, chunk, fault}
use Rattle.http_framing.specs.declared.body.size.BodySize.{BodySize}
use Rattle.http_types.specs.Response.{FullResponse}
use Rattle.model_h1.specs.Setting.{Setting, keeps}
use Rattle.model_h1.specs.Text.{answer_head_text}
use Rattle.h1_encoder.specs.Encoding.{encoded, encoded_all}
use Rattle.h1_encoder.specs.Meaning.{answer_of, size_of}
use Rattle.h1_codec.specs.ServerState.{codec_settings, codec_asked, codec_moment, codec_encoding, is_enabled, begun, Sent, Writes}
use Rattle.h1_codec.specs.declared.server_codec.Codec.{Codec}
use Rattle.h1_codec.specs.declared.framed_message.Message.TheVariants.{Item, Chunk}
use Rattle.h1_codec.specs.View.{View}
use Rattle.h1_codec.specs.Sends.{AreWritten, heads, pieces, filled, ends, Sends}

-- the chunks and the end
body_text : (given : List Given) (c d : Codec) (text : List ℕ) → AreWritten Writes c (pieces given ++ (Chunk None ∷ [])) text d
    → text ≡ encoded_all (codec_encoding c) (filled given)
body_text [] c d text (first, rest, mid, is, wrote, (none, same)) = is ∙ ap (λ l. first ++ l) none ∙ append-nil first ∙ wrote.1
body_text (chunk [] ∷ given) c d text written = body_text given c d text written
body_text (chunk (b ∷ bytes) ∷ given) c d text (first, rest, mid, is, wrote, more) =
    is ∙ ap (λ l. l ++ rest) wrote.0 ∙ ap (λ l. encoded (codec_encoding c) (b ∷ bytes) ++ l)
    (body_text given mid d rest more ∙ ap (λ (x : Codec). encoded_all (codec_encoding x) (filled given)) wrote.1)
body_text (fault n ∷ given) c d text written = body_text given c d text written

-- the same after the head
whole_text : (given : List Given) (c d : Codec) (answer : FullResponse Unit) (size : BodySize) (text : List ℕ) (setting : Setting)
    → AreWritten Writes c (Item (answer, size) ∷ (pieces given ++ (Chunk None ∷ []))) text d → keeps setting.keep_alive ≡ is_enabled (codec_settings c).keep_alive
    → text ≡ answer_head_text setting false (codec_asked c) (answer_of answer.head) (size_of size) (codec_moment c)
    ++ encoded_all (begun (codec_asked c) answer.head size) (filled given)
whole_text given c d answer size text setting (first, rest, mid, is, wrote, more) alive =
    is ∙ ap (λ l. l ++ rest) (wrote.0 setting alive).0
    ∙ ap (λ l. answer_head_text setting false (codec_asked c) (answer_of answer.head) (size_of size) (codec_moment c) ++ l)
    (body_text given mid d rest more ∙ ap (λ (x : Codec). encoded_all (codec_encoding x) (filled given)) wrote.1)

pub answer_text : (old new : View Codec (FullResponse Unit)) (answer : FullResponse Unit) (size : BodySize) (sends : Sends Writes old new) (setting : Setting)
    → old.head ≡ Some (answer, size) → old.is_ended ≡ false → new.is_ended ≡ true
    → keeps setting.keep_alive ≡ is_enabled (codec_settings old.codec).keep_alive
    → sends.text ≡ answer_head_text setting false (codec_asked old.codec) (answer_of answer.head) (size_of size) (codec_moment old.codec)
    ++ encoded_all (begun (codec_asked old.codec) answer.head size) (filled sends.given)
answer_text old new answer size sends setting head unended over alive =
    let items : heads old.head ++ (pieces sends.given ++ ends old.is_ended new.is_ended) ≡ Item (answer, size) ∷ (pieces sends.given ++ (Chunk None ∷ [])) =
    ap (λ (h : Option (FullResponse Unit × BodySize)). heads h ++ (pieces sends.given ++ ends old.is_ended new.is_ended)) head
    ∙ ap (λ (b : Bool). Item (answer, size) ∷ (pieces sends.given ++ ends b new.is_ended)) unended
    ∙ ap (λ (b : Bool). Item (answer, size) ∷ (pieces sends.given ++ ends false b)) over in
    whole_text sends.given old.codec new.codec answer size sends.text setting
    (subst (λ (l : List Sent). AreWritten Writes old.codec l sends.text new.codec) items sends.written) alive
