-- Requests that a client's codec writes, and a server's codec gives.
use Rattle.std.specs.Prelude.{◌≡◌, ◌<◌, ℕ, List, [], ◌∷◌, ◌++◌, length, flat_map, Some, None}
use Rattle.std.specs.List.{AllByRecursion}
use Rattle.http_framing.specs.declared.body.size.BodySize.{BodySize}
use Rattle.http_types.specs.RequestHeadType.{shown_head}
use Rattle.http_types.specs.declared.requests.head_type.RequestHeadType.{RequestHeadType}
use Rattle.model_client.specs.RequestText.{RequestGiven}
use Rattle.model_ends.specs.SentRequest.{SentRequest}
use Rattle.h1_encoder.specs.Meaning.{size_of, model_type}
use Rattle.h1_codec.specs.Heads.{HasSeen}
use Rattle.h1_codec.specs.Kinds.{requests}
use Rattle.h1_codec.specs.FramedMessages.{Standing}
use Rattle.h1_codec.specs.declared.framed_message.Message.TheVariants.{Item, Chunk}
use Rattle.h1_codec.specs.ClientState.{of_codec, client_moment}
use Rattle.h1_codec.specs.Writing.{kind_asked, sent_head, Writes}
use Rattle.h1_codec.specs.declared.client_codec.ClientCodec.{ClientCodec}
use Rattle.model_codecs.specs.Given.{Sent}

-- a codec that has read nothing, as a new one, whose heads end within so many bytes
pub record IsFresh (standing : Standing) (limit : ℕ) : Type 0 where
  pub body : standing.body ≡ None
  pub limit_is : standing.search.limit ≡ limit
  pub seen : (bytes : List ℕ) → HasSeen standing.search bytes

-- a request as a message that was sent
abbrev pub sent_of : SentRequest → Sent requests
sent_of s = record { head = s.head; body = s.body; says = s.says; bytes = s.bytes }

-- ---- what a client's codec writes

-- a request that is put into the codec: its head, the size of its body, and the pieces of that
pub record PutRequest : Type 0 where
  pub head : RequestHeadType
  pub size : BodySize
  pub pieces : List (List ℕ)

-- the pieces of a body are written one after another, and then its end
abbrev pub ArePiecesWritten : ClientCodec → List (List ℕ) → List ℕ → ClientCodec → Type 0
ArePiecesWritten old [] text new = Writes old (Chunk None) text new
ArePiecesWritten old (piece ∷ pieces) text new =
    (next : ClientCodec) × (first others : List ℕ) × Writes old (Chunk (Some piece)) first next × ArePiecesWritten next pieces others new
    × (text ≡ first ++ others)

-- so is a whole request: its head, and then its body
abbrev pub IsPut : ClientCodec → PutRequest → List ℕ → ClientCodec → Type 0
IsPut old r text new =
    (next : ClientCodec) × (first others : List ℕ) × Writes old (Item (r.head, r.size)) first next × ArePiecesWritten next r.pieces others new
    × (text ≡ first ++ others)

-- the request as the definitions have it, at the codec's moment and by its settings
abbrev pub given_by : ClientCodec → PutRequest → RequestGiven
given_by codec r = record {
  head = sent_head r.head;
  size = size_of r.size;
  kind = model_type (kind_asked (of_codec codec) (shown_head r.head));
  moment = client_moment (of_codec codec);
  pieces = r.pieces;
}

-- no piece is empty: in chunks that would be the end
abbrev pub AreFilled : List (List ℕ) → Type 0
AreFilled pieces = AllByRecursion (λ piece. 0 < length piece) pieces

-- a request that was written: the codec before and after it, and the text
pub record WrittenRequest : Type 0 where
  pub codec : ClientCodec
  pub after : ClientCodec
  pub request : PutRequest
  pub text : List ℕ

abbrev pub IsWritten : WrittenRequest → Type 0
IsWritten w = IsPut w.codec w.request w.text w.after × AreFilled w.request.pieces

abbrev pub given_of : WrittenRequest → RequestGiven
given_of w = given_by w.codec w.request

-- all texts, one after another
abbrev pub text_of : List WrittenRequest → List ℕ
text_of ws = flat_map (λ w. w.text) ws
