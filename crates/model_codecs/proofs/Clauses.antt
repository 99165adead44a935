-- The clauses of the codecs in the words of the laws.
use Rattle.std.proofs.Common.{◌≡◌, ℕ, Bool, false, List, ◌++◌, sym, ap, subst}
use Rattle.std.specs.Prelude.{Option, Some, None, Result, Ok, Err, IfOk, IfErr, OnOk, OnErr}
use Rattle.http_framing.specs.declared.body.size.BodySize.{BodySize}
use Rattle.http_types.specs.RequestHeadType.{shown_head}
use Rattle.http_types.specs.declared.error.ParseError.{ParseError}
use Rattle.http_types.specs.declared.requests.head_type.RequestHeadType.{RequestHeadType}
use Rattle.h1_decoder.specs.declared.response.ResponseItem.{ResponseItem}
use Rattle.h1_decoder.specs.declared.decoder.HeadItem.{HeadItem}
use Rattle.h1_codec.specs.Kinds.{requests, answers}
use Rattle.h1_codec.specs.ServerState.{codec_standing, CodecLeft, HasLookedAt}
use Rattle.h1_codec.specs.Steps.{IsStep}
use Rattle.h1_codec.specs.declared.server_codec.Codec.{Codec}
use Rattle.h1_payload.specs.Decoding.{Decoding}
use Rattle.h1_codec.specs.ServerAnswers.{IsHead, StaysAfter}
use Rattle.h1_codec.specs.FramedMessages.{Standing}
use Rattle.h1_codec.specs.declared.framed_message.Message.{Message}
use Rattle.h1_codec.specs.declared.framed_message.Message.TheVariants.{Item, Chunk}
use Rattle.h1_codec.specs.ClientAnswers.{IsHeadStep, IsChunkStep, ChunkLeft}
use Rattle.h1_codec.specs.ClientPieces.{as_head, as_chunk}
use Rattle.h1_codec.specs.ClientState.{of_codec, of_payload, client_standing, client_is_head, HeadLooked, PayloadLooked}
use Rattle.h1_codec.specs.Writing.{Writes}
use Rattle.h1_codec.specs.declared.client_codec.ClientCodec.{ClientCodec}
use Rattle.h1_codec.specs.declared.payload.ClientPayloadCodec.{ClientPayloadCodec}
use Rattle.h1_codec.specs.declared.client_error.ClientError.{ClientError}
use Rattle.h1_codec.specs.declared.client_error.ClientError.TheVariants.{Parse, Misplaced}
use Rattle.model_codecs.specs.Acts.{HasAnswered}
use Rattle.model_codecs.specs.Answers.{IsHeadAsked, IsChunkAsked, is_head}

module _ (old new : Codec) (bytes rest : List ℕ) where
  pub item_answered : (result : Result (Option (Message HeadItem)) ParseError) → IsStep requests (codec_standing old) bytes result (codec_standing new) rest
      → IfOk result (λ answer. IsHead requests false (codec_standing old) bytes answer (codec_standing new) rest) → IfErr result (λ e. CodecLeft e old bytes new rest)
      → OnOk result (HasLookedAt old bytes → (more : List ℕ) → HasLookedAt new (rest ++ more)) → (codec_standing new).search.limit ≡ (codec_standing old).search.limit
      → HasAnswered requests false (codec_standing old) bytes result (codec_standing new) rest
  item_answered (Ok answer) step head left seen limit = record { step = step; item = head; left = tt; seen = seen; limit = limit }
  item_answered (Err e) step head left seen limit = record { step = step; item = tt; left = left.0; seen = tt; limit = limit }

-- where no body is open an error leaves all
stays_so : (body : Option Decoding) (e : ParseError) (old new : Standing) → body ≡ None → new ≡ old → StaysAfter body e old new
stays_so None e old new none same = same
stays_so (Some d) e old new none same = absurd (cc none)

module _ (old new : ClientCodec) (bytes rest : List ℕ) (item : Result (Option (Message ResponseItem)) ParseError) where
  abbrev is_bare : Bool
  is_bare = client_is_head (of_codec old)

  abbrev was : Standing
  was = client_standing (of_codec old)

  abbrev now : Standing
  now = client_standing (of_codec new)

  pub head_answered : (result : Result (Option ResponseItem) ClientError) → IsHeadAsked result item → IsHeadStep (of_codec old) bytes result (of_codec new) rest
      → IfOk result (λ answer. IsHead answers is_bare was bytes (as_head answer) now rest) → OnErr result ((new ≡ old) × (rest ≡ bytes))
      → OnOk result (HeadLooked old bytes → (more : List ℕ) → HeadLooked new (rest ++ more)) → now.search.limit ≡ was.search.limit → was.body ≡ None
      → HasAnswered answers is_bare was bytes item now rest
  head_answered (Ok answer) is step head left seen limit none =
      subst (λ (i : Result (Option (Message ResponseItem)) ParseError). HasAnswered answers is_bare was bytes i now rest) (sym is)
      (record { step = step; item = head; left = tt; seen = seen; limit = limit })
  head_answered (Err (Parse e)) is step head left seen limit none =
      subst (λ (i : Result (Option (Message ResponseItem)) ParseError). HasAnswered answers is_bare was bytes i now rest) (sym is)
      (record { step = step; item = tt; left = (left.1, stays_so was.body e was now none (ap (λ (c : ClientCodec). client_standing (of_codec c)) left.0)); seen = tt; limit = limit })
  head_answered (Err Misplaced) is step head left seen limit none = absurd is

module _ (old new : ClientPayloadCodec) (bytes rest : List ℕ) (item : Result (Option (Message ResponseItem)) ParseError) where
  abbrev bare : Bool
  bare = client_is_head (of_payload old)

  abbrev before : Standing
  before = client_standing (of_payload old)

  abbrev behind : Standing
  behind = client_standing (of_payload new)

  -- a piece of a body is no head
  no_head : (answer : Option (Option (List ℕ))) → IsHead answers bare before bytes (as_chunk answer) behind rest
  no_head None = tt
  no_head (Some piece) = tt

  pub piece_answered : (result : Result (Option (Option (List ℕ))) ClientError) → IsChunkAsked result item → IsChunkStep (of_payload old) bytes result (of_payload new) rest
      → IfErr result (λ e. ChunkLeft e (of_payload old) bytes (of_payload new) rest)
      → OnOk result (PayloadLooked old bytes → (more : List ℕ) → PayloadLooked new (rest ++ more)) → behind.search.limit ≡ before.search.limit
      → HasAnswered answers bare before bytes item behind rest
  piece_answered (Ok answer) is step left seen limit =
      subst (λ (i : Result (Option (Message ResponseItem)) ParseError). HasAnswered answers bare before bytes i behind rest) (sym is)
      (record { step = step; item = no_head answer; left = tt; seen = seen; limit = limit })
  piece_answered (Err (Parse e)) is step left seen limit =
      subst (λ (i : Result (Option (Message ResponseItem)) ParseError). HasAnswered answers bare before bytes i behind rest) (sym is)
      (record { step = step; item = tt; left = left.0; seen = tt; limit = limit })
  piece_answered (Err Misplaced) is step left seen limit = absurd is

module _ (old new : ClientCodec) (text : List ℕ) where
  abbrev Keeps : Bool → Type 0
  Keeps is_head = (client_standing (of_codec new) ≡ client_standing (of_codec old)) × (client_is_head (of_codec new) ≡ is_head)

  pub turn_begins : (head : RequestHeadType) (size : BodySize) → Writes old (Item (head, size)) text new → Keeps (is_head (shown_head head).method)
  turn_begins head size wrote = (ap client_standing wrote.leaves, ap client_is_head wrote.leaves)

  pub turn_goes_on : (piece : Option (List ℕ)) → Writes old (Chunk piece) text new → Keeps (client_is_head (of_codec old))
  turn_goes_on (Some bytes) wrote = (ap client_standing wrote.1, ap client_is_head wrote.1)
  turn_goes_on None wrote = (ap client_standing wrote.2, ap client_is_head wrote.2)
