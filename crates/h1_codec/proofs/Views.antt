-- What is promised of what both codecs keep is promised of each of them.
use Rattle.std.proofs.Common.{◌≡◌, ℕ, List}
use Rattle.std.specs.Prelude.{Option, Some, None, Result, Ok, Err, IfOk, IfErr, OnErr}
use Rattle.http_framing.specs.AnyPieces.{GoesOn, in_front}
use Rattle.http_types.specs.declared.error.ParseError.TheVariants as errors
use Rattle.h1_decoder.specs.declared.response.ResponseItem.{ResponseItem}
use Rattle.h1_codec.specs.ClientAnswers.{head_given, chunk_given}
use Rattle.h1_codec.specs.ClientState.{of_codec, of_payload, ClientReads, HeadReads, PayloadReads}
use Rattle.h1_codec.specs.declared.client_codec.ClientCodec.{ClientCodec}
use Rattle.h1_codec.specs.declared.payload.ClientPayloadCodec.{ClientPayloadCodec}
use Rattle.h1_codec.specs.declared.client_error.ClientError.{ClientError}
use Rattle.h1_codec.specs.declared.client_error.ClientError.TheVariants.{Parse}

module _ (old new : ClientCodec) (bytes rest : List ℕ) where
  pub head_goes_on : (result : Result (Option ResponseItem) ClientError)
      → IfOk result (λ a. GoesOn ClientReads head_given (of_codec old) bytes (in_front ClientReads head_given a) (of_codec new) rest)
      → IfOk result (λ a. GoesOn HeadReads head_given old bytes (in_front HeadReads head_given a) new rest)
  head_goes_on (Ok (Some item)) x = x
  head_goes_on (Ok None) x = x
  head_goes_on (Err e) x = x

  pub head_left : (result : Result (Option ResponseItem) ClientError) → OnErr result ((of_codec new ≡ of_codec old) × (rest ≡ bytes))
      → OnErr result ((new ≡ old) × (rest ≡ bytes))
  head_left (Ok a) x = tt
  head_left (Err e) x = (λ i. record { client = x.0 i }, x.1)

module _ (old new : ClientPayloadCodec) (bytes rest : List ℕ) where
  pub chunk_goes_on : (result : Result (Option (Option (List ℕ))) ClientError)
      → IfOk result (λ a. GoesOn ClientReads chunk_given (of_payload old) bytes (in_front ClientReads chunk_given a) (of_payload new) rest)
      → IfOk result (λ a. GoesOn PayloadReads chunk_given old bytes (in_front PayloadReads chunk_given a) new rest)
  chunk_goes_on (Ok (Some piece)) x = x
  chunk_goes_on (Ok None) x = x
  chunk_goes_on (Err e) x = x

  pub chunk_lacking : (result : Result (Option (Option (List ℕ))) ClientError)
      → IfErr result (λ e. e ≡ Parse errors.NoMemory → (of_payload new ≡ of_payload old) × (rest ≡ bytes))
      → IfErr result (λ e. e ≡ Parse errors.NoMemory → (new ≡ old) × (rest ≡ bytes))
  chunk_lacking (Ok a) x = tt
  chunk_lacking (Err e) x = λ is. let same = x is in (λ i. record { client = same.0 i }, same.1)
