-- What the decoders of a client answer.
use Rattle.std.specs.Prelude.{◌≡◌, ◌↔◌, ⊤, ℕ, List, ◌++◌, Option, Some, None, IsSome, Result, Ok, Err, IfOk, IfErr, OnOk, OnErr}
use Rattle.http_framing.specs.AnyPieces.{GoesOn, OnlySays, in_front}
use Rattle.http_types.specs.Flags.{type_of_flags}
use Rattle.http_types.specs.declared.error.ParseError.TheVariants as errors
use Rattle.h1_decoder.specs.declared.response.ResponseItem.{ResponseItem}
use Rattle.h1_codec.specs.Kinds.{answers}
use Rattle.h1_codec.specs.ServerAnswers.{HasBytes, HasEnded, IsHead, IsCauseAt, HasTrailers, LeftAfter}
use Rattle.h1_codec.specs.FramedMessages.{Messages, given, nothing}
use Rattle.h1_codec.specs.Steps.{IsStep}
use Rattle.h1_codec.specs.declared.framed_message.Message.TheVariants.{Item, Chunk}
use Rattle.h1_codec.specs.ClientPieces.{as_chunk, as_head}
use Rattle.h1_codec.specs.ClientState.{ClientReads, ClientLooked, ClientBreaks, answered, passes_on, client_standing, client_trailers, client_connection, client_passes_on, client_asking}
use Rattle.h1_codec.specs.declared.client_state.Client.{Client}
use Rattle.h1_codec.specs.declared.client_error.ClientError.{ClientError}
use Rattle.h1_codec.specs.declared.client_error.ClientError.TheVariants.{Parse, Misplaced}

-- a head in front of what is said
abbrev pub head_given : ResponseItem → Messages ResponseItem → Messages ResponseItem
head_given item all = given (Item item) all

-- bytes of a body, or its end, in front of what is said
abbrev pub chunk_given : Option (List ℕ) → Messages ResponseItem → Messages ResponseItem
chunk_given piece all = given (Chunk piece) all

-- where no body is open, the error names why the next head is refused
abbrev pub ClientCause : Client → List ℕ → ClientError → Type 0
ClientCause c bytes (Parse e) = IsCauseAt answers (client_standing c) bytes e
ClientCause c bytes Misplaced = ⊤

-- what becomes of the connection is what the head says of it
abbrev pub HasNoted : Client → Option ResponseItem → Client → Type 0
HasNoted old (Some item) new =
    (client_connection new ≡ answered (type_of_flags item.head.flags) (client_connection old)) × (client_passes_on new ≡ passes_on item.head)
HasNoted old None new = (client_connection new ≡ client_connection old) × (client_passes_on new ≡ client_passes_on old)

-- step by step: while no body is open, and while one is; that the other codec reads what comes next is no step
abbrev pub IsHeadStep : Client → List ℕ → Result (Option ResponseItem) ClientError → Client → List ℕ → Type 0
IsHeadStep old bytes (Ok answer) new rest = IsStep answers (client_standing old) bytes (Ok (as_head answer)) (client_standing new) rest
IsHeadStep old bytes (Err (Parse e)) new rest = IsStep answers (client_standing old) bytes (Err e) (client_standing new) rest
IsHeadStep old bytes (Err Misplaced) new rest = ⊤

abbrev pub IsChunkStep : Client → List ℕ → Result (Option (Option (List ℕ))) ClientError → Client → List ℕ → Type 0
IsChunkStep old bytes (Ok answer) new rest = IsStep answers (client_standing old) bytes (Ok (as_chunk answer)) (client_standing new) rest
IsChunkStep old bytes (Err (Parse e)) new rest = IsStep answers (client_standing old) bytes (Err e) (client_standing new) rest
IsChunkStep old bytes (Err Misplaced) new rest = ⊤

-- what is promised of a head
pub record IsHeaded (old : Client) (bytes : List ℕ) (result : Result (Option ResponseItem) ClientError) (new : Client) (rest : List ℕ) : Type 0 where
  pub goes_on : IfOk result (λ answer. GoesOn ClientReads head_given old bytes (in_front ClientReads head_given answer) new rest)
  pub waiting : result ≡ Ok None → ClientLooked old bytes → OnlySays ClientReads old bytes (λ (said : Messages ResponseItem). said ≡ nothing)
  pub refused : IfErr result (λ e. ¬ (e ≡ Parse errors.NoMemory) → ClientLooked old bytes → OnlySays ClientReads old bytes (ClientBreaks e))
  pub misplaced : (result ≡ Err Misplaced) ↔ IsSome (client_standing old).body
  pub cause : IfErr result (ClientCause old bytes)
  pub item : IfOk result (λ answer. IsHead answers old.is_head (client_standing old) bytes (as_head answer) (client_standing new) rest)
  pub left : OnErr result ((new ≡ old) × (rest ≡ bytes))
  pub seen : OnOk result (ClientLooked old bytes → (more : List ℕ) → ClientLooked new (rest ++ more))
  pub trailers : IfOk result (λ answer. HasTrailers (client_standing old) bytes (client_trailers old) (as_head answer) (client_trailers new))
  pub noted : IfOk result (λ answer. HasNoted old answer new)
  pub asking : client_asking new ≡ client_asking old
  pub limit : (client_standing new).search.limit ≡ (client_standing old).search.limit

-- after an error bytes and codec stay, but for a body that broke: it is broken for good
abbrev pub ChunkLeft : ClientError → Client → List ℕ → Client → List ℕ → Type 0
ChunkLeft (Parse e) old bytes new rest =
    LeftAfter e (client_standing old) bytes (client_standing new) rest × (client_trailers new ≡ client_trailers old)
ChunkLeft Misplaced old bytes new rest = (new ≡ old) × (rest ≡ bytes)

-- what is promised of bytes of a body, or its end
pub record IsChunked (old : Client) (bytes : List ℕ) (result : Result (Option (Option (List ℕ))) ClientError) (new : Client) (rest : List ℕ) : Type 0 where
  pub goes_on : IfOk result (λ answer. GoesOn ClientReads chunk_given old bytes (in_front ClientReads chunk_given answer) new rest)
  pub waiting : result ≡ Ok None → ClientLooked old bytes → OnlySays ClientReads old bytes (λ (said : Messages ResponseItem). said ≡ nothing)
  pub refused : IfErr result (λ e. ¬ (e ≡ Parse errors.NoMemory) → ClientLooked old bytes → OnlySays ClientReads old bytes (ClientBreaks e))
  pub misplaced : (result ≡ Err Misplaced) ↔ ((client_standing old).body ≡ None)
  pub some : IfOk result (λ answer. HasBytes (as_chunk answer))
  pub ended : IfOk result (λ answer. HasEnded (as_chunk answer) (client_standing new))
  pub lacking : IfErr result (λ e. e ≡ Parse errors.NoMemory → (new ≡ old) × (rest ≡ bytes))
  pub left : IfErr result (λ e. ChunkLeft e old bytes new rest)
  pub seen : OnOk result (ClientLooked old bytes → (more : List ℕ) → ClientLooked new (rest ++ more))
  pub trailers : IfOk result (λ answer. HasTrailers (client_standing old) bytes (client_trailers old) (as_chunk answer) (client_trailers new))
  pub noted : HasNoted old None new
  pub asking : client_asking new ≡ client_asking old
  pub limit : (client_standing new).search.limit ≡ (client_standing old).search.limit
