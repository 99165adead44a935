-- The report of a trace: a line for each outcome, the bytes that are still to be written, and the state.
use Rattle.std.specs.Prelude.{ℕ, ◌≡◌, ◌≢◌, ◌-◌, List, [], ◌∷◌, ◌++◌, flat_map, length, slice_get, Option, Some, None, codes, decimal, Bool, true, false, if◌then◌else◌}
use Rattle.http.specs.declared.version.Version.{Version}
use Rattle.http.specs.declared.version.TheConstants.Version.{HTTP_10}
use Rattle.http_map.specs.HeaderMap.{Pair, pairs}
use Rattle.http_types.specs.ConnectionType.{IsTypeOf}
use Rattle.http_types.specs.RequestHead.{request_flags}
use Rattle.http_types.specs.declared.message.ConnectionType.{ConnectionType}
use Rattle.http_types.specs.declared.message.ConnectionType.TheVariants.{Close, KeepAlive, Upgrade}
use Rattle.http_framing.specs.declared.body.kind.BodyKind.{BodyKind}
use Rattle.http_framing.specs.declared.body.kind.BodyKind.TheVariants as body
use Rattle.h1_decoder.specs.declared.decoder.HeadItem.{HeadItem}
use Rattle.h1_payload.specs.declared.pulled.BodyFault.{BodyFault}
use Rattle.h1_payload.specs.declared.pulled.BodyFault.TheVariants.{Corrupted, Incomplete}
use Rattle.h1_connection.specs.declared.event.End.{End}
use Rattle.h1_connection.specs.declared.event.End.TheVariants as ends
use Rattle.h1_connection.specs.declared.event.HeadFault.{HeadFault}
use Rattle.h1_connection.specs.declared.event.HeadFault.TheVariants as faults
use Rattle.h1_connection.specs.declared.event.Outcome.{Outcome}
use Rattle.h1_connection.specs.declared.event.Outcome.TheVariants.{Took, Head, Bytes, Trailers, Frame, BodyEnd, Pending, Closed, Fault, Broken, Protocol, Refused, Gave, Expired, Abandoned, Done}
use Rattle.h1_connection.specs.declared.trace.Step.{Step}
use Rattle.h1_connection.specs.declared.trace.Trace.{Trace}
use Rattle.h1_replay.specs.Hex.{hex_word}
use Rattle.h1_replay.specs.WebSocket.{frame_words, rule_words, check_word}

-- ---- words

-- why a connection ends
abbrev pub end_word : End → List ℕ
end_word ends.Malformed = codes "malformed"
end_word ends.TooLarge = codes "too-large"
end_word ends.SlowRequestTimeout = codes "slow-request"
end_word ends.KeepAliveExpired = codes "keep-alive"
end_word ends.Protocol = codes "protocol"
end_word ends.Body = codes "body"
end_word ends.BodyShort = codes "body-short"
end_word ends.Asked = codes "asked"
end_word ends.BrokenBody = codes "broken-body"
end_word ends.UnreadBody = codes "unread-body"
end_word ends.Drained = codes "drained"
end_word ends.HalfClosed = codes "half-closed"
end_word ends.InputEnded = codes "input-ended"

-- what is wrong with a head, and with a body
abbrev pub fault_word : HeadFault → List ℕ
fault_word faults.Malformed = codes "malformed"
fault_word faults.TooLarge = codes "too-large"

abbrev pub broken_word : BodyFault → List ℕ
broken_word Corrupted = codes "corrupted"
broken_word Incomplete = codes "incomplete"

-- a body's kind
abbrev pub body_word : BodyKind → List ℕ
body_word body.None = codes "none"
body_word (body.Length n) = codes "length:" ++ decimal n
body_word body.Chunked = codes "chunked"
body_word body.Raw = codes "raw"

-- what a head asks of its connection
abbrev pub type_word : ConnectionType → List ℕ
type_word Close = codes "close"
type_word KeepAlive = codes "keep-alive"
type_word Upgrade = codes "upgrade"

-- whether the client waits for leave to send the body
abbrev pub expect_word : Bool → List ℕ
expect_word expect = if expect then codes "expect" else codes "-"

-- a version: 1.0, or 1.1 for any other that a head can have
pub record IsVersionWord (version : Version) (word : List ℕ) : Type 0 where
  pub old : version ≡ HTTP_10 → word ≡ codes "1.0"
  pub new : version ≢ HTTP_10 → word ≡ codes "1.1"

-- ---- lines

-- a word behind a blank
abbrev pub spaced : List ℕ → List ℕ
spaced word = codes " " ++ word

-- method, target and version
pub record IsRequestPart (item : HeadItem) (part : List ℕ) : Type 0 where
  pub version : List ℕ
  pub is_version : IsVersionWord item.head.version version
  pub is_part : part ≡ spaced item.head.method ++ spaced item.target ++ spaced version

-- kind of body, type of connection, and expect
pub record IsBodyPart (item : HeadItem) (part : List ℕ) : Type 0 where
  pub type : ConnectionType
  pub is_type : IsTypeOf (request_flags item.head) item.head.version type
  pub is_part : part ≡ spaced (body_word item.body) ++ spaced (type_word type) ++ spaced (expect_word (request_flags item.head).expect)

-- each pair of a map, in its order
abbrev pub pair_words : List Pair → List ℕ
pair_words pairs = flat_map (λ (pair : Pair). spaced pair.0 ++ codes "=" ++ hex_word pair.1.bytes) pairs

-- a head
pub record IsHeadLine (item : HeadItem) (line : List ℕ) : Type 0 where
  pub request : List ℕ
  pub is_request : IsRequestPart item request
  pub body : List ℕ
  pub is_body : IsBodyPart item body
  pub is_line : line ≡ codes "head" ++ request ++ body ++ pair_words (pairs item.head.headers)

-- an outcome
abbrev pub IsOutcomeLine : Outcome → List ℕ → Type 0
IsOutcomeLine (Took n) line = line ≡ codes "took " ++ decimal n
IsOutcomeLine (Head item) line = IsHeadLine item line
IsOutcomeLine (Bytes bytes) line = line ≡ codes "bytes " ++ hex_word bytes
IsOutcomeLine (Trailers trailers) line = line ≡ codes "trailers" ++ pair_words (pairs trailers)
IsOutcomeLine (Frame frame) line = line ≡ codes "frame " ++ frame_words frame
IsOutcomeLine BodyEnd line = line ≡ codes "end"
IsOutcomeLine Pending line = line ≡ codes "pending"
IsOutcomeLine (Closed end) line = line ≡ codes "closed " ++ end_word end
IsOutcomeLine (Fault fault) line = line ≡ codes "fault " ++ fault_word fault
IsOutcomeLine (Broken fault) line = line ≡ codes "broken " ++ broken_word fault
IsOutcomeLine (Protocol error) line = line ≡ codes "protocol " ++ rule_words error
IsOutcomeLine (Refused error) line = line ≡ codes "refused " ++ check_word error
IsOutcomeLine (Gave bytes) line = line ≡ codes "gave " ++ hex_word bytes
IsOutcomeLine (Expired end) line = line ≡ codes "expired " ++ end_word end
IsOutcomeLine Abandoned line = line ≡ codes "abandoned"
IsOutcomeLine Done line = line ≡ codes "done"

-- the peer was given up: nothing is allowed behind that, so it is the last outcome
abbrev pub is_abandoned : List Step → Bool
is_abandoned steps = by_last (slice_get steps (length steps - 1))
  where
    by_outcome : Outcome → Bool
    by_outcome Abandoned = true
    by_outcome other = false

    by_last : Option Step → Bool
    by_last None = false
    by_last (Some step) = by_outcome step.outcome

-- the state: given up, or why the connection is to end, or `open`
abbrev pub state_word : Bool → Option End → List ℕ
state_word abandoned None = if abandoned then codes "abandoned" else codes "open"
state_word abandoned (Some end) = if abandoned then codes "abandoned" else end_word end

-- ---- the whole

-- a line for each step, each ended by a line feed
abbrev pub AreStepLines : List Step → List ℕ → Type 0
AreStepLines [] text = text ≡ []
AreStepLines (step ∷ steps) text =
    (line rest : List ℕ) × IsOutcomeLine step.outcome line × AreStepLines steps rest × (text ≡ line ++ codes "\n" ++ rest)

-- the last two lines
abbrev pub last_lines : Trace → List ℕ
last_lines trace =
    codes "buffered " ++ hex_word trace.buffered ++ codes "\nstate " ++ state_word (is_abandoned trace.steps) trace.closing ++ codes "\n"

-- the whole report
pub record IsReport (trace : Trace) (text : List ℕ) : Type 0 where
  pub steps : List ℕ
  pub are_steps : AreStepLines trace.steps steps
  pub is_text : text ≡ steps ++ last_lines trace
