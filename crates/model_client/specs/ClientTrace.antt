-- All that happened on the client's side of a connection, and what it makes of what is written and who is answered.
use Rattle.std.specs.Prelude.{◌≡◌, ℕ, ◌+◌, ◌-◌, Bool, false, not, List, [], ◌∷◌, ◌++◌, length, take, IsTrue, if◌then◌else◌, Option, Some, None}
use Rattle.model_h1.specs.Setting.{Setting}
use Rattle.model_h1.specs.AnswerText.{end_text}
use Rattle.model_client.specs.AnswerParse.{is_interim}
use Rattle.model_client.specs.RequestText.{request_text, asked_shape}
use Rattle.model_client.specs.ClientEvent as on
use Rattle.model_client.specs.ClientEvent.{ClientRequest, ClientEvent, ClientOutcome}
use Rattle.model_client.specs.ClientKept.{Waiting, SendingBody, ClientKept, fresh_client, waiting_of, client_allows}
use Rattle.model_client.specs.ClientStep.{begun_body, piece_of, IsClientStep}

-- an event and what was answered to it
pub record Happened : Type 0 where
  pub event : ClientEvent
  pub outcome : ClientOutcome

-- what is kept after all that happened, the last first: each event was allowed, and made a step
abbrev pub IsClientTrace : Setting → List Happened → ClientKept → Type 0
IsClientTrace setting [] k = k ≡ fresh_client
IsClientTrace setting (s ∷ before) k =
    (b : ClientKept) × IsClientTrace setting before b × IsTrue (client_allows setting b s.event) × IsClientStep setting b s.event s.outcome k

-- ---- what is written

-- the moment after an event
abbrev pub now_after : ClientEvent → ℕ → ℕ
now_after (on.tick ms) now = ms
now_after _ now = now

-- the body that is sent after a piece of it
abbrev pub body_after : List ℕ → Option SendingBody → Option SendingBody
body_after bytes None = None
body_after bytes (Some body) = Some (record body { missing = body.missing - length bytes })

-- the body that is sent after an event
abbrev pub sending_after : ClientEvent → Option SendingBody → Option SendingBody
sending_after (on.ask r size) body = begun_body size
sending_after (on.chunk bytes) body = body_after bytes body
sending_after on.body_end body = None
sending_after on.body_error body = None
sending_after _ body = body

-- the text of a piece, and of the end, of the body that is sent
abbrev pub piece_text_of : List ℕ → Option SendingBody → List ℕ
piece_text_of bytes None = []
piece_text_of bytes (Some body) = piece_of body.shape body.missing bytes

abbrev pub end_text_of : Option SendingBody → List ℕ
end_text_of None = []
end_text_of (Some body) = end_text body.shape

-- what an event adds to the text that goes out, at a moment, and with the body that is sent before
abbrev pub text_of_event : ClientEvent → ℕ → Option SendingBody → List ℕ
text_of_event (on.ask r size) now body = request_text r.head (asked_shape size) size r.connection now
text_of_event (on.chunk bytes) now body = piece_text_of bytes body
text_of_event on.body_end now body = end_text_of body
text_of_event _ now body = []

abbrev pub now_of : List Happened → ℕ
now_of [] = 0
now_of (s ∷ before) = now_after s.event (now_of before)

abbrev pub sending_of : List Happened → Option SendingBody
sending_of [] = None
sending_of (s ∷ before) = sending_after s.event (sending_of before)

-- the texts of all requests, one after another: their heads, the pieces of their bodies and their ends
abbrev pub text_of : List Happened → List ℕ
text_of [] = []
text_of (s ∷ before) = text_of before ++ text_of_event s.event (now_of before) (sending_of before)

-- the bytes that were fetched for writing
abbrev pub given : ClientOutcome → List ℕ
given (on.gave bytes) = bytes
given _ = []

abbrev pub written : List Happened → List ℕ
written [] = []
written (s ∷ before) = written before ++ given s.outcome

-- ---- what is read

-- the bytes that an event took
abbrev pub taken_by : ClientEvent → ClientOutcome → List ℕ
taken_by (on.read bytes) (on.took n) = take n bytes
taken_by _ _ = []

-- all bytes that were taken, the first first
abbrev pub taken : List Happened → List ℕ
taken [] = []
taken (s ∷ before) = taken before ++ taken_by s.event s.outcome

-- ---- who is answered

-- a request that was asked
abbrev pub requests_by : ClientEvent → List Waiting
requests_by (on.ask r size) = waiting_of r ∷ []
requests_by _ = []

-- all requests, the first first
abbrev pub requests_of : List Happened → List Waiting
requests_of [] = []
requests_of (s ∷ before) = requests_of before ++ requests_by s.event

-- an answer after which its request waits no more
abbrev pub answers_one : ClientOutcome → Bool
answers_one (on.answer a) = not (is_interim a.status)
answers_one _ = false

-- how many requests are answered
abbrev pub answered_of : List Happened → ℕ
answered_of [] = 0
answered_of (s ∷ before) = answered_of before + (if answers_one s.outcome then 1 else 0)
