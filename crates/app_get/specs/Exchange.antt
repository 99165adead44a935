-- What moves in an exchange: from the connection to the server and back, out of the file that is sent, and to the output.
use Rattle.std.specs.Prelude.{◌≡◌, ◌≢◌, ℕ, ◌<◌, ◌⊎◌, Bool, true, false, ◌||◌, ◌&&◌, nat_le, List, [], ◌++◌, ◌∷◌, length, codes, if◌then◌else◌, Option, Some, None, ⊤}
use Rattle.std.specs.Io.KnownBytes.{Consumes, Appends, Keeps}
use Rattle.http_config.specs.Causes.{Rose}
use Rattle.http_framing.specs.HeaderLines.{header_map}
use Rattle.http_header.specs.FieldValue.{FieldValue}
use Rattle.http_map.specs.HeaderMap.{get}
use Rattle.h1_client.specs.ClientMeaning.{setting_of}
use Rattle.h1_client.specs.State.{State, Stands, GoesOn, Is}
use Rattle.model_client.specs.ClientEvent as on
use Rattle.model_client.specs.ClientEvent.{ClientEvent, ClientOutcome, ClientEnd}
use Rattle.model_client.specs.ClientKept.{client_allows, client_closing, is_free}
use Rattle.model_client.specs.ClientTrace.{Happened, taken, written}
use Rattle.model_client.specs.AnswerParse.{is_interim}
use Rattle.app_get.specs.declared.transport.Sent.{Sent}
use Rattle.app_get.specs.declared.transport.Sent.TheVariants as sending
use Rattle.app_get.specs.declared.answer.Wanted.{Wanted}
use Rattle.app_get.specs.Redirects.{is_redirect}
use Rattle.app_get.specs.declared.answer.Taken.{Taken}
use Rattle.app_get.specs.declared.answer.Taken.TheVariants as taking

-- A connection, what is left to come from the server and what the server was sent, what is left of the file, and what went
-- to the output, where they tell it; what is wanted of the answer; the answer's status, once its head came, and the Location of
-- the last head; whether a byte of the answer came; and how often each of them failed.
pub record Ends : Type 0 where
  pub state : State
  pub came : Option (List ℕ)
  pub sent : Option (List ℕ)
  pub file : Option (List ℕ)
  pub out : Option (List ℕ)
  pub wanted : Wanted
  pub status : Option ℕ
  pub location : Option FieldValue
  pub begun : Bool
  pub came_faults : ℕ
  pub sent_faults : ℕ
  pub file_faults : ℕ
  pub out_faults : ℕ

-- what is left of a file: nothing once it was handed in whole
abbrev pub file_left : {B : Type 0} → (B → Option (List ℕ)) → Option B → Option (List ℕ)
file_left left None = Some []
file_left left (Some b) = left b

-- how often a file failed
abbrev pub faults_of_file : {B : Type 0} → (B → ℕ) → Option B → ℕ
faults_of_file faults None = 0
faults_of_file faults (Some b) = faults b

-- ---- what happened, the last first

-- the bytes of the request's body that were handed in
abbrev pub handed_by : ClientEvent → List ℕ
handed_by (on.chunk bytes) = bytes
handed_by _ = []

abbrev pub handed : List Happened → List ℕ
handed [] = []
handed (s ∷ before) = handed before ++ handed_by s.event

-- the bytes of the answer's body that were handed out
abbrev pub given_by : ClientOutcome → List ℕ
given_by (on.bytes bytes) = bytes
given_by _ = []

abbrev pub given : List Happened → List ℕ
given [] = []
given (s ∷ before) = given before ++ given_by s.outcome

-- the status of the last answer but interim ones, where one was handed out
abbrev pub noted_by : ClientOutcome → Option ℕ → Option ℕ
noted_by (on.answer a) status = if is_interim a.status then status else Some a.status
noted_by _ status = status

abbrev pub noted : List Happened → Option ℕ → Option ℕ
noted [] status = status
noted (s ∷ before) status = noted_by s.outcome (noted before status)

-- the Location of the last head that was handed out, the first where it has several
abbrev pub led_by : ClientOutcome → Option FieldValue → Option FieldValue
led_by (on.answer a) location = get (header_map a.headers) (codes "location")
led_by _ location = location

abbrev pub led : List Happened → Option FieldValue → Option FieldValue
led [] location = location
led (s ∷ before) location = led_by s.outcome (led before location)

-- ---- the ends that are told

-- the server has sent all
abbrev pub ends_input : ClientEvent → Bool
ends_input on.eof = true
ends_input _ = false

-- the request's body is whole
abbrev pub ends_body : ClientEvent → Bool
ends_body on.body_end = true
ends_body _ = false

-- the rest of the answer's body isn't wanted
abbrev pub drops_rest : ClientEvent → Bool
drops_rest on.drop_body = true
drops_rest _ = false

-- one of the events is such a one
abbrev pub has_event : (ClientEvent → Bool) → List Happened → Bool
has_event is_such [] = false
has_event is_such (s ∷ before) = has_event is_such before || is_such s.event

-- bytes that were known were taken to the last one
abbrev pub Empties : Option (List ℕ) → Option (List ℕ) → Type 0
Empties None new = ⊤
Empties (Some bytes) new = new ≡ Some []

-- ---- an answer that isn't wanted

-- its status is 400 or above, or that of a redirect, where such a one isn't wanted
abbrev pub is_unwanted : Wanted → ℕ → Bool
is_unwanted wanted status = (wanted.no_refusal && nat_le 400 status) || (wanted.no_redirect && is_redirect status)

-- there is no answer of which a body is wanted
abbrev pub has_none_wanted : Wanted → Option ℕ → Bool
has_none_wanted wanted None = true
has_none_wanted wanted (Some status) = is_unwanted wanted status

abbrev pub is_unread : Ends → Bool
is_unread ends = has_none_wanted ends.wanted ends.status

-- ---- what moves

-- It goes on by these events: the bytes that came are those that the connection took, the bytes that were sent are those
-- that it gave to be written, what was handed in comes out of the file, and the bytes of the answer's body, and nothing
-- else, are written out, unless the answer's head is written too. The input's end is told only once nothing is left to come,
-- and the body's end only once nothing is left of the file. No body is dropped. While it isn't known that a byte of the answer
-- came, none was taken, and while there is no status, nothing was written out. While there is no answer of which a body is
-- wanted, none of a body was handed out.
pub record Goes (old new : Ends) : Type 0 where
  pub more : List Happened
  pub stands : (before : List Happened) → Stands old.state before → Stands new.state (more ++ before)
  pub came : Consumes old.came new.came (taken more)
  pub sent : Appends old.sent new.sent (written more)
  pub file : Consumes old.file new.file (handed more)
  pub out : old.wanted.head ≡ false → Appends old.out new.out (given more)
  pub input_end : has_event ends_input more ≡ true → Empties old.came new.came
  pub body_end : has_event ends_body more ≡ true → Empties old.file new.file
  pub none_dropped : has_event drops_rest more ≡ false
  pub heard : new.begun ≡ false → (old.begun ≡ false) × (taken more ≡ [])
  pub silent : new.status ≡ None → (old.status ≡ None) × Keeps old.out new.out
  pub unread : is_unread new ≡ true → (is_unread old ≡ true) × (given more ≡ [])
  pub status : new.status ≡ noted more old.status
  pub location : new.location ≡ led more old.location
  pub wanted : new.wanted ≡ old.wanted

-- ---- what is sent

-- nothing is done with the connection, or bytes of it are written
abbrev pub Wrote : Ends → Ends → Type 0
Wrote old new =
    (new.state ≡ old.state) ⊎ ((count : ℕ) × (bytes : List ℕ) × GoesOn old.state (on.write count) (Is (on.gave bytes)) new.state)

-- bytes are sent
pub record SendsSome (old new : Ends) : Type 0 where
  pub goes : Goes old new
  pub some : 0 < length (written goes.more)
  pub wrote : Wrote old new

-- nothing waits to be sent, or nothing may be, or the server takes nothing now
abbrev pub HasNoneToSend : Ends → Ends → Type 0
HasNoneToSend old new =
    (old.state.kept.buffered ≡ [])
    ⊎ ((client_allows (setting_of old.state.settings) old.state.kept (on.write 0) ≡ false) ⊎ Rose old.sent_faults new.sent_faults)

pub record SendsNone (old new : Ends) : Type 0 where
  pub goes : Goes old new
  pub why : HasNoneToSend old new
  pub out : Keeps old.out new.out
  pub wrote : Wrote old new

abbrev pub IsSent : Sent → Ends → Ends → Type 0
IsSent sending.Some old new = SendsSome old new
IsSent sending.NotNow old new = SendsNone old new
IsSent sending.Nothing old new = SendsNone old new

-- ---- what is taken

-- it goes on by one event at least
pub record Acts (old new : Ends) : Type 0 where
  pub goes : Goes old new
  pub some : 0 < length goes.more

-- ---- the answer's end

-- the connection fails: it doesn't end in order
abbrev pub is_failure : Option ClientEnd → Bool
is_failure (Some on.bad_answer) = true
is_failure (Some on.large_answer) = true
is_failure (Some on.broken_answer) = true
is_failure (Some on.failed_request) = true
is_failure _ = false

-- Nothing more of the answer's body is to come, and the connection hasn't failed. By each trace that it stands for it is free:
-- the answer was handed out to its end.
pub record IsWhole (state : State) : Type 0 where
  pub nothing_left : client_allows (setting_of state.settings) state.kept on.pull ≡ false
  pub unbroken : is_failure (client_closing state.kept) ≡ false
  pub free : (trace : List Happened) → Stands state trace → is_free state.kept ≡ true

-- More of the answer was asked for last, its head where none came yet or more of its body, and nothing more has come.
pub record IsPending (ends : Ends) : Type 0 where
  pub before : State
  pub answered : ((ends.status ≡ None) × GoesOn before on.next (Is on.pending) ends.state) ⊎ GoesOn before on.pull (Is on.pending) ends.state

-- so it was, and since then bytes were sent at most
pub record IsWaiting (ends : Ends) : Type 0 where
  pub last : Ends
  pub pending : IsPending last
  pub wrote : Wrote last ends

-- What was taken of an answer. Where it is the rest, the answer is whole, and has this status, which isn't that of another
-- protocol or of an answer that isn't wanted. A part is taken by an event at least. Where it is nothing, nothing more has come.
abbrev pub IsTaken : Taken → Ends → Ends → Type 0
IsTaken (taking.Whole status) old new = Goes old new × IsWhole new.state × (new.status ≡ Some status) × (status ≢ 101) × (is_unwanted new.wanted status ≡ false)
IsTaken taking.Part old new = Acts old new
IsTaken taking.Nothing old new = Acts old new × IsPending new
