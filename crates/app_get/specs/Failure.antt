-- Why an exchange fails, and what it has done until then.
use Rattle.std.specs.Prelude.{◌≡◌, ℕ, ◌≤◌, ◌-◌, ◌^◌, ◌⊎◌, Bool, true, false, ◌||◌, List, ◌++◌, length, if◌then◌else◌, Option, Some, None, is_some, ⊤}
use Rattle.std.specs.Io.KnownBytes.{Appends, Keeps}
use Rattle.http_config.specs.Causes.{Rose}
use Rattle.h1_payload.specs.declared.pulled.BodyFault.TheVariants.{Corrupted, Incomplete}
use Rattle.h1_payload.specs.declared.pulled.Pulled.{Pulled}
use Rattle.h1_payload.specs.declared.pulled.Pulled.TheVariants as pulled
use Rattle.h1_client.specs.Answers.{SaysNext}
use Rattle.h1_client.specs.Bodies.{SaysPulled}
use Rattle.h1_client.specs.ClientMeaning.{setting_of}
use Rattle.h1_client.specs.State.{GoesOn, Is}
use Rattle.h1_client.specs.declared.event.ClientEnd.{ClientEnd}
use Rattle.h1_client.specs.declared.event.ClientEnd.TheVariants as end
use Rattle.h1_client.specs.declared.event.NextAnswer.{NextAnswer}
use Rattle.h1_client.specs.declared.event.NextAnswer.TheVariants as next
use Rattle.h1_client.specs.declared.heads.AnswerFault.TheVariants.{Malformed, TooLarge}
use Rattle.model_client.specs.ClientEvent as on
use Rattle.model_client.specs.ClientEvent.{ClientOutcome}
use Rattle.model_client.specs.ClientKept.{client_allows, client_closing}
use Rattle.app_get.specs.Exchange.{Ends, Goes, Acts, noted_by, is_unwanted, is_failure, IsPending, IsWaiting, HasNoneToSend}
use Rattle.app_get.specs.declared.error.GetError.{GetError}
use Rattle.app_get.specs.declared.error.GetError.TheVariants as get_error

-- ---- what was answered last

-- the next answer was asked for, and this came
abbrev pub Hears : Ends → NextAnswer → Ends → Type 0
Hears last answer new = GoesOn last.state on.next (SaysNext answer) new.state

-- more of the body was asked for, and this came
abbrev pub Draws : Ends → Pulled → Ends → Type 0
Draws last answer new = GoesOn last.state on.pull (SaysPulled answer) new.state

-- What is heard, by one event: its status is noted, and nothing is written out.
pub record Heard (old : Ends) (answer : NextAnswer) (new : Ends) : Type 0 where
  pub acts : Acts old new
  pub hears : Hears old answer new
  pub notes : (o : ClientOutcome) → SaysNext answer o → new.status ≡ noted_by o old.status
  pub out : Keeps old.out new.out

-- ---- causes

-- The connection gives no answer, before one came or while nothing is left of its body; or it takes no byte although more has
-- to come, as its end was told or as many are held as may be.
abbrev pub IsStuck : Ends → Type 0
IsStuck ends =
    let allows = client_allows (setting_of ends.state.settings) ends.state.kept in
    ((ends.status ≡ None) × (allows on.next ≡ false))
    ⊎ (((allows on.pull ≡ false) × (allows on.next ≡ false))
    ⊎ (IsWaiting ends × ((allows on.eof ≡ false) ⊎ (ends.state.settings.h1_hold_size - length ends.state.kept.unread ≡ 0))))

-- not all bytes that came could be taken
pub record LosesBytes (last new : Ends) : Type 0 where
  pub bytes : List ℕ
  pub count : ℕ
  pub reads : GoesOn last.state (on.read bytes) (Is (on.took count)) new.state
  pub fewer : count ≡ length bytes → ⊥

-- The connection ended or was lost: its end was told in place of a head, it has failed, or no byte could be read of what has to
-- come.
abbrev pub BreaksOff : Ends → Ends → Type 0
BreaksOff last new =
    ((last.status ≡ None) × ((e : ClientEnd) × Hears last (next.Closed e) new))
    ⊎ ((is_failure (client_closing last.state.kept) ≡ true) ⊎ (IsWaiting last × Rose last.came_faults new.came_faults))

-- The answer isn't whole: the connection ended, or its end stood inside the body, or it goes on no more.
abbrev pub IsCut : Ends → Ends → Type 0
IsCut last new =
    BreaksOff last new ⊎ (Draws last (pulled.Broken Incomplete) new ⊎ (IsStuck last ⊎ LosesBytes last new))

-- the answer isn't wanted, by its status
pub record IsUnwanted (ends : Ends) : Type 0 where
  pub status : ℕ
  pub noted : ends.status ≡ Some status
  pub refused : is_unwanted ends.wanted status ≡ true

-- Why it fails, by what happened last. Memory may run out at any time.
abbrev pub IsCause : GetError → Ends → Ends → Type 0
IsCause get_error.NoMemory last new = ⊤
IsCause get_error.Output last new = Rose last.out_faults new.out_faults
IsCause get_error.File last new = Rose last.file_faults new.file_faults
IsCause get_error.ShortFile last new = Hears last (next.Closed end.FailedRequest) new ⊎ (client_closing last.state.kept ≡ Some on.failed_request)
IsCause get_error.BadHead last new = Hears last (next.Fault Malformed) new ⊎ Hears last (next.Closed end.BadAnswer) new
IsCause get_error.LongHead last new = Hears last (next.Fault TooLarge) new ⊎ Hears last (next.Closed end.LargeAnswer) new
IsCause get_error.BadChunks last new = Draws last (pulled.Broken Corrupted) new
IsCause get_error.Protocol last new = last.status ≡ Some 101
IsCause get_error.Unwanted last new = IsUnwanted last × (new ≡ last)
IsCause get_error.Unanswered last new = (last.begun ≡ false) × (last.status ≡ None) × BreaksOff last new
IsCause get_error.Lost last new = IsCut last new
IsCause get_error.Late last new = IsPending last × HasNoneToSend last new
IsCause _ last new = ⊥

-- ---- what is written out

-- the first of these bytes
pub record IsPart (old new : Option (List ℕ)) (bytes : List ℕ) : Type 0 where
  pub part : List ℕ
  pub rest : List ℕ
  pub all : bytes ≡ part ++ rest
  pub grew : Appends old new part

-- a head isn't written: memory runs out before its first byte, or the output fails
abbrev pub IsUnshown : GetError → Option (List ℕ) → Option (List ℕ) → ℕ → ℕ → Type 0
IsUnshown get_error.NoMemory old new before now = Keeps old new
IsUnshown get_error.Output old new before now = Rose before now
IsUnshown _ old new before now = ⊥

-- of a piece of the body the first bytes
pub record IsDrawnPart (last new : Ends) : Type 0 where
  pub bytes : List ℕ
  pub draws : Draws last (pulled.Bytes bytes) new
  pub part : IsPart last.out new.out bytes

-- where the output fails, the first bytes of a piece of the body, unless the answer's head is written too; and else nothing
abbrev pub WritesOut : GetError → Ends → Ends → Type 0
WritesOut get_error.Output last new = last.wanted.head ≡ false → IsDrawnPart last new
WritesOut _ last new = Keeps last.out new.out

pub record Fails (error : GetError) (last new : Ends) : Type 0 where
  pub cause : IsCause error last new
  pub writes : WritesOut error last new

-- ---- a whole exchange that fails

-- It goes on so far, and fails there.
pub record Stops (old new : Ends) (error : GetError) : Type 0 where
  pub last : Ends
  pub goes : Goes old last
  pub fails : Fails error last new

-- it goes on by as many events as a turn each, of which there are 2 ^ 64 - 1
pub record IsEndless (old new : Ends) (error : GetError) : Type 0 where
  pub late : error ≡ get_error.Late
  pub goes : Goes old new
  pub turns : 2 ^ 64 - 1 ≤ length goes.more

-- ---- the error that the end of a connection is told by

-- a part of the answer was heard of
abbrev pub is_heard : Bool → Option ℕ → Bool
is_heard begun status = begun || is_some status

abbrev pub error_by : Bool → ClientEnd → GetError
error_by heard end.BadAnswer = get_error.BadHead
error_by heard end.LargeAnswer = get_error.LongHead
error_by heard end.FailedRequest = get_error.ShortFile
error_by heard _ = if heard then get_error.Lost else get_error.Unanswered
