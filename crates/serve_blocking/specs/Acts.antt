-- What is done for the requests of a connection: what is pulled of their bodies, and what they are answered.
use Rattle.std.specs.Prelude.{◌≡◌, ◌⊎◌, ℕ, Bool, true, false, not, List, [], ◌∷◌, ◌++◌, length, map, flat_map, if◌then◌else◌, Result, ⊤}
use Rattle.model_h1.specs.Answer.{AnswerHead, BodySize, size_of}
use Rattle.model_h1.specs.Event.{Event, Outcome}
use Rattle.model_h1.specs.Event as on
use Rattle.model_h1.specs.Request.{Header}
use Rattle.model_h1.specs.Sums.{Step}
use Rattle.model_state.specs.Local.{allowed_by}
use Rattle.http_framing.specs.HeaderLines.{header_map}
use Rattle.http_types.specs.ResponseHead.{fresh_response}
use Rattle.h1_encoder.specs.Meaning.{answer_of}
use Rattle.h1_connection.specs.EventMeaning.{setting_of}
use Rattle.h1_connection.specs.State.{State}
use Rattle.h1_payload.specs.Rests.{fault_of}
use Rattle.h1_payload.specs.declared.pulled.Pulled.{Pulled}
use Rattle.h1_payload.specs.declared.pulled.Pulled.TheVariants as pulled
use Rattle.serve_blocking.specs.Judged.{status_after}
use Rattle.serve_blocking.specs.Served.{Line, Base, IsServed, IsServedBehind, Follows, MayAnswer}
use Rattle.serve_blocking.specs.declared.body.Piece.{Piece}
use Rattle.serve_blocking.specs.declared.body.Piece.TheVariants as piece
use Rattle.serve_blocking.specs.declared.error.HandleError.{HandleError}
use Rattle.serve_blocking.specs.declared.error.HandleError.TheVariants as handle_error

-- ---- acts

abbrev pub is_pending : Outcome → Bool
is_pending on.pending = true
is_pending _ = false

-- While a server waits it reads, writes and tells the time, and it asks for what hasn't come. All else is an act.
abbrev pub is_act : Event → Outcome → Bool
is_act (on.read bytes) outcome = false
is_act on.eof outcome = false
is_act (on.write count) outcome = false
is_act (on.tick ms) outcome = false
is_act on.pull outcome = not (is_pending outcome)
is_act event outcome = true

abbrev pub act_in : Step → List Step
act_in s = if is_act s.event s.outcome then s ∷ [] else []

-- the acts among these steps, the oldest first
unfoldable pub acts : List Step → List Step
acts [] = []
acts (s ∷ before) = acts before ++ act_in s

-- an event with nothing to answer
abbrev pub step : Event → Step
step event = record { event = event; outcome = on.done }

-- the event is allowed
abbrev pub may : State → Event → Bool
may state event = allowed_by (setting_of state.settings) state.kept event

-- this event where it is allowed, and else nothing
abbrev pub where_may : State → Event → List Step
where_may state event = if may state event then step event ∷ [] else []

-- What is served goes on, no request is handed out, and what is done is such. Whether the open request's answer ends the
-- connection stays as it is.
pub record Doing (Such : List Step → Type 0) (old new : Line) : Type 0 where
  pub goes : (base : Base) (served : IsServed base old) → (behind : IsServedBehind base served.trace new) × Such (acts behind.more)
  pub closes : new.closes ≡ old.closes

-- exactly these steps are done
abbrev pub Does : List Step → Line → Line → Type 0
Does steps old new = Doing (λ made. made ≡ steps) old new

-- nothing is done, and the open request's body is as wanted as before
pub record Waits (old new : Line) : Type 0 where
  pub goes : (base : Base) (served : IsServed base old) → (behind : IsServedBehind base served.trace new) × (acts behind.more ≡ [])
  pub closes : new.closes ≡ old.closes
  pub wanted : new.wanted ≡ old.wanted

-- the connection is lost, it stalls, or memory has run out
abbrev pub is_loss : HandleError → Bool
is_loss handle_error.Lost = true
is_loss handle_error.Stalled = true
is_loss handle_error.NoMemory = true
is_loss _ = false

-- all that waited was written, or nothing may be written any more
abbrev pub IsFlushed : State → Type 0
IsFlushed state = (length state.kept.buffered ≡ 0) ⊎ ((count : ℕ) → may state (on.write count) ≡ false)

-- ---- a request's body

-- a pull with this outcome
abbrev pub pull_of : Outcome → Step
pull_of outcome = record { event = on.pull; outcome = outcome }

abbrev pub ArePulls : List Step → Type 0
ArePulls [] = ⊤
ArePulls (s ∷ steps) = (s.event ≡ on.pull) × ArePulls steps

-- a body's trailers, or its end
abbrev pub is_last : Outcome → Bool
is_last (on.trailers lines) = true
is_last on.body_ended = true
is_last _ = false

-- a body was given to its end in these steps
abbrev pub has_last : List Step → Bool
has_last [] = false
has_last (s ∷ steps) = if is_last s.outcome then true else has_last steps

-- nothing is done but that a body is pulled, and dropped
pub record Drops (old new : Line) : Type 0 where
  pub goes : (base : Base) (served : IsServed base old) → (behind : IsServedBehind base served.trace new) × ArePulls (acts behind.more)
  pub closes : new.closes ≡ old.closes

-- the same, to the body's end
abbrev pub DropsAll : Line → Line → Type 0
DropsAll old new = Doing (λ made. ArePulls made × (has_last made ≡ true)) old new

-- The body is passed over, or doesn't have to be: the handler wants it, nothing of it may be pulled, or it is dropped to
-- its end.
abbrev pub PassesOver : Line → Line → Type 0
PassesOver old new = (old.wanted ≡ true) ⊎ (may old.state on.drop_body ≡ false) ⊎ DropsAll old new

-- the pull that gave this, and none where nothing was there
abbrev pub IsPulled : Pulled → List Step → Type 0
IsPulled (pulled.Bytes bytes) made = made ≡ pull_of (on.bytes bytes) ∷ []
IsPulled (pulled.Trailers trailers) made = (lines : List Header) × (trailers ≡ header_map lines) × (made ≡ pull_of (on.trailers lines) ∷ [])
IsPulled pulled.End made = made ≡ pull_of on.body_ended ∷ []
IsPulled (pulled.Broken fault) made = made ≡ pull_of (on.broken_by (fault_of fault)) ∷ []
IsPulled pulled.Pending made = made ≡ []

abbrev pub Pulls : Pulled → Line → Line → Type 0
Pulls answer old new = Doing (IsPulled answer) old new

-- nothing of a body is left to be given behind this
abbrev pub given_behind : Pulled → Bool → Bool
given_behind (pulled.Trailers trailers) before = true
given_behind pulled.End before = true
given_behind _ before = before

-- This piece was pulled, and nothing else was done. The end may be told without a pull, where nothing of the body is left.
abbrev pub IsPiece : Piece → Line → List Step → Type 0
IsPiece (piece.Bytes bytes) new made = made ≡ pull_of (on.bytes bytes) ∷ []
IsPiece (piece.Trailers trailers) new made = (lines : List Header) × (trailers ≡ header_map lines) × (made ≡ pull_of (on.trailers lines) ∷ [])
IsPiece piece.End new made = (made ≡ pull_of on.body_ended ∷ []) ⊎ ((made ≡ []) × (new.ended ≡ true))

-- No piece was pulled. The body is broken where a pull said so, and where it hasn't ended and nothing more may be pulled.
abbrev pub IsNoPiece : HandleError → Line → List Step → Type 0
IsNoPiece handle_error.BrokenBody new made =
    ((fault : on.BodyFault) × (made ≡ pull_of (on.broken_by fault) ∷ []))
    ⊎ ((made ≡ []) × (new.ended ≡ false) × (may new.state on.drop_body ≡ false))
IsNoPiece error new made = (made ≡ []) × (is_loss error ≡ true)

-- the next piece of the body is given, or none for this reason
abbrev pub Gives : Piece → Line → Line → Type 0
Gives p old new = Doing (IsPiece p new) old new

abbrev pub GivesNone : HandleError → Line → Line → Type 0
GivesNone error old new = Doing (IsNoPiece error new) old new

-- the client that waits for leave to send the body gets it
abbrev pub leave : State → List Step
leave state = where_may state on.send_continue

-- the client got leave where it waits for it, and this was done behind
pub record IsRead (Such : List Step → Type 0) (state : State) (made : List Step) : Type 0 where
  pub behind : List Step
  pub such : Such behind
  pub is : made ≡ leave state ++ behind

abbrev pub Reads : Piece → Line → Line → Type 0
Reads p old new = Doing (IsRead (IsPiece p new) old.state) old new

-- No piece was read: there was no memory to give leave; or leave was given, and no piece came.
abbrev pub ReadsNone : HandleError → Line → Line → Type 0
ReadsNone error old new =
    Doing (λ made. ((error ≡ handle_error.NoMemory) × (made ≡ [])) ⊎ IsRead (IsNoPiece error new) old.state made) old new

-- ---- an answer

-- the same head, which says that the connection ends
abbrev pub closing : AnswerHead → AnswerHead
closing head = record head { closes = true }

-- how the handler's head is sent: as it is, or so that it says that the connection ends
pub record Says (old : Line) (head sent : AnswerHead) : Type 0 where
  pub is : (sent ≡ head) ⊎ (sent ≡ closing head)
  -- where there is a doubt about the request it says so
  pub closes : old.closes ≡ true → sent ≡ closing head
  -- without a doubt it doesn't, where the handler wants the body, or where nothing of it may be pulled
  pub stays : old.closes ≡ false → (old.wanted ≡ true) ⊎ (may old.state on.drop_body ≡ false) → sent ≡ head

-- the answer with this head and a body of this size was begun; a body that the handler doesn't want may have been dropped
pub record IsBegun (head : AnswerHead) (size : BodySize) (old : Line) (made : List Step) : Type 0 where
  pub dropped : List Step
  pub sent : AnswerHead
  pub are_pulls : ArePulls dropped
  pub wanted : old.wanted ≡ true → dropped ≡ []
  pub says : Says old head sent
  -- without the mark that the connection ends, nothing of the body is in the way of the next request
  pub passed : sent.closes ≡ false → (old.wanted ≡ true) ⊎ (may old.state on.drop_body ≡ false) ⊎ (has_last dropped ≡ true)
  pub is : made ≡ dropped ++ (step (on.answer sent size) ∷ [])

abbrev pub Begins : AnswerHead → BodySize → Line → Line → Type 0
Begins head size old new = Doing (IsBegun head size old) old new

abbrev pub handing : List ℕ → Step
handing bytes = step (on.chunk bytes)

-- exactly these bytes of an answer's body were handed in, piece by piece
pub record AreHandedIn (bytes : List ℕ) (made : List Step) : Type 0 where
  pub pieces : List (List ℕ)
  pub are : made ≡ map handing pieces
  pub joined : flat_map (λ (p : List ℕ). p) pieces ≡ bytes

abbrev pub Sends : List ℕ → Line → Line → Type 0
Sends bytes old new = Doing (AreHandedIn bytes) old new

-- the first of these bytes were handed in, and perhaps not all
pub record SendsSome (bytes : List ℕ) (old new : Line) : Type 0 where
  pub sent : List ℕ
  pub rest : List ℕ
  pub are_first : sent ++ rest ≡ bytes
  pub sends : Sends sent old new

-- the answer's end was handed in; or none may be, since the head was all of it
abbrev pub IsEnd : Line → List Step → Type 0
IsEnd new last = (last ≡ step on.body_end ∷ []) ⊎ ((last ≡ []) × (may new.state on.body_end ≡ false))

-- the whole answer with this head and these bytes was handed in, and nothing else was done
pub record IsAnswer (head : AnswerHead) (bytes : List ℕ) (old new : Line) (made : List Step) : Type 0 where
  pub begun : List Step
  pub middle : List Step
  pub last : List Step
  pub begins : IsBegun head (size_of (length bytes)) old begun
  pub body : AreHandedIn bytes middle
  pub ends : IsEnd new last
  pub is : made ≡ (begun ++ middle) ++ last

abbrev pub Answers : AnswerHead → List ℕ → Line → Line → Type 0
Answers head bytes old new = Doing (IsAnswer head bytes old new) old new

-- no end of this answer was handed in: its head was, and the first bytes of its body
pub record IsPart (head : AnswerHead) (bytes : List ℕ) (old : Line) (made : List Step) : Type 0 where
  pub begun : List Step
  pub middle : List Step
  pub sent : List ℕ
  pub rest : List ℕ
  pub begins : IsBegun head (size_of (length bytes)) old begun
  pub body : AreHandedIn sent middle
  pub are_first : sent ++ rest ≡ bytes
  pub is : made ≡ begun ++ middle

-- at most a part of this answer was handed in, and not its end
abbrev pub AnswersPart : AnswerHead → List ℕ → Line → Line → Type 0
AnswersPart head bytes old new = Doing (λ made. ArePulls made ⊎ IsPart head bytes old made) old new

-- a handler has returned so, and then the request is answered with a status alone, unless it may not be answered any more
pub record Completes (old new : Line) : Type 0 where
  pub handled : Result (Unit {0}) HandleError
  pub mid : Line
  pub first : Follows old mid
  pub last : MayAnswer mid.state → Answers (answer_of (fresh_response (status_after handled))) [] mid new
  pub behind : Follows mid new
