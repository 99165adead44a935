-- What is fetched, what is told of it, and the status that the program ends with.
use Rattle.std.specs.Prelude.{◌≡◌, ℕ, ◌+◌, ◌<◌, ◌⊎◌, Bool, true, false, List, [], ◌∷◌, ◌++◌, length, nat_le, if◌then◌else◌, Option, Some, None, Result, Ok, Err, ⊤}
use Rattle.app_get.specs.declared.error.GetError.{GetError}
use Rattle.app_get.specs.declared.error.GetError.TheVariants as get_error
use Rattle.app_get.specs.declared.follow.Reply.{Reply}

-- A URL was fetched, or wasn't, for this reason; and what was told of one: the status that it was answered by, or why it
-- wasn't fetched.
pub data Done : Type 0 where
  fetched : Result ℕ GetError → Done
  told_status : ℕ → Done
  told_error : GetError → Done

-- these are noted more, the last first, where what is noted is told
abbrev pub Notes : {A : Type 0} → Option (List A) → List A → Option (List A) → Type 0
Notes None more new = ⊤
Notes (Some before) more new = new ≡ Some (more ++ before)

-- the answer says that it isn't what was asked for
abbrev pub is_refusal : ℕ → Bool
is_refusal status = nat_le 400 status

-- what is done for a URL that comes to this, the last first: it is told where it isn't what was asked for
abbrev pub done_at : Result ℕ GetError → List Done
done_at (Ok status) = if is_refusal status then told_status status ∷ fetched (Ok status) ∷ [] else fetched (Ok status) ∷ []
done_at (Err error) = told_error error ∷ fetched (Err error) ∷ []

abbrev pub all_done : List (Result ℕ GetError) → List Done
all_done [] = []
all_done (outcome ∷ before) = done_at outcome ++ all_done before

-- the statuses of the program, of which 0 is none
abbrev pub error_status : GetError → ℕ
error_status get_error.Output = 1
error_status get_error.Url = 2
error_status get_error.User = 2
error_status get_error.Scheme = 2
error_status get_error.NoFile = 3
error_status get_error.Folder = 3
error_status get_error.File = 3
error_status get_error.ShortFile = 3
error_status get_error.Host = 4
error_status get_error.Refused = 4
error_status get_error.Unreachable = 4
error_status get_error.NoMemory = 5
error_status get_error.Late = 7
error_status get_error.Unwanted = 22
error_status get_error.Request = 64
error_status _ = 6

-- the status after an outcome more, where this one tells of a refusal
abbrev pub status_after : ℕ → ℕ → Result ℕ GetError → ℕ
status_after refused status (Ok said) = if is_refusal said then refused else status
status_after refused status (Err error) = error_status error

-- the status after all outcomes, of which the last is the first
abbrev pub exit_status : ℕ → List (Result ℕ GetError) → ℕ
exit_status refused [] = 0
exit_status refused (outcome ∷ before) = status_after refused (exit_status refused before) outcome

abbrev pub are_fetched : List (Result ℕ GetError) → Bool
are_fetched [] = true
are_fetched (Ok status ∷ before) = are_fetched before
are_fetched (Err error ∷ before) = false

-- So many URLs come to these: each is fetched, or those before the first that isn't, and those after it aren't asked for.
abbrev pub AreOutcomes : ℕ → List (Result ℕ GetError) → Type 0
AreOutcomes count (Err error ∷ before) = (length before < count) × (are_fetched before ≡ true)
AreOutcomes count (Ok status ∷ before) = (length before + 1 ≡ count) × (are_fetched before ≡ true)
AreOutcomes count [] = count ≡ 0

-- so many URLs are fetched, and told of, and the program ends with this status
pub record FetchesEach (old : Option (List Done)) (count refused : ℕ) (new : Option (List Done)) (exit : ℕ) : Type 0 where
  pub outcomes : List (Result ℕ GetError)
  pub all : AreOutcomes count outcomes
  pub notes : Notes old (all_done outcomes) new
  pub ends : exit ≡ exit_status refused outcomes

-- a URL is fetched, after which the status is another one, or the program ends with it
abbrev pub ended_by : ℕ → ℕ → Result ℕ GetError → Result ℕ ℕ
ended_by refused status (Ok said) = Ok (status_after refused status (Ok said))
ended_by refused status (Err error) = Err (error_status error)

pub record FetchesOne (old : Option (List Done)) (refused status : ℕ) (new : Option (List Done)) (end : Result ℕ ℕ) : Type 0 where
  pub outcome : Result ℕ GetError
  pub notes : Notes old (done_at outcome) new
  pub ends : end ≡ ended_by refused status outcome

-- ---- tries

-- What a try came to: over a connection that was kept, where there was one that may be used, or over a new one.
pub data Tried : Type 0 where
  kept_gave : Option (Result Reply GetError) → Tried
  new_gave : Result Reply GetError → Tried

-- A request is asked over a connection that was kept, or, where none may be used, over a new one. It is asked twice only where
-- the server didn't answer over the first, and where a request does nothing more when it is repeated.
abbrev pub IsTried : Option (List Tried) → Bool → Option (List Tried) → Result Reply GetError → Type 0
IsTried old is_once new result =
    Notes old (kept_gave (Some result) ∷ []) new
    ⊎ (Notes old (new_gave result ∷ kept_gave None ∷ []) new
    ⊎ ((is_once ≡ false) × Notes old (new_gave result ∷ kept_gave (Some (Err get_error.Unanswered)) ∷ []) new))
