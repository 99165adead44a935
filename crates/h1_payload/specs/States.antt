-- The states of a body in chunks, and what a step does.
use Rattle.std.specs.Prelude.{◌≡◌, ◌≢◌, ℕ, ◌-◌, ◌<◌, ◌==◌, List, [], ◌∷◌, length, take, drop, if◌then◌else◌, Option, Some, Result, Ok, Err}
use Rattle.futures.specs.declared.task.Poll.{Poll}
use Rattle.futures.specs.declared.task.Poll.TheVariants.{Ready, Pending}
use Rattle.httparse.specs.Ascii.{carriage_return}
use Rattle.model_h1.specs.Place as place
use Rattle.model_h1.specs.Place.{section_start, step}
use Rattle.h1_payload.specs.declared.chunked_state.ChunkedState.{ChunkedState}
use Rattle.h1_payload.specs.declared.chunked_state.ChunkedState.TheVariants as state
use Rattle.h1_payload.specs.declared.item.DecodeError.{DecodeError}
use Rattle.h1_payload.specs.declared.item.DecodeError.TheVariants.{Invalid, NoMemory}

-- the place of a state, by the size beside it
abbrev pub place_at : ChunkedState → ℕ → place.Place
place_at state.Size size = place.in_size size
place_at state.SizeLws size = place.in_blanks size
place_at state.Extension size = place.in_extension size
place_at state.SizeLf size = place.size_cr size
place_at state.Body size = place.in_bytes (size - 1)
place_at state.BodyCr size = place.bytes_end
place_at state.BodyLf size = place.bytes_cr
place_at state.EndCr size = section_start
place_at state.Trailer size = section_start
place_at state.EndLf size = place.end_cr
place_at state.End size = place.done

-- the state at a place
abbrev pub state_at : place.Place → ChunkedState
state_at (place.in_size size) = state.Size
state_at (place.in_blanks size) = state.SizeLws
state_at (place.in_extension size) = state.Extension
state_at (place.size_cr size) = state.SizeLf
state_at (place.in_bytes more) = state.Body
state_at place.bytes_end = state.BodyCr
state_at place.bytes_cr = state.BodyLf
state_at (place.in_section at lines room) = state.EndCr
state_at place.end_cr = state.EndLf
state_at place.done = state.End
state_at place.broken = state.End

-- the size there: only digits change it
abbrev pub size_at : ℕ → place.Place → ℕ
size_at size (place.in_size next) = next
size_at size p = size

-- behind bytes of a chunk, of which so many are missing
abbrev pub behind_bytes : ℕ → ChunkedState
behind_bytes missing = if missing == 0 then state.BodyCr else state.Body

-- what a step answers
abbrev pub Answer : Type 0
Answer = Poll (Result ChunkedState DecodeError)

-- a byte was taken that leads here
abbrev pub LeadsBy : place.Place → ℕ → List ℕ → List ℕ → Answer → ℕ → List ℕ → Type 0
LeadsBy place.broken size bytes behind answer new_size rest = (answer ≡ Ready (Err Invalid)) × (new_size ≡ size) × (rest ≡ bytes)
LeadsBy next size bytes behind answer new_size rest = (answer ≡ Ready (Ok (state_at next))) × (new_size ≡ size_at size next) × (rest ≡ behind)

-- a byte is taken, if one is there
abbrev pub IsByteStepped : place.Place → ℕ → List ℕ → Answer → ℕ → List ℕ → Type 0
IsByteStepped p size [] answer new_size rest = (answer ≡ Pending) × (new_size ≡ size) × (rest ≡ [])
IsByteStepped p size (b ∷ bytes) answer new_size rest = LeadsBy (step p b) size (b ∷ bytes) bytes answer new_size rest

-- the CR that ends a body is taken, if it is there
pub record IsEndStepped (bytes : List ℕ) (answer : Answer) (rest : List ℕ) : Type 0 where
  pub waits : bytes ≡ [] → (answer ≡ Pending) × (rest ≡ bytes)
  pub ends : (b : ℕ) (behind : List ℕ) → bytes ≡ b ∷ behind → b ≡ carriage_return → (answer ≡ Ready (Ok state.EndLf)) × (rest ≡ behind)
  pub stays : (b : ℕ) (behind : List ℕ) → bytes ≡ b ∷ behind → b ≢ carriage_return → (answer ≡ Ready (Ok state.Trailer)) × (rest ≡ bytes)

-- size, bytes and buffer are as before
abbrev pub Stays : ℕ → List ℕ → Option (List ℕ) → ℕ → List ℕ → Option (List ℕ) → Type 0
Stays size bytes buf new_size rest new_buf = (new_size ≡ size) × (rest ≡ bytes) × (new_buf ≡ buf)

-- all bytes of the chunk that are there go into the buffer, or memory is wanting
abbrev pub GivesBytes : ℕ → List ℕ → Option (List ℕ) → Answer → ℕ → List ℕ → Option (List ℕ) → Type 0
GivesBytes size bytes buf (Ready (Err NoMemory)) new_size rest new_buf = Stays size bytes buf new_size rest new_buf
GivesBytes size bytes buf answer new_size rest new_buf =
    (answer ≡ Ready (Ok (behind_bytes (size - length bytes)))) × (new_size ≡ size - length bytes) × (rest ≡ drop size bytes)
    × (new_buf ≡ Some (take size bytes))

-- in a chunk of which so many bytes are missing
pub record IsBodyStepped
    (size : ℕ) (bytes : List ℕ) (buf : Option (List ℕ)) (answer : Answer) (new_size : ℕ) (rest : List ℕ) (new_buf : Option (List ℕ)) : Type 0 where
  pub none : size ≡ 0 → (answer ≡ Ready (Ok state.BodyCr)) × Stays size bytes buf new_size rest new_buf
  pub waits : 0 < size → bytes ≡ [] → (answer ≡ Pending) × Stays size bytes buf new_size rest new_buf
  pub gives : 0 < size → 0 < length bytes → GivesBytes size bytes buf answer new_size rest new_buf

-- what a step answers and leaves
abbrev pub IsStepped : ChunkedState → ℕ → List ℕ → Option (List ℕ) → Answer → ℕ → List ℕ → Option (List ℕ) → Type 0
IsStepped state.End size bytes buf answer new_size rest new_buf = (answer ≡ Ready (Ok state.End)) × Stays size bytes buf new_size rest new_buf
IsStepped state.Trailer size bytes buf answer new_size rest new_buf = (answer ≡ Ready (Ok state.Trailer)) × Stays size bytes buf new_size rest new_buf
IsStepped state.Body size bytes buf answer new_size rest new_buf = IsBodyStepped size bytes buf answer new_size rest new_buf
IsStepped state.EndCr size bytes buf answer new_size rest new_buf = IsEndStepped bytes answer rest × (new_size ≡ size) × (new_buf ≡ buf)
IsStepped at size bytes buf answer new_size rest new_buf = IsByteStepped (place_at at size) size bytes answer new_size rest × (new_buf ≡ buf)
