-- What a reader of bodies in chunks keeps, and what it takes.
use Rattle.std.specs.Prelude.{◌≡◌, ℕ, ◌+◌, ◌<◌, ◌≤◌, ◌⊎◌, Bool, true, false, List, [], ◌++◌, length, ⊤}
use Rattle.httparse.specs.Ascii.{crlf_bytes}
use Rattle.model_h1.specs.ChunkedText.{MAX_TRAILER_BYTES}
use Rattle.model_h1.specs.Place.{Place, done, after}
use Rattle.model_h1.specs.Reading.{ends_before, at_end, read}
use Rattle.model_h1.specs.TakeNext.{Next, chunk, waits, ended, breaks, take_next}
use Rattle.h1_payload.specs.HeaderMaps.{IsMapOf}
use Rattle.h1_payload.specs.declared.pulled.BodyFault.TheVariants.{Corrupted, Incomplete}
use Rattle.h1_payload.specs.declared.pulled.Pulled.{Pulled}
use Rattle.h1_payload.specs.declared.pulled.Pulled.TheVariants as pulled

-- the place, and the text of the trailer lines so far
pub record Reader : Type 0 where
  pub place : Place
  pub section : List ℕ

-- whatever follows, with the text so far no more trailer bytes are read than may come
abbrev pub HasRoom : Place → List ℕ → Type 0
HasRoom place section = (z : List ℕ) → length section + length (read place z).trailers ≤ MAX_TRAILER_BYTES

-- What a reader answers to this next part, with these bytes of trailer lines in front of it, and what it then keeps
-- and leaves. A fault leaves all as it was.
abbrev pub IsTakenBy : Bool → Reader → List ℕ → Next → List ℕ → Pulled → Reader → List ℕ → Type 0
IsTakenBy is_ended old bytes next noted (pulled.Bytes given) new rest =
    (next ≡ chunk given new.place rest) × (new.section ≡ old.section ++ noted)
IsTakenBy is_ended old bytes next noted (pulled.Trailers entries) new rest =
    (next ≡ ended rest) × (0 < length (old.section ++ noted)) × IsMapOf ((old.section ++ noted) ++ crlf_bytes) entries
IsTakenBy is_ended old bytes next noted pulled.End new rest = (next ≡ ended rest) × (old.section ++ noted ≡ [])
IsTakenBy is_ended old bytes next noted (pulled.Broken Corrupted) new rest = (next ≡ breaks) × (new ≡ old) × (rest ≡ bytes)
IsTakenBy is_ended old bytes next noted (pulled.Broken Incomplete) new rest =
    (is_ended ≡ true) × ((place : Place) × (next ≡ waits place)) × (new ≡ old) × (rest ≡ bytes)
IsTakenBy is_ended old bytes next noted pulled.Pending new rest =
    (is_ended ≡ false) × (next ≡ waits new.place) × (new.section ≡ old.section ++ noted) × (rest ≡ [])

-- what is answered at the end, behind a section of this text
abbrev pub IsEndTaken : List ℕ → Pulled → Type 0
IsEndTaken text (pulled.Trailers entries) = (0 < length text) × IsMapOf (text ++ crlf_bytes) entries
IsEndTaken text pulled.End = text ≡ []
IsEndTaken text answer = ⊥

-- the same for what comes next in the bytes
abbrev pub IsTaken : Bool → Reader → List ℕ → Pulled → Reader → List ℕ → Type 0
IsTaken is_ended old bytes answer new rest =
    let t = take_next old.place bytes in IsTakenBy is_ended old bytes t.next t.trailers answer new rest

-- taking this needs no memory: a fault, an end without trailers, and nothing where no text has to be kept
abbrev pub TakesNone : Bool → List ℕ → Next → List ℕ → Type 0
TakesNone is_ended section (chunk given next behind) noted = ⊥
TakesNone is_ended section (waits next) noted = (is_ended ≡ true) ⊎ (noted ≡ [])
TakesNone is_ended section (ended behind) noted = section ++ noted ≡ []
TakesNone is_ended section breaks noted = ⊤

abbrev pub NeedsNoMemory : Bool → Reader → List ℕ → Type 0
NeedsNoMemory is_ended old bytes = let t = take_next old.place bytes in TakesNone is_ended old.section t.next t.trailers

-- the body's end was passed, and these bytes stand behind it
abbrev pub IsPassedBy : Reader → List ℕ → List ℕ → Type 0
IsPassedBy old bytes rest = (read old.place bytes).ending ≡ ends_before rest

-- all bytes were passed, and the body's end isn't among them
pub record IsNotPassedBy (old : Reader) (bytes : List ℕ) (new : Reader) (rest : List ℕ) : Type 0 where
  pub place : new.place ≡ after old.place bytes
  pub section : new.section ≡ []
  pub all : rest ≡ []
  pub ending : (read old.place bytes).ending ≡ at_end new.place
  pub goes_on : ¬ (new.place ≡ done)
