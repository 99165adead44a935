-- A builder of responses, and what its steps do.
use Rattle.std.specs.Prelude.{◌≡◌, ◌⊎◌, ℕ, List, Option, Some, None, option_map, Result, Ok, Err, IfOk, IfErr, OnOk, OnErr}
use Rattle.http_header.specs.Token.{lowercase}
use Rattle.http_header.specs.FieldName.{IsFieldName}
use Rattle.http_header.specs.FieldValue.{FieldValue, IsFieldValue}
use Rattle.http_map.specs.HeaderMap.{Entries, insert}
use Rattle.http_types.specs.Response.{FullResponse}
use Rattle.http_types.specs.ResponseHead.{ResponseParts, fresh_response}
use Rattle.http_types.specs.declared.error.HttpError.TheVariants.{Name, Value}
use Rattle.http_types.specs.declared.responses.builder.BuildError.{BuildError}
use Rattle.http_types.specs.declared.responses.builder.BuildError.TheVariants.{Reused, Http, NoMemory}

-- the head, until it is taken, and what the first failed step failed by, until it is told
pub record BuilderParts : Type 0 where
  pub head : Option ResponseParts
  pub error : Option BuildError

-- a builder of a response with this status alone
abbrev pub fresh_builder : ℕ → BuilderParts
fresh_builder status = record { head = Some (fresh_response status); error = None }

-- ---- steps: after a failed one, and without a head, a step does nothing

abbrev pub stepped : (ResponseParts → ResponseParts) → Option BuildError → Option ResponseParts → Option ResponseParts
stepped change (Some e) head = head
stepped change None head = option_map change head

-- a step that changes the head
abbrev pub on_head : (ResponseParts → ResponseParts) → BuilderParts → BuilderParts
on_head change b = record b { head = stepped change b.error b.head }

abbrev pub failed : BuildError → Option BuildError → Option ResponseParts → Option BuildError
failed e (Some earlier) head = Some earlier
failed e None None = None
failed e None (Some head) = Some e

-- a step that fails
abbrev pub failing : BuildError → BuilderParts → BuilderParts
failing e b = record b { error = failed e b.error b.head }

-- a step that wants memory changes the head, or fails by that want
abbrev pub Changes : (ResponseParts → ResponseParts) → BuilderParts → BuilderParts → Type 0
Changes change old new = (new ≡ on_head change old) ⊎ (new ≡ failing NoMemory old)

abbrev pub with_headers : (Entries → Entries) → ResponseParts → ResponseParts
with_headers change head = record head { headers = change head.headers }

-- A value under a name is refused where its bytes may not stand in a header, and else put in place of those there are.
pub record PutsValue (name : List ℕ) (value : FieldValue) (old new : BuilderParts) : Type 0 where
  pub valid : IsFieldValue value.bytes → Changes (with_headers (λ m. insert m name value)) old new
  pub refused : ¬ (IsFieldValue value.bytes) → (new ≡ failing (Http Value) old) ⊎ (new ≡ failing NoMemory old)

-- A name and a value: the name is tried before the value, and then both go into the headers.
pub record PutsPair (put : Entries → List ℕ → FieldValue → Entries) (text : List ℕ) (value : FieldValue) (old new : BuilderParts) : Type 0 where
  pub valid : IsFieldName text → IsFieldValue value.bytes → Changes (with_headers (λ m. put m (lowercase text) value)) old new
  pub no_name : ¬ (IsFieldName text) → new ≡ failing (Http Name) old
  pub no_value : IsFieldName text → ¬ (IsFieldValue value.bytes) → (new ≡ failing (Http Value) old) ⊎ (new ≡ failing NoMemory old)

-- ---- what a step does to a head that is there, and with which result

-- a name and a value were made of the text and the value, or which of them is refused
pub record MakesPair (text : List ℕ) (value : FieldValue) (result : Result (List ℕ × FieldValue) BuildError) : Type 0 where
  pub ok : IfOk result (λ pair. pair ≡ (lowercase text, value))
  pub valid : IsFieldName text → IsFieldValue value.bytes → IfErr result (λ e. e ≡ NoMemory)
  pub no_name : ¬ (IsFieldName text) → result ≡ Err (Http Name)
  pub no_value : IsFieldName text → ¬ (IsFieldValue value.bytes) → (result ≡ Err (Http Value)) ⊎ (result ≡ Err NoMemory)

-- they went into the headers
pub record SetsPair (put : Entries → List ℕ → FieldValue → Entries) (text : List ℕ) (value : FieldValue) (old new : ResponseParts) (result : Result (Unit {0}) BuildError) : Type 0 where
  pub ok : OnOk result (new ≡ with_headers (λ m. put m (lowercase text) value) old)
  pub err : OnErr result (new ≡ old)
  pub valid : IsFieldName text → IsFieldValue value.bytes → IfErr result (λ e. e ≡ NoMemory)
  pub no_name : ¬ (IsFieldName text) → result ≡ Err (Http Name)
  pub no_value : IsFieldName text → ¬ (IsFieldValue value.bytes) → (result ≡ Err (Http Value)) ⊎ (result ≡ Err NoMemory)

-- ---- the end: an error is told once, and else the head goes into the response

abbrev pub built : {B : Type 0} → Option BuildError → Option ResponseParts → B → Result (FullResponse B) BuildError
built (Some e) head body = Err e
built None None body = Err Reused
built None (Some head) body = Ok (record { head = head; body = body })

abbrev pub left_by : Option BuildError → Option ResponseParts → BuilderParts
left_by (Some e) head = record { head = head; error = None }
left_by None head = record { head = None; error = None }

-- what the builder gives
abbrev pub response_of : {B : Type 0} → BuilderParts → B → Result (FullResponse B) BuildError
response_of b body = built b.error b.head body

-- the builder behind that
abbrev pub left_behind : BuilderParts → BuilderParts
left_behind b = left_by b.error b.head
