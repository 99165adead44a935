-- What the head of a request says, as plain values (RFC 7230, sections 2.6, 3 and 5).
use Rattle.std.specs.Prelude.{ℕ, Bool, true, false, List}

-- a header line: its name in lower case, and its value without the white space around it
pub record Header : Type 0 where
  pub name : List ℕ
  pub value : List ℕ

-- what becomes of the connection behind a message (section 6.1)
pub data ConnectionType : Type 0 where
  close keep_alive upgrade : ConnectionType

-- Where a request's body ends (section 3.3.3): there is none, it has so many bytes, it comes in chunks,
-- or it goes on to the end of the input.
pub data BodyKind : Type 0 where
  no_body chunked_body raw_body : BodyKind
  fixed_body : ℕ → BodyKind

abbrev pub has_body : BodyKind → Bool
has_body no_body = false
has_body _ = true

abbrev pub is_chunked_kind : BodyKind → Bool
is_chunked_kind chunked_body = true
is_chunked_kind _ = false

abbrev pub is_raw_kind : BodyKind → Bool
is_raw_kind raw_body = true
is_raw_kind _ = false

-- HTTP/1.minor; the headers are in line order, and expects says that the client waits for 100 Continue
pub record Head : Type 0 where
  pub method : List ℕ
  pub target : List ℕ
  pub minor : ℕ
  pub headers : List Header
  pub body : BodyKind
  pub connection : ConnectionType
  pub expects : Bool

-- what is wrong with a head
pub data Fault : Type 0 where
  malformed too_large : Fault

-- what a whole head is read as
pub data Reading : Type 0 where
  head_is : Head → Reading
  faulty : Fault → Reading
