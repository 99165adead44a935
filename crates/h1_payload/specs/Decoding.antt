-- What a payload decoder reads and answers.
use Rattle.std.specs.Prelude.{◌≡◌, ℕ, ◌<◌, ⊤, Bool, true, false, List, [], ◌++◌, length, take, drop, map, nat_le, if◌then◌else◌, Option, Some, None, Result, Ok, Err}
use Rattle.std.specs.List.{AllByRecursion}
use Rattle.model_h1.specs.ChunkedText.{Trailer, IsTrailer, ChunkedText, content, section_text}
use Rattle.model_h1.specs.Reading.{Ending, Reading, goes_on, is_broken, ends_before, only, with_trailers, read}
use Rattle.http_map.specs.HeaderMap.{Entries}
use Rattle.model_h1.specs.Parse.{trailer_header}
use Rattle.model_state.specs.Kept as machine
use Rattle.model_state.specs.Kept.{no_rest, raw_rest, fixed_rest, chunks_rest, frames_rest}
use Rattle.model_state.specs.Pull as pulls
use Rattle.model_state.specs.Pull.{IsPull}
use Rattle.http_framing.specs.HeaderLines.{header_map}
use Rattle.h1_payload.specs.declared.item.DecodeError.{DecodeError}
use Rattle.h1_payload.specs.declared.item.DecodeError.TheVariants.{Invalid, NoMemory}
use Rattle.h1_payload.specs.declared.item.PayloadItem.{PayloadItem}
use Rattle.h1_payload.specs.declared.item.PayloadItem.TheVariants as items
use Rattle.h1_payload.specs.declared.pulled.Pulled.{Pulled}
use Rattle.h1_payload.specs.declared.pulled.Pulled.TheVariants as pulled
use Rattle.h1_payload.specs.Answers.{is_fault}
use Rattle.h1_payload.specs.Rests.{IsPulled}

-- what is left of the body, and whether it is broken
pub record Decoding : Type 0 where
  pub rest : machine.Rest
  pub is_broken : Bool

-- what bytes say of a body: its bytes, the trailers of one that ends, and how it ends
pub record Payload : Type 0 where
  pub body : List ℕ
  pub trailers : Entries
  pub ending : Ending

-- nothing but how it ends
abbrev pub no_payload : Ending → Payload
no_payload ending = record { body = []; trailers = []; ending = ending }

-- what bytes say of what is left of a body, with the text of its trailers
abbrev pub reading_of : machine.Rest → List ℕ → Reading
reading_of no_rest bytes = only (ends_before bytes)
reading_of raw_rest bytes = record { body = bytes; trailers = []; ending = goes_on }
reading_of (fixed_rest n) bytes =
    record {
      body = take n bytes;
      trailers = [];
      ending = if nat_le n (length bytes) then ends_before (drop n bytes) else goes_on;
    }
reading_of (chunks_rest place section) bytes = with_trailers section (read place bytes)
reading_of (frames_rest under_way limit) bytes = only goes_on

-- the text is that of the lines whose headers are in the map
pub record AreTrailers (text : List ℕ) (entries : Entries) : Type 0 where
  pub lines : List Trailer
  pub valid : AllByRecursion IsTrailer lines
  pub spelled : section_text lines ≡ text
  pub entries_are : entries ≡ header_map (map trailer_header lines)

-- only a body that ends has trailers
abbrev pub HasTrailers : Ending → List ℕ → Entries → Type 0
HasTrailers (ends_before rest) text entries = AreTrailers text entries
HasTrailers ending text entries = entries ≡ []

-- a reading, with the trailers in a map
pub record IsReadAs (t : Reading) (p : Payload) : Type 0 where
  pub body : p.body ≡ t.body
  pub ending : p.ending ≡ t.ending
  pub trailers : HasTrailers t.ending t.trailers p.trailers

-- what bytes say to a decoder; what is broken stays so
abbrev pub ReadsBy : Bool → machine.Rest → List ℕ → Payload → Type 0
ReadsBy true rest bytes p = p ≡ no_payload is_broken
ReadsBy false rest bytes p = IsReadAs (reading_of rest bytes) p

abbrev pub Reads : Decoding → List ℕ → Payload → Type 0
Reads d bytes p = ReadsBy d.is_broken d.rest bytes p

-- an answered item in front of what is said
abbrev pub given : PayloadItem → Payload → Payload
given (items.Chunk bytes) p = record p { body = bytes ++ p.body }
given (items.Trailers entries) p = record p { trailers = entries ++ p.trailers }
given items.Eof p = p

-- what a decoder answers to what was pulled
abbrev pub item_of : Pulled → Result (Option PayloadItem) DecodeError
item_of (pulled.Bytes bytes) = Ok (Some (items.Chunk bytes))
item_of (pulled.Trailers entries) = Ok (Some (items.Trailers entries))
item_of pulled.End = Ok (Some items.Eof)
item_of (pulled.Broken fault) = Err Invalid
item_of pulled.Pending = Ok None

-- What a decoder answers, keeps and leaves: a pull of what is left, while more bytes may come. Where the body is broken
-- it refuses for good; and where memory was wanting all stays.
abbrev pub IsDecodedBy : Bool → Decoding → List ℕ → Result (Option PayloadItem) DecodeError → Decoding → List ℕ → Type 0
IsDecodedBy true old bytes result new rest = (result ≡ Err Invalid) × (new ≡ old) × (rest ≡ bytes)
IsDecodedBy false old bytes (Err NoMemory) new rest = (new ≡ old) × (rest ≡ bytes)
IsDecodedBy false old bytes result new rest =
    (p : pulls.Pulled) × (answer : Pulled) × IsPull false old.rest bytes p × IsPulled p answer new.rest rest × (result ≡ item_of answer)
    × (new.is_broken ≡ is_fault answer)

abbrev pub IsDecoded : Decoding → List ℕ → Result (Option PayloadItem) DecodeError → Decoding → List ℕ → Type 0
IsDecoded old bytes result new rest = IsDecodedBy old.is_broken old bytes result new rest

-- an answer that is a chunk, or trailers, has some
abbrev pub HasSome : Option PayloadItem → Type 0
HasSome (Some (items.Chunk bytes)) = 0 < length bytes
HasSome (Some (items.Trailers entries)) = 0 < length entries
HasSome answer = ⊤

-- the bytes have no byte of the body, and neither its end nor a fault
abbrev pub IsWaiting : Decoding → List ℕ → Type 0
IsWaiting d bytes = (p : Payload) → Reads d bytes p → p ≡ no_payload goes_on

-- whatever follows, they have no byte of the body, and it is broken
abbrev pub IsRefused : Decoding → List ℕ → Type 0
IsRefused d bytes = (z : List ℕ) (p : Payload) → Reads d (bytes ++ z) p → p ≡ no_payload is_broken

-- no byte of the body yet, nor its end
abbrev pub waiting_payload : Payload
waiting_payload = no_payload goes_on

-- the error says that the body is broken
abbrev pub Breaks : DecodeError → Payload → Type 0
Breaks error p = (error ≡ Invalid) × (p ≡ no_payload is_broken)

-- after an error the bytes stay: a broken body stays broken, and where memory ran out the decoder is as before
abbrev pub LeftAfter : DecodeError → Decoding → List ℕ → Decoding → List ℕ → Type 0
LeftAfter Invalid old bytes new rest = (new.is_broken ≡ true) × (rest ≡ bytes)
LeftAfter NoMemory old bytes new rest = (new ≡ old) × (rest ≡ bytes)

-- what the text of a body in chunks says, in front of these bytes
abbrev pub chunked_payload : ChunkedText → List ℕ → Payload
chunked_payload t rest =
    record { body = content t; trailers = header_map (map trailer_header t.trailers); ending = ends_before rest }

-- what bytes say of a body of so many: the first ones, and the end once these are there
abbrev pub length_payload : ℕ → List ℕ → Payload
length_payload n bytes =
    record {
      body = take n bytes;
      trailers = [];
      ending = if nat_le n (length bytes) then ends_before (drop n bytes) else goes_on;
    }
