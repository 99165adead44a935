-- How the header lines of an answer frame its body, as its client reads them (RFC 7230, section 3.3.3), and what they
-- say of the connection (section 6.1). Each is a function of the status, the version and the whole list of lines.
use Rattle.std.specs.Prelude.{ℕ, Bool, false, not, ◌&&◌, ◌||◌, List, [], ◌∷◌, codes, bytes_eq, nat_lt, ◌==◌, if◌then◌else◌, Option, Some, None}
use Rattle.model_h1.specs.Request.{Header, ConnectionType, close, BodyKind, no_body, fixed_body, chunked_body, raw_body}
use Rattle.model_h1.specs.LengthTable.{values_of, says, stated_length, is_length_refused, connection_of}

-- HTTP/1.1 takes one Transfer-Encoding line, and it says chunked or identity; HTTP/1.0 knows none, and passes over it
abbrev pub is_answer_coding_refused : ℕ → List (List ℕ) → Bool
is_answer_coding_refused minor [] = false
is_answer_coding_refused minor (value ∷ []) = (minor == 1) && not (says value (codes "chunked") || says value (codes "identity"))
is_answer_coding_refused minor (value ∷ second ∷ more) = minor == 1

-- the one line that says chunked, in HTTP/1.1
abbrev pub comes_in_chunks : ℕ → List (List ℕ) → Bool
comes_in_chunks minor (value ∷ []) = (minor == 1) && says value (codes "chunked")
comes_in_chunks minor _ = false

-- the lines frame no body: a length or a coding that is refused
abbrev pub is_answer_refused : ℕ → List Header → Bool
is_answer_refused minor headers =
    is_length_refused (values_of (codes "content-length") headers)
    || is_answer_coding_refused minor (values_of (codes "transfer-encoding") headers)

-- a body of a stated length, and without one a body that goes on to the end of the input
abbrev pub stated_body : Option ℕ → BodyKind
stated_body (Some n) = if nat_lt 0 n then fixed_body n else no_body
stated_body None = raw_body

-- a status after whose head no body follows: 1xx, 204 and 304, but for a 101, which passes on what follows it
abbrev pub has_no_content : ℕ → Bool
has_no_content status = (nat_lt status 200 && not (status == 101)) || (status == 204) || (status == 304)

-- where the body of an answer ends whose lines aren't refused: chunks come before a length
abbrev pub answer_body : ℕ → ℕ → List Header → BodyKind
answer_body minor status headers =
    if has_no_content status then no_body
    else (if status == 101 then raw_body
    else (if comes_in_chunks minor (values_of (codes "transfer-encoding") headers) then chunked_body
    else stated_body (stated_length (values_of (codes "content-length") headers))))

-- the body of an answer, or none where its lines are refused
abbrev pub answer_kind : ℕ → ℕ → List Header → Option BodyKind
answer_kind minor status headers = if is_answer_refused minor headers then None else Some (answer_body minor status headers)

-- the body that follows an answer to a request of this method: after HEAD there is none, whatever the head says
abbrev pub body_to : List ℕ → BodyKind → BodyKind
body_to method kind = if bytes_eq method (codes "HEAD") then no_body else kind

-- only the end of the input ends the body, and the connection goes on to no other protocol
abbrev pub ends_with_input : ℕ → BodyKind → Bool
ends_with_input status raw_body = not (status == 101)
ends_with_input status _ = false

-- what becomes of the connection after an answer: a body that ends with the input closes it
abbrev pub answer_connection : ℕ → ℕ → List Header → BodyKind → ConnectionType
answer_connection minor status headers kind = if ends_with_input status kind then close else connection_of minor headers
