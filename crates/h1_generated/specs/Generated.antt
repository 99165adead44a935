-- The exchanges that the generator makes of a seed, as one list of events.
use Rattle.std.specs.Prelude.{ℕ, zero, suc, ◌+◌, ◌*◌, ◌/◌, ◌%◌, ◌^◌, ◌==◌, true, false, List, [], ◌∷◌, ◌++◌, length, replicate, codes, decimal, if◌then◌else◌, None}
use Rattle.std.specs.Fmt.{digits}
use Rattle.model_h1.specs.Setting.{Setting, timeout}
use Rattle.model_h1.specs.Answer.{AnswerHead, BodySize, size_of, size_stream}
use Rattle.model_h1.specs.Event.{Event}
use Rattle.model_h1.specs.Event as on

-- the connection's setting
abbrev pub setting : Setting
setting =
    record {
      keep_alive = timeout 5000;
      request_timeout = 5000;
      disconnect_timeout = 0;
      allows_half_closed = true;
      write_buffer = 32768;
      hold_size = 131072;
    }

-- ---- what is drawn

-- the state that follows this one
abbrev pub next_state : ℕ → ℕ
next_state x = (x * 6364136223846793005 + 1442695040888963407) % 2 ^ 64

-- what is drawn at a state: its upper bits
abbrev pub drawn : ℕ → ℕ
drawn x = x / 2 ^ 33

-- a request without a body, of GET or of HEAD, or one with a body of a stated length or in chunks
pub data Kind : Type 0 where
  get head sized chunked : Kind

abbrev pub kind_numbered : ℕ → Kind
kind_numbered number =
    if number == 0 then get
    else (if number == 1 then sized
    else (if number == 2 then chunked else head))

-- which exchange it is, and how many bytes its bodies have: from 1 to 1000
abbrev pub kind_of : ℕ → Kind
kind_of r = kind_numbered (r % 4)

abbrev pub len_of : ℕ → ℕ
len_of r = r / 4 % 1000 + 1

-- ---- requests

-- bytes of a body
abbrev pub letters : ℕ → List ℕ
letters n = replicate n 97

abbrev pub method_of : Kind → List ℕ
method_of get = codes "GET"
method_of head = codes "HEAD"
method_of _ = codes "POST"

-- the line that frames the body (RFC 7230, section 3.3)
abbrev pub framing_line : Kind → ℕ → List ℕ
framing_line sized n = codes "content-length: " ++ (decimal n ++ codes "\r\n")
framing_line chunked n = codes "transfer-encoding: chunked\r\n"
framing_line _ n = []

-- the head of the k-th request, whose target is its number
unfoldable pub head_text : Kind → ℕ → ℕ → List ℕ
head_text kind k n =
    method_of kind ++ (codes " /" ++ (decimal k ++ (codes " HTTP/1.1\r\n" ++ (framing_line kind n ++ codes "\r\n"))))

-- one chunk, its size in upper-case hexadecimal digits, and the end (section 4.1)
abbrev pub one_chunk : List ℕ → List ℕ
one_chunk bytes = digits 16 true (length bytes) ++ (codes "\r\n" ++ (bytes ++ codes "\r\n0\r\n\r\n"))

-- bytes as the body of such a request
abbrev pub framed : Kind → List ℕ → List ℕ
framed sized bytes = bytes
framed chunked bytes = one_chunk bytes
framed _ bytes = []

unfoldable pub body_text : Kind → ℕ → List ℕ
body_text kind n = framed kind (letters n)

-- ---- events

-- 200, with no header of its own
abbrev pub fine : AnswerHead
fine =
    record {
      status = 200;
      reason = None;
      closes = false;
      keeps_alive = false;
      upgrades = false;
      no_chunking = false;
      in_camel_case = false;
      headers = [];
    }

-- the whole body is pulled, up to its end, and as many bytes are sent back
abbrev pub echo : BodySize → ℕ → List Event
echo size n = on.pull ∷ on.pull ∷ on.answer fine size ∷ on.chunk (letters n) ∷ on.body_end ∷ []

-- what is done with a request; the answer to a HEAD states a length and has no body
abbrev pub answering : Kind → ℕ → List Event
answering get n = on.answer fine (size_of 0) ∷ []
answering head n = on.answer fine (size_of n) ∷ on.body_end ∷ []
answering sized n = echo (size_of n) n
answering chunked n = echo size_stream n

-- The k-th exchange: its request comes in one read and is handed out, it is answered, and all that waits is written.
unfoldable pub exchange : Kind → ℕ → ℕ → List Event
exchange kind k n =
    on.read (head_text kind k n ++ body_text kind n) ∷ on.next ∷ (answering kind n ++ on.write 65536 ∷ [])

-- so many exchanges from the k-th on, drawn at the states that follow this one
unfoldable pub exchanges_from : ℕ → ℕ → ℕ → List Event
exchanges_from x k zero = []
exchanges_from x k (suc count) =
    let y = next_state x in exchange (kind_of (drawn y)) k (len_of (drawn y)) ++ exchanges_from y (k + 1) count

-- all exchanges of a seed, behind the first tick
abbrev pub generated : ℕ → ℕ → List Event
generated seed count = on.tick 0 ∷ exchanges_from seed 1 count
