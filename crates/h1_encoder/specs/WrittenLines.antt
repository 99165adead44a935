-- The header lines of an answer, pair by pair.
use Rattle.std.specs.Prelude.{◌≡◌, ℕ, ◌+◌, unwrap_or, Bool, not, ◌&&◌, ◌||◌, List, [], ◌∷◌, ◌++◌, bytes_eq, codes, if◌then◌else◌}
use Rattle.std.specs.List.{list_any}
use Rattle.http_map.specs.HeaderMap.{Pair}
use Rattle.http.specs.StatusCode.{code_digits, reason_phrase}
use Rattle.model_h1.specs.Request.{Header}
use Rattle.model_h1.specs.Answer.{AnswerHead}
use Rattle.model_h1.specs.AnswerText.{header_text}

-- the text is the old one with something behind it, or as it was
abbrev pub Grows : List ℕ → List ℕ → Type 0
Grows old new = (more : List ℕ) × (new ≡ old ++ more)

-- the status line without its line end
abbrev pub status_words : ℕ → AnswerHead → List ℕ
status_words minor answer =
    codes "HTTP/1." ++ ((48 + minor) ∷ (codes " " ++ (code_digits answer.status ++ (codes " "
    ++ unwrap_or answer.reason (unwrap_or (reason_phrase answer.status) (codes "<unknown status code>"))))))

-- a pair of a map as a line
abbrev pub line_of : Pair → Header
line_of p = record { name = p.0; value = p.1.bytes }

-- a name that frames a body
abbrev pub is_framing : List ℕ → Bool
is_framing name = bytes_eq name (codes "content-length") || bytes_eq name (codes "transfer-encoding")

-- a line of this name goes out, where those that frame a body do or don't
abbrev pub goes_out : Bool → List ℕ → Bool
goes_out with_framing name = not (bytes_eq name (codes "connection")) && (not (is_framing name) || with_framing)

-- the text of a pair, if it goes out
abbrev pub pair_text : Bool → Bool → Pair → List ℕ
pair_text camel with_framing p = if goes_out with_framing p.0 then header_text camel (line_of p) else []

-- the text of all pairs
abbrev pub pairs_text : Bool → Bool → List Pair → List ℕ
pairs_text camel with_framing [] = []
pairs_text camel with_framing (p ∷ ps) = pair_text camel with_framing p ++ pairs_text camel with_framing ps

-- one of the pairs is a date
abbrev pub has_date : List Pair → Bool
has_date ps = list_any (λ p. bytes_eq p.0 (codes "date")) ps

-- the head of an upgrade, up to the answer to the key (RFC 6455, section 4.2.2)
abbrev pub accept_start : ℕ → List ℕ
accept_start minor =
    codes "HTTP/1." ++ ((48 + minor)
    ∷ codes " 101 Switching Protocols\r\nconnection: upgrade\r\nupgrade: websocket\r\nsec-websocket-accept: ")
