-- The opening handshake of WebSocket, as a server checks and answers it (RFC 6455, sections 1.3 and 4.2).
use Rattle.std.specs.Prelude.{ℕ, Bool, true, false, not, ◌&&◌, ◌||◌, List, [], ◌∷◌, ◌++◌, codes, bytes_eq, if◌then◌else◌, Option, Some, None}
use Rattle.std.specs.Option.{option_or}
use Rattle.http_header.specs.Token.{lowercase}
use Rattle.http_header.specs.FieldValue.{is_visible_text}
use Rattle.sha1.specs.Sha1.{sha1}
use Rattle.base64.specs.Rfc4648.{encode}
use Rattle.model_h1.specs.Request.{Head}
use Rattle.model_h1.specs.LengthTable.{values_of}
use Rattle.model_h1.specs.Answer.{AnswerHead}

-- the check that a request fails, in the order in which they are made
pub data HandshakeError : Type 0 where
  get_method_required no_websocket_upgrade no_connection_upgrade : HandshakeError
  no_version_header unsupported_version bad_websocket_key : HandshakeError

-- the text has the word somewhere, whatever its case
unfoldable pub has_word : List ℕ → List ℕ → Bool
has_word word [] = bytes_eq word []
has_word word (b ∷ bytes) = begins word (b ∷ bytes) || has_word word bytes
  where
    begins : List ℕ → List ℕ → Bool
    begins [] text = true
    begins (w ∷ ws) [] = false
    begins (w ∷ ws) (t ∷ ts) = bytes_eq (lowercase (t ∷ [])) (w ∷ []) && begins ws ts

-- the first value of this name is readable and has the word
abbrev pub first_has_word : List ℕ → List (List ℕ) → Bool
first_has_word word [] = false
first_has_word word (value ∷ more) = is_visible_text value && has_word word value

-- the first value is one of the versions that are spoken
abbrev pub version_error : List (List ℕ) → Option HandshakeError
version_error [] = Some no_version_header
version_error (value ∷ more) =
    if bytes_eq value (codes "13") || bytes_eq value (codes "8") || bytes_eq value (codes "7") then None
    else Some unsupported_version

abbrev pub key_error : List (List ℕ) → Option HandshakeError
key_error [] = Some bad_websocket_key
key_error (key ∷ more) = None

-- the first failing check of a request (section 4.2.1)
unfoldable pub handshake_error : Head → Option HandshakeError
handshake_error request =
    if not (bytes_eq request.method (codes "GET")) then Some get_method_required
    else (if not (first_has_word (codes "websocket") (values_of (codes "upgrade") request.headers)) then Some no_websocket_upgrade
    else (if not (first_has_word (codes "upgrade") (values_of (codes "connection") request.headers)) then Some no_connection_upgrade
    else (option_or (version_error (values_of (codes "sec-websocket-version") request.headers))
    (key_error (values_of (codes "sec-websocket-key") request.headers)))))

-- base64 with padding (RFC 4648, section 4)
unfoldable pub base64 : List ℕ → List ℕ
base64 bytes = encode (codes "ABCDEFGHIJKLMNOPQRSTUVWXYZabcdefghijklmnopqrstuvwxyz0123456789+/") 61 true bytes

-- the answer to a key: base64 of the SHA-1 digest of the key and a fixed text (section 1.3)
abbrev pub accept_key : List ℕ → List ℕ
accept_key key = base64 (sha1 (key ++ codes "258EAFA5-E914-47DA-95CA-C5AB0DC85B11"))

-- of several keys the first counts
abbrev pub key_of : List (List ℕ) → List ℕ
key_of [] = []
key_of (key ∷ more) = key

-- the answer to the key of a request
abbrev pub accept_key_of : Head → List ℕ
accept_key_of request = accept_key (key_of (values_of (codes "sec-websocket-key") request.headers))

-- the head that answers a request whose checks pass, by the answer to its key (section 4.2.2)
abbrev pub accepting_head : List ℕ → AnswerHead
accepting_head key =
    record {
      status = 101;
      reason = None;
      closes = false;
      keeps_alive = false;
      upgrades = true;
      no_chunking = false;
      in_camel_case = false;
      headers = record { name = codes "upgrade"; value = codes "websocket" }
          ∷ record {
            name = codes "sec-websocket-accept";
            value = key;
          } ∷ [];
    }
