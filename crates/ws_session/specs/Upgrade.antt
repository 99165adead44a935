-- What a request says of an upgrade, and the checks that it fails (RFC 6455, section 4.2.1).
use Rattle.std.specs.Prelude.{◌≡◌, ℕ, Bool, false, ◌||◌, List, [], ◌∷◌, map, flat_map, bytes_eq, codes, Option, Some, None, Result, Ok, Err}
use Rattle.std.specs.Borrow.{Bor}
use Rattle.http_header.specs.FieldValue.{FieldValue}
use Rattle.http_map.specs.HeaderMap.{Entry, get_all}
use Rattle.http_types.specs.HttpMessage.{has_word}
use Rattle.http_types.specs.declared.requests.head.RequestHead.{RequestHead}
use Rattle.model_h1.specs.Request.{Header, Head, no_body, keep_alive}
use Rattle.model_h1.specs.LengthTable.{values_of}
use Rattle.model_h1.specs.Handshake as model
use Rattle.ws_session.specs.declared.verify.HandshakeError.{HandshakeError}
use Rattle.ws_session.specs.declared.verify.HandshakeError.TheVariants.{GetMethodRequired, NoWebsocketUpgrade, NoConnectionUpgrade, NoVersionHeader, UnsupportedVersion, BadWebsocketKey}

-- the bytes of values
abbrev pub value_bytes : List FieldValue → List (List ℕ)
value_bytes values = map (λ v. v.bytes) values

-- the request has the method of the head, and under each name the values that the head has there, in order
pub record SaysUpgrade (request : RequestHead) (h : Head) : Type 0 where
  pub method : request.method ≡ h.method
  pub values : (name : List ℕ) → value_bytes (get_all request.headers name) ≡ values_of name h.headers

-- the lines under a name of a map
abbrev pub lines_of : Entry → List Header
lines_of entry = map (λ value. record { name = entry.0; value = value.bytes }) entry.1

-- The head that a request says by itself, also one that was made by hand: its method, and its headers name by name. No
-- check looks at the other parts.
abbrev pub head_said : RequestHead → Head
head_said request = record {
  method = request.method;
  target = [];
  minor = 1;
  headers = flat_map lines_of request.headers;
  body = no_body;
  connection = keep_alive;
  expects = false;
}

-- the first value, if there is one
abbrev pub IsFirst : Option (Bor FieldValue) → List (List ℕ) → Type 0
IsFirst None values = values ≡ []
IsFirst (Some value) values = (more : List (List ℕ)) × (values ≡ value.now.bytes ∷ more)

-- a version that is spoken
abbrev pub is_spoken : List ℕ → Bool
is_spoken version = bytes_eq version (codes "13") || bytes_eq version (codes "8") || bytes_eq version (codes "7")

-- the error for a check that fails
abbrev pub error_of : model.HandshakeError → HandshakeError
error_of model.get_method_required = GetMethodRequired
error_of model.no_websocket_upgrade = NoWebsocketUpgrade
error_of model.no_connection_upgrade = NoConnectionUpgrade
error_of model.no_version_header = NoVersionHeader
error_of model.unsupported_version = UnsupportedVersion
error_of model.bad_websocket_key = BadWebsocketKey

-- it is the error for the check that fails
abbrev pub FailsWith : HandshakeError → Option model.HandshakeError → Type 0
FailsWith e None = ⊥
FailsWith e (Some failing) = e ≡ error_of failing

-- the answer is the first check that fails, or that none does
abbrev pub Verified : {T : Type 0} → Result T HandshakeError → Option model.HandshakeError → Type 0
Verified (Ok _) failing = failing ≡ None
Verified (Err e) failing = FailsWith e failing

-- the word is found in a text as the definitions find it
abbrev pub IsFoundAlike : List ℕ → Type 0
IsFoundAlike word = (text : List ℕ) → has_word word text ≡ model.has_word word text
