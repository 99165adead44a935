-- A response's head as the record of its parts.
use Rattle.std.specs.Prelude.{◌≡◌, ◌⊎◌, ℕ, List, [], Option, None, unwrap_or, codes}
use Rattle.http.specs.StatusCode.{reason_phrase}
use Rattle.http.specs.declared.version.Version.{Version}
use Rattle.http.specs.declared.version.TheConstants.Version.{HTTP_11}
use Rattle.http_map.specs.HeaderMap.{Entries}
use Rattle.http_types.specs.declared.message.Flags.{Flags}
use Rattle.http_types.specs.Flags.{no_flags}

-- the reason is the response's own
pub record ResponseParts : Type 0 where
  pub version : Version
  pub status : ℕ
  pub headers : Entries
  pub reason : Option (List ℕ)
  pub flags : Flags

-- HTTP/1.1 and the status, and nothing more
abbrev pub fresh_response : ℕ → ResponseParts
fresh_response status = record { version = HTTP_11; status = status; headers = []; reason = None; flags = no_flags }

-- the text behind the status
abbrev pub reason_text : ResponseParts → List ℕ
reason_text head = unwrap_or head.reason (unwrap_or (reason_phrase head.status) (codes "<unknown status code>"))

-- CR or LF
abbrev pub IsLineByte : ℕ → Type 0
IsLineByte byte = (byte ≡ 13) ⊎ (byte ≡ 10)

-- nothing but a version and a status
pub record IsPlain (head : ResponseParts) : Type 0 where
  pub reason : head.reason ≡ None
  pub flags : head.flags ≡ no_flags
  pub headers : head.headers ≡ []

-- neither headers nor marks, and the rest as it was
abbrev pub cleared_response : ResponseParts → ResponseParts
cleared_response head = record head { headers = []; flags = no_flags }
