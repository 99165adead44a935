-- The head of a request for a target, and that of an answer as it is shown.
use Rattle.std.specs.Prelude.{◌≡◌, ◌≢◌, ℕ, Bool, true, false, ◌&&◌, ◌||◌, not, ◌==◌, List, [], ◌∷◌, ◌++◌, fold, flat_map, codes, decimal, bytes_eq, if◌then◌else◌, Option, Some, None, is_none, is_some}
use Rattle.std.specs.List.{before_first, after_first}
use Rattle.std.specs.Option.{unwrap_or}
use Rattle.std.specs.Str.{trim}
use Rattle.std.specs.Io.KnownBytes.{Appends}
use Rattle.http.specs.declared.version.Version.{Version}
use Rattle.http.specs.declared.version.TheConstants.Version.{HTTP_10, HTTP_11}
use Rattle.http_header.specs.FieldValue.{plain_value}
use Rattle.http_header.specs.Token.{lowercase}
use Rattle.http_map.specs.HeaderMap.{Pair, Entries, append, append_all, contains_key, keys, pairs, remove}
use Rattle.http_types.specs.declared.requests.head.RequestHead.{RequestHead}
use Rattle.http_uri.specs.Uri.{HasParts, uri_scheme, uri_authority, uri_data}
use Rattle.h1_decoder.specs.declared.response.ResponseItem.{ResponseItem}
use Rattle.app_get.specs.Redirects.{hop_method, hop_has_body, hop_fields}
use Rattle.app_get.specs.declared.follow.Stage.{Stage}
use Rattle.app_get.specs.declared.options.Options.{Options}
use Rattle.app_get.specs.declared.target.Target.{Target}

-- ---- what is asked

-- something is sent
abbrev pub sends_body : Options → Bool
sends_body options = is_some options.file || is_some options.text

-- the user's own method, or the usual one
abbrev pub asked_method : Option (List ℕ) → Bool → Bool → List ℕ
asked_method (Some method) is_head has_body = method
asked_method None true has_body = codes "HEAD"
asked_method None false true = codes "POST"
asked_method None false false = codes "GET"

-- GET and HEAD without a body do nothing more when they are asked again. Of the user's own methods that isn't known.
abbrev pub is_repeatable : Option (List ℕ) → Bool → Bool
is_repeatable method has_body = is_none method && not has_body

-- the host and, where the URL names it, the port
abbrev pub target_authority : Target → List ℕ
target_authority target = unwrap_or (uri_authority target.uri) []

abbrev pub general_headers : List ℕ → Entries
general_headers authority =
    (codes "host", plain_value authority ∷ [])
    ∷ ((codes "user-agent", plain_value (codes "app_get/0.1.0") ∷ []) ∷ ((codes "accept", plain_value (codes "*/*") ∷ []) ∷ []))

-- the type of what is sent
abbrev pub body_type : Bool → List ℕ
body_type true = codes "application/x-www-form-urlencoded"
body_type false = codes "application/octet-stream"

abbrev pub typed : Bool → Bool → Entries → Entries
typed has_body is_form headers = if has_body then append headers (codes "content-type") (plain_value (body_type is_form)) else headers

-- without these names
abbrev pub remove_all : Entries → List (List ℕ) → Entries
remove_all headers names = fold (λ rest name. remove rest name) headers names

-- the user's own fields behind the others, in place of those of the same name
abbrev pub with_fields : Entries → Entries → Entries
with_fields fields headers = append_all (remove_all headers (keys fields)) (pairs fields)

abbrev pub asked_headers : List ℕ → Bool → Bool → Entries → Entries
asked_headers authority has_body is_form fields = with_fields fields (typed has_body is_form (general_headers authority))

-- It asks for the stage's target, by the user's own method, or by HEAD, by POST where something is sent, or by GET, as redirects
-- have changed it.
pub record AsksFor (options : Options) (stage : Stage) (head : RequestHead) : Type 0 where
  pub method : head.method ≡ hop_method stage.hop (asked_method options.method options.is_head (sends_body options))
  pub uri : HasParts head.uri (uri_scheme stage.target.uri) (uri_authority stage.target.uri) (uri_data stage.target.uri)
  pub version : head.version ≡ HTTP_11
  pub headers : head.headers ≡ asked_headers (target_authority stage.target) (hop_has_body stage.hop (sends_body options)) options.is_form (hop_fields stage.hop options.fields)

-- ---- a field of the user's own

-- what stands before the first colon, and what stands behind it without the blanks around it
abbrev pub name_part : List ℕ → List ℕ
name_part text = before_first (λ b. b == 58) text

abbrev pub value_part : List ℕ → List ℕ
value_part text = trim (after_first (λ b. b == 58) text)

-- the connection writes such a field itself
abbrev pub is_own : List ℕ → Bool
is_own name = bytes_eq name (codes "connection") || (bytes_eq name (codes "content-length") || bytes_eq name (codes "transfer-encoding"))

-- The field is added. It is none of the connection's own, and no second Host.
pub record AddsField (old : Entries) (text : List ℕ) (new : Entries) : Type 0 where
  pub added : new ≡ append old (lowercase (name_part text)) (plain_value (value_part text))
  pub free : is_own (lowercase (name_part text)) ≡ false
  pub one_host : lowercase (name_part text) ≡ codes "host" → contains_key old (codes "host") ≡ false

-- ---- what is shown

pub record IsVersionText (version : Version) (text : List ℕ) : Type 0 where
  pub old : version ≡ HTTP_10 → text ≡ codes "HTTP/1.0 "
  pub new : version ≢ HTTP_10 → text ≡ codes "HTTP/1.1 "

abbrev pub line_text : Pair → List ℕ
line_text pair = pair.0 ++ (codes ": " ++ (pair.1.bytes ++ codes "\n"))

abbrev pub lines_text : List Pair → List ℕ
lines_text pairs = flat_map line_text pairs

-- version, status and reason; each header in a line of its own; and an empty line
pub record IsHeadText (item : ResponseItem) (text : List ℕ) : Type 0 where
  pub version : List ℕ
  pub is_version : IsVersionText item.head.version version
  pub is_text : text ≡ version ++ (decimal item.head.status ++ (codes " " ++ (item.reason ++ (codes "\n" ++ (lines_text (pairs item.head.headers) ++ codes "\n")))))

-- the head is written out
pub record IsShown (item : ResponseItem) (old new : Option (List ℕ)) : Type 0 where
  pub text : List ℕ
  pub is_head : IsHeadText item text
  pub grew : Appends old new text
