-- Where a URL and a connection lead.
use Rattle.std.specs.Prelude.{◌≡◌, ◌≢◌, ℕ, Bool, true, false, ◌&&◌, ◌==◌, List, [], codes, option_map, bytes_eq, string_bytes, ⊤}
use Rattle.std.specs.Option.{unwrap_or}
use Rattle.http_uri.specs.Grammar.{authority_host}
use Rattle.http_uri.specs.Uri.{uri_authority, Spells, SpellsNone}
use Rattle.url.specs.Parts.{Parts, has_credentials, serialize}
use Rattle.app_get.specs.declared.error.GetError.{GetError}
use Rattle.app_get.specs.declared.error.GetError.TheVariants as get_error
use Rattle.app_get.specs.declared.link.Place.{Place}
use Rattle.app_get.specs.declared.target.Target.{Target}

-- It leads where the URL does, to the port that it names or else to 80, and is spelled as it is.
pub record IsTargetOf (url : Parts) (target : Target) : Type 0 where
  pub spelled : Spells (serialize url) target.uri
  pub port : target.port ≡ unwrap_or url.port 80

-- Why a URL isn't taken: its scheme is another one than http, it names a user or a password, or it is none that a request can name. Memory
-- may run out.
abbrev pub IsNoTarget : Parts → GetError → Type 0
IsNoTarget url get_error.Scheme = bytes_eq url.scheme (codes "http") ≡ false
IsNoTarget url get_error.User = has_credentials url ≡ true
IsNoTarget url get_error.Url = SpellsNone (serialize url)
IsNoTarget url get_error.NoMemory = ⊤
IsNoTarget url _ = ⊥

-- it isn't taken
abbrev pub HasNoTarget : Parts → Type 0
HasNoTarget url = (error : GetError) × (error ≢ get_error.NoMemory) × IsNoTarget url error

-- the host that a target's URL names, an address of IPv6 in its brackets
abbrev pub target_host : Target → List ℕ
target_host target = unwrap_or (option_map authority_host (uri_authority target.uri)) []

-- the same port of the same host
abbrev pub is_place_of : Place → Target → Bool
is_place_of place target = (place.port == target.port) && bytes_eq (string_bytes place.host) (target_host target)

pub record IsAt (place : Place) (target : Target) : Type 0 where
  pub host : string_bytes place.host ≡ target_host target
  pub port : place.port ≡ target.port
