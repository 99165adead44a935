-- What is asked after a redirect (RFC 9110, section 15.4).
use Rattle.std.specs.Prelude.{◌≡◌, ℕ, Bool, ◌&&◌, ◌||◌, not, ◌==◌, List, codes, bytes_eq, if◌then◌else◌}
use Rattle.http_map.specs.HeaderMap.{Entries, remove}
use Rattle.app_get.specs.Places.{target_host}
use Rattle.app_get.specs.declared.redirect.Hop.{Hop}
use Rattle.app_get.specs.declared.target.Target.{Target}

abbrev pub is_redirect : ℕ → Bool
is_redirect status = status == 301 || (status == 302 || (status == 303 || (status == 307 || status == 308)))

-- 303 leads to a GET unless HEAD was asked. So do 301 and 302 after a POST, as in browsers.
abbrev pub turns_to_get : ℕ → List ℕ → Bool
turns_to_get status method =
    (status == 303 && not (bytes_eq method (codes "HEAD"))) || ((status == 301 || status == 302) && bytes_eq method (codes "POST"))

-- the same port of the same host
abbrev pub is_same_place : Target → Target → Bool
is_same_place old new = (old.port == new.port) && bytes_eq (target_host old) (target_host new)

-- what a redirect changes stays so after further ones
pub record IsHop (old : Hop) (status : ℕ) (method : List ℕ) (same_place : Bool) (new : Hop) : Type 0 where
  pub by_get : new.by_get ≡ (old.by_get || turns_to_get status method)
  pub is_foreign : new.is_foreign ≡ (old.is_foreign || not same_place)

-- a GET in place of the first method
abbrev pub hop_method : Hop → List ℕ → List ℕ
hop_method hop method = if hop.by_get then codes "GET" else method

-- a GET has no body
abbrev pub hop_has_body : Hop → Bool → Bool
hop_has_body hop has_body = has_body && not hop.by_get

-- what the user meant for one host alone isn't sent to another
abbrev pub without_secrets : Bool → Entries → Entries
without_secrets is_foreign fields =
    if is_foreign then remove (remove (remove (remove fields (codes "host")) (codes "authorization")) (codes "cookie")) (codes "proxy-authorization") else fields

-- what tells of a body isn't sent where there is none any more
abbrev pub without_content : Bool → Entries → Entries
without_content by_get fields =
    if by_get then remove (remove (remove (remove fields (codes "content-type")) (codes "content-encoding")) (codes "content-language")) (codes "content-location") else fields

abbrev pub hop_fields : Hop → Entries → Entries
hop_fields hop fields = without_content hop.by_get (without_secrets hop.is_foreign fields)
