-- The forms of a request's target, and what a server gets for each (RFC 9112, section 3.2).
use Rattle.std.specs.Prelude.{ℕ, ◌+◌, Bool, false, ◌||◌, ◌&&◌, ◌==◌, List, length, take, drop, codes, bytes_eq, nat_eq, nat_lt, if◌then◌else◌, Option, Some, None, option_map}
use Rattle.std.specs.List.{starts_with}
use Rattle.h1_strict.specs.Host.{is_host}
use Rattle.http_uri.specs.ByteClasses.{lowercase}
use Rattle.http_uri.specs.Grammar.{without_fragment, scheme_len, authority_len, path_and_query_text}

-- the first bytes, which are those of a scheme, go on by `://`
abbrev pub has_scheme : List ℕ → Bool
has_scheme target = bytes_eq (take 3 (drop (scheme_len target) target)) (codes "://") && nat_lt 0 (scheme_len target)

-- and they are `http`, whatever their case (RFC 9110, section 4.2.3)
abbrev pub is_http : List ℕ → Bool
is_http target =
    bytes_eq (lowercase (take (scheme_len target) target)) (codes "http") && bytes_eq (take 3 (drop (scheme_len target) target)) (codes "://")

-- what stands behind `http://`, where a target begins so (section 3.2.2)
abbrev pub behind_http : List ℕ → Option (List ℕ)
behind_http target = if is_http target then Some (drop (scheme_len target + 3) target) else None

-- the authority of such a target: all up to the next `/`, `?` or `#`
abbrev pub authority_in : List ℕ → List ℕ
authority_in rest = take (authority_len rest) rest

abbrev pub authority_of : List ℕ → Option (List ℕ)
authority_of target = option_map authority_in (behind_http target)

-- the target is `*` (section 3.2.4)
abbrev pub is_asterisk : List ℕ → Bool
is_asterisk target = bytes_eq target (codes "*")

-- the authority names a host, and no user (RFC 9110, sections 4.2.1 and 4.2.4)
abbrev pub names_host : List ℕ → Bool
names_host authority = nat_lt 0 (length authority) && is_host authority

-- an absolute target of `http` names one
abbrev pub is_at_host : Option (List ℕ) → Bool
is_at_host None = false
is_at_host (Some authority) = names_host authority

-- A server can be asked for it: a path (section 3.2.1); an absolute target of `http` that names a host; or `*`, by OPTIONS alone.
abbrev pub is_servable : List ℕ → List ℕ → Bool
is_servable method target =
    starts_with nat_eq target (codes "/") || (is_at_host (authority_of target) || (is_asterisk target && bytes_eq method (codes "OPTIONS")))

-- the path and the query behind an authority, without a fragment
abbrev pub path_in : List ℕ → List ℕ
path_in rest = without_fragment (drop (authority_len rest) rest)

-- by what stands behind `http://`: the path and the query of that, with a slash where there is no path; else the target, without a fragment
abbrev pub origin_of : Option (List ℕ) → List ℕ → List ℕ
origin_of None target = without_fragment target
origin_of (Some rest) target = path_and_query_text (path_in rest)

-- there is an authority, and neither a path nor a query behind it
abbrev pub has_no_path : Option (List ℕ) → Bool
has_no_path None = false
has_no_path (Some rest) = length (path_in rest) == 0

-- by OPTIONS such a target asks for the whole server, as `*` does (section 3.2.4)
abbrev pub asks_for_all : List ℕ → List ℕ → Bool
asks_for_all method target = bytes_eq method (codes "OPTIONS") && has_no_path (behind_http target)

-- the target as the server gets it
abbrev pub target_sent : List ℕ → List ℕ → List ℕ
target_sent method target = if asks_for_all method target then codes "*" else origin_of (behind_http target) target
