-- Which heads are refused though they were read: those that RFC 9112 says must be, and targets that RFC 3986 has no bytes for.
use Rattle.std.specs.Prelude.{ℕ, Bool, true, false, not, ◌&&◌, ◌||◌, ◌==◌, List, [], ◌∷◌, codes, bytes_eq, nat_eq, nat_lt, if◌then◌else◌, Option, Some, None}
use Rattle.std.specs.List.{list_all, starts_with}
use Rattle.h1_strict.specs.Host.{is_host}
use Rattle.model_h1.specs.Request.{Head}
use Rattle.model_h1.specs.LengthTable.{values_of}
use Rattle.model_proxy.specs.Edge.{Edge}
use Rattle.model_proxy.specs.Targets.{has_scheme, authority_of, names_host, is_asterisk}

-- HTTP/1.1 has one Host line, HTTP/1.0 one or none, and what it says is a host, with or without a port (RFC 9112, section 3.2)
abbrev pub are_hosts_right : ℕ → List (List ℕ) → Bool
are_hosts_right minor [] = minor == 0
are_hosts_right minor (value ∷ []) = is_host value
are_hosts_right minor (value ∷ second ∷ more) = false

-- where a target has an authority, that names a host, and no user
abbrev pub is_authority_right : Option (List ℕ) → Bool
is_authority_right None = true
is_authority_right (Some authority) = names_host authority

-- a byte of ASCII that begins no fragment
abbrev pub is_right_byte : ℕ → Bool
is_right_byte b = nat_lt b 128 && not (b == 35)

-- ASCII alone, and no fragment, which no request has (RFC 9112, section 3.2; RFC 3986, section 2)
abbrev pub are_bytes_right : List ℕ → Bool
are_bytes_right target = list_all is_right_byte target

-- A path, an absolute target, or `*` by OPTIONS. That of CONNECT isn't judged: no CONNECT is sent on.
abbrev pub is_form_right : List ℕ → List ℕ → Bool
is_form_right method target =
    bytes_eq method (codes "CONNECT")
    || (if is_asterisk target then bytes_eq method (codes "OPTIONS") else (starts_with nat_eq target (codes "/") || has_scheme target))

-- nothing is wrong with the head
abbrev pub is_right : Head → Bool
is_right h =
    are_hosts_right h.minor (values_of (codes "host") h.headers)
    && (are_bytes_right h.target && (is_form_right h.method h.target && is_authority_right (authority_of h.target)))

-- it gets 400, unless such heads are taken
abbrev pub is_refused : Edge → Head → Bool
is_refused e h = not e.is_lax && not (is_right h)
