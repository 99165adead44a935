-- What a forwarder tells a server of itself and of its client (RFC 9110, section 7.6.3; RFC 7239).
use Rattle.std.specs.Prelude.{◌≡◌, ℕ, Bool, List, ◌∷◌, ◌++◌, codes, ◌==◌, if◌then◌else◌}
use Rattle.httparse.specs.Grammar.{AllPass, is_value_byte, trim_ows}

-- What is the same for all requests of one client: its address as X-Forwarded-For has it, and as an element of Forwarded; the host that a
-- request is for which names none; whether what the client says of earlier clients is kept; and whether heads are taken that RFC 9112 refuses.
pub record Edge : Type 0 where
  pub address : List ℕ
  pub element : List ℕ
  pub host : List ℕ
  pub trusts : Bool
  pub is_lax : Bool

-- The element of a client with this address and port, as 192.0.2.1:4711 or [2001:db8::1]:4711, that came in clear text (RFC 7239, section 4).
-- It is quoted, since a colon and brackets stand in no token.
abbrev pub element_of : List ℕ → List ℕ
element_of socket = codes "for=" ++ (34 ∷ socket ++ 34 ∷ codes ";proto=http")

-- Who passes a message on, and the version in which it came (RFC 9110, section 7.6.3).
abbrev pub via : ℕ → List ℕ
via minor = if minor == 0 then codes "1.0 raspcream" else codes "1.1 raspcream"

-- no control byte but tabs, and no blank at the ends
pub record IsCleanValue (value : List ℕ) : Type 0 where
  pub bytes : AllPass is_value_byte value
  pub trimmed : trim_ows value ≡ value

-- its texts can be values of lines
pub record IsCleanEdge (e : Edge) : Type 0 where
  pub address : IsCleanValue e.address
  pub element : IsCleanValue e.element
  pub host : IsCleanValue e.host
