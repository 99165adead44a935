-- The answers to a request for an upgrade (RFC 6455, section 4.2.2; RFC 7231, sections 6.5.1 and 6.5.5).
use Rattle.std.specs.Prelude.{◌≡◌, ℕ, List, [], ◌∷◌, codes, Option, Some, None, Result, Ok, Err}
use Rattle.http_header.specs.FieldValue.{plain_value}
use Rattle.http_types.specs.declared.message.ConnectionType.TheVariants.{Upgrade as UpgradeType}
use Rattle.http_types.specs.Flags.{no_flags, with_type}
use Rattle.http_types.specs.ResponseBuilder.{BuilderParts}
use Rattle.http_types.specs.ResponseHead.{ResponseParts, fresh_response}
use Rattle.model_h1.specs.Handshake as model
use Rattle.ws_session.specs.declared.verify.HandshakeError.{HandshakeError}
use Rattle.ws_session.specs.declared.verify.HandshakeError.TheVariants.{GetMethodRequired, NoWebsocketUpgrade, NoConnectionUpgrade, NoVersionHeader, UnsupportedVersion, BadWebsocketKey}
use Rattle.ws_session.specs.declared.verify.HandshakeFault.{HandshakeFault}
use Rattle.ws_session.specs.declared.verify.HandshakeFault.TheVariants.{Refused, NoMemory}
use Rattle.ws_session.specs.Upgrade.{FailsWith}

-- the head that upgrades, by the answer to the key
abbrev pub accepting_parts : List ℕ → ResponseParts
accepting_parts key = record (fresh_response 101) {
  headers = (codes "upgrade", plain_value (codes "websocket") ∷ []) ∷ (codes "sec-websocket-accept", plain_value key ∷ []) ∷ [];
  flags = with_type no_flags UpgradeType;
}

-- a builder that holds it
abbrev pub accepting_builder : List ℕ → BuilderParts
accepting_builder key = record { head = Some (accepting_parts key); error = None }

-- the head that refuses a method
abbrev pub method_refused : ResponseParts
method_refused = record (fresh_response 405) { headers = (codes "allow", plain_value (codes "GET") ∷ []) ∷ [] }

-- the head that refuses a request for another reason
abbrev pub refused_because : List ℕ → ResponseParts
refused_because reason = record (fresh_response 400) { reason = Some reason }

-- the head that refuses a request, by the check that it fails
abbrev pub refusing_parts : HandshakeError → ResponseParts
refusing_parts GetMethodRequired = method_refused
refusing_parts NoWebsocketUpgrade = refused_because (codes "No WebSocket Upgrade header found")
refusing_parts NoConnectionUpgrade = refused_because (codes "No Connection upgrade")
refusing_parts NoVersionHeader = refused_because (codes "WebSocket version header is required")
refusing_parts UnsupportedVersion = refused_because (codes "Unsupported WebSocket version")
refusing_parts BadWebsocketKey = refused_because (codes "Handshake error")

-- a request that fails no check is accepted, by the answer to its key, or there was no memory; another one is refused for
-- the check that fails
abbrev pub HandshakeSays : Option model.HandshakeError → List ℕ → Result BuilderParts HandshakeFault → Type 0
HandshakeSays failing key (Ok builder) = (failing ≡ None) × (builder ≡ accepting_builder key)
HandshakeSays failing key (Err (Refused e)) = FailsWith e failing
HandshakeSays failing key (Err NoMemory) = failing ≡ None
