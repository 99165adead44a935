-- What a parser answers.
use Rattle.std.specs.Prelude.{◌≡◌, ◌≢◌, ◌<◌, ℕ, Bool, List, [], length, drop, Option, Some, None, Result, Ok, Err}
use Rattle.bytes.specs.Filled.{Filled}
use Rattle.ws_frames.specs.declared.error.ProtocolError.{ProtocolError}
use Rattle.ws_frames.specs.declared.error.ProtocolError.TheVariants as errors
use Rattle.ws_frames.specs.declared.proto.OpCode.{OpCode}
use Rattle.ws_frames.specs.declared.proto.OpCode.TheVariants as codes
use Rattle.ws_frames.specs.Protocol.{opcode_written}
use Rattle.ws_frames.specs.Refusal.{refusal}
use Rattle.ws_frames.specs.Parsed.{Parsed, waits, refuses, takes}

-- the bytes of a payload that is left out where it is empty
abbrev pub data_of : Option Filled → List ℕ
data_of None = []
data_of (Some filled) = filled.items

-- An error by what is taken: none is answered where nothing is yet, a frame for which there was no memory stays, and a
-- broken rule costs so many bytes.
abbrev pub ParseFails : Parsed → ProtocolError → List ℕ → List ℕ → Type 0
ParseFails waits e old new = ⊥
ParseFails (refuses rule n) e old new = (e ≡ refusal rule) × (new ≡ drop n old)
ParseFails (takes is_final opcode payload len) e old new = (e ≡ errors.NoMemory) × (new ≡ old)

-- the answer says what is taken from the front of the old bytes, and the new ones are the rest
abbrev pub ParseSays : Result (Option (Bool × OpCode × Option Filled)) ProtocolError → List ℕ → List ℕ → Parsed → Type 0
ParseSays (Ok None) old new what = (what ≡ waits) × (new ≡ old)
ParseSays (Ok (Some p)) old new what =
    (len : ℕ) × (what ≡ takes p.0 (opcode_written p.1) (data_of p.2) len) × (new ≡ drop len old)
ParseSays (Err e) old new what = ParseFails what e old new

-- a payload that is there isn't empty
abbrev pub HasBytes : Option Filled → Type 0
HasBytes None = Unit {0}
HasBytes (Some filled) = 0 < length filled.items

-- a frame that was taken has an opcode with a meaning, and a payload that isn't empty, or none
abbrev pub IsPlain : Option (Bool × OpCode × Option Filled) → Type 0
IsPlain None = Unit {0}
IsPlain (Some p) = (p.1 ≢ codes.Bad) × HasBytes p.2
