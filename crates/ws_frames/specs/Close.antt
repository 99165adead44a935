-- What is read of the payload of a Close (RFC 6455, section 5.5.1).
use Rattle.std.specs.Prelude.{◌≡◌, ℕ, ◌&&◌, List, [], ◌∷◌, if◌then◌else◌, string_bytes, Option, Some, None, option_map, Result, Ok, Err}
use Rattle.std.specs.Str.{is_utf8}
use Rattle.std.specs.Str.Lossy.{utf8_lossy}
use Rattle.model_h1.specs.Frame as model
use Rattle.model_h1.specs.FrameText.{big_endian, is_close_code, description_of}
use Rattle.ws_frames.specs.declared.error.ProtocolError.{ProtocolError}
use Rattle.ws_frames.specs.declared.proto.CloseReason.{CloseReason}
use Rattle.ws_frames.specs.Protocol.{close_number, close_code}
use Rattle.ws_frames.specs.Refusal.{error_of}

-- what a reason says
abbrev pub reason_says : CloseReason → model.CloseReason
reason_says reason = record { code = close_number reason.code; description = option_map string_bytes reason.description }

-- the code of a reason is the one that its number names
abbrev pub HasName : Option CloseReason → Type 0
HasName None = Unit {0}
HasName (Some reason) = reason.code ≡ close_code (close_number reason.code)

-- what was read of the payload, or the rule that it breaks; memory may be wanting where it breaks none
abbrev pub CloseSays : Result (Option CloseReason) ProtocolError → Result model.Frame model.ProtocolError → Type 0
CloseSays (Ok reason) what = what ≡ Ok (model.close (option_map reason_says reason))
CloseSays (Err e) what = e ≡ error_of what

-- a code and a text
abbrev pub reason_frame : ℕ → List ℕ → Result model.Frame model.ProtocolError
reason_frame number text =
    if is_close_code number && is_utf8 text
    then Ok (model.close (Some (record { code = number; description = description_of text })))
    else Err model.bad_op_code

-- a reason of any code, with a text in which U+FFFD stands for what is no UTF-8; none below two bytes
abbrev pub lossy_reason : List ℕ → Option model.CloseReason
lossy_reason [] = None
lossy_reason (b ∷ []) = None
lossy_reason (b ∷ c ∷ text) =
    Some (record { code = big_endian (b ∷ c ∷ []); description = option_map utf8_lossy (description_of text) })
