-- Which frames a peer reads back as they were written (RFC 6455, sections 5.4, 5.5 and 7.4).
use Rattle.std.specs.Prelude.{◌≡◌, ℕ, ◌^◌, ◌<◌, ◌≤◌, Bool, true, false, not, ◌&&◌, List, length, ◌==◌, Option, Some, None}
use Rattle.std.specs.Str.{is_utf8}
use Rattle.model_h1.specs.Frame.{CloseReason, Frame}
use Rattle.model_h1.specs.Frame as frames
use Rattle.model_h1.specs.FrameText.{Reader, is_close_code, close_payload}
use Rattle.model_h1.specs.Limits.{MAX_CONTROL_PAYLOAD}

-- the payload that stands in the text of a frame
abbrev pub payload_written : Frame → List ℕ
payload_written (frames.text payload) = payload
payload_written (frames.binary payload) = payload
payload_written (frames.first_text payload) = payload
payload_written (frames.first_binary payload) = payload
payload_written (frames.continuation payload) = payload
payload_written (frames.last payload) = payload
payload_written (frames.ping payload) = payload
payload_written (frames.pong payload) = payload
payload_written (frames.close reason) = close_payload reason

-- close, ping and pong
abbrev pub is_control_frame : Frame → Bool
is_control_frame (frames.ping _) = true
is_control_frame (frames.pong _) = true
is_control_frame (frames.close _) = true
is_control_frame _ = false

-- what goes on with a message needs one that is under way, what starts one needs none, and control frames stand anywhere
abbrev pub fits_there : Bool → Frame → Bool
fits_there under_way (frames.continuation _) = under_way
fits_there under_way (frames.last _) = under_way
fits_there under_way (frames.ping _) = true
fits_there under_way (frames.pong _) = true
fits_there under_way (frames.close _) = true
fits_there under_way _ = not under_way

-- no text, or one of UTF-8 with a byte at least
abbrev pub is_close_text : Option (List ℕ) → Bool
is_close_text None = true
is_close_text (Some text) = not (length text == 0) && is_utf8 text

-- no reason, or a code that may be sent and such a text
abbrev pub may_close_with : Frame → Bool
may_close_with (frames.close (Some reason)) = is_close_code reason.code && is_close_text reason.description
may_close_with _ = true

-- the frame keeps the rules, and its payload is within the reader's limit
pub record KeepsRules (reader : Reader) (under_way : Bool) (frame : Frame) : Type 0 where
  pub place : fits_there under_way frame ≡ true
  pub size : length (payload_written frame) < 2 ^ 63
  pub limit : length (payload_written frame) ≤ reader.max_payload
  pub control : is_control_frame frame ≡ true → length (payload_written frame) ≤ MAX_CONTROL_PAYLOAD
  pub reason : may_close_with frame ≡ true
