-- Lists of frames that keep the rules (RFC 6455, sections 5.4, 5.5 and 7.4).
use Rattle.std.specs.Prelude.{◌≡◌, ℕ, ◌+◌, ◌≤◌, Bool, true, List, [], ◌∷◌, length, ⊤}
use Rattle.model_h1.specs.Frame.{Frame}
use Rattle.model_h1.specs.FrameText.{is_under_way, PlacedFrame}
use Rattle.model_ends.specs.MaskedText.{masked_text, MaskedFrame}
use Rattle.model_h1.specs.Limits.{MAX_CONTROL_PAYLOAD}
use Rattle.model_h1.specs.Laws.WrittenFrame.{payload_written, is_control_frame, fits_there, may_close_with}

-- The frame may stand there, where a message in pieces is under way or isn't. Its payload has at most so many bytes, that
-- of a control frame at most 125, and a close has no reason, or a code that may be sent with a text or none.
pub record IsLegal (max_payload : ℕ) (under_way : Bool) (frame : Frame) : Type 0 where
  pub place : fits_there under_way frame ≡ true
  pub size : length (payload_written frame) ≤ max_payload
  pub control : is_control_frame frame ≡ true → length (payload_written frame) ≤ MAX_CONTROL_PAYLOAD
  pub reason : may_close_with frame ≡ true

-- frames one after another
abbrev pub AreLegal : ℕ → Bool → List Frame → Type 0
AreLegal max_payload under_way [] = ⊤
AreLegal max_payload under_way (f ∷ fs) = IsLegal max_payload under_way f × AreLegal max_payload (is_under_way under_way f) fs

-- the frames are read as they were sent: each ends where its text does, and the last where the bytes end
abbrev pub AreFramesOf : List ℕ → ℕ → List PlacedFrame → List MaskedFrame → Type 0
AreFramesOf bytes place [] [] = place ≡ length bytes
AreFramesOf bytes place (p ∷ ps) (m ∷ ms) =
    (p.frame ≡ m.frame) × (p.end ≡ place + length (masked_text m.mask m.frame)) × AreFramesOf bytes p.end ps ms
AreFramesOf bytes place ps ms = ⊥
