-- The frames of bytes that may come in pieces.
use Rattle.std.specs.Prelude.{◌≡◌, ℕ, Bool, List, [], ◌∷◌, drop, map, Option}
use Rattle.model_h1.specs.Frame.{Frame, ProtocolError}
use Rattle.model_h1.specs.FrameText.{Reader, front_frame, whole, StopsWith, is_under_way, PlacedFrame}

-- the bytes are these frames; behind them stands no further whole frame, and the rest breaks the rule fail, or none
abbrev pub AreFrames : Reader → Bool → List ℕ → List Frame → Option ProtocolError → Type 0
AreFrames reader under_way bytes [] fail = StopsWith (front_frame reader under_way bytes) fail
AreFrames reader under_way bytes (f ∷ fs) fail =
    (len : ℕ) × (front_frame reader under_way bytes ≡ whole f len) × AreFrames reader (is_under_way under_way f) (drop len bytes) fs fail

-- frames without the places behind them
abbrev pub frames_of : List PlacedFrame → List Frame
frames_of placed = map (λ p. p.frame) placed
