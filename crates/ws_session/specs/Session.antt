-- What a session keeps, and the frames that it gives of all bytes that were pushed (RFC 6455, sections 5.2 to 5.5).
use Rattle.std.specs.Prelude.{◌≡◌, ◌⊎◌, ℕ, Bool, false, List, ◌∷◌, [], ◌++◌, drop, Option, Some, None, Result, Ok, Err}
use Rattle.model_h1.specs.Frame as model
use Rattle.model_h1.specs.FrameText.{Reader, Front, partial, whole, breaks, front_frame, is_under_way}
use Rattle.ws_frames.specs.declared.error.ProtocolError.{ProtocolError}
use Rattle.ws_frames.specs.declared.error.ProtocolError.TheVariants as errors
use Rattle.ws_frames.specs.declared.message.Frame.{Frame}
use Rattle.ws_frames.specs.Codec.{frame_says}
use Rattle.ws_frames.specs.Fronts.{early_reader, IsFrontError}
use Rattle.ws_frames.specs.FramePieces.{AreFrames}
use Rattle.ws_frames.specs.Refusal.{refusal}

-- who reads, the most bytes of a payload, whether a message in fragments is under way, and the bytes that aren't read yet
pub record SessionParts : Type 0 where
  pub server : Bool
  pub limit : ℕ
  pub under_way : Bool
  pub unread : List ℕ

abbrev pub with_unread : List ℕ → SessionParts → SessionParts
with_unread bytes s = record s { unread = bytes }

-- it reads so: a size is judged as soon as its length is there
abbrev pub reader_of : SessionParts → Reader
reader_of s = early_reader s.server s.limit

-- what stands at the front of the unread bytes
abbrev pub front_of : SessionParts → Front
front_of s = front_frame (reader_of s) s.under_way s.unread

-- the session behind a frame of so many bytes
abbrev pub behind_frame : model.Frame → ℕ → SessionParts → SessionParts
behind_frame frame len s = record s { under_way = is_under_way s.under_way frame; unread = drop len s.unread }

-- Of the bytes that were pushed these frames were given. Whatever comes, all bytes are these frames and then those of the
-- unread bytes.
abbrev pub HasGiven : SessionParts → List ℕ → List model.Frame → Type 0
HasGiven s pushed given =
    (more : List ℕ) (fs : List model.Frame) (fail : Option model.ProtocolError)
    → AreFrames (reader_of s) s.under_way (s.unread ++ more) fs fail → AreFrames (reader_of s) false (pushed ++ more) (given ++ fs) fail

-- the rule is broken at the front, whatever comes
abbrev pub HasFailed : SessionParts → model.ProtocolError → Type 0
HasFailed s rule = (more : List ℕ) → front_frame (reader_of s) s.under_way (s.unread ++ more) ≡ breaks rule

-- a frame at the front is given, and else nothing changes
abbrev pub NextSays : SessionParts → Result (Option Frame) ProtocolError → SessionParts → Type 0
NextSays old (Ok None) new = (front_of old ≡ partial) × (new ≡ old)
NextSays old (Ok (Some frame)) new =
    (len : ℕ) × (front_of old ≡ whole (frame_says frame) len) × (new ≡ behind_frame (frame_says frame) len old)
NextSays old (Err e) new = IsFrontError (front_of old) e × (new ≡ old)

-- By all bytes that were pushed: a frame is the next of them; there is none where those that were given are all, and no
-- rule is broken; an error is for the rule that is broken behind them, or there was no memory.
abbrev pub FramesSays : SessionParts → List ℕ → List model.Frame → Result (Option Frame) ProtocolError → SessionParts → Type 0
FramesSays old pushed given (Ok None) new = AreFrames (reader_of old) false pushed given None
FramesSays old pushed given (Ok (Some frame)) new = HasGiven new pushed (given ++ frame_says frame ∷ [])
FramesSays old pushed given (Err e) new =
    (e ≡ errors.NoMemory) ⊎ ((rule : model.ProtocolError) × (e ≡ refusal rule) × AreFrames (reader_of old) false pushed given (Some rule))
