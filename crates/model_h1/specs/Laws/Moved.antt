-- A parse counted from another place: each place lies as much further on as bytes stand in front.
use Rattle.std.specs.Prelude.{ℕ, ◌+◌, map}
use Rattle.model_h1.specs.FrameText.{PlacedFrame}
use Rattle.model_h1.specs.Parse.{Message, Body, no_content, content, frames, Stop, ended_at, shifted}

abbrev pub moved_stop : ℕ → Stop → Stop
moved_stop len (ended_at place trailers) = ended_at (len + place) trailers
moved_stop len stop = stop

abbrev pub moved_frame : ℕ → PlacedFrame → PlacedFrame
moved_frame len f = record { frame = f.frame; end = len + f.end }

abbrev pub moved_body : ℕ → Body → Body
moved_body len no_content = no_content
moved_body len (content runs stop) = content (shifted len runs) (moved_stop len stop)
moved_body len (frames placed fail) = frames (map (moved_frame len) placed) fail

-- the message, where so many bytes stand in front of those that it was parsed from
abbrev pub moved : ℕ → Message → Message
moved len m = record { reading = m.reading; body_start = len + m.body_start; body = moved_body len m.body }
