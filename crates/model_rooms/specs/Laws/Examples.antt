-- What the worked examples share: connections that join a room, and their frames.
use Rattle.std.specs.Prelude.{ℕ, Bool, false, List, [], ◌∷◌, codes}
use Rattle.model_h1.specs.Request.{raw_body, upgrade, Head}
use Rattle.model_h1.specs.Frame.{Frame}
use Rattle.model_h1.specs.Frame as frames
use Rattle.model_h1.specs.Event.{Event, Outcome}
use Rattle.model_h1.specs.Event as on
use Rattle.model_rooms.specs.Hub.{opens, turns, opened, core}
use Rattle.model_rooms.specs.Seen.{Seen}

-- a request for a WebSocket of this room
abbrev pub asking : List ℕ → Head
asking target = record {
  method = codes "GET";
  target = target;
  minor = 1;
  headers = [];
  body = raw_body;
  connection = upgrade;
  expects = false;
}

-- a turn, after which the connection goes on or closes
abbrev pub turn : Bool → ℕ → Event → Outcome → Seen
turn closes i event outcome = record { step = record { event = turns i; outcome = core event outcome }; closes = closes }

-- a connection is opened, asks for the room, and joins it
abbrev pub joining : ℕ → List ℕ → List Seen → List Seen
joining i target before =
    turn false i (on.accept 65536) on.done
    ∷ turn false i on.next (on.head (asking target))
    ∷ record { step = record { event = opens; outcome = opened i }; closes = false }
    ∷ before

-- two members of /r, the second with a query, and one of /s
abbrev pub three : List Seen
three = joining 2 (codes "/s") (joining 1 (codes "/r?x") (joining 0 (codes "/r") []))

-- three members of /r
abbrev pub together : List Seen
together = joining 2 (codes "/r") (joining 1 (codes "/r") (joining 0 (codes "/r") []))

-- a member's frame is pulled; a frame is sent to it
abbrev pub speaks : ℕ → Frame → Seen
speaks i f = turn false i on.pull (on.frame f)

abbrev pub sends : ℕ → Frame → Seen
sends i f = turn false i (on.send (frames.frame f)) on.done
