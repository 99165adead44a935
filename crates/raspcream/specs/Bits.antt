-- The bits by which C is told which calls may come next.
use Rattle.std.specs.Prelude.{ℕ, Bool, false, [], None, if◌then◌else◌, bit_or}
use Rattle.model_h1.specs.Answer.{AnswerHead, size_none}
use Rattle.model_h1.specs.Event as on
use Rattle.model_h1.specs.Frame.{nop}
use Rattle.model_state.specs.Local.{allowed_by}
use Rattle.model_client.specs.ClientEvent as asking
use Rattle.model_client.specs.ClientKept.{client_allows, is_reusable}
use Rattle.h1_connection.specs.EventMeaning.{setting_of}
use Rattle.h1_connection.specs.Given.{next_allowed, frame_allowed}
use Rattle.h1_connection.specs.State as server
use Rattle.h1_client.specs.ClientMeaning as meaning
use Rattle.h1_client.specs.State as client

-- a bit, where it is set
abbrev pub bit_said : Bool → ℕ → ℕ
bit_said is_set place = if is_set then place else 0

-- A head: which one is all the same to whether an answer may come.
abbrev pub some_head : AnswerHead
some_head = record { status = 200; reason = None; closes = false; keeps_alive = false; upgrades = false; no_chunking = false; in_camel_case = false; headers = [] }

-- of a server's side
abbrev pub may : server.State → on.Event → Bool
may s event = allowed_by (setting_of s.settings) s.kept event

abbrev pub calls_said : server.State → ℕ
calls_said s =
    bit_or (bit_or (bit_or (bit_or (bit_or (bit_or (bit_or (bit_or (bit_or (bit_or (bit_or
    (bit_said (may s on.eof) 1)
    (bit_said (next_allowed (setting_of s.settings) s.kept) 2))
    (bit_said (may s on.drop_body) 12))
    (bit_said (may s on.send_continue) 16))
    (bit_said (may s (on.answer some_head size_none)) 32))
    (bit_said (may s (on.chunk [])) 64))
    (bit_said (may s on.body_end) 128))
    (bit_said (may s (on.write 0)) 256))
    (bit_said (may s on.drain) 512))
    (bit_said (may s (on.accept 0)) 1024))
    (bit_said (frame_allowed (setting_of s.settings) s.kept) 2048))
    (bit_said (may s (on.send nop)) 4096)

-- of a client's: a request is asked for by its call
abbrev pub may_ask : client.State → asking.ClientEvent → Bool
may_ask c event = client_allows (meaning.setting_of c.settings) c.kept event

abbrev pub requests_said : client.State → ℕ
requests_said c =
    bit_or (bit_or (bit_or (bit_or (bit_or (bit_or (bit_or
    (bit_said (may_ask c asking.eof) 1)
    (bit_said (may_ask c asking.next) 2))
    (bit_said (may_ask c asking.pull) 4))
    (bit_said (may_ask c asking.drop_body) 8))
    (bit_said (may_ask c (asking.chunk [])) 64))
    (bit_said (may_ask c asking.body_end) 128))
    (bit_said (may_ask c (asking.write 0)) 256))
    (bit_said (is_reusable c.kept) 8192)
