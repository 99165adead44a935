use Rattle.std.proofs.Common.{refl}
use Rattle.std.specs.Str.{is_utf8, chars}
use Rattle.std.specs.Char.{encode_utf8}
use Rattle.model_h1.specs.Sums.{request}
use Rattle.model_rooms.specs.Hub.{core_of}
use Rattle.model_rooms.specs.Seen.{members_of}
use Rattle.model_rooms.specs.Due.{due_messages, sent_frames}
use Rattle.model_rooms.proofs.examples.a_text_is_sent.Goals as goal

pub returns : goal.returns
unfolding is_utf8 chars encode_utf8 request core_of members_of due_messages sent_frames
returns c = (refl, refl, refl)
