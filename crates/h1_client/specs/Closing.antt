-- Why a connection closes on which nothing has failed and no answer is read.
use Rattle.std.specs.Prelude.{not, ◌&&◌, if◌then◌else◌, Option, Some, None}
use Rattle.model_client.specs.ClientEvent.{ClientEnd, asked, unasked, input_ended}
use Rattle.model_client.specs.ClientKept.{ClientKept, is_waited_for, has_bytes}

abbrev pub closing_if_free : ClientKept → Option ClientEnd
closing_if_free k =
    if k.closes then Some asked
    else (if not (is_waited_for k.waiting) && has_bytes k.unread then Some unasked
    else (if k.has_ended && not k.is_coming then Some input_ended else None))
