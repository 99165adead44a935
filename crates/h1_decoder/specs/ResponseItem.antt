-- What the head of an answer that was read says, against the definitions.
use Rattle.std.specs.Prelude.{◌≡◌, Bool, None, if◌then◌else◌}
use Rattle.http_framing.specs.Kinds.{kind_of}
use Rattle.http_types.specs.declared.message.ConnectionType.TheVariants.{Close}
use Rattle.http_types.specs.declared.message.Flags.{Flags}
use Rattle.http_types.specs.Flags.{with_type}
use Rattle.model_client.specs.AnswerReading.{Answer}
use Rattle.model_client.specs.AnswerTable.{ends_with_input}
use Rattle.model_h1.specs.LengthTable.{asked_type}
use Rattle.h1_decoder.specs.HeadItem.{version_of, asked_flags}
use Rattle.http_framing.specs.HeaderLines.{header_map}
use Rattle.h1_decoder.specs.declared.response.ResponseItem.{ResponseItem}

-- the marks, with Close where the connection closes
abbrev pub with_close : Bool → Flags → Flags
with_close closes flags = if closes then with_type flags Close else flags

-- the marks of an answer's head: what its last Connection line asks for, and Close where the end of the input ends its
-- body
abbrev pub answer_flags : Answer → Flags
answer_flags a = with_close (ends_with_input a.status a.body) (asked_flags (asked_type a.headers))

-- the item says what the answer's head says
pub record SaysAnswer (item : ResponseItem) (a : Answer) : Type 0 where
  pub status : item.head.status ≡ a.status
  pub version : item.head.version ≡ version_of a.minor
  pub headers : item.head.headers ≡ header_map a.headers
  pub flags : item.head.flags ≡ answer_flags a
  pub own_reason : item.head.reason ≡ None
  pub reason : item.reason ≡ a.reason
  pub body : kind_of item.body ≡ a.body
  pub is_lax : item.is_lax ≡ a.is_lax
