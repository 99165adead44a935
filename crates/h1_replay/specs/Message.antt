-- The line of a message that is sent.
use Rattle.std.specs.Prelude.{ℕ, nat_le, List, [], ◌∷◌, Option, Some, None, option_map, codes, if◌then◌else◌}
use Rattle.std.specs.Str.{bytes_eq}
use Rattle.model_h1.specs.Frame.{CloseReason, Message, frame, nop, text, binary, first_text, first_binary, continuation, last, ping, pong, close}
use Rattle.h1_connection.specs.declared.event.Event.{Event}
use Rattle.h1_connection.specs.declared.event.Event.TheVariants.{Send}
use Rattle.h1_replay.specs.InputPieces.{only_of}
use Rattle.h1_replay.specs.Word.{◌>>=◌, number_of, bytes_of, text_of}

-- a code: up to 65535
abbrev pub code_of : List ℕ → Option ℕ
code_of word = do
  n ← number_of word
  if nat_le n 65535 then Some n else None

-- the text of a reason, where there is one
abbrev pub description_of : List ℕ → Option (List ℕ)
description_of [] = None
description_of (b ∷ bytes) = Some (b ∷ bytes)

-- a reason: a code and a text
abbrev pub reason_of : List ℕ → List (List ℕ) → Option CloseReason
reason_of code words = do
  code ← code_of code
  said ← only_of words >>= text_of
  Some (record { code = code; description = description_of said })

-- a Close, with a reason or none
abbrev pub close_of : List (List ℕ) → Option Message
close_of [] = Some (frame (close None))
close_of (code ∷ words) = option_map (λ reason. frame (close (Some reason))) (reason_of code words)

-- nothing has no words
abbrev pub nop_of : List (List ℕ) → Option Message
nop_of [] = Some nop
nop_of (word ∷ more) = None

-- the other kinds of messages, by their payloads
abbrev pub payload_message : List ℕ → List ℕ → Option Message
payload_message kind payload =
    if bytes_eq kind (codes "binary") then Some (frame (binary payload))
    else if bytes_eq kind (codes "firsttext") then Some (frame (first_text payload))
    else if bytes_eq kind (codes "firstbinary") then Some (frame (first_binary payload))
    else if bytes_eq kind (codes "cont") then Some (frame (continuation payload))
    else if bytes_eq kind (codes "last") then Some (frame (last payload))
    else if bytes_eq kind (codes "ping") then Some (frame (ping payload))
    else if bytes_eq kind (codes "pong") then Some (frame (pong payload))
    else None

abbrev pub payload_of : List ℕ → List (List ℕ) → Option Message
payload_of kind words = do
  payload ← only_of words >>= bytes_of
  payload_message kind payload

-- a text
abbrev pub text_message_of : List (List ℕ) → Option Message
text_message_of words = option_map (λ t. frame (text t)) (only_of words >>= text_of)

-- a message by its kind and the words behind it
abbrev pub message_of : List ℕ → List (List ℕ) → Option Message
message_of kind words =
    if bytes_eq kind (codes "text") then text_message_of words
    else if bytes_eq kind (codes "close") then close_of words
    else if bytes_eq kind (codes "nop") then nop_of words
    else payload_of kind words

-- a message
abbrev pub send_of : List (List ℕ) → Option Event
send_of [] = None
send_of (kind ∷ words) = option_map (λ message. Send message) (message_of kind words)
