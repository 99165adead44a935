-- A reply as its status and its text.
use Rattle.std.specs.Prelude.{ℕ, ⊤, List}
use Rattle.h1_replay.specs.Run.{read_fault_text, too_long_text, no_memory_text}
use Rattle.h1_replay.specs.HubRun.{IsDone, IsBadLine, IsStopped, usage_text}
use Rattle.h1_replay.specs.declared.hub_reply.HubReply.{HubReply}
use Rattle.h1_replay.specs.declared.hub_reply.HubReply.TheVariants.{Done, Usage, BadLine, Misplaced, ReadFault, TooLong, NoMemory}

-- the exit status; 5 is kept for an output that failed
abbrev pub status_of_reply : HubReply → ℕ
status_of_reply (Done text) = 0
status_of_reply Usage = 1
status_of_reply (BadLine text) = 2
status_of_reply (Misplaced text) = 3
status_of_reply ReadFault = 4
status_of_reply TooLong = 6
status_of_reply NoMemory = 7

-- the text
abbrev pub text_of_reply : HubReply → List ℕ
text_of_reply (Done text) = text.items
text_of_reply Usage = usage_text
text_of_reply (BadLine text) = text.items
text_of_reply (Misplaced text) = text.items
text_of_reply ReadFault = read_fault_text
text_of_reply TooLong = too_long_text
text_of_reply NoMemory = no_memory_text

-- what a whole input is answered with
abbrev pub IsReplyTo : List ℕ → HubReply → Type 0
IsReplyTo bytes (Done text) = IsDone bytes text.items
IsReplyTo bytes Usage = ⊥
IsReplyTo bytes (BadLine text) = IsBadLine bytes text.items
IsReplyTo bytes (Misplaced text) = IsStopped bytes text.items
IsReplyTo bytes ReadFault = ⊥
IsReplyTo bytes TooLong = ⊥
IsReplyTo bytes NoMemory = ⊤
