-- From a reply to what the program answers.
use Rattle.std.proofs.Common.{◌≡◌, ◌<◌, ℕ, List, inr, refl, ap, ◌∙◌, arith}
use Rattle.http_config.specs.Causes.{Rose, counted}
use Rattle.h1_replay.proofs.Reading.{given_quiet, whole_quiet, unfinished_quiet}
use Rattle.h1_replay.specs.Input.{Told, ReadsWhole}
use Rattle.h1_replay.specs.Run.{IsReplay}
use Rattle.h1_replay.specs.HubRun.{IsAnswer, done, usage, bad_line, misplaced, read_fault, too_long, no_memory}
use Rattle.h1_replay.specs.HubReply.{status_of_reply, text_of_reply, IsReplyTo}
use Rattle.h1_replay.specs.declared.hub_reply.HubReply.{HubReply}
use Rattle.h1_replay.specs.declared.hub_reply.HubReply.TheVariants.{Done, Usage, BadLine, Misplaced, ReadFault, TooLong, NoMemory}

-- the reply to a whole input is the program's answer
pub answered_by : (words : List (List ℕ)) (before now : Told) (bytes : List ℕ) (reply : HubReply) → IsReplay words → ReadsWhole before now bytes → IsReplyTo bytes reply
    → IsAnswer words before now (status_of_reply reply) (text_of_reply reply)
answered_by words before now bytes (Done text) command read is = done bytes command read is refl
answered_by words before now bytes Usage command read is = absurd is
answered_by words before now bytes (BadLine text) command read is = bad_line bytes command read is refl
answered_by words before now bytes (Misplaced text) command read is = misplaced bytes command read is refl
answered_by words before now bytes ReadFault command read is = absurd is
answered_by words before now bytes TooLong command read is = absurd is
answered_by words before now bytes NoMemory command read is = no_memory command (inr (bytes, read)) refl refl

-- ---- how many reads failed

pub answer_fault : (words : List (List ℕ)) (before now : Told) (status : ℕ) (text : List ℕ) → IsAnswer words before now status text → status ≡ 4 → now.faults ≡ counted before.faults
answer_fault words before now status text (done bytes _ read is zero) four = absurd (omega (arith, zero, four))
answer_fault words before now status text (usage other unread _ one) four = absurd (omega (arith, one, four))
answer_fault words before now status text (bad_line bytes _ read is two) four = absurd (omega (arith, two, four))
answer_fault words before now status text (misplaced bytes _ read is three) four = absurd (omega (arith, three, four))
answer_fault words before now status text (read_fault _ read _ is) four = read.last.faults ∙ ap counted (given_quiet before read.mid read.bytes read.given)
answer_fault words before now status text (too_long _ read _ six) four = absurd (omega (arith, six, four))
answer_fault words before now status text (no_memory _ read _ seven) four = absurd (omega (arith, seven, four))

pub answer_quiet : (words : List (List ℕ)) (before now : Told) (status : ℕ) (text : List ℕ) → IsAnswer words before now status text → (status ≡ 4 → ⊥) → now.faults ≡ before.faults
answer_quiet words before now status text (done bytes _ read is zero) not_four = whole_quiet before now bytes read
answer_quiet words before now status text (usage other unread _ one) not_four = ap (λ (t : Told). t.faults) unread
answer_quiet words before now status text (bad_line bytes _ read is two) not_four = whole_quiet before now bytes read
answer_quiet words before now status text (misplaced bytes _ read is three) not_four = whole_quiet before now bytes read
answer_quiet words before now status text (read_fault _ read _ four) not_four = absurd (not_four four)
answer_quiet words before now status text (too_long _ read _ six) not_four = given_quiet before now read.bytes read.given
answer_quiet words before now status text (no_memory _ read _ seven) not_four = unfinished_quiet before now read

pub fault_rose : (words : List (List ℕ)) (before now : Told) (status : ℕ) (text : List ℕ) → IsAnswer words before now status text → status ≡ 4 → Rose before.faults now.faults
fault_rose words before now status text answer four = omega (arith, answer_fault words before now status text answer four)
