-- Which answers a client's connection still wants, and where a server's is at its end.
use Rattle.std.specs.Prelude.{◌≡◌, Bool, true, false, not, ◌&&◌, ◌==◌, is_none, Option, Some, option_map, ⊤}
use Rattle.model_h1.specs.Answer.{asked_of}
use Rattle.model_h1.specs.Setting.{Setting}
use Rattle.model_h1.specs.Event as on
use Rattle.model_state.specs.Kept.{Exchange, Kept, of_exchange}
use Rattle.model_state.specs.Local.{closing_by, waits_for_answer, is_answering}

-- the connection neither is over nor is to end
abbrev pub is_running : Setting → Kept → Bool
is_running setting k = not k.is_over && is_none (closing_by setting k)

-- while it goes on, no request waits for its answer
abbrev pub IsAnswered : Setting → Kept → Type 0
IsAnswered setting k = is_running setting k ≡ true → waits_for_answer k ≡ false

-- while it goes on, no answer lacks more of its body, or its end
abbrev pub IsComplete : Setting → Kept → Type 0
IsComplete setting k = is_running setting k ≡ true → is_answering k ≡ false

-- while it goes on, a request waits for its answer
abbrev pub IsWaitedFor : Setting → Kept → Type 0
IsWaitedFor setting k = is_running setting k ≡ true → waits_for_answer k ≡ true

-- while it goes on, an answer lacks more of its body, or its end
abbrev pub IsAnswering : Setting → Kept → Type 0
IsAnswering setting k = is_running setting k ≡ true → is_answering k ≡ true

-- whether the method of the newest request is HEAD, where there is one
abbrev pub head_mark : Option Exchange → Option Bool
head_mark x = option_map (λ x. x.asked.is_head) x

-- there is a newest request, and whether its method is HEAD is as this says
abbrev pub IsAskedBy : Bool → Kept → Type 0
IsAskedBy is_head k = head_mark k.exchange ≡ Some is_head

-- whether the newest request is one of HEAD doesn't change
abbrev pub AsksTheSame : Kept → Kept → Type 0
AsksTheSame old new = (is_head : Bool) → IsAskedBy is_head old → IsAskedBy is_head new

-- The client of the newest request, one of HTTP/1.1, waits to be told to go on, and wasn't told. One of HTTP/1.0 never waits so (RFC 9110, section
-- 15.2).
abbrev pub awaits_continue : Kept → Bool
awaits_continue k = of_exchange (λ x. not (x.asked.minor == 0) && (x.expects && not x.had_continue)) k

-- the newest request is of HTTP/1.0
abbrev pub is_of_old : Kept → Bool
is_of_old k = of_exchange (λ x. x.asked.minor == 0) k

-- while it goes on, the client doesn't wait to be told to go on
abbrev pub IsTold : Setting → Kept → Type 0
IsTold setting k = is_running setting k ≡ true → awaits_continue k ≡ false

-- nothing is wanted that wasn't before, and the newest request is one of HEAD, or isn't, as before
pub record WantsNoMore (setting : Setting) (old new : Kept) : Type 0 where
  pub answered : IsAnswered setting old → IsAnswered setting new
  pub complete : IsComplete setting old → IsComplete setting new
  pub asked : AsksTheSame old new
  pub told : IsTold setting old → IsTold setting new

-- and what was wanted still is
pub record WantsTheSame (setting : Setting) (old new : Kept) : Type 0 where
  pub answered : IsAnswered setting old → IsAnswered setting new
  pub complete : IsComplete setting old → IsComplete setting new
  pub waited : IsWaitedFor setting old → IsWaitedFor setting new
  pub answering : IsAnswering setting old → IsAnswering setting new
  pub asked : AsksTheSame old new
  pub told : IsTold setting old → IsTold setting new

-- an event that hands out no request, and hands in no head of an answer and no end of one
abbrev pub AnswersNothing : on.Event → Type 0
AnswersNothing (on.read bytes) = ⊤
AnswersNothing on.eof = ⊤
AnswersNothing on.drop_body = ⊤
AnswersNothing on.send_continue = ⊤
AnswersNothing (on.chunk bytes) = ⊤
AnswersNothing (on.write n) = ⊤
AnswersNothing (on.tick ms) = ⊤
AnswersNothing event = ⊥

-- After a head its request is the newest, and waits, and no answer is under way, and a client of HTTP/1.0 doesn't wait to be told to go on; else
-- what is wanted is what was.
abbrev pub WantsAfterNext : Setting → on.Outcome → Kept → Kept → Type 0
WantsAfterNext setting (on.head h) old new = IsComplete setting new × IsWaitedFor setting new × IsAskedBy (asked_of h).is_head new
    × ((h.minor == 0) ≡ true → IsTold setting new)
WantsAfterNext setting o old new = WantsTheSame setting old new
