-- Which answers the client's connection wants after a call, whatever happened before.
use Rattle.std.specs.Prelude.{◌≡◌, Bool, true, false, ◌==◌, List}
use Rattle.model_h1.specs.Request.{Head}
use Rattle.model_h1.specs.Answer.{asked_of, BodySize, is_at_once}
use Rattle.model_h1.specs.Sums.{Step}
use Rattle.h1_decoder.specs.HeadItem.{SaysHead}
use Rattle.h1_connection.specs.EventMeaning.{setting_of}
use Rattle.h1_decoder.specs.declared.decoder.HeadItem.{HeadItem}
use Rattle.h1_connection.specs.State.{State, Stands}
use Rattle.h1_connection.specs.declared.connection.heads.NextHead.{NextHead}
use Rattle.h1_connection.specs.declared.connection.heads.NextHead.TheVariants as next
use Rattle.model_proxy.specs.Wants as wanted

-- while it goes on, no request waits for its answer
abbrev pub IsAnswered : State → Type 0
IsAnswered s = wanted.IsAnswered (setting_of s.settings) s.kept

-- while it goes on, no answer lacks more of its body, or its end
abbrev pub IsComplete : State → Type 0
IsComplete s = wanted.IsComplete (setting_of s.settings) s.kept

-- while it goes on, a request waits for its answer
abbrev pub IsWaitedFor : State → Type 0
IsWaitedFor s = wanted.IsWaitedFor (setting_of s.settings) s.kept

-- while it goes on, an answer lacks more of its body, or its end
abbrev pub IsAnswering : State → Type 0
IsAnswering s = wanted.IsAnswering (setting_of s.settings) s.kept

-- there is a newest request, and whether its method is HEAD is as this says
abbrev pub IsAskedBy : Bool → State → Type 0
IsAskedBy is_head s = wanted.IsAskedBy is_head s.kept

-- whether the newest request is one of HEAD doesn't change
abbrev pub AsksTheSame : State → State → Type 0
AsksTheSame old new = (is_head : Bool) → IsAskedBy is_head old → IsAskedBy is_head new

-- while it goes on, the client doesn't wait to be told to go on
abbrev pub IsTold : State → Type 0
IsTold s = wanted.IsTold (setting_of s.settings) s.kept

-- what is wanted is what was before
pub record WantsTheSame (old new : State) : Type 0 where
  pub answered : IsAnswered old → IsAnswered new
  pub complete : IsComplete old → IsComplete new
  pub waited : IsWaitedFor old → IsWaitedFor new
  pub answering : IsAnswering old → IsAnswering new
  pub asked : AsksTheSame old new
  pub told : IsTold old → IsTold new

abbrev pub Wants : (State → State → Type 0) → State → State → Type 0
Wants What old new = (trace : List Step) → Stands old trace → What old new

-- the newest request is one that the item says
abbrev pub IsAskedFor : HeadItem → State → Type 0
IsAskedFor item s = (h : Head) → SaysHead item h → IsAskedBy (asked_of h).is_head s

-- a client of HTTP/1.0 doesn't wait to be told to go on
abbrev pub IsToldIfOld : HeadItem → State → Type 0
IsToldIfOld item s = (h : Head) → SaysHead item h → (h.minor == 0) ≡ true → IsTold s

-- After a head its request is the newest, and waits, no answer is under way, and a client of HTTP/1.0 doesn't wait to be told to go on.
abbrev pub WantsNext : NextHead → State → State → Type 0
WantsNext (next.Head item) old new = IsComplete new × IsWaitedFor new × IsAskedFor item new × IsToldIfOld item new
WantsNext next.Pending old new = WantsTheSame old new
WantsNext (next.Fault fault) old new = WantsTheSame old new
WantsNext (next.Closed end) old new = WantsTheSame old new

-- After the head of an answer no request waits for one; where its body ends at once, no more of an answer is wanted than before, and else
-- the answer of the request that waited lacks its body, or its end.
pub record HasHead (size : BodySize) (old new : State) : Type 0 where
  pub answered : IsAnswered new
  pub complete : is_at_once size ≡ true → IsComplete old → IsComplete new
  pub answering : is_at_once size ≡ false → IsWaitedFor old → IsAnswering new
  pub asked : AsksTheSame old new
  pub told : IsTold old → IsTold new

-- after the end of an answer nothing of one is wanted
pub record HasEnd (old new : State) : Type 0 where
  pub answered : IsAnswered old → IsAnswered new
  pub complete : IsComplete new
  pub asked : AsksTheSame old new
  pub told : IsTold old → IsTold new

-- where a request waits for its answer, its client is told to go on
abbrev pub TellsToContinue : State → State → Type 0
TellsToContinue old new = IsWaitedFor old → IsTold new
