-- What is done at an end that reads with a codec: bytes come, and the next item is asked for.
use Rattle.std.specs.Prelude.{◌≡◌, ⊤, ℕ, Bool, List, [], ◌∷◌, ◌++◌, Option, Some, None, Result, Ok, IfOk, IfErr, OnOk}
use Rattle.http_types.specs.declared.error.ParseError.{ParseError}
use Rattle.http_types.specs.declared.error.ParseError.TheVariants.{NoMemory}
use Rattle.h1_codec.specs.Kind.{Kind}
use Rattle.h1_codec.specs.ServerAnswers.{IsHead, LeftAfter}
use Rattle.h1_codec.specs.FramedMessages.{Messages, given, nothing, Standing, Looked}
use Rattle.h1_codec.specs.Steps.{IsStep}
use Rattle.h1_codec.specs.declared.framed_message.Message.{Message}

-- Bytes come, as many as there are; or the next item is asked for, and this is answered.
pub data Act (I : Type 0) : Type 0 where
  comes : List ℕ → Act I
  asked : Result (Option (Message I)) ParseError → Act I

-- all bytes that came
abbrev pub bytes_came : {I : Type 0} → List (Act I) → List ℕ
bytes_came [] = []
bytes_came (comes bytes ∷ acts) = bytes ++ bytes_came acts
bytes_came (asked answer ∷ acts) = bytes_came acts

-- All items that were given, one after another, in front of this: the heads, each with the bytes of its body and its end. A
-- piece of a body where none can stand shows in it (`never_said`).
abbrev pub told : {I : Type 0} → List (Act I) → Messages I → Messages I
told [] behind = behind
told (asked (Ok (Some item)) ∷ acts) behind = given item (told acts behind)
told (act ∷ acts) behind = told acts behind

-- all that was given
abbrev pub all_told : {I : Type 0} → List (Act I) → Messages I
all_told acts = told acts nothing

-- no error was answered but that memory ran out
abbrev pub HaveNoFault : {I : Type 0} → List (Act I) → Type 0
HaveNoFault [] = ⊤
HaveNoFault (comes bytes ∷ acts) = HaveNoFault acts
HaveNoFault (asked answer ∷ acts) = IfErr answer (λ e. e ≡ NoMemory) × HaveNoFault acts

-- what was done last is to ask for an item, and there was none
abbrev pub EndsWaiting : {I : Type 0} → List (Act I) → Type 0
EndsWaiting [] = ⊥
EndsWaiting (asked (Ok None) ∷ []) = ⊤
EndsWaiting (act ∷ []) = ⊥
EndsWaiting (act ∷ second ∷ acts) = EndsWaiting (second ∷ acts)

-- ---- what a codec answers

-- What the contracts of `decode` say of one answer, clause by clause: of a server's `Codec` and of both codecs of a client, where
-- a head and a piece of a body are items of a message.
pub record HasAnswered {I : Type 0} (k : Kind I) (is_bare : Bool) (old : Standing) (bytes : List ℕ) (answer : Result (Option (Message I)) ParseError)
    (new : Standing) (rest : List ℕ) : Type 0 where
  pub step : IsStep k old bytes answer new rest
  pub item : IfOk answer (λ item. IsHead k is_bare old bytes item new rest)
  pub left : IfErr answer (λ e. LeftAfter e old bytes new rest)
  pub seen : OnOk answer (Looked old bytes → (more : List ℕ) → Looked new (rest ++ more))
  pub limit : new.search.limit ≡ old.search.limit

-- Each answer is one to the bytes that the one before it left and those that came since, from this standing on to the last.
abbrev pub IsRun : {I : Type 0} → Kind I → Bool → Standing → List ℕ → List (Act I) → Standing → List ℕ → Type 0
IsRun k is_bare old left [] last rest = (last ≡ old) × (rest ≡ left)
IsRun k is_bare old left (comes bytes ∷ acts) last rest = IsRun k is_bare old (left ++ bytes) acts last rest
IsRun k is_bare old left (asked answer ∷ acts) last rest =
    (next : Standing) × (behind : List ℕ) × HasAnswered k is_bare old left answer next behind × IsRun k is_bare next behind acts last rest
