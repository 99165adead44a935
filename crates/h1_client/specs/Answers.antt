-- What comes where the next answer is asked for.
use Rattle.std.specs.Prelude.{◌≡◌, ℕ, Bool, true, false, not, ◌||◌, ◌⊎◌, List, codes, bytes_eq, drop, Option, Some, IsSome}
use Rattle.model_h1.specs.Request as model
use Rattle.model_h1.specs.Request.{has_body}
use Rattle.model_h1.specs.Setting.{Setting}
use Rattle.model_state.specs.Kept.{whole_rest, rest_in}
use Rattle.h1_decoder.specs.ResponseItem.{SaysAnswer}
use Rattle.h1_decoder.specs.declared.response.ResponseItem.{ResponseItem}
use Rattle.h1_client.specs.HeadMeaning.{fault_of}
use Rattle.model_client.specs.AnswerTable.{body_to}
use Rattle.model_client.specs.AnswerParse.{is_interim}
use Rattle.model_client.specs.AnswerReading.{Answer, answer_is, IsAnswerReading}
use Rattle.model_client.specs.ClientEvent as on
use Rattle.model_client.specs.ClientKept.{Waiting, ClientKept, client_closing}
use Rattle.model_client.specs.ClientStep.{is_closed_after}
use Rattle.h1_client.specs.ClientMeaning.{end_of}
use Rattle.h1_client.specs.Parts.{IsFirst, Steps}
use Rattle.h1_client.specs.declared.connection.parts.Parts.{Parts}
use Rattle.h1_client.specs.declared.connection.queue.First.{First}
use Rattle.h1_client.specs.declared.event.NextAnswer.{NextAnswer}
use Rattle.h1_client.specs.declared.event.NextAnswer.TheVariants as next

-- what comes says what the machine's outcome does
abbrev pub SaysNext : NextAnswer → on.ClientOutcome → Type 0
SaysNext (next.Answer item) out = (a : Answer) × SaysAnswer item a × (out ≡ on.answer a)
SaysNext (next.Fault fault) out = out ≡ on.fault (fault_of fault)
SaysNext next.Pending out = out ≡ on.pending
SaysNext (next.Closed end) out = out ≡ on.closed (end_of end)

-- what comes leads from these parts to those
abbrev pub IsNexted : Setting → Parts → NextAnswer → Parts → Type 0
IsNexted setting p answer q = (out : on.ClientOutcome) × SaysNext answer out × Steps setting p on.next out q

-- the connection closes, or no whole head is there
abbrev pub NeedsNoMemory : ClientKept → Type 0
NeedsNoMemory k = IsSome (client_closing k) ⊎ (k.is_coming ≡ false)

-- The first request waits no more, and the body of its answer begins.
pub record IsAnswered (p : Parts) (first : First) (item : ResponseItem) (q : Parts) : Type 0 where
  pub kind : model.BodyKind
  pub kind_is : (a : Answer) (method : List ℕ) → SaysAnswer item a → bytes_eq method (codes "HEAD") ≡ first.is_head → kind ≡ body_to method a.body
  pub closes : (piece : List ℕ) (a : Answer) (w : Waiting) → IsAnswerReading piece (answer_is a) → SaysAnswer item a → IsFirst w first
      → q.closes ≡ is_closed_after w a
  pub parts : q ≡ record p {
    waiting = drop 1 p.waiting;
    closes = q.closes;
    is_last = p.is_last || q.closes;
    reading = Some (record { rest = rest_in p.has_ended p.input.unread (whole_rest kind); is_done = not (has_body kind); was_dropped = false });
  }

-- An interim answer leaves its request waiting; any other is the one to the first.
pub record IsBegun (p : Parts) (first : First) (item : ResponseItem) (q : Parts) : Type 0 where
  pub interim : (a : Answer) → SaysAnswer item a → is_interim a.status ≡ true → q ≡ p
  pub final : (a : Answer) → SaysAnswer item a → is_interim a.status ≡ false → IsAnswered p first item q
  pub input : q.input ≡ p.input
