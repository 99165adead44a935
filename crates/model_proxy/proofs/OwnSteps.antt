-- What a server's connection does of a forwarder's own between two events: it is asked for the next answer, or more of a body, or told the time.
use Rattle.std.proofs.Common.{◌≡◌, ℕ, Bool, true, false, List, [], ◌∷◌, ◌++◌, length, Option, Some, None, refl, ap, ◌∙◌}
use Rattle.std.specs.Prelude.{◌==◌}
use Rattle.std.specs.List.{AllByRecursion}
use Rattle.std.proofs.lemmas.Bool.{false≢true}
use Rattle.model_h1.specs.Setting.{Setting}
use Rattle.model_h1.specs.Event as server
use Rattle.model_client.specs.AnswerReading.{AnswerReading, answer_is, refused}
use Rattle.model_client.specs.ClientEvent as on
use Rattle.model_client.specs.ClientEvent.{ClientEvent, ClientEnd, ClientOutcome}
use Rattle.model_client.specs.ClientKept.{Waiting, ReadingBody, ClientKept, client_closing}
use Rattle.model_client.specs.ClientStep.{ClientChange, outcome_of, IsPulling, behind_head, IsUpcoming, IsNext, IsClientStep}
use Rattle.model_client.specs.ClientTrace.{Happened, IsClientTrace, given}
use Rattle.model_client.proofs.Answered.{told_without}
use Rattle.model_proxy.specs.Moves.{IsQuiet}
use Rattle.model_proxy.proofs.Quiet.{quiet}
use Rattle.model_proxy.proofs.OnLinks.{AddsLittle}
use Rattle.model_proxy.proofs.LinkSteps.{IsLittle}

-- it is one of these
abbrev pub is_own : ClientEvent → Bool
is_own on.next = true
is_own on.pull = true
is_own (on.tick ms) = true
is_own _ = false

-- ---- no bytes are given

gives_none : (k : ClientKept) (full : Bool) → given (told_without k full).outcome ≡ []
gives_none k true = refl
gives_none k false = refl

head_gives : (k : ClientKept) (end : ℕ) (w : Waiting) (ws : List Waiting) (what : AnswerReading) → given (behind_head k end w ws what).outcome ≡ []
head_gives k end w ws (refused f) = refl
head_gives k end w ws (answer_is a) = refl

upcoming_gives : (setting : Setting) (k : ClientKept) (waiting : List Waiting) (coming : Bool) (c : ClientChange) → IsUpcoming setting k waiting coming c
    → given c.outcome ≡ []
upcoming_gives setting k [] false c x = ap (λ (c : ClientChange). given c.outcome) x ∙ gives_none k (length k.unread == setting.hold_size)
upcoming_gives setting k (w ∷ ws) false c x = ap (λ (c : ClientChange). given c.outcome) x ∙ gives_none k (length k.unread == setting.hold_size)
upcoming_gives setting k [] true c x = ap (λ (c : ClientChange). given c.outcome) x
upcoming_gives setting k (w ∷ ws) true c (start, end, what, piece, reads, x) = ap (λ (c : ClientChange). given c.outcome) x ∙ head_gives k end w ws what

next_gives : (setting : Setting) (k : ClientKept) (closing : Option ClientEnd) (c : ClientChange) → IsNext setting k closing c → given c.outcome ≡ []
next_gives setting k (Some end) c x = ap (λ (c : ClientChange). given c.outcome) x
next_gives setting k None c x = upcoming_gives setting k k.waiting k.is_coming c x

pull_gives : (o : server.Outcome) → given (outcome_of o) ≡ []
pull_gives (server.bytes bytes) = refl
pull_gives (server.trailers lines) = refl
pull_gives server.body_ended = refl
pull_gives (server.broken_by fault) = refl
pull_gives o = refl

pulling_gives : (k : ClientKept) (body : Option ReadingBody) (c : ClientChange) → IsPulling k body c → given c.outcome ≡ []
pulling_gives k None c x = ap (λ (c : ClientChange). given c.outcome) x
pulling_gives k (Some body) c (p, pull, x) = ap (λ (c : ClientChange). given c.outcome) x ∙ pull_gives p.outcome

own_gives : (setting : Setting) (k next : ClientKept) (event : ClientEvent) (o : ClientOutcome) → is_own event ≡ true → IsClientStep setting k event o next → given o ≡ []
own_gives setting k next on.next o own step = ap given step.answers ∙ next_gives setting k (client_closing k) step.change step.changes
own_gives setting k next on.pull o own step = ap given step.answers ∙ pulling_gives k k.reading step.change step.changes
own_gives setting k next (on.tick ms) o own step = ap given step.answers ∙ ap (λ (c : ClientChange). given c.outcome) step.changes
own_gives setting k next (on.ask r size) o own step = absurd (false≢true own)
own_gives setting k next (on.chunk bytes) o own step = absurd (false≢true own)
own_gives setting k next on.body_end o own step = absurd (false≢true own)
own_gives setting k next on.body_error o own step = absurd (false≢true own)
own_gives setting k next (on.read bytes) o own step = absurd (false≢true own)
own_gives setting k next on.eof o own step = absurd (false≢true own)
own_gives setting k next on.drop_body o own step = absurd (false≢true own)
own_gives setting k next (on.write n) o own step = absurd (false≢true own)

-- ---- such a step is quiet

own_step : (s : Happened) (before : List Happened) → is_own s.event ≡ true → given s.outcome ≡ [] → IsQuiet before (s ∷ before)
own_step s before own gave = by_event s.event s.outcome own gave
  where
    by_event : (e : ClientEvent) (o : ClientOutcome) → is_own e ≡ true → given o ≡ [] → IsQuiet before (record { event = e; outcome = o } ∷ before)
    by_event on.next o own gave = quiet on.next o before refl gave refl refl refl refl
    by_event on.pull o own gave = quiet on.pull o before refl gave refl refl refl refl
    by_event (on.tick ms) o own gave = quiet (on.tick ms) o before refl gave refl refl refl refl
    by_event (on.ask r size) o own gave = absurd (false≢true own)
    by_event (on.chunk bytes) o own gave = absurd (false≢true own)
    by_event on.body_end o own gave = absurd (false≢true own)
    by_event on.body_error o own gave = absurd (false≢true own)
    by_event (on.read bytes) o own gave = absurd (false≢true own)
    by_event on.eof o own gave = absurd (false≢true own)
    by_event on.drop_body o own gave = absurd (false≢true own)
    by_event (on.write n) o own gave = absurd (false≢true own)

quiet_then : (a b c : List Happened) → IsQuiet a b → IsQuiet b c → IsQuiet a c
quiet_then a b c x y = record {
  taken = y.taken ∙ x.taken;
  written = y.written ∙ x.written;
  ended = y.ended ∙ x.ended;
  text = y.text ∙ x.text;
  sending = y.sending ∙ x.sending;
  asked = y.asked ∙ x.asked;
}

pub own_quiet : (setting : Setting) (more before : List Happened) (k : ClientKept) → AllByRecursion (λ s. is_own s.event ≡ true) more
    → IsClientTrace setting (more ++ before) k → IsQuiet before (more ++ before)
own_quiet setting [] before k own ran =
    record { taken = refl; written = refl; ended = refl; text = refl; sending = refl; asked = refl }
own_quiet setting (s ∷ more) before k own (b, ran, allowed, step) =
    quiet_then before (more ++ before) (s ∷ (more ++ before)) (own_quiet setting more before b own.1 ran)
    (own_step s (more ++ before) own.0 (own_gives setting b k s.event s.outcome own.0 step))

-- and hands out little where its outcome does
pub own_little : (s : Happened) → is_own s.event ≡ true → AddsLittle s.outcome → IsLittle s
own_little s own little = by_event s.event own
  where
    by_event : (e : ClientEvent) → is_own e ≡ true → IsLittle (record { event = e; outcome = s.outcome })
    by_event on.next own = record { calm = refl; sound = refl; none = refl; little = little }
    by_event on.pull own = record { calm = refl; sound = refl; none = refl; little = little }
    by_event (on.tick ms) own = record { calm = refl; sound = refl; none = refl; little = little }
    by_event (on.ask r size) own = absurd (false≢true own)
    by_event (on.chunk bytes) own = absurd (false≢true own)
    by_event on.body_end own = absurd (false≢true own)
    by_event on.body_error own = absurd (false≢true own)
    by_event (on.read bytes) own = absurd (false≢true own)
    by_event on.eof own = absurd (false≢true own)
    by_event on.drop_body own = absurd (false≢true own)
    by_event (on.write n) own = absurd (false≢true own)
