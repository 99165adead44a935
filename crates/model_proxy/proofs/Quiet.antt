-- Steps of either side that bring nothing new towards the other.
use Rattle.std.proofs.Common.{◌≡◌, ℕ, Bool, false, List, [], ◌∷◌, ◌++◌, Option, None, refl, ap, ◌∙◌, append-nil}
use Rattle.std.specs.Prelude.{unwrap_or, ◌||◌}
use Rattle.std.specs.List.{list_any}
use Rattle.std.specs.Option.{option_or}
use Rattle.model_h1.specs.Setting.{Setting}
use Rattle.model_h1.specs.Event as on
use Rattle.model_h1.specs.Sums as sums
use Rattle.model_h1.specs.Sums.{Step, step_taken, step_written, tick_of, head_of}
use Rattle.model_client.specs.ClientEvent as asked
use Rattle.model_client.specs.ClientKept.{ClientKept, Waiting}
use Rattle.model_client.specs.ClientTrace.{Happened, now_of, sending_of, sending_after, text_of, text_of_event, given, taken, written, taken_by, requests_of, requests_by}
use Rattle.model_proxy.specs.Forward.{Sent}
use Rattle.model_proxy.specs.Exchange.{Pulled, pulled, pulled_by, with_head}
use Rattle.model_proxy.specs.Happenings.{Link, server_of, is_eof}
use Rattle.model_proxy.specs.Moves.{after_outcome, HasBrought, IsQuiet, Stays}

-- ---- the client's side

-- a step that takes and gives nothing, and is no tick and no end
pub brought : (event : on.Event) (o : on.Outcome) (trace : List Step) → step_taken event o ≡ [] → step_written o ≡ [] → tick_of event ≡ None
    → sums.is_eof event ≡ false → HasBrought o trace (record { event = event; outcome = o } ∷ trace)
unfolding sums.taken sums.written sums.last_tick pulled
brought event o trace took gave tick going = record {
  taken = ap (λ (b : List ℕ). sums.taken trace ++ b) took ∙ append-nil (sums.taken trace);
  written = ap (λ (b : List ℕ). sums.written trace ++ b) gave ∙ append-nil (sums.written trace);
  moment = ap (λ (t : Option ℕ). unwrap_or (option_or t (sums.last_tick trace)) 0) tick;
  ended = ap (λ (b : Bool). b || sums.has_ended trace) going;
  pulled = refl;
}

-- an outcome that brings nothing of a request
pub record BringsNothing (o : on.Outcome) : Type 0 where
  pub head : head_of o ≡ None
  pub more : (p : Pulled) → pulled_by o p ≡ p

pub nothing_more : (o : on.Outcome) → BringsNothing o → (ps : List Pulled) → after_outcome o ps ≡ ps
nothing_more o nothing [] = ap (λ h. with_head h []) nothing.head
nothing_more o nothing (p ∷ ps) =
    ap (λ h. with_head h (pulled_by o p ∷ ps)) nothing.head ∙ ap (λ (q : Pulled). q ∷ ps) (nothing.more p)

pub done_brings_nothing : BringsNothing on.done
done_brings_nothing = record { head = refl; more = λ p. refl }

pub pending_brings_nothing : BringsNothing on.pending
pending_brings_nothing = record { head = refl; more = λ p. refl }

-- ---- a server's side

-- a step that takes and gives nothing, adds nothing to the text and asks nothing
pub quiet : (event : asked.ClientEvent) (o : asked.ClientOutcome) (trace : List Happened) → taken_by event o ≡ [] → given o ≡ [] → is_eof event ≡ false
    → text_of_event event (now_of trace) (sending_of trace) ≡ [] → sending_after event (sending_of trace) ≡ sending_of trace
    → requests_by event ≡ [] → IsQuiet trace (record { event = event; outcome = o } ∷ trace)
quiet event o trace took gave going says same asks = record {
  taken = ap (λ (b : List ℕ). taken trace ++ b) took ∙ append-nil (taken trace);
  written = ap (λ (b : List ℕ). written trace ++ b) gave ∙ append-nil (written trace);
  ended = ap (λ (e : Bool). e || list_any (λ (s : Happened). is_eof s.event) trace) going;
  text = ap (λ (t : List ℕ). text_of trace ++ t) says ∙ append-nil (text_of trace);
  sending = same;
  asked = ap (λ (ws : List Waiting). requests_of trace ++ ws) asks ∙ append-nil (requests_of trace);
}

pub stays_same : (setting : Setting) (k : ClientKept) → Stays setting k k
stays_same setting k = λ trace stands. (trace, stands, record { taken = refl; written = refl; ended = refl; text = refl; sending = refl; asked = refl })

-- a step that takes and gives nothing leaves what came and was given
pub quiet_server : (l : Link) (event : asked.ClientEvent) (o : asked.ClientOutcome) (sent : List Sent) → taken_by event o ≡ [] → given o ≡ [] → is_eof event ≡ false
    → server_of (record { happened = record { event = event; outcome = o } ∷ l.happened; sent = sent }) ≡ server_of l
quiet_server l event o sent took gave going =
    let ended = list_any (λ (s : Happened). is_eof s.event) l.happened in
    ap (λ (b : List ℕ). record { came = taken l.happened ++ b; ended = is_eof event || ended; given = written l.happened ++ given o }) took
    ∙ ap (λ (b : List ℕ). record { came = b; ended = is_eof event || ended; given = written l.happened ++ given o }) (append-nil (taken l.happened))
    ∙ ap (λ (b : List ℕ). record { came = taken l.happened; ended = is_eof event || ended; given = written l.happened ++ b }) gave
    ∙ ap (λ (b : List ℕ). record { came = taken l.happened; ended = is_eof event || ended; given = b }) (append-nil (written l.happened))
    ∙ ap (λ (e : Bool). record { came = taken l.happened; ended = e || ended; given = written l.happened }) going
