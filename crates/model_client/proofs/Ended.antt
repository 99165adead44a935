-- Whether the input has ended is what happened.
use Rattle.std.proofs.Common.{◌≡◌, ℕ, ◌-◌, min, Bool, true, false, ◌&&◌, ◌||◌, not, List, [], ◌∷◌, ◌++◌, length, take, drop, Option, Some, None, refl, sym, ap, ◌∙◌}
use Rattle.std.specs.Prelude.{◌==◌, if◌then◌else◌}
use Rattle.model_h1.specs.Setting.{Setting}
use Rattle.model_state.specs.Body.{pass_rest}
use Rattle.model_client.specs.AnswerReading.{AnswerReading, answer_is, refused}
use Rattle.model_client.specs.AnswerParse.{is_interim}
use Rattle.model_client.specs.ClientEvent as on
use Rattle.model_client.specs.ClientEvent.{ClientEvent, ClientEnd}
use Rattle.model_client.specs.ClientKept.{Waiting, SendingBody, ReadingBody, ClientKept, client_closing}
use Rattle.model_client.specs.ClientStep.{ClientChange, sending_piece, ending_body, passed_body, passing, dropping, body_at_end, IsPulling, behind_final, behind_head, without_head, IsUpcoming, IsNext, IsClientChange}
use Rattle.model_client.specs.ClientTrace.{Happened, IsClientTrace}
use Rattle.model_client.proofs.Answered.{told_without}
use Rattle.model_client.specs.Parsed.{ends_input, has_ended}

pub passing_ended : (reading : Option ReadingBody) (k : ClientKept) → (passing reading k).has_ended ≡ k.has_ended
passing_ended None k = refl
passing_ended (Some body) k = by_test (body.was_dropped && not body.is_done)
  where
    by_test : (t : Bool) → (if t then passed_body k.has_ended body k (pass_rest k.has_ended body.rest k.unread) else k).has_ended ≡ k.has_ended
    by_test true = refl
    by_test false = refl

dropping_ended : (reading : Option ReadingBody) (k : ClientKept) → (dropping reading k).has_ended ≡ k.has_ended
dropping_ended None k = refl
dropping_ended (Some body) k =
    passing_ended (Some (record body { was_dropped = true })) (record k { reading = Some (record body { was_dropped = true }) })

piece_ended : (piece : List ℕ) (body : Option SendingBody) (k : ClientKept) → (sending_piece piece body k).has_ended ≡ k.has_ended
piece_ended piece None k = refl
piece_ended piece (Some body) k = refl

body_ended : (body : Option SendingBody) (k : ClientKept) → (ending_body body k).has_ended ≡ k.has_ended
body_ended None k = refl
body_ended (Some body) k = refl

-- a change after which the input has ended as before
abbrev IsStill : ClientKept → ClientChange → Type 0
IsStill k c = c.kept.has_ended ≡ k.has_ended

as_change : (k : ClientKept) (c d : ClientChange) → c ≡ d → IsStill k d → IsStill k c
as_change k c d is x = ap (λ (c : ClientChange). c.kept.has_ended) is ∙ x

without_ended : (k : ClientKept) (full : Bool) → IsStill k (told_without k full)
without_ended k true = refl
without_ended k false = refl

head_ended : (k : ClientKept) (end : ℕ) (w : Waiting) (ws : List Waiting) (what : AnswerReading) → IsStill k (behind_head k end w ws what)
head_ended k end w ws (refused f) = refl
head_ended k end w ws (answer_is a) = by_status (is_interim a.status)
  where
    by_status : (t : Bool) → (if t then record k { unread = drop end k.unread } else behind_final k (drop end k.unread) a w ws).has_ended ≡ k.has_ended
    by_status true = refl
    by_status false = refl

upcoming_ended : (setting : Setting) (k : ClientKept) (waiting : List Waiting) (coming : Bool) (c : ClientChange) → IsUpcoming setting k waiting coming c → IsStill k c
upcoming_ended setting k [] false c x = as_change k c (without_head setting k) x (without_ended k (length k.unread == setting.hold_size))
upcoming_ended setting k (w ∷ ws) false c x = as_change k c (without_head setting k) x (without_ended k (length k.unread == setting.hold_size))
upcoming_ended setting k [] true c x = as_change k c (record { outcome = on.pending; kept = k }) x refl
upcoming_ended setting k (w ∷ ws) true c (start, end, what, piece, reading, is) = as_change k c (behind_head k end w ws what) is (head_ended k end w ws what)

next_ended : (setting : Setting) (k : ClientKept) (closing : Option ClientEnd) (c : ClientChange) → IsNext setting k closing c → IsStill k c
next_ended setting k (Some end) c x = as_change k c (record { outcome = on.closed end; kept = record k { is_over = true } }) x refl
next_ended setting k None c x = upcoming_ended setting k k.waiting k.is_coming c x

pull_ended : (k : ClientKept) (body : Option ReadingBody) (c : ClientChange) → IsPulling k body c → IsStill k c
pull_ended k None c x = as_change k c (record { outcome = on.pending; kept = k }) x refl
pull_ended k (Some body) c (p, pull, is) = ap (λ (c : ClientChange). c.kept.has_ended) is

-- an event ends it, or leaves it as it was
pub change_ended : (setting : Setting) (k : ClientKept) (event : ClientEvent) (c : ClientChange) → IsClientChange setting k event c
    → c.kept.has_ended ≡ (ends_input event || k.has_ended)
change_ended setting k (on.ask r size) c x = ap (λ (c : ClientChange). c.kept.has_ended) x
change_ended setting k (on.chunk piece) c x = ap (λ (c : ClientChange). c.kept.has_ended) x ∙ piece_ended piece k.sending k
change_ended setting k on.body_end c x = ap (λ (c : ClientChange). c.kept.has_ended) x ∙ body_ended k.sending k
change_ended setting k on.body_error c x = ap (λ (c : ClientChange). c.kept.has_ended) x
change_ended setting k (on.read piece) c x =
    ap (λ (c : ClientChange). c.kept.has_ended) x
    ∙ passing_ended k.reading (record k { unread = k.unread ++ take (min (length piece) (setting.hold_size - length k.unread)) piece })
change_ended setting k on.eof c x =
    ap (λ (c : ClientChange). c.kept.has_ended) x
    ∙ passing_ended (body_at_end k.unread k.reading) (record k { has_ended = true; reading = body_at_end k.unread k.reading })
change_ended setting k on.next c x = next_ended setting k (client_closing k) c x
change_ended setting k on.pull c x = pull_ended k k.reading c x
change_ended setting k on.drop_body c x = ap (λ (c : ClientChange). c.kept.has_ended) x ∙ dropping_ended k.reading k
change_ended setting k (on.write n) c x = ap (λ (c : ClientChange). c.kept.has_ended) x
change_ended setting k (on.tick ms) c x = ap (λ (c : ClientChange). c.kept.has_ended) x

pub trace_ended : (setting : Setting) (trace : List Happened) (k : ClientKept) → IsClientTrace setting trace k → has_ended trace ≡ k.has_ended
trace_ended setting [] k is = ap (λ (k : ClientKept). k.has_ended) (sym is)
trace_ended setting (s ∷ before) k (b, trace, allowed, step) =
    ap (λ (t : Bool). ends_input s.event || t) (trace_ended setting before b trace)
    ∙ sym (change_ended setting b s.event step.change step.changes)
    ∙ sym (ap (λ (k : ClientKept). k.has_ended) step.keeps)
