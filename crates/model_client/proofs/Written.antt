-- What a step adds to the text that goes out.
use Rattle.std.proofs.Common.{◌≡◌, ℕ, ◌-◌, min, Bool, true, false, ◌&&◌, not, List, [], ◌∷◌, ◌++◌, length, drop, take, Option, Some, None, refl, sym, ap, ◌∙◌, subst, append-nil, append_assoc}
use Rattle.std.specs.Prelude.{◌==◌, if◌then◌else◌}
use Rattle.std.proofs.lemmas.List.{take-append-drop}
use Rattle.model_h1.specs.Setting.{Setting}
use Rattle.model_h1.specs.Event as server
use Rattle.model_state.specs.Body.{Passed, pass_rest}
use Rattle.model_client.specs.AnswerReading.{Answer, AnswerReading, answer_is, refused}
use Rattle.model_client.specs.AnswerParse.{is_interim}
use Rattle.model_client.specs.ClientEvent as on
use Rattle.model_client.specs.ClientEvent.{ClientEvent, ClientEnd, ClientOutcome, large_answer}
use Rattle.model_client.specs.ClientKept.{Waiting, SendingBody, ReadingBody, ClientKept, client_closing}
use Rattle.model_client.specs.ClientStep.{ClientChange, doing, sending_piece, ending_body, passed_body, passing, dropping, outcome_of, reading, body_at_end, ending_input, IsPulling, behind_final, behind_head, without_head, IsUpcoming, IsNext, IsClientChange}
use Rattle.model_client.specs.ClientTrace.{Happened, IsClientTrace, now_after, sending_after, text_of_event, now_of, sending_of, text_of, given, written}
use Rattle.model_client.proofs.Answered.{told_without}

-- ---- what changes nothing of what is written

pub record Still (k m : ClientKept) : Type 0 where
  pub now : m.now ≡ k.now
  pub sending : m.sending ≡ k.sending
  pub buffered : m.buffered ≡ k.buffered

passing_if : Bool → ReadingBody → ClientKept → Passed → ClientKept
passing_if t body k p = if t then passed_body k.has_ended body k p else k

still_if : (t : Bool) (body : ReadingBody) (k : ClientKept) (p : Passed) → Still k (passing_if t body k p)
unfolding passing_if
still_if true body k p = record { now = refl; sending = refl; buffered = refl }
still_if false body k p = record { now = refl; sending = refl; buffered = refl }

pub still_passing : (body : Option ReadingBody) (k : ClientKept) → Still k (passing body k)
unfolding passing_if
still_passing None k = record { now = refl; sending = refl; buffered = refl }
still_passing (Some body) k = still_if (body.was_dropped && not body.is_done) body k (pass_rest k.has_ended body.rest k.unread)

still_dropping : (body : Option ReadingBody) (k : ClientKept) → Still k (dropping body k)
still_dropping None k = record { now = refl; sending = refl; buffered = refl }
still_dropping (Some body) k =
    let s = still_passing (Some (record body { was_dropped = true })) (record k { reading = Some (record body { was_dropped = true }) }) in
    record { now = s.now; sending = s.sending; buffered = s.buffered }

still_answer : (t : Bool) (k : ClientKept) (unread : List ℕ) (a : Answer) (w : Waiting) (ws : List Waiting)
    → Still k (if t then record k { unread = unread } else behind_final k unread a w ws)
still_answer true k unread a w ws = record { now = refl; sending = refl; buffered = refl }
still_answer false k unread a w ws = record { now = refl; sending = refl; buffered = refl }

-- ---- what each event adds

-- the facts of a change
record Adds (k : ClientKept) (event : ClientEvent) (c : ClientChange) : Type 0 where
  now : c.kept.now ≡ now_after event k.now
  sending : c.kept.sending ≡ sending_after event k.sending
  text : given c.outcome ++ c.kept.buffered ≡ k.buffered ++ text_of_event event k.now k.sending

-- a change that writes nothing, after an event that adds nothing
quiet : (k m : ClientKept) (o : ClientOutcome) → Still k m → given o ≡ []
    → (m.now ≡ k.now) × ((m.sending ≡ k.sending) × (given o ++ m.buffered ≡ k.buffered ++ []))
quiet k m o still none =
    (still.now, (still.sending, ap (λ (g : List ℕ). g ++ m.buffered) none ∙ still.buffered ∙ sym (append-nil k.buffered)))

piece_adds : (k : ClientKept) (bytes : List ℕ) (body : Option SendingBody) → k.sending ≡ body
    → ((sending_piece bytes body k).now ≡ k.now) × (((sending_piece bytes body k).sending ≡ sending_after (on.chunk bytes) body)
    × ((sending_piece bytes body k).buffered ≡ k.buffered ++ text_of_event (on.chunk bytes) k.now body))
piece_adds k bytes None is = (refl, (is, sym (append-nil k.buffered)))
piece_adds k bytes (Some body) is = (refl, (refl, refl))

end_adds : (k : ClientKept) (body : Option SendingBody) → k.sending ≡ body
    → ((ending_body body k).now ≡ k.now) × (((ending_body body k).sending ≡ None)
    × ((ending_body body k).buffered ≡ k.buffered ++ text_of_event on.body_end k.now body))
end_adds k None is = (refl, (is, sym (append-nil k.buffered)))
end_adds k (Some body) is = (refl, (refl, refl))

none_given : (o : server.Outcome) → given (outcome_of o) ≡ []
none_given (server.bytes bytes) = refl
none_given (server.trailers lines) = refl
none_given server.body_ended = refl
none_given (server.broken_by fault) = refl
none_given (server.took n) = refl
none_given (server.head h) = refl
none_given (server.frame f) = refl
none_given server.pending = refl
none_given (server.closed end) = refl
none_given (server.fault f) = refl
none_given (server.protocol e) = refl
none_given (server.refused e) = refl
none_given (server.gave bytes) = refl
none_given (server.expired e) = refl
none_given server.abandoned = refl
none_given server.done = refl

-- a change of the next answer, or of a pull
record IsQuiet (k : ClientKept) (c : ClientChange) : Type 0 where
  still : Still k c.kept
  none : given c.outcome ≡ []

quiet_without : (full : Bool) (k : ClientKept) → IsQuiet k (told_without k full)
quiet_without true k = record { still = record { now = refl; sending = refl; buffered = refl }; none = refl }
quiet_without false k = record { still = record { now = refl; sending = refl; buffered = refl }; none = refl }

quiet_head : (k : ClientKept) (end : ℕ) (w : Waiting) (ws : List Waiting) (what : AnswerReading) → IsQuiet k (behind_head k end w ws what)
quiet_head k end w ws (refused f) = record { still = record { now = refl; sending = refl; buffered = refl }; none = refl }
quiet_head k end w ws (answer_is a) = record { still = still_answer (is_interim a.status) k (drop end k.unread) a w ws; none = refl }

moved : (k : ClientKept) (c d : ClientChange) → c ≡ d → IsQuiet k d → IsQuiet k c
moved k c d is x = subst (IsQuiet k) (sym is) x

quiet_upcoming : (setting : Setting) (k : ClientKept) (waiting : List Waiting) (coming : Bool) (c : ClientChange)
    → IsUpcoming setting k waiting coming c → IsQuiet k c
quiet_upcoming setting k [] false c x = moved k c (without_head setting k) x (quiet_without (length k.unread == setting.hold_size) k)
quiet_upcoming setting k (w ∷ ws) false c x = moved k c (without_head setting k) x (quiet_without (length k.unread == setting.hold_size) k)
quiet_upcoming setting k [] true c x = moved k c _ x (record { still = record { now = refl; sending = refl; buffered = refl }; none = refl })
quiet_upcoming setting k (w ∷ ws) true c (start, end, what, piece, reading, is) = moved k c (behind_head k end w ws what) is (quiet_head k end w ws what)

quiet_next : (setting : Setting) (k : ClientKept) (closing : Option ClientEnd) (c : ClientChange) → IsNext setting k closing c → IsQuiet k c
quiet_next setting k (Some end) c x = moved k c _ x (record { still = record { now = refl; sending = refl; buffered = refl }; none = refl })
quiet_next setting k None c x = quiet_upcoming setting k k.waiting k.is_coming c x

quiet_pull : (k : ClientKept) (body : Option ReadingBody) (c : ClientChange) → IsPulling k body c → IsQuiet k c
quiet_pull k None c x = moved k c _ x (record { still = record { now = refl; sending = refl; buffered = refl }; none = refl })
quiet_pull k (Some body) c (p, pull, is) =
    moved k c _ is (record { still = record { now = refl; sending = refl; buffered = refl }; none = none_given p.outcome })

from_parts : (k : ClientKept) (event : ClientEvent) (c d : ClientChange) → c ≡ d
    → (d.kept.now ≡ now_after event k.now) × ((d.kept.sending ≡ sending_after event k.sending)
    × (given d.outcome ++ d.kept.buffered ≡ k.buffered ++ text_of_event event k.now k.sending)) → Adds k event c
from_parts k event c d is x = subst (Adds k event) (sym is) (record { now = x.0; sending = x.1.0; text = x.1.1 })

adds : (setting : Setting) (k : ClientKept) (event : ClientEvent) (c : ClientChange) → IsClientChange setting k event c → Adds k event c
adds setting k (on.ask r size) c x = from_parts k (on.ask r size) c _ x (refl, (refl, refl))
adds setting k (on.chunk bytes) c x = from_parts k (on.chunk bytes) c _ x (piece_adds k bytes k.sending refl)
adds setting k on.body_end c x = from_parts k on.body_end c _ x (end_adds k k.sending refl)
adds setting k on.body_error c x = from_parts k on.body_error c _ x (refl, (refl, sym (append-nil k.buffered)))
adds setting k (on.read bytes) c x =
    let n = min (length bytes) (setting.hold_size - length k.unread) in
    let more : ClientKept = record k { unread = k.unread ++ take n bytes } in
    let s = still_passing k.reading more in
    from_parts k (on.read bytes) c (reading setting bytes k) x
    (quiet k (passing k.reading more) (on.took n) (record { now = s.now; sending = s.sending; buffered = s.buffered }) refl)
adds setting k on.eof c x =
    let at_end : ClientKept = record k { has_ended = true; reading = body_at_end k.unread k.reading } in
    let s = still_passing at_end.reading at_end in
    from_parts k on.eof c (doing (ending_input k)) x
    (quiet k (passing at_end.reading at_end) on.done (record { now = s.now; sending = s.sending; buffered = s.buffered }) refl)
adds setting k on.next c x =
    let q = quiet_next setting k (client_closing k) c x in from_parts k on.next c c refl (quiet k c.kept c.outcome q.still q.none)
adds setting k on.pull c x = let q = quiet_pull k k.reading c x in from_parts k on.pull c c refl (quiet k c.kept c.outcome q.still q.none)
adds setting k on.drop_body c x = from_parts k on.drop_body c _ x (quiet k _ on.done (still_dropping k.reading k) refl)
adds setting k (on.write n) c x =
    from_parts k (on.write n) c _ x (refl, (refl, take-append-drop n k.buffered ∙ sym (append-nil k.buffered)))
adds setting k (on.tick ms) c x = from_parts k (on.tick ms) c _ x (refl, (refl, sym (append-nil k.buffered)))

-- ---- the same over all that happened

pub record IsText (trace : List Happened) (k : ClientKept) : Type 0 where
  pub now : k.now ≡ now_of trace
  pub sending : k.sending ≡ sending_of trace
  pub text : written trace ++ k.buffered ≡ text_of trace

pub is_text : (setting : Setting) (trace : List Happened) (k : ClientKept) → IsClientTrace setting trace k → IsText trace k
is_text setting [] k is = record {
  now = ap (λ (k : ClientKept). k.now) is;
  sending = ap (λ (k : ClientKept). k.sending) is;
  text = ap (λ (k : ClientKept). k.buffered) is;
}
is_text setting (s ∷ before) k (b, trace, allowed, step) =
    let old = is_text setting before b trace in
    let new = adds setting b s.event step.change step.changes in
    record {
      now = ap (λ (k : ClientKept). k.now) step.keeps ∙ new.now ∙ ap (now_after s.event) old.now;
      sending = ap (λ (k : ClientKept). k.sending) step.keeps ∙ new.sending ∙ ap (sending_after s.event) old.sending;
      text =
          append_assoc (written before) (given s.outcome) k.buffered
          ∙ ap (λ (o : ClientOutcome). written before ++ (given o ++ k.buffered)) step.answers
          ∙ ap (λ (k : ClientKept). written before ++ (given step.change.outcome ++ k.buffered)) step.keeps
          ∙ ap (λ (t : List ℕ). written before ++ t) new.text
          ∙ sym (append_assoc (written before) b.buffered (text_of_event s.event b.now b.sending))
          ∙ ap (λ (t : List ℕ). t ++ text_of_event s.event b.now b.sending) old.text
          ∙ ap (λ (n : ℕ). text_of before ++ text_of_event s.event n b.sending) old.now
          ∙ ap (λ (o : Option SendingBody). text_of before ++ text_of_event s.event (now_of before) o) old.sending;
    }
