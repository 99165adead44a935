-- Over all that happened to a client, what it handed out is what was sent.
use Rattle.std.proofs.Common.{◌≡◌, ◌⊎◌, ℕ, ◌-◌, ◌<◌, min, Bool, true, false, ◌&&◌, not, List, [], ◌∷◌, ◌++◌, length, take, drop, Option, Some, None, is_some, refl, sym, ap, ◌∙◌, subst, inl, inr, append-nil, append_assoc}
use Rattle.std.specs.Prelude.{IsTrue, if◌then◌else◌, nat_lt}
use Rattle.std.specs.Option.{option_or}
use Rattle.std.proofs.lemmas.Bool.{false≢true}
use Rattle.model_h1.specs.Setting.{Setting}
use Rattle.model_client.specs.AnswerParse.{is_interim}
use Rattle.model_client.specs.ClientEvent as on
use Rattle.model_client.specs.ClientEvent.{ClientEvent, ClientEnd, ClientOutcome, failed_request}
use Rattle.model_client.specs.ClientKept.{Waiting, SendingBody, ReadingBody, ClientKept, is_free_of, is_dropped_of, client_closing, client_allows}
use Rattle.model_client.specs.ClientStep.{ClientChange, asking, sending_piece, ending_body, dropping, reading, IsPulling, IsClientChange, KnowsComing}
use Rattle.model_client.specs.ClientTrace.{Happened, IsClientTrace, requests_by, requests_of}
use Rattle.model_ends.specs.SentAnswer.{SentAnswer, AreSent, AreHeld, sent_text, AreTo}
use Rattle.model_ends.proofs.SentAnswers.{no_head}
use Rattle.model_client.specs.ReadOut.{ReadOut, nothing_read, reading_out, read_out}
use Rattle.model_ends.specs.ReadOut.{taken_by, bytes_taken}
use Rattle.model_ends.proofs.Holds.{methods_of, IsLike, like_holds, more_holds, passing_holds, end_holds, drop_holds}
use Rattle.model_ends.proofs.Pulls.{HoldsFor, pull_holds}
use Rattle.model_ends.proofs.NextAnswers.{failed_closes, allowed_then, allowed_while, next_holds}

pub both : (a b : Bool) → IsTrue (a && b) → (a ≡ true) × (b ≡ true)
both true true x = (refl, refl)
both true false x = absurd (false≢true x)
both false b x = absurd (false≢true x)

pub not_true : (a : Bool) → not a ≡ true → a ≡ false
not_true false e = refl
not_true true e = absurd (false≢true e)

module _ (setting : Setting) (ss : List SentAnswer) (some : 0 < setting.hold_size) where
  abbrev HoldsSo : ReadOut → ClientKept → List ℕ → List Waiting → Type 0
  HoldsSo out k future asked = HoldsFor setting.hold_size ss out k future asked

  -- an event that changes nothing of it but who waits, and perhaps brings a fault
  like_for : (out : ReadOut) (k m : ClientKept) (ws : List Waiting) (future : List ℕ) (asked : List Waiting)
      → IsLike setting.hold_size ss k m ws → HoldsSo out k future (ws ++ asked) → HoldsSo out m future asked
  like_for out k m ws future asked like (ds, rest, h) =
      (ds, rest, like_holds setting.hold_size ss out.stray out.answers ds rest k m ws future asked like h)

  calm : (k m : ClientKept) → m.unread ≡ k.unread → m.waiting ≡ k.waiting → m.reading ≡ k.reading → m.has_ended ≡ k.has_ended
      → (m.failed ≡ Some failed_request) ⊎ (m.failed ≡ k.failed) → IsLike setting.hold_size ss k m []
  calm k m unread waiting reading ended failed =
      record { unread = unread; waiting = waiting ∙ sym (append-nil k.waiting); reading = reading; ended = ended; failed = failed }

  piece_like : (bytes : List ℕ) (body : Option SendingBody) (k : ClientKept) → IsLike setting.hold_size ss k (sending_piece bytes body k) []
  piece_like bytes None k = calm k k refl refl refl refl (inr refl)
  piece_like bytes (Some body) k = calm k (sending_piece bytes (Some body) k) refl refl refl refl (inr refl)

  fault_or_none : (f : Option ClientEnd) (short : Bool)
      → (option_or f (if short then Some failed_request else None) ≡ Some failed_request)
      ⊎ (option_or f (if short then Some failed_request else None) ≡ f)
  fault_or_none None true = inl refl
  fault_or_none None false = inr refl
  fault_or_none (Some f) short = inr refl

  end_like : (body : Option SendingBody) (k : ClientKept) → IsLike setting.hold_size ss k (ending_body body k) []
  end_like None k = calm k k refl refl refl refl (inr refl)
  end_like (Some body) k = calm k (ending_body (Some body) k) refl refl refl refl (fault_or_none k.failed (nat_lt 0 body.missing))

  error_or : (f : Option ClientEnd) → (option_or f (Some failed_request) ≡ Some failed_request) ⊎ (option_or f (Some failed_request) ≡ f)
  error_or None = inl refl
  error_or (Some f) = inr refl

  drop_for : (out : ReadOut) (k : ClientKept) (body : Option ReadingBody) (future : List ℕ) (asked : List Waiting) → k.reading ≡ body
      → HoldsSo out k future asked → HoldsSo out (dropping body k) future asked
  drop_for out k None future asked is h = h
  drop_for out k (Some body) future asked is (ds, rest, h) = (
    ds,
    rest,
    passing_holds setting.hold_size ss out.stray out.answers ds rest _ future asked
        (drop_holds setting.hold_size ss out.stray out.answers ds rest k future asked body is h),
  )

  -- a pull is allowed while a body is read that isn't dropped
  pull_for : (out : ReadOut) (k : ClientKept) (future : List ℕ) (asked : List Waiting) (c : ClientChange) → HoldsSo out k future asked
      → IsTrue (client_allows setting k on.pull) → IsPulling k k.reading c → HoldsSo (reading_out c.outcome out) c.kept future asked
  pull_for out k future asked c (ds, rest, h) allowed x = by_closing (client_closing k) refl
    where
      fine_of : client_closing k ≡ None → k.failed ≡ None
      fine_of going = by_failed k.failed refl
        where
          by_failed : (f : Option ClientEnd) → k.failed ≡ f → k.failed ≡ None
          by_failed None e = e
          by_failed (Some f) e = absurd (false≢true (sym (ap is_some going) ∙ failed_closes k (ap is_some e)))

      by_reading : (body : Option ReadingBody) → k.reading ≡ body → client_closing k ≡ None → IsPulling k body c
          → IsTrue (not (is_free_of body) && not (is_dropped_of body)) → HoldsSo (reading_out c.outcome out) c.kept future asked
      by_reading None is going x may = absurd (false≢true may)
      by_reading (Some body) is going (p, pull, e) may =
          let two = both (not body.is_done) (not body.was_dropped) may in
          subst (λ (c : ClientChange). HoldsSo (reading_out c.outcome out) c.kept future asked) (sym e)
          (pull_holds setting.hold_size ss out.stray out.answers ds rest k future asked body is (not_true body.was_dropped two.1) (not_true body.is_done two.0)
          (fine_of going) p pull h)

      by_closing : (o : Option ClientEnd) → client_closing k ≡ o → HoldsSo (reading_out c.outcome out) c.kept future asked
      by_closing (Some end) closing = absurd (false≢true (allowed_while setting k on.pull end closing allowed))
      by_closing None going = by_reading k.reading refl going x (allowed_then setting k on.pull going allowed)

  -- ---- a step

  abbrev After : ReadOut → ClientKept → List ℕ → List Waiting → ClientEvent → ClientChange → Type 0
  After out k future asked event c =
      HoldsSo out k (taken_by event c.outcome ++ future) (requests_by event ++ asked) → HoldsSo (reading_out c.outcome out) c.kept future asked

  step_for : (out : ReadOut) (k : ClientKept) (event : ClientEvent) (c : ClientChange) (future : List ℕ) (asked : List Waiting) → KnowsComing k
      → IsTrue (client_allows setting k event) → IsClientChange setting k event c
      → HoldsSo out k (taken_by event c.outcome ++ future) (requests_by event ++ asked) → HoldsSo (reading_out c.outcome out) c.kept future asked
  step_for out k event c future asked known allowed x h = by_event event allowed x h
    where
      by_event : (event : ClientEvent) → IsTrue (client_allows setting k event) → IsClientChange setting k event c → After out k future asked event c
      by_event (on.ask r size) allowed x =
          subst (After out k future asked (on.ask r size)) (sym x)
          (λ h. like_for out k (asking r size k) (requests_by (on.ask r size)) future asked
          (record { unread = refl; waiting = refl; reading = refl; ended = refl; failed = inr refl }) h)
      by_event (on.chunk bytes) allowed x =
          subst (After out k future asked (on.chunk bytes)) (sym x) (λ h. like_for out k (sending_piece bytes k.sending k) [] future asked (piece_like bytes k.sending k) h)
      by_event on.body_end allowed x =
          subst (After out k future asked on.body_end) (sym x) (λ h. like_for out k (ending_body k.sending k) [] future asked (end_like k.sending k) h)
      by_event on.body_error allowed x =
          subst (After out k future asked on.body_error) (sym x)
          (λ h. like_for out k (record k { sending = None; failed = option_or k.failed (Some failed_request) }) [] future asked
          (calm k (record k { sending = None; failed = option_or k.failed (Some failed_request) }) refl refl refl refl (error_or k.failed)) h)
      by_event (on.read bytes) allowed x =
          subst (After out k future asked (on.read bytes)) (sym x)
          (λ h.
          let more = take (min (length bytes) (setting.hold_size - length k.unread)) bytes in (
            h.0,
            h.1,
            passing_holds setting.hold_size ss out.stray out.answers h.0 h.1 (record k { unread = k.unread ++ more }) future asked
                (more_holds setting.hold_size ss out.stray out.answers h.0 h.1 k more future asked h.2),
          ))
      by_event on.eof allowed x =
          subst (After out k future asked on.eof) (sym x)
          (λ h. (
            h.0,
            h.1,
            passing_holds setting.hold_size ss out.stray out.answers h.0 h.1 _ future asked
                (end_holds setting.hold_size ss out.stray out.answers h.0 h.1 k future asked h.2),
          ))
      by_event on.next allowed x = λ h. next_holds setting ss some out.stray out.answers h.0 k future asked h.1 h.2 known allowed c x
      by_event on.pull allowed x = λ h. pull_for out k future asked c h allowed x
      by_event on.drop_body allowed x = subst (After out k future asked on.drop_body) (sym x) (λ h. drop_for out k k.reading future asked refl h)
      by_event (on.write n) allowed x =
          subst (After out k future asked (on.write n)) (sym x)
          (λ h. like_for out k (record k { buffered = drop n k.buffered }) [] future asked (calm k (record k { buffered = drop n k.buffered }) refl refl refl refl (inr refl)) h)
      by_event (on.tick ms) allowed x =
          subst (After out k future asked (on.tick ms)) (sym x)
          (λ h. like_for out k (record k { now = ms }) [] future asked (calm k (record k { now = ms }) refl refl refl refl (inr refl)) h)

  -- whether a head is coming changes nothing of it
  coming_for : (out : ReadOut) (k : ClientKept) (coming : Bool) (future : List ℕ) (asked : List Waiting) → HoldsSo out k future asked
      → HoldsSo out (record k { is_coming = coming }) future asked
  coming_for out k coming future asked h =
      like_for out k (record k { is_coming = coming }) [] future asked (calm k (record k { is_coming = coming }) refl refl refl refl (inr refl)) h

  -- ---- all that happened

  pub known_of : (trace : List Happened) (k : ClientKept) → IsClientTrace setting trace k → KnowsComing k
  known_of [] k is = subst KnowsComing (sym is) (no_head [])
  known_of (s ∷ before) k (b, trace, allowed, step) = subst KnowsComing (sym step.keeps) step.comes

  pub all_for : (trace : List Happened) (k : ClientKept) (future : List ℕ) (asked : List Waiting) → IsClientTrace setting trace k
      → bytes_taken trace ++ future ≡ sent_text ss → AreTo is_interim (methods_of (requests_of trace ++ asked)) ss → AreSent ss
      → AreHeld (Some setting.hold_size) ss → HoldsSo (read_out trace) k future asked
  unfolding read_out bytes_taken
  all_for [] k future asked is text to sent held =
      subst (λ (m : ClientKept). HoldsSo nothing_read m future asked) (sym is) (
        [],
        ss,
        record {
          none = refl;
          are = refl;
          so = tt;
          sent = sent;
          held = held;
          state = inr (refl, inl (record { free = refl; text = text; to = to }));
        },
      )
  all_for (s ∷ before) k future asked (b, trace, allowed, step) text to sent held =
      let more = taken_by s.event s.outcome in
      let old : HoldsSo (read_out before) b (more ++ future) (requests_by s.event ++ asked) =
      all_for before b (more ++ future) (requests_by s.event ++ asked) trace (sym (append_assoc (bytes_taken before) more future) ∙ text)
      (subst (λ (l : List Waiting). AreTo is_interim (methods_of l) ss) (append_assoc (requests_of before) (requests_by s.event) asked) to) sent held in
      let told = subst (λ (o : ClientOutcome). HoldsSo (read_out before) b (taken_by s.event o ++ future) (requests_by s.event ++ asked)) step.answers old in
      let new = step_for (read_out before) b s.event step.change future asked (known_of before b trace) allowed step.changes told in
      let named = subst (λ (o : ClientOutcome). HoldsSo (reading_out o (read_out before)) step.change.kept future asked) (sym step.answers) new in
      subst (λ (m : ClientKept). HoldsSo (reading_out s.outcome (read_out before)) m future asked) (sym step.keeps)
      (coming_for (reading_out s.outcome (read_out before)) step.change.kept step.coming future asked named)
