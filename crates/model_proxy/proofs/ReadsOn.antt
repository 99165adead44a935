-- What a step of a server's connection leaves to do of the answer that was handed out last, where no body is dropped.
use Rattle.std.proofs.Common.{◌≡◌, ◌⊎◌, ℕ, ◌+◌, ◌-◌, min, Bool, true, false, not, ◌&&◌, List, [], ◌∷◌, ◌++◌, length, take, drop, Option, Some, None, refl, sym, ap, ap₂, ◌∙◌, subst, inl, inr, append-nil, arith}
use Rattle.std.specs.Prelude.{⊤, IsTrue, ◌==◌, if◌then◌else◌}
use Rattle.std.specs.Option.{option_or}
use Rattle.std.proofs.lemmas.Bool.{false≢true}
use Rattle.model_h1.specs.Place.{Place}
use Rattle.model_h1.specs.Request.{has_body}
use Rattle.model_h1.specs.Setting.{Setting}
use Rattle.model_h1.specs.TakeNext.{Next, chunk, waits, ended, breaks, take_next}
use Rattle.model_h1.specs.FrameText.{Front, partial, whole, breaks as breaks_rule, front_frame}
use Rattle.model_h1.specs.Parse.{connection_reader}
use Rattle.model_h1.specs.Event as server
use Rattle.model_h1.specs.Event.{BodyFault, corrupted, incomplete}
use Rattle.model_state.specs.Body.{pass_rest}
use Rattle.model_state.specs.Kept.{Rest, no_rest, raw_rest, fixed_rest, chunks_rest, frames_rest}
use Rattle.model_state.specs.Pull.{Pulled, lacking, pull_fixed, pull_raw, pull_front, EndsWith, IsPullOfChunks, IsPull}
use Rattle.model_h1.specs.Answer.{BodySize}
use Rattle.model_client.specs.AnswerTable.{body_to}
use Rattle.model_client.specs.AnswerReading.{Answer, AnswerReading, answer_is, refused}
use Rattle.model_client.specs.AnswerParse.{is_interim}
use Rattle.model_client.specs.ClientEvent as on
use Rattle.model_client.specs.ClientEvent.{ClientRequest, ClientEvent, ClientEnd, failed_request, ClientOutcome}
use Rattle.model_client.specs.ClientKept.{Waiting, SendingBody, ReadingBody, ClientKept, is_free, is_free_of, is_dropped, is_dropped_of, client_closing, waiting_of, client_allows}
use Rattle.model_client.specs.ClientStep.{ClientChange, doing, asking, sending_piece, ending_body, passed_body, passing, outcome_of, end_of, IsPulling, reading, body_at_end, ending_input, behind_final, behind_head, without_head, IsUpcoming, IsNext, IsClientChange, IsClientStep}
use Rattle.model_client.specs.ClientTrace.{Happened, IsClientTrace, requests_by, requests_of, answers_one, answered_of}
use Rattle.model_client.proofs.AllHappened.{both, not_true}
use Rattle.model_client.proofs.Answered.{told_without, answered}
use Rattle.model_client.proofs.NextAnswers.{allowed_then, allowed_while}
use Rattle.model_client.proofs.Order.{in_order}

-- ---- which steps

-- the outcome is no final answer, no end or fault, and not that the connection is closed
abbrev pub KeepsOn : ClientOutcome → Type 0
KeepsOn (on.answer a) = is_interim a.status ≡ true
KeepsOn (on.fault f) = ⊥
KeepsOn (on.closed end) = ⊥
KeepsOn on.body_ended = ⊥
KeepsOn (on.broken_by f) = ⊥
KeepsOn o = ⊤

-- the rest of a body is dropped
abbrev pub drops : ClientEvent → Bool
drops on.drop_body = true
drops _ = false

-- a request's body may end too early by it
abbrev pub fails : ClientEvent → Bool
fails on.body_end = true
fails on.body_error = true
fails _ = false

-- a body that isn't done is dropped
abbrev pub is_passed_by : Option ReadingBody → Bool
is_passed_by None = false
is_passed_by (Some body) = body.was_dropped && not body.is_done

-- none is where nothing is left to do
pub free_passes : (k : ClientKept) → is_free k ≡ true → is_passed_by k.reading ≡ false
free_passes k free = by_reading k.reading free
  where
    by_reading : (body : Option ReadingBody) → is_free_of body ≡ true → is_passed_by body ≡ false
    by_reading None free = refl
    by_reading (Some body) free = ap (λ (t : Bool). body.was_dropped && not t) free ∙ none body.was_dropped
      where
        none : (t : Bool) → (t && false) ≡ false
        none true = refl
        none false = refl

-- as much is left to do of the last answer, no body is dropped, and the connection closes no more than before, where no request's body may fail
pub record StaysSo (may_fail : Bool) (k m : ClientKept) : Type 0 where
  pub kept : is_passed_by m.reading ≡ false
  pub free : is_free m ≡ is_free k
  pub over : m.is_over ≡ k.is_over
  pub closes : m.closes ≡ k.closes
  pub failed : may_fail ≡ false → m.failed ≡ k.failed

-- but for what was taken or written, and who waits
like : (t : Bool) (k m : ClientKept) → m.reading ≡ k.reading → m.is_over ≡ k.is_over → m.closes ≡ k.closes → (t ≡ false → m.failed ≡ k.failed)
    → is_passed_by k.reading ≡ false → StaysSo t k m
like t k m same over closes failed kept =
    record { kept = ap is_passed_by same ∙ kept; free = ap is_free_of same; over = over; closes = closes; failed = failed }

by_change : (t : Bool) (k : ClientKept) (c d : ClientChange) → c ≡ d → StaysSo t k d.kept → StaysSo t k c.kept
by_change t k c d is x = subst (λ (c : ClientChange). StaysSo t k c.kept) (sym is) x

-- ---- events by which no more is asked for

passing_same : (body : Option ReadingBody) (k : ClientKept) → is_passed_by body ≡ false → passing body k ≡ k
passing_same None k kept = refl
passing_same (Some body) k kept =
    ap (λ (t : Bool). if t then passed_body k.has_ended body k (pass_rest k.has_ended body.rest k.unread) else k) kept

piece_stays : (bytes : List ℕ) (body : Option SendingBody) (k : ClientKept) → is_passed_by k.reading ≡ false → StaysSo false k (sending_piece bytes body k)
piece_stays bytes None k kept = like false k k refl refl refl (λ is. refl) kept
piece_stays bytes (Some body) k kept = like false k (sending_piece bytes (Some body) k) refl refl refl (λ is. refl) kept

end_stays : (body : Option SendingBody) (k : ClientKept) → is_passed_by k.reading ≡ false → StaysSo true k (ending_body body k)
end_stays None k kept = like true k k refl refl refl (λ is. refl) kept
end_stays (Some body) k kept = like true k (ending_body (Some body) k) refl refl refl (λ is. absurd (false≢true (sym is))) kept

end_free : (bytes : List ℕ) (body : Option ReadingBody) → is_free_of (body_at_end bytes body) ≡ is_free_of body
end_free bytes None = refl
end_free bytes (Some body) = refl

end_passed : (bytes : List ℕ) (body : Option ReadingBody) → is_passed_by (body_at_end bytes body) ≡ is_passed_by body
end_passed bytes None = refl
end_passed bytes (Some body) = refl

eof_stays : (k : ClientKept) → is_passed_by k.reading ≡ false → StaysSo false k (ending_input k)
eof_stays k kept =
    let body = body_at_end k.unread k.reading in
    let m : ClientKept = record k { has_ended = true; reading = body_at_end k.unread k.reading } in
    subst (StaysSo false k) (sym (passing_same body m (end_passed k.unread k.reading ∙ kept))) (record {
      kept = end_passed k.unread k.reading ∙ kept;
      free = end_free k.unread k.reading;
      over = refl;
      closes = refl;
      failed = λ is. refl;
    })

-- ---- the next answer is asked for

-- the same, but for the bytes that were passed
record IsShortened (k m : ClientKept) : Type 0 where
  unread : List ℕ
  is : m ≡ record k { unread = unread }

without_shortened : (k : ClientKept) (full : Bool) → KeepsOn (told_without k full).outcome → IsShortened k (told_without k full).kept
without_shortened k true keeps = absurd keeps
without_shortened k false keeps = record { unread = k.unread; is = refl }

head_shortened : (k : ClientKept) (end : ℕ) (w : Waiting) (ws : List Waiting) (what : AnswerReading) → KeepsOn (behind_head k end w ws what).outcome
    → IsShortened k (behind_head k end w ws what).kept
head_shortened k end w ws (refused f) keeps = absurd keeps
head_shortened k end w ws (answer_is a) keeps = record {
  unread = drop end k.unread;
  is = ap (λ (t : Bool). if t then record k { unread = drop end k.unread } else behind_final k (drop end k.unread) a w ws) keeps;
}

next_by : (k : ClientKept) (c d : ClientChange) → c ≡ d → (KeepsOn d.outcome → IsShortened k d.kept) → KeepsOn c.outcome → IsShortened k c.kept
next_by k c d is so keeps =
    subst (λ (c : ClientChange). IsShortened k c.kept) (sym is) (so (subst (λ (c : ClientChange). KeepsOn c.outcome) is keeps))

upcoming_shortened : (setting : Setting) (k : ClientKept) (waiting : List Waiting) (coming : Bool) (c : ClientChange) → IsUpcoming setting k waiting coming c
    → KeepsOn c.outcome → IsShortened k c.kept
upcoming_shortened setting k [] false c x keeps =
    next_by k c (without_head setting k) x (without_shortened k (length k.unread == setting.hold_size)) keeps
upcoming_shortened setting k (w ∷ ws) false c x keeps =
    next_by k c (without_head setting k) x (without_shortened k (length k.unread == setting.hold_size)) keeps
upcoming_shortened setting k [] true c x keeps = next_by k c (record { outcome = on.pending; kept = k }) x (λ y. record { unread = k.unread; is = refl }) keeps
upcoming_shortened setting k (w ∷ ws) true c (start, end, what, piece, reads, is) keeps =
    next_by k c (behind_head k end w ws what) is (head_shortened k end w ws what) keeps

next_shortened : (setting : Setting) (k : ClientKept) (closing : Option ClientEnd) (c : ClientChange) → IsNext setting k closing c → KeepsOn c.outcome
    → IsShortened k c.kept
next_shortened setting k (Some end) c x keeps =
    next_by k c (record { outcome = on.closed end; kept = record k { is_over = true } }) x (λ y. absurd y) keeps
next_shortened setting k None c x keeps = upcoming_shortened setting k k.waiting k.is_coming c x keeps

next_stays : (setting : Setting) (k : ClientKept) (c : ClientChange) → IsNext setting k (client_closing k) c → KeepsOn c.outcome → is_passed_by k.reading ≡ false
    → StaysSo false k c.kept
next_stays setting k c x keeps kept =
    let y = next_shortened setting k (client_closing k) c x keeps in
    subst (StaysSo false k) (sym y.is) (like false k (record k { unread = y.unread }) refl refl refl (λ is. refl) kept)

-- ---- more of a body is asked for

-- one that is done told its end or its fault
abbrev Finishes : Pulled → Type 0
Finishes p = p.is_done ≡ true → (p.outcome ≡ server.body_ended) ⊎ ((f : BodyFault) × (p.outcome ≡ server.broken_by f))

done_lacking : (t : Bool) (rest : Rest) (bytes : List ℕ) → Finishes (lacking t rest bytes)
done_lacking true rest bytes = λ is. inr (incomplete, refl)
done_lacking false rest bytes = λ is. absurd (false≢true is)

done_fixed : (t : Bool) (n : ℕ) (bytes : List ℕ) → Finishes (pull_fixed t n bytes)
done_fixed t n [] = done_lacking t (fixed_rest n) []
done_fixed t n (b ∷ bytes) = λ is. absurd (false≢true is)

done_raw : (t : Bool) (bytes : List ℕ) → Finishes (pull_raw t bytes)
done_raw true (b ∷ bytes) = λ is. absurd (false≢true is)
done_raw false (b ∷ bytes) = λ is. absurd (false≢true is)
done_raw true [] = λ is. inl refl
done_raw false [] = λ is. absurd (false≢true is)

done_front : (under_way : Bool) (limit : ℕ) (bytes : List ℕ) (front : Front) → Finishes (pull_front under_way limit bytes front)
done_front under_way limit bytes partial = λ is. absurd (false≢true is)
done_front under_way limit bytes (whole frame len) = λ is. absurd (false≢true is)
done_front under_way limit bytes (breaks_rule error) = λ is. absurd (false≢true is)

done_end : (section behind : List ℕ) (p : Pulled) → EndsWith section behind p → Finishes p
done_end [] behind p x = subst Finishes (sym x) (λ is. inl refl)
done_end (b ∷ section) behind p (lines, all, text, x) = subst Finishes (sym x) (λ is. absurd (false≢true is))

done_chunks : (t : Bool) (place : Place) (section bytes : List ℕ) (next : Next) (noted : List ℕ) (p : Pulled)
    → IsPullOfChunks t place section bytes next noted p → Finishes p
done_chunks t place section bytes (chunk given next behind) noted p x = subst Finishes (sym x) (λ is. absurd (false≢true is))
done_chunks true place section bytes (waits next) noted p x = subst Finishes (sym x) (λ is. inr (incomplete, refl))
done_chunks false place section bytes (waits next) noted p x = subst Finishes (sym x) (λ is. absurd (false≢true is))
done_chunks t place section bytes (ended behind) noted p x = done_end (section ++ noted) behind p x
done_chunks t place section bytes breaks noted p x = subst Finishes (sym x) (λ is. inr (corrupted, refl))

done_pull : (t : Bool) (rest : Rest) (bytes : List ℕ) (p : Pulled) → IsPull t rest bytes p → Finishes p
done_pull t no_rest bytes p x = subst Finishes (sym x) (λ is. inl refl)
done_pull t raw_rest bytes p x = subst Finishes (sym x) (done_raw t bytes)
done_pull t (fixed_rest n) bytes p x = subst Finishes (sym x) (done_fixed t n bytes)
done_pull t (chunks_rest place section) bytes p x =
    done_chunks t place section bytes (take_next place bytes).next (take_next place bytes).trailers p x
done_pull t (frames_rest under_way limit) bytes p x =
    subst Finishes (sym x) (done_front under_way limit bytes (front_frame (connection_reader limit) under_way bytes))

not_done : (p : Pulled) → Finishes p → KeepsOn (outcome_of p.outcome) → p.is_done ≡ false
not_done p finishes keeps = by_done p.is_done refl
  where
    by_done : (t : Bool) → p.is_done ≡ t → p.is_done ≡ false
    by_done false is = is
    by_done true is = absurd (by_end (finishes is))
      where
        by_end : (p.outcome ≡ server.body_ended) ⊎ ((f : BodyFault) × (p.outcome ≡ server.broken_by f)) → ⊥
        by_end (inl e) = subst (λ (o : server.Outcome). KeepsOn (outcome_of o)) e keeps
        by_end (inr (f, e)) = subst (λ (o : server.Outcome). KeepsOn (outcome_of o)) e keeps

-- while more may be asked for, the last answer isn't done, and not dropped
pub busy : (setting : Setting) (k : ClientKept) → IsTrue (client_allows setting k on.pull) → (is_free k ≡ false) × (is_dropped k ≡ false)
busy setting k allowed = by_closing (client_closing k) refl
  where
    by_closing : (closing : Option ClientEnd) → client_closing k ≡ closing → (is_free k ≡ false) × (is_dropped k ≡ false)
    by_closing (Some end) is = absurd (false≢true (allowed_while setting k on.pull end is allowed))
    by_closing None is =
        let x = both (not (is_free k)) (not (is_dropped k)) (allowed_then setting k on.pull is allowed) in
        (not_true (is_free k) x.0, not_true (is_dropped k) x.1)

-- no fault of a body was told
abbrev NotBroken : ClientOutcome → Type 0
NotBroken (on.broken_by f) = ⊥
NotBroken o = ⊤

no_end : (o : server.Outcome) → NotBroken (outcome_of o) → end_of o ≡ None
no_end (server.broken_by f) x = absurd x
no_end (server.bytes bytes) x = refl
no_end (server.trailers lines) x = refl
no_end server.body_ended x = refl
no_end o x = refl

fails_so : (o : Option ClientEnd) → option_or o None ≡ o
fails_so None = refl
fails_so (Some end) = refl

-- what a pull leaves, also where it ends the body
pub record PullsOn (k m : ClientKept) : Type 0 where
  pub kept : is_passed_by m.reading ≡ false
  pub over : m.is_over ≡ k.is_over
  pub closes : m.closes ≡ k.closes
  pub failed : m.failed ≡ k.failed

pull_on : (k : ClientKept) (body : Option ReadingBody) (c : ClientChange) → k.reading ≡ body → is_dropped_of body ≡ false → IsPulling k body c → NotBroken c.outcome
    → PullsOn k c.kept
pull_on k None c is kept x sound =
    subst (λ (c : ClientChange). PullsOn k c.kept) (sym x) (record { kept = ap is_passed_by is; over = refl; closes = refl; failed = refl })
pull_on k (Some body) c is kept (p, pull, x) sound =
    subst (λ (c : ClientChange). PullsOn k c.kept) (sym x) (record {
      kept = ap (λ (t : Bool). t && not p.is_done) kept;
      over = refl;
      closes = refl;
      failed = ap (option_or k.failed) (no_end p.outcome (subst (λ (c : ClientChange). NotBroken c.outcome) x sound)) ∙ fails_so k.failed;
    })

pull_free : (k : ClientKept) (body : Option ReadingBody) (c : ClientChange) → k.reading ≡ body → IsPulling k body c → KeepsOn c.outcome → is_free_of body ≡ false
    → is_free c.kept ≡ false
pull_free k None c is x keeps free = ap (λ (c : ClientChange). is_free c.kept) x ∙ ap is_free_of is ∙ free
pull_free k (Some body) c is (p, pull, x) keeps free =
    ap (λ (c : ClientChange). is_free c.kept) x
    ∙ not_done p (done_pull k.has_ended body.rest k.unread p pull) (subst (λ (c : ClientChange). KeepsOn c.outcome) x keeps)

sound_so : (o : ClientOutcome) → KeepsOn o → NotBroken o
sound_so (on.broken_by f) x = absurd x
sound_so (on.took n) x = tt
sound_so (on.answer a) x = tt
sound_so (on.bytes bytes) x = tt
sound_so (on.trailers lines) x = tt
sound_so on.body_ended x = tt
sound_so on.pending x = tt
sound_so (on.closed end) x = tt
sound_so (on.fault f) x = tt
sound_so (on.gave bytes) x = tt
sound_so on.done x = tt

-- ---- any step

change_stays : (setting : Setting) (k : ClientKept) (event : ClientEvent) (c : ClientChange) → IsTrue (client_allows setting k event) → IsClientChange setting k event c
    → drops event ≡ false → KeepsOn c.outcome → is_passed_by k.reading ≡ false → StaysSo (fails event) k c.kept
change_stays setting k (on.ask r size) c allowed x calm keeps kept =
    by_change false k c (doing (asking r size k)) x (like false k (asking r size k) refl refl refl (λ is. refl) kept)
change_stays setting k (on.chunk bytes) c allowed x calm keeps kept =
    by_change false k c (doing (sending_piece bytes k.sending k)) x (piece_stays bytes k.sending k kept)
change_stays setting k on.body_end c allowed x calm keeps kept = by_change true k c (doing (ending_body k.sending k)) x (end_stays k.sending k kept)
change_stays setting k on.body_error c allowed x calm keeps kept =
    let m : ClientKept = record k { sending = None; failed = option_or k.failed (Some failed_request) } in
    by_change true k c (doing m) x (like true k m refl refl refl (λ is. absurd (false≢true (sym is))) kept)
change_stays setting k (on.read bytes) c allowed x calm keeps kept =
    let m : ClientKept = record k { unread = k.unread ++ take (min (length bytes) (setting.hold_size - length k.unread)) bytes } in
    by_change false k c (reading setting bytes k) x
    (subst (StaysSo false k) (sym (passing_same k.reading m kept)) (like false k m refl refl refl (λ is. refl) kept))
change_stays setting k on.eof c allowed x calm keeps kept = by_change false k c (doing (ending_input k)) x (eof_stays k kept)
change_stays setting k on.next c allowed x calm keeps kept = next_stays setting k c x keeps kept
change_stays setting k on.pull c allowed x calm keeps kept =
    let y = pull_on k k.reading c refl (busy setting k allowed).1 x (sound_so c.outcome keeps) in
    record {
      kept = y.kept;
      free = pull_free k k.reading c refl x keeps (busy setting k allowed).0 ∙ sym (busy setting k allowed).0;
      over = y.over;
      closes = y.closes;
      failed = λ is. y.failed;
    }
change_stays setting k on.drop_body c allowed x calm keeps kept = absurd (false≢true (sym calm))
change_stays setting k (on.write n) c allowed x calm keeps kept =
    let m : ClientKept = record k { buffered = drop n k.buffered } in
    by_change false k c (record { outcome = on.gave (take n k.buffered); kept = m }) x (like false k m refl refl refl (λ is. refl) kept)
change_stays setting k (on.tick ms) c allowed x calm keeps kept =
    let m : ClientKept = record k { now = ms } in
    by_change false k c (doing m) x (like false k m refl refl refl (λ is. refl) kept)

pub stays_so : (setting : Setting) (k next : ClientKept) (event : ClientEvent) (o : ClientOutcome) → IsTrue (client_allows setting k event)
    → IsClientStep setting k event o next → drops event ≡ false → KeepsOn o → is_passed_by k.reading ≡ false → StaysSo (fails event) k next
stays_so setting k next event o allowed step calm keeps kept =
    let x = change_stays setting k event step.change allowed step.changes calm (subst KeepsOn step.answers keeps) kept in
    record {
      kept = ap (λ (m : ClientKept). is_passed_by m.reading) step.keeps ∙ x.kept;
      free = ap is_free step.keeps ∙ x.free;
      over = ap (λ (m : ClientKept). m.is_over) step.keeps ∙ x.over;
      closes = ap (λ (m : ClientKept). m.closes) step.keeps ∙ x.closes;
      failed = λ is. ap (λ (m : ClientKept). m.failed) step.keeps ∙ x.failed is;
    }

-- where the end of a body is told
pub end_pulls : (setting : Setting) (k next : ClientKept) → IsTrue (client_allows setting k on.pull) → IsClientStep setting k on.pull on.body_ended next → PullsOn k next
end_pulls setting k next allowed step =
    let x = pull_on k k.reading step.change refl (busy setting k allowed).1 step.changes (subst NotBroken step.answers tt) in
    record {
      kept = ap (λ (m : ClientKept). is_passed_by m.reading) step.keeps ∙ x.kept;
      over = ap (λ (m : ClientKept). m.is_over) step.keeps ∙ x.over;
      closes = ap (λ (m : ClientKept). m.closes) step.keeps ∙ x.closes;
      failed = ap (λ (m : ClientKept). m.failed) step.keeps ∙ x.failed;
    }

-- ---- who waits

-- nobody is asked and nobody answered
pub waits_same : (setting : Setting) (s : Happened) (before : List Happened) (k next : ClientKept) → IsClientTrace setting before k
    → IsClientTrace setting (s ∷ before) next → requests_by s.event ≡ [] → answers_one s.outcome ≡ false → next.waiting ≡ k.waiting
waits_same setting s before k next first ran none unanswered =
    let old = (in_order setting before k first).0 in
    let new = (in_order setting (s ∷ before) next ran).0 in
    new
    ∙ ap₂ (λ (t : Bool) (ws : List Waiting). drop (answered_of before + (if t then 1 else 0)) (requests_of before ++ ws)) unanswered none
    ∙ ap₂ (λ (n : ℕ) (ws : List Waiting). drop n ws) (omega arith) (append-nil (requests_of before))
    ∙ sym old

-- ---- a final answer is handed out

-- It is the answer to the first that waited; it waits no more, and nothing is left to do of the answer where it has no body.
pub record IsHeaded (k next : ClientKept) (a : Answer) : Type 0 where
  pub first : Waiting
  pub others : List Waiting
  pub waited : k.waiting ≡ first ∷ others
  pub left : next.waiting ≡ others
  pub kept : is_passed_by next.reading ≡ false
  pub free : is_free next ≡ not (has_body (body_to first.method a.body))
  pub over : next.is_over ≡ k.is_over
  pub failed : next.failed ≡ k.failed

pub headed : (setting : Setting) (k next : ClientKept) (a : Answer) → IsClientStep setting k on.next (on.answer a) next → is_interim a.status ≡ false
    → IsHeaded k next a
headed setting k next a step final =
    let x = answered setting k next a step in
    let unread = drop x.end k.unread in
    let is : next ≡ record (behind_final k unread a x.first x.others) { is_coming = step.coming } =
    step.keeps ∙ ap (λ (m : ClientKept). record m { is_coming = step.coming }) x.after
    ∙ ap (λ (t : Bool). record (if t then record k { unread = unread } else behind_final k unread a x.first x.others) { is_coming = step.coming }) final in
    record {
      first = x.first;
      others = x.others;
      waited = x.waited;
      left = ap (λ (m : ClientKept). m.waiting) is;
      kept = ap (λ (m : ClientKept). is_passed_by m.reading) is;
      free = ap is_free is;
      over = ap (λ (m : ClientKept). m.is_over) is;
      failed = ap (λ (m : ClientKept). m.failed) is;
    }

-- ---- a request is asked

pub record IsAsked (k next : ClientKept) (r : ClientRequest) : Type 0 where
  pub waits : next.waiting ≡ k.waiting ++ waiting_of r ∷ []
  pub free : is_free next ≡ is_free k
  pub over : next.is_over ≡ k.is_over
  pub closes : next.closes ≡ k.closes
  pub failed : next.failed ≡ k.failed

pub asked_so : {setting : Setting} (k next : ClientKept) (r : ClientRequest) (size : BodySize) → IsClientStep setting k (on.ask r size) on.done next → IsAsked k next r
asked_so k next r size step =
    let is = step.keeps ∙ ap (λ (c : ClientChange). record c.kept { is_coming = step.coming }) step.changes in
    record {
      waits = ap (λ (m : ClientKept). m.waiting) is;
      free = ap is_free is;
      over = ap (λ (m : ClientKept). m.is_over) is;
      closes = ap (λ (m : ClientKept). m.closes) is;
      failed = ap (λ (m : ClientKept). m.failed) is;
    }
