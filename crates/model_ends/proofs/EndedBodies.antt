-- An answer's body has come to its end once the next answer may be asked for.
use Rattle.std.proofs.Common.{◌≡◌, ℕ, ◌-◌, min, Bool, true, false, ◌&&◌, not, List, [], ◌∷◌, ◌++◌, length, take, Option, Some, None, refl, sym, ap, ◌∙◌, subst, inl, inr}
use Rattle.std.specs.Prelude.{◌⊎◌, ◌||◌, IsTrue, if◌then◌else◌}
use Rattle.std.specs.List.{list_any}
use Rattle.std.proofs.lemmas.Bool.{false≢true}
use Rattle.model_h1.specs.FrameText.{Front, partial, whole, breaks as breaks_rule, front_frame}
use Rattle.model_h1.specs.Parse.{connection_reader}
use Rattle.model_h1.specs.Place.{Place}
use Rattle.model_h1.specs.Setting.{Setting}
use Rattle.model_h1.specs.TakeNext.{Next, chunk, waits, ended, breaks, take_next}
use Rattle.model_state.specs.Kept.{Rest, no_rest, raw_rest, fixed_rest, chunks_rest, frames_rest, rest_in}
use Rattle.model_state.specs.Body.{pass_rest}
use Rattle.model_state.specs.Pull.{Pulled, lacking, pull_fixed, pull_raw, pull_front, EndsWith, IsPullOfChunks, IsPull}
use Rattle.model_client.specs.AnswerReading.{Answer}
use Rattle.model_client.specs.ClientEvent as on
use Rattle.model_client.specs.ClientEvent.{ClientEvent, ClientEnd, ClientOutcome}
use Rattle.model_client.specs.ClientKept.{ReadingBody, SendingBody, ClientKept, is_free_of, is_free, is_dropped_of, is_dropped, client_closing, client_allows}
use Rattle.model_client.specs.ClientStep.{ClientChange, sending_piece, ending_body, passed_body, passing, pass, outcome_of, body_at_end, IsPulling, IsNext, IsClientChange, IsClientStep}
use Rattle.model_client.specs.ClientTrace.{Happened, IsClientTrace}
use Rattle.model_client.proofs.AllHappened.{both, not_true, going_for}
use Rattle.model_client.proofs.NextAnswers.{allowed_then, allowed_while}
use Rattle.model_client.proofs.OneStep.{one_state}
use Rattle.model_ends.specs.EndedBodies.{tells_end, is_drop, ends_body}

-- ---- what a pull gives

-- it tells the end, or goes on
abbrev Tells : Pulled → Type 0
Tells p = (tells_end (outcome_of p.outcome) ≡ true) ⊎ (p.is_done ≡ false)

tells_lacking : (t : Bool) (rest : Rest) (bytes : List ℕ) → Tells (lacking t rest bytes)
tells_lacking true rest bytes = inl refl
tells_lacking false rest bytes = inr refl

tells_fixed : (t : Bool) (n : ℕ) (bytes : List ℕ) → Tells (pull_fixed t n bytes)
tells_fixed t n [] = tells_lacking t (fixed_rest n) []
tells_fixed t n (b ∷ bytes) = inr refl

tells_raw : (t : Bool) (bytes : List ℕ) → Tells (pull_raw t bytes)
tells_raw t (b ∷ bytes) = inr refl
tells_raw true [] = inl refl
tells_raw false [] = inr refl

tells_front : (under_way : Bool) (limit : ℕ) (bytes : List ℕ) (f : Front) → Tells (pull_front under_way limit bytes f)
tells_front under_way limit bytes partial = inr refl
tells_front under_way limit bytes (whole frame len) = inr refl
tells_front under_way limit bytes (breaks_rule error) = inr refl

tells_ends : (section behind : List ℕ) (p : Pulled) → EndsWith section behind p → Tells p
tells_ends [] behind p is = subst Tells (sym is) (inl refl)
tells_ends (b ∷ section) behind p (lines, all, text, is) = subst Tells (sym is) (inr refl)

tells_chunks : (t : Bool) (place : Place) (section bytes : List ℕ) (next : Next) (noted : List ℕ) (p : Pulled)
    → IsPullOfChunks t place section bytes next noted p → Tells p
tells_chunks t place section bytes (chunk given to behind) noted p is = subst Tells (sym is) (inr refl)
tells_chunks true place section bytes (waits to) noted p is = subst Tells (sym is) (inl refl)
tells_chunks false place section bytes (waits to) noted p is = subst Tells (sym is) (inr refl)
tells_chunks t place section bytes (ended behind) noted p is = tells_ends (section ++ noted) behind p is
tells_chunks t place section bytes breaks noted p is = subst Tells (sym is) (inl refl)

tells : (t : Bool) (rest : Rest) (bytes : List ℕ) (p : Pulled) → IsPull t rest bytes p → Tells p
tells t no_rest bytes p is = subst Tells (sym is) (inl refl)
tells t raw_rest bytes p is = subst Tells (sym is) (tells_raw t bytes)
tells t (fixed_rest n) bytes p is = subst Tells (sym is) (tells_fixed t n bytes)
tells t (chunks_rest place section) bytes p is =
    let next = take_next place bytes in tells_chunks t place section bytes next.next next.trailers p is
tells t (frames_rest under_way limit) bytes p is =
    subst Tells (sym is) (tells_front under_way limit bytes (front_frame (connection_reader limit) under_way bytes))

-- ---- a step

-- a body is read, and neither its end was told nor was it dropped
record IsOpenBody (reading : Option ReadingBody) : Type 0 where
  body : ReadingBody
  read : reading ≡ Some body
  going : body.is_done ≡ false
  wanted : body.was_dropped ≡ false

abbrev IsOpen : ClientKept → Type 0
IsOpen k = IsOpenBody k.reading

-- it ends the body, or leaves it open
abbrev Ends : ClientEvent → ClientChange → Type 0
Ends event c = ((is_drop event || tells_end c.outcome) ≡ true) ⊎ IsOpen c.kept

same_piece : (bytes : List ℕ) (sending : Option SendingBody) (k : ClientKept) → (sending_piece bytes sending k).reading ≡ k.reading
same_piece bytes None k = refl
same_piece bytes (Some body) k = refl

same_end : (sending : Option SendingBody) (k : ClientKept) → (ending_body sending k).reading ≡ k.reading
same_end None k = refl
same_end (Some body) k = refl

passes_on : (reading : Option ReadingBody) (k : ClientKept) → IsOpenBody reading → passing reading k ≡ k
passes_on reading k open_yet = subst (λ (r : Option ReadingBody). passing r k ≡ k) (sym open_yet.read) kept
  where
    kept : passing (Some open_yet.body) k ≡ k
    kept = ap (λ (t : Bool). if t && not open_yet.body.is_done then passed_body k.has_ended open_yet.body k (pass_rest k.has_ended open_yet.body.rest k.unread) else k)
        open_yet.wanted

-- where nothing is passed, what is read stays
passed_open : (k : ClientKept) → IsOpen k → IsOpen (pass k)
passed_open k open_yet = subst IsOpen (sym (passes_on k.reading k open_yet)) open_yet

ended_open : (bytes : List ℕ) (reading : Option ReadingBody) → IsOpenBody reading → IsOpenBody (body_at_end bytes reading)
ended_open bytes reading open_yet = record {
  body = record open_yet.body { rest = rest_in true bytes open_yet.body.rest };
  read = ap (body_at_end bytes) open_yet.read;
  going = open_yet.going;
  wanted = open_yet.wanted;
}

not_free : (k : ClientKept) → IsOpen k → IsTrue (is_free k) → ⊥
not_free k open_yet free = false≢true (sym (ap is_free_of open_yet.read ∙ open_yet.going) ∙ free)

pulled_open : (k : ClientKept) (reading : Option ReadingBody) (c : ClientChange) → k.reading ≡ reading → IsOpen k → IsPulling k reading c → Ends on.pull c
pulled_open k None c is open_yet x = subst (Ends on.pull) (sym x) (inr open_yet)
pulled_open k (Some body) c is open_yet (p, pull, x) =
    subst (Ends on.pull) (sym x) (elim (tells k.has_ended body.rest k.unread p pull) [
      | inl told ↦ inl told
      | inr goes_on ↦ inr (record {
        body = record body { rest = p.rest; is_done = p.is_done };
        read = refl;
        going = goes_on;
        wanted = ap is_dropped_of (sym is ∙ open_yet.read) ∙ open_yet.wanted;
      })
    ])

next_open : (setting : Setting) (k : ClientKept) (closing : Option ClientEnd) (c : ClientChange) → client_closing k ≡ closing → IsOpen k
    → IsTrue (client_allows setting k on.next) → IsNext setting k closing c → Ends on.next c
next_open setting k (Some end) c is open_yet allowed x = subst (Ends on.next) (sym x) (inr open_yet)
next_open setting k None c is open_yet allowed x = absurd (not_free k open_yet (allowed_then setting k on.next is allowed))

step_open : (setting : Setting) (k : ClientKept) (event : ClientEvent) (c : ClientChange) → IsOpen k → IsTrue (client_allows setting k event)
    → IsClientChange setting k event c → Ends event c
step_open setting k (on.ask r size) c open_yet allowed x = subst (Ends (on.ask r size)) (sym x) (inr open_yet)
step_open setting k (on.chunk bytes) c open_yet allowed x =
    subst (Ends (on.chunk bytes)) (sym x) (inr (subst IsOpenBody (sym (same_piece bytes k.sending k)) open_yet))
step_open setting k on.body_end c open_yet allowed x =
    subst (Ends on.body_end) (sym x) (inr (subst IsOpenBody (sym (same_end k.sending k)) open_yet))
step_open setting k on.body_error c open_yet allowed x = subst (Ends on.body_error) (sym x) (inr open_yet)
step_open setting k (on.read bytes) c open_yet allowed x =
    let n = min (length bytes) (setting.hold_size - length k.unread) in
    subst (Ends (on.read bytes)) (sym x) (inr (passed_open (record k { unread = k.unread ++ take n bytes }) open_yet))
step_open setting k on.eof c open_yet allowed x =
    let ended_now = ended_open k.unread k.reading open_yet in
    subst (Ends on.eof) (sym x) (inr (passed_open (record k { has_ended = true; reading = body_at_end k.unread k.reading }) ended_now))
step_open setting k on.next c open_yet allowed x = next_open setting k (client_closing k) c refl open_yet allowed x
step_open setting k on.pull c open_yet allowed x = pulled_open k k.reading c refl open_yet x
step_open setting k on.drop_body c open_yet allowed x = inl refl
step_open setting k (on.write n) c open_yet allowed x = subst (Ends (on.write n)) (sym x) (inr open_yet)
step_open setting k (on.tick ms) c open_yet allowed x = subst (Ends (on.tick ms)) (sym x) (inr open_yet)

-- ---- all that happened

or_first : (a b : Bool) → a ≡ true → (a || b) ≡ true
or_first a b is = ap (λ (t : Bool). t || b) is

or_second : (a b : Bool) → b ≡ true → (a || b) ≡ true
or_second true b is = refl
or_second false b is = is

one_kept : (setting : Setting) (trace : List Happened) (k m : ClientKept) → IsClientTrace setting trace k → IsClientTrace setting trace m → k ≡ m
one_kept setting [] k m x y = x ∙ sym y
one_kept setting (s ∷ before) k m (a, first, may, one) (b, second, might, two) =
    let same = subst (λ (c : ClientKept). IsClientStep setting c s.event s.outcome k) (one_kept setting before a b first second) one in
    one_state setting b s.event s.outcome s.outcome k m same two

stays_open : (setting : Setting) (before later : List Happened) (opened kept : ClientKept) → IsClientTrace setting before opened → IsOpen opened
    → IsClientTrace setting (later ++ before) kept → (list_any ends_body later ≡ true) ⊎ IsOpen kept
stays_open setting before [] opened kept ran open_yet again = inr (subst IsOpen (one_kept setting before opened kept ran again) open_yet)
stays_open setting before (s ∷ later) opened kept ran open_yet (b, trace, allowed, step) =
    elim (stays_open setting before later opened b ran open_yet trace) [
      | inl over ↦ inl (or_second (ends_body s) (list_any ends_body later) over)
      | inr yet ↦ elim (step_open setting b s.event step.change yet allowed step.changes) [
        | inl ends ↦ inl (or_first (ends_body s) (list_any ends_body later)
            (ap (λ (o : ClientOutcome). is_drop s.event || tells_end o) step.answers ∙ ends))
        | inr on ↦ inr (subst IsOpen (sym step.keeps) on)
      ]
    ]

-- a body that may be pulled is open
pull_open : (setting : Setting) (k : ClientKept) → IsTrue (client_allows setting k on.pull) → IsOpen k
pull_open setting k allowed = by_reading k.reading refl
  where
    going : client_closing k ≡ None
    going = going_for setting [] false [] k on.pull allowed (λ end closing. false≢true (allowed_while setting k on.pull end closing allowed))

    two : (not (is_free k) ≡ true) × (not (is_dropped k) ≡ true)
    two = both (not (is_free k)) (not (is_dropped k)) (allowed_then setting k on.pull going allowed)

    by_reading : (r : Option ReadingBody) → k.reading ≡ r → IsOpen k
    by_reading None is = absurd (false≢true (sym (not_true (is_free k) two.0) ∙ ap is_free_of is))
    by_reading (Some body) is = record {
      body = body;
      read = is;
      going = sym (ap is_free_of is) ∙ not_true (is_free k) two.0;
      wanted = sym (ap is_dropped_of is) ∙ not_true (is_dropped k) two.1;
    }

pub body_is_over : (setting : Setting) (before later : List Happened) (opened kept : ClientKept) → IsClientTrace setting before opened
    → IsTrue (client_allows setting opened on.pull) → IsClientTrace setting (later ++ before) kept → client_closing kept ≡ None
    → IsTrue (client_allows setting kept on.next) → list_any ends_body later ≡ true
body_is_over setting before later opened kept ran pulls again going allowed =
    elim (stays_open setting before later opened kept ran (pull_open setting opened pulls) again) [
      | inl over ↦ over
      | inr yet ↦ absurd (not_free kept yet (allowed_then setting kept on.next going allowed))
    ]

-- an answer comes only while nothing closes
answer_going : (setting : Setting) (k : ClientKept) (closing : Option ClientEnd) (c : ClientChange) (a : Answer) → client_closing k ≡ closing
    → IsNext setting k closing c → on.answer a ≡ c.outcome → client_closing k ≡ None
answer_going setting k None c a is x out = is
answer_going setting k (Some end) c a is x out =
    let no : ◌≡◌ {A = ClientOutcome} (on.answer a) (on.closed end) = out ∙ ap (λ (c : ClientChange). c.outcome) x in absurd (cc no)

pub older_body_is_over : (setting : Setting) (before later : List Happened) (opened kept next : ClientKept) (a : Answer)
    → IsClientTrace setting before opened → IsTrue (client_allows setting opened on.pull) → IsClientTrace setting (later ++ before) kept
    → IsTrue (client_allows setting kept on.next) → IsClientStep setting kept on.next (on.answer a) next → list_any ends_body later ≡ true
older_body_is_over setting before later opened kept next a ran pulls again allowed step =
    body_is_over setting before later opened kept ran pulls again
    (answer_going setting kept (client_closing kept) step.change a refl step.changes step.answers) allowed
