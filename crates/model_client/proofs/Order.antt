-- Requests are answered in the order in which they were asked.
use Rattle.std.proofs.Common.{◌≡◌, ℕ, ◌+◌, ◌-◌, ◌≤◌, min, Bool, true, false, ◌&&◌, not, List, [], ◌∷◌, ◌++◌, length, drop, take, Option, Some, None, refl, sym, ap, ◌∙◌, subst, arith, append-nil, length-append, length-drop}
use Rattle.std.specs.Prelude.{◌==◌, if◌then◌else◌}
use Rattle.std.proofs.lemmas.List.{drop-append-le, drop-drop}
use Rattle.model_h1.specs.Setting.{Setting}
use Rattle.model_h1.specs.Event as server
use Rattle.model_state.specs.Body.{Passed, pass_rest}
use Rattle.model_client.specs.AnswerReading.{Answer, AnswerReading, answer_is, refused}
use Rattle.model_client.specs.AnswerParse.{is_interim}
use Rattle.model_client.specs.ClientEvent as on
use Rattle.model_client.specs.ClientEvent.{ClientEvent, ClientEnd, ClientOutcome}
use Rattle.model_client.specs.ClientKept.{Waiting, SendingBody, ReadingBody, ClientKept, client_closing}
use Rattle.model_client.specs.ClientStep.{ClientChange, sending_piece, ending_body, passed_body, passing, dropping, outcome_of, reading, body_at_end, IsPulling, behind_final, behind_head, IsUpcoming, IsNext, IsClientChange}
use Rattle.model_client.specs.ClientTrace.{Happened, IsClientTrace, requests_by, requests_of, answers_one, answered_of}
use Rattle.model_client.proofs.Answered.{told_without}

-- one where a request is answered, and else none
abbrev count : Bool → ℕ
count t = if t then 1 else 0

-- who waits after it, where these waited before and so many are answered
abbrev IsLeft : List Waiting → List Waiting → ℕ → Type 0
IsLeft before after n = (after ≡ drop n before) × (n ≤ length before)

-- ---- what changes nothing of who waits

waits_if : (t : Bool) (body : ReadingBody) (k : ClientKept) (p : Passed) → (if t then passed_body k.has_ended body k p else k).waiting ≡ k.waiting
waits_if true body k p = refl
waits_if false body k p = refl

waits_passing : (body : Option ReadingBody) (k : ClientKept) → (passing body k).waiting ≡ k.waiting
waits_passing None k = refl
waits_passing (Some body) k = waits_if (body.was_dropped && not body.is_done) body k (pass_rest k.has_ended body.rest k.unread)

waits_dropping : (body : Option ReadingBody) (k : ClientKept) → (dropping body k).waiting ≡ k.waiting
waits_dropping None k = refl
waits_dropping (Some body) k =
    waits_passing (Some (record body { was_dropped = true })) (record k { reading = Some (record body { was_dropped = true }) })

waits_piece : (bytes : List ℕ) (body : Option SendingBody) (k : ClientKept) → (sending_piece bytes body k).waiting ≡ k.waiting
waits_piece bytes None k = refl
waits_piece bytes (Some body) k = refl

waits_end : (body : Option SendingBody) (k : ClientKept) → (ending_body body k).waiting ≡ k.waiting
waits_end None k = refl
waits_end (Some body) k = refl

no_answer : (o : server.Outcome) → answers_one (outcome_of o) ≡ false
no_answer (server.bytes bytes) = refl
no_answer (server.trailers lines) = refl
no_answer server.body_ended = refl
no_answer (server.broken_by fault) = refl
no_answer (server.took n) = refl
no_answer (server.head h) = refl
no_answer (server.frame f) = refl
no_answer server.pending = refl
no_answer (server.closed end) = refl
no_answer (server.fault f) = refl
no_answer (server.protocol e) = refl
no_answer (server.refused e) = refl
no_answer (server.gave bytes) = refl
no_answer (server.expired e) = refl
no_answer server.abandoned = refl
no_answer server.done = refl

-- ---- what each event changes

-- who waits after a change
abbrev IsOrdered : ClientKept → ClientChange → Type 0
IsOrdered k c = IsLeft k.waiting c.kept.waiting (count (answers_one c.outcome))

calm : (k : ClientKept) (c : ClientChange) → c.kept.waiting ≡ k.waiting → answers_one c.outcome ≡ false → IsOrdered k c
calm k c same none = subst (λ (t : Bool). IsLeft k.waiting c.kept.waiting (count t)) (sym none) (same, omega arith)

calm_as : (k : ClientKept) (c d : ClientChange) → c ≡ d → d.kept.waiting ≡ k.waiting → answers_one d.outcome ≡ false → IsOrdered k c
calm_as k c d is same none = subst (IsOrdered k) (sym is) (calm k d same none)

ordered_answer : (t : Bool) (k : ClientKept) (unread : List ℕ) (a : Answer) (w : Waiting) (ws : List Waiting) → k.waiting ≡ w ∷ ws
    → IsLeft k.waiting (if t then record k { unread = unread } else behind_final k unread a w ws).waiting (count (not t))
ordered_answer true k unread a w ws waited = (refl, omega arith)
ordered_answer false k unread a w ws waited = (sym (ap (drop 1) waited), omega (arith, ap length waited))

calm_without : (full : Bool) (k : ClientKept) → IsOrdered k (told_without k full)
calm_without true k = (refl, omega arith)
calm_without false k = (refl, omega arith)

ordered_head : (k : ClientKept) (end : ℕ) (w : Waiting) (ws : List Waiting) (what : AnswerReading) → k.waiting ≡ w ∷ ws
    → IsOrdered k (behind_head k end w ws what)
ordered_head k end w ws (refused f) waited = (refl, omega arith)
ordered_head k end w ws (answer_is a) waited = ordered_answer (is_interim a.status) k (drop end k.unread) a w ws waited

ordered_upcoming : (setting : Setting) (k : ClientKept) (waiting : List Waiting) (coming : Bool) (c : ClientChange) → k.waiting ≡ waiting
    → IsUpcoming setting k waiting coming c → IsOrdered k c
ordered_upcoming setting k [] false c waited x =
    subst (IsOrdered k) (sym x) (calm_without (length k.unread == setting.hold_size) k)
ordered_upcoming setting k (w ∷ ws) false c waited x =
    subst (IsOrdered k) (sym x) (calm_without (length k.unread == setting.hold_size) k)
ordered_upcoming setting k [] true c waited x = subst (IsOrdered k) (sym x) (refl, omega arith)
ordered_upcoming setting k (w ∷ ws) true c waited (start, end, what, piece, reading, is) =
    subst (IsOrdered k) (sym is) (ordered_head k end w ws what waited)

ordered_next : (setting : Setting) (k : ClientKept) (closing : Option ClientEnd) (c : ClientChange) → IsNext setting k closing c → IsOrdered k c
ordered_next setting k (Some end) c x = subst (IsOrdered k) (sym x) (refl, omega arith)
ordered_next setting k None c x = ordered_upcoming setting k k.waiting k.is_coming c refl x

ordered_pull : (k : ClientKept) (body : Option ReadingBody) (c : ClientChange) → IsPulling k body c → IsOrdered k c
ordered_pull k None c x = subst (IsOrdered k) (sym x) (refl, omega arith)
ordered_pull k (Some body) c (p, pull, is) = calm_as k c _ is refl (no_answer p.outcome)

-- the same with the request that an event asks
abbrev IsOrderedBehind : ClientKept → ClientEvent → ClientChange → Type 0
IsOrderedBehind k event c = IsLeft (k.waiting ++ requests_by event) c.kept.waiting (count (answers_one c.outcome))

asks_none : (k : ClientKept) (event : ClientEvent) (c : ClientChange) → requests_by event ≡ [] → IsOrdered k c → IsOrderedBehind k event c
asks_none k event c none x =
    subst (λ (ws : List Waiting). IsLeft ws c.kept.waiting (count (answers_one c.outcome)))
    (sym (ap (λ (ws : List Waiting). k.waiting ++ ws) none ∙ append-nil k.waiting)) x

ordered : (setting : Setting) (k : ClientKept) (event : ClientEvent) (c : ClientChange) → IsClientChange setting k event c → IsOrderedBehind k event c
ordered setting k (on.ask r size) c x = subst (IsOrderedBehind k (on.ask r size)) (sym x) (refl, omega arith)
ordered setting k (on.chunk bytes) c x = asks_none k (on.chunk bytes) c refl (calm_as k c _ x (waits_piece bytes k.sending k) refl)
ordered setting k on.body_end c x = asks_none k on.body_end c refl (calm_as k c _ x (waits_end k.sending k) refl)
ordered setting k on.body_error c x = asks_none k on.body_error c refl (calm_as k c _ x refl refl)
ordered setting k (on.read bytes) c x =
    let n = min (length bytes) (setting.hold_size - length k.unread) in
    asks_none k (on.read bytes) c refl
    (calm_as k c (reading setting bytes k) x (waits_passing k.reading (record k { unread = k.unread ++ take n bytes })) refl)
ordered setting k on.eof c x =
    asks_none k on.eof c refl
    (calm_as k c _ x (waits_passing (body_at_end k.unread k.reading) (record k { has_ended = true; reading = body_at_end k.unread k.reading })) refl)
ordered setting k on.next c x = asks_none k on.next c refl (ordered_next setting k (client_closing k) c x)
ordered setting k on.pull c x = asks_none k on.pull c refl (ordered_pull k k.reading c x)
ordered setting k on.drop_body c x = asks_none k on.drop_body c refl (calm_as k c _ x (waits_dropping k.reading k) refl)
ordered setting k (on.write n) c x = asks_none k (on.write n) c refl (calm_as k c _ x refl refl)
ordered setting k (on.tick ms) c x = asks_none k (on.tick ms) c refl (calm_as k c _ x refl refl)

-- ---- over all that happened

joined : (all more after : List Waiting) (n d : ℕ) → n ≤ length all → IsLeft (drop n all ++ more) after d → IsLeft (all ++ more) after (n + d)
joined all more after n d fits (is, low) = (
  is ∙ ap (drop d) (sym (drop-append-le n all more fits)) ∙ drop-drop d n (all ++ more),
  omega (arith, low, fits, length-append (drop n all) more, length-append all more, length-drop n all),
)

pub in_order : (setting : Setting) (trace : List Happened) (k : ClientKept) → IsClientTrace setting trace k
    → IsLeft (requests_of trace) k.waiting (answered_of trace)
in_order setting [] k is = (ap (λ (k : ClientKept). k.waiting) is, omega arith)
in_order setting (s ∷ before) k (b, trace, allowed, step) =
    let old = in_order setting before b trace in
    let new = ordered setting b s.event step.change step.changes in
    let kept = subst (λ (ws : List Waiting). IsLeft (b.waiting ++ requests_by s.event) ws (count (answers_one step.change.outcome)))
    (sym (ap (λ (k : ClientKept). k.waiting) step.keeps)) new in
    let told = subst (λ (o : ClientOutcome). IsLeft (b.waiting ++ requests_by s.event) k.waiting (count (answers_one o))) (sym step.answers) kept in
    let left = subst (λ (ws : List Waiting). IsLeft (ws ++ requests_by s.event) k.waiting (count (answers_one s.outcome))) old.0 told in
    joined (requests_of before) (requests_by s.event) k.waiting (answered_of before) (count (answers_one s.outcome)) old.1 left
