-- A client is to close after its last final answer, as that says and the request that waited for it.
use Rattle.std.proofs.Common.{◌≡◌, ◌⊎◌, ℕ, ◌+◌, ◌-◌, ◌≤◌, min, Bool, true, false, ◌&&◌, not, List, [], ◌∷◌, ◌++◌, length, drop, take, Option, Some, None, refl, sym, ap, ap₂, ◌∙◌, subst, inl, inr, arith, append-nil, length-append}
use Rattle.std.specs.Prelude.{◌==◌, if◌then◌else◌}
use Rattle.std.proofs.lemmas.List.{drop-append-le}
use Rattle.model_h1.specs.Setting.{Setting}
use Rattle.model_h1.specs.Event as server
use Rattle.model_state.specs.Body.{Passed, pass_rest}
use Rattle.model_client.specs.AnswerReading.{Answer, AnswerReading, answer_is, refused}
use Rattle.model_client.specs.AnswerParse.{is_interim}
use Rattle.model_client.specs.ClientEvent as on
use Rattle.model_client.specs.ClientEvent.{ClientEvent, ClientEnd, ClientOutcome}
use Rattle.model_client.specs.ClientKept.{Waiting, SendingBody, ReadingBody, ClientKept, client_closing}
use Rattle.model_client.specs.ClientStep.{ClientChange, sending_piece, ending_body, passed_body, passing, dropping, outcome_of, reading, body_at_end, is_closed_after, IsPulling, behind_final, behind_answer, behind_head, IsUpcoming, IsNext, IsClientChange}
use Rattle.model_client.specs.ClientTrace.{Happened, IsClientTrace, requests_by, requests_of, answers_one, answered_of}
use Rattle.model_client.proofs.Answered.{told_without}
use Rattle.model_client.proofs.Order.{in_order}

-- the final answers that were handed out, the first first
abbrev pub final_in : ClientOutcome → List Answer
final_in (on.answer a) = if is_interim a.status then [] else a ∷ []
final_in _ = []

abbrev pub finals : List Happened → List Answer
finals [] = []
finals (s ∷ before) = finals before ++ final_in s.outcome

-- whether the connection closes after the last of these answers, each of which is to one of these requests, in their order
abbrev pub closes_from : List Waiting → List Answer → Bool
closes_from ws [] = false
closes_from [] (a ∷ more) = false
closes_from (w ∷ ws) (a ∷ []) = is_closed_after w a
closes_from (w ∷ ws) (a ∷ b ∷ more) = closes_from ws (b ∷ more)

-- ---- lists

-- requests that are asked later change nothing of it
closes_more : (ws more : List Waiting) (fs : List Answer) → length fs ≤ length ws → closes_from (ws ++ more) fs ≡ closes_from ws fs
closes_more ws more [] fits = refl
closes_more [] more (a ∷ fs) fits = absurd (omega (arith, fits))
closes_more (w ∷ ws) more (a ∷ []) fits = refl
closes_more (w ∷ ws) more (a ∷ b ∷ fs) fits = closes_more ws more (b ∷ fs) (omega (arith, fits))

-- a further answer is to the next request
closes_next : (ws : List Waiting) (fs : List Answer) (a : Answer) (w : Waiting) (rest : List Waiting) → drop (length fs) ws ≡ w ∷ rest
    → closes_from ws (fs ++ a ∷ []) ≡ is_closed_after w a
closes_next [] [] a w rest e = absurd (cc e)
closes_next [] (f ∷ fs) a w rest e = absurd (cc e)
closes_next (v ∷ ws) [] a w rest e = let same : v ≡ w = cc in ap (λ (x : Waiting). is_closed_after x a) same
closes_next (v ∷ ws) (f ∷ []) a w rest e = closes_next ws [] a w rest e
closes_next (v ∷ ws) (f ∷ g ∷ fs) a w rest e = closes_next ws (g ∷ fs) a w rest e

-- ---- what changes nothing of it

closes_if : (t : Bool) (body : ReadingBody) (k : ClientKept) (p : Passed) → (if t then passed_body k.has_ended body k p else k).closes ≡ k.closes
closes_if true body k p = refl
closes_if false body k p = refl

closes_passing : (body : Option ReadingBody) (k : ClientKept) → (passing body k).closes ≡ k.closes
closes_passing None k = refl
closes_passing (Some body) k = closes_if (body.was_dropped && not body.is_done) body k (pass_rest k.has_ended body.rest k.unread)

closes_dropping : (body : Option ReadingBody) (k : ClientKept) → (dropping body k).closes ≡ k.closes
closes_dropping None k = refl
closes_dropping (Some body) k =
    closes_passing (Some (record body { was_dropped = true })) (record k { reading = Some (record body { was_dropped = true }) })

closes_piece : (bytes : List ℕ) (body : Option SendingBody) (k : ClientKept) → (sending_piece bytes body k).closes ≡ k.closes
closes_piece bytes None k = refl
closes_piece bytes (Some body) k = refl

closes_end : (body : Option SendingBody) (k : ClientKept) → (ending_body body k).closes ≡ k.closes
closes_end None k = refl
closes_end (Some body) k = refl

no_final : (o : server.Outcome) → final_in (outcome_of o) ≡ []
no_final (server.bytes bytes) = refl
no_final (server.trailers lines) = refl
no_final server.body_ended = refl
no_final (server.broken_by fault) = refl
no_final (server.took n) = refl
no_final (server.head h) = refl
no_final (server.frame f) = refl
no_final server.pending = refl
no_final (server.closed end) = refl
no_final (server.fault f) = refl
no_final (server.protocol e) = refl
no_final (server.refused e) = refl
no_final (server.gave bytes) = refl
no_final (server.expired e) = refl
no_final server.abandoned = refl
no_final server.done = refl

-- ---- what each event changes

-- one final answer is handed out, to the request that has waited longest
record IsFinal (k : ClientKept) (c : ClientChange) : Type 0 where
  answer : Answer
  first : Waiting
  others : List Waiting
  told : final_in c.outcome ≡ answer ∷ []
  waited : k.waiting ≡ first ∷ others
  closes : c.kept.closes ≡ is_closed_after first answer

-- or none is, and it stays
abbrev IsToClose : ClientKept → ClientChange → Type 0
IsToClose k c = ((final_in c.outcome ≡ []) × (c.kept.closes ≡ k.closes)) ⊎ IsFinal k c

calm : (k : ClientKept) (c d : ClientChange) → c ≡ d → d.kept.closes ≡ k.closes → final_in d.outcome ≡ [] → IsToClose k c
calm k c d is same none = subst (IsToClose k) (sym is) (inl (none, same))

to_answer : (t : Bool) (k : ClientKept) (unread : List ℕ) (a : Answer) (w : Waiting) (ws : List Waiting) → is_interim a.status ≡ t → k.waiting ≡ w ∷ ws
    → IsToClose k (record { outcome = on.answer a; kept = behind_answer k unread a w ws })
to_answer true k unread a w ws is waited =
    inl (
      ap (λ (t : Bool). if t then [] else a ∷ []) is,
      ap (λ (t : Bool). (if t then record k { unread = unread } else behind_final k unread a w ws).closes) is,
    )
to_answer false k unread a w ws is waited =
    inr (record {
      answer = a;
      first = w;
      others = ws;
      told = ap (λ (t : Bool). if t then [] else a ∷ []) is;
      waited = waited;
      closes = ap (λ (t : Bool). (if t then record k { unread = unread } else behind_final k unread a w ws).closes) is;
    })

to_head : (k : ClientKept) (end : ℕ) (w : Waiting) (ws : List Waiting) (what : AnswerReading) → k.waiting ≡ w ∷ ws → IsToClose k (behind_head k end w ws what)
to_head k end w ws (refused f) waited = inl (refl, refl)
to_head k end w ws (answer_is a) waited = to_answer (is_interim a.status) k (drop end k.unread) a w ws refl waited

to_without : (full : Bool) (k : ClientKept) → IsToClose k (told_without k full)
to_without true k = inl (refl, refl)
to_without false k = inl (refl, refl)

to_upcoming : (setting : Setting) (k : ClientKept) (waiting : List Waiting) (coming : Bool) (c : ClientChange) → k.waiting ≡ waiting
    → IsUpcoming setting k waiting coming c → IsToClose k c
to_upcoming setting k [] false c waited x = subst (IsToClose k) (sym x) (to_without (length k.unread == setting.hold_size) k)
to_upcoming setting k (w ∷ ws) false c waited x = subst (IsToClose k) (sym x) (to_without (length k.unread == setting.hold_size) k)
to_upcoming setting k [] true c waited x = subst (IsToClose k) (sym x) (inl (refl, refl))
to_upcoming setting k (w ∷ ws) true c waited (start, end, what, piece, reading, is) =
    subst (IsToClose k) (sym is) (to_head k end w ws what waited)

to_next : (setting : Setting) (k : ClientKept) (closing : Option ClientEnd) (c : ClientChange) → IsNext setting k closing c → IsToClose k c
to_next setting k (Some end) c x = subst (IsToClose k) (sym x) (inl (refl, refl))
to_next setting k None c x = to_upcoming setting k k.waiting k.is_coming c refl x

to_pull : (k : ClientKept) (body : Option ReadingBody) (c : ClientChange) → IsPulling k body c → IsToClose k c
to_pull k None c x = subst (IsToClose k) (sym x) (inl (refl, refl))
to_pull k (Some body) c (p, pull, is) = calm k c _ is refl (no_final p.outcome)

to_close : (setting : Setting) (k : ClientKept) (event : ClientEvent) (c : ClientChange) → IsClientChange setting k event c → IsToClose k c
to_close setting k (on.ask r size) c x = calm k c _ x refl refl
to_close setting k (on.chunk bytes) c x = calm k c _ x (closes_piece bytes k.sending k) refl
to_close setting k on.body_end c x = calm k c _ x (closes_end k.sending k) refl
to_close setting k on.body_error c x = calm k c _ x refl refl
to_close setting k (on.read bytes) c x =
    let n = min (length bytes) (setting.hold_size - length k.unread) in
    calm k c (reading setting bytes k) x (closes_passing k.reading (record k { unread = k.unread ++ take n bytes })) refl
to_close setting k on.eof c x =
    calm k c _ x (closes_passing (body_at_end k.unread k.reading) (record k { has_ended = true; reading = body_at_end k.unread k.reading })) refl
to_close setting k on.next c x = to_next setting k (client_closing k) c x
to_close setting k on.pull c x = to_pull k k.reading c x
to_close setting k on.drop_body c x = calm k c _ x (closes_dropping k.reading k) refl
to_close setting k (on.write n) c x = calm k c _ x refl refl
to_close setting k (on.tick ms) c x = calm k c _ x refl refl

-- ---- all that happened

one_final : (o : ClientOutcome) → length (final_in o) ≡ (if answers_one o then 1 else 0)
one_final (on.answer a) = by_test (is_interim a.status)
  where
    by_test : (t : Bool) → length (if t then [] else a ∷ []) ≡ (if not t then 1 else 0)
    by_test true = refl
    by_test false = refl
one_final (on.took n) = refl
one_final (on.bytes bytes) = refl
one_final (on.trailers lines) = refl
one_final on.body_ended = refl
one_final on.pending = refl
one_final (on.closed end) = refl
one_final (on.fault f) = refl
one_final (on.broken_by fault) = refl
one_final (on.gave bytes) = refl
one_final on.done = refl

-- there are as many as requests were answered
pub finals_count : (trace : List Happened) → length (finals trace) ≡ answered_of trace
finals_count [] = refl
finals_count (s ∷ before) =
    length-append (finals before) (final_in s.outcome) ∙ ap₂ (λ (m n : ℕ). m + n) (finals_count before) (one_final s.outcome)

pub closes_is : (setting : Setting) (trace : List Happened) (k : ClientKept) → IsClientTrace setting trace k
    → k.closes ≡ closes_from (requests_of trace) (finals trace)
closes_is setting [] k is = ap (λ (k : ClientKept). k.closes) is
closes_is setting (s ∷ before) k (b, trace, allowed, step) =
    let old = closes_is setting before b trace in
    let order = in_order setting before b trace in
    let fits : length (finals before) ≤ length (requests_of before) = omega (arith, order.1, finals_count before) in
    let ws = requests_of before ++ requests_by s.event in
    let kept : k.closes ≡ step.change.kept.closes = ap (λ (k : ClientKept). k.closes) step.keeps in
    let told : final_in s.outcome ≡ final_in step.change.outcome = ap final_in step.answers in
    elim (to_close setting b s.event step.change step.changes) [
      | inl (none, same) ↦
          kept ∙ same ∙ old ∙ sym (closes_more (requests_of before) (requests_by s.event) (finals before) fits)
          ∙ sym (ap (λ (l : List Answer). closes_from ws (finals before ++ l)) (told ∙ none) ∙ ap (closes_from ws) (append-nil (finals before)))
      | inr f ↦
          let waits : drop (length (finals before)) ws ≡ f.first ∷ (f.others ++ requests_by s.event) =
          ap (λ (n : ℕ). drop n ws) (finals_count before) ∙ drop-append-le (answered_of before) (requests_of before) (requests_by s.event) order.1
          ∙ ap (λ (l : List Waiting). l ++ requests_by s.event) (sym order.0 ∙ f.waited) in
          kept ∙ f.closes
          ∙ sym (ap (λ (l : List Answer). closes_from ws (finals before ++ l)) (told ∙ f.told)
          ∙ closes_next ws (finals before) f.answer f.first (f.others ++ requests_by s.event) waits)
    ]
