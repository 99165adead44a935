-- A head is handed out.
use Rattle.std.proofs.Common.{◌≡◌, ℕ, ◌+◌, Bool, true, false, List, [], ◌∷◌, ◌++◌, length, drop, slice_range, Option, Some, None, refl, sym, ap, ◌∙◌, subst, inl, inr, append-nil}
use Rattle.std.specs.Prelude.{◌&&◌, ◌||◌, not, is_some, unwrap_or, slice_get}
use Rattle.std.specs.List.{list_any}
use Rattle.std.specs.Option.{option_or}
use Rattle.std.proofs.lemmas.Bool.{true≢false, or_parts}
use Rattle.std.proofs.lemmas.Option.{none-some}
use Rattle.std.proofs.lemmas.List.{drop-drop}
use Rattle.model_h1.specs.Request.{Head, head_is}
use Rattle.model_h1.specs.RequestHead.{IsReadingWithin}
use Rattle.model_h1.specs.Setting.{Setting}
use Rattle.model_h1.specs.Parse.{Input, Message, next_start, IsBodyOf, IsBodyAfter, IsMessageAt}
use Rattle.model_h1.specs.End as ends
use Rattle.model_h1.specs.Event as on
use Rattle.model_h1.specs.Sums.{Step, taken, is_body_end, is_body_error, request, answered, is_complete, is_open, is_upgraded, accepted, is_receiving, is_pull, is_drop, is_continue, has_ended, answer_len}
use Rattle.model_h1.specs.Past.{ParsedStep, steps, input_of, parse_of, head_count, current, upcoming, passed}
use Rattle.model_h1.specs.Text.{step_text, buffered}
use Rattle.model_h1.specs.Closing.{end_where, told, is_short, body_end_of, closing}
use Rattle.model_h1.proofs.BodyLemmas.{input}
use Rattle.model_h1.proofs.PastLemmas.{Legal}
use Rattle.model_h1.proofs.StepLemmas.{accepted-cons, since_head-head, head_count-head, complete-head, parsed}
use Rattle.model_h1.proofs.TraceGrowth.{ComesAt, first_comes, ComesBehind, current_at}
use Rattle.model_h1.proofs.PulledLemmas.{pulled_to-head}
use Rattle.model_h1.proofs.CarriedLemmas.{passed_some, passed_complete, passed_pulled}
use Rattle.model_state.specs.Kept.{unanswered, whole_rest, rest_in, new_exchange}
use Rattle.model_state.specs.Local.{closing_by}
use Rattle.model_state.specs.Kept.{Change}
use Rattle.model_state.specs.Change.{behind_head, IsUpcoming, IsNext}
use Rattle.model_state.specs.KeptOf.{rest_of, reply_of, tells_done, exchange_with, exchange_of, kept_of}
use Rattle.model_state.proofs.Changes.{bare, Changes}
use Rattle.model_state.proofs.Current.{current_of}
use Rattle.model_state.proofs.Orderly.{orderly, waits_open}
use Rattle.model_state.proofs.Coming.{behind_current}
use Rattle.model_state.proofs.StepSums.{told-cons, answered-head, buffered-more, request-cons}
use Rattle.model_state.proofs.QuietParts.{rest_by, rest_parts}
use Rattle.model_state.proofs.StepForms.{both_none, untold}
use Rattle.model_state.proofs.CalmSteps.{calm_next, taken-calm, clock-aside, sending-aside, parse-calm}
use Rattle.model_state.proofs.NewRest.{read_some, new_rest}

-- ---- the message that is to come

-- where no request is open, it begins at the place that is passed
pub next_at : (setting : Setting) (past : List ParsedStep) (m : Message) → Legal setting past → is_open (steps past) ≡ false → upcoming past ≡ Some m
    → IsMessageAt (input_of setting (steps past)) (passed past) m
next_at setting past m l shut e =
    let t = steps past in
    elim (current_of setting past l) [
      | inl n ↦
          let first = ap (slice_get (parse_of past)) (sym n.count) ∙ e in
          subst (λ p. IsMessageAt i p m) (sym n.passed_is) (subst (ComesAt i 0) first (first_comes i 0 (parse_of past) (parsed setting past l)))
      | inr (q, h, c) ↦
          let open_not = sym (ap (λ b. b && (is_upgraded t || not (is_complete t))) (ap is_some c.request_is)) ∙ shut in
          let complete = shut_complete (is_complete t) (or_parts (is_upgraded t) (not (is_complete t)) open_not).1 in
          let place = c.passed_is ∙ passed_complete past q complete in
          subst (λ p. IsMessageAt i p m) (sym place) (behind_at (next_start q.body) (behind_current setting past q l c.current_is))
    ]
  where
    i : Input
    i = input_of setting (steps past)

    behind_at : (o : Option ℕ) → ComesBehind i o (upcoming past) → IsMessageAt i (unwrap_or o (length (taken (steps past)))) m
    behind_at None x = absurd (none-some m (sym x ∙ e))
    behind_at (Some place) x = subst (ComesAt i place) e x

    shut_complete : (b : Bool) → not b ≡ false → b ≡ true
    shut_complete true f = refl
    shut_complete false f = absurd (true≢false f)

-- ---- what a head changes

-- a call for the next head that hands out one
abbrev pub head_of_next : Head → List Message → ParsedStep
head_of_next h parse = record { step = record { event = on.next; outcome = on.head h }; parse = parse }

-- What holds where a head is handed out: it is that of the message that was to come.
pub record Heads (setting : Setting) (before : List ParsedStep) (parse : List Message) (m : Message) (h : Head) : Type 0 where
  pub legal : Legal setting (head_of_next h parse ∷ before)
  pub shut : is_open (steps before) ≡ false
  pub open_yet : closing setting before ≡ None
  pub upcoming_is : upcoming before ≡ Some m
  pub reading : m.reading ≡ head_is h

-- it is the current message then
head_current : (setting : Setting) (before : List ParsedStep) (parse : List Message) (m : Message) (h : Head) → Heads setting before parse m h
    → current (head_of_next h parse ∷ before) ≡ Some m
head_current setting before parse m h w =
    let x = head_of_next h parse in
    let same : parse ≡ parse_of before = parse-calm setting before x w.legal calm_next refl in
    current_at (x ∷ before) (head_count (steps before)) (head_count-head x.step (steps before) h refl)
    ∙ ap (λ (l : List Message). slice_get l (head_count (steps before))) same ∙ w.upcoming_is

-- of which nothing is passed
head_passed : (setting : Setting) (before : List ParsedStep) (parse : List Message) (m : Message) (h : Head) → Heads setting before parse m h
    → passed (head_of_next h parse ∷ before) ≡ m.body_start
head_passed setting before parse m h w =
    let x = head_of_next h parse in
    let t = steps before in
    passed_some (x ∷ before) m (head_current setting before parse m h w)
    ∙ passed_pulled (x ∷ before) m (complete-head x.step t h refl) ∙ pulled_to-head m x.step t h refl

-- no WebSocket is open
head_plain : (setting : Setting) (before : List ParsedStep) (parse : List Message) (m : Message) (h : Head) → Heads setting before parse m h
    → accepted (steps before) ≡ None
head_plain setting before parse m h w = go (accepted (steps before)) refl
  where
    go : (u : Option ℕ) → accepted (steps before) ≡ u → u ≡ None
    go None e = refl
    go (Some limit) e =
        let up = ap is_some e in
        absurd (true≢false (sym (waits_open (steps before) up ((orderly setting before w.legal.3).upgraded up)) ∙ w.shut))

-- what is left of its body
head_rest : (setting : Setting) (before : List ParsedStep) (parse : List Message) (m : Message) (h : Head) → Heads setting before parse m h
    → rest_of (head_of_next h parse ∷ before) m h.body
    ≡ rest_in (has_ended (steps before)) (drop m.body_start (taken (steps before))) (whole_rest h.body)
head_rest setting before parse m h w =
    let x = head_of_next h parse in
    let t = steps before in
    let s = x.step in
    let at = next_at setting before m w.legal.3 w.shut w.upcoming_is in
    let place = head_passed setting before parse m h w in
    let bytes = taken-calm s t calm_next in
    let complete = complete-head s t h refl in
    let plain = head_plain setting before parse m h w in
    let limit = accepted-cons s t ∙ plain in
    let after = subst (λ r. IsBodyAfter (input_of setting t) r m.body_start m.body) w.reading at.body in
    let body = subst (λ u. IsBodyOf (input (taken t) u (has_ended t) setting.hold_size) h.body m.body_start m.body) plain after in
    let read = subst (λ r. IsReadingWithin setting.hold_size (slice_range (drop (passed before) (taken t)) at.start at.end) r) w.reading at.reading in
    rest_parts (x ∷ before) m h.body
    ∙ (λ i. rest_by (place i) (bytes i) (complete i) (limit i) (is_receiving (s ∷ t)) m h.body)
    ∙ new_rest (taken t) (has_ended t) setting.hold_size (is_receiving (s ∷ t)) m h.body body
    (λ n kind. read_some setting.hold_size (slice_range (drop (passed before) (taken t)) at.start at.end) h n read kind)

-- the last request
head_exchange : (setting : Setting) (before : List ParsedStep) (parse : List Message) (m : Message) (h : Head) → Heads setting before parse m h
    → exchange_of setting (head_of_next h parse ∷ before) (current (head_of_next h parse ∷ before)) (request (steps (head_of_next h parse ∷ before)))
    ≡ Some (new_exchange (rest_in (has_ended (steps before)) (drop m.body_start (taken (steps before))) (whole_rest h.body)) h)
head_exchange setting before parse m h w =
    let x = head_of_next h parse in
    let t = steps before in
    let s = x.step in
    let here = head_current setting before parse m h w in
    let asked : request (s ∷ t) ≡ Some h = request-cons s t in
    let nothing = since_head-head s t h refl in
    let rest = head_rest setting before parse m h w in
    let reply : reply_of setting (s ∷ t) h (answered (s ∷ t)) ≡ unanswered = ap (reply_of setting (s ∷ t) h) (answered-head s t h refl) in
    let pulled = ap (list_any (λ u. is_pull u.event)) nothing in
    let dropped = ap (list_any (λ u. is_drop u.event)) nothing in
    let told_on = ap (list_any (λ u. is_continue u.event)) nothing in
    let done = ap (list_any (λ u. tells_done u.event u.outcome)) nothing in
    (λ i. exchange_of setting (x ∷ before) (here i) (asked i))
    ∙ (λ i. Some (record (exchange_with setting (x ∷ before) m h) {
      rest = rest i;
      reply = reply i;
      was_pulled = pulled i;
      was_dropped = dropped i;
      had_continue = told_on i;
      body_is_done = done i;
    }))

-- ---- no end was told

-- while the connection is open none was told, nor is one then
head_told : (setting : Setting) (before : List ParsedStep) (parse : List Message) (m : Message) (h : Head) → Heads setting before parse m h
    → (kept_of setting before).failed ≡ (kept_of setting (head_of_next h parse ∷ before)).failed
head_told setting before parse m h w =
    let x = head_of_next h parse in
    let t = steps before in
    let s = x.step in
    let none = untold setting before w.open_yet in
    let failed = (both_none (end_where (list_any (λ u. is_body_error u.event) t) ends.body) _ none.1).0 in
    let ended = ap (list_any (λ u. is_body_end u.event)) (since_head-head s t h refl) in
    let told_same : told (s ∷ t) ≡ told t = told-cons s t in
    let body : body_end_of (s ∷ t) ≡ None =
    (λ i. option_or (failed i) (end_where (ended i && is_short (request (s ∷ t)) (answered (s ∷ t)) (answer_len (s ∷ t))) ends.body_short)) in
    λ i. option_or (sym told_same i) ((none.1 ∙ sym body) i)

-- ---- all of it

-- nothing is written
head_text : (setting : Setting) (t : List Step) (h : Head) → step_text setting t on.next (on.head h) ≡ []
unfolding step_text
head_text setting t h = refl

-- all parts
head_parts : (setting : Setting) (before : List ParsedStep) (parse : List Message) (m : Message) (h : Head) → Heads setting before parse m h
    → (end : ℕ) → m.body_start ≡ passed before + end
    → bare ((behind_head (kept_of setting before) end (head_is h)).kept) ≡ bare (kept_of setting (head_of_next h parse ∷ before))
head_parts setting before parse m h w end start =
    let x = head_of_next h parse in
    let t = steps before in
    let s = x.step in
    let k = kept_of setting before in
    let bytes : drop end k.unread ≡ drop m.body_start (taken t) = drop-drop end (passed before) (taken t) ∙ ap (λ n. drop n (taken t)) (sym start) in
    let place = head_passed setting before parse m h w in
    let all = taken-calm s t calm_next in
    let unread : drop end k.unread ≡ drop (passed (x ∷ before)) (taken (s ∷ t)) = bytes ∙ (λ i. drop (sym place i) (sym all i)) in
    let exchange = ap (λ u. Some (new_exchange (rest_in k.has_ended u (whole_rest h.body)) h)) bytes ∙ sym (head_exchange setting before parse m h w) in
    let text = sym (buffered-more setting s before w.legal.3 refl ∙ ap (λ b. buffered setting t ++ b) (head_text setting t h) ∙ append-nil (buffered setting t)) in
    let sends = sym (sending-aside s t calm_next.aside) in
    let clock = sym (clock-aside s t calm_next.aside) in
    let end_told = head_told setting before parse m h w in
    λ i. record (bare (kept_of setting (x ∷ before))) {
      unread = unread i;
      exchange = exchange i;
      buffered = text i;
      is_sending = sends i;
      clock = clock i;
      failed = end_told i;
    }

-- a head is handed out
pub head_changes : (setting : Setting) (before : List ParsedStep) (parse : List Message) (m : Message) (h : Head) → Heads setting before parse m h
    → ((c : Change) → IsUpcoming setting (kept_of setting before) true c → IsNext setting (kept_of setting before) (closing_by setting (kept_of setting before)) c)
    → Changes setting before (head_of_next h parse)
head_changes setting before parse m h w next =
    let k = kept_of setting before in
    let at = next_at setting before m w.legal.3 w.shut w.upcoming_is in
    let read = subst (λ r. IsReadingWithin setting.hold_size (slice_range k.unread at.start at.end) r) w.reading at.reading in
    record {
      change = behind_head k at.end (head_is h);
      changes = next (behind_head k at.end (head_is h)) (at.start, at.end, head_is h, at.piece, read, refl);
      answers = refl;
      parts = head_parts setting before parse m h w at.end at.body_start;
      since = refl;
    }
