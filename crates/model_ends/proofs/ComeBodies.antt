-- Where a further request was handed out, the answer before it had all bytes of the length that it states: an answer that is
-- ended short closes its connection.
use Rattle.std.proofs.Common.{◌≡◌, ℕ, ◌+◌, ◌≤◌, Bool, true, false, not, cond, eqb, ◌||◌, ◌&&◌, List, [], ◌∷◌, length, drop, All, Option, Some, None, refl, sym, ap, ◌∙◌, subst, inl, inr, arith, length-append, ltb-false}
use Rattle.std.specs.Prelude.{bytes_eq, codes, ⊤}
use Rattle.std.specs.List.{AllByRecursion, list_any}
use Rattle.std.specs.Option.{option_or}
use Rattle.std.proofs.lemmas.Bool.{false≢true}
use Rattle.std.proofs.lemmas.List.Elements.{All-head, All-tail}
use Rattle.model_h1.specs.Request.{Head}
use Rattle.model_h1.specs.Setting.{Setting}
use Rattle.model_h1.specs.Frame as frames
use Rattle.model_h1.specs.Answer.{AnswerHead, Asked, asked_of, BodySize, size_none, size_of, size_stream, is_at_once, Shape, shape_none, shape_length, switching_shape, sized_shape, shape_of, is_bodiless}
use Rattle.model_h1.specs.Event.{Event, Outcome}
use Rattle.model_h1.specs.Event as on
use Rattle.model_h1.specs.End.{End}
use Rattle.model_h1.specs.Sums.{Step, head_of, request, answered, answer_len, came_since_head, is_body_end}
use Rattle.model_h1.specs.Past.{ParsedStep, steps}
use Rattle.model_h1.specs.Closing.{end_where, lacks_bytes, is_short, body_end_of, closing}
use Rattle.model_h1.specs.OutcomeTable.{next_outcome, outcome_of}
use Rattle.model_h1.specs.Trace.{IsTrace}
use Rattle.model_h1.specs.Laws.Exchanges.{Reply, no_reply, answer_given, session, is_whole, Exchange, with_piece, with_end, with_sent, changed_by, newest_changed, with_head, exchanges}
use Rattle.model_h1.proofs.StepLemmas.{since_head-more}
use Rattle.model_h1.proofs.HeldSteps.{headless_or_begins}
use Rattle.model_h1.proofs.PastLemmas.{Legal, legal_of}
use Rattle.model_h1.proofs.PastExistence.{past_exists}
use Rattle.model_h1.proofs.ExchangeReplies.{ReplyIs}
use Rattle.model_h1.proofs.ExchangeTexts.{pieces_len}
use Rattle.model_h1.proofs.ExchangeSteps.{Newest, NewestIs}
use Rattle.model_h1.proofs.ExchangeTraces.{spoken}
use Rattle.model_client.specs.RequestText.{joined}
use Rattle.model_ends.specs.PlainExchange.{given_shape}

-- as many bytes came as the answer states, if it states a length and isn't one to HEAD
abbrev pub HasCome : Exchange → Type 0
HasCome e = by_reply e.reply
  where
    by_reply : Reply → Type 0
    by_reply (answer_given a) = bytes_eq e.head.method (codes "HEAD") ≡ false → (n : ℕ) → given_shape e.head a ≡ shape_length n → n ≤ length (joined a.pieces)
    by_reply _ = ⊤

-- ---- an answer is ended by an event

-- the answer was ended since its request
abbrev IsEnded : List Step → Reply → Type 0
IsEnded trace (answer_given a) = a.is_ended ≡ true → came_since_head is_body_end trace ≡ true
IsEnded trace _ = ⊤

came_more : (s : Step) (before : List Step) → head_of s.outcome ≡ None
    → came_since_head is_body_end (s ∷ before) ≡ (is_body_end s.event || came_since_head is_body_end before)
came_more s before none = ap (list_any (λ t. is_body_end t.event)) (since_head-more s before none)

later : (a b : Bool) → b ≡ true → (a || b) ≡ true
later true b is = refl
later false b is = is

stays_ended : (s : Step) (before : List Step) (r : Reply) → head_of s.outcome ≡ None → IsEnded before r → IsEnded (s ∷ before) r
stays_ended s before no_reply none x = tt
stays_ended s before (answer_given a) none x = λ ended. came_more s before none ∙ later (is_body_end s.event) (came_since_head is_body_end before) (x ended)
stays_ended s before (session k) none x = tt

piece_ended : (trace : List Step) (bytes : List ℕ) (r : Reply) → IsEnded trace r → IsEnded trace (with_piece bytes r)
piece_ended trace bytes no_reply x = tt
piece_ended trace bytes (answer_given a) x = x
piece_ended trace bytes (session k) x = tt

sent_ended : (trace : List Step) (m : frames.Message) (r : Reply) → IsEnded trace r → IsEnded trace (with_sent m r)
sent_ended trace m no_reply x = tt
sent_ended trace m (answer_given a) x = x
sent_ended trace m (session k) x = tt

end_ended : (trace : List Step) (r : Reply) → came_since_head is_body_end trace ≡ true → IsEnded trace (with_end r)
end_ended trace no_reply came = tt
end_ended trace (answer_given a) came = λ ended. came
end_ended trace (session k) came = tt

abbrev step : Event → Outcome → Step
step event outcome = record { event = event; outcome = outcome }

changed_ended : (before : List Step) (event : Event) (outcome : Outcome) (e : Exchange) → head_of outcome ≡ None → IsEnded before e.reply
    → IsEnded (step event outcome ∷ before) (changed_by before event outcome e).reply
unfolding changed_by
changed_ended before on.send_continue on.done e none x = stays_ended (step on.send_continue on.done) before e.reply none x
changed_ended before (on.answer head size) on.done e none x = λ ended. absurd (false≢true ended)
changed_ended before (on.chunk bytes) on.done e none x =
    piece_ended (step (on.chunk bytes) on.done ∷ before) bytes e.reply (stays_ended (step (on.chunk bytes) on.done) before e.reply none x)
changed_ended before on.body_end on.done e none x = end_ended (step on.body_end on.done ∷ before) e.reply (came_more (step on.body_end on.done) before none)
changed_ended before (on.accept limit) on.done e none x = tt
changed_ended before (on.send m) on.done e none x =
    sent_ended (step (on.send m) on.done ∷ before) m e.reply (stays_ended (step (on.send m) on.done) before e.reply none x)
changed_ended before event outcome e none x = stays_ended (step event outcome) before e.reply none x

-- of the newest exchange
abbrev NewestEnded : List Step → List Exchange → Type 0
NewestEnded trace [] = ⊤
NewestEnded trace (e ∷ es) = IsEnded trace e.reply

step_ended : (s : Step) (before : List Step) (h : Option Head) (es : List Exchange) → head_of s.outcome ≡ h → NewestEnded before es
    → NewestEnded (s ∷ before) (with_head h (newest_changed (changed_by before s.event s.outcome) es))
step_ended s before None [] none x = tt
step_ended s before None (e ∷ es) none x = changed_ended before s.event s.outcome e none x
step_ended s before (Some h) es some x = tt

end_came : (trace : List Step) → NewestEnded trace (exchanges trace)
unfolding exchanges
end_came [] = tt
end_came (s ∷ before) = step_ended s before (head_of s.outcome) (exchanges before) refl (end_came before)

-- ---- an answer that isn't short

joined_len : (pieces : List (List ℕ)) → pieces_len pieces ≡ length (joined pieces)
joined_len [] = refl
joined_len (p ∷ ps) = ap (λ n. length p + n) (joined_len ps) ∙ sym (length-append p (joined ps))

-- only a size above 0 states a length
not_at_once : (asked : Asked) (answer : AnswerHead) (size : BodySize) (t u : Bool) (n : ℕ)
    → cond t (switching_shape size) (cond u shape_none (sized_shape asked answer size)) ≡ shape_length n → is_at_once size ≡ false
not_at_once asked answer size_stream t u n e = refl
not_at_once asked answer size_none true u n e = cc
not_at_once asked answer size_none false true n e = cc
not_at_once asked answer size_none false false n e = cc
not_at_once asked answer (size_of m) true u n e = cc
not_at_once asked answer (size_of m) false true n e = cc
not_at_once asked answer (size_of m) false false n e = by_test (eqb m 0) e
  where
    by_test : (t : Bool) → cond t shape_none (shape_length m) ≡ shape_length n → t ≡ false
    by_test true x = cc
    by_test false x = refl

-- no reason is there where the whole is none
no_end : (a : Option End) (y : Bool) (end : End) → option_or a (end_where y end) ≡ None → y ≡ false
no_end None false end e = refl
no_end None true end e = cc
no_end (Some a) y end e = cc

no_second : (a b rest : Option End) → option_or a (option_or b rest) ≡ None → b ≡ None
no_second None None rest e = refl
no_second None (Some b) rest e = cc
no_second (Some a) b rest e = cc

second_false : (a b : Bool) → a ≡ true → (a && b) ≡ false → b ≡ false
second_false true b is e = e
second_false false b is e = absurd (false≢true is)

not_lacking : (t : Bool) (s : Shape) (len n : ℕ) → t ≡ false → s ≡ shape_length n → (not t && lacks_bytes s len) ≡ false → n ≤ len
not_lacking t s len n get is e =
    ltb-false len n (sym (λ i. not (get i) && lacks_bytes (is i) len) ∙ e)

has_come : (trace : List Step) (e : Exchange) → Newest trace e → IsEnded trace e.reply → is_whole e.reply ≡ true → body_end_of trace ≡ None → HasCome e
has_come trace e n ended whole runs = by_reply e.reply n.reply_is ended whole
  where
    by_reply : (r : Reply) → ReplyIs trace r → IsEnded trace r → is_whole r ≡ true
        → HasCome (record { head = e.head; was_told = e.was_told; reply = r })
    by_reply no_reply x ended whole = tt
    by_reply (session s) x ended whole = tt
    by_reply (answer_given a) x ended whole = λ get m shape.
        let at_once = not_at_once (asked_of e.head) a.answered.head a.answered.size (eqb a.answered.head.status 101) (is_bodiless a.answered.head.status) m shape in
        let came = ended (sym (ap (λ t. t || a.is_ended) at_once) ∙ whole) in
        let short : is_short (request trace) (answered trace) (answer_len trace) ≡ false =
        second_false (came_since_head is_body_end trace) (is_short (request trace) (answered trace) (answer_len trace)) came (no_end _ _ _ runs) in
        let mine : is_short (Some e.head) (Some a.answered) (pieces_len a.pieces) ≡ false = sym (λ i. is_short (n.asked i) (x.0 i) (x.2 i)) ∙ short in
        let enough = not_lacking (bytes_eq e.head.method (codes "HEAD")) (shape_of (asked_of e.head) a.answered.head a.answered.size) (pieces_len a.pieces) m get shape mine in
        omega (arith, enough, joined_len a.pieces)

-- ---- a trace

-- a head is handed out only where the connection doesn't close
not_closed : (setting : Setting) (past : List ParsedStep) (end : Option End) (h : Head) → next_outcome setting past end ≡ on.head h → end ≡ None
not_closed setting past None h e = refl
not_closed setting past (Some end) h e = cc

still_running : (setting : Setting) (past : List ParsedStep) (h : Head) → outcome_of setting past on.next ≡ on.head h → body_end_of (steps past) ≡ None
unfolding outcome_of closing
still_running setting past h e = no_second _ (body_end_of (steps past)) _ (not_closed setting past (closing setting past) h e)

-- the older exchanges, where no head came
older_still : (P : Exchange → Type 0) (change : Exchange → Exchange) (es : List Exchange) → AllByRecursion P (drop 1 es) → AllByRecursion P (drop 1 (newest_changed change es))
older_still P change [] x = x
older_still P change (e ∷ es) x = x

older_back : (P : Exchange → Type 0) (change : Exchange → Exchange) (es : List Exchange) → All P (drop 1 (newest_changed change es)) → All P (drop 1 es)
older_back P change [] x = x
older_back P change (e ∷ es) x = x

-- and where one came, after which the newest is older
newly_older : (setting : Setting) (past : List ParsedStep) (h : Head) (es : List Exchange) → NewestIs (steps past) es → NewestEnded (steps past) es
    → body_end_of (steps past) ≡ None → All (λ e. is_whole e.reply ≡ true) es → AllByRecursion HasCome (drop 1 es) → AllByRecursion HasCome es
newly_older setting past h [] n ended runs whole x = tt
newly_older setting past h (e ∷ es) n ended runs whole x =
    (has_come (steps past) e n ended (All-head (λ k. is_whole k.reply ≡ true) e es whole) runs, x)

-- a head changes no exchange
unchanged : (trace : List Step) (h : Head) (es : List Exchange) → newest_changed (changed_by trace on.next (on.head h)) es ≡ es
unfolding changed_by
unchanged trace h [] = refl
unchanged trace h (e ∷ es) = refl

come_before : (setting : Setting) (past : List ParsedStep) → Legal setting past → IsTrace setting (steps past) → All (λ e. is_whole e.reply ≡ true) (drop 1 (exchanges (steps past)))
    → AllByRecursion HasCome (drop 1 (exchanges (steps past)))
unfolding exchanges
come_before setting [] l traced whole = tt
come_before setting (m ∷ before) l traced whole = elim (headless_or_begins setting before m l) [
  | inl none ↦ by_head (λ w. come_before setting before l.3 traced.2 w) (head_of m.step.outcome) none whole
  | inr b ↦
      let trace = steps before in
      let es = exchanges trace in
      let same : newest_changed (changed_by trace m.step.event m.step.outcome) es ≡ es = (λ i. newest_changed (changed_by trace (b.event i) (b.outcome i)) es) ∙ unchanged trace b.head es in
      let head : head_of m.step.outcome ≡ Some b.head = ap head_of b.outcome in
      let is : drop 1 (with_head (head_of m.step.outcome) (newest_changed (changed_by trace m.step.event m.step.outcome) es)) ≡ es =
      ap (λ h. drop 1 (with_head h (newest_changed (changed_by trace m.step.event m.step.outcome) es))) head ∙ same in
      let all = subst (All (λ e. is_whole e.reply ≡ true)) is whole in
      let outcome : outcome_of setting before on.next ≡ on.head b.head = ap (outcome_of setting before) (sym b.event) ∙ sym l.2 ∙ b.outcome in
      subst (AllByRecursion HasCome) (sym is)
      (newly_older setting before b.head es (spoken setting trace traced.2).newest (end_came trace) (still_running setting before b.head outcome) all
      (come_before setting before l.3 traced.2 (tail_all es all)))
]
  where
    tail_all : (es : List Exchange) → All (λ e. is_whole e.reply ≡ true) es → All (λ e. is_whole e.reply ≡ true) (drop 1 es)
    tail_all [] x = x
    tail_all (e ∷ es) x = All-tail (λ k. is_whole k.reply ≡ true) e es x

    by_head : (All (λ e. is_whole e.reply ≡ true) (drop 1 (exchanges (steps before))) → AllByRecursion HasCome (drop 1 (exchanges (steps before))))
        → (h : Option Head) → h ≡ None → All (λ e. is_whole e.reply ≡ true) (drop 1 (with_head h (newest_changed (changed_by (steps before) m.step.event m.step.outcome) (exchanges (steps before)))))
        → AllByRecursion HasCome (drop 1 (with_head h (newest_changed (changed_by (steps before) m.step.event m.step.outcome) (exchanges (steps before)))))
    by_head earlier (Some h) none whole = cc
    by_head earlier None none whole =
        older_still HasCome (changed_by (steps before) m.step.event m.step.outcome) (exchanges (steps before))
        (earlier (older_back (λ e. is_whole e.reply ≡ true) (changed_by (steps before) m.step.event m.step.outcome) (exchanges (steps before)) whole))

-- all answers of a trace but the newest have come
pub trace_come : (setting : Setting) (trace : List Step) → IsTrace setting trace → AllByRecursion HasCome (drop 1 (exchanges trace))
trace_come setting trace x =
    let past = past_exists setting trace in
    let same = past.1.same in
    subst (λ t. AllByRecursion HasCome (drop 1 (exchanges t))) same
    (come_before setting past.0 (legal_of setting trace past.0 x past.1) (subst (IsTrace setting) (sym same) x)
    (subst (λ t. All (λ e. is_whole e.reply ≡ true) (drop 1 (exchanges t))) (sym same) (spoken setting trace x).whole))
