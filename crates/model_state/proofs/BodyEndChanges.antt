-- The end of an answer's body: the answer is complete, and may be too short.
use Rattle.std.proofs.Common.{◌≡◌, ℕ, ◌-◌, Bool, true, false, List, ◌∷◌, ◌++◌, Option, Some, None, refl, sym, ap, ◌∙◌, inl, inr, arith, le-ltb, lt-ltb}
use Rattle.std.specs.Prelude.{◌&&◌, not, is_some, nat_lt}
use Rattle.std.specs.List.{list_any}
use Rattle.std.specs.Option.{option_or}
use Rattle.std.proofs.lemmas.Bool.{cond-true, cases_lt, false≢true}
use Rattle.model_h1.specs.Request.{Head}
use Rattle.model_h1.specs.Setting.{Setting}
use Rattle.model_h1.specs.Answer.{Asked, asked_of, Shape, shape_none, shape_chunked, shape_raw, shape_length, type_of}
use Rattle.model_h1.specs.AnswerText.{sent_end}
use Rattle.model_h1.specs.Parse.{Message}
use Rattle.model_h1.specs.End as ends
use Rattle.model_h1.specs.End.{End}
use Rattle.model_h1.specs.Event as on
use Rattle.model_h1.specs.Sums.{Step, is_body_error, is_body_end, request, Answered, answered as answer_of, is_complete, accepted, came_since_head, answer_len}
use Rattle.model_h1.specs.Past.{ParsedStep, steps}
use Rattle.model_h1.specs.Text.{end_sent, step_text, buffered}
use Rattle.model_h1.specs.Closing.{end_where, told, lacks_bytes, is_short, body_end_of}
use Rattle.model_h1.specs.OutcomeTable.{outcome_of}
use Rattle.model_h1.proofs.PastLemmas.{Legal}
use Rattle.model_h1.proofs.StepLemmas.{Quiet, allowed_open, complete-more}
use Rattle.model_h1.proofs.ClosingLemmas.{running}
use Rattle.model_h1.proofs.HandedTrace.{request-more}
use Rattle.model_state.specs.Kept.{sending, answered}
use Rattle.model_state.specs.Reply.{stated, short_end, ending_body}
use Rattle.model_state.specs.KeptOf.{reply_of, kept_of}
use Rattle.model_state.specs.Change.{doing_with}
use Rattle.model_state.proofs.Changes.{Changes}
use Rattle.model_state.proofs.Current.{Current, current_of}
use Rattle.model_state.proofs.Orderly.{orderly}
use Rattle.model_state.proofs.Parts.{none_answered}
use Rattle.model_state.proofs.StepSums.{told-cons, answered-more, answer_len-more, came-more, is_sending-cons, buffered-more}
use Rattle.model_state.proofs.QuietParts.{option_or-none}
use Rattle.model_state.proofs.StepForms.{made, at_step, with_exchange, both_none, untold}
use Rattle.model_state.proofs.ExchangeChanges.{going_out, shape_by, with_reply, kept_sending}
use Rattle.model_state.proofs.CompleteParts.{Completes, kept-completes, completing_since}

-- ---- an answer that is too short

-- bytes are missing of a stated length
missing_same : (n len : ℕ) → nat_lt len n ≡ nat_lt 0 (n - len)
missing_same n len = elim (cases_lt len n) [
  | inl short ↦ lt-ltb len n short ∙ sym (lt-ltb 0 (n - len) (omega arith))
  | inr whole ↦ le-ltb len n whole ∙ sym (le-ltb 0 (n - len) (omega arith))
]

-- nothing where nothing is missing
no_end : (b : Bool) (end : End) → end_where (b && false) end ≡ None
no_end true end = refl
no_end false end = refl

-- the end that a short body tells
short_same : (asked : Asked) (shape : Shape) (len : ℕ)
    → end_where (not asked.is_head && lacks_bytes shape len) ends.body_short ≡ short_end asked shape (stated shape - len)
short_same asked shape_none len = no_end (not asked.is_head) ends.body_short
short_same asked shape_chunked len = no_end (not asked.is_head) ends.body_short
short_same asked shape_raw len = no_end (not asked.is_head) ends.body_short
short_same asked (shape_length n) len = ap (λ b. end_where (not asked.is_head && b) ends.body_short) (missing_same n len)

-- ---- the end of a body

-- its outcome
end_done : (setting : Setting) (before : List ParsedStep) → outcome_of setting before on.body_end ≡ on.done
unfolding outcome_of
end_done setting before = refl

-- its text
end_text_is : (setting : Setting) (before : List Step) → step_text setting before on.body_end on.done ≡ end_sent (request before) (answer_of before)
unfolding step_text
end_text_is setting before = refl

-- what was accepted is no request that was answered
answered_plain : (setting : Setting) (past : List ParsedStep) (a : Answered) → Legal setting past → answer_of (steps past) ≡ Some a
    → accepted (steps past) ≡ None
answered_plain setting past a l e = go (accepted (steps past)) refl
  where
    go : (o : Option ℕ) → accepted (steps past) ≡ o → o ≡ None
    go None same = refl
    go (Some limit) same =
        let w = (orderly setting past l).upgraded (ap is_some same) in
        absurd (false≢true (sym (ap is_some w.unanswered) ∙ ap is_some e))

-- the end that is told behind the step
end_told : (setting : Setting) (before : List ParsedStep) (parse : List Message) (h : Head) (a : Answered) → told (steps before) ≡ None
    → body_end_of (steps before) ≡ None
    → request (steps before) ≡ Some h → answer_of (steps before) ≡ Some a
    → option_or (told ((made on.body_end on.done parse).step ∷ steps before)) (body_end_of ((made on.body_end on.done parse).step ∷ steps before))
    ≡ short_end (asked_of h) (shape_by h a) (stated (shape_by h a) - answer_len (steps before))
end_told setting before parse h a quiet whole request_is answer_is =
    let t = steps before in
    let s = (made on.body_end on.done parse).step in
    let told_is : told (s ∷ t) ≡ None = told-cons s t ∙ quiet in
    let failed : end_where (list_any (λ s. is_body_error s.event) t) ends.body ≡ None = (both_none _ _ whole).0 in
    let came : came_since_head is_body_end (s ∷ t) ≡ true = came-more is_body_end s t refl in
    let head : request (s ∷ t) ≡ Some h = request-more s t refl ∙ request_is in
    let answer : answer_of (s ∷ t) ≡ Some a = answered-more s t refl ∙ answer_is in
    let len : answer_len (s ∷ t) ≡ answer_len t = omega (arith, answer_len-more s t refl) in
    (λ i. option_or (told_is i) (option_or (failed i) (end_where (came i && is_short (head i) (answer i) (len i)) ends.body_short)))
    ∙ short_same (asked_of h) (shape_by h a) (answer_len t)

-- the last request, whose answer is going out
end_known : (setting : Setting) (before : List ParsedStep) (parse : List Message) (m : Message) (h : Head) (a : Answered)
    → Legal setting (made on.body_end on.done parse ∷ before) → Current setting before m h → answer_of (steps before) ≡ Some a
    → is_complete (steps before) ≡ false
    → Changes setting before (made on.body_end on.done parse)
end_known setting before parse m h a l c answer_is incomplete =
    let t = steps before in
    let x = made on.body_end on.done parse in
    let k = kept_of setting before in
    let shape = shape_by h a in
    let kind = type_of setting a.drained (asked_of h) a.head a.size in
    let missing = stated shape - answer_len t in
    let old = with_reply setting before m h a missing in
    let text = k.buffered ++ sent_end (asked_of h) shape in
    let short = short_end (asked_of h) shape missing in
    let none = untold setting before (running setting before on.body_end refl l.1) in
    let end = option_or short k.failed in
    let alone : end ≡ short = ap (option_or short) (λ i. option_or (none.0 i) (none.1 i)) ∙ option_or-none short in
    let put = record k { buffered = text; failed = end; exchange = Some old } in
    let q : Quiet before x.step = record { taken = refl; eof = refl; accepted = refl; pull = refl; head = refl; bytes = refl; frames = refl } in
    let s : Completes before x = record { quiet = q; completes = refl; tick = refl; drain = refl; drop = refl; send_continue = refl; over = refl } in
    let complete : is_complete (x.step ∷ t) ≡ true = complete-more x.step t refl in
    let answer : answer_of (x.step ∷ t) ≡ Some a = answered-more x.step t refl ∙ answer_is in
    let reply : reply_of setting (x.step ∷ t) h (answer_of (x.step ∷ t)) ≡ answered kind =
    ap (reply_of setting (x.step ∷ t) h) answer
    ∙ cond-true (is_complete (x.step ∷ t)) (answered kind) (sending shape kind (stated shape - answer_len (x.step ∷ t))) complete in
    let request_is = c.request_is in
    let buffer : buffered setting (x.step ∷ t) ≡ text =
    buffered-more setting x.step before l.3 refl
    ∙ ap (λ l. k.buffered ++ l) (end_text_is setting t ∙ (λ i. end_sent (request_is i) (answer_is i))) in
    let told_is = end_told setting before parse h a none.0 none.1 c.request_is answer_is ∙ sym alone in
    record {
      change = doing_with ending_body (with_exchange k (Some old));
      changes = ap (doing_with ending_body) (sym (kept_sending setting before m h a c answer_is incomplete));
      answers = refl;
      parts = kept-completes setting x before m h kind old.reply text end l s c incomplete (answered_plain setting before a l.3 answer_is) reply buffer
          (is_sending-cons x.step t) told_is;
      since = completing_since kind old put;
    }

-- its step
end_made : (setting : Setting) (before : List ParsedStep) (parse : List Message) → Legal setting (made on.body_end on.done parse ∷ before)
    → Changes setting before (made on.body_end on.done parse)
end_made setting before parse l =
    let out = going_out (steps before) (allowed_open setting before on.body_end refl l.1) in
    elim (current_of setting before l.3) [
      | inl none ↦ absurd (false≢true (sym (none_answered setting before l.3 none) ∙ ap is_some out.0.1))
      | inr (m, h, c) ↦ end_known setting before parse m h out.0.0 l c out.0.1 out.1
    ]

-- what it changes
pub body_end_changes : (setting : Setting) (before : List ParsedStep) (x : ParsedStep) → Legal setting (x ∷ before) → x.step.event ≡ on.body_end
    → Changes setting before x
body_end_changes setting before x l e = at_step setting before x on.body_end on.done l e (end_done setting before) (end_made setting before)
