-- What a reply knows of its trace, and what one more step makes of it.
use Rattle.std.proofs.Common.{◌≡◌, ℕ, Bool, true, false, List, [], ◌∷◌, ◌++◌, Option, Some, None, is_some, is_none, refl, sym, ap, ◌∙◌, subst}
use Rattle.std.specs.Prelude.{◌+◌, length, option_to_list, ◌||◌}
use Rattle.std.specs.Option.{option_or}
use Rattle.std.proofs.lemmas.Bool.{and_parts, or_parts, or_right, not-true, true≢false, false≢true}
use Rattle.model_h1.specs.Request.{Head}
use Rattle.model_h1.specs.Setting.{Setting}
use Rattle.model_h1.specs.Answer.{AnswerHead, BodySize, is_at_once}
use Rattle.model_h1.specs.Frame.{Message}
use Rattle.model_h1.specs.Event as on
use Rattle.model_h1.specs.Sums.{Step, Answered, request, answered_by, answered, answer_len, chunk_len, accepted_limit, accepted, is_upgraded, head_of, completes, is_complete, is_answering, is_draining, now}
use Rattle.model_h1.specs.Text.{step_text, answer_text, chunk_sent, end_sent, accept_text}
use Rattle.model_h1.specs.Allowed.{waits_for_answer}
use Rattle.model_h1.specs.Laws.Exchanges.{AnswerGiven, Reply, no_reply, answer_given, session, reply_text, newly_given, with_piece, with_end, with_sent, is_whole, answer_in}
use Rattle.model_h1.proofs.StepLemmas.{step, accepted-cons, complete-more}
use Rattle.model_h1.proofs.ClosingLemmas.{answered_still, len_still}
use Rattle.model_h1.proofs.ExchangeTexts.{given_grows, session_grows, pieces_len, pieces_len-more, piece_grows, end_grows, sent_grows}

-- ---- what a reply knows

-- The trace has the answer and so many bytes of its body, and is complete where the reply is whole; or it has no answer,
-- and a WebSocket or not.
abbrev pub ReplyIs : List Step → Reply → Type 0
ReplyIs trace no_reply = (answered trace ≡ None) × (accepted trace ≡ None) × (answer_len trace ≡ 0) × (is_complete trace ≡ false)
ReplyIs trace (answer_given a) =
    (answered trace ≡ Some a.answered) × (accepted trace ≡ None) × (answer_len trace ≡ pieces_len a.pieces)
    × (is_complete trace ≡ is_whole (answer_given a))
ReplyIs trace (session s) = (answered trace ≡ None) × (is_upgraded trace ≡ true) × (is_complete trace ≡ false)

-- the trace is complete where the reply is whole
pub whole_reply : (trace : List Step) (reply : Reply) → ReplyIs trace reply → is_complete trace ≡ is_whole reply
whole_reply trace no_reply x = x.3
whole_reply trace (answer_given a) x = x.3
whole_reply trace (session s) x = x.2

-- a step that completes nothing
complete_still : (s : Step) (before : List Step) → head_of s.outcome ≡ None → completes s.event ≡ false
    → is_complete (s ∷ before) ≡ is_complete before
complete_still s before none other = complete-more s before none ∙ ap (λ b. b || is_complete before) other

-- an answer that isn't complete isn't ended
unended : (trace : List Step) (a : AnswerGiven) → ReplyIs trace (answer_given a) → is_complete trace ≡ false → a.is_ended ≡ false
unended trace a x going = (or_parts (is_at_once a.answered.size) a.is_ended (sym x.3 ∙ going)).1

-- the protocol stays
accepted_still : (s : Step) (before : List Step) → accepted_limit s.event s.outcome ≡ None → accepted (s ∷ before) ≡ accepted before
accepted_still s before none = accepted-cons s before ∙ ap (λ (o : Option ℕ). option_or o (accepted before)) none

-- a step that is no answer, no piece or end of a body, no head and accepts nothing leaves the reply
pub reply_still : (s : Step) (before : List Step) (reply : Reply) → head_of s.outcome ≡ None → accepted_limit s.event s.outcome ≡ None
    → ((drained : Bool) → answered_by s.event drained ≡ None) → chunk_len s.event ≡ 0 → completes s.event ≡ false
    → ReplyIs before reply → ReplyIs (s ∷ before) reply
reply_still s before no_reply none plain other no_chunk no_end x = (
  answered_still s before none other ∙ x.0,
  accepted_still s before plain ∙ x.1,
  len_still s before none no_chunk ∙ x.2,
  complete_still s before none no_end ∙ x.3,
)
reply_still s before (answer_given a) none plain other no_chunk no_end x = (
  answered_still s before none other ∙ x.0,
  accepted_still s before plain ∙ x.1,
  len_still s before none no_chunk ∙ x.2,
  complete_still s before none no_end ∙ x.3,
)
reply_still s before (session w) none plain other no_chunk no_end x = (
  answered_still s before none other ∙ x.0,
  ap is_some (accepted_still s before plain) ∙ x.1,
  complete_still s before none no_end ∙ x.2,
)

-- ---- which reply there is

-- where no answer was handed in and no WebSocket was accepted
pub free_reply : (trace : List Step) (reply : Reply) → waits_for_answer trace ≡ true → ReplyIs trace reply → reply ≡ no_reply
free_reply trace no_reply free x = refl
free_reply trace (answer_given a) free x =
    absurd (false≢true (sym (ap is_none x.0) ∙ (and_parts _ _ (and_parts _ _ free).0).1))
free_reply trace (session s) free x = absurd (true≢false (sym x.1 ∙ not-true _ (and_parts _ _ free).1))

-- ---- a reply that changes

-- The step writes what the new reply has more than the old one, and adds its answer, if it is one.
pub record Grown (setting : Setting) (before : List Step) (s : Step) (h : Head) (old new : Reply) : Type 0 where
  pub grows : reply_text setting h new ≡ reply_text setting h old ++ step_text setting before s.event s.outcome
  pub knows : ReplyIs (s ∷ before) new
  pub adds : answer_in new ≡ option_to_list (answered_by s.event (is_draining before)) ++ answer_in old

-- the reply that is none
abbrev KnowsNone : List Step → Type 0
KnowsNone trace = ReplyIs trace no_reply

-- an answer
pub answer_grown : (setting : Setting) (before : List Step) (head : AnswerHead) (size : BodySize) (h : Head) (reply : Reply)
    → request before ≡ Some h → waits_for_answer before ≡ true → ReplyIs before reply
    → Grown setting before (step (on.answer head size) on.done) h reply
    (newly_given (record { head = head; size = size; drained = is_draining before }) (now before))
unfolding step_text answered
answer_grown setting before head size h reply asked free x =
    let s = step (on.answer head size) on.done in
    let none = free_reply before reply free x in
    let knows : KnowsNone before = subst (ReplyIs before) none x in
    let a : Answered = record { head = head; size = size; drained = is_draining before } in
    record {
      grows = given_grows setting h reply a (now before) none
          ∙ ap (λ (o : Option Head). reply_text setting h reply ++ answer_text setting before head size o) (sym asked);
      knows = (
        refl,
        accepted_still s before refl ∙ knows.1,
        len_still s before refl refl ∙ knows.2,
        complete-more s before refl ∙ ap (λ b. is_at_once size || b) knows.3,
      );
      adds = ap (λ (r : Reply). a ∷ answer_in r) (sym none);
    }

-- a WebSocket
pub accept_grown : (setting : Setting) (before : List Step) (limit : ℕ) (h : Head) (reply : Reply)
    → request before ≡ Some h → waits_for_answer before ≡ true → ReplyIs before reply
    → Grown setting before (step (on.accept limit) on.done) h reply
    (session (record { drained = is_draining before; moment = now before; sent = [] }))
unfolding step_text
accept_grown setting before limit h reply asked free x =
    let s = step (on.accept limit) on.done in
    let none = free_reply before reply free x in
    let knows : KnowsNone before = subst (ReplyIs before) none x in
    record {
      grows = session_grows setting h reply (is_draining before) (now before) none
          ∙ ap (λ (o : Option Head). reply_text setting h reply ++ accept_text setting before o) (sym asked);
      knows = (
        answered_still s before refl (λ d. refl) ∙ knows.0,
        ap is_some (accepted-cons s before),
        complete_still s before refl refl ∙ knows.3,
      );
      adds = ap answer_in (sym none);
    }

-- a piece of the answer's body
pub piece_grown : (setting : Setting) (before : List Step) (bytes : List ℕ) (h : Head) (reply : Reply)
    → request before ≡ Some h → is_answering before ≡ true → ReplyIs before reply
    → Grown setting before (step (on.chunk bytes) on.done) h reply (with_piece bytes reply)
unfolding step_text answer_len
piece_grown setting before bytes h no_reply asked answering x =
    absurd (false≢true (sym (ap is_some x.0) ∙ (and_parts _ _ answering).0))
piece_grown setting before bytes h (session w) asked answering x =
    absurd (false≢true (sym (ap is_some x.0) ∙ (and_parts _ _ answering).0))
piece_grown setting before bytes h (answer_given a) asked answering x =
    let s = step (on.chunk bytes) on.done in
    let going = not-true _ (and_parts _ _ answering).1 in
    let sent : sent_of (Some h) (Some a.answered) (pieces_len a.pieces) ≡ sent_of (request before) (answered before) (answer_len before) =
    λ i. sent_of (sym asked i) (sym x.0 i) (sym x.2 i) in
    let more : answer_len (s ∷ before) ≡ pieces_len (a.pieces ++ bytes ∷ []) =
    ap (λ n. length bytes + n) x.2 ∙ sym (pieces_len-more a.pieces bytes) in
    record {
      grows = piece_grows setting h a bytes (unended before a x going) ∙ ap (λ (t : List ℕ). reply_text setting h (answer_given a) ++ t) sent;
      knows = (
        answered_still s before refl (λ d. refl) ∙ x.0,
        accepted_still s before refl ∙ x.1,
        more,
        complete_still s before refl refl ∙ x.3,
      );
      adds = refl;
    }
  where
    sent_of : Option Head → Option Answered → ℕ → List ℕ
    sent_of asked given len = chunk_sent len bytes asked given

-- the end of the answer's body
pub end_grown : (setting : Setting) (before : List Step) (h : Head) (reply : Reply)
    → request before ≡ Some h → is_answering before ≡ true → ReplyIs before reply
    → Grown setting before (step on.body_end on.done) h reply (with_end reply)
unfolding step_text
end_grown setting before h no_reply asked answering x =
    absurd (false≢true (sym (ap is_some x.0) ∙ (and_parts _ _ answering).0))
end_grown setting before h (session w) asked answering x =
    absurd (false≢true (sym (ap is_some x.0) ∙ (and_parts _ _ answering).0))
end_grown setting before h (answer_given a) asked answering x =
    let s = step on.body_end on.done in
    let going = not-true _ (and_parts _ _ answering).1 in
    let sent : end_sent (Some h) (Some a.answered) ≡ end_sent (request before) (answered before) =
    λ i. end_sent (sym asked i) (sym x.0 i) in
    record {
      grows = end_grows setting h a (unended before a x going) ∙ ap (λ (t : List ℕ). reply_text setting h (answer_given a) ++ t) sent;
      knows = (
        answered_still s before refl (λ d. refl) ∙ x.0,
        accepted_still s before refl ∙ x.1,
        len_still s before refl refl ∙ x.2,
        complete-more s before refl ∙ sym (or_right (is_at_once a.answered.size) true refl),
      );
      adds = refl;
    }

-- a message that is sent
pub sent_grown : (setting : Setting) (before : List Step) (m : Message) (h : Head) (reply : Reply) → is_upgraded before ≡ true
    → ReplyIs before reply → Grown setting before (step (on.send m) on.done) h reply (with_sent m reply)
unfolding step_text
sent_grown setting before m h no_reply up x = absurd (false≢true (sym (ap is_some x.1) ∙ up))
sent_grown setting before m h (answer_given a) up x = absurd (false≢true (sym (ap is_some x.1) ∙ up))
sent_grown setting before m h (session w) up x =
    let s = step (on.send m) on.done in
    record {
      grows = sent_grows setting h w m;
      knows = (
        answered_still s before refl (λ d. refl) ∙ x.0,
        ap is_some (accepted_still s before refl) ∙ x.1,
        complete_still s before refl refl ∙ x.2,
      );
      adds = refl;
    }
