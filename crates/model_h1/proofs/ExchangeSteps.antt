-- The text of a trace is that of its exchanges: what each step adds to both.
use Rattle.std.proofs.Common.{◌≡◌, ℕ, Bool, true, false, List, [], ◌∷◌, ◌++◌, Option, Some, None, is_some, refl, sym, ap, ap₂, ◌∙◌, subst, subst₂, inl, inr, append_assoc, append-nil}
use Rattle.std.specs.Prelude.{drop, All, option_to_list}
use Rattle.std.specs.List.{list_any}
use Rattle.std.specs.Option.{option_or}
use Rattle.std.proofs.lemmas.Bool.{true≢false, cases_Bool}
use Rattle.std.proofs.lemmas.List.Elements.{All-nil, All-cons}
use Rattle.model_h1.specs.Request.{Head}
use Rattle.model_h1.specs.Setting.{Setting}
use Rattle.model_h1.specs.Event.{Event, Outcome}
use Rattle.model_h1.specs.Event as on
use Rattle.model_h1.specs.Sums.{Step, request, answered_by, answered, answer_len, chunk_len, accepted_limit, accepted, head_of, is_continue, completes, had_continue, is_open, is_draining}
use Rattle.model_h1.specs.Closing.{told}
use Rattle.model_h1.specs.Text.{step_text, text}
use Rattle.model_h1.specs.Allowed.{waits_for_answer}
use Rattle.model_h1.specs.Laws.Exchanges.{Reply, is_whole, Exchange, exchange_text, begun, changed_by, newest_changed, with_head, exchanges_behind, exchanges_text, Refusal, too_slow, refusal_text, refused_by, answers, answer_in, answers_in}
use Rattle.model_h1.proofs.StepLemmas.{step, accepted-cons, since_head-more, since_head-head, complete-head}
use Rattle.model_h1.proofs.ClosingLemmas.{answered_still, since_still}
use Rattle.model_h1.proofs.WrittenLemmas.{text-cons}
use Rattle.model_h1.proofs.HandedTrace.{request-more, request-head, told-more}
use Rattle.model_h1.proofs.HandedHeads.{is_done}
use Rattle.model_h1.proofs.ExchangeTexts.{exchanges_text-cons, newest_grows, reply_grows, told_grows}
use Rattle.model_h1.proofs.ExchangeReplies.{ReplyIs, whole_reply, reply_still, free_reply, Grown}

-- ---- what the exchanges know of their trace

-- the newest exchange is that of the last head
pub record Newest (trace : List Step) (e : Exchange) : Type 0 where
  pub asked : request trace ≡ Some e.head
  pub told_is : had_continue trace ≡ e.was_told
  pub reply_is : ReplyIs trace e.reply

-- or there was no head yet
abbrev pub NewestIs : List Step → List Exchange → Type 0
NewestIs trace [] = (request trace ≡ None) × (accepted trace ≡ None) × (answered trace ≡ None)
NewestIs trace (e ∷ es) = Newest trace e

-- The trace's text is that of the exchanges and of the refusal, behind which the connection closes. No head was
-- handed out before a refusal for slowness, the answers are those that were handed in, and each but the newest is whole.
pub record Spoken (setting : Setting) (trace : List Step) (es : List Exchange) (r : Option Refusal) : Type 0 where
  pub says : text setting trace ≡ exchanges_text setting es ++ refusal_text r
  pub refused : is_some (told trace) ≡ false → r ≡ None
  pub slow : (moment : ℕ) → r ≡ Some (too_slow moment) → es ≡ []
  pub newest : NewestIs trace es
  pub has : answers_in es ≡ answers trace
  pub whole : All (λ e. is_whole e.reply ≡ true) (drop 1 es)

-- the same behind one more step
abbrev pub Goes : Setting → List Step → Event → Outcome → List Exchange → Option Refusal → Type 0
Goes setting before event outcome es r =
    Spoken setting (step event outcome ∷ before) (exchanges_behind before event outcome es) (option_or r (refused_by before event outcome))

-- ---- sums of one more step

-- the answers
answers-cons : (s : Step) (before : List Step)
    → answers (s ∷ before) ≡ option_to_list (answered_by s.event (is_draining before)) ++ answers before
unfolding answers
answers-cons s before = refl

-- the refusal with none behind it
or_none : (r : Option Refusal) → option_or r None ≡ r
or_none None = refl
or_none (Some r) = refl

-- nothing is refused for slowness where nothing is
no_refusal : (moment : ℕ) (P : Type 0) → None ≡ Some (too_slow moment) → P
no_refusal moment P x = absurd (none_is x)
  where
    none_is : None ≡ Some (too_slow moment) → ⊥
    none_is x = cc

-- what wasn't told now wasn't before
untold_before : (s : Step) (before : List Step) → is_some (told (s ∷ before)) ≡ false → is_some (told before) ≡ false
untold_before s before none = elim (cases_Bool (is_some (told before))) [
  | inl some ↦ absurd (true≢false (sym (told-more s before some) ∙ none))
  | inr still ↦ still
]

-- ---- steps that leave the exchanges

-- The step hands out no head, accepts nothing, is no answer and no piece of one, tells nobody to go on, and leaves the
-- exchange of the last head.
pub record Leaves (before : List Step) (s : Step) : Type 0 where
  pub head : head_of s.outcome ≡ None
  pub plain : accepted_limit s.event s.outcome ≡ None
  pub answer : (drained : Bool) → answered_by s.event drained ≡ None
  pub chunk : chunk_len s.event ≡ 0
  pub send_continue : is_continue s.event ≡ false
  pub complete : completes s.event ≡ false
  pub change : (e : Exchange) → changed_by before s.event s.outcome e ≡ e

-- a change of nothing
unchanged : (change : Exchange → Exchange) (es : List Exchange) → ((e : Exchange) → change e ≡ e) → newest_changed change es ≡ es
unchanged change [] same = refl
unchanged change (e ∷ es) same = ap (λ n. n ∷ es) (same e)

-- the exchanges stay
leaves_exchanges : (before : List Step) (s : Step) (es : List Exchange) → Leaves before s → exchanges_behind before s.event s.outcome es ≡ es
leaves_exchanges before s es x =
    ap (λ (h : Option Head). with_head h (newest_changed (changed_by before s.event s.outcome) es)) x.head
    ∙ unchanged (changed_by before s.event s.outcome) es x.change

-- and know as much
leaves_newest : (before : List Step) (s : Step) (es : List Exchange) → Leaves before s → NewestIs before es → NewestIs (s ∷ before) es
leaves_newest before s [] x n = (
  request-more s before x.head ∙ n.0,
  accepted-cons s before ∙ ap (λ (o : Option ℕ). option_or o (accepted before)) x.plain ∙ n.1,
  answered_still s before x.head x.answer ∙ n.2,
)
leaves_newest before s (e ∷ es) x n = record {
  asked = request-more s before x.head ∙ n.asked;
  told_is = since_still is_continue s before x.head x.send_continue ∙ n.told_is;
  reply_is = reply_still s before e.reply x.head x.plain x.answer x.chunk x.complete n.reply_is;
}

-- and the answers
leaves_answers : (before : List Step) (s : Step) (es : List Exchange) → Leaves before s → answers_in es ≡ answers before
    → answers_in es ≡ answers (s ∷ before)
leaves_answers before s es x has =
    has ∙ ap (λ o. option_to_list o ++ answers before) (sym (x.answer (is_draining before))) ∙ sym (answers-cons s before)

-- a step that writes nothing
pub quiet_goes : (setting : Setting) (before : List Step) (event : Event) (outcome : Outcome) (es : List Exchange) (r : Option Refusal)
    → Leaves before (step event outcome) → step_text setting before event outcome ≡ [] → refused_by before event outcome ≡ None
    → Spoken setting before es r → Goes setting before event outcome es r
quiet_goes setting before event outcome es r x silent none spoken =
    let s = step event outcome in
    let same = leaves_exchanges before s es x in
    let still : option_or r (refused_by before event outcome) ≡ r = ap (option_or r) none ∙ or_none r in
    let now : Spoken setting (s ∷ before) es r = record {
      says = text-cons setting s before ∙ ap (λ t. text setting before ++ t) silent ∙ append-nil (text setting before) ∙ spoken.says;
      refused = λ untold. spoken.refused (untold_before s before untold);
      slow = spoken.slow;
      newest = leaves_newest before s es x spoken.newest;
      has = leaves_answers before s es x spoken.has;
      whole = spoken.whole;
    } in
    subst₂ (Spoken setting (s ∷ before)) (sym same) (sym still) now

-- a refusal
pub refusal_goes : (setting : Setting) (before : List Step) (event : Event) (outcome : Outcome) (es : List Exchange) (q : Refusal)
    → Leaves before (step event outcome) → step_text setting before event outcome ≡ refusal_text (Some q)
    → refused_by before event outcome ≡ Some q
    → is_some (told (step event outcome ∷ before)) ≡ true → ((moment : ℕ) → Some q ≡ Some (too_slow moment) → es ≡ [])
    → Spoken setting before es None → Goes setting before event outcome es None
refusal_goes setting before event outcome es q x says refuses tells slow spoken =
    let s = step event outcome in
    let same = leaves_exchanges before s es x in
    let now : Spoken setting (s ∷ before) es (Some q) = record {
      says = text-cons setting s before ∙ ap₂ (λ a b. a ++ b) (spoken.says ∙ append-nil (exchanges_text setting es)) says;
      refused = λ untold. absurd (true≢false (sym tells ∙ untold));
      slow = slow;
      newest = leaves_newest before s es x spoken.newest;
      has = leaves_answers before s es x spoken.has;
      whole = spoken.whole;
    } in
    subst₂ (Spoken setting (s ∷ before)) (sym same) (sym refuses) now

-- ---- steps that change the newest exchange

-- what was written grows as the newest exchange does
says_more : (setting : Setting) (s : Step) (before : List Step) (e new : Exchange) (es : List Exchange)
    → text setting before ≡ exchanges_text setting (e ∷ es) ++ []
    → exchange_text setting new ≡ exchange_text setting e ++ step_text setting before s.event s.outcome
    → text setting (s ∷ before) ≡ exchanges_text setting (new ∷ es) ++ []
says_more setting s before e new es says grows =
    let more = step_text setting before s.event s.outcome in
    text-cons setting s before ∙ ap (λ t. t ++ more) (says ∙ append-nil (exchanges_text setting (e ∷ es)))
    ∙ sym (newest_grows setting e new es more grows) ∙ sym (append-nil (exchanges_text setting (new ∷ es)))

-- a reply that changes
pub reply_goes : (setting : Setting) (s : Step) (before : List Step) (e : Exchange) (es : List Exchange) (reply : Reply)
    → head_of s.outcome ≡ None → is_continue s.event ≡ false → Grown setting before s e.head e.reply reply
    → Spoken setting before (e ∷ es) None → Spoken setting (s ∷ before) (record e { reply = reply } ∷ es) None
reply_goes setting s before e es reply none other g spoken =
    let given = option_to_list (answered_by s.event (is_draining before)) in
    record {
      says = says_more setting s before e (record e { reply = reply }) es spoken.says (reply_grows setting e reply _ g.grows);
      refused = λ untold. refl;
      slow = λ moment x. no_refusal moment _ x;
      newest = record {
        asked = request-more s before none ∙ spoken.newest.asked;
        told_is = since_still is_continue s before none other ∙ spoken.newest.told_is;
        reply_is = g.knows;
      };
      has = ap (λ l. l ++ answers_in es) g.adds ∙ append_assoc given (answer_in e.reply) (answers_in es)
          ∙ ap (λ l. given ++ l) spoken.has ∙ sym (answers-cons s before);
      whole = spoken.whole;
    }

-- a client that is told to go on
pub continue_goes : (setting : Setting) (before : List Step) (e : Exchange) (es : List Exchange) → waits_for_answer before ≡ true
    → had_continue before ≡ false → Spoken setting before (e ∷ es) None → Goes setting before on.send_continue on.done (e ∷ es) None
unfolding changed_by refused_by step_text
continue_goes setting before e es free untold spoken =
    let s = step on.send_continue on.done in
    let n = spoken.newest in
    let new : Exchange = record e { was_told = true } in
    let told_now : had_continue (s ∷ before) ≡ true = ap (list_any (λ t. is_continue t.event)) (since_head-more s before refl) in
    record {
      says = says_more setting s before e new es spoken.says
          (told_grows setting e (sym n.told_is ∙ untold) (free_reply before e.reply free n.reply_is));
      refused = λ untold. refl;
      slow = λ moment x. no_refusal moment _ x;
      newest = record {
        asked = request-more s before refl ∙ n.asked;
        told_is = told_now;
        reply_is = reply_still s before e.reply refl refl (λ d. refl) refl refl n.reply_is;
      };
      has = spoken.has ∙ sym (answers-cons s before);
      whole = spoken.whole;
    }

-- ---- a head

-- no limit
no_limit : (o : Option ℕ) → is_some o ≡ false → o ≡ None
no_limit None e = refl
no_limit (Some limit) e = absurd (true≢false e)

-- where a head is handed out, no WebSocket was accepted
not_upgraded : (before : List Step) (es : List Exchange) → is_open before ≡ false → NewestIs before es → accepted before ≡ None
not_upgraded before [] shut n = n.1
not_upgraded before (e ∷ es) shut n = no_limit (accepted before) (is_done before e.head n.asked shut).0

-- and the answers are whole
all_whole : (before : List Step) (es : List Exchange) → is_open before ≡ false → NewestIs before es
    → All (λ e. is_whole e.reply ≡ true) (drop 1 es) → All (λ e. is_whole e.reply ≡ true) es
all_whole before [] shut n older = All-nil (λ (e : Exchange). is_whole e.reply ≡ true)
all_whole before (e ∷ es) shut n older =
    All-cons (λ (x : Exchange). is_whole x.reply ≡ true) e es
    (sym (whole_reply before e.reply n.reply_is) ∙ (is_done before e.head n.asked shut).1) older

-- a head is handed out
pub head_goes : (setting : Setting) (before : List Step) (h : Head) (es : List Exchange) → is_open before ≡ false
    → Spoken setting before es None → Goes setting before on.next (on.head h) es None
unfolding changed_by refused_by step_text answered answer_len
head_goes setting before h es shut spoken =
    let s = step on.next (on.head h) in
    let same : newest_changed (changed_by before on.next (on.head h)) es ≡ es = unchanged (changed_by before on.next (on.head h)) es (λ e. refl) in
    let now : Spoken setting (s ∷ before) (begun h ∷ es) None = record {
      says = text-cons setting s before ∙ append-nil (text setting before) ∙ spoken.says
          ∙ ap (λ t. t ++ []) (sym (exchanges_text-cons setting (begun h) es ∙ append-nil (exchanges_text setting es)));
      refused = λ untold. refl;
      slow = λ moment x. no_refusal moment _ x;
      newest = record {
        asked = request-head s before h refl;
        told_is = ap (list_any (λ t. is_continue t.event)) (since_head-head s before h refl);
        reply_is = (
          refl,
          accepted-cons s before ∙ not_upgraded before es shut spoken.newest,
          refl,
          complete-head s before h refl,
        );
      };
      has = spoken.has ∙ sym (answers-cons s before);
      whole = all_whole before es shut spoken.newest spoken.whole;
    } in
    subst (λ l. Spoken setting (s ∷ before) (begun h ∷ l) None) (sym same) now
