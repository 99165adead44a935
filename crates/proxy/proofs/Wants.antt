-- Which answers the client's connection wants after a call.
use Rattle.std.proofs.Common.{◌≡◌, ℕ, true, false, List, Some, refl, sym, ap, ◌∙◌, subst}
use Rattle.std.specs.Prelude.{IsTrue, bytes_eq, codes, ◌==◌}
use Rattle.std.proofs.lemmas.Bool.{false≢true}
use Rattle.http_config.specs.Config.{Settings}
use Rattle.model_h1.specs.Event as on
use Rattle.model_h1.specs.Answer.{asked_of, AnswerHead, BodySize}
use Rattle.model_h1.specs.Request.{Head}
use Rattle.model_state.specs.Local.{allowed_by}
use Rattle.h1_payload.specs.Rests.{SaysPulled}
use Rattle.h1_payload.specs.declared.pulled.Pulled.{Pulled}
use Rattle.http_types.specs.Version.{is_below_http11}
use Rattle.h1_decoder.specs.HeadItem.{SaysHead}
use Rattle.h1_decoder.specs.declared.decoder.HeadItem.{HeadItem}
use Rattle.h1_connection.specs.EventMeaning.{setting_of}
use Rattle.h1_connection.specs.Heads.{SaysNext}
use Rattle.h1_connection.specs.State.{State, GoesOn, Is}
use Rattle.h1_connection.specs.declared.connection.heads.NextHead.{NextHead}
use Rattle.h1_connection.specs.declared.connection.heads.NextHead.TheVariants as next
use Rattle.model_proxy.specs.Wants as wanted
use Rattle.model_proxy.proofs.Wants.{others_want, pull_wants, next_wants, answer_wants, waited, end_wants, cut_wants, continue_tells, no_answer, no_end, no_continue}
use Rattle.h1_client.proofs.AfterLemmas.{old_minor}
use Rattle.proxy.specs.Wants.{IsAnswered, IsComplete, IsWaitedFor, IsAnswering, IsTold, WantsTheSame, Wants, WantsNext, HasHead, HasEnd, TellsToContinue}
use Rattle.proxy.proofs.Sides.{stepped}

-- by the settings that stay
answered_as : (a b : State) → b.settings ≡ a.settings → wanted.IsAnswered (setting_of a.settings) b.kept → IsAnswered b
answered_as a b settings x = subst (λ (s : Settings). wanted.IsAnswered (setting_of s) b.kept) (sym settings) x

complete_as : (a b : State) → b.settings ≡ a.settings → wanted.IsComplete (setting_of a.settings) b.kept → IsComplete b
complete_as a b settings x = subst (λ (s : Settings). wanted.IsComplete (setting_of s) b.kept) (sym settings) x

waited_as : (a b : State) → b.settings ≡ a.settings → wanted.IsWaitedFor (setting_of a.settings) b.kept → IsWaitedFor b
waited_as a b settings x = subst (λ (s : Settings). wanted.IsWaitedFor (setting_of s) b.kept) (sym settings) x

answering_as : (a b : State) → b.settings ≡ a.settings → wanted.IsAnswering (setting_of a.settings) b.kept → IsAnswering b
answering_as a b settings x = subst (λ (s : Settings). wanted.IsAnswering (setting_of s) b.kept) (sym settings) x

told_as : (a b : State) → b.settings ≡ a.settings → wanted.IsTold (setting_of a.settings) b.kept → IsTold b
told_as a b settings x = subst (λ (s : Settings). wanted.IsTold (setting_of s) b.kept) (sym settings) x

same_as : (a b : State) → b.settings ≡ a.settings → wanted.WantsTheSame (setting_of a.settings) a.kept b.kept → WantsTheSame a b
same_as a b settings x = record {
  answered = λ old. answered_as a b settings (x.answered old);
  complete = λ old. complete_as a b settings (x.complete old);
  waited = λ old. waited_as a b settings (x.waited old);
  answering = λ old. answering_as a b settings (x.answering old);
  asked = x.asked;
  told = λ old. told_as a b settings (x.told old);
}

pub wants_same : (a : State) → WantsTheSame a a
wants_same a = record { answered = λ x. x; complete = λ x. x; waited = λ x. x; answering = λ x. x; asked = λ is_head x. x; told = λ x. x }

pub client_wants : (a : State) (event : on.Event) (o : on.Outcome) (b : State) → b.settings ≡ a.settings → GoesOn a event (Is o) b
    → wanted.AnswersNothing event → IsTrue (allowed_by (setting_of a.settings) a.kept event) → Wants WantsTheSame a b
client_wants a event o b settings one asks allowed = λ trace stands.
    let s = one trace stands in
    same_as a b settings
    (others_want (setting_of a.settings) a.kept b.kept trace event o asks allowed stands (stepped a b event o s.0 trace settings s.1 s.3))

pub pulled_wants : (n : Pulled) (a b : State) → b.settings ≡ a.settings → GoesOn a on.pull (SaysPulled n) b
    → IsTrue (allowed_by (setting_of a.settings) a.kept on.drop_body) → Wants WantsTheSame a b
pulled_wants n a b settings one allowed = λ trace stands.
    let s = one trace stands in
    same_as a b settings
    (pull_wants (setting_of a.settings) a.kept b.kept trace s.0 allowed stands (stepped a b on.pull s.0 s.0 trace settings refl s.3))

-- what an item says has one method
same_mark : (item : HeadItem) (h g : Head) → SaysHead item h → SaysHead item g → (asked_of h).is_head ≡ (asked_of g).is_head
same_mark item h g x y = ap (λ (m : List ℕ). bytes_eq m (codes "HEAD")) (sym x.method ∙ y.method)

-- and one version
pub age_of : (item : HeadItem) (h : Head) → SaysHead item h → is_below_http11 item.head.version ≡ (h.minor == 0)
age_of item h x = ap is_below_http11 x.version ∙ old_minor h.minor

same_age : (item : HeadItem) (h g : Head) → SaysHead item h → SaysHead item g → (h.minor == 0) ≡ (g.minor == 0)
same_age item h g x y = sym (age_of item h x) ∙ age_of item g y

pub head_wants : (n : NextHead) (a b : State) → b.settings ≡ a.settings → GoesOn a on.next (SaysNext n) b
    → IsTrue (allowed_by (setting_of a.settings) a.kept on.next) → Wants (WantsNext n) a b
head_wants (next.Head item) a b settings one allowed = λ trace stands.
    let s = one trace stands in
    let x = next_wants (setting_of a.settings) a.kept b.kept trace (on.head s.1.0) allowed stands (stepped a b on.next (on.head s.1.0) s.0 trace settings s.1.2 s.3) in (
      complete_as a b settings x.0,
      waited_as a b settings x.1,
      λ h says. x.2 ∙ ap Some (same_mark item s.1.0 h s.1.1 says),
      λ h says old. told_as a b settings (x.3 (same_age item s.1.0 h s.1.1 says ∙ old)),
    )
head_wants next.Pending a b settings one allowed = λ trace stands.
    let s = one trace stands in
    same_as a b settings
    (next_wants (setting_of a.settings) a.kept b.kept trace on.pending allowed stands (stepped a b on.next on.pending s.0 trace settings s.1 s.3))
head_wants (next.Fault fault) a b settings one allowed = λ trace stands.
    let s = one trace stands in
    same_as a b settings
    (next_wants (setting_of a.settings) a.kept b.kept trace (on.fault _) allowed stands (stepped a b on.next (on.fault _) s.0 trace settings s.1 s.3))
head_wants (next.Closed end) a b settings one allowed = λ trace stands.
    let s = one trace stands in
    same_as a b settings
    (next_wants (setting_of a.settings) a.kept b.kept trace (on.closed _) allowed stands (stepped a b on.next (on.closed _) s.0 trace settings s.1 s.3))

pub same_next : (n : NextHead) (a : State) → n ≡ next.Pending → WantsNext n a a
same_next n a is = subst (λ (n : NextHead). WantsNext n a a) (sym is) (wants_same a)

-- ---- an answer

pub has_head : (head : AnswerHead) (size : BodySize) (a b : State) → b.settings ≡ a.settings → GoesOn a (on.answer head size) (Is on.done) b
    → allowed_by (setting_of a.settings) a.kept (on.answer head size) ≡ true → Wants (HasHead size) a b
has_head head size a b settings one allowed = λ trace stands.
    let s = one trace stands in
    let x = answer_wants (setting_of a.settings) a.kept b.kept trace head size on.done stands
    (stepped a b (on.answer head size) on.done s.0 trace settings s.1 s.3) in
    record {
      answered = λ runs. x.0;
      complete = λ once old runs. x.1 once;
      answering = λ more old runs. x.2 (waited (setting_of a.settings) a.kept head size allowed) more;
      asked = x.3;
      told = λ old. told_as a b settings (x.4 allowed old);
    }

pub head_not_wanted : (head : AnswerHead) (size : BodySize) (a : State) → allowed_by (setting_of a.settings) a.kept (on.answer head size) ≡ false
    → HasHead size a a
head_not_wanted head size a none =
    let gone = no_answer (setting_of a.settings) a.kept head size none in
    record {
      answered = gone;
      complete = λ once x. x;
      answering = λ more old runs. absurd (false≢true (sym (gone runs) ∙ old runs));
      asked = λ is_head x. x;
      told = λ x. x;
    }

pub has_end : (a b : State) → b.settings ≡ a.settings → GoesOn a on.body_end (Is on.done) b
    → IsTrue (allowed_by (setting_of a.settings) a.kept on.body_end) → Wants HasEnd a b
has_end a b settings one allowed = λ trace stands.
    let s = one trace stands in
    let x = end_wants (setting_of a.settings) a.kept b.kept trace on.done allowed stands (stepped a b on.body_end on.done s.0 trace settings s.1 s.3) in
    record {
      answered = λ old. answered_as a b settings (x.0.answered old);
      complete = λ runs. x.1;
      asked = x.0.asked;
      told = λ old. told_as a b settings (x.0.told old);
    }

pub end_not_wanted : (a : State) → allowed_by (setting_of a.settings) a.kept on.body_end ≡ false → HasEnd a a
end_not_wanted a none = record { answered = λ x. x; complete = no_end (setting_of a.settings) a.kept none; asked = λ is_head x. x; told = λ x. x }

pub was_cut : (a b : State) → b.settings ≡ a.settings → GoesOn a on.body_error (Is on.done) b → Wants HasEnd a b
was_cut a b settings one = λ trace stands.
    let s = one trace stands in
    let stops = cut_wants (setting_of a.settings) a.kept b.kept trace on.done stands (stepped a b on.body_error on.done s.0 trace settings s.1 s.3) in
    record {
      answered = λ old. answered_as a b settings (λ runs. absurd (stops.0 runs));
      complete = complete_as a b settings (λ runs. absurd (stops.0 runs));
      asked = stops.1;
      told = λ old. told_as a b settings (λ runs. absurd (stops.0 runs));
    }

-- ---- the word to go on

pub continue_told : (a b : State) → b.settings ≡ a.settings → GoesOn a on.send_continue (Is on.done) b → Wants TellsToContinue a b
continue_told a b settings one = λ trace stands waited.
    let s = one trace stands in
    told_as a b settings
    (continue_tells (setting_of a.settings) a.kept b.kept trace on.done stands (stepped a b on.send_continue on.done s.0 trace settings s.1 s.3))

pub continue_not_wanted : (a : State) → allowed_by (setting_of a.settings) a.kept on.send_continue ≡ false → TellsToContinue a a
continue_not_wanted a none = no_continue (setting_of a.settings) a.kept none
