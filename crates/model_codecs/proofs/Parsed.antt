-- A codec gives the beginning of the parse.
use Rattle.std.proofs.Common.{◌≡◌, inl, inr, ℕ, ◌<◌, Bool, false, List, [], ◌++◌, length, replicate, sym, ◌∙◌, subst, append-nil, append_assoc}
use Rattle.std.specs.Prelude.{Option}
use Rattle.model_h1.specs.Request.{Fault}
use Rattle.model_h1.specs.Parse.{Message, IsParse}
use Rattle.model_client.specs.AnswerParse.{AnswerMessage, counts_each, AreAnswersIn}
use Rattle.h1_decoder.specs.declared.decoder.HeadItem.{HeadItem}
use Rattle.h1_decoder.specs.declared.response.ResponseItem.{ResponseItem}
use Rattle.h1_codec.specs.Kind.{Kind, IsOneReading}
use Rattle.h1_codec.specs.Kinds.{requests, answers}
use Rattle.h1_codec.specs.OneReading.{one_request, one_answer}
use Rattle.h1_codec.specs.FramedMessages.{Part, nothing, Standing}
use Rattle.model_codecs.specs.Acts.{Act, bytes_came, told, IsRun}
use Rattle.model_codecs.specs.Answers.{is_head}
use Rattle.model_codecs.specs.Requests.{IsFresh}
use Rattle.model_codecs.specs.Heard.{heard, refusal, heard_answers, answer_refusal, IsIdle, AreAllOf, IsCauseOf, AreGivenOf}
use Rattle.model_codecs.proofs.ParseHeard.{all_so_far, messages_heard}
use Rattle.model_codecs.proofs.AnswersHeard.{received, answers_heard}
use Rattle.model_codecs.proofs.Stuck.{causes_map}
use Rattle.model_codecs.proofs.HeardItems.{between, Gives, CauseFrom}
use Rattle.model_codecs.proofs.HeardRuns.{run_gives}

module _ {I : Type 0} (k : Kind I) (one : IsOneReading k) (is_bare : Bool) (limit : ℕ) (hs : List (k.Head × Part)) (stop : Option Fault) (acts : List (Act I)) (rest : List ℕ) where
  all_of : (front : List (k.Head × Part)) → hs ≡ front ++ [] → AreAllOf k is_bare limit (told acts nothing).messages front
      → AreAllOf k is_bare limit (told acts nothing).messages hs
  all_of front are all = subst (AreAllOf k is_bare limit (told acts nothing).messages) (sym (are ∙ append-nil front)) all

  -- in the words of the laws
  given_so : (more : List ℕ) → Gives k one is_bare limit rest (between hs stop) acts more → AreGivenOf k is_bare limit hs stop acts more rest
  given_so more x =
      let t = told acts nothing in
      record {
        messages = t.messages;
        are = λ i. record { part = x.first.0 i; messages = t.messages; stop = x.stop i };
        first = x.first.1;
        causes = causes_map (CauseFrom k one is_bare limit rest (between hs stop) t) (λ e. IsCauseOf k is_bare limit rest e t.messages hs stop) acts
            (λ error why. elim why [
              | inl y ↦ inl (all_of y.0.0 y.0.2 y.0.3, y.1)
              | inr y ↦ inr (y.0.1.0, y.0.0, y.0.1.2, y.0.1.3, y.0.2, y.1)
            ])
            x.causes;
        all = λ none waiting. let y = x.all none waiting in (all_of y.0.0 y.0.2 y.0.3, y.1, y.2);
      }

pub parse_given : (limit : ℕ) (standing last : Standing) (acts : List (Act HeadItem)) (more rest : List ℕ) (ms : List Message) → IsFresh standing limit
    → IsRun requests false standing [] acts last rest → IsParse (all_so_far (bytes_came acts ++ more) limit) ms
    → AreGivenOf requests false limit (heard (bytes_came acts ++ more) ms) (refusal ms) acts more rest
parse_given limit standing last acts more rest ms fresh run parse =
    let bytes = bytes_came acts ++ more in
    given_so requests one_request false limit (heard bytes ms) (refusal ms) acts rest more
    (run_gives requests one_request false limit acts (between (heard bytes ms) (refusal ms)) standing [] more last rest
    (fresh.body, fresh.limit_is, fresh.seen, messages_heard bytes limit 0 ms parse) run)

pub answers_given : (limit : ℕ) (method : List ℕ) (standing last : Standing) (left : List ℕ) (acts : List (Act ResponseItem)) (more rest : List ℕ) (count : ℕ)
    (ms : List AnswerMessage) → IsIdle standing limit left → IsRun answers (is_head method) standing left acts last rest → length ms < count
    → AreAnswersIn counts_each (received (left ++ (bytes_came acts ++ more)) limit method) (replicate count method) ms
    → AreGivenOf answers (is_head method) limit (heard_answers (is_head method) (left ++ (bytes_came acts ++ more)) ms) (answer_refusal ms) acts more rest
answers_given limit method standing last left acts more rest count ms idle run few parse =
    let bytes = left ++ (bytes_came acts ++ more) in
    given_so answers one_answer (is_head method) limit (heard_answers (is_head method) bytes ms) (answer_refusal ms) acts rest more
    (run_gives answers one_answer (is_head method) limit acts (between (heard_answers (is_head method) bytes ms) (answer_refusal ms)) standing left more last rest
    (idle.body, idle.limit_is, idle.seen, answers_heard bytes limit method 0 count ms few parse) run)
