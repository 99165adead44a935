-- What was given to a server, and what is read of its answers.
use Rattle.std.proofs.Common.{◌≡◌, ℕ, List, ◌++◌, map, flat_map, sym, ap, ◌∙◌, subst, append_assoc}
use Rattle.std.specs.List.{AllByRecursion}
use Rattle.model_h1.specs.Setting.{Setting}
use Rattle.model_h1.specs.Handed.{Begins}
use Rattle.model_h1.specs.Parse.{Input, Message, IsParse}
use Rattle.model_client.specs.AnswerParse.{AnswerMessage, is_interim, AreAnswersIn}
use Rattle.model_client.specs.ClientKept.{ClientKept}
use Rattle.model_client.specs.ClientTrace.{IsClientTrace, written}
use Rattle.model_client.proofs.Written.{is_text}
use Rattle.model_client.specs.Parsed.{received_of, ReadsPrefix}
use Rattle.model_client.proofs.AllHappened.{all_is_parsed}
use Rattle.model_ends.specs.SentRequest.{sent_request, AreBegunServed}
use Rattle.model_proxy.specs.Forward.{Sent, forwarded, forward}
use Rattle.model_proxy.specs.SentWhole.{IsSentWhole}
use Rattle.model_proxy.proofs.SentRequests.{forwarded_so_far}
use Rattle.model_proxy.specs.Happenings.{Link, text_sent, methods_sent, IsLink}

pub given_and_waiting : (setting : Setting) (l : Link) (k : ClientKept) → IsLink setting l → IsClientTrace setting l.happened k
    → written l.happened ++ k.buffered ≡ text_sent l.sent
given_and_waiting setting l k x trace = (is_text setting l.happened k trace).text ∙ x.text

pub given_begins : (setting : Setting) (l : Link) → IsLink setting l → Begins (written l.happened) (text_sent l.sent)
given_begins setting l x = (x.kept.buffered, sym (given_and_waiting setting l x.kept x x.driven))

pub given_is_read : (setting : Setting) (l : Link) (i : Input) (more : List ℕ) (ss : List Sent) (ms : List Message) → IsLink setting l
    → i.bytes ≡ written l.happened → AllByRecursion (IsSentWhole i.hold_size) ss → text_sent l.sent ++ more ≡ flat_map forward ss
    → IsParse i ms → AreBegunServed i 0 ms (map (λ s. sent_request (forwarded s)) ss)
given_is_read setting l i more ss ms x is all same parse =
    let rest = x.kept.buffered in
    forwarded_so_far i (rest ++ more) ss ms all
    (sym (append_assoc i.bytes rest more) ∙ ap (λ b. (b ++ rest) ++ more) is
    ∙ ap (λ t. t ++ more) (given_and_waiting setting l x.kept x x.driven) ∙ same) parse

pub read_to_their_own : (setting : Setting) (l : Link) (parse : List AnswerMessage) → IsLink setting l
    → AreAnswersIn is_interim (received_of setting l.happened) (methods_sent l.sent) parse → ReadsPrefix setting l.happened parse
read_to_their_own setting l parse x are =
    all_is_parsed setting l.happened x.kept parse x.driven
    (subst (λ (ms : List (List ℕ)). AreAnswersIn is_interim (received_of setting l.happened) ms parse) (sym x.asked) are)
