-- What a server was given is the beginning of what was sent on.
use Rattle.std.proofs.Common.{◌≡◌, ℕ, ◌<◌, ◌+◌, Bool, true, false, eqb, List, ◌++◌, length, map, flat_map, sym, ap, ◌∙◌, append_assoc, Option, Some, None}
use Rattle.std.specs.List.{AllByRecursion}
use Rattle.model_h1.specs.Handed.{Begins}
use Rattle.model_h1.specs.Setting.{Setting}
use Rattle.model_h1.specs.Sums.{Step}
use Rattle.model_h1.specs.Parse.{Input, Message, IsParse}
use Rattle.model_ends.specs.SentRequest.{sent_request, AreBegunServed}
use Rattle.model_proxy.specs.Edge.{Edge}
use Rattle.model_proxy.specs.Forward.{Sent, forwarded, forward}
use Rattle.model_proxy.specs.SentWhole.{IsSentWhole}
use Rattle.model_proxy.specs.Past.{ProxyStep, servers, server_at}
use Rattle.model_proxy.specs.Exchange.{Exchange, sent_on}
use Rattle.model_proxy.specs.Forwarding.{IsGiven, IsForwarding}
use Rattle.model_proxy.proofs.SoFar.{so_far}
use Rattle.model_proxy.proofs.SentRequests.{forwarded_so_far}

pub given_begins : (waiting : Option (List ℕ)) (is_newest : Bool) (given text : List ℕ) → IsGiven waiting is_newest given text → Begins given text
given_begins None is_newest given text x = x
given_begins (Some rest) false given text x = x
given_begins (Some rest) true given text x = (rest, sym x)

pub given_are_read : (edge : Edge) (setting : Setting) (history : List ProxyStep) (waiting : Option (List ℕ)) (trace : List Step) (xs : List Exchange) (k : ℕ) (i : Input)
    (more : List ℕ) (ss : List Sent) (ms : List Message) → IsForwarding edge setting history waiting trace xs → k < length (servers history)
    → i.bytes ≡ (server_at k history).given → AllByRecursion (IsSentWhole i.hold_size) ss → flat_map forward (sent_on edge history k xs) ++ more ≡ flat_map forward ss
    → IsParse i ms → AreBegunServed i 0 ms (map (λ s. sent_request (forwarded s)) ss)
given_are_read edge setting history waiting trace xs k i more ss ms x there is all same parse =
    let text = flat_map forward (sent_on edge history k xs) in
    let begins = given_begins waiting (eqb (k + 1) (length (servers history))) (server_at k history).given text ((so_far edge setting history waiting trace xs x).towards k there) in
    forwarded_so_far i (begins.0 ++ more) ss ms all
    (sym (append_assoc i.bytes begins.0 more) ∙ ap (λ b. (b ++ begins.0) ++ more) is ∙ ap (λ t. t ++ more) (sym begins.1) ∙ same) parse
