-- A client and a server of one connection, and when they agree.
use Rattle.std.specs.Prelude.{◌≡◌, ◌<◌, Bool, true, false, List, [], map, reverse, Some, ⊤}
use Rattle.std.specs.List.{AllByRecursion}
use Rattle.model_h1.specs.Setting.{Setting}
use Rattle.model_h1.specs.End as ends
use Rattle.model_h1.specs.Event as on
use Rattle.model_h1.specs.Sums.{Step, taken, has_ended, request, answered, written as server_written}
use Rattle.model_h1.specs.Closing.{asked_by}
use Rattle.model_h1.specs.Handed.{handed_out, Begins}
use Rattle.model_h1.specs.Trace.{IsTrace}
use Rattle.model_h1.specs.Laws.Exchanges.{exchanges}
use Rattle.model_client.specs.AnswerParse.{is_interim}
use Rattle.model_client.specs.ClientEvent.{ClientEnd, broken_answer, failed_request, asked as was_asked, input_ended}
use Rattle.model_client.specs.ClientKept.{ClientKept}
use Rattle.model_client.specs.ClientStep.{is_ambiguous}
use Rattle.model_client.specs.ClientTrace.{Happened, IsClientTrace, requests_of, written as client_written}
use Rattle.model_ends.specs.PlainExchange.{IsPlain}
use Rattle.model_ends.specs.SentAnswer.{AreHeld, AreTo, answers_sent}
use Rattle.model_ends.specs.AskedTrace.{requests_asked, IsPlainAsked, AreServedOut}
use Rattle.model_client.specs.ReadOut.{read_out}
use Rattle.model_ends.specs.ReadOut.{bytes_taken, AreReadOut}

-- All that happened to both, each in its own order: they were driven against each other in any way in which each took a
-- beginning of the bytes that the other had written, in any pieces. What the client keeps after it is kept.
pub record AreConnected (client server : Setting) (asked : List Happened) (kept : ClientKept) (served : List Step) : Type 0 where
  pub client_ran : IsClientTrace client asked kept
  pub server_ran : IsTrace server served
  pub to_server : Begins (taken served) (client_written asked)
  pub to_client : Begins (bytes_taken asked) (server_written served)

-- no request was given up as too slow
abbrev pub IsInTime : List Step → Type 0
IsInTime served = AllByRecursion (λ s. ¬ (s.outcome ≡ on.expired ends.slow_request)) served

-- What is asked of both: they hold some bytes; the requests are plain, and their heads no longer than the server may hold;
-- so are the answers, with heads no longer than the client may hold; and none was given up as too slow.
pub record ArePlain (client server : Setting) (asked : List Happened) (served : List Step) : Type 0 where
  pub client_holds : 0 < client.hold_size
  pub server_holds : 0 < server.hold_size
  pub requests : AllByRecursion (IsPlainAsked server.hold_size) (requests_asked asked)
  pub answers : AllByRecursion (IsPlain server) (exchanges served)
  pub in_time : IsInTime served
  pub held : AreHeld (Some client.hold_size) (answers_sent server served)

-- What the server handed out are the client's requests, and what the client handed out are the server's answers: the first of
-- them, in their order, each with its head and with its body as far as it came. Each answer was sent to the first of the client's
-- requests that waits for one, so the client hands it out as that to its own request.
pub record Agree (server : Setting) (asked : List Happened) (kept : ClientKept) (served : List Step) : Type 0 where
  pub no_stray_item : (handed_out served).stray ≡ []
  pub requests : AreServedOut (has_ended served) (reverse (handed_out served).messages) (reverse (requests_asked asked))
  pub to : AreTo is_interim (map (λ w. w.method) (requests_of asked)) (answers_sent server served)
  pub no_stray_answer : (read_out asked).stray ≡ []
  pub answers : AreReadOut kept.has_ended (reverse (read_out asked).answers) (answers_sent server served)

-- no answer has lines by which other readers would frame it in another way, as those that a 304 has of its own may be
abbrev pub AreClear : Setting → List Step → Type 0
AreClear server served = AllByRecursion (λ s. is_ambiguous s.answer ≡ false) (answers_sent server served)

-- the answer to the newest request is one after which, as soon as it is complete, the server closes as it was asked to
abbrev pub EndsAsAsked : Setting → List Step → Type 0
EndsAsAsked server served = asked_by server (request served) (answered served) ≡ Some ends.asked

-- Why a client closes that finds nothing wrong: it was asked for, its own request failed, or its input has ended.
abbrev pub IsFairEnd : ClientEnd → Bool → Type 0
IsFairEnd was_asked has_ended = ⊤
IsFairEnd failed_request has_ended = ⊤
IsFairEnd broken_answer has_ended = has_ended ≡ true
IsFairEnd input_ended has_ended = has_ended ≡ true
IsFairEnd _ has_ended = ⊥
