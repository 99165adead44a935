-- Sample requests and answers, for worked examples.
use Rattle.std.specs.Prelude.{◌≡◌, ℕ, Bool, false, List, [], ◌∷◌, codes}
use Rattle.model_h1.specs.Request.{Head}
use Rattle.model_h1.specs.Answer.{AnswerHead, BodySize, size_of}
use Rattle.model_h1.specs.Event as on
use Rattle.model_h1.specs.Sums.{Step}
use Rattle.model_h1.specs.Laws.Exchanges.{AnswerGiven}
use Rattle.model_h1.specs.Laws.ExampleTraces.{step, ok, usual, get_head}
use Rattle.model_client.specs.WrittenHead.{line_of}
use Rattle.model_ends.specs.PlainExchange.{IsSelfFramed, is_complete}

-- HEAD of `/`
abbrev pub head_head : Head
head_head = record get_head { method = codes "HEAD" }

-- 204 and 304
abbrev pub no_content : AnswerHead
no_content = record ok { status = 204 }

abbrev pub not_modified : AnswerHead
not_modified = record ok { status = 304 }

-- a 304 that tells the length of what wasn't modified
abbrev pub not_modified_with_length : AnswerHead
not_modified_with_length = record not_modified { headers = line_of (codes "content-length") (codes "5") ∷ [] }

-- an answer at the first moment, of whose body these pieces came, and whether it was ended
abbrev pub given : AnswerHead → BodySize → List (List ℕ) → Bool → AnswerGiven
given head size pieces is_ended =
    record { answered = record { head = head; size = size; drained = false }; moment = 0; pieces = pieces; is_ended = is_ended }

-- it says where it ends, and it is whole or under way
abbrev pub IsPlainAnswer : Head → AnswerGiven → Bool → Type 0
IsPlainAnswer h a is_whole = IsSelfFramed usual h a × (is_complete h a ≡ is_whole)

-- ---- a trace

-- a request from its bytes to those of its answer, the newest step first
abbrev pub get_trace : List Step
get_trace =
    step (on.write 200) (on.gave (codes "HTTP/1.1 200 OK\r\ncontent-length: 0\r\ndate: Thu, 01 Jan 1970 00:00:00 GMT\r\n\r\n"))
    ∷ step (on.answer ok (size_of 0)) on.done
    ∷ step on.next (on.head get_head)
    ∷ step (on.read (codes "GET / HTTP/1.1\r\nhost: a\r\n\r\n")) (on.took 27)
    ∷ step (on.tick 0) on.done ∷ []
