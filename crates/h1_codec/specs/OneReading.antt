-- A piece is read in one way, as a request's head and as an answer's.
use Rattle.std.proofs.Common.{◌≡◌, refl, sym, ap, ◌∙◌}
use Rattle.model_h1.specs.Request as model
use Rattle.model_h1.proofs.ReadingLemmas.{reading_unique}
use Rattle.model_client.specs.AnswerReading.{Answer, AnswerReading, answer_is, refused}
use Rattle.model_client.proofs.AnswerLemmas.{answer_reading_unique}
use Rattle.h1_codec.specs.Kind.{Reading, says_head, says_fault, IsOneReading}
use Rattle.h1_codec.specs.Kinds.{request_reading, requests, answer_reading, answers}

-- a request's reading is all that there is of it
abbrev from_request : model.Reading → Reading model.Head
from_request (model.head_is h) = says_head h
from_request (model.faulty f) = says_fault f

request_back : (a : Reading model.Head) → from_request (request_reading a) ≡ a
request_back (says_head h) = refl
request_back (says_fault f) = refl

pub one_request : IsOneReading requests
one_request piece a b x y =
    sym (request_back a) ∙ ap from_request (reading_unique piece (request_reading a) (request_reading b) x y) ∙ request_back b

abbrev from_answer : AnswerReading → Reading Answer
from_answer (answer_is a) = says_head a
from_answer (refused f) = says_fault f

answer_back : (a : Reading Answer) → from_answer (answer_reading a) ≡ a
answer_back (says_head h) = refl
answer_back (says_fault f) = refl

pub one_answer : IsOneReading answers
one_answer piece a b x y =
    sym (answer_back a) ∙ ap from_answer (answer_reading_unique piece (answer_reading a) (answer_reading b) x y) ∙ answer_back b
