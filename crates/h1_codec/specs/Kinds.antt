-- The kinds of heads that there are.
use Rattle.model_h1.specs.Request as model
use Rattle.model_h1.specs.RequestHead.{IsReading}
use Rattle.model_client.specs.AnswerReading.{Answer, AnswerReading, answer_is, refused, IsAnswerReading}
use Rattle.h1_decoder.specs.AnswerRefusal.{RefusesAnswer}
use Rattle.h1_decoder.specs.HeadItem.{SaysHead}
use Rattle.h1_decoder.specs.Refusal.{Refuses}
use Rattle.h1_decoder.specs.ResponseItem.{SaysAnswer}
use Rattle.h1_decoder.specs.declared.decoder.HeadItem.{HeadItem}
use Rattle.h1_decoder.specs.declared.response.ResponseItem.{ResponseItem}
use Rattle.h1_codec.specs.Kind.{Reading, says_head, says_fault, Kind}

-- a reading as a request's head
abbrev pub request_reading : Reading model.Head → model.Reading
request_reading (says_head h) = model.head_is h
request_reading (says_fault fault) = model.faulty fault

-- heads of requests
abbrev pub requests : Kind HeadItem
requests = record {
  Head = model.Head;
  reads = λ piece reading. IsReading piece (request_reading reading);
  says = SaysHead;
  body = λ h. h.body;
  refuses = Refuses;
}

-- a reading as an answer's head
abbrev pub answer_reading : Reading Answer → AnswerReading
answer_reading (says_head a) = answer_is a
answer_reading (says_fault fault) = refused fault

-- heads of answers: the body is what the lines frame, as after a request other than HEAD
abbrev pub answers : Kind ResponseItem
answers = record {
  Head = Answer;
  reads = λ piece reading. IsAnswerReading piece (answer_reading reading);
  says = SaysAnswer;
  body = λ a. a.body;
  refuses = RefusesAnswer;
}
