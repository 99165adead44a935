-- What a client handed out of the answers that it read.
use Rattle.std.specs.Prelude.{List, [], ◌∷◌, ◌++◌}
use Rattle.model_h1.specs.Handed.{Item, item_bytes, item_trailers, item_end, item_fault}
use Rattle.model_client.specs.AnswerReading.{AnswerReading, answer_is, refused}
use Rattle.model_client.specs.ClientEvent as on
use Rattle.model_client.specs.ClientEvent.{ClientOutcome}
use Rattle.model_client.specs.ClientTrace.{Happened}

-- an answer's head, or what is wrong with it, and items of its body, in order
pub record ReadAnswer : Type 0 where
  pub reading : AnswerReading
  pub items : List Item

-- all that was handed out: items with no answer in front of them, and the answers, the newest first
pub record ReadOut : Type 0 where
  pub stray : List Item
  pub answers : List ReadAnswer

abbrev pub nothing_read : ReadOut
nothing_read = record { stray = []; answers = [] }

-- an answer of whose body nothing was handed out yet
abbrev pub newly_read : AnswerReading → ReadAnswer
newly_read reading = record { reading = reading; items = [] }

-- a further answer
abbrev pub with_answer : AnswerReading → ReadOut → ReadOut
with_answer reading out = record out { answers = newly_read reading ∷ out.answers }

-- a further item, of the newest answer
abbrev pub with_item_of : Item → List Item → List ReadAnswer → ReadOut
with_item_of item stray [] = record { stray = stray ++ item ∷ []; answers = [] }
with_item_of item stray (a ∷ outs) = record { stray = stray; answers = record a { items = a.items ++ item ∷ [] } ∷ outs }

abbrev pub with_item : Item → ReadOut → ReadOut
with_item item out = with_item_of item out.stray out.answers

-- what an outcome adds
abbrev pub reading_out : ClientOutcome → ReadOut → ReadOut
reading_out (on.answer a) out = with_answer (answer_is a) out
reading_out (on.fault f) out = with_answer (refused f) out
reading_out (on.bytes more) out = with_item (item_bytes more) out
reading_out (on.trailers lines) out = with_item (item_trailers lines) out
reading_out on.body_ended out = with_item item_end out
reading_out (on.broken_by f) out = with_item (item_fault f) out
reading_out _ out = out

-- what a client handed out
unfoldable pub read_out : List Happened → ReadOut
read_out [] = nothing_read
read_out (s ∷ before) = reading_out s.outcome (read_out before)
