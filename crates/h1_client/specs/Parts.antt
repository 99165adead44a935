-- What a client connection's fields mean: what the machine keeps.
use Rattle.std.specs.Prelude.{◌≡◌, ◌<◌, Bool, true, false, List, [], ◌∷◌, codes, bytes_eq, Option, Some, None, option_map, is_some, ⊤}
use Rattle.model_h1.specs.Limits.{MAX_MOMENT}
use Rattle.model_h1.specs.Setting.{Setting}
use Rattle.h1_encoder.specs.Meaning.{model_shape}
use Rattle.h1_payload.specs.Fitting.{Fits}
use Rattle.model_client.specs.ClientEvent as on
use Rattle.model_client.specs.ClientKept.{Waiting, SendingBody, ReadingBody, ClientKept, is_free, is_last}
use Rattle.model_client.specs.ClientStep.{IsClientStep}
use Rattle.h1_client.specs.Incoming.{is_coming_in, IsFound}
use Rattle.h1_client.specs.ClientMeaning.{end_of}
use Rattle.h1_client.specs.declared.connection.bodies.Reading.{Reading}
use Rattle.h1_client.specs.declared.connection.parts.Parts.{Parts}
use Rattle.h1_client.specs.declared.connection.queue.First.{First}
use Rattle.h1_client.specs.declared.connection.requests.Sending.{Sending}

-- ---- the parts

-- what an answer needs of the first request that waits
pub record IsFirst (w : Waiting) (first : First) : Type 0 where
  pub is_head : bytes_eq w.method (codes "HEAD") ≡ first.is_head
  pub closes : w.closes ≡ first.closes

abbrev pub AreFirst : List Waiting → Option First → Type 0
AreFirst [] first = first ≡ None
AreFirst (w ∷ ws) None = ⊥
AreFirst (w ∷ ws) (Some first) = IsFirst w first

abbrev pub sending_of : Sending → SendingBody
sending_of s = record { shape = model_shape s.shape; missing = s.missing }

abbrev pub reading_of : Reading → ReadingBody
reading_of r = record { rest = r.rest; is_done = r.is_done; was_dropped = r.was_dropped }

abbrev pub kept_of : Parts → ClientKept
kept_of p = record {
  unread = p.input.unread;
  is_coming = is_coming_in p.input.piece;
  has_ended = p.has_ended;
  is_over = p.is_over;
  waiting = p.waiting;
  sending = option_map sending_of p.sending;
  reading = option_map reading_of p.reading;
  closes = p.closes;
  buffered = p.output;
  now = p.moment;
  failed = option_map end_of p.failed;
}

-- ---- what holds of them

-- of a body that isn't dropped no text of its trailers is lost
abbrev pub FitsIn : Option Reading → Type 0
FitsIn None = ⊤
FitsIn (Some r) = r.was_dropped ≡ false → Fits r.rest

-- a body isn't searched for a head
abbrev pub MayBeSearched : Parts → Type 0
MayBeSearched p = is_free (kept_of p) ≡ false → p.input.piece ≡ None

-- What holds of every connection between two events: the last tick is before the year 10000; a head is searched for where
-- the last answer is done with, and what is found is there; whether another request may follow is kept; and the text of
-- trailers is whole.
pub record IsSound (p : Parts) : Type 0 where
  pub moment : p.moment < MAX_MOMENT
  pub searched : is_some p.input.piece ≡ is_free (kept_of p)
  pub scanned : IsFound p.input
  pub last : p.is_last ≡ is_last (kept_of p)
  pub fits : FitsIn p.reading

-- after an event a head is searched for where one may come
pub record IsSettled (p q : Parts) : Type 0 where
  pub parts : q ≡ record p { input = q.input }
  pub unread : q.input.unread ≡ p.input.unread
  pub searched : is_some q.input.piece ≡ is_free (kept_of p)
  pub scanned : IsFound q.input

-- after an event the parts keep this, and a head is searched for where one may come
pub record IsSettledAs (k : ClientKept) (q : Parts) : Type 0 where
  pub kept : kept_of q ≡ record k { is_coming = is_coming_in q.input.piece }
  pub searched : is_some q.input.piece ≡ is_free k
  pub scanned : IsFound q.input

-- ---- a step

-- from these parts the event leads to those, with this outcome
abbrev pub Steps : Setting → Parts → on.ClientEvent → on.ClientOutcome → Parts → Type 0
Steps setting p event outcome q = IsClientStep setting (kept_of p) event outcome (kept_of q)
