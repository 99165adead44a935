-- The queue of a request's body, and how each call changes it.
use Rattle.std.specs.Prelude.{◌≡◌, ◌<◌, ◌^◌, ◌+◌, ◌-◌, ℕ, Bool, true, false, nat_lt, min, Option, Some, None, List, [], ◌∷◌, ◌++◌, length, Result, Ok, Err}
use Rattle.futures.specs.declared.task.Poll.{Poll}
use Rattle.futures.specs.declared.task.Poll.TheVariants.{Ready, Pending}
use Rattle.http_map.specs.HeaderMap.{Entries}
use Rattle.http_types.specs.declared.error.PayloadError.{PayloadError}
use Rattle.http_types.specs.declared.error.PayloadError.TheVariants.{Incomplete}

-- the chunks that wait, the error that waits, whether the end was fed, and the trailers
-- whether an error was ever fed, whether the receiver was dropped, and whether the queue wants more
-- how many bytes were put back
-- whether a task waits to receive, and whether one waits to feed
pub record Queue : Type 0 where
  pub chunks : List (List ℕ)
  pub error : Option PayloadError
  pub ended : Bool
  pub trailers : Option Entries
  pub failed : Bool
  pub dropped : Bool
  pub wish : Bool
  pub put_back : ℕ
  pub receiver : Bool
  pub feeder : Bool

abbrev pub new_queue : Bool → Queue
new_queue ended = record {
  chunks = [];
  error = None;
  ended = ended;
  trailers = None;
  failed = false;
  dropped = false;
  wish = true;
  put_back = 0;
  receiver = false;
  feeder = false;
}

-- how many bytes wait
abbrev pub waiting : List (List ℕ) → ℕ
waiting [] = 0
waiting (chunk ∷ chunks) = length chunk + waiting chunks

-- fewer than 32768 bytes wait
abbrev pub is_low : List (List ℕ) → Bool
is_low chunks = nat_lt (waiting chunks) 32768

-- the receiver puts bytes back
abbrev pub put_in_front : List ℕ → Queue → Queue
put_in_front bytes q = record q { chunks = bytes ∷ q.chunks; put_back = min (q.put_back + length bytes) (2 ^ 64 - 1) }

-- the answer of a pull
abbrev pub Pull : Type 0
Pull = Poll (Option (Result (List ℕ) PayloadError))

-- The chunks come first, then the error, once, then the end. A chunk that leaves and a pull that finds nothing wake the
-- task that waits to feed. Behind a chunk, and where nothing was found, a task may wait to receive.
abbrev pub PullFrom : List (List ℕ) → Option PayloadError → Bool → Queue → Queue → Pull → Type 0
PullFrom (chunk ∷ chunks) e ended old new result =
    (result ≡ Ready (Some (Ok chunk))) × (new ≡ record old { chunks = chunks; wish = is_low chunks; receiver = new.receiver; feeder = false })
PullFrom [] (Some e) ended old new result = (result ≡ Ready (Some (Err e))) × (new ≡ record old { error = None })
PullFrom [] None true old new result = (result ≡ Ready None) × (new ≡ old)
PullFrom [] None false old new result = (result ≡ Pending) × (new ≡ record old { wish = true; receiver = new.receiver; feeder = false })

abbrev pub PullSays : Queue → Queue → Pull → Type 0
PullSays old new result = PullFrom old.chunks old.error old.ended old new result

-- a dropped queue stays as it is
abbrev pub unless : Bool → Queue → Queue → Queue
unless true q r = q
unless false q r = r

-- What feeding leaves. Bytes, an error and the end wake the task that waits to receive.
abbrev pub fed_data : List ℕ → Queue → Queue
fed_data bytes q = unless q.dropped q (record q { chunks = q.chunks ++ (bytes ∷ []); wish = is_low (q.chunks ++ (bytes ∷ [])); receiver = false })

abbrev pub fed_error : PayloadError → Queue → Queue
fed_error e q = unless q.dropped q (record q { error = Some e; failed = true; receiver = false })

abbrev pub fed_end : Queue → Queue
fed_end q = unless q.dropped q (record q { ended = true; receiver = false })

abbrev pub fed_trailers : Entries → Queue → Queue
fed_trailers trailers q = unless q.dropped q (record q { trailers = Some trailers })

-- a sender that closes feeds Incomplete, unless the end or an error was fed
abbrev pub closed_by : Bool → Bool → Queue → Queue
closed_by true failed q = q
closed_by false true q = q
closed_by false false q = fed_error Incomplete q

abbrev pub closed : Queue → Queue
closed q = closed_by q.ended q.failed q

-- nothing is received any more, and nobody waits to feed
abbrev pub abandoned : Queue → Queue
abandoned q = record q { dropped = true; feeder = false }
