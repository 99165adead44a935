-- What a pull gives, and what is then left of the body and of the bytes.
use Rattle.std.specs.Prelude.{◌≡◌, ℕ, ◌-◌, Bool, true, false, List, [], ◌∷◌, ◌++◌, length, take, drop, map, nat_le, if◌then◌else◌, Option, Some, None}
use Rattle.std.specs.List.{AllByRecursion}
use Rattle.model_h1.specs.ChunkedText.{Trailer, IsTrailer, section_text}
use Rattle.model_h1.specs.Place.{Place}
use Rattle.model_h1.specs.TakeNext.{Next, chunk, waits, ended, breaks, take_next}
use Rattle.model_h1.specs.FrameText.{Front, partial, whole, breaks as breaks_rule, front_frame, is_under_way}
use Rattle.model_h1.specs.Parse.{connection_reader, trailer_header}
use Rattle.model_h1.specs.Event.{Outcome, corrupted, incomplete}
use Rattle.model_h1.specs.Event as on
use Rattle.model_h1.specs.End as ends
use Rattle.model_h1.specs.End.{End}
use Rattle.model_state.specs.Kept.{Rest, no_rest, raw_rest, fixed_rest, chunks_rest, frames_rest}

-- what a pull gives, and what it leaves
pub record Pulled : Type 0 where
  pub outcome : Outcome
  -- what is left of the body, and the bytes that stay
  pub rest : Rest
  pub unread : List ℕ
  -- the body's end or fault was told
  pub is_done : Bool
  -- the end that a broken rule of WebSocket brings
  pub failed : Option End

-- the outcome, with all else as before
abbrev pub gives : Outcome → Rest → List ℕ → Pulled
gives outcome rest unread = record { outcome = outcome; rest = rest; unread = unread; is_done = false; failed = None }

-- the body ends with this outcome
abbrev pub finishes : Outcome → Rest → List ℕ → Pulled
finishes outcome rest unread = record { outcome = outcome; rest = rest; unread = unread; is_done = true; failed = None }

-- no byte is there: the input has ended inside the body, or more may come
abbrev pub lacking : Bool → Rest → List ℕ → Pulled
lacking true rest unread = finishes (on.broken_by incomplete) rest unread
lacking false rest unread = gives on.pending rest unread

-- of a body of so many bytes, those that are there
abbrev pub pull_fixed : Bool → ℕ → List ℕ → Pulled
pull_fixed is_ended n [] = lacking is_ended (fixed_rest n) []
pull_fixed is_ended n (b ∷ bytes) =
    let count = length (b ∷ bytes) in
    gives (on.bytes (take n (b ∷ bytes))) (if nat_le n count then no_rest else fixed_rest (n - count)) (drop n (b ∷ bytes))

-- all bytes; with the input the body ends
abbrev pub pull_raw : Bool → List ℕ → Pulled
pull_raw is_ended (b ∷ bytes) = gives (on.bytes (b ∷ bytes)) (if is_ended then no_rest else raw_rest) []
pull_raw true [] = finishes on.body_ended no_rest []
pull_raw false [] = gives on.pending raw_rest []

abbrev pub pull_front : Bool → ℕ → List ℕ → Front → Pulled
pull_front under_way limit bytes partial = gives on.pending (frames_rest under_way limit) bytes
pull_front under_way limit bytes (whole frame len) =
    gives (on.frame frame) (frames_rest (is_under_way under_way frame) limit) (drop len bytes)
pull_front under_way limit bytes (breaks_rule error) =
    record (gives (on.protocol error) (frames_rest under_way limit) bytes) { failed = Some ends.protocol }

-- The end of a body in chunks: its trailers, if its section has lines, and else its end. The section is the text
-- of the trailers' lines.
abbrev pub EndsWith : List ℕ → List ℕ → Pulled → Type 0
EndsWith [] behind p = p ≡ finishes on.body_ended no_rest behind
EndsWith (b ∷ section) behind p =
    (lines : List Trailer) × AllByRecursion IsTrailer lines × (section_text lines ≡ b ∷ section)
    × (p ≡ gives (on.trailers (map trailer_header lines)) no_rest behind)

-- What comes next in chunks, from a place on, with the section's text so far. A fault leaves the place and the
-- bytes; where nothing comes, all bytes are passed.
abbrev pub IsPullOfChunks : Bool → Place → List ℕ → List ℕ → Next → List ℕ → Pulled → Type 0
IsPullOfChunks is_ended place section bytes (chunk given next behind) noted p =
    p ≡ gives (on.bytes given) (chunks_rest next (section ++ noted)) behind
IsPullOfChunks true place section bytes (waits next) noted p =
    p ≡ finishes (on.broken_by incomplete) (chunks_rest place section) bytes
IsPullOfChunks false place section bytes (waits next) noted p =
    p ≡ gives on.pending (chunks_rest next (section ++ noted)) []
IsPullOfChunks is_ended place section bytes (ended behind) noted p = EndsWith (section ++ noted) behind p
IsPullOfChunks is_ended place section bytes breaks noted p =
    p ≡ finishes (on.broken_by corrupted) (chunks_rest place section) bytes

-- what a pull gives of what is left of a body, by whether the input has ended and the bytes that are there
abbrev pub IsPull : Bool → Rest → List ℕ → Pulled → Type 0
IsPull is_ended no_rest bytes p = p ≡ finishes on.body_ended no_rest bytes
IsPull is_ended raw_rest bytes p = p ≡ pull_raw is_ended bytes
IsPull is_ended (fixed_rest n) bytes p = p ≡ pull_fixed is_ended n bytes
IsPull is_ended (chunks_rest place section) bytes p =
    let taken = take_next place bytes in IsPullOfChunks is_ended place section bytes taken.next taken.trailers p
IsPull is_ended (frames_rest under_way limit) bytes p =
    p ≡ pull_front under_way limit bytes (front_frame (connection_reader limit) under_way bytes)
