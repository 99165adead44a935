-- A parse depends on the bytes from its first place on, and not on those in front.
use Rattle.std.proofs.Common.{◌≡◌, ℕ, ◌+◌, ◌≤◌, Bool, true, false, List, [], ◌∷◌, length, drop, map, slice_range, nat_lt, Option, Some, None, MatchOption, option_map, refl, sym, ap, ◌∙◌, subst, inl, inr, arith, length-drop, le-ltb, lt-ltb}
use Rattle.std.proofs.lemmas.Bool.{cond-true, cond-false, cases_lt}
use Rattle.std.proofs.lemmas.List.{drop-drop}
use Rattle.model_h1.specs.HeadPiece.{IsHeadPiece, HasNoHeadPiece}
use Rattle.model_h1.specs.RequestHead.{IsReadingWithin}
use Rattle.model_h1.specs.FrameText.{Reader, front_frame, is_under_way, PlacedFrame, StopsWith, ReadsFrames}
use Rattle.model_h1.specs.Chunked.{Chunked, unfinished, not_chunked, IsChunked}
use Rattle.model_h1.specs.Runs.{Run}
use Rattle.model_h1.specs.Chunked as chunked
use Rattle.model_h1.specs.Frame.{ProtocolError}
use Rattle.model_h1.specs.Request.{BodyKind, no_body, fixed_body, chunked_body, raw_body, Reading, head_is, faulty}
use Rattle.model_h1.specs.Parse.{Message, Body, no_content, content, frames, ended_at, still_open, broken, cut, run_between, open_or_cut, fixed_content, raw_content, shifted, trailer_header, chunked_stop, connection_reader, next_start, IsBodyOf, IsBodyAfter, IsMessageAt, AreMessages}
use Rattle.model_h1.specs.Laws.Moved.{moved_stop, moved_frame, moved_body, moved}
use Rattle.model_h1.proofs.BodyLemmas.{input}
use Rattle.model_h1.proofs.BodyGrowth.{fixed_whole, fixed_part}
use Rattle.model_h1.proofs.MessageLemmas.{messages_unique}
use Rattle.model_h1.proofs.MessageExistence.{parse_exists}

-- ---- runs and stops

-- runs that are counted from one place and then from another
pub shifted-shifted : (len place : ℕ) (runs : List Run) → shifted len (shifted place runs) ≡ shifted (len + place) runs
shifted-shifted len place [] = refl
shifted-shifted len place (r ∷ runs) =
    let start : len + (place + r.start) ≡ len + place + r.start = omega arith in
    let end : len + (place + r.end) ≡ len + place + r.end = omega arith in
    λ i. record { start = start i; end = end i } ∷ shifted-shifted len place runs i

-- the run between two places
pub moved_between : (len start end : ℕ) → shifted len (run_between start end) ≡ run_between (len + start) (len + end)
moved_between len start end =
    elim (cases_lt start end) [
      | inl some ↦
          ap (shifted len) (cond-true (nat_lt start end) (record { start = start; end = end } ∷ []) [] (lt-ltb start end some))
          ∙ sym (cond-true (nat_lt (len + start) (len + end)) (record { start = len + start; end = len + end } ∷ []) [] (lt-ltb (len + start) (len + end) (omega arith)))
      | inr none ↦
          ap (shifted len) (cond-false (nat_lt start end) (record { start = start; end = end } ∷ []) [] (le-ltb start end none))
          ∙ sym (cond-false (nat_lt (len + start) (len + end)) (record { start = len + start; end = len + end } ∷ []) [] (le-ltb (len + start) (len + end) (omega arith)))
    ]

-- what has no end has no place
pub moved_open_or_cut : (len : ℕ) (ended : Bool) → moved_stop len (open_or_cut ended) ≡ open_or_cut ended
moved_open_or_cut len true = refl
moved_open_or_cut len false = refl

-- how a body in chunks stops
moved_chunked_stop : (len : ℕ) (bytes rest : List ℕ) (u : Option ℕ) (ended : Bool) (size place : ℕ) (a : Chunked)
    → moved_stop len (chunked_stop (input rest u ended size) place a) ≡ chunked_stop (input bytes u ended size) (len + place) a
moved_chunked_stop len bytes rest u ended size place (chunked.whole k trailers) =
    let end : len + (place + k) ≡ len + place + k = omega arith in
    λ i. ended_at (end i) (map trailer_header trailers)
moved_chunked_stop len bytes rest u ended size place unfinished = moved_open_or_cut len ended
moved_chunked_stop len bytes rest u ended size place not_chunked = refl

-- ---- bodies

-- a body of a fixed length
moved_fixed : (len : ℕ) (bytes : List ℕ) (u : Option ℕ) (ended : Bool) (size place n : ℕ) → len ≤ length bytes
    → moved_body len (fixed_content (input (drop len bytes) u ended size) place n) ≡ fixed_content (input bytes u ended size) (len + place) n
moved_fixed len bytes u ended size place n within =
    let rest = drop len bytes in
    let left = length-drop len bytes in
    elim (cases_lt (length rest) (place + n)) [
      | inr fits ↦
          let end : len + (place + n) ≡ len + place + n = omega arith in
          ap (moved_body len) (fixed_whole rest u ended size place n fits)
          ∙ (λ i. content (moved_between len place (place + n) i) (ended_at (end i) []))
          ∙ (λ i. content (run_between (len + place) (end i)) (ended_at (len + place + n) []))
          ∙ sym (fixed_whole bytes u ended size (len + place) n (omega arith))
      | inl short ↦
          let all : len + length rest ≡ length bytes = omega arith in
          ap (moved_body len) (fixed_part rest u ended size place n short)
          ∙ (λ i. content (moved_between len place (length rest) i) (moved_open_or_cut len ended i))
          ∙ (λ i. content (run_between (len + place) (all i)) (open_or_cut ended))
          ∙ sym (fixed_part bytes u ended size (len + place) n (omega arith))
    ]

-- all bytes from a place on
moved_raw : (len : ℕ) (bytes : List ℕ) (u : Option ℕ) (ended : Bool) (size place : ℕ) → len ≤ length bytes
    → moved_body len (raw_content (input (drop len bytes) u ended size) place) ≡ raw_content (input bytes u ended size) (len + place)
moved_raw len bytes u true size place within =
    let all : len + length (drop len bytes) ≡ length bytes = omega (arith, length-drop len bytes) in
    (λ i. content (moved_between len place (length (drop len bytes)) i) (ended_at (all i) []))
    ∙ (λ i. content (run_between (len + place) (all i)) (ended_at (length bytes) []))
moved_raw len bytes u false size place within =
    let all : len + length (drop len bytes) ≡ length bytes = omega (arith, length-drop len bytes) in
    (λ i. content (moved_between len place (length (drop len bytes)) i) still_open)
    ∙ (λ i. content (run_between (len + place) (all i)) still_open)

-- frames
moved_frames : (reader : Reader) (u : Bool) (len place : ℕ) (bytes : List ℕ) (fs : List PlacedFrame) (e : Option ProtocolError)
    → ReadsFrames reader u place (drop len bytes) fs e → ReadsFrames reader u (len + place) bytes (map (moved_frame len) fs) e
moved_frames reader u len place bytes [] e x = subst (λ t. StopsWith (front_frame reader u t) e) (drop-drop place len bytes) x
moved_frames reader u len place bytes (f ∷ fs) e x =
    let others = moved_frames reader (is_under_way u f.frame) len f.end bytes fs e x.3 in
    let end : len + f.end ≡ len + place + x.0 = omega (arith, x.2) in
    (x.0, ap (front_frame reader u) (sym (drop-drop place len bytes)) ∙ x.1, end, others)

-- each kind of body
moved_of_kind : (len : ℕ) (bytes : List ℕ) (u : Option ℕ) (ended : Bool) (size : ℕ) (kind : BodyKind) (place : ℕ) (b : Body) → len ≤ length bytes
    → IsBodyOf (input (drop len bytes) u ended size) kind place b → IsBodyOf (input bytes u ended size) kind (len + place) (moved_body len b)
moved_of_kind len bytes u ended size no_body place b within x = ap (moved_body len) x
moved_of_kind len bytes u ended size (fixed_body n) place b within x = ap (moved_body len) x ∙ moved_fixed len bytes u ended size place n within
moved_of_kind len bytes u ended size chunked_body place b within x = (
  x.0,
  x.1,
  subst (λ t. IsChunked t x.0 x.1) (drop-drop place len bytes) x.2,
  ap (moved_body len) x.3 ∙ (λ i. content (shifted-shifted len place x.1 i) (moved_chunked_stop len bytes (drop len bytes) u ended size place x.0 i)),
)
moved_of_kind len bytes None ended size raw_body place b within x = ap (moved_body len) x ∙ moved_raw len bytes None ended size place within
moved_of_kind len bytes (Some limit) ended size raw_body place b within x =
    (map (moved_frame len) x.0, x.1, moved_frames (connection_reader limit) false len place bytes x.0 x.1 x.2, ap (moved_body len) x.3)

-- the body behind a reading
moved_after : (len : ℕ) (bytes : List ℕ) (u : Option ℕ) (ended : Bool) (size : ℕ) (r : Reading) (place : ℕ) (b : Body) → len ≤ length bytes
    → IsBodyAfter (input (drop len bytes) u ended size) r place b → IsBodyAfter (input bytes u ended size) r (len + place) (moved_body len b)
moved_after len bytes u ended size (faulty fault) place b within x = ap (moved_body len) x
moved_after len bytes u ended size (head_is h) place b within x = moved_of_kind len bytes u ended size h.body place b within x

-- where the next message starts
pub moved_next : (len : ℕ) (b : Body) → next_start (moved_body len b) ≡ option_map (λ place. len + place) (next_start b)
moved_next len no_content = refl
moved_next len (content runs (ended_at place trailers)) = refl
moved_next len (content runs still_open) = refl
moved_next len (content runs broken) = refl
moved_next len (content runs cut) = refl
moved_next len (frames placed fail) = refl

-- ---- messages

-- a message
moved_message : (len : ℕ) (bytes : List ℕ) (u : Option ℕ) (ended : Bool) (size place : ℕ) (m : Message) → len ≤ length bytes
    → IsMessageAt (input (drop len bytes) u ended size) place m → IsMessageAt (input bytes u ended size) (len + place) (moved len m)
moved_message len bytes u ended size place m within x =
    let same = drop-drop place len bytes in
    record {
      start = x.start;
      end = x.end;
      piece = subst (λ t. IsHeadPiece t x.start x.end) same x.piece;
      body_start = omega (arith, x.body_start);
      reading = subst (λ t. IsReadingWithin size (slice_range t x.start x.end) m.reading) same x.reading;
      body = moved_after len bytes u ended size m.reading m.body_start m.body within x.body;
    }

-- what stands behind a message
moved_rest : (len : ℕ) (bytes : List ℕ) (u : Option ℕ) (ended : Bool) (size : ℕ) (next : Option ℕ) (ms : List Message)
    → ((place : ℕ) → AreMessages (input (drop len bytes) u ended size) place ms → AreMessages (input bytes u ended size) (len + place) (map (moved len) ms))
    → MatchOption next (ms ≡ []) (λ place. AreMessages (input (drop len bytes) u ended size) place ms)
    → MatchOption (option_map (λ place. len + place) next) (map (moved len) ms ≡ []) (λ place. AreMessages (input bytes u ended size) place (map (moved len) ms))
moved_rest len bytes u ended size None ms move x = ap (map (moved len)) x
moved_rest len bytes u ended size (Some place) ms move x = move place x

-- messages of the rest of the bytes are those from there on
pub moved_messages : (len : ℕ) (bytes : List ℕ) (u : Option ℕ) (ended : Bool) (size place : ℕ) (ms : List Message) → len ≤ length bytes
    → AreMessages (input (drop len bytes) u ended size) place ms → AreMessages (input bytes u ended size) (len + place) (map (moved len) ms)
moved_messages len bytes u ended size place [] within x = subst HasNoHeadPiece (drop-drop place len bytes) x
moved_messages len bytes u ended size place (m ∷ ms) within x =
    let rest = moved_rest len bytes u ended size (next_start m.body) ms (λ next y. moved_messages len bytes u ended size next ms within y) x.1 in (
      moved_message len bytes u ended size place m within x.0,
      subst (λ o. MatchOption o (map (moved len) ms ≡ []) (λ next. AreMessages (input bytes u ended size) next (map (moved len) ms))) (sym (moved_next len m.body)) rest,
    )

-- and there are no others
pub moved_from : (len : ℕ) (bytes : List ℕ) (u : Option ℕ) (ended : Bool) (size : ℕ) (ms : List Message) → len ≤ length bytes
    → AreMessages (input bytes u ended size) len ms
    → (ns : List Message) × AreMessages (input (drop len bytes) u ended size) 0 ns × (ms ≡ map (moved len) ns)
moved_from len bytes u ended size ms within x =
    let rest = parse_exists (input (drop len bytes) u ended size) in
    let here : len + 0 ≡ len = omega arith in
    let there = subst (λ place. AreMessages (input bytes u ended size) place (map (moved len) rest.0)) here (moved_messages len bytes u ended size 0 rest.0 within rest.1) in
    (rest.0, rest.1, messages_unique (input bytes u ended size) len ms (map (moved len) rest.0) x there)
