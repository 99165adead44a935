-- A body when bytes follow, by its runs: it stays, or it was open and its runs were cut where the bytes ended.
use Rattle.std.proofs.Common.{◌≡◌, ℕ, ◌+◌, ◌<◌, ◌≤◌, Bool, true, false, List, [], ◌∷◌, ◌++◌, length, take, drop, map, Option, Some, None, ◌⊎◌, refl, sym, ap, ◌∙◌, subst, subst₂, inl, inr, arith, length-append, length-drop}
use Rattle.std.proofs.lemmas.Option.{none-some}
use Rattle.std.proofs.lemmas.Bool.{cases_lt, false≢true}
use Rattle.std.proofs.lemmas.List.{drop-append-le, take-append-le, take-take, length-take-le}
use Rattle.model_h1.specs.Frame.{ProtocolError}
use Rattle.model_h1.specs.FrameText.{Reader, PlacedFrame, ReadsFrames, is_under_way}
use Rattle.model_h1.specs.Chunked.{Chunked, whole, unfinished, not_chunked, Spells, IsChunked}
use Rattle.model_h1.specs.ChunkedText.{Trailer}
use Rattle.model_h1.specs.Runs.{Run, cut_runs}
use Rattle.model_h1.specs.Request.{Header, BodyKind, no_body, fixed_body, chunked_body, raw_body, Head, Reading, head_is, faulty}
use Rattle.model_h1.specs.Parse.{Input, Body, no_content, content, frames, Stop, ended_at, still_open, broken, next_start, runs_of, frames_of, connection_reader, run_between, open_or_cut, fixed_content, shifted, trailer_header, chunked_stop, IsBodyOf, IsBodyAfter}
use Rattle.model_h1.specs.Past.{has_chunks}
use Rattle.model_h1.proofs.FrameLemmas.{frames_begin, whole_fits}
use Rattle.model_h1.proofs.Laws.{chunked_unique, whole_stays, broken_stays, runs_grow}
use Rattle.model_h1.proofs.RunLemmas.{IsOrdered, chunked_ordered, cut_nil, ordered_wider}
use Rattle.model_h1.proofs.BodyLemmas.{input}
use Rattle.model_h1.proofs.BodyGrowth.{fixed_whole, fixed_part}
use Rattle.model_h1.proofs.PlaceLemmas.{cut_between, cut_shifted, between_ordered, shifted_ordered, AreOrdered}

-- ---- growth

-- the body is frames
abbrev pub is_frames : Body → Bool
is_frames (frames placed fail) = true
is_frames _ = false

-- The first body was open at so many bytes. The other one's runs, cut there, are its runs; its frames come
-- first; and the other doesn't end sooner.
pub record Opens (len : ℕ) (a b : Body) : Type 0 where
  pub next : next_start a ≡ None
  pub later : (place : ℕ) → next_start b ≡ Some place → len ≤ place
  pub runs : runs_of a ≡ cut_runs len (runs_of b)
  pub frames : (rest : List PlacedFrame) × (frames_of b ≡ frames_of a ++ rest)
  pub kind : is_frames a ≡ is_frames b

-- the body is the same, or was open
abbrev pub Moves : ℕ → Body → Body → Type 0
Moves len a b = (a ≡ b) ⊎ Opens len a b

-- content that was open, of one run
between_opens : (len start end : ℕ) (stop : Stop) → len ≤ end
    → ((place : ℕ) → next_start (content (run_between start end) stop) ≡ Some place → len ≤ place)
    → Moves len (content (run_between start len) still_open) (content (run_between start end) stop)
between_opens len start end stop less later = inr (record {
  next = refl;
  later = later;
  runs = sym (cut_between len start end less);
  frames = ([], refl);
  kind = refl;
})

-- a stop that is no end
not_ended : (len : ℕ) (runs : List Run) (ended : Bool) (place : ℕ) → next_start (content runs (open_or_cut ended)) ≡ Some place → len ≤ place
not_ended len runs true place e = absurd (none-some place e)
not_ended len runs false place e = absurd (none-some place e)

-- an end
ended_later : (len end : ℕ) (trailers : List Header) (runs : List Run) → len ≤ end → (place : ℕ)
    → next_start (content runs (ended_at end trailers)) ≡ Some place → len ≤ place
ended_later len end trailers runs less place e = let same : end ≡ place = cc in omega arith

-- a body of a fixed length
fixed_moves : (bytes more : List ℕ) (u : Option ℕ) (ended : Bool) (size : ℕ) (place n : ℕ)
    → Moves (length bytes) (fixed_content (input bytes u false size) place n) (fixed_content (input (bytes ++ more) u ended size) place n)
fixed_moves bytes more u ended size place n =
    let all = bytes ++ more in
    let len = length-append bytes more in
    elim (cases_lt (length bytes) (place + n)) [
      | inr fits ↦ inl (fixed_whole bytes u false size place n fits ∙ sym (fixed_whole all u ended size place n (omega arith)))
      | inl short ↦ subst (λ a. Moves (length bytes) a (fixed_content (input all u ended size) place n)) (sym (fixed_part bytes u false size place n short))
          (elim (cases_lt (length all) (place + n)) [
            | inr fits ↦ subst (Moves (length bytes) (content (run_between place (length bytes)) still_open)) (sym (fixed_whole all u ended size place n fits))
                (between_opens (length bytes) place (place + n) (ended_at (place + n) []) (omega arith)
                (ended_later (length bytes) (place + n) [] (run_between place (place + n)) (omega arith)))
            | inl short' ↦ subst (Moves (length bytes) (content (run_between place (length bytes)) still_open)) (sym (fixed_part all u ended size place n short'))
                (between_opens (length bytes) place (length all) (open_or_cut ended) (omega arith) (not_ended (length bytes) (run_between place (length all)) ended))
          ])
    ]

-- a body that is whole in the longer text isn't whole in the shorter one, of which it is unfinished
whole_later : (bytes more : List ℕ) (k : ℕ) (trailers : List Trailer) (runs runs' : List Run) → IsChunked bytes unfinished runs
    → IsChunked (bytes ++ more) (whole k trailers) runs'
    → length bytes < k
whole_later bytes more k trailers runs runs' x y =
    elim (cases_lt (length bytes) k) [
      | inl later ↦ later
      | inr within ↦
          let here : IsChunked bytes (whole k trailers) runs' =
          (y.0, within, subst (λ t. Spells t y.0) (take-append-le k bytes more within) y.2, y.3, y.4) in
          absurd (not_whole (chunked_unique bytes unfinished (whole k trailers) runs runs' x here).0)
    ]
  where
    not_whole : unfinished ≡ whole k trailers → ⊥
    not_whole e = cc

-- how a longer text of an unfinished body may stop
chunks_later : (bytes more : List ℕ) (u : Option ℕ) (ended : Bool) (size : ℕ) (place : ℕ) (b : Chunked) (runs runs' shown : List Run)
    → place ≤ length bytes
    → IsChunked (drop place bytes) unfinished runs → IsChunked (drop place bytes ++ more) b runs'
    → (next : ℕ) → next_start (content shown (chunked_stop (input (bytes ++ more) u ended size) place b)) ≡ Some next → length bytes ≤ next
chunks_later bytes more u ended size place (whole k trailers) runs runs' shown within x y next e =
    let same : place + k ≡ next = cc in
    omega (arith, whole_later (drop place bytes) more k trailers runs runs' x y, length-drop place bytes)
chunks_later bytes more u ended size place unfinished runs runs' shown within x y next e = not_ended (length bytes) shown ended next e
chunks_later bytes more u ended size place not_chunked runs runs' shown within x y next e = absurd (none-some next e)

-- a body in chunks
chunks_move : (bytes more : List ℕ) (u : Option ℕ) (ended : Bool) (size : ℕ) (place : ℕ) (a b : Chunked) (runs runs' : List Run)
    → place ≤ length bytes
    → IsChunked (drop place bytes) a runs → IsChunked (drop place bytes ++ more) b runs'
    → Moves (length bytes) (content (shifted place runs) (chunked_stop (input bytes u false size) place a))
    (content (shifted place runs') (chunked_stop (input (bytes ++ more) u ended size) place b))
chunks_move bytes more u ended size place (whole k trailers) b runs runs' within x y =
    let same = chunked_unique (drop place bytes ++ more) (whole k trailers) b runs runs' (whole_stays (drop place bytes) more k trailers runs x) y in
    inl (λ j. content (shifted place (same.1 j)) (chunked_stop (input (bytes ++ more) u ended size) place (same.0 j)))
chunks_move bytes more u ended size place not_chunked b runs runs' within x y =
    let same = chunked_unique (drop place bytes ++ more) not_chunked b runs runs' (broken_stays (drop place bytes) more runs x) y in
    inl (λ j. content (shifted place (same.1 j)) (chunked_stop (input (bytes ++ more) u ended size) place (same.0 j)))
chunks_move bytes more u ended size place unfinished b runs runs' within x y =
    let grown = runs_grow (drop place bytes) more b runs runs' x y in
    let len : place + length (drop place bytes) ≡ length bytes = omega (arith, length-drop place bytes) in
    inr (record {
      next = refl;
      later = chunks_later bytes more u ended size place b runs runs' (shifted place runs') within x y;
      runs = ap (shifted place) grown ∙ cut_shifted (length (drop place bytes)) place runs' ∙ ap (λ n. cut_runs n (shifted place runs')) len;
      frames = ([], refl);
      kind = refl;
    })

-- frames
frames_move : (limit : ℕ) (bytes more : List ℕ) (place : ℕ) (fs gs : List PlacedFrame) (e f : Option ProtocolError)
    → ReadsFrames (connection_reader limit) false place bytes fs e → ReadsFrames (connection_reader limit) false place (bytes ++ more) gs f
    → Moves (length bytes) (frames fs e) (frames gs f)
frames_move limit bytes more place fs gs e f x y =
    inr (record {
      next = refl;
      later = λ place e. absurd (none-some place e);
      runs = sym (cut_nil (length bytes));
      frames = frames_begin (connection_reader limit) false place bytes more fs gs e f x y;
      kind = refl;
    })

-- each kind of body
kind_moves : (bytes more : List ℕ) (u : Option ℕ) (ended : Bool) (size : ℕ) (kind : BodyKind) (place : ℕ) (a b : Body) → place ≤ length bytes
    → IsBodyOf (input bytes u false size) kind place a → IsBodyOf (input (bytes ++ more) u ended size) kind place b → Moves (length bytes) a b
kind_moves bytes more u ended size no_body place a b within x y = inl (x ∙ sym y)
kind_moves bytes more u ended size (fixed_body n) place a b within x y =
    subst₂ (Moves (length bytes)) (sym x) (sym y) (fixed_moves bytes more u ended size place n)
kind_moves bytes more u ended size chunked_body place a b within x y =
    subst₂ (Moves (length bytes)) (sym x.3) (sym y.3)
    (chunks_move bytes more u ended size place x.0 y.0 x.1 y.1 within x.2 (subst (λ t. IsChunked t y.0 y.1) (drop-append-le place bytes more within) y.2))
kind_moves bytes more None false size raw_body place a b within x y =
    let end = length (bytes ++ more) in
    let len = length-append bytes more in
    subst₂ (Moves (length bytes)) (sym x) (sym y)
    (between_opens (length bytes) place end still_open (omega arith) (not_ended (length bytes) (run_between place end) false))
kind_moves bytes more None true size raw_body place a b within x y =
    let end = length (bytes ++ more) in
    let len = length-append bytes more in
    subst₂ (Moves (length bytes)) (sym x) (sym y)
    (between_opens (length bytes) place end (ended_at end []) (omega arith) (ended_later (length bytes) end [] (run_between place end) (omega arith)))
kind_moves bytes more (Some limit) ended size raw_body place a b within x y =
    subst₂ (Moves (length bytes)) (sym x.3) (sym y.3) (frames_move limit bytes more place x.0 y.0 x.1 y.1 x.2 y.2)

-- the body behind a reading
pub body_moves : (bytes more : List ℕ) (u : Option ℕ) (ended : Bool) (size : ℕ) (r : Reading) (place : ℕ) (a b : Body) → place ≤ length bytes
    → IsBodyAfter (input bytes u false size) r place a → IsBodyAfter (input (bytes ++ more) u ended size) r place b → Moves (length bytes) a b
body_moves bytes more u ended size (faulty fault) place a b within x y = inl (x ∙ sym y)
body_moves bytes more u ended size (head_is h) place a b within x y = kind_moves bytes more u ended size h.body place a b within x y

-- ---- places

-- The body lies behind its start and within so many bytes: its runs in front of what follows it, and its
-- frames one behind another.
pub record Lies (len : ℕ) (from : ℕ) (b : Body) : Type 0 where
  pub start : from ≤ len
  pub next : (place : ℕ) → next_start b ≡ Some place → (from ≤ place) × (place ≤ len)
  pub runs : IsOrdered from len (runs_of b)
  pub runs_next : (place : ℕ) → next_start b ≡ Some place → IsOrdered from place (runs_of b)
  pub frames : AreOrdered from len (frames_of b)

-- content that hasn't ended
unended_lies : (len from : ℕ) (runs : List Run) (stop : Stop) → from ≤ len → next_start (content runs stop) ≡ None → IsOrdered from len runs
    → Lies len from (content runs stop)
unended_lies len from runs stop within none ordered = record {
  start = within;
  next = λ place e. absurd (none-some place (sym none ∙ e));
  runs = ordered;
  runs_next = λ place e. absurd (none-some place (sym none ∙ e));
  frames = within;
}

-- content that has ended
ended_lies : (len from end : ℕ) (trailers : List Header) (runs : List Run) → from ≤ end → end ≤ len → IsOrdered from end runs
    → Lies len from (content runs (ended_at end trailers))
ended_lies len from end trailers runs less within ordered = record {
  start = omega arith;
  next = λ place e. let same : end ≡ place = cc in omega arith;
  runs = ordered_wider from end len runs within ordered;
  runs_next = λ place e. subst (λ n. IsOrdered from n runs) (cc) ordered;
  frames = omega arith;
}

-- no content
nothing_lies : (len from : ℕ) → from ≤ len → Lies len from no_content
nothing_lies len from within = record {
  start = within;
  next = λ place e. absurd (none-some place e);
  runs = within;
  runs_next = λ place e. absurd (none-some place e);
  frames = within;
}

-- no stop of an unfinished body is an end
open_none : (runs : List Run) (ended : Bool) → next_start (content runs (open_or_cut ended)) ≡ None
open_none runs true = refl
open_none runs false = refl

-- a body of a fixed length
fixed_lies : (bytes : List ℕ) (u : Option ℕ) (ended : Bool) (size : ℕ) (place n : ℕ) → place ≤ length bytes
    → Lies (length bytes) place (fixed_content (input bytes u ended size) place n)
fixed_lies bytes u ended size place n within =
    let run = run_between place (length bytes) in
    elim (cases_lt (length bytes) (place + n)) [
      | inr fits ↦ subst (Lies (length bytes) place) (sym (fixed_whole bytes u ended size place n fits))
          (ended_lies (length bytes) place (place + n) [] (run_between place (place + n)) (omega arith) fits (between_ordered place (place + n) (omega arith)))
      | inl short ↦ subst (Lies (length bytes) place) (sym (fixed_part bytes u ended size place n short))
          (unended_lies (length bytes) place run (open_or_cut ended) within (open_none run ended) (between_ordered place (length bytes) within))
    ]

-- the runs of a whole body lie in front of its end
whole_ordered : (bytes : List ℕ) (k : ℕ) (trailers : List Trailer) (runs : List Run) → IsChunked bytes (whole k trailers) runs → IsOrdered 0 k runs
whole_ordered bytes k trailers runs x =
    let len = length-take-le k bytes x.1 in
    let here : IsChunked (take k bytes) (whole k trailers) runs =
    (x.0, omega arith, subst (λ t. Spells t x.0) (sym (take-take k k bytes (omega arith))) x.2, x.3, x.4) in
    subst (λ n. IsOrdered 0 n runs) len (chunked_ordered (take k bytes) (whole k trailers) runs here)

-- runs that are counted from the place where the body starts
from_start : (place upto end : ℕ) (rs : List Run) → place + upto ≡ end → IsOrdered 0 upto rs → IsOrdered place end (shifted place rs)
from_start place upto end rs same x =
    let zero_off : place + 0 ≡ place = omega arith in
    subst₂ (λ a b. IsOrdered a b (shifted place rs)) zero_off same (shifted_ordered place 0 upto rs x)

-- a body in chunks
chunks_lie : (bytes : List ℕ) (u : Option ℕ) (ended : Bool) (size : ℕ) (place : ℕ) (a : Chunked) (runs : List Run) → place ≤ length bytes
    → IsChunked (drop place bytes) a runs
    → Lies (length bytes) place (content (shifted place runs) (chunked_stop (input bytes u ended size) place a))
chunks_lie bytes u ended size place (whole k trailers) runs within x =
    ended_lies (length bytes) place (place + k) (map trailer_header trailers) (shifted place runs) (omega arith) (omega (arith, x.1, length-drop place bytes))
    (from_start place k (place + k) runs refl (whole_ordered (drop place bytes) k trailers runs x))
chunks_lie bytes u ended size place unfinished runs within x =
    unended_lies (length bytes) place (shifted place runs) (open_or_cut ended) within (open_none (shifted place runs) ended)
    (from_start place (length (drop place bytes)) (length bytes) runs (omega (arith, length-drop place bytes)) (chunked_ordered (drop place bytes) unfinished runs x))
chunks_lie bytes u ended size place not_chunked runs within x =
    unended_lies (length bytes) place (shifted place runs) broken within refl
    (from_start place (length (drop place bytes)) (length bytes) runs (omega (arith, length-drop place bytes)) (chunked_ordered (drop place bytes) not_chunked runs x))

-- frames end one behind another, within the bytes
frames_ordered : (reader : Reader) (u : Bool) (place : ℕ) (bytes : List ℕ) (fs : List PlacedFrame) (e : Option ProtocolError) → place ≤ length bytes
    → ReadsFrames reader u place bytes fs e → AreOrdered place (length bytes) fs
frames_ordered reader u place bytes [] e within x = within
frames_ordered reader u place bytes (f ∷ fs) e within x =
    let fits = whole_fits reader u (drop place bytes) f.frame x.0 x.1 in
    let end = x.2 in
    let behind : f.end ≤ length bytes = omega (arith, length-drop place bytes) in
    (omega arith, frames_ordered reader (is_under_way u f.frame) f.end bytes fs e behind x.3)

-- each kind of body
kind_lies : (bytes : List ℕ) (u : Option ℕ) (ended : Bool) (size : ℕ) (kind : BodyKind) (place : ℕ) (b : Body) → place ≤ length bytes
    → IsBodyOf (input bytes u ended size) kind place b → Lies (length bytes) place b
kind_lies bytes u ended size no_body place b within x =
    subst (Lies (length bytes) place) (sym x) (ended_lies (length bytes) place place [] [] (omega arith) within (omega arith))
kind_lies bytes u ended size (fixed_body n) place b within x = subst (Lies (length bytes) place) (sym x) (fixed_lies bytes u ended size place n within)
kind_lies bytes u ended size chunked_body place b within x =
    subst (Lies (length bytes) place) (sym x.3) (chunks_lie bytes u ended size place x.0 x.1 within x.2)
kind_lies bytes None true size raw_body place b within x =
    subst (Lies (length bytes) place) (sym x)
    (ended_lies (length bytes) place (length bytes) [] (run_between place (length bytes)) within (omega arith) (between_ordered place (length bytes) within))
kind_lies bytes None false size raw_body place b within x =
    subst (Lies (length bytes) place) (sym x)
    (unended_lies (length bytes) place (run_between place (length bytes)) still_open within refl (between_ordered place (length bytes) within))
kind_lies bytes (Some limit) ended size raw_body place b within x =
    subst (Lies (length bytes) place) (sym x.3) (record {
      start = within;
      next = λ next e. absurd (none-some next e);
      runs = within;
      runs_next = λ next e. absurd (none-some next e);
      frames = frames_ordered (connection_reader limit) false place bytes x.0 x.1 within x.2;
    })

-- the body behind a reading
pub body_lies : (i : Input) (r : Reading) (place : ℕ) (b : Body) → place ≤ length i.bytes → IsBodyAfter i r place b → Lies (length i.bytes) place b
body_lies i (faulty fault) place b within x = subst (Lies (length i.bytes) place) (sym x) (nothing_lies (length i.bytes) place within)
body_lies i (head_is h) place b within x = kind_lies i.bytes i.upgraded i.ended i.hold_size h.body place b within x

-- a body in chunks is no frames
unframed : (i : Input) (kind : BodyKind) (h : Head) (place : ℕ) (b : Body) → h.body ≡ kind → IsBodyOf i kind place b
    → has_chunks (head_is h) ≡ true → is_frames b ≡ false
unframed i no_body h place b e x chunks = ap is_frames x
unframed i (fixed_body n) h place b e x chunks = absurd (false≢true (subst (λ k. has_chunks (head_is (record h { body = k })) ≡ true) e chunks))
unframed i chunked_body h place b e x chunks = ap is_frames x.3
unframed i raw_body h place b e x chunks = absurd (false≢true (subst (λ k. has_chunks (head_is (record h { body = k })) ≡ true) e chunks))

-- a body in chunks holds no frames
pub chunks_unframed : (i : Input) (r : Reading) (place : ℕ) (b : Body) → IsBodyAfter i r place b → has_chunks r ≡ true → is_frames b ≡ false
chunks_unframed i (faulty fault) place b x chunks = ap is_frames x
chunks_unframed i (head_is h) place b x chunks = unframed i h.body h place b refl x chunks
