-- A body when bytes follow: what was there comes first, and a body that isn't open stays.
use Rattle.std.proofs.Common.{◌≡◌, ℕ, ◌+◌, ◌<◌, ◌≤◌, Bool, false, List, [], ◌++◌, length, drop, map, nat_le, Option, Some, None, refl, sym, ap, ◌∙◌, subst, subst₂, inl, inr, arith, true≢false, length-append}
use Rattle.std.proofs.lemmas.Bool.{cond-true, cond-false, cases_lt, le-leb, lt-leb}
use Rattle.std.proofs.lemmas.List.{drop-append-le, map-append}
use Rattle.model_h1.specs.Frame.{ProtocolError}
use Rattle.model_h1.specs.FrameText.{PlacedFrame, ReadsFrames}
use Rattle.model_h1.specs.Chunked.{Chunked, whole, unfinished, not_chunked, IsChunked}
use Rattle.model_h1.specs.Runs.{Run, run_bytes}
use Rattle.model_h1.specs.Request.{BodyKind, no_body, fixed_body, chunked_body, raw_body, Reading, head_is, faulty}
use Rattle.model_h1.specs.Parse.{connection_reader, Body, no_content, content, frames, Stop, ended_at, still_open, run_between, open_or_cut, fixed_content, shifted, chunked_stop, IsBodyOf, IsBodyAfter}
use Rattle.model_h1.specs.Handed.{Begins, Item, item_frame, stop_items, last_items, body_bytes}
use Rattle.model_h1.specs.Laws.Growth.{BodyGrows}
use Rattle.model_h1.proofs.HeadPieceLemmas.{slice_range-append}
use Rattle.model_h1.proofs.FrameLemmas.{frames_unique, frames_begin, frames_broken}
use Rattle.model_h1.proofs.Laws.{chunked_unique, whole_stays, broken_stays, runs_grow}
use Rattle.model_h1.proofs.RunLemmas.{begins_same, slice_longer, chunked_ordered, runs_more, cut_begins, run_bytes_shifted, run_bytes_between}
use Rattle.model_h1.proofs.BodyLemmas.{input}

-- a body that is the same, with the same bytes
same_grows : (front all : List ℕ) (a b : Body) → a ≡ b → body_bytes front a ≡ body_bytes all b → BodyGrows front all a b
same_grows front all a b same bytes = record {
  bytes = begins_same (body_bytes front a) (body_bytes all b) bytes;
  items = begins_same (last_items a) (last_items b) (ap last_items same);
  closed = λ _. (same, bytes);
}

-- content that is still open, and its bytes come first
open_grows : (front all : List ℕ) (runs runs' : List Run) (stop : Stop) → Begins (run_bytes front runs) (run_bytes all runs')
    → BodyGrows front all (content runs still_open) (content runs' stop)
open_grows front all runs runs' stop begins = record {
  bytes = begins;
  items = (stop_items stop, refl);
  closed = λ closed. absurd (true≢false closed);
}

-- the bytes between two places, the second where the first bytes end
between_grows : (bytes more : List ℕ) (place e : ℕ) (stop : Stop) → place ≤ length bytes → length bytes ≤ e
    → BodyGrows bytes (bytes ++ more) (content (run_between place (length bytes)) still_open) (content (run_between place e) stop)
between_grows bytes more place e stop within less =
    let all = bytes ++ more in
    let here = run_bytes_between bytes place (length bytes) ∙ sym (slice_range-append bytes more place (length bytes) within (omega arith)) in
    open_grows bytes all (run_between place (length bytes)) (run_between place e) stop
    (subst₂ Begins (sym here) (sym (run_bytes_between all place e)) (slice_longer all place (length bytes) e less))

-- ---- a body of a fixed length

-- all of it is there
pub fixed_whole : (bytes : List ℕ) (u : Option ℕ) (ended : Bool) (size place n : ℕ) → place + n ≤ length bytes
    → fixed_content (input bytes u ended size) place n ≡ content (run_between place (place + n)) (ended_at (place + n) [])
fixed_whole bytes u ended size place n fits = cond-true (nat_le (place + n) (length bytes)) _ _ (le-leb (place + n) (length bytes) fits)

-- it goes on behind the bytes
pub fixed_part : (bytes : List ℕ) (u : Option ℕ) (ended : Bool) (size place n : ℕ) → length bytes < place + n
    → fixed_content (input bytes u ended size) place n ≡ content (run_between place (length bytes)) (open_or_cut ended)
fixed_part bytes u ended size place n short = cond-false (nat_le (place + n) (length bytes)) _ _ (lt-leb (place + n) (length bytes) short)

-- a body of a fixed length grows
fixed_grows : (bytes more : List ℕ) (u : Option ℕ) (ended : Bool) (size place n : ℕ) → place ≤ length bytes
    → BodyGrows bytes (bytes ++ more) (fixed_content (input bytes u false size) place n) (fixed_content (input (bytes ++ more) u ended size) place n)
fixed_grows bytes more u ended size place n within =
    let all = bytes ++ more in
    let len = length-append bytes more in
    elim (cases_lt (length bytes) (place + n)) [
      | inr fits ↦
          let run = run_between place (place + n) in
          let same = run_bytes_between bytes place (place + n) ∙ sym (slice_range-append bytes more place (place + n) (omega arith) fits)
          ∙ sym (run_bytes_between all place (place + n)) in
          subst₂ (BodyGrows bytes all) (sym (fixed_whole bytes u false size place n fits)) (sym (fixed_whole all u ended size place n (omega arith)))
          (same_grows bytes all (content run (ended_at (place + n) [])) (content run (ended_at (place + n) [])) refl same)
      | inl short ↦ subst (λ a. BodyGrows bytes all a (fixed_content (input all u ended size) place n)) (sym (fixed_part bytes u false size place n short))
          (elim (cases_lt (length all) (place + n)) [
            | inr fits ↦ subst (BodyGrows bytes all (content (run_between place (length bytes)) still_open)) (sym (fixed_whole all u ended size place n fits))
                (between_grows bytes more place (place + n) (ended_at (place + n) []) within (omega arith))
            | inl short' ↦ subst (BodyGrows bytes all (content (run_between place (length bytes)) still_open)) (sym (fixed_part all u ended size place n short'))
                (between_grows bytes more place (length all) (open_or_cut ended) within (omega arith))
          ])
    ]

-- ---- a body in chunks

-- the bytes of its runs are the same when bytes follow
shifted_more : (bytes more : List ℕ) (place : ℕ) (a : Chunked) (runs : List Run) → place ≤ length bytes → IsChunked (drop place bytes) a runs
    → run_bytes (drop place (bytes ++ more)) runs ≡ run_bytes bytes (shifted place runs)
shifted_more bytes more place a runs within x =
    ap (λ (t : List ℕ). run_bytes t runs) (drop-append-le place bytes more within)
    ∙ runs_more (drop place bytes) more 0 (length (drop place bytes)) runs (omega arith) (chunked_ordered (drop place bytes) a runs x)
    ∙ sym (run_bytes_shifted bytes place runs)

-- one that stays as it is
settled_chunks : (bytes more : List ℕ) (u : Option ℕ) (ended : Bool) (size place : ℕ) (a b : Chunked) (runs runs' : List Run) → place ≤ length bytes
    → IsChunked (drop place bytes) a runs → IsChunked (drop place (bytes ++ more)) a runs → IsChunked (drop place (bytes ++ more)) b runs'
    → chunked_stop (input bytes u false size) place a ≡ chunked_stop (input (bytes ++ more) u ended size) place a
    → BodyGrows bytes (bytes ++ more) (content (shifted place runs) (chunked_stop (input bytes u false size) place a))
    (content (shifted place runs') (chunked_stop (input (bytes ++ more) u ended size) place b))
settled_chunks bytes more u ended size place a b runs runs' within x stays y stop =
    let all = bytes ++ more in
    let same = chunked_unique (drop place all) a b runs runs' stays y in
    let bytes_same = sym (shifted_more bytes more place a runs within x) ∙ ap (run_bytes (drop place all)) same.1 ∙ sym (run_bytes_shifted all place runs') in
    same_grows bytes all _ _
    (λ j. content (shifted place (same.1 j)) ((stop ∙ ap (chunked_stop (input all u ended size) place) same.0) j)) bytes_same

-- a body in chunks grows
chunks_grow : (bytes more : List ℕ) (u : Option ℕ) (ended : Bool) (size place : ℕ) (a b : Chunked) (runs runs' : List Run) → place ≤ length bytes
    → IsChunked (drop place bytes) a runs → IsChunked (drop place (bytes ++ more)) b runs'
    → BodyGrows bytes (bytes ++ more) (content (shifted place runs) (chunked_stop (input bytes u false size) place a))
    (content (shifted place runs') (chunked_stop (input (bytes ++ more) u ended size) place b))
chunks_grow bytes more u ended size place (whole k trailers) b runs runs' within x y =
    let stays = subst (λ t. IsChunked t (whole k trailers) runs) (sym (drop-append-le place bytes more within)) (whole_stays (drop place bytes) more k trailers runs x) in
    settled_chunks bytes more u ended size place (whole k trailers) b runs runs' within x stays y refl
chunks_grow bytes more u ended size place not_chunked b runs runs' within x y =
    let stays = subst (λ t. IsChunked t not_chunked runs) (sym (drop-append-le place bytes more within)) (broken_stays (drop place bytes) more runs x) in
    settled_chunks bytes more u ended size place not_chunked b runs runs' within x stays y refl
chunks_grow bytes more u ended size place unfinished b runs runs' within x y =
    let all = bytes ++ more in
    let cut = runs_grow (drop place bytes) more b runs runs' x (subst (λ t. IsChunked t b runs') (drop-append-le place bytes more within) y) in
    let ordered = chunked_ordered (drop place all) b runs' y in
    let begins = cut_begins (drop place all) (length (drop place bytes)) 0 (length (drop place all)) runs' ordered in
    let first = ap (run_bytes (drop place all)) (sym cut) ∙ shifted_more bytes more place unfinished runs within x in
    open_grows bytes all (shifted place runs) (shifted place runs') (chunked_stop (input all u ended size) place b)
    (subst₂ Begins first (sym (run_bytes_shifted all place runs')) begins)

-- ---- frames

-- a frame as an item
abbrev item_of : PlacedFrame → Item
item_of p = item_frame p.frame

-- frames grow
frames_grow : (limit : ℕ) (bytes more : List ℕ) (place : ℕ) (fs gs : List PlacedFrame) (e f : Option ProtocolError)
    → ReadsFrames (connection_reader limit) false place bytes fs e → ReadsFrames (connection_reader limit) false place (bytes ++ more) gs f
    → BodyGrows bytes (bytes ++ more) (frames fs e) (frames gs f)
frames_grow limit bytes more place fs gs None f x y =
    let begins = frames_begin (connection_reader limit) false place bytes more fs gs None f x y in
    record {
      bytes = ([], refl);
      items = (map item_of begins.0, ap (map item_of) begins.1 ∙ map-append item_of fs begins.0);
      closed = λ closed. absurd (true≢false closed);
    }
frames_grow limit bytes more place fs gs (Some e) f x y =
    let same = frames_unique (connection_reader limit) false place (bytes ++ more) fs gs (Some e) f (frames_broken (connection_reader limit) false place bytes more fs e x) y in
    same_grows bytes (bytes ++ more) (frames fs (Some e)) (frames gs f) (λ j. frames (same.0 j) (same.1 j)) refl

-- ---- each kind of body

-- the body of a kind grows
body_of_grows : (bytes more : List ℕ) (u : Option ℕ) (ended : Bool) (size : ℕ) (kind : BodyKind) (place : ℕ) (a b : Body) → place ≤ length bytes
    → IsBodyOf (input bytes u false size) kind place a → IsBodyOf (input (bytes ++ more) u ended size) kind place b
    → BodyGrows bytes (bytes ++ more) a b
body_of_grows bytes more u ended size no_body place a b within x y =
    subst₂ (BodyGrows bytes (bytes ++ more)) (sym x) (sym y) (same_grows bytes (bytes ++ more) (content [] (ended_at place [])) (content [] (ended_at place [])) refl refl)
body_of_grows bytes more u ended size (fixed_body n) place a b within x y =
    subst₂ (BodyGrows bytes (bytes ++ more)) (sym x) (sym y) (fixed_grows bytes more u ended size place n within)
body_of_grows bytes more u ended size chunked_body place a b within x y =
    subst₂ (BodyGrows bytes (bytes ++ more)) (sym x.3) (sym y.3) (chunks_grow bytes more u ended size place x.0 y.0 x.1 y.1 within x.2 y.2)
body_of_grows bytes more None ended size raw_body place a b within x y =
    subst₂ (BodyGrows bytes (bytes ++ more)) (sym x) (sym y)
    (between_grows bytes more place (length (bytes ++ more)) _ within (omega (arith, length-append bytes more)))
body_of_grows bytes more (Some limit) ended size raw_body place a b within x y =
    subst₂ (BodyGrows bytes (bytes ++ more)) (sym x.3) (sym y.3) (frames_grow limit bytes more place x.0 y.0 x.1 y.1 x.2 y.2)

-- the body behind a reading
pub body_grows : (bytes more : List ℕ) (u : Option ℕ) (ended : Bool) (size : ℕ) (r : Reading) (place : ℕ) (a b : Body) → place ≤ length bytes
    → IsBodyAfter (input bytes u false size) r place a → IsBodyAfter (input (bytes ++ more) u ended size) r place b
    → BodyGrows bytes (bytes ++ more) a b
body_grows bytes more u ended size (faulty fault) place a b within x y =
    subst₂ (BodyGrows bytes (bytes ++ more)) (sym x) (sym y) (same_grows bytes (bytes ++ more) no_content no_content refl refl)
body_grows bytes more u ended size (head_is h) place a b within x y = body_of_grows bytes more u ended size h.body place a b within x y
