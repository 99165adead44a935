-- What the places decide of bytes: they are a whole body with what follows it, the beginning of one, or neither.
use Rattle.std.proofs.Common.{◌≡◌, ℕ, ◌+◌, ◌<◌, ◌⊎◌, List, [], ◌∷◌, ◌++◌, length, take, drop, refl, sym, ap, ◌∙◌, subst, inl, inr, arith}
use Rattle.std.proofs.lemmas.List.{append_assoc, append-nil, length-append, take-append-le, take_at, take-take, take-append-drop}
use Rattle.std.proofs.lemmas.Bool.{cases_lt}
use Rattle.model_h1.specs.ChunkedText.{Trailer, ChunkedText, chunked_text}
use Rattle.model_h1.specs.Runs.{Run, cut_runs}
use Rattle.model_h1.specs.Chunked.{Chunked, whole, unfinished, not_chunked, Spells, IsBeginning, IsLongestBeginning, IsChunked}
use Rattle.model_h1.specs.Place.{Place, done, broken, start, after}
use Rattle.model_h1.specs.Reading.{goes_on, ends_before, at_end, read}
use Rattle.model_h1.proofs.Sound.{ended_is_text}
use Rattle.model_h1.proofs.Live.{open_begins}
use Rattle.model_h1.proofs.ReadAfter.{after-nil, after-append, after-broken, ending_after}
use Rattle.model_h1.proofs.RunPlaces.{runs_of}
use Rattle.model_h1.proofs.Beginnings.{after-body, runs_of-body, begins_take, begins_not_done, begins_not_broken, whole_not_begun, begins_runs}

-- ---- places

-- the body goes on there
pub record IsLive (place : Place) : Type 0 where
  pub not_done : place ≡ done → ⊥
  pub not_broken : place ≡ broken → ⊥

-- each place is behind a body, or broken, or the body goes on
pub verdict : (place : Place) → (place ≡ done) ⊎ ((place ≡ broken) ⊎ IsLive place)
verdict done = inl refl
verdict broken = inr (inl refl)
verdict place = inr (inr (record { not_done = λ e. cc; not_broken = λ e. cc }))

-- such a body neither ends there nor is broken
pub live_end : (place : Place) → IsLive place → at_end place ≡ goes_on
live_end done live = absurd (live.not_done refl)
live_end broken live = absurd (live.not_broken refl)
live_end place live = refl

-- bytes that lead behind a body are one
pub spells_from_done : (bytes : List ℕ) → after start bytes ≡ done → (t : ChunkedText) × Spells bytes t
spells_from_done bytes e =
    let ends : (read start bytes).ending ≡ ends_before [] = ending_after start bytes (λ breaks. cc) ∙ ap at_end e in
    let t = ended_is_text bytes [] ends in
    (t.0, (t.1, t.2 ∙ append-nil (chunked_text t.0)))

-- bytes behind which a body goes on begin one
pub begins_from_live : (bytes : List ℕ) → IsLive (after start bytes) → (t : ChunkedText) × IsBeginning bytes t
begins_from_live bytes live = open_begins bytes (ending_after start bytes live.not_broken ∙ live_end (after start bytes) live)

-- ---- from places to the grammar

-- bytes behind which a body goes on are unfinished
pub unfinished_from_live : (bytes : List ℕ) → IsLive (after start bytes)
    → IsChunked bytes unfinished (cut_runs (length bytes) (runs_of 0 start bytes))
unfinished_from_live bytes live =
    let t = begins_from_live bytes live in
    (t.0, t.1, sym (begins_runs bytes t.0 t.1))

-- the text stands in one of the three ways
abbrev pub IsRead : List ℕ → Type 0
IsRead bytes = (a : Chunked) × (runs : List Run) × IsChunked bytes a runs

-- bytes that lead behind a body are whole, whatever follows
whole_from_done : (bytes rest : List ℕ) → after start bytes ≡ done → IsRead (bytes ++ rest)
whole_from_done bytes rest e =
    let t = spells_from_done bytes e in (
      whole (length bytes) t.0.trailers,
      runs_of 0 start bytes,
      (
        t.0,
        omega (arith, length-append bytes rest),
        subst (λ l. Spells l t.0) (sym (take_at bytes rest (length bytes) refl)) t.1,
        refl,
        runs_of-body bytes t.0 t.1,
      ),
    )

-- a text with a broken front is broken
pub broken_from_front : (n : ℕ) (bytes front : List ℕ) → take n bytes ≡ front → after start front ≡ broken → after start bytes ≡ broken
broken_from_front n bytes front e breaks =
    ap (after start) (sym (take-append-drop n bytes)) ∙ after-append start (take n bytes) (drop n bytes)
    ∙ ap (λ l. after (after start l) (drop n bytes)) e ∙ ap (λ p. after p (drop n bytes)) breaks ∙ after-broken (drop n bytes)

-- the front of the text up to a byte
front_with : (front rest : List ℕ) (b k : ℕ) → length front < k → take (length front + 1) (take k (front ++ b ∷ rest)) ≡ front ++ b ∷ []
front_with front rest b k longer =
    let here : length (front ++ b ∷ []) ≡ length front + 1 = omega (arith, length-append front (b ∷ [])) in
    take-take (length front + 1) k (front ++ b ∷ rest) (omega arith)
    ∙ ap (take (length front + 1)) (sym (append_assoc front (b ∷ []) rest))
    ∙ take_at (front ++ b ∷ []) rest (length front + 1) here

-- the byte behind the front breaks each longer front
longer_breaks : (front rest : List ℕ) (b k : ℕ) → after start (front ++ b ∷ []) ≡ broken → length front < k
    → after start (take k (front ++ b ∷ rest)) ≡ broken
longer_breaks front rest b k breaks longer =
    broken_from_front (length front + 1) (take k (front ++ b ∷ rest)) (front ++ b ∷ []) (front_with front rest b k longer) breaks

-- no front of the text is a whole body
no_whole : (front rest : List ℕ) (b k : ℕ) (t u : ChunkedText) → IsBeginning front u → after start (front ++ b ∷ []) ≡ broken
    → Spells (take k (front ++ b ∷ rest)) t → ⊥
no_whole front rest b k t u begun breaks x = elim (cases_lt (length front) k) [
  | inl longer ↦
      let ends = after-body (take k (front ++ b ∷ rest)) t x in
      let stops = longer_breaks front rest b k breaks longer in
      cc
  | inr within ↦
      let same = take-append-le k front (b ∷ rest) within in
      whole_not_begun (take k front) t u (subst (λ l. Spells l t) same x) (begins_take k front u begun)
]

-- a byte that breaks a body that goes on
pub not_chunked_from_broken : (front rest : List ℕ) (b : ℕ) → IsLive (after start front) → after start (front ++ b ∷ []) ≡ broken
    → IsChunked (front ++ b ∷ rest) not_chunked (cut_runs (length front) (runs_of 0 start front))
not_chunked_from_broken front rest b live breaks =
    let t = begins_from_live front live in (
      t.0,
      length front,
      record {
        within = omega (arith, length-append front (b ∷ rest));
        begins = subst (λ l. IsBeginning l t.0) (sym (take_at front (b ∷ rest) (length front) refl)) t.1;
        longest = λ n longer _ c x. begins_not_broken (take n (front ++ b ∷ rest)) c x (longer_breaks front rest b n breaks longer);
      },
      λ k c x. no_whole front rest b k c t.0 t.1 breaks x,
      sym (begins_runs front t.0 t.1),
    )

-- how the text stands, where the body goes on behind its front
read_on : (rest front : List ℕ) → IsLive (after start front) → IsRead (front ++ rest)
read_on [] front live =
    subst IsRead (sym (append-nil front)) (unfinished, cut_runs (length front) (runs_of 0 start front), unfinished_from_live front live)
read_on (b ∷ rest) front live =
    let longer = front ++ b ∷ [] in
    let regrouped : longer ++ rest ≡ front ++ b ∷ rest = append_assoc front (b ∷ []) rest in
    elim (verdict (after start longer)) [
      | inl ends ↦ subst IsRead regrouped (whole_from_done longer rest ends)
      | inr (inl breaks) ↦ (not_chunked, cut_runs (length front) (runs_of 0 start front), not_chunked_from_broken front rest b live breaks)
      | inr (inr alive) ↦ subst IsRead regrouped (read_on rest longer alive)
    ]

-- the body goes on at the start
start_is_live : IsLive (after start [])
start_is_live =
    let e = after-nil start in
    record { not_done = λ d. cc; not_broken = λ d. cc }

-- every text is of one of the three kinds
pub every_text_read : (bytes : List ℕ) → (a : Chunked) × (runs : List Run) × IsChunked bytes a runs
every_text_read bytes = read_on bytes [] start_is_live

-- ---- from the grammar to places

-- the bytes of a whole body lead behind it
pub whole_after : (bytes : List ℕ) (k : ℕ) (trailers : List Trailer) (runs : List Run) → IsChunked bytes (whole k trailers) runs
    → after start (take k bytes) ≡ done
whole_after bytes k trailers runs x = after-body (take k bytes) x.0 x.2

-- behind bytes that begin a body it goes on
pub begins_live : (bytes : List ℕ) (t : ChunkedText) → IsBeginning bytes t → IsLive (after start bytes)
begins_live bytes t x = record { not_done = begins_not_done bytes t x; not_broken = begins_not_broken bytes t x }

-- behind an unfinished body's bytes it goes on
pub unfinished_after : (bytes : List ℕ) (runs : List Run) → IsChunked bytes unfinished runs → IsLive (after start bytes)
unfinished_after bytes runs x = begins_live bytes x.0 x.1

-- behind the longest beginning one more byte breaks it
pub next_breaks : (bytes : List ℕ) (len : ℕ) (t : ChunkedText) → IsLongestBeginning bytes len t
    → ((k : ℕ) (u : ChunkedText) → ¬ (Spells (take k bytes) u)) → after start (take (len + 1) bytes) ≡ broken
next_breaks bytes len t x none = elim (verdict (after start (take (len + 1) bytes))) [
  | inl ends ↦
      let u = spells_from_done (take (len + 1) bytes) ends in
      absurd (none (len + 1) u.0 u.1)
  | inr (inl breaks) ↦ breaks
  | inr (inr live) ↦
      let u = begins_from_live (take (len + 1) bytes) live in
      absurd (x.longest (len + 1) (omega arith) (omega (arith, x.within)) u.0 u.1)
]

-- bytes that begin no body are broken
pub broken_after : (bytes : List ℕ) (runs : List Run) → IsChunked bytes not_chunked runs → after start bytes ≡ broken
broken_after bytes runs x = broken_from_front (x.1 + 1) bytes (take (x.1 + 1) bytes) refl (next_breaks bytes x.1 x.0 x.2 x.3)
