-- What is left of a body behind a place, by its kind and the bytes alone: bytes that follow leave it.
use Rattle.std.proofs.Common.{◌≡◌, ℕ, zero, suc, ◌+◌, ◌-◌, ◌<◌, ◌≤◌, Bool, true, false, List, [], ◌∷◌, ◌++◌, length, take, drop, slice_range, Some, None, refl, sym, ap, ◌∙◌, inl, inr, arith, length-drop}
use Rattle.std.specs.Prelude.{nat_le, unwrap_or, if◌then◌else◌}
use Rattle.std.proofs.lemmas.Bool.{cond-true, cond-false, cases_lt, le-leb, lt-leb}
use Rattle.std.proofs.lemmas.List.{drop_all, take-take, take-append-le, drop-append-le, take-append-drop, length-take-le}
use Rattle.model_h1.specs.Chunked.{Chunked, whole, unfinished, not_chunked, IsChunked}
use Rattle.model_h1.specs.Runs.{Run}
use Rattle.model_h1.specs.Place.{Place, done, broken, start, after}
use Rattle.model_h1.specs.Reading.{goes_on, is_broken, ends_before, Reading, read}
use Rattle.model_h1.proofs.ReadSteps.{read_done}
use Rattle.model_h1.proofs.ReadAfter.{after-append, done_stops, read-append}
use Rattle.model_h1.proofs.Verdicts.{whole_after}
use Rattle.model_h1.proofs.Agreement.{unfinished_read, broken_read}
use Rattle.model_h1.specs.Request.{BodyKind, no_body, fixed_body, chunked_body, raw_body}
use Rattle.model_h1.specs.Parse.{Message, content, next_start, open_or_cut, shifted, chunked_stop, IsBodyOf}
use Rattle.model_h1.proofs.BodyLemmas.{input}
use Rattle.model_h1.proofs.CarriedLemmas.{end_of}
use Rattle.model_state.specs.Kept.{Rest, no_rest, raw_rest, fixed_rest, chunks_rest, rest_in}
use Rattle.model_state.specs.KeptOf.{is_passed, fixed_left}
use Rattle.model_state.proofs.QuietParts.{rest_by}

-- ---- what is left, by the bytes

-- nothing behind a whole body
abbrev pub chunks_at : Place → List ℕ → Rest
chunks_at done section = no_rest
chunks_at place section = chunks_rest place section

-- behind a front of a body in chunks, with the text of the trailer lines in it, or where nobody asks for that
abbrev pub chunks_behind : Bool → List ℕ → Rest
chunks_behind complete front = chunks_at (after start front) (if complete then [] else (read start front).trailers)

-- of a raw body, so many bytes of which have come
abbrev pub raw_at : Bool → ℕ → ℕ → Rest
raw_at true len place = if nat_le len place then no_rest else raw_rest
raw_at false len place = raw_rest

-- what is left of a body of this kind that begins at a place, behind another place, on no WebSocket
abbrev pub left_at : Bool → Bool → BodyKind → ℕ → ℕ → List ℕ → Rest
left_at ended complete no_body from place bytes = no_rest
left_at ended complete (fixed_body n) from place bytes = fixed_left (from + n) place
left_at ended complete chunked_body from place bytes = chunks_behind complete (slice_range bytes from place)
left_at ended complete raw_body from place bytes = raw_at ended (length bytes) place

-- the bytes between two places stay
front_stays : (from place : ℕ) (bytes more : List ℕ) → from ≤ length bytes → place ≤ length bytes
    → slice_range (bytes ++ more) from place ≡ slice_range bytes from place
front_stays from place bytes more behind within =
    ap (take (place - from)) (drop-append-le from bytes more behind)
    ∙ take-append-le (place - from) (drop from bytes) more (omega (arith, length-drop from bytes))

-- bytes that follow leave it
pub left_stays : (complete : Bool) (kind : BodyKind) (from place : ℕ) (bytes more : List ℕ) → from ≤ length bytes → place ≤ length bytes
    → left_at false complete kind from place (bytes ++ more) ≡ left_at false complete kind from place bytes
left_stays complete no_body from place bytes more behind within = refl
left_stays complete (fixed_body n) from place bytes more behind within = refl
left_stays complete chunked_body from place bytes more behind within = ap (chunks_behind complete) (front_stays from place bytes more behind within)
left_stays complete raw_body from place bytes more behind within = refl

-- with the input's end a raw body of which no byte is left ends
pub left_ends : (complete : Bool) (kind : BodyKind) (from place : ℕ) (bytes : List ℕ)
    → rest_in true (drop place bytes) (left_at false complete kind from place bytes) ≡ left_at true complete kind from place bytes
left_ends complete no_body from place bytes = no_in (drop place bytes)
  where
    no_in : (unread : List ℕ) → rest_in true unread no_rest ≡ no_rest
    no_in [] = refl
    no_in (b ∷ unread) = refl
left_ends complete (fixed_body n) from place bytes = fixed_in (nat_le (from + n) place) (drop place bytes)
  where
    fixed_in : (passed : Bool) (unread : List ℕ)
        → rest_in true unread (if passed then no_rest else fixed_rest (from + n - place))
        ≡ (if passed then no_rest else fixed_rest (from + n - place))
    fixed_in true [] = refl
    fixed_in true (b ∷ unread) = refl
    fixed_in false [] = refl
    fixed_in false (b ∷ unread) = refl
left_ends complete chunked_body from place bytes =
    let front = slice_range bytes from place in
    chunks_in (drop place bytes) (after start front) (if complete then [] else (read start front).trailers)
  where
    chunks_in : (unread : List ℕ) (at : Place) (section : List ℕ) → rest_in true unread (chunks_at at section) ≡ chunks_at at section
    chunks_in [] at section = nothing at
      where
        nothing : (at : Place) → rest_in true [] (chunks_at at section) ≡ chunks_at at section
        nothing done = refl
        nothing at = refl
    chunks_in (b ∷ unread) at section = refl
left_ends complete raw_body from place bytes = elim (cases_lt place (length bytes)) [
  | inl less ↦
      more (drop place bytes) (omega (arith, length-drop place bytes))
      ∙ sym (cond-false (nat_le (length bytes) place) _ _ (lt-leb (length bytes) place less))
  | inr past ↦
      ap (λ u. rest_in true u raw_rest) (drop_all place bytes past) ∙ sym (cond-true (nat_le (length bytes) place) _ _ (le-leb (length bytes) place past))
]
  where
    more : (unread : List ℕ) → 0 < length unread → rest_in true unread raw_rest ≡ raw_rest
    more [] some = absurd (omega arith)
    more (b ∷ unread) some = refl

-- ---- chunks

-- behind a place that is no end the chunks from there on are left
chunks_left : (place : Place) (section : List ℕ) → (place ≡ done → ⊥) → chunks_at place section ≡ chunks_rest place section
chunks_left done section e = absurd (e refl)
chunks_left place section e = refl

-- what is read of these bytes has no end
abbrev IsEndless : List ℕ → Type 0
IsEndless bytes = (behind : List ℕ) → (read start bytes).ending ≡ ends_before behind → ⊥

-- then no front of them is a whole body
front_open : (n : ℕ) (bytes : List ℕ) → IsEndless bytes → after start (take n bytes) ≡ done → ⊥
front_open n bytes endless ends =
    let front = take n bytes in
    let rest = drop n bytes in
    let unbroken : after start front ≡ broken → ⊥ = λ breaks. let wrong : done ≡ broken = sym ends ∙ breaks in cc in
    endless rest
    (ap (λ l. (read start l).ending) (sym (take-append-drop n bytes)) ∙ ap (λ (r : Reading). r.ending) (read-append start front rest unbroken)
    ∙ ap (λ p. (read p rest).ending) ends ∙ ap (λ (r : Reading). r.ending) (read_done rest))

-- bytes of no whole body have no end
unfinished_open : (bytes : List ℕ) (runs : List Run) → IsChunked bytes unfinished runs → IsEndless bytes
unfinished_open bytes runs x behind e =
    let same : goes_on ≡ ends_before behind = sym (unfinished_read bytes runs x) ∙ e in
    cc

-- nor have those that break one
not_chunked_open : (bytes : List ℕ) (runs : List Run) → IsChunked bytes not_chunked runs → IsEndless bytes
not_chunked_open bytes runs x behind e =
    let same : is_broken ≡ ends_before behind = sym (broken_read bytes runs x) ∙ e in
    cc

-- no shorter front of a whole body is one
shorter_open : (n k : ℕ) (text : List ℕ) → n < k → k ≤ length text → after start (take k text) ≡ done → after start (take n text) ≡ done → ⊥
shorter_open n k text less fits full ends =
    let front = take k text in
    let len = length-take-le k text fits in
    let same = take-take n k text (omega arith) in
    let split = ap (after start) (sym (take-append-drop n front)) ∙ after-append start (take n front) (drop n front) in
    let there = split ∙ ap (λ l. after (after start l) (drop n front)) same ∙ ap (λ p. after p (drop n front)) ends in
    let stops = there ∙ done_stops (drop n front) (omega (arith, length-drop n front)) in
    let wrong : done ≡ broken = sym full ∙ stops in
    cc

-- whether the end of a body is passed
passed_at : (place : ℕ) (m : Message) (end : ℕ) → next_start m.body ≡ Some end → is_passed place m ≡ nat_le end place
passed_at place m end e = rw e refl

-- a body without an end is never passed
passed_never : (place : ℕ) (m : Message) → next_start m.body ≡ None → is_passed place m ≡ false
passed_never place m e = rw e refl

-- what is left behind a place in a body in chunks
abbrev LeftIs : ℕ → Message → List ℕ → List ℕ → Type 0
LeftIs place m section front =
    (if is_passed place m then no_rest else chunks_rest (after start front) section) ≡ chunks_at (after start front) section

-- a body that has no end
open_left : (place : ℕ) (m : Message) (bytes section : List ℕ) → next_start m.body ≡ None → IsEndless (drop m.body_start bytes)
    → LeftIs place m section (slice_range bytes m.body_start place)
open_left place m bytes section none endless =
    let text = drop m.body_start bytes in
    let n = place - m.body_start in
    cond-false (is_passed place m) _ _ (passed_never place m none) ∙ sym (chunks_left (after start (take n text)) section (front_open n text endless))

-- a whole one
whole_left : (place k : ℕ) (m : Message) (bytes section : List ℕ) → next_start m.body ≡ Some (m.body_start + k) → place ≤ m.body_start + k
    → k ≤ length (drop m.body_start bytes) → 0 < k → after start (take k (drop m.body_start bytes)) ≡ done
    → LeftIs place m section (slice_range bytes m.body_start place)
whole_left place k m bytes section next within fits some full =
    let text = drop m.body_start bytes in
    let n = place - m.body_start in
    let test = passed_at place m (m.body_start + k) next in
    elim (cases_lt place (m.body_start + k)) [
      | inl less ↦
          cond-false (is_passed place m) _ _ (test ∙ lt-leb (m.body_start + k) place less)
          ∙ sym (chunks_left (after start (take n text)) section (shorter_open n k text (omega arith) fits full))
      | inr past ↦
          let same : n ≡ k = omega arith in
          cond-true (is_passed place m) _ _ (test ∙ le-leb (m.body_start + k) place past)
          ∙ ap (λ p. chunks_at p section) (sym (ap (λ j. after start (take j text)) same ∙ full))
    ]

-- a whole body has bytes
whole_some : (k : ℕ) (text : List ℕ) → after start (take k text) ≡ done → 0 < k
unfolding after
whole_some zero text e = cc
whole_some (suc k) text e = omega arith

-- no stop of an unfinished body is an end
cut_next : (runs : List Run) (ended : Bool) → next_start (content runs (open_or_cut ended)) ≡ None
cut_next runs true = refl
cut_next runs false = refl

-- each body in chunks
chunks_left_is : (ended : Bool) (size place : ℕ) (m : Message) (bytes section : List ℕ) (a : Chunked) (runs : List Run)
    → IsChunked (drop m.body_start bytes) a runs
    → m.body ≡ content (shifted m.body_start runs) (chunked_stop (input bytes None ended size) m.body_start a) → place ≤ end_of (length bytes) m.body
    → LeftIs place m section (slice_range bytes m.body_start place)
chunks_left_is ended size place m bytes section (whole k trailers) runs x is within =
    let next = ap next_start is in
    let ends = whole_after (drop m.body_start bytes) k trailers runs x in
    let end : end_of (length bytes) m.body ≡ m.body_start + k = ap (λ o. unwrap_or o (length bytes)) next in
    whole_left place k m bytes section next (omega arith) x.1 (whole_some k (drop m.body_start bytes) ends) ends
chunks_left_is ended size place m bytes section unfinished runs x is within =
    open_left place m bytes section (ap next_start is ∙ cut_next (shifted m.body_start runs) ended) (unfinished_open (drop m.body_start bytes) runs x)
chunks_left_is ended size place m bytes section not_chunked runs x is within =
    open_left place m bytes section (ap next_start is) (not_chunked_open (drop m.body_start bytes) runs x)

-- ---- each kind

-- What is left of a message's body behind a place is what is left by the bytes, where no WebSocket is.
pub left_is : (ended complete receiving : Bool) (size place : ℕ) (m : Message) (kind : BodyKind) (bytes : List ℕ)
    → IsBodyOf (input bytes None ended size) kind m.body_start m.body → place ≤ end_of (length bytes) m.body
    → rest_by place bytes complete None receiving m kind ≡ left_at ended complete kind m.body_start place bytes
left_is ended complete receiving size place m no_body bytes x within = refl
left_is ended complete receiving size place m (fixed_body n) bytes x within = refl
left_is ended complete receiving size place m chunked_body bytes x within =
    chunks_left_is ended size place m bytes _ x.0 x.1 x.2 x.3 within
left_is true complete receiving size place m raw_body bytes x within =
    ap (λ b. if b then no_rest else raw_rest) (passed_at place m (length bytes) (ap next_start x))
left_is false complete receiving size place m raw_body bytes x within =
    cond-false (is_passed place m) no_rest raw_rest (passed_never place m (ap next_start x))
