-- The text of a body in chunks that pulls passed, and what it says of what was given.
use Rattle.std.proofs.Common.{◌≡◌, ℕ, ◌+◌, ◌-◌, ◌≤◌, Bool, true, false, List, [], ◌++◌, length, take, drop, sym, ap, ◌∙◌, arith, length-drop, length-take}
use Rattle.std.specs.Prelude.{◌||◌, slice_range}
use Rattle.std.proofs.lemmas.List.{drop-drop, take-append-drop, take_all}
use Rattle.std.proofs.Math.Seq.{take-add}
use Rattle.model_h1.specs.Place.{done, broken, start, after}
use Rattle.model_h1.specs.Reading.{Reading, read}
use Rattle.model_h1.proofs.ReadSteps.{read-nil}
use Rattle.model_h1.proofs.ReadAfter.{after-nil}

-- ---- parts of bytes

-- the bytes behind a part
part_rest : (bytes : List ℕ) (place upto : ℕ) → place ≤ upto → drop (upto - place) (drop place bytes) ≡ drop upto bytes
part_rest bytes place upto order =
    let same : place + (upto - place) ≡ upto = omega arith in
    drop-drop (upto - place) place bytes ∙ ap (λ n. drop n bytes) same

-- a part and what follows it
pub part_and_rest : (bytes : List ℕ) (place upto : ℕ) → place ≤ upto → slice_range bytes place upto ++ drop upto bytes ≡ drop place bytes
part_and_rest bytes place upto order =
    ap (λ l. slice_range bytes place upto ++ l) (sym (part_rest bytes place upto order)) ∙ take-append-drop (upto - place) (drop place bytes)

-- a part that ends later
pub part_longer : (bytes : List ℕ) (place upto size : ℕ) → place ≤ upto
    → slice_range bytes place (upto + size) ≡ slice_range bytes place upto ++ take size (drop upto bytes)
part_longer bytes place upto size order =
    let count : upto + size - place ≡ upto - place + size = omega arith in
    ap (λ n. take n (drop place bytes)) count ∙ take-add (upto - place) size (drop place bytes)
    ∙ ap (λ l. slice_range bytes place upto ++ take size l) (part_rest bytes place upto order)

-- how long a part is
pub part_length : (bytes : List ℕ) (place upto : ℕ) → upto ≤ length bytes → length (slice_range bytes place upto) ≡ upto - place
part_length bytes place upto within = omega (arith, length-take (upto - place) (drop place bytes), length-drop place bytes)

-- a part from its start on
pub part_front : (bytes : List ℕ) (place size : ℕ) → slice_range bytes place (place + size) ≡ take size (drop place bytes)
part_front bytes place size =
    let count : place + size - place ≡ size = omega arith in
    ap (λ n. take n (drop place bytes)) count

-- a part up to the end
pub part_all : (bytes : List ℕ) (place : ℕ) → slice_range bytes place (length bytes) ≡ drop place bytes
part_all bytes place = take_all (length bytes - place) (drop place bytes) (omega (arith, length-drop place bytes))

-- ---- what was given

-- The text between two places leads to no broken place, and holds so many body bytes as were given. It is a whole body
-- only where its trailers or its end were given, and where its trailers were.
pub record Follows (place upto : ℕ) (bytes : List ℕ) (given : ℕ) (told finished : Bool) : Type 0 where
  pub order : place ≤ upto
  pub within : upto ≤ length bytes
  pub unbroken : after start (slice_range bytes place upto) ≡ broken → ⊥
  pub given_is : length (read start (slice_range bytes place upto)).body ≡ given
  pub closes : after start (slice_range bytes place upto) ≡ done → (told || finished) ≡ true
  pub opens : told ≡ true → after start (slice_range bytes place upto) ≡ done

-- nothing is passed
pub nothing_follows : (place : ℕ) (bytes : List ℕ) → place ≤ length bytes → Follows place place bytes 0 false false
nothing_follows place bytes within =
    let none : slice_range bytes place place ≡ [] =
    let count : place - place ≡ 0 = omega arith in ap (λ n. take n (drop place bytes)) count in
    let here : after start (slice_range bytes place place) ≡ start = ap (after start) none ∙ after-nil start in
    record {
      order = omega arith;
      within = within;
      unbroken = λ e. let same = sym here ∙ e in cc;
      given_is = ap (λ l. length (read start l).body) none ∙ ap (λ (r : Reading). length r.body) (read-nil start);
      closes = λ e. let same = sym here ∙ e in cc;
      opens = λ e. cc;
    }
