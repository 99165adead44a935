-- The runs hold the bytes that are read as the body's.
use Rattle.std.proofs.Common.{◌≡◌, ℕ, suc, ◌+◌, ◌-◌, ◌*◌, ◌^◌, ◌≤◌, Bool, true, false, cond, eqb, ltb, min, List, [], ◌∷◌, ◌++◌, length, take, drop, refl, sym, ap, ◌∙◌, arith, inl, inr}
use Rattle.std.specs.Prelude.{slice_range}
use Rattle.std.specs.Char.{digit_value}
use Rattle.std.proofs.lemmas.List.{append-nil, drop_all, drop-drop, length-take, length-drop, take-take, take_all}
use Rattle.std.proofs.lemmas.List.Concat.{flat_map-append}
use Rattle.std.proofs.lemmas.Slice.{between_is}
use Rattle.std.proofs.lemmas.Bool.{cond_both, cond-true, cond-false, cases_lt, cases_eq, cases_Bool, ltb-false, ne_eqb, lt-ltb}
use Rattle.httparse.specs.Grammar.{is_ows, is_value_byte}
use Rattle.model_h1.specs.Runs.{Run, cut_runs, run_bytes}
use Rattle.model_h1.specs.Place.{Place, in_size, in_blanks, in_extension, size_cr, in_bytes, bytes_end, bytes_cr, in_section, done, broken, start, section_start, after_digits, size_step, extension_step, after_line, bytes_step, step}
use Rattle.model_h1.specs.Reading.{Reading, noted, read}
use Rattle.model_h1.proofs.RunPlaces.{run_at, opened, runs_of, runs_of-nil, runs_of-cons, is_late, late_step, runs_of_late}

-- ---- runs behind the bytes

-- no byte is behind the end
slice_past : (bytes : List ℕ) (from to : ℕ) → length bytes ≤ from → slice_range bytes from to ≡ []
slice_past bytes from to past = between_is bytes from to ∙ drop_all from (take to bytes) (omega (arith, length-take to bytes))

-- nor in runs that begin there
opened_bytes_past : (bytes : List ℕ) (place : ℕ) (at : Place) (b : ℕ) → length bytes ≤ place → run_bytes bytes (opened place at b) ≡ []
opened_bytes_past bytes place (size_cr n) b past =
    cond_both (eqb b 10) (run_at (place + 1) n) [] (λ l. run_bytes bytes l ≡ [])
    (λ _. cond_both (ltb 0 n) (record { start = place + 1; end = place + 1 + n } ∷ []) [] (λ l. run_bytes bytes l ≡ [])
    (λ _. ap (λ l. l ++ []) (slice_past bytes (place + 1) (place + 1 + n) (omega arith))) (λ _. refl))
    (λ _. refl)
opened_bytes_past bytes place at b past = refl

-- nor in those that the walk finds there
pub walked_bytes_past : (text bytes : List ℕ) (place : ℕ) (at : Place) → length bytes ≤ place → run_bytes bytes (runs_of place at text) ≡ []
walked_bytes_past [] bytes place at past = ap (run_bytes bytes) (runs_of-nil place at)
walked_bytes_past (b ∷ text) bytes place at past =
    ap (run_bytes bytes) (runs_of-cons place at b text)
    ∙ flat_map-append (λ r. slice_range bytes r.start r.end) (opened place at b) (runs_of (place + 1) (step at b) text)
    ∙ ap (λ l. l ++ run_bytes bytes (runs_of (place + 1) (step at b) text)) (opened_bytes_past bytes place at b past)
    ∙ walked_bytes_past text bytes (place + 1) (step at b) (omega arith)

-- ---- runs up to a length

-- a part of a front
slice_cut : (bytes : List ℕ) (from to len : ℕ) → slice_range bytes from (min to len) ≡ slice_range (take len bytes) from to
slice_cut bytes from to len = elim (cases_lt len to) [
  | inl longer ↦
      let shorter : min to len ≡ len = omega arith in
      between_is bytes from (min to len) ∙ ap (λ n. drop from (take n bytes)) shorter
      ∙ ap (drop from) (sym (take_all to (take len bytes) (omega (arith, length-take len bytes)))) ∙ sym (between_is (take len bytes) from to)
  | inr within ↦
      let shorter : min to len ≡ to = omega arith in
      between_is bytes from (min to len) ∙ ap (λ n. drop from (take n bytes)) shorter
      ∙ ap (drop from) (sym (take-take to len bytes within)) ∙ sym (between_is (take len bytes) from to)
]

-- one more run in front of those that are cut
cut_bytes_more : (bytes : List ℕ) (len : ℕ) (r : Run) (rs : List Run) → (len ≤ r.start → run_bytes (take len bytes) rs ≡ [])
    → run_bytes bytes (cut_runs len rs) ≡ run_bytes (take len bytes) rs
    → run_bytes bytes (cut_runs len (r ∷ rs)) ≡ run_bytes (take len bytes) (r ∷ rs)
unfolding cut_runs
cut_bytes_more bytes len r rs none e =
    cond_both (ltb r.start len) _ _ (λ l. run_bytes bytes l ≡ run_bytes (take len bytes) (r ∷ rs))
    (λ _. λ i. slice_cut bytes r.start r.end len i ++ e i)
    (λ late.
    let past : len ≤ r.start = ltb-false r.start len late in
    let empty = slice_past (take len bytes) r.start r.end (omega (arith, length-take len bytes)) in
    sym (λ i. empty i ++ none past i))

-- the run that begins behind a byte, in front of those that are cut
cut_bytes_opened : (bytes : List ℕ) (len place : ℕ) (at : Place) (b : ℕ) (rs : List Run) → (len ≤ place + 1 → run_bytes (take len bytes) rs ≡ [])
    → run_bytes bytes (cut_runs len rs) ≡ run_bytes (take len bytes) rs
    → run_bytes bytes (cut_runs len (opened place at b ++ rs)) ≡ run_bytes (take len bytes) (opened place at b ++ rs)
cut_bytes_opened bytes len place (size_cr n) b rs none e =
    let holds = λ (l : List Run). run_bytes bytes (cut_runs len (l ++ rs)) ≡ run_bytes (take len bytes) (l ++ rs) in
    cond_both (eqb b 10) (run_at (place + 1) n) [] holds
    (λ _. cond_both (ltb 0 n) (record { start = place + 1; end = place + 1 + n } ∷ []) [] holds
    (λ _. cut_bytes_more bytes len (record { start = place + 1; end = place + 1 + n }) rs none e) (λ _. e))
    (λ _. e)
cut_bytes_opened bytes len place at b rs none e = e

-- the runs cut to a length hold the bytes of a front of that length
pub cut_bytes : (text bytes : List ℕ) (len place : ℕ) (at : Place)
    → run_bytes bytes (cut_runs len (runs_of place at text)) ≡ run_bytes (take len bytes) (runs_of place at text)
unfolding runs_of cut_runs
cut_bytes [] bytes len place at = refl
cut_bytes (b ∷ text) bytes len place at =
    let next = step at b in
    cut_bytes_opened bytes len place at b (runs_of (place + 1) next text)
    (λ past. walked_bytes_past text (take len bytes) (place + 1) next (omega (arith, length-take len bytes)))
    (cut_bytes text bytes len (place + 1) next)

-- ---- runs and what is read

-- in a chunk
abbrev pub in_chunk : Place → Bool
in_chunk (in_bytes more) = true
in_chunk at = false

-- the rest of the run at a place in a chunk
abbrev pub current : ℕ → Place → List Run
current place (in_bytes more) = record { start = place; end = place + more + 1 } ∷ []
current place at = []

-- a byte outside of a chunk is none of the body's
noted_body : (at next : Place) (b : ℕ) (r : Reading) → in_chunk at ≡ false → (noted at next b r).body ≡ r.body
noted_body (in_bytes more) next b r outside = cc
noted_body (in_section at lines room) (in_section at' lines' room') b r outside = refl
noted_body at next b r outside = refl

-- a choice between two places outside of chunks is one
current_choice : (b : Bool) (place : ℕ) (x y : Place) → current place x ≡ [] → current place y ≡ [] → current place (cond b x y) ≡ []
current_choice true place x y none_x none_y = none_x
current_choice false place x y none_x none_y = none_y

-- no run goes on behind the last size line
current_late : (place : ℕ) (at : Place) → is_late at ≡ true → current place at ≡ []
current_late place (in_bytes more) late = cc
current_late place at late = refl

-- nor behind the digits of a size line
current_after_digits : (place n b : ℕ) → current place (after_digits n b) ≡ []
current_after_digits place n b =
    current_choice (is_ows b) place (in_blanks n) _ refl
    (current_choice (eqb b 59) place (in_extension n) _ refl (current_choice (eqb b 13) place (size_cr n) broken refl refl))

-- nor at one more digit
current_size : (place n b : ℕ) → current place (size_step n b) ≡ []
current_size place n b =
    current_choice (ltb (digit_value b) 16) place _ (after_digits n b)
    (current_choice (ltb (n * 16 + digit_value b) (2 ^ 64)) place (in_size (n * 16 + digit_value b)) broken refl refl)
    (current_after_digits place n b)

-- nor in an extension
current_extension : (place n b : ℕ) → current place (extension_step n b) ≡ []
current_extension place n b =
    current_choice (eqb b 13) place (size_cr n) _ refl (current_choice (is_value_byte b) place (in_extension n) broken refl refl)

-- the run that begins behind a size line
opened_line : (place n : ℕ) → run_at (place + 1) n ≡ current (place + 1) (after_line n)
opened_line place n = elim (cases_eq n 0) [
  | inl zero ↦ ap (λ m. run_at (place + 1) m) zero ∙ sym (ap (λ m. current (place + 1) (after_line m)) zero)
  | inr some ↦
      let same : place + 1 + n ≡ place + 1 + (n - 1) + 1 = omega arith in
      cond-true (ltb 0 n) _ [] (lt-ltb 0 n (omega arith)) ∙ ap (λ m. record { start = place + 1; end = m } ∷ []) same
      ∙ ap (current (place + 1)) (sym (cond-false (eqb n 0) section_start (in_bytes (n - 1)) (ne_eqb n 0 some)))
]

-- the run that begins behind a byte outside of a chunk goes on there
pub opened_is_current : (place : ℕ) (at : Place) (b : ℕ) → in_chunk at ≡ false → opened place at b ≡ current (place + 1) (step at b)
opened_is_current place (in_size n) b outside = sym (current_size (place + 1) n b)
opened_is_current place (in_blanks n) b outside = sym (current_after_digits (place + 1) n b)
opened_is_current place (in_extension n) b outside = sym (current_extension (place + 1) n b)
opened_is_current place (size_cr n) b outside = elim (cases_Bool (eqb b 10)) [
  | inl line_feed ↦
      cond-true (eqb b 10) _ [] line_feed ∙ opened_line place n
      ∙ ap (current (place + 1)) (sym (cond-true (eqb b 10) (after_line n) broken line_feed))
  | inr other ↦
      cond-false (eqb b 10) _ [] other ∙ ap (current (place + 1)) (sym (cond-false (eqb b 10) (after_line n) broken other))
]
opened_is_current place (in_bytes more) b outside = cc
opened_is_current place bytes_end b outside = sym (current_choice (eqb b 13) (place + 1) bytes_cr broken refl refl)
opened_is_current place bytes_cr b outside = sym (current_choice (eqb b 10) (place + 1) start broken refl refl)
opened_is_current place at b outside = sym (current_late (place + 1) (step at b) (late_step at b refl))

-- the bytes of a part whose first is known
slice_first : (bytes rest : List ℕ) (place n b : ℕ) → drop place bytes ≡ b ∷ rest → slice_range bytes place (place + n + 1) ≡ b ∷ take n rest
slice_first bytes rest place n b e =
    let size : place + n + 1 - place ≡ suc n = omega arith in
    (λ i. take (size i) (e i))

-- one byte further on
drop_further : (bytes rest : List ℕ) (place b : ℕ) → drop place bytes ≡ b ∷ rest → drop (place + 1) bytes ≡ rest
drop_further bytes rest place b e = sym (drop-drop 1 place bytes) ∙ ap (drop 1) e

-- the bytes of a chunk behind its first
current_bytes : (bytes rest : List ℕ) (place more : ℕ) → drop place bytes ≡ rest → run_bytes bytes (current place (bytes_step more)) ≡ take more rest
current_bytes bytes rest place more e = elim (cases_eq more 0) [
  | inl zero ↦ ap (λ n. run_bytes bytes (current place (bytes_step n))) zero ∙ ap (λ n. take n rest) (sym zero)
  | inr some ↦
      let size : place + (more - 1) + 1 - place ≡ more = omega arith in
      ap (λ p. run_bytes bytes (current place p)) (cond-false (eqb more 0) bytes_end (in_bytes (more - 1)) (ne_eqb more 0 some))
      ∙ append-nil (slice_range bytes place (place + (more - 1) + 1)) ∙ (λ i. take (size i) (e i))
]

-- behind the bytes no run goes on
current_at_end : (bytes : List ℕ) (place : ℕ) (at : Place) → drop place bytes ≡ [] → run_bytes bytes (current place at) ≡ []
current_at_end bytes place (in_bytes more) e =
    let past : length bytes ≤ place = omega (arith, length-drop place bytes, ap length e) in
    append-nil (slice_range bytes place (place + more + 1)) ∙ slice_past bytes place (place + more + 1) past
current_at_end bytes place at e = refl

-- the runs that go on at a place and those that follow hold what is read as the body
walked_bytes : (text bytes : List ℕ) (place : ℕ) (at : Place) → drop place bytes ≡ text
    → (read at text).body ≡ run_bytes bytes (current place at ++ runs_of place at text)
unfolding runs_of read
walked_bytes [] bytes place at e =
    sym (current_at_end bytes place at e) ∙ ap (run_bytes bytes) (sym (append-nil (current place at)))
walked_bytes (b ∷ text) bytes place done e = ap (run_bytes bytes) (sym (runs_of_late place done (b ∷ text) refl))
walked_bytes (b ∷ text) bytes place (in_bytes more) e =
    let next = bytes_step more in
    let further = drop_further bytes text place b e in
    let runs = runs_of (place + 1) next text in
    ap (λ l. b ∷ l)
    (walked_bytes text bytes (place + 1) next further
    ∙ flat_map-append (λ r. slice_range bytes r.start r.end) (current (place + 1) next) runs
    ∙ ap (λ l. l ++ run_bytes bytes runs) (current_bytes bytes text (place + 1) more further))
    ∙ ap (λ l. l ++ run_bytes bytes runs) (sym (slice_first bytes text place more b e))
walked_bytes (b ∷ text) bytes place at e =
    let next = step at b in
    noted_body at next b (read next text) refl
    ∙ walked_bytes text bytes (place + 1) next (drop_further bytes text place b e)
    ∙ ap (λ l. run_bytes bytes (l ++ runs_of (place + 1) next text)) (sym (opened_is_current place at b refl))

-- the runs that the walk finds hold what is read as the body
pub body_is_walked : (bytes : List ℕ) → (read start bytes).body ≡ run_bytes bytes (runs_of 0 start bytes)
body_is_walked bytes = walked_bytes bytes bytes 0 start refl
