-- What is read and goes on is the beginning of a body: each place that is met has a way to the end.
use Rattle.std.proofs.Common.{◌≡◌, ℕ, zero, suc, ◌-◌, ◌*◌, ◌+◌, ◌^◌, ◌<◌, ◌≤◌, ◌&&◌, cond, eqb, ltb, List, [], ◌∷◌, ◌++◌, length, refl, sym, ap, ◌∙◌, arith, append-nil}
use Rattle.std.specs.Prelude.{⊤}
use Rattle.std.proofs.lemmas.Bool.{cond-true, cond-false, cond_both, ltb-true, lt-ltb, ne_eqb}
use Rattle.std.specs.Char.{digit_value}
use Rattle.httparse.specs.Grammar.{is_ows, is_value_byte, is_token_byte}
use Rattle.model_h1.specs.ChunkedText.{ChunkedText}
use Rattle.model_h1.specs.Chunked.{IsBeginning}
use Rattle.model_h1.specs.Place.{InLine, Place, in_size, in_blanks, in_extension, size_cr, in_bytes, bytes_end, bytes_cr, in_section, end_cr, done, broken, line_start, in_name, in_value, line_cr, start, section_start, expect, after_digits, size_step, extension_step, after_line, bytes_step, needs, with_room, section_step, step}
use Rattle.model_h1.specs.Reading.{goes_on, ends_before, Reading, at_end, read}
use Rattle.model_h1.proofs.ReadSteps.{HasNext, read-nil, read_done, ending-cons}
use Rattle.model_h1.proofs.Sound.{ended_is_text}

-- what a trailer line still needs is in its room
abbrev Fits : Place → Type 0
Fits (in_section at lines room) = needs at ≤ room
Fits place = ⊤

-- it is where a byte of the section is kept
fits_kept : (to : InLine) (lines room : ℕ) → Fits (with_room to lines room)
fits_kept to lines room =
    cond_both (ltb (needs to) room) (in_section to lines (room - 1)) broken Fits
    (λ e. let below : needs to < room = ltb-true (needs to) room e in
    omega arith)
    (λ _. tt)

-- behind a byte that was wanted
fits_expect : (wanted b : ℕ) (next : Place) → Fits next → Fits (expect wanted b next)
fits_expect wanted b next fits = cond_both (eqb b wanted) next broken Fits (λ _. fits) (λ _. tt)

-- behind the digits
fits_digits : (n b : ℕ) → Fits (after_digits n b)
fits_digits n b =
    cond_both (is_ows b) (in_blanks n) (cond (eqb b 59) (in_extension n) (expect 13 b (size_cr n))) Fits (λ _. tt)
    (λ _. cond_both (eqb b 59) (in_extension n) (expect 13 b (size_cr n)) Fits (λ _. tt) (λ _. fits_expect 13 b (size_cr n) tt))

-- at the digits
fits_size : (n b : ℕ) → Fits (size_step n b)
fits_size n b =
    let more = n * 16 + digit_value b in
    cond_both (ltb (digit_value b) 16) (cond (ltb more (2 ^ 64)) (in_size more) broken) (after_digits n b) Fits
    (λ _. cond_both (ltb more (2 ^ 64)) (in_size more) broken Fits (λ _. tt) (λ _. tt)) (λ _. fits_digits n b)

-- in an extension
fits_extension : (n b : ℕ) → Fits (extension_step n b)
fits_extension n b =
    cond_both (eqb b 13) (size_cr n) (cond (is_value_byte b) (in_extension n) broken) Fits (λ _. tt)
    (λ _. cond_both (is_value_byte b) (in_extension n) broken Fits (λ _. tt) (λ _. tt))

-- behind a size line
fits_after_line : (n : ℕ) → Fits (after_line n)
fits_after_line n = cond_both (eqb n 0) section_start (in_bytes (n - 1)) Fits (λ _. omega arith) (λ _. tt)

-- in a chunk
fits_bytes : (more : ℕ) → Fits (bytes_step more)
fits_bytes more = cond_both (eqb more 0) bytes_end (in_bytes (more - 1)) Fits (λ _. tt) (λ _. tt)

-- in a trailer section
fits_section : (at : InLine) (lines room b : ℕ) → Fits (section_step at lines room b)
fits_section line_start lines room b =
    cond_both (eqb b 13) end_cr (cond (ltb 0 lines && is_token_byte b) (with_room in_name lines room) broken) Fits (λ _. tt)
    (λ _. cond_both (ltb 0 lines && is_token_byte b) (with_room in_name lines room) broken Fits (λ _. fits_kept in_name lines room) (λ _. tt))
fits_section in_name lines room b =
    cond_both (eqb b 58) (with_room in_value lines room) (cond (is_token_byte b) (with_room in_name lines room) broken) Fits
    (λ _. fits_kept in_value lines room)
    (λ _. cond_both (is_token_byte b) (with_room in_name lines room) broken Fits (λ _. fits_kept in_name lines room) (λ _. tt))
fits_section in_value lines room b =
    cond_both (eqb b 13) (with_room line_cr lines room) (cond (is_value_byte b) (with_room in_value lines room) broken) Fits
    (λ _. fits_kept line_cr lines room)
    (λ _. cond_both (is_value_byte b) (with_room in_value lines room) broken Fits (λ _. fits_kept in_value lines room) (λ _. tt))
fits_section line_cr lines room b =
    cond_both (eqb b 10) (with_room line_start (lines - 1) room) broken Fits (λ _. fits_kept line_start (lines - 1) room) (λ _. tt)

-- behind any byte
fits_step : (p : Place) (b : ℕ) → Fits (step p b)
fits_step (in_size n) b = fits_size n b
fits_step (in_blanks n) b = fits_digits n b
fits_step (in_extension n) b = fits_extension n b
fits_step (size_cr n) b = fits_expect 10 b (after_line n) (fits_after_line n)
fits_step (in_bytes more) b = fits_bytes more
fits_step bytes_end b = fits_expect 13 b bytes_cr tt
fits_step bytes_cr b = fits_expect 10 b start tt
fits_step (in_section at lines room) b = fits_section at lines room b
fits_step end_cr b = fits_expect 10 b done tt
fits_step done b = tt
fits_step broken b = tt

-- bytes that lead from the place to the end
record Way (p : Place) : Type 0 where
  first : ℕ
  further : List ℕ
  ends : (read p (first ∷ further)).ending ≡ ends_before []

-- one more byte in front
way_on : (p next : Place) (b : ℕ) → HasNext p → step p b ≡ next → Way next → Way p
way_on p next b more e w = record {
  first = b;
  further = w.first ∷ w.further;
  ends = ending-cons p b (w.first ∷ w.further) more ∙ ap (λ (s : Place). (read s (w.first ∷ w.further)).ending) e ∙ w.ends;
}

-- the LF of the empty line
way_end_cr : Way end_cr
way_end_cr = record {
  first = 10;
  further = [];
  ends = ending-cons end_cr 10 [] tt ∙ ap (λ (r : Reading). r.ending) (read_done []);
}

-- no further trailer line
way_line_start : (lines room : ℕ) → Way (in_section line_start lines room)
way_line_start lines room = way_on (in_section line_start lines room) end_cr 13 tt refl way_end_cr

-- the LF of a trailer line
way_line_cr : (lines room : ℕ) → 1 ≤ room → Way (in_section line_cr lines room)
way_line_cr lines room fits =
    way_on (in_section line_cr lines room) (in_section line_start (lines - 1) (room - 1)) 10 tt
    (cond-true (ltb 0 room) (in_section line_start (lines - 1) (room - 1)) broken (lt-ltb 0 room (omega arith)))
    (way_line_start (lines - 1) (room - 1))

-- the end of a value
way_value : (lines room : ℕ) → 2 ≤ room → Way (in_section in_value lines room)
way_value lines room fits =
    way_on (in_section in_value lines room) (in_section line_cr lines (room - 1)) 13 tt
    (cond-true (ltb 1 room) (in_section line_cr lines (room - 1)) broken (lt-ltb 1 room (omega arith)))
    (way_line_cr lines (room - 1) (omega arith))

-- the end of a name
way_name : (lines room : ℕ) → 3 ≤ room → Way (in_section in_name lines room)
way_name lines room fits =
    way_on (in_section in_name lines room) (in_section in_value lines (room - 1)) 58 tt
    (cond-true (ltb 2 room) (in_section in_value lines (room - 1)) broken (lt-ltb 2 room (omega arith)))
    (way_value lines (room - 1) (omega arith))

-- in a trailer section
way_section : (at : InLine) (lines room : ℕ) → needs at ≤ room → Way (in_section at lines room)
way_section line_start lines room fits = way_line_start lines room
way_section in_name lines room fits = way_name lines room fits
way_section in_value lines room fits = way_value lines room fits
way_section line_cr lines room fits = way_line_cr lines room fits

-- in front of a segment there may be the last line: its size is 0, also with no digit
way_start : Way start
way_start =
    way_on start (size_cr 0) 13 tt refl (way_on (size_cr 0) section_start 10 tt refl (way_line_start 64 8192))

-- behind the CR of a chunk
way_bytes_cr : Way bytes_cr
way_bytes_cr = way_on bytes_cr start 10 tt refl way_start

-- behind a chunk's bytes
way_bytes_end : Way bytes_end
way_bytes_end = way_on bytes_end bytes_cr 13 tt refl way_bytes_cr

-- in a chunk
way_bytes : (more : ℕ) → Way (in_bytes more)
way_bytes zero = way_on (in_bytes 0) bytes_end 0 tt refl way_bytes_end
way_bytes (suc more) =
    let same : suc more - 1 ≡ more = omega arith in
    way_on (in_bytes (suc more)) (in_bytes more) 0 tt
    (cond-false (eqb (suc more) 0) bytes_end (in_bytes (suc more - 1)) (ne_eqb (suc more) 0 (omega arith)) ∙ ap in_bytes same) (way_bytes more)

-- behind a size line
way_after_line : (n : ℕ) → Way (after_line n)
way_after_line n =
    cond_both (eqb n 0) section_start (in_bytes (n - 1)) Way (λ _. way_line_start 64 8192) (λ _. way_bytes (n - 1))

-- in a size line
way_size_cr : (n : ℕ) → Way (size_cr n)
way_size_cr n = way_on (size_cr n) (after_line n) 10 tt refl (way_after_line n)

-- where the reading goes on there is a way
way_from : (p : Place) → Fits p → at_end p ≡ goes_on → Way p
way_from (in_size n) fits e = way_on (in_size n) (size_cr n) 13 tt refl (way_size_cr n)
way_from (in_blanks n) fits e = way_on (in_blanks n) (size_cr n) 13 tt refl (way_size_cr n)
way_from (in_extension n) fits e = way_on (in_extension n) (size_cr n) 13 tt refl (way_size_cr n)
way_from (size_cr n) fits e = way_size_cr n
way_from (in_bytes more) fits e = way_bytes more
way_from bytes_end fits e = way_bytes_end
way_from bytes_cr fits e = way_bytes_cr
way_from (in_section at lines room) fits e = way_section at lines room fits
way_from end_cr fits e = way_end_cr
way_from done fits e = absurd (cc)
way_from broken fits e = absurd (cc)

-- some further bytes lead from behind these bytes to the end
record Continued (p : Place) (bytes : List ℕ) : Type 0 where
  more : List ℕ
  some : 0 < length more
  ends : (read p (bytes ++ more)).ending ≡ ends_before []

-- a way continues no byte
continued_from_way : (p : Place) → Way p → Continued p []
continued_from_way p w = record { more = w.first ∷ w.further; some = omega arith; ends = w.ends }

-- a byte in front
continued_on : (p : Place) (b : ℕ) (bytes : List ℕ) → HasNext p → Continued (step p b) bytes → Continued p (b ∷ bytes)
continued_on p b bytes next c =
    record { more = c.more; some = c.some; ends = ending-cons p b (bytes ++ c.more) next ∙ c.ends }

-- what goes on can be continued to the end
continues : (bytes : List ℕ) (p : Place) → Fits p → (read p bytes).ending ≡ goes_on → Continued p bytes
continues [] p fits e =
    continued_from_way p (way_from p fits (sym (ap (λ (r : Reading). r.ending) (read-nil p)) ∙ e))
continues (b ∷ bytes) done fits e =
    let ended = sym (ap (λ (r : Reading). r.ending) (read_done (b ∷ bytes))) ∙ e in
    absurd (cc)
continues (b ∷ bytes) p fits e =
    continued_on p b bytes tt (continues bytes (step p b) (fits_step p b) (sym (ending-cons p b bytes tt) ∙ e))

-- what is read and goes on is the beginning of a body
pub open_begins : (bytes : List ℕ) → (read start bytes).ending ≡ goes_on → (t : ChunkedText) × IsBeginning bytes t
open_begins bytes e =
    let c = continues bytes start tt e in
    let r = ended_is_text (bytes ++ c.more) [] c.ends in
    (r.0, (c.more, c.some, (r.1, r.2 ∙ append-nil _)))
