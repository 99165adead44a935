-- Taking what comes next is reading: the bytes of a chunk at once, and all others one by one.
use Rattle.std.proofs.Common.{◌≡◌, ℕ, suc, ◌+◌, ◌-◌, ◌<◌, ◌≤◌, ltb, List, [], ◌∷◌, ◌++◌, length, take, drop, refl, sym, ap, ◌∙◌, arith, append_assoc, take-append-drop, length-take}
use Rattle.std.proofs.lemmas.Bool.{cond-false, cond_both, ltb-true, ltb-false, ne_eqb}
use Rattle.model_h1.specs.Place.{InLine, Place, in_bytes, bytes_end, in_section, done, broken, step}
use Rattle.model_h1.specs.Reading.{Reading, with_bytes, with_trailers, noted, read}
use Rattle.model_h1.specs.TakeNext.{Next, chunk, Taken, of_chunk, noted_line, take_next, says}
use Rattle.model_h1.proofs.ReadSteps.{read-cons, read_quiet, read_body_byte, read_done, read_broken}
use Rattle.model_h1.proofs.Complete.{bytes_read}

-- bytes of a chunk that goes on behind them
bytes_go_on : (bytes : List ℕ) (more : ℕ) (z : List ℕ) → length bytes ≤ more
    → read (in_bytes more) (bytes ++ z) ≡ with_bytes bytes (read (in_bytes (more - length bytes)) z)
bytes_go_on [] more z within =
    let same : more ≡ more - 0 = omega arith in
    ap (λ n. read (in_bytes n) z) same
bytes_go_on (b ∷ bytes) more z within =
    let same : more - 1 - length bytes ≡ more - suc (length bytes) = omega arith in
    read_body_byte more b (bytes ++ z)
    ∙ ap (λ (p : Place). with_bytes (b ∷ []) (read p (bytes ++ z))) (cond-false _ bytes_end (in_bytes (more - 1)) (ne_eqb more 0 (omega arith)))
    ∙ ap (with_bytes (b ∷ [])) (bytes_go_on bytes (more - 1) z (omega arith))
    ∙ ap (λ n. with_bytes (b ∷ bytes) (read (in_bytes n) z)) same

-- all bytes of a chunk, and what follows them
bytes_all : (bytes : List ℕ) (more : ℕ) (z : List ℕ) → more < length bytes
    → read (in_bytes more) (bytes ++ z) ≡ with_bytes (take (more + 1) bytes) (read bytes_end (drop (more + 1) bytes ++ z))
bytes_all bytes more z within =
    let front = take (more + 1) bytes in
    let behind = drop (more + 1) bytes in
    let parts : front ++ behind ≡ bytes = take-append-drop (more + 1) bytes in
    let sized : length front ≡ more + 1 = omega (arith, length-take (more + 1) bytes) in
    ap (λ (l : List ℕ). read (in_bytes more) (l ++ z)) (sym parts)
    ∙ ap (read (in_bytes more)) (append_assoc front behind z)
    ∙ bytes_read front more (behind ++ z) sized

-- the bytes of a chunk that are there
chunk_reads : (more : ℕ) (bytes z : List ℕ) → read (in_bytes more) (bytes ++ z) ≡ says (of_chunk more bytes) z
chunk_reads more bytes z =
    let all = chunk (take (more + 1) bytes) bytes_end (drop (more + 1) bytes) in
    let some = chunk bytes (in_bytes (more - length bytes)) [] in
    cond_both (ltb more (length bytes)) all some (λ (n : Next). read (in_bytes more) (bytes ++ z) ≡ says n z)
    (λ e. bytes_all bytes more z (ltb-true more (length bytes) e))
    (λ e. bytes_go_on bytes more z (ltb-false more (length bytes) e))

-- what is read where this was taken
abbrev taken_reading : Taken → List ℕ → Reading
taken_reading t z = with_trailers t.trailers (says t.next z)

-- a byte of a trailer section in front
line_reads : (at : InLine) (lines room : ℕ) (q : Place) (b : ℕ) (r : Reading) (t : Taken) (z : List ℕ) → r ≡ taken_reading t z
    → noted (in_section at lines room) q b r ≡ taken_reading (noted_line (in_section at lines room) q b t) z
line_reads at lines room (in_section at' lines' room') b r t z e = ap (with_trailers (b ∷ [])) e
line_reads at lines room q b r t z e = e

-- what is taken is what is read
pub taken_is_read : (bytes : List ℕ) (p : Place) (z : List ℕ) → read p (bytes ++ z) ≡ taken_reading (take_next p bytes) z
unfolding take_next
taken_is_read [] done z = read_done z
taken_is_read [] broken z = read_broken z
taken_is_read [] p z = refl
taken_is_read (b ∷ bytes) done z = read_done (b ∷ (bytes ++ z))
taken_is_read (b ∷ bytes) broken z = read_broken (b ∷ (bytes ++ z))
taken_is_read (b ∷ bytes) (in_bytes more) z = chunk_reads more (b ∷ bytes) z
taken_is_read (b ∷ bytes) (in_section at lines room) z =
    let next = step (in_section at lines room) b in
    read-cons (in_section at lines room) b (bytes ++ z) tt
    ∙ line_reads at lines room next b (read next (bytes ++ z)) (take_next next bytes) z (taken_is_read bytes next z)
taken_is_read (b ∷ bytes) p z = read_quiet p (step p b) b (bytes ++ z) tt refl ∙ taken_is_read bytes (step p b) z
