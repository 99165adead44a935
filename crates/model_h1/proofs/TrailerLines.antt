-- The lines of a trailer section are read to their end, and their text is kept.
use Rattle.std.proofs.Common.{◌≡◌, ℕ, suc, ◌+◌, ◌-◌, ◌<◌, ◌≤◌, true, false, eqb, List, [], ◌∷◌, ◌++◌, length, refl, sym, ap, ◌∙◌, subst, subst₂, arith, append_assoc, length-append}
use Rattle.std.specs.Prelude.{IsTrue}
use Rattle.std.specs.List.{list_all, AllByRecursion}
use Rattle.std.proofs.lemmas.Bool.{and_parts, and_from, ne_eqb, lt-ltb, cond-true, cond-false, false≢true}
use Rattle.httparse.specs.Grammar.{is_value_byte, is_token_byte}
use Rattle.httparse.specs.Ascii.{crlf_bytes}
use Rattle.model_h1.specs.ChunkedText.{Trailer, IsTrailer, trailer_text, section_text}
use Rattle.model_h1.specs.Place.{InLine, Place, in_section, end_cr, done, line_start, in_name, in_value, line_cr, section_start, section_step}
use Rattle.model_h1.specs.Reading.{ends_before, only, with_trailers, read}
use Rattle.model_h1.proofs.ReadSteps.{read-cons, read_quiet, read_line_byte, read_done, with_trailers-append}
use Rattle.model_h1.proofs.SizeLines.{value_no_cr}

-- a byte of a name is no CR
token_no_cr : (b : ℕ) → is_token_byte b ≡ true → eqb b 13 ≡ false
unfolding is_token_byte
token_no_cr b ok = ne_eqb b 13 (λ e. false≢true (sym (ap is_token_byte e) ∙ ok))

-- nor a colon
token_no_colon : (b : ℕ) → is_token_byte b ≡ true → eqb b 58 ≡ false
unfolding is_token_byte
token_no_colon b ok = ne_eqb b 58 (λ e. false≢true (sym (ap is_token_byte e) ∙ ok))

-- the first byte of a name
step_first : (lines room b : ℕ) → is_token_byte b ≡ true → 0 < lines → 3 < room
    → section_step line_start lines room b ≡ in_section in_name lines (room - 1)
step_first lines room b ok some fits =
    cond-false _ _ _ (token_no_cr b ok) ∙ cond-true _ _ _ (and_from _ _ (lt-ltb 0 lines some) ok) ∙ cond-true _ _ _ (lt-ltb 3 room fits)

-- a further one
step_name : (lines room b : ℕ) → is_token_byte b ≡ true → 3 < room → section_step in_name lines room b ≡ in_section in_name lines (room - 1)
step_name lines room b ok fits =
    cond-false _ _ _ (token_no_colon b ok) ∙ cond-true _ _ _ ok ∙ cond-true _ _ _ (lt-ltb 3 room fits)

-- the colon
step_colon : (lines room : ℕ) → 2 < room → section_step in_name lines room 58 ≡ in_section in_value lines (room - 1)
step_colon lines room fits = cond-true _ _ _ (lt-ltb 2 room fits)

-- a byte of a value
pub step_value : (lines room b : ℕ) → is_value_byte b ≡ true → 2 < room → section_step in_value lines room b ≡ in_section in_value lines (room - 1)
step_value lines room b ok fits =
    cond-false _ _ _ (value_no_cr b ok) ∙ cond-true _ _ _ ok ∙ cond-true _ _ _ (lt-ltb 2 room fits)

-- the CR of a line
step_cr : (lines room : ℕ) → 1 < room → section_step in_value lines room 13 ≡ in_section line_cr lines (room - 1)
step_cr lines room fits = cond-true _ _ _ (lt-ltb 1 room fits)

-- its LF
step_lf : (lines room left : ℕ) → room ≡ left + 1 → section_step line_cr lines room 10 ≡ in_section line_start (lines - 1) left
step_lf lines room left e =
    let same : room - 1 ≡ left = omega arith in
    cond-true _ _ _ (lt-ltb 0 room (omega arith)) ∙ ap (in_section line_start (lines - 1)) same

-- the text is read as text of trailer lines, and leads from one place to another
record Keeps (p : Place) (text : List ℕ) (q : Place) : Type 0 where
  reads : (rest : List ℕ) → read p (text ++ rest) ≡ with_trailers text (read q rest)

-- no text
keeps_none : (p : Place) → Keeps p [] p
keeps_none p = record { reads = λ rest. refl }

-- one more byte in front
keeps_on : (at to : InLine) (lines room lines' room' b : ℕ) (text : List ℕ) (q : Place)
    → section_step at lines room b ≡ in_section to lines' room' → Keeps (in_section to lines' room') text q
    → Keeps (in_section at lines room) (b ∷ text) q
keeps_on at to lines room lines' room' b text q e k = record {
  reads = λ rest.
      read_line_byte at to lines room lines' room' b (text ++ rest) e ∙ ap (with_trailers (b ∷ [])) (k.reads rest);
}

-- one text, and then another
keeps_both : (p q r : Place) (xs ys : List ℕ) → Keeps p xs q → Keeps q ys r → Keeps p (xs ++ ys) r
keeps_both p q r xs ys first second = record {
  reads = λ rest.
      ap (read p) (append_assoc xs ys rest)
      ∙ first.reads (ys ++ rest)
      ∙ ap (with_trailers xs) (second.reads rest)
      ∙ with_trailers-append xs ys (read r rest);
}

-- a name, or its rest, the colon, a value and the end of the line
abbrev line_text : List ℕ → List ℕ → List ℕ
line_text name value = name ++ (58 ∷ (value ++ crlf_bytes))

-- in front of a trailer line
abbrev between : ℕ → ℕ → Place
between lines room = in_section line_start lines room

-- a value and the end of its line
keeps_value : (value : List ℕ) (lines room left : ℕ) → IsTrue (list_all is_value_byte value) → room ≡ length value + (left + 2)
    → Keeps (in_section in_value lines room) (value ++ crlf_bytes) (between (lines - 1) left)
keeps_value [] lines room left ok fits =
    let behind = between (lines - 1) left in
    keeps_on in_value line_cr lines room lines (room - 1) 13 (10 ∷ []) behind (step_cr lines room (omega arith))
    (keeps_on line_cr line_start lines (room - 1) (lines - 1) left 10 [] behind (step_lf lines (room - 1) left (omega arith)) (keeps_none behind))
keeps_value (b ∷ value) lines room left ok fits =
    let parts = and_parts _ _ ok in
    let behind = between (lines - 1) left in
    keeps_on in_value in_value lines room lines (room - 1) b (value ++ crlf_bytes) behind (step_value lines room b parts.0 (omega arith))
    (keeps_value value lines (room - 1) left parts.1 (omega arith))

-- the rest of a name, its colon, and the value
keeps_name : (name value : List ℕ) (lines room left : ℕ) → IsTrue (list_all is_token_byte name) → IsTrue (list_all is_value_byte value)
    → room ≡ length name + (length value + (left + 3))
    → Keeps (in_section in_name lines room) (line_text name value) (between (lines - 1) left)
keeps_name [] value lines room left token ok fits =
    let behind = between (lines - 1) left in
    keeps_on in_name in_value lines room lines (room - 1) 58 (value ++ crlf_bytes) behind (step_colon lines room (omega arith))
    (keeps_value value lines (room - 1) left ok (omega arith))
keeps_name (b ∷ name) value lines room left token ok fits =
    let parts = and_parts _ _ token in
    let text = line_text name value in
    let behind = between (lines - 1) left in
    keeps_on in_name in_name lines room lines (room - 1) b text behind (step_name lines room b parts.0 (omega arith))
    (keeps_name name value lines (room - 1) left parts.1 ok (omega arith))

-- a trailer line, by its name and value
keeps_line : (name value : List ℕ) (lines room left : ℕ) → IsTrailer (record { name = name; value = value }) → 0 < lines
    → room ≡ length name + (length value + (left + 3)) → Keeps (between lines room) (line_text name value) (between (lines - 1) left)
keeps_line [] value lines room left ok some fits =
    let named = ok.0 in
    absurd (omega arith)
keeps_line (b ∷ name) value lines room left ok some fits =
    let parts = and_parts _ _ ok.1 in
    let text = line_text name value in
    let behind = between (lines - 1) left in
    keeps_on line_start in_name lines room lines (room - 1) b text behind (step_first lines room b parts.0 some (omega arith))
    (keeps_name name value lines (room - 1) left parts.1 ok.2 (omega arith))

-- how many bytes a trailer line has
trailer_length : (t : Trailer) → length (trailer_text t) ≡ length t.name + (length t.value + 3)
trailer_length t = simp length-append (omega arith)

-- trailer lines
keeps_lines : (trailers : List Trailer) (lines room left : ℕ) → AllByRecursion IsTrailer trailers → length trailers ≤ lines
    → room ≡ length (section_text trailers) + left
    → Keeps (between lines room) (section_text trailers) (between (lines - length trailers) left)
keeps_lines [] lines room left ok few fits =
    let same : room ≡ left = omega arith in
    let all : lines ≡ lines - 0 = omega arith in
    subst₂ (λ l r. Keeps (between lines room) [] (between l r)) all same (keeps_none (between lines room))
keeps_lines (t ∷ trailers) lines room left ok few fits =
    let text = section_text trailers in
    let long : length (trailer_text t ++ text) ≡ length (trailer_text t) + length text = length-append (trailer_text t) text in
    let line = trailer_length t in
    let room' = length text + left in
    let fewer : lines - 1 - length trailers ≡ lines - suc (length trailers) = omega arith in
    subst (λ l. Keeps (between lines room) (trailer_text t ++ text) (between l left)) fewer
    (keeps_both (between lines room) (between (lines - 1) room') (between (lines - 1 - length trailers) left) (trailer_text t) text
    (keeps_line t.name t.value lines room room' ok.0 (omega arith) (omega arith))
    (keeps_lines trailers (lines - 1) room' left ok.1 (omega arith) refl))

-- the empty line behind them
end_read : (lines room : ℕ) (rest : List ℕ) → read (between lines room) (crlf_bytes ++ rest) ≡ only (ends_before rest)
end_read lines room rest =
    read-cons (between lines room) 13 (10 ∷ rest) tt ∙ read_quiet end_cr done 10 rest tt refl ∙ read_done rest

-- trailer lines within the limits, and the empty line
pub section_read : (trailers : List Trailer) (rest : List ℕ) → AllByRecursion IsTrailer trailers → length trailers ≤ 64
    → length (section_text trailers) ≤ 8192
    → read section_start (section_text trailers ++ (crlf_bytes ++ rest)) ≡ with_trailers (section_text trailers) (only (ends_before rest))
section_read trailers rest ok few small =
    let left = 8192 - length (section_text trailers) in
    (keeps_lines trailers 64 8192 left ok few (omega arith)).reads (crlf_bytes ++ rest)
    ∙ ap (with_trailers (section_text trailers)) (end_read (64 - length trailers) left rest)
