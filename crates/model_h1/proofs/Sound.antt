-- What is read up to an end is the text of a body: one byte back at each place, from the end to the start.
use Rattle.std.proofs.Common.{◌≡◌, ℕ, ◌+◌, ◌-◌, ◌*◌, ◌^◌, ◌<◌, Bool, true, false, ◌&&◌, cond, eqb, ltb, List, [], ◌∷◌, ◌++◌, refl, sym, ap, ◌∙◌, subst, arith}
use Rattle.std.specs.Prelude.{IsTrue}
use Rattle.std.proofs.lemmas.Bool.{and_from, and_parts, eqb-true, eqb-false, ltb-true, cond_both}
use Rattle.std.specs.Char.{digit_value}
use Rattle.httparse.specs.Grammar.{is_ows, is_value_byte, is_token_byte}
use Rattle.model_h1.specs.ChunkedText.{ChunkedText, chunked_text, IsChunkedText}
use Rattle.model_h1.specs.Place.{InLine, Place, in_size, in_blanks, in_extension, size_cr, in_bytes, bytes_end, bytes_cr, in_section, end_cr, done, broken, line_start, in_name, in_value, line_cr, start, section_start, expect, after_digits, size_step, extension_step, after_line, bytes_step, needs, with_room, section_step, step}
use Rattle.model_h1.specs.Reading.{ends_before, Reading, at_end, read}
use Rattle.model_h1.proofs.ReadSteps.{read-nil, read_done, ending-cons}
use Rattle.model_h1.proofs.Rests.{EndForm, TextForm, HasBody, Section, LineThen, NameForm, TrailerForm, line_from, section_from, section_ends, BytesThen, bytes_from, Completes, section_completes, bytes_complete, SizeThen, size_from, BlankForm, DigitForm, blank_from, semicolon_from, line_end_from, digit_from, no_digit_from, says_size}

-- what follows in a trailer section, by where in a line
abbrev InLineEnds : InLine → ℕ → ℕ → List ℕ → Type 0
InLineEnds line_start lines room text = Section lines room text
InLineEnds in_name lines room text = LineThen NameForm lines room text
InLineEnds in_value lines room text = LineThen TextForm lines room text
InLineEnds line_cr lines room text = LineThen EndForm lines room text

-- the text leads from the place to the end of a body
abbrev pub Ends : Place → List ℕ → Type 0
Ends (in_size n) text = (size : ℕ) × SizeThen (DigitForm n size) size text
Ends (in_blanks n) text = SizeThen BlankForm n text
Ends (in_extension n) text = SizeThen TextForm n text
Ends (size_cr n) text = SizeThen EndForm n text
Ends (in_bytes more) text = BytesThen (more + 1) text
Ends bytes_end text = BytesThen 0 text
Ends bytes_cr text = (behind : List ℕ) × HasBody behind × (text ≡ 10 ∷ behind)
Ends (in_section at lines room) text = InLineEnds at lines room text
Ends end_cr text = text ≡ 10 ∷ []
Ends done text = text ≡ []
Ends broken text = ⊥

-- the text at the start is that of a body
start_ends : (text : List ℕ) → Ends start text → HasBody text
start_ends text e =
    let r = e.1 in
    let made = r.completes.makes r.line (says_size e.0 r.line r.form) in
    (made.0, made.1, r.spelled ∙ made.2)

module _ (b : ℕ) (text : List ℕ) where
  -- where the text leads from this place to the end, this holds
  abbrev From : Place → Type 0 → Type 0
  From p G = Ends p text → G

  -- a test chose the place
  split : (t : Bool) (p q : Place) (G : Type 0) → (t ≡ true → From p G) → (t ≡ false → From q G) → From (cond t p q) G
  split t p q G if_so if_not = cond_both t p q (λ s. From s G) if_so if_not

  -- a test that had to pass
  passed : (t : Bool) (p : Place) (G : Type 0) → (t ≡ true → From p G) → From (cond t p broken) G
  passed t p G if_so = split t p broken G if_so (λ _ none. absurd none)

  -- a byte that was wanted
  expected : (wanted : ℕ) (next : Place) (G : Type 0) → (b ≡ wanted → From next G) → From (expect wanted b next) G
  expected wanted next G f = passed (eqb b wanted) next G (λ e. f (eqb-true b wanted e))

  -- a byte of a trailer line that was kept
  was_kept : (to : InLine) (lines room : ℕ) (G : Type 0) → (needs to < room → From (in_section to lines (room - 1)) G)
      → From (with_room to lines room) G
  was_kept to lines room G f =
      passed (ltb (needs to) room) (in_section to lines (room - 1)) G (λ e. f (ltb-true (needs to) room e))

  -- behind the digits
  back_digits : (n : ℕ) → From (after_digits n b) (SizeThen BlankForm n (b ∷ text))
  back_digits n =
      let G = SizeThen BlankForm n (b ∷ text) in
      let no_blank = cond (eqb b 59) (in_extension n) (expect 13 b (size_cr n)) in
      split (is_ows b) (in_blanks n) no_blank G (λ e. size_from BlankForm BlankForm n b text (λ line. blank_from b line e))
      (λ _. split (eqb b 59) (in_extension n) (expect 13 b (size_cr n)) G
      (λ e. size_from TextForm BlankForm n b text (λ line. semicolon_from b line (eqb-true b 59 e)))
      (λ _. expected 13 (size_cr n) G (λ e. size_from EndForm BlankForm n b text (λ line. line_end_from b line e))))

  -- a digit of the size
  back_digit : (n : ℕ) → digit_value b < 16 → n * 16 + digit_value b < 2 ^ 64 → From (in_size (n * 16 + digit_value b)) (Ends (in_size n) (b ∷ text))
  back_digit n digit fits h =
      let grows = λ (line : List ℕ). digit_from n h.0 b line digit fits in
      (h.0, size_from (DigitForm (n * 16 + digit_value b) h.0) (DigitForm n h.0) h.0 b text grows h.1)

  -- no digit of it
  back_no_digit : (n : ℕ) → SizeThen BlankForm n (b ∷ text) → Ends (in_size n) (b ∷ text)
  back_no_digit n r = (
    n,
    record { line = r.line; behind = r.behind; form = no_digit_from n r.line r.form; completes = r.completes; spelled = r.spelled },
  )

  -- at the digits
  back_size : (n : ℕ) → From (size_step n b) (Ends (in_size n) (b ∷ text))
  back_size n =
      let G = Ends (in_size n) (b ∷ text) in
      let value = digit_value b in
      let more = n * 16 + value in
      split (ltb value 16) (cond (ltb more (2 ^ 64)) (in_size more) broken) (after_digits n b) G
      (λ d. passed (ltb more (2 ^ 64)) (in_size more) G (λ f. back_digit n (ltb-true value 16 d) (ltb-true more (2 ^ 64) f)))
      (λ _ h. back_no_digit n (back_digits n h))

  -- the CR behind an extension, or a value
  text_ends : (line : List ℕ) → b ≡ 13 → EndForm line → TextForm (b ∷ line)
  text_ends line cr lf = ([], refl, ap (λ (x : ℕ). x ∷ line) cr ∙ ap (λ (l : List ℕ). 13 ∷ l) lf)

  -- a byte of text in front of a line's end
  text_from : (line : List ℕ) → IsTrue (is_value_byte b) → TextForm line → TextForm (b ∷ line)
  text_from line ok f = (b ∷ f.0, and_from _ _ ok f.1, ap (λ (l : List ℕ). b ∷ l) f.2)

  -- in an extension
  back_extension : (n : ℕ) → From (extension_step n b) (SizeThen TextForm n (b ∷ text))
  back_extension n =
      let G = SizeThen TextForm n (b ∷ text) in
      split (eqb b 13) (size_cr n) (cond (is_value_byte b) (in_extension n) broken) G
      (λ e. size_from EndForm TextForm n b text (λ line. text_ends line (eqb-true b 13 e)))
      (λ _. passed (is_value_byte b) (in_extension n) G
      (λ e. size_from TextForm TextForm n b text (λ line. text_from line e)))

  -- behind a size line
  completed : (n : ℕ) → From (after_line n) (Completes n text)
  completed n =
      split (eqb n 0) section_start (in_bytes (n - 1)) (Completes n text)
      (λ e s. subst (λ size. Completes size text) (sym (eqb-true n 0 e)) (section_completes text s))
      (λ e r. let not_zero = eqb-false n 0 e in
      let some : 0 < n = omega arith in
      let same : n - 1 + 1 ≡ n = omega arith in
      bytes_complete n text some (subst (λ size. BytesThen size text) same r))

  -- the LF of a size line
  back_line_feed : (n : ℕ) → From (expect 10 b (after_line n)) (SizeThen EndForm n (b ∷ text))
  back_line_feed n =
      expected 10 (after_line n) (SizeThen EndForm n (b ∷ text)) (λ e h. record {
        line = b ∷ [];
        behind = text;
        form = ap (λ (x : ℕ). x ∷ []) e;
        completes = completed n h;
        spelled = refl;
      })

  -- in a chunk
  back_bytes : (more : ℕ) → From (bytes_step more) (BytesThen (more + 1) (b ∷ text))
  back_bytes more =
      split (eqb more 0) bytes_end (in_bytes (more - 1)) (BytesThen (more + 1) (b ∷ text))
      (λ e r. bytes_from more b text (subst (λ n. BytesThen n text) (sym (eqb-true more 0 e)) r))
      (λ e r. let not_zero = eqb-false more 0 e in
      let same : more - 1 + 1 ≡ more = omega arith in
      bytes_from more b text (subst (λ n. BytesThen n text) same r))

  -- the CR behind a chunk
  back_bytes_end : From (expect 13 b bytes_cr) (BytesThen 0 (b ∷ text))
  back_bytes_end =
      expected 13 bytes_cr (BytesThen 0 (b ∷ text)) (λ e h. record {
        bytes = [];
        behind = h.0;
        sized = refl;
        body = h.1;
        spelled = ap (λ (x : ℕ). x ∷ text) e ∙ ap (λ (l : List ℕ). 13 ∷ l) h.2;
      })

  -- its LF
  back_bytes_cr : From (expect 10 b start) (Ends bytes_cr (b ∷ text))
  back_bytes_cr =
      expected 10 start (Ends bytes_cr (b ∷ text)) (λ e h. (text, start_ends text h, ap (λ (x : ℕ). x ∷ text) e))

  -- the first byte of a name makes a whole line
  trailer_from : (line : List ℕ) → IsTrue (is_token_byte b) → NameForm line → TrailerForm (b ∷ line)
  trailer_from line ok f = (
    record { name = b ∷ f.name; value = f.value },
    (omega arith, and_from _ _ ok f.token, f.well_formed),
    ap (λ (l : List ℕ). b ∷ l) f.spelled,
  )

  -- a further byte of a name
  name_from : (line : List ℕ) → IsTrue (is_token_byte b) → NameForm line → NameForm (b ∷ line)
  name_from line ok f = record {
    name = b ∷ f.name;
    value = f.value;
    token = and_from _ _ ok f.token;
    well_formed = f.well_formed;
    spelled = ap (λ (l : List ℕ). b ∷ l) f.spelled;
  }

  -- the colon
  colon_from : (line : List ℕ) → b ≡ 58 → TextForm line → NameForm (b ∷ line)
  colon_from line is f = record {
    name = [];
    value = f.0;
    token = refl;
    well_formed = f.1;
    spelled = ap (λ (x : ℕ). x ∷ line) is ∙ ap (λ (l : List ℕ). 58 ∷ l) f.2;
  }

  -- a kept byte in front of the rest of its line
  back_kept : (to : InLine) (P Q : List ℕ → Type 0) (lines room : ℕ)
      → From (in_section to lines (room - 1)) (LineThen P lines (room - 1) text) → ((line : List ℕ) → P line → Q (b ∷ line))
      → From (with_room to lines room) (LineThen Q lines room (b ∷ text))
  back_kept to P Q lines room is grows =
      was_kept to lines room (LineThen Q lines room (b ∷ text)) (λ fits r. line_from P Q lines room b text (omega arith) grows (is r))

  -- in front of a trailer line
  back_line_start : (lines room : ℕ) → From (section_step line_start lines room b) (Section lines room (b ∷ text))
  back_line_start lines room =
      let G = Section lines room (b ∷ text) in
      let test = ltb 0 lines && is_token_byte b in
      split (eqb b 13) end_cr (cond test (with_room in_name lines room) broken) G
      (λ e lf. section_ends lines room b text (eqb-true b 13 e) lf)
      (λ _. passed test (with_room in_name lines room) G
      (λ e h. let parts = and_parts (ltb 0 lines) (is_token_byte b) e in
      let line = back_kept in_name NameForm TrailerForm lines room (λ r. r) (λ line. trailer_from line parts.1) h in
      section_from lines room (b ∷ text) (ltb-true 0 lines parts.0) line))

  -- in a name or a value: one byte ends it, and others go on in it
  back_part : (wanted : ℕ) (ok : Bool) (next here : InLine) (P Q : List ℕ → Type 0) (lines room : ℕ)
      → From (in_section next lines (room - 1)) (LineThen P lines (room - 1) text)
      → From (in_section here lines (room - 1)) (LineThen Q lines (room - 1) text)
      → ((line : List ℕ) → b ≡ wanted → P line → Q (b ∷ line)) → ((line : List ℕ) → ok ≡ true → Q line → Q (b ∷ line))
      → From (cond (eqb b wanted) (with_room next lines room) (cond ok (with_room here lines room) broken)) (LineThen Q lines room (b ∷ text))
  back_part wanted ok next here P Q lines room is_next is_here ends goes_on =
      let G = LineThen Q lines room (b ∷ text) in
      split (eqb b wanted) (with_room next lines room) (cond ok (with_room here lines room) broken) G
      (λ e. back_kept next P Q lines room is_next (λ line. ends line (eqb-true b wanted e)))
      (λ _. passed ok (with_room here lines room) G (λ e. back_kept here Q Q lines room is_here (λ line. goes_on line e)))

  -- in a name
  back_name : (lines room : ℕ) → From (section_step in_name lines room b) (LineThen NameForm lines room (b ∷ text))
  back_name lines room =
      back_part 58 (is_token_byte b) in_value in_name TextForm NameForm lines room (λ r. r) (λ r. r) colon_from name_from

  -- in a value
  back_value : (lines room : ℕ) → From (section_step in_value lines room b) (LineThen TextForm lines room (b ∷ text))
  back_value lines room =
      back_part 13 (is_value_byte b) line_cr in_value EndForm TextForm lines room (λ r. r) (λ r. r) text_ends text_from

  -- the LF of a trailer line
  back_line_cr : (lines room : ℕ) → From (section_step line_cr lines room b) (LineThen EndForm lines room (b ∷ text))
  back_line_cr lines room =
      let G = LineThen EndForm lines room (b ∷ text) in
      passed (eqb b 10) (with_room line_start (lines - 1) room) G
      (λ e. was_kept line_start (lines - 1) room G (λ fits s. record {
        line = b ∷ [];
        behind = text;
        spare = room - 1;
        form = ap (λ (x : ℕ). x ∷ []) (eqb-true b 10 e);
        within = omega arith;
        section = s;
        spelled = refl;
      }))

-- a byte in a trailer section
back_section : (at : InLine) (lines room b : ℕ) (text : List ℕ) → Ends (section_step at lines room b) text → InLineEnds at lines room (b ∷ text)
back_section line_start lines room b text h = back_line_start b text lines room h
back_section in_name lines room b text h = back_name b text lines room h
back_section in_value lines room b text h = back_value b text lines room h
back_section line_cr lines room b text h = back_line_cr b text lines room h

-- the CR of the empty line, and its LF
back_end : (b : ℕ) (text : List ℕ) → Ends (expect 10 b done) text → b ∷ text ≡ 10 ∷ []
back_end b text =
    expected b text 10 done (b ∷ text ≡ 10 ∷ []) (λ e none. ap (λ (x : ℕ). x ∷ text) e ∙ ap (λ (l : List ℕ). 10 ∷ l) none)

-- one byte back
back : (p : Place) (b : ℕ) (text : List ℕ) → Ends (step p b) text → Ends p (b ∷ text)
back (in_size n) b text h = back_size b text n h
back (in_blanks n) b text h = back_digits b text n h
back (in_extension n) b text h = back_extension b text n h
back (size_cr n) b text h = back_line_feed b text n h
back (in_bytes more) b text h = back_bytes b text more h
back bytes_end b text h = back_bytes_end b text h
back bytes_cr b text h = back_bytes_cr b text h
back (in_section at lines room) b text h = back_section at lines room b text h
back end_cr b text h = back_end b text h
back done b text h = absurd h
back broken b text h = absurd h

-- only behind a whole body there is an end
at_end_ended : (p : Place) (rest : List ℕ) → at_end p ≡ ends_before rest → Ends p [] × (rest ≡ [])
at_end_ended done rest e = (refl, cc)
at_end_ended p rest e = absurd (cc)

-- the bytes begin with a text that leads to the end, behind which is the rest
record EndsIn (p : Place) (bytes : List ℕ) (rest : List ℕ) : Type 0 where
  text : List ℕ
  ends : Ends p text
  spelled : bytes ≡ text ++ rest

-- a byte in front
more_ends : (p : Place) (b : ℕ) (bytes rest : List ℕ) → EndsIn (step p b) bytes rest → EndsIn p (b ∷ bytes) rest
more_ends p b bytes rest r = record {
  text = b ∷ r.text;
  ends = back p b r.text r.ends;
  spelled = ap (λ (l : List ℕ). b ∷ l) r.spelled;
}

-- the rest behind a whole body
done_ends : (bytes rest : List ℕ) → (read done bytes).ending ≡ ends_before rest → EndsIn done bytes rest
done_ends bytes rest e =
    let same = sym (ap (λ (r : Reading). r.ending) (read_done bytes)) ∙ e in
    record { text = []; ends = refl; spelled = cc }

-- no byte
none_ends : (p : Place) (rest : List ℕ) → (read p []).ending ≡ ends_before rest → EndsIn p [] rest
none_ends p rest e =
    let parts = at_end_ended p rest (sym (ap (λ (r : Reading). r.ending) (read-nil p)) ∙ e) in
    record { text = []; ends = parts.0; spelled = sym parts.1 }

-- what reads to an end begins with a text that leads there
ends_from : (bytes : List ℕ) (p : Place) (rest : List ℕ) → (read p bytes).ending ≡ ends_before rest → EndsIn p bytes rest
ends_from [] p rest e = none_ends p rest e
ends_from (b ∷ bytes) done rest e = done_ends (b ∷ bytes) rest e
ends_from (b ∷ bytes) p rest e =
    more_ends p b bytes rest (ends_from bytes (step p b) rest (sym (ending-cons p b bytes tt) ∙ e))

-- what is read up to an end is the text of a body
pub ended_is_text : (bytes rest : List ℕ) → (read start bytes).ending ≡ ends_before rest
    → (t : ChunkedText) × IsChunkedText t × (bytes ≡ chunked_text t ++ rest)
ended_is_text bytes rest e =
    let r = ends_from bytes start rest e in
    let body = start_ends r.text r.ends in
    (body.0, body.1, r.spelled ∙ ap (λ (l : List ℕ). l ++ rest) body.2)
