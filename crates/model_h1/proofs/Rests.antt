-- What follows a place up to the end of a body: the parts of the grammar that are left there, and what a byte
-- in front makes of them.
use Rattle.std.proofs.Common.{◌≡◌, ℕ, ◌+◌, ◌-◌, ◌*◌, ◌^◌, ◌<◌, ◌≤◌, List, [], ◌∷◌, ◌++◌, length, refl, sym, ap, ◌∙◌, subst, inl, inr, arith, append_assoc, length-append}
use Rattle.std.specs.Prelude.{IsTrue}
use Rattle.std.specs.List.{list_all, AllByRecursion}
use Rattle.std.proofs.lemmas.Bool.{and_from}
use Rattle.std.specs.Char.{digit_value}
use Rattle.std.specs.Str.Parse.{digits_value_after, AllDigits}
use Rattle.httparse.specs.Grammar.{is_ows, is_value_byte, is_token_byte}
use Rattle.httparse.specs.Ascii.{colon, semicolon, crlf_bytes}
use Rattle.model_h1.specs.ChunkedText.{IsExtension, SaysSize, Segment, IsSegment, Trailer, IsTrailer, trailer_text, section_text, ChunkedText, chunked_text, IsChunkedText}

-- the text is that of a body
abbrev pub HasBody : List ℕ → Type 0
HasBody text = (t : ChunkedText) × IsChunkedText t × (text ≡ chunked_text t)

-- the last byte of a line
abbrev pub EndForm : List ℕ → Type 0
EndForm line = line ≡ 10 ∷ []

-- the text of an extension, or a value, and the line's end
abbrev pub TextForm : List ℕ → Type 0
TextForm line = (text : List ℕ) × IsTrue (list_all is_value_byte text) × (line ≡ text ++ crlf_bytes)

-- trailer lines within these limits, and the empty line
pub record Section (lines : ℕ) (room : ℕ) (text : List ℕ) : Type 0 where
  pub trailers : List Trailer
  pub well_formed : AllByRecursion IsTrailer trailers
  pub few : length trailers ≤ lines
  pub small : length (section_text trailers) ≤ room
  pub spelled : text ≡ section_text trailers ++ crlf_bytes

-- the rest of a trailer line, of this form, and the section behind it
pub record LineThen (Form : List ℕ → Type 0) (lines : ℕ) (room : ℕ) (text : List ℕ) : Type 0 where
  pub line : List ℕ
  pub behind : List ℕ
  pub spare : ℕ
  pub form : Form line
  pub within : length line + spare ≤ room
  pub section : Section (lines - 1) spare behind
  pub spelled : text ≡ line ++ behind

-- the rest of a name, and then a value
pub record NameForm (line : List ℕ) : Type 0 where
  pub name : List ℕ
  pub value : List ℕ
  pub token : IsTrue (list_all is_token_byte name)
  pub well_formed : IsTrue (list_all is_value_byte value)
  pub spelled : line ≡ name ++ (colon ∷ (value ++ crlf_bytes))

-- a whole line
abbrev pub TrailerForm : List ℕ → Type 0
TrailerForm line = (t : Trailer) × IsTrailer t × (line ≡ trailer_text t)

-- a byte in front of the rest of a trailer line
pub line_from : (P Q : List ℕ → Type 0) (lines room b : ℕ) (text : List ℕ) → 0 < room → ((line : List ℕ) → P line → Q (b ∷ line))
    → LineThen P lines (room - 1) text → LineThen Q lines room (b ∷ text)
line_from P Q lines room b text some grows r = record {
  line = b ∷ r.line;
  behind = r.behind;
  spare = r.spare;
  form = grows r.line r.form;
  within = omega (arith, r.within);
  section = r.section;
  spelled = ap (λ (l : List ℕ). b ∷ l) r.spelled;
}

-- a whole line in front of a section
pub section_from : (lines room : ℕ) (text : List ℕ) → 0 < lines → LineThen TrailerForm lines room text → Section lines room text
section_from lines room text some r =
    let t = r.form.0 in
    let s = r.section in
    let rest = section_text s.trailers in
    let long : length (trailer_text t ++ rest) ≡ length (trailer_text t) + length rest = length-append (trailer_text t) rest in
    let same : length r.line ≡ length (trailer_text t) = ap length r.form.2 in
    let few = s.few in
    let small = s.small in
    let within = r.within in
    record {
      trailers = t ∷ s.trailers;
      well_formed = (r.form.1, s.well_formed);
      few = omega arith;
      small = omega arith;
      spelled = r.spelled
          ∙ ap (λ (l : List ℕ). l ++ r.behind) r.form.2
          ∙ ap (λ (l : List ℕ). trailer_text t ++ l) s.spelled
          ∙ sym (append_assoc (trailer_text t) rest crlf_bytes);
    }

-- no further line
pub section_ends : (lines room b : ℕ) (text : List ℕ) → b ≡ 13 → text ≡ 10 ∷ [] → Section lines room (b ∷ text)
section_ends lines room b text cr lf = record {
  trailers = [];
  well_formed = tt;
  few = omega arith;
  small = omega arith;
  spelled = ap (λ (x : ℕ). x ∷ text) cr ∙ ap (λ (l : List ℕ). 13 ∷ l) lf;
}

-- so many bytes of a chunk, CR LF, and a body
pub record BytesThen (size : ℕ) (text : List ℕ) : Type 0 where
  pub bytes : List ℕ
  pub behind : List ℕ
  pub sized : length bytes ≡ size
  pub body : HasBody behind
  pub spelled : text ≡ bytes ++ (crlf_bytes ++ behind)

-- a byte of the chunk in front
pub bytes_from : (more b : ℕ) (text : List ℕ) → BytesThen more text → BytesThen (more + 1) (b ∷ text)
bytes_from more b text r = record {
  bytes = b ∷ r.bytes;
  behind = r.behind;
  sized = omega (arith, r.sized);
  body = r.body;
  spelled = ap (λ (l : List ℕ). b ∷ l) r.spelled;
}

-- behind any line that says this size, the text makes a body
pub record Completes (size : ℕ) (text : List ℕ) : Type 0 where
  pub makes : (line : List ℕ) → SaysSize line size → HasBody (line ++ text)

-- the trailer section completes a body, behind a line of size 0
pub section_completes : (text : List ℕ) → Section 64 8192 text → Completes 0 text
section_completes text s = record {
  makes = λ line ok. (
    record { segments = []; last = line; trailers = s.trailers },
    record { segments = tt; last = ok; trailers = s.well_formed; lines = s.few; room = s.small },
    ap (λ (l : List ℕ). line ++ l) s.spelled,
  );
}

-- the tree with one more segment
abbrev longer : Segment → ChunkedText → ChunkedText
longer s t = record t { segments = s ∷ t.segments }

-- its text
longer_text : (s : Segment) (t : ChunkedText) → s.line ++ (s.bytes ++ (crlf_bytes ++ chunked_text t)) ≡ chunked_text (longer s t)
longer_text s t = simp append_assoc

-- a chunk's bytes and a body complete one, behind a line that says how many bytes
pub bytes_complete : (size : ℕ) (text : List ℕ) → 0 < size → BytesThen size text → Completes size text
bytes_complete size text some r =
    let t = r.body.0 in
    let ok = r.body.1 in
    let sized = r.sized in
    record {
      makes = λ line says.
          let s : Segment = record { line = line; bytes = r.bytes } in
          let says_length : SaysSize line (length r.bytes) = subst (λ n. SaysSize line n) (sym sized) says in
          let is_segment : IsSegment s = (says_length, omega arith) in (
            longer s t,
            record { segments = (is_segment, ok.segments); last = ok.last; trailers = ok.trailers; lines = ok.lines; room = ok.room },
            ap (λ (l : List ℕ). line ++ l) (r.spelled ∙ ap (λ (l : List ℕ). r.bytes ++ (crlf_bytes ++ l)) r.body.2) ∙ longer_text s t,
          );
    }

-- the rest of a size line, of this form, and what completes the body behind it
pub record SizeThen (Form : List ℕ → Type 0) (size : ℕ) (text : List ℕ) : Type 0 where
  pub line : List ℕ
  pub behind : List ℕ
  pub form : Form line
  pub completes : Completes size behind
  pub spelled : text ≡ line ++ behind

-- a byte in front of the rest of a size line
pub size_from : (P Q : List ℕ → Type 0) (size b : ℕ) (text : List ℕ) → ((line : List ℕ) → P line → Q (b ∷ line)) → SizeThen P size text
    → SizeThen Q size (b ∷ text)
size_from P Q size b text grows r = record {
  line = b ∷ r.line;
  behind = r.behind;
  form = grows r.line r.form;
  completes = r.completes;
  spelled = ap (λ (l : List ℕ). b ∷ l) r.spelled;
}

-- blanks, perhaps an extension, and the line's end
pub record BlankForm (line : List ℕ) : Type 0 where
  pub blanks : List ℕ
  pub extension : List ℕ
  pub blank : IsTrue (list_all is_ows blanks)
  pub well_formed : IsExtension extension
  pub spelled : line ≡ blanks ++ (extension ++ crlf_bytes)

-- digits that make this size of the one so far, and what follows them
pub record DigitForm (so_far : ℕ) (size : ℕ) (line : List ℕ) : Type 0 where
  pub digits : List ℕ
  pub behind : List ℕ
  pub hexadecimal : AllDigits 16 digits
  pub says : digits_value_after 16 so_far digits ≡ size
  pub fits : so_far < 2 ^ 64 → size < 2 ^ 64
  pub form : BlankForm behind
  pub spelled : line ≡ digits ++ behind

-- a blank in front
pub blank_from : (b : ℕ) (line : List ℕ) → IsTrue (is_ows b) → BlankForm line → BlankForm (b ∷ line)
blank_from b line blank f = record {
  blanks = b ∷ f.blanks;
  extension = f.extension;
  blank = and_from _ _ blank f.blank;
  well_formed = f.well_formed;
  spelled = ap (λ (l : List ℕ). b ∷ l) f.spelled;
}

-- a semicolon in front of an extension's text
pub semicolon_from : (b : ℕ) (line : List ℕ) → b ≡ 59 → TextForm line → BlankForm (b ∷ line)
semicolon_from b line is f = record {
  blanks = [];
  extension = semicolon ∷ f.0;
  blank = refl;
  well_formed = inr (f.0, refl, f.1);
  spelled = ap (λ (x : ℕ). x ∷ line) is ∙ ap (λ (l : List ℕ). 59 ∷ l) f.2;
}

-- a line with no extension ends
pub line_end_from : (b : ℕ) (line : List ℕ) → b ≡ 13 → EndForm line → BlankForm (b ∷ line)
line_end_from b line is lf = record {
  blanks = [];
  extension = [];
  blank = refl;
  well_formed = inl refl;
  spelled = ap (λ (x : ℕ). x ∷ line) is ∙ ap (λ (l : List ℕ). 13 ∷ l) lf;
}

-- a digit in front
pub digit_from : (so_far size b : ℕ) (line : List ℕ) → digit_value b < 16 → so_far * 16 + digit_value b < 2 ^ 64
    → DigitForm (so_far * 16 + digit_value b) size line → DigitForm so_far size (b ∷ line)
digit_from so_far size b line digit small f = record {
  digits = b ∷ f.digits;
  behind = f.behind;
  hexadecimal = (digit, f.hexadecimal);
  says = f.says;
  fits = λ _. f.fits small;
  form = f.form;
  spelled = ap (λ (l : List ℕ). b ∷ l) f.spelled;
}

-- no further digit
pub no_digit_from : (size : ℕ) (line : List ℕ) → BlankForm line → DigitForm size size line
no_digit_from size line f = record {
  digits = [];
  behind = line;
  hexadecimal = tt;
  says = refl;
  fits = λ small. small;
  form = f;
  spelled = refl;
}

-- a line of digits from 0 on says the size
pub says_size : (size : ℕ) (line : List ℕ) → DigitForm 0 size line → SaysSize line size
says_size size line f = record {
  digits = f.digits;
  blanks = f.form.blanks;
  extension = f.form.extension;
  spelled = f.spelled ∙ ap (λ (l : List ℕ). f.digits ++ l) f.form.spelled;
  hexadecimal = f.hexadecimal;
  says = f.says;
  fits = f.fits (omega arith);
  blank = f.form.blank;
  well_formed = f.form.well_formed;
}
