-- The laxer copy of a head, byte by byte; and it has the line feeds of the head.
use Rattle.std.proofs.Common.{◌≡◌, ℕ, ◌+◌, ◌-◌, Bool, true, false, ◌&&◌, List, [], ◌∷◌, ◌++◌, reverse, refl, sym, ap, ◌∙◌, subst, arith, append-nil, append_assoc}
use Rattle.std.specs.Prelude.{◌==◌, if◌then◌else◌, not}
use Rattle.std.specs.List.{list_all}
use Rattle.std.proofs.lemmas.Bool.{eqb-true, false≢true}
use Rattle.std.proofs.lemmas.List.{reverse-append, reverse-reverse}
use Rattle.std.proofs.lemmas.List.Sums.{length-filter}
use Rattle.httparse.specs.Ascii.{line_feed, colon}
use Rattle.httparse.specs.Grammar.{is_ows, skip_ows}
use Rattle.model_h1.specs.HeadPiece.{header_lines}
use Rattle.model_client.specs.LaxText.{without_blanks, unpadded_line, unpadded_lines, unpadded}
use Rattle.h1_decoder.specs.LaxCopy.{is_name_byte, Copying, copy_with}
use Rattle.model_h1.proofs.LineFeeds.{is_feed, feeds, feeds-append}

-- ---- a line

-- a name byte is no colon
no_colon : (b : ℕ) (name : List ℕ) → list_all is_name_byte (b ∷ name) ≡ true → ((b == colon) ≡ false) × (list_all is_name_byte name ≡ true)
no_colon b name all = by_byte (b == colon) refl all
  where
    by_byte : (t : Bool) → (b == colon) ≡ t → (not (b == colon) && list_all is_name_byte name) ≡ true → ((b == colon) ≡ false) × (list_all is_name_byte name ≡ true)
    by_byte true is all = absurd (false≢true (subst (λ (t : Bool). (not t && list_all is_name_byte name) ≡ true) is all))
    by_byte false is all = (is, subst (λ (t : Bool). (not t && list_all is_name_byte name) ≡ true) is all)

-- a line with a colon
line_to_colon : (before name more : List ℕ) → list_all is_name_byte name ≡ true
    → unpadded_line before (name ++ colon ∷ more) ≡ without_blanks (before ++ name) ++ colon ∷ more
line_to_colon before [] more all = ap (λ (n : List ℕ). without_blanks n ++ colon ∷ more) (sym (append-nil before))
line_to_colon before (b ∷ name) more all =
    let (other, rest) = no_colon b name all in
    rw other (line_to_colon (before ++ b ∷ []) name more rest ∙ ap (λ (n : List ℕ). without_blanks n ++ colon ∷ more) (append_assoc before (b ∷ []) name))

-- a line without one
line_alone : (before line : List ℕ) → list_all is_name_byte line ≡ true → unpadded_line before line ≡ before ++ line
line_alone before [] all = sym (append-nil before)
line_alone before (b ∷ line) all =
    let (other, rest) = no_colon b line all in
    rw other (line_alone (before ++ b ∷ []) line rest ∙ append_assoc before (b ∷ []) line)

-- the lines, where the first of them has come beyond its colon
lines_to_colon : (name more rest : List ℕ) → list_all is_name_byte name ≡ true
    → unpadded_lines (name ++ colon ∷ more) rest ≡ without_blanks name ++ colon ∷ (more ++ unpadded rest)
unfolding unpadded
lines_to_colon name more [] all =
    line_to_colon [] name more all ∙ ap (λ (m : List ℕ). without_blanks name ++ colon ∷ m) (sym (append-nil more))
lines_to_colon name more (b ∷ rest) all = by_byte (b == line_feed) refl (lines_to_colon name (more ++ b ∷ []) rest all)
  where
    moved : (name ++ colon ∷ more) ++ b ∷ [] ≡ name ++ colon ∷ (more ++ b ∷ [])
    moved = append_assoc name (colon ∷ more) (b ∷ [])

    by_byte : (t : Bool) → (b == line_feed) ≡ t
        → unpadded_lines (name ++ colon ∷ (more ++ b ∷ [])) rest ≡ without_blanks name ++ colon ∷ ((more ++ b ∷ []) ++ unpadded rest)
        → (if b == line_feed then unpadded_line [] ((name ++ colon ∷ more) ++ b ∷ []) ++ unpadded_lines [] rest else unpadded_lines ((name ++ colon ∷ more) ++ b ∷ []) rest)
        ≡ without_blanks name ++ colon ∷ (more ++ (if b == line_feed then b ∷ unpadded_lines [] rest else b ∷ unpadded rest))
    by_byte true is later = rw is (
        ap (λ (l : List ℕ). unpadded_line [] l ++ unpadded_lines [] rest) moved
        ∙ ap (λ (l : List ℕ). l ++ unpadded_lines [] rest) (line_to_colon [] name (more ++ b ∷ []) all)
        ∙ append_assoc (without_blanks name) (colon ∷ (more ++ b ∷ [])) (unpadded_lines [] rest)
        ∙ ap (λ (m : List ℕ). without_blanks name ++ colon ∷ m) (append_assoc more (b ∷ []) (unpadded_lines [] rest))
        )
    by_byte false is later = rw is (
        ap (λ (l : List ℕ). unpadded_lines l rest) moved
        ∙ later
        ∙ ap (λ (m : List ℕ). without_blanks name ++ colon ∷ m) (append_assoc more (b ∷ []) (unpadded rest))
        )

-- ---- one more byte of the copy

-- outside a name it is copied
pub put_plain : (text name : List ℕ) (b : ℕ) (rest : List ℕ) → name ≡ []
    → (text ++ b ∷ []) ++ (if b == line_feed then unpadded_lines name rest else unpadded rest) ≡ text ++ unpadded (b ∷ rest)
unfolding unpadded
put_plain text name b rest none = by_byte (b == line_feed) refl
  where
    by_byte : (t : Bool) → (b == line_feed) ≡ t
        → (text ++ b ∷ []) ++ (if b == line_feed then unpadded_lines name rest else unpadded rest)
        ≡ text ++ (if b == line_feed then b ∷ unpadded_lines [] rest else b ∷ unpadded rest)
    by_byte true is = rw is (append_assoc text (b ∷ []) (unpadded_lines name rest) ∙ ap (λ (n : List ℕ). text ++ b ∷ unpadded_lines n rest) none)
    by_byte false is = rw is (append_assoc text (b ∷ []) (unpadded rest))

-- a byte of a name is kept apart
pub put_name : (text name : List ℕ) (b : ℕ) (rest : List ℕ) → (b == line_feed) ≡ false
    → text ++ unpadded_lines (name ++ b ∷ []) rest ≡ text ++ unpadded_lines name (b ∷ rest)
put_name text name b rest other = rw other refl

pub more_name : (name : List ℕ) (b : ℕ) → list_all is_name_byte name ≡ true → (b == colon) ≡ false → list_all is_name_byte (name ++ b ∷ []) ≡ true
more_name [] b all other = rw other refl
more_name (x ∷ name) b all other =
    let (here, rest) = no_colon x name all in
    rw here (more_name name b rest other)

-- a colon ends it, without the blanks before
pub put_colon : (text name rest : List ℕ) → list_all is_name_byte name ≡ true
    → ((text ++ without_blanks name) ++ colon ∷ []) ++ unpadded rest ≡ text ++ unpadded_lines name (colon ∷ rest)
put_colon text name rest all =
    append_assoc (text ++ without_blanks name) (colon ∷ []) (unpadded rest)
    ∙ append_assoc text (without_blanks name) (colon ∷ unpadded rest)
    ∙ ap (λ (l : List ℕ). text ++ l) (sym (lines_to_colon name [] rest all))

-- a line feed ends the line
pub put_feed : (text name rest : List ℕ) → list_all is_name_byte name ≡ true
    → ((text ++ name) ++ line_feed ∷ []) ++ unpadded_lines [] rest ≡ text ++ unpadded_lines name (line_feed ∷ rest)
put_feed text name rest all =
    ap (λ (l : List ℕ). l ++ unpadded_lines [] rest) (append_assoc text name (line_feed ∷ []))
    ∙ append_assoc text (name ++ line_feed ∷ []) (unpadded_lines [] rest)
    ∙ ap (λ (l : List ℕ). text ++ (l ++ unpadded_lines [] rest)) (sym (line_alone [] (name ++ line_feed ∷ []) (more_name name line_feed all refl)))

-- at the end the name is copied
pub put_end : (text name : List ℕ) (in_name : Bool) → (in_name ≡ false → name ≡ []) → list_all is_name_byte name ≡ true
    → text ++ name ≡ text ++ (if in_name then unpadded_lines name [] else unpadded [])
unfolding unpadded
put_end text name true apart all = ap (λ (l : List ℕ). text ++ l) (sym (line_alone [] name all))
put_end text name false apart all = ap (λ (l : List ℕ). text ++ l) (apart refl)

-- ---- the same of what is kept

pub plain_on : (old new : Copying) (b : ℕ) → old.in_name ≡ false → old.name ≡ [] → new.text ≡ old.text ++ b ∷ [] → new.name ≡ old.name
    → new.in_name ≡ (b == line_feed) → (rest : List ℕ) → copy_with new rest ≡ copy_with old (b ∷ rest)
plain_on old new b plain none text name in_name rest =
    rw (plain, in_name, text, name) (put_plain old.text old.name b rest none)

pub colon_on : (old new : Copying) → old.in_name ≡ true → list_all is_name_byte old.name ≡ true
    → new.text ≡ (old.text ++ without_blanks old.name) ++ colon ∷ [] → new.name ≡ [] → new.in_name ≡ false
    → (rest : List ℕ) → copy_with new rest ≡ copy_with old (colon ∷ rest)
colon_on old new named all text none in_name rest = rw (named, in_name, text) (put_colon old.text old.name rest all)

pub feed_on : (old new : Copying) → old.in_name ≡ true → list_all is_name_byte old.name ≡ true
    → new.text ≡ (old.text ++ old.name) ++ line_feed ∷ [] → new.name ≡ [] → new.in_name ≡ true
    → (rest : List ℕ) → copy_with new rest ≡ copy_with old (line_feed ∷ rest)
feed_on old new named all text none in_name rest = rw (named, in_name, text, none) (put_feed old.text old.name rest all)

-- ---- blanks at the end

pub blanks_none : without_blanks [] ≡ []
blanks_none = refl

pub blanks_more : (bytes : List ℕ) (b : ℕ) → is_ows b ≡ true → without_blanks (bytes ++ b ∷ []) ≡ without_blanks bytes
blanks_more bytes b blank = ap (λ (l : List ℕ). reverse (skip_ows l)) (reverse-append bytes (b ∷ [])) ∙ rw blank refl

pub blanks_end : (bytes : List ℕ) (b : ℕ) → is_ows b ≡ false → without_blanks (bytes ++ b ∷ []) ≡ bytes ++ b ∷ []
blanks_end bytes b other =
    ap (λ (l : List ℕ). reverse (skip_ows l)) (reverse-append bytes (b ∷ []))
    ∙ rw other (ap reverse (sym (reverse-append bytes (b ∷ []))) ∙ reverse-reverse (bytes ++ b ∷ []))

-- ---- line feeds

blank_is_no_feed : (b : ℕ) → is_ows b ≡ true → is_feed b ≡ false
blank_is_no_feed b blank = by_byte (is_feed b) refl
  where
    by_byte : (t : Bool) → is_feed b ≡ t → is_feed b ≡ false
    by_byte true is = absurd (false≢true (sym (ap is_ows (eqb-true b line_feed is)) ∙ blank))
    by_byte false is = is

feeds-skip : (bytes : List ℕ) → feeds (skip_ows bytes) ≡ feeds bytes
feeds-skip [] = refl
feeds-skip (b ∷ bytes) = by_blank (is_ows b) refl (feeds-skip bytes)
  where
    by_blank : (t : Bool) → is_ows b ≡ t → feeds (skip_ows bytes) ≡ feeds bytes → feeds (skip_ows (b ∷ bytes)) ≡ feeds (b ∷ bytes)
    by_blank true blank later = rw blank (rw (blank_is_no_feed b blank) later)
    by_blank false other later = rw other refl

feeds-reverse : (bytes : List ℕ) → feeds (reverse bytes) ≡ feeds bytes
feeds-reverse [] = refl
feeds-reverse (b ∷ bytes) =
    omega (arith, ap feeds (reverse-append (b ∷ []) bytes), feeds-append (reverse bytes) (b ∷ []), feeds-reverse bytes, feeds-append (b ∷ []) bytes)

feeds-without : (bytes : List ℕ) → feeds (without_blanks bytes) ≡ feeds bytes
feeds-without bytes = feeds-reverse (skip_ows (reverse bytes)) ∙ feeds-skip (reverse bytes) ∙ feeds-reverse bytes

feeds-line : (before line : List ℕ) → feeds (unpadded_line before line) ≡ feeds before + feeds line
feeds-line before [] = omega arith
feeds-line before (b ∷ line) = by_byte (b == colon) (feeds-line (before ++ b ∷ []) line)
  where
    by_byte : (t : Bool) → feeds (unpadded_line (before ++ b ∷ []) line) ≡ feeds (before ++ b ∷ []) + feeds line
        → feeds (if t then without_blanks before ++ b ∷ line else unpadded_line (before ++ b ∷ []) line) ≡ feeds before + feeds (b ∷ line)
    by_byte true later = omega (arith, feeds-append (without_blanks before) (b ∷ line), feeds-without before)
    by_byte false later = omega (arith, later, feeds-append before (b ∷ []), feeds-append (b ∷ []) line)

feeds-lines : (before bytes : List ℕ) → feeds (unpadded_lines before bytes) ≡ feeds before + feeds bytes
feeds-lines before [] = omega (arith, feeds-line [] before)
feeds-lines before (b ∷ bytes) = by_byte (b == line_feed) (feeds-lines [] bytes) (feeds-lines (before ++ b ∷ []) bytes)
  where
    by_byte : (t : Bool) → feeds (unpadded_lines [] bytes) ≡ feeds [] + feeds bytes
        → feeds (unpadded_lines (before ++ b ∷ []) bytes) ≡ feeds (before ++ b ∷ []) + feeds bytes
        → feeds (if t then unpadded_line [] (before ++ b ∷ []) ++ unpadded_lines [] bytes else unpadded_lines (before ++ b ∷ []) bytes)
        ≡ feeds before + feeds (b ∷ bytes)
    by_byte true empty later = omega (
      arith,
      feeds-append (unpadded_line [] (before ++ b ∷ [])) (unpadded_lines [] bytes),
      feeds-line [] (before ++ b ∷ []),
      empty,
      feeds-append before (b ∷ []),
      feeds-append (b ∷ []) bytes,
    )
    by_byte false empty later = omega (arith, later, feeds-append before (b ∷ []), feeds-append (b ∷ []) bytes)

feeds-unpadded : (bytes : List ℕ) → feeds (unpadded bytes) ≡ feeds bytes
unfolding unpadded
feeds-unpadded [] = refl
feeds-unpadded (b ∷ bytes) = by_byte (b == line_feed) (feeds-unpadded bytes)
  where
    by_byte : (t : Bool) → feeds (unpadded bytes) ≡ feeds bytes
        → feeds (if t then b ∷ unpadded_lines [] bytes else b ∷ unpadded bytes) ≡ feeds (b ∷ bytes)
    by_byte true later = omega (arith, feeds-append (b ∷ []) (unpadded_lines [] bytes), feeds-append (b ∷ []) bytes, feeds-lines [] bytes)
    by_byte false later = omega (arith, feeds-append (b ∷ []) (unpadded bytes), feeds-append (b ∷ []) bytes, later)

-- the copy has as many header lines as the head
pub lines_of_copy : (piece : List ℕ) → header_lines (unpadded piece) ≡ header_lines piece
lines_of_copy piece =
    ap (λ n. n - 2) (sym (length-filter is_feed (unpadded piece)) ∙ feeds-unpadded piece ∙ length-filter is_feed piece)
