-- The second reading takes the blanks before colons away, and nothing else.
use Rattle.std.proofs.Common.{◌≡◌, ℕ, Bool, true, false, ◌||◌, List, [], ◌∷◌, ◌++◌, reverse, refl, sym, ap, ◌∙◌, subst, eqb, append-nil, append_assoc, arith}
use Rattle.std.specs.Prelude.{flat_map}
use Rattle.std.specs.List.{AllByRecursion}
use Rattle.std.proofs.lemmas.Bool.{false≢true, cond-true, cond-false}
use Rattle.std.proofs.lemmas.Bool.Decides.{nat_tests}
use Rattle.std.proofs.lemmas.List.{reverse-append, reverse-reverse}
use Rattle.httparse.specs.Grammar.{is_ows, skip_ows}
use Rattle.model_client.specs.LaxText.{without_blanks, unpadded_line, unpadded_lines, unpadded}
use Rattle.model_client.specs.Laws.PaddedLines.{PaddedLine, HasNoFeed, HasNoColon, IsPaddedLine, padded_text, plain_text}

-- ---- lists

all_both : (P : ℕ → Type 0) (xs ys : List ℕ) → AllByRecursion P xs → AllByRecursion P ys → AllByRecursion P (xs ++ ys)
all_both P [] ys a b = b
all_both P (x ∷ xs) ys a b = (a.0, all_both P xs ys a.1 b)

all_reverse : (P : ℕ → Type 0) (xs : List ℕ) → AllByRecursion P xs → AllByRecursion P (reverse xs)
all_reverse P [] a = a
all_reverse P (x ∷ xs) a = subst (AllByRecursion P) (sym (reverse-append (x ∷ []) xs)) (all_both P (reverse xs) (x ∷ []) (all_reverse P xs a.1) (a.0, tt))

all_like : (P Q : ℕ → Type 0) → ((b : ℕ) → P b → Q b) → (xs : List ℕ) → AllByRecursion P xs → AllByRecursion Q xs
all_like P Q f [] a = tt
all_like P Q f (x ∷ xs) a = (f x a.0, all_like P Q f xs a.1)

-- tests that a byte passes or fails
abbrev IsNameByte : ℕ → Type 0
IsNameByte b = (is_ows b || eqb b 58 || eqb b 10) ≡ false

abbrev IsBlank : ℕ → Type 0
IsBlank b = is_ows b ≡ true

abbrev IsNoBlank : ℕ → Type 0
IsNoBlank b = is_ows b ≡ false

abbrev IsNoFeed : ℕ → Type 0
IsNoFeed b = eqb b 10 ≡ false

abbrev IsNoColon : ℕ → Type 0
IsNoColon b = eqb b 58 ≡ false

-- none of three tests holds
first_fails : (a b c : Bool) → (a || b || c) ≡ false → a ≡ false
first_fails false b c none = refl
first_fails true b c none = absurd (false≢true (sym none))

second_fails : (a b c : Bool) → (a || b || c) ≡ false → b ≡ false
second_fails false false c none = refl
second_fails false true c none = absurd (false≢true (sym none))
second_fails true b c none = absurd (false≢true (sym none))

third_fails : (a b c : Bool) → (a || b || c) ≡ false → c ≡ false
third_fails false false c none = none
third_fails false true c none = absurd (false≢true (sym none))
third_fails true b c none = absurd (false≢true (sym none))

-- a blank is no colon and no line feed
blank_no_colon : (b : ℕ) → is_ows b ≡ true → eqb b 58 ≡ false
blank_no_colon b blank = grind (arith, nat_tests)

blank_no_feed : (b : ℕ) → is_ows b ≡ true → eqb b 10 ≡ false
blank_no_feed b blank = grind (arith, nat_tests)

-- ---- blanks at an end

skip_blanks : (xs ys : List ℕ) → AllByRecursion (λ b. is_ows b ≡ true) xs → skip_ows (xs ++ ys) ≡ skip_ows ys
skip_blanks [] ys blank = refl
skip_blanks (b ∷ xs) ys blank = cond-true (is_ows b) (skip_ows (xs ++ ys)) (b ∷ (xs ++ ys)) blank.0 ∙ skip_blanks xs ys blank.1

skip_none : (ys : List ℕ) → AllByRecursion (λ b. is_ows b ≡ false) ys → skip_ows ys ≡ ys
skip_none [] none = refl
skip_none (b ∷ ys) none = cond-false (is_ows b) (skip_ows ys) (b ∷ ys) none.0

name_alone : (name blanks : List ℕ) → AllByRecursion (λ b. is_ows b ≡ false) name → AllByRecursion (λ b. is_ows b ≡ true) blanks
    → without_blanks (name ++ blanks) ≡ name
name_alone name blanks none blank =
    ap (λ l. reverse (skip_ows l)) (reverse-append name blanks)
    ∙ ap reverse (skip_blanks (reverse blanks) (reverse name) (all_reverse IsBlank blanks blank) ∙ skip_none (reverse name) (all_reverse IsNoBlank name none))
    ∙ reverse-reverse name

-- ---- a line

-- up to the first colon
to_colon : (before name rest : List ℕ) → HasNoColon name → unpadded_line before (name ++ 58 ∷ rest) ≡ without_blanks (before ++ name) ++ 58 ∷ rest
to_colon before [] rest none = ap (λ l. without_blanks l ++ 58 ∷ rest) (sym (append-nil before))
to_colon before (b ∷ name) rest none =
    cond-false (eqb b 58) (without_blanks before ++ b ∷ (name ++ 58 ∷ rest)) (unpadded_line (before ++ b ∷ []) (name ++ 58 ∷ rest)) none.0
    ∙ to_colon (before ++ b ∷ []) name rest none.1 ∙ ap (λ l. without_blanks l ++ 58 ∷ rest) (append_assoc before (b ∷ []) name)

-- without one
no_colon : (before line : List ℕ) → HasNoColon line → unpadded_line before line ≡ before ++ line
no_colon before [] none = sym (append-nil before)
no_colon before (b ∷ line) none =
    cond-false (eqb b 58) (without_blanks before ++ b ∷ line) (unpadded_line (before ++ b ∷ []) line) none.0
    ∙ no_colon (before ++ b ∷ []) line none.1 ∙ append_assoc before (b ∷ []) line

-- ---- lines

-- up to the first line feed
first_line : (first more : List ℕ) → HasNoFeed first → unpadded (first ++ 10 ∷ more) ≡ first ++ 10 ∷ unpadded_lines [] more
unfolding unpadded
first_line [] more none = refl
first_line (b ∷ first) more none =
    cond-false (eqb b 10) (b ∷ unpadded_lines [] (first ++ 10 ∷ more)) (b ∷ unpadded (first ++ 10 ∷ more)) none.0
    ∙ ap (λ l. b ∷ l) (first_line first more none.1)

one_line : (before line more : List ℕ) → HasNoFeed line
    → unpadded_lines before (line ++ 10 ∷ more) ≡ unpadded_line [] (before ++ (line ++ 10 ∷ [])) ++ unpadded_lines [] more
one_line before [] more none = refl
one_line before (b ∷ line) more none =
    cond-false (eqb b 10) (unpadded_line [] (before ++ b ∷ []) ++ unpadded_lines [] (line ++ 10 ∷ more)) (unpadded_lines (before ++ b ∷ []) (line ++ 10 ∷ more)) none.0
    ∙ one_line (before ++ b ∷ []) line more none.1
    ∙ ap (λ l. unpadded_line [] l ++ unpadded_lines [] more) (append_assoc before (b ∷ []) (line ++ 10 ∷ []))

-- a header line with blanks before its colon
padded_line : (l : PaddedLine) (more : List ℕ) → IsPaddedLine l → unpadded_lines [] (padded_text l ++ more) ≡ plain_text l ++ unpadded_lines [] more
padded_line l more x =
    let text = l.name ++ (l.blanks ++ 58 ∷ l.rest) in
    let regrouped : padded_text l ++ more ≡ text ++ 10 ∷ more = simp append_assoc in
    let ended : text ++ 10 ∷ [] ≡ (l.name ++ l.blanks) ++ 58 ∷ (l.rest ++ 10 ∷ []) = simp append_assoc in
    let feeds : HasNoFeed text =
    all_both IsNoFeed l.name (l.blanks ++ 58 ∷ l.rest) (all_like IsNameByte IsNoFeed (λ b. third_fails (is_ows b) (eqb b 58) (eqb b 10)) l.name x.name)
    (all_both IsNoFeed l.blanks (58 ∷ l.rest) (all_like IsBlank IsNoFeed blank_no_feed l.blanks x.blanks) (refl, x.rest)) in
    let colons : HasNoColon (l.name ++ l.blanks) =
    all_both IsNoColon l.name l.blanks (all_like IsNameByte IsNoColon (λ b. second_fails (is_ows b) (eqb b 58) (eqb b 10)) l.name x.name) (all_like IsBlank IsNoColon blank_no_colon l.blanks x.blanks) in
    let alone = name_alone l.name l.blanks (all_like IsNameByte IsNoBlank (λ b. first_fails (is_ows b) (eqb b 58) (eqb b 10)) l.name x.name) x.blanks in
    ap (unpadded_lines []) regrouped ∙ one_line [] text more feeds
    ∙ ap (λ t. t ++ unpadded_lines [] more) (ap (unpadded_line []) ended ∙ to_colon [] (l.name ++ l.blanks) (l.rest ++ 10 ∷ []) colons
    ∙ ap (λ t. t ++ 58 ∷ (l.rest ++ 10 ∷ [])) alone)

all_lines : (lines : List PaddedLine) (last : List ℕ) → AllByRecursion IsPaddedLine lines → HasNoFeed last → HasNoColon last
    → unpadded_lines [] (flat_map padded_text lines ++ (last ++ 10 ∷ [])) ≡ flat_map plain_text lines ++ (last ++ 10 ∷ [])
all_lines [] last x feeds colons =
    one_line [] last [] feeds ∙ append-nil (unpadded_line [] (last ++ 10 ∷ [])) ∙ no_colon [] (last ++ 10 ∷ []) (all_both IsNoColon last (10 ∷ []) colons (refl, tt))
all_lines (l ∷ lines) last x feeds colons =
    let more = flat_map padded_text lines ++ (last ++ 10 ∷ []) in
    ap (unpadded_lines []) (append_assoc (padded_text l) (flat_map padded_text lines) (last ++ 10 ∷ [])) ∙ padded_line l more x.0
    ∙ ap (λ t. plain_text l ++ t) (all_lines lines last x.1 feeds colons)
    ∙ sym (append_assoc (plain_text l) (flat_map plain_text lines) (last ++ 10 ∷ []))

-- all of a head: its first line stays as it is, and so does its last
pub unpadded_head : (first last : List ℕ) (lines : List PaddedLine) → HasNoFeed first → AllByRecursion IsPaddedLine lines → HasNoFeed last → HasNoColon last
    → unpadded (first ++ 10 ∷ (flat_map padded_text lines ++ (last ++ 10 ∷ []))) ≡ first ++ 10 ∷ (flat_map plain_text lines ++ (last ++ 10 ∷ []))
unpadded_head first last lines one x feeds colons =
    first_line first (flat_map padded_text lines ++ (last ++ 10 ∷ [])) one ∙ ap (λ t. first ++ 10 ∷ t) (all_lines lines last x feeds colons)
