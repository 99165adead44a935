-- Whether a text is that of a request head is decided, one piece of the grammar after another.
use Rattle.std.proofs.Common.{◌≡◌, ℕ, zero, suc, ◌<◌, ◌≤◌, ◌⊎◌, Bool, true, false, List, [], ◌∷◌, ◌++◌, length, refl, sym, ap, ◌∙◌, subst, inl, inr, arith, append_assoc, length-append}
use Rattle.std.proofs.lemmas.List.{append_cancel_left}
use Rattle.std.proofs.lemmas.List.Elements.{All-nil, All-cons}
use Rattle.std.proofs.lemmas.Bool.{cases_eq}
use Rattle.std.specs.List.{flat_map}
use Rattle.std.specs.Str.{IsUtf8, is_utf8}
use Rattle.std.proofs.lemmas.Str.{IsUtf8-from_is_utf8, is_utf8-from_IsUtf8}
use Rattle.httparse.specs.Grammar.{is_token_byte, is_uri_byte, is_value_byte, AllPass, LineEnd, crlf, lf, print_end, print_blank, print_version, Field, print_field, IsField, RequestHead, ReadsRequest}
use Rattle.httparse.specs.Pieces.{Piece, Begins, Then, Stops, is_newline, Newline, Blank, Word, Method, Target, Version, Text, FieldLine, FieldLines, BeginsLine, Section, RequestStart}
use Rattle.httparse.proofs.PieceLemmas.{IsDeterministic, Then_deterministic, Blank_deterministic, Method_deterministic, Target_deterministic, Version_deterministic, RequestStart_deterministic, Section_deterministic, Name_deterministic, print_field-append, FieldLine_parts, FieldLines_push, Section_line, Section_skip, newline_not_stopped}
use Rattle.httparse.proofs.GrammarLemmas.{RequestTree, request_tree, request_head, request_pieces, request_from_pieces}
use Rattle.model_h1.specs.HeadPiece.{BeginsBlank}
use Rattle.model_h1.proofs.BlankLemmas.{blank_unique, blank_front}
use Rattle.model_h1.proofs.Decisions.{dec_like, dec_both, dec_pass, dec_either, dec_true, dec_below, dec_front, dec_cut}

-- each text begins with the piece or doesn't
abbrev pub IsDecided : {A : Type 0} → Piece A → Type 0
IsDecided G = (text : List ℕ) → Dec (Begins G text)

-- one piece and then another
then_decided : {A B : Type 0} (G : Piece A) (H : Piece B) → IsDeterministic G → IsDecided G → IsDecided H → IsDecided (Then G H)
then_decided {A} {B} G H det first second text =
    elim (first text) [
      | no none ↦ no (λ x. none (x.0.0, x.2.0, x.2.1))
      | yes x ↦ elim (second x.1) [
        | yes y ↦ yes ((x.0, y.0), y.1, (x.1, x.2, y.2))
        | no none ↦ no (λ z.
            let same = det.unique z.0.0 x.0 text z.2.0 x.1 z.2.1 x.2 in
            none (z.0.1, z.1, subst (λ (m : List ℕ). H z.0.1 m z.1) same.1 z.2.2))
      ]
    ]

-- text is UTF-8
pub dec_utf8 : (text : List ℕ) → Dec (IsUtf8 text)
dec_utf8 text = dec_like (IsUtf8-from_is_utf8 text) (is_utf8-from_IsUtf8 text) (dec_true (is_utf8 text))

-- ---- the request line

-- the first byte fails the test
stops_decided : (test : ℕ → Bool) (text : List ℕ) → Dec (Stops test text)
stops_decided test [] = no (λ x. x)
stops_decided test (b ∷ text) = fails_decided (test b)
  where
    fails_decided : (passes : Bool) → Dec (passes ≡ false)
    fails_decided true = no (λ e. cc)
    fails_decided false = yes refl

-- what begins with no line feed nor CR begins with no empty line
stops_no_blank : (text : List ℕ) → Stops is_newline text → ¬ (BeginsBlank text)
stops_no_blank text stops (end, rest, e) = newline_not_stopped end rest text (sym e) stops

-- the empty lines in front
blank_decided : IsDecided Blank
blank_decided text =
    let front = blank_front text in
    dec_like
    (λ stops. (front.ends, front.rest, (front.text_is, stops)))
    (λ x.
    let begins = stops_no_blank x.1 x.2.1 in
    let ends = blank_unique x.0 front.ends x.1 front.rest begins front.begins (sym x.2.0 ∙ front.text_is) in
    subst (Stops is_newline) (rest_same text x.0 front.ends x.1 front.rest ends x.2.0 front.text_is) x.2.1)
    (stops_decided is_newline front.rest)
  where
    rest_same : (text : List ℕ) (a b : List LineEnd) (r q : List ℕ) → a ≡ b → text ≡ print_blank a ++ r → text ≡ print_blank b ++ q → r ≡ q
    rest_same text a b r q same x y =
        append_cancel_left (print_blank a) r q (sym x ∙ y ∙ ap (λ (l : List LineEnd). print_blank l ++ q) (sym same))

-- a word up to a byte, of which Q holds
word_decided : (test : ℕ → Bool) (stop : ℕ) (Q : List ℕ → Type 0) → ((w : List ℕ) → Dec (Q w)) → (text : List ℕ)
    → Dec ((w : List ℕ) × (rest : List ℕ) × (Word test stop w text rest × Q w))
word_decided test stop Q decide text =
    dec_like
    (λ x. (x.0, x.3.1.1.0, ((x.3.0, x.3.1.0.0, x.2 ∙ ap (λ (t : List ℕ). x.0 ++ t) x.3.1.1.1), x.3.1.0.1)))
    (λ x. (x.0, stop ∷ x.1, x.2.0.2, (x.2.0.0, ((x.2.0.1, x.2.1), (x.1, refl)))))
    (dec_cut (λ a b. (0 < length a) × ((AllPass test a × Q a) × ((rest : List ℕ) × (b ≡ stop ∷ rest))))
    (λ a b. dec_both (dec_below 0 (length a)) (dec_both (dec_both (dec_pass test a) (decide a)) (dec_front (stop ∷ []) b))) text)

-- a word up to a byte
plain_word_decided : (test : ℕ → Bool) (stop : ℕ) → IsDecided (Word test stop)
plain_word_decided test stop text =
    dec_like (λ x. (x.0, x.1, x.2.0)) (λ x. (x.0, x.1, (x.2, tt))) (word_decided test stop (λ w. Unit {0}) (λ w. yes tt) text)

-- the target and the space behind it
target_decided : IsDecided Target
target_decided text = word_decided is_uri_byte 32 IsUtf8 dec_utf8 text

-- HTTP/1.0 or HTTP/1.1
version_of : (text : List ℕ) (minor : ℕ) (rest : List ℕ) → minor ≤ 1 → text ≡ print_version minor ++ rest
    → ((rest : List ℕ) × (text ≡ print_version 0 ++ rest)) ⊎ ((rest : List ℕ) × (text ≡ print_version 1 ++ rest))
version_of text minor rest most e =
    elim (cases_eq minor 0) [
      | inl zeroth ↦ inl (rest, e ∙ ap (λ m. print_version m ++ rest) zeroth)
      | inr other ↦
          let first : minor ≡ 1 = omega arith in
          inr (rest, e ∙ ap (λ m. print_version m ++ rest) first)
    ]

-- the version, by both texts
version_decided : IsDecided Version
version_decided text =
    dec_like (λ x. version_from x) (λ x. version_of text x.0 x.1 x.2.0 x.2.1) (dec_either (dec_front (print_version 0) text) (dec_front (print_version 1) text))
  where
    version_from : ((rest : List ℕ) × (text ≡ print_version 0 ++ rest)) ⊎ ((rest : List ℕ) × (text ≡ print_version 1 ++ rest)) → Begins Version text
    version_from (inl x) = (0, x.0, (omega arith, x.1))
    version_from (inr x) = (1, x.0, (omega arith, x.1))

-- CR LF or LF
newline_decided : IsDecided Newline
newline_decided text =
    dec_like (λ x. newline_from x) (λ x. newline_of x.0 x.1 x.2) (dec_either (dec_front (print_end crlf) text) (dec_front (print_end lf) text))
  where
    newline_from : ((rest : List ℕ) × (text ≡ print_end crlf ++ rest)) ⊎ ((rest : List ℕ) × (text ≡ print_end lf ++ rest)) → Begins Newline text
    newline_from (inl x) = (crlf, x.0, x.1)
    newline_from (inr x) = (lf, x.0, x.1)

    newline_of : (end : LineEnd) (rest : List ℕ) → text ≡ print_end end ++ rest
        → ((rest : List ℕ) × (text ≡ print_end crlf ++ rest)) ⊎ ((rest : List ℕ) × (text ≡ print_end lf ++ rest))
    newline_of crlf rest e = inl (rest, e)
    newline_of lf rest e = inr (rest, e)

-- the request line
start_decided : IsDecided RequestStart
start_decided =
    then_decided Blank _ Blank_deterministic blank_decided
    (then_decided Method _ Method_deterministic (plain_word_decided is_token_byte 32)
    (then_decided Target _ Target_deterministic target_decided
    (then_decided Version Newline Version_deterministic version_decided newline_decided)))

-- ---- the field lines

-- a value and its line end
text_decided : IsDecided Text
text_decided text =
    dec_like
    (λ x. ((x.0, x.3.1.0), x.3.1.1, (x.3.0, x.2 ∙ ap (λ (t : List ℕ). x.0 ++ t) x.3.1.2)))
    (λ x. (x.0.0, print_end x.0.1 ++ x.1, x.2.1, (x.2.0, (x.0.1, x.1, refl))))
    (dec_cut (λ a b. AllPass is_value_byte a × Begins Newline b) (λ a b. dec_both (dec_pass is_value_byte a) (newline_decided b)) text)

-- a field line
line_decided : IsDecided FieldLine
line_decided text =
    dec_like (λ x. line_from x.0.0 x.0.1.0 x.0.1.1 x.1 x.2) (λ x. ((x.0.name, (x.0.raw, x.0.end)), x.1, FieldLine_parts x.0 text x.1 x.2))
    (then_decided (Word is_token_byte 58) Text Name_deterministic (plain_word_decided is_token_byte 58) text_decided text)
  where
    line_from : (name raw : List ℕ) (end : LineEnd) (rest : List ℕ) → Then (Word is_token_byte 58) Text (name, (raw, end)) text rest
        → Begins FieldLine text
    line_from name raw end rest x =
        let f : Field = record { name = name; raw = raw; end = end } in (
          f,
          rest,
          (
            record { name = (x.1.0, x.1.1); raw = x.2.0 },
            x.1.2 ∙ ap (λ (t : List ℕ). name ++ 58 ∷ t) x.2.1 ∙ sym (print_field-append f rest),
          ),
        )

-- what follows a field line is shorter
line_shorter : (f : Field) (text rest : List ℕ) → FieldLine f text rest → length rest < length text
line_shorter f text rest x =
    let value = f.raw ++ (print_end f.end ++ rest) in
    omega (arith, ap length (x.1 ∙ print_field-append f rest), length-append f.name (58 ∷ value), length-append f.raw (print_end f.end ++ rest), length-append (print_end f.end) rest)

-- one more line in front
section_cons : (f : Field) (fs : List Field) (last : LineEnd) (text middle rest : List ℕ) → FieldLine f text middle → Section (fs, last) middle rest
    → Section (f ∷ fs, last) text rest
section_cons f fs last text middle rest x y = (
  All-cons IsField f fs x.0 y.0,
  x.1 ∙ ap (λ (t : List ℕ). print_field f ++ t) y.1
      ∙ sym (append_assoc (print_field f) (flat_map print_field fs ++ print_end last) rest)
      ∙ ap (λ (t : List ℕ). t ++ rest) (sym (append_assoc (print_field f) (flat_map print_field fs) (print_end last))),
)

-- and one less
section_tail : (f : Field) (text middle : List ℕ) → FieldLine f text middle → Begins Section text → Begins Section middle
section_tail f text middle x s =
    let none : FieldLines [] text text = (All-nil IsField, refl) in
    let skipped = Section_skip (f ∷ []) s.0.0 s.0.1 text middle s.1 (FieldLines_push [] f text text middle none x) s.2 in
    ((skipped.0, s.0.1), s.1, skipped.2)

-- a section, of a text shorter than the fuel
section_by_fuel : (fuel : ℕ) (text : List ℕ) → length text < fuel → Dec (Begins Section text)
section_by_fuel zero text enough = absurd (omega arith)
section_by_fuel (suc fuel) text enough =
    elim (newline_decided text) [
      | yes end ↦ yes (([], end.0), end.1, (All-nil IsField, end.2))
      | no no_end ↦ elim (line_decided text) [
        | no no_line ↦ no (λ s. no_section no_end no_line (Section_line s.0 text s.1 s.2))
        | yes line ↦
            let less = line_shorter line.0 text line.1 line.2 in
            dec_like (λ s. ((line.0 ∷ s.0.0, s.0.1), s.1, section_cons line.0 s.0.0 s.0.1 text line.1 s.1 line.2 s.2))
            (section_tail line.0 text line.1 line.2) (section_by_fuel fuel line.1 (omega arith))
      ]
    ]
  where
    no_section : ¬ (Begins Newline text) → ¬ (Begins FieldLine text) → BeginsLine text → ⊥
    no_section no_end no_line (inl end) = no_end end
    no_section no_end no_line (inr line) = no_line line

-- the field lines and the empty line behind them
section_decided : IsDecided Section
section_decided text = section_by_fuel (suc (length text)) text (omega arith)

-- ---- the head

-- a piece is the text of a request head or isn't
pub request_decided : (piece : List ℕ) → Dec ((h : RequestHead) × ReadsRequest piece h [])
request_decided piece =
    elim (then_decided RequestStart Section RequestStart_deterministic start_decided section_decided piece) [
      | no none ↦ no (λ x. none (request_tree x.0, [], request_pieces piece x.0 [] x.1))
      | yes x ↦ ends x.0 x.1 x.2
    ]
  where
    nil_cons : (b : ℕ) (rest : List ℕ) → [] ≡ b ∷ rest → ⊥
    nil_cons b rest e = cc

    ends : (t : RequestTree) (rest : List ℕ) → Then RequestStart Section t piece rest → Dec ((h : RequestHead) × ReadsRequest piece h [])
    ends t [] x = yes (request_head t, request_from_pieces piece t [] x)
    ends t (b ∷ rest) x = no (λ y.
        let same = (Then_deterministic RequestStart_deterministic Section_deterministic).unique
        (request_tree y.0) t piece [] (b ∷ rest) (request_pieces piece y.0 [] y.1) x in
        nil_cons b rest same.1)
