-- Whether a text is that of a response head is decided, by cutting it in all ways.
use Rattle.std.proofs.Common.{◌≡◌, ℕ, zero, suc, ◌+◌, ◌-◌, ◌<◌, ◌≤◌, ◌⊎◌, true, List, [], ◌∷◌, ◌++◌, length, All, refl, sym, ap, ap₂, ◌∙◌, subst, inl, inr, arith, append_assoc, append-nil, length-append, Option, Some, None}
use Rattle.std.proofs.lemmas.List.Elements.{All-nil, All-cons, All-head, All-tail}
use Rattle.std.specs.List.{flat_map}
use Rattle.std.specs.Char.{is_ascii_digit}
use Rattle.httparse.specs.Grammar.{AllPass, is_token_byte, is_value_byte, LineEnd, crlf, lf, print_end, print_blank, print_version, Field, print_field, IsField, print_section, print_reason, reason_phrase, ResponseHead, IsResponseHead, print_response, ReadsResponse}
use Rattle.httparse.proofs.GrammarLemmas.{print_response-append}
use Rattle.model_h1.proofs.Decisions.{dec_like, dec_both, dec_pass, dec_either, dec_below, dec_same, dec_bytes, dec_cut, HasCut}

-- ---- a line end

-- the text is a line end
abbrev IsEnd : List ℕ → Type 0
IsEnd text = (end : LineEnd) × (text ≡ print_end end)

-- one of two texts
end_decided : (text : List ℕ) → Dec ((end : LineEnd) × (text ≡ print_end end))
end_decided text = dec_like (λ x. from x) (λ x. into x.0 x.1) (dec_either (dec_bytes text (print_end crlf)) (dec_bytes text (print_end lf)))
  where
    from : (text ≡ print_end crlf) ⊎ (text ≡ print_end lf) → (end : LineEnd) × (text ≡ print_end end)
    from (inl e) = (crlf, e)
    from (inr e) = (lf, e)

    into : (end : LineEnd) → text ≡ print_end end → (text ≡ print_end crlf) ⊎ (text ≡ print_end lf)
    into crlf e = inl e
    into lf e = inr e

-- ---- pieces, one after another, a bounded number of times

-- at most so many texts of P, and then one of Q
abbrev Repeats : (P Q : List ℕ → Type 0) → ℕ → List ℕ → Type 0
Repeats P Q zero text = Q text
Repeats P Q (suc n) text = Q text ⊎ HasCut (λ a b. P a × Repeats P Q n b) text

repeats_decided : (P Q : List ℕ → Type 0) → ((t : List ℕ) → Dec (P t)) → ((t : List ℕ) → Dec (Q t)) → (n : ℕ) (text : List ℕ) → Dec (Repeats P Q n text)
repeats_decided P Q p q zero text = q text
repeats_decided P Q p q (suc n) text = dec_either (q text) (dec_cut (λ a b. P a × Repeats P Q n b) (λ a b. dec_both (p a) (repeats_decided P Q p q n b)) text)

-- one more is allowed
repeats_more : (P Q : List ℕ → Type 0) (n : ℕ) (text : List ℕ) → Repeats P Q n text → Repeats P Q (suc n) text
repeats_more P Q zero text x = inl x
repeats_more P Q (suc n) text (inl x) = inl x
repeats_more P Q (suc n) text (inr x) = inr (x.0, x.1, x.2, (x.3.0, repeats_more P Q n x.1 x.3.1))

repeats_up_to : (P Q : List ℕ → Type 0) (n more : ℕ) (text : List ℕ) → Repeats P Q n text → Repeats P Q (more + n) text
repeats_up_to P Q n zero text x = let same : n ≡ 0 + n = omega arith in subst (λ k. Repeats P Q k text) same x
repeats_up_to P Q n (suc more) text x =
    let same : suc (more + n) ≡ suc more + n = omega arith in
    subst (λ k. Repeats P Q k text) same (repeats_more P Q (more + n) text (repeats_up_to P Q n more text x))

-- ---- field lines

-- the text is a field line
abbrev IsLine : List ℕ → Type 0
IsLine text = (f : Field) × IsField f × (text ≡ print_field f)

-- a name, a colon, a value and a line end
abbrev IsValue : List ℕ → List ℕ → Type 0
IsValue a b = AllPass is_value_byte a × ((end : LineEnd) × (b ≡ print_end end))

abbrev IsColonValue : List ℕ → List ℕ → Type 0
IsColonValue a b = (a ≡ 58 ∷ []) × HasCut IsValue b

abbrev IsNamed : List ℕ → List ℕ → Type 0
IsNamed a b = ((0 < length a) × AllPass is_token_byte a) × HasCut IsColonValue b

line_decided : (text : List ℕ) → Dec (IsLine text)
line_decided text =
    dec_like (λ x. from x.0 x.1 x.2 x.3) (λ x. into x.0 x.1 x.2)
    (dec_cut IsNamed (λ a b. dec_both (dec_both (dec_below 0 (length a)) (dec_pass is_token_byte a))
    (dec_cut IsColonValue (λ c d. dec_both (dec_bytes c (58 ∷ [])) (dec_cut IsValue (λ v e. dec_both (dec_pass is_value_byte v) (end_decided e)) d)) b)) text)
  where
    from : (name rest : List ℕ) → text ≡ name ++ rest → IsNamed name rest → IsLine text
    from name rest e x =
        let v = x.1.3.1 in
        let f : Field = record { name = name; raw = v.0; end = v.3.1.0 } in (
          f,
          record { name = x.0; raw = v.3.0 },
          e ∙ ap (λ (t : List ℕ). name ++ t) (x.1.2 ∙ ap₂ (λ (a b : List ℕ). a ++ b) x.1.3.0 (v.2 ∙ ap (λ (t : List ℕ). v.0 ++ t) v.3.1.1))
              ∙ sym (append_assoc name (58 ∷ v.0) (print_end v.3.1.0)),
        )

    into : (f : Field) → IsField f → text ≡ print_field f → HasCut IsNamed text
    into f is e =
        (f.name, 58 ∷ (f.raw ++ print_end f.end), e ∙ append_assoc f.name (58 ∷ f.raw) (print_end f.end), (is.name, (58 ∷ [], f.raw ++ print_end f.end, refl, (refl, (f.raw, print_end f.end, refl, (is.raw, (f.end, refl)))))))

-- ---- the section

abbrev IsSection : List ℕ → Type 0
IsSection text = (fields : List Field) × (last : LineEnd) × All IsField fields × (text ≡ print_section fields last)

-- from lines one after another
section_from : (n : ℕ) (text : List ℕ) → Repeats IsLine IsEnd n text → IsSection text
section_from zero text x = ([], x.0, All-nil IsField, x.1)
section_from (suc n) text (inl x) = ([], x.0, All-nil IsField, x.1)
section_from (suc n) text (inr x) =
    let f = x.3.0 in
    let others = section_from n x.1 x.3.1 in (
      f.0 ∷ others.0,
      others.1,
      All-cons IsField f.0 others.0 f.1 others.2,
      x.2 ∙ ap₂ (λ (a b : List ℕ). a ++ b) f.2 others.3 ∙ sym (append_assoc (print_field f.0) (flat_map print_field others.0) (print_end others.1)),
    )

-- and into them
section_into : (fields : List Field) (last : LineEnd) (text : List ℕ) → All IsField fields → text ≡ print_section fields last
    → Repeats IsLine IsEnd (length fields) text
section_into [] last text all e = (last, e)
section_into (f ∷ fields) last text all e =
    inr (
      print_field f,
      print_section fields last,
      e ∙ append_assoc (print_field f) (flat_map print_field fields) (print_end last),
      ((f, All-head IsField f fields all, refl), section_into fields last (print_section fields last) (All-tail IsField f fields all) refl),
    )

-- a section has no more lines than bytes
section_size : (fields : List Field) (last : LineEnd) → length fields ≤ length (print_section fields last)
section_size [] last = omega arith
section_size (f ∷ fields) last =
    omega (
      arith,
      section_size fields last,
      ap length (append_assoc (print_field f) (flat_map print_field fields) (print_end last)),
      length-append (print_field f) (flat_map print_field fields ++ print_end last),
      length-append (f.name ++ 58 ∷ f.raw) (print_end f.end),
      length-append f.name (58 ∷ f.raw),
    )

section_decided : (text : List ℕ) → Dec (IsSection text)
section_decided text =
    dec_like (section_from (length text) text) (λ x. into x.0 x.1 x.2 x.3) (repeats_decided IsLine IsEnd line_decided end_decided (length text) text)
  where
    into : (fields : List Field) (last : LineEnd) → All IsField fields → text ≡ print_section fields last → Repeats IsLine IsEnd (length text) text
    into fields last all e =
        let size : length fields ≤ length text = omega (arith, section_size fields last, ap length e) in
        let all_of : length text - length fields + length fields ≡ length text = omega arith in
        subst (λ n. Repeats IsLine IsEnd n text) all_of
        (repeats_up_to IsLine IsEnd (length fields) (length text - length fields) text (section_into fields last text all e))

-- ---- the status line and what follows it

-- the line end and the section
abbrev IsRest : List ℕ → List ℕ → Type 0
IsRest a b = ((end : LineEnd) × (a ≡ print_end end)) × IsSection b

rest_decided : (text : List ℕ) → Dec (HasCut IsRest text)
rest_decided text = dec_cut IsRest (λ a b. dec_both (end_decided a) (section_decided b)) text

-- a reason, if there is one
abbrev IsReason : List ℕ → Type 0
IsReason text = (r : Option (List ℕ)) × AllPass is_value_byte (reason_phrase r) × (text ≡ print_reason r)

reason_decided : (text : List ℕ) → Dec (IsReason text)
reason_decided [] = yes (None, All-nil (λ b. is_value_byte b ≡ true), refl)
reason_decided (b ∷ text) = dec_like (λ x. from x.0 x.1) (λ x. into x.0 x.1 x.2) (dec_both (dec_same b 32) (dec_pass is_value_byte text))
  where
    from : b ≡ 32 → AllPass is_value_byte text → IsReason (b ∷ text)
    from e all = (Some text, all, ap (λ (k : ℕ). k ∷ text) e)

    into : (r : Option (List ℕ)) → AllPass is_value_byte (reason_phrase r) → b ∷ text ≡ print_reason r → (b ≡ 32) × AllPass is_value_byte text
    into None all e = cc
    into (Some phrase) all e =
        let same : text ≡ phrase = cc in
        (cc, subst (AllPass is_value_byte) (sym same) all)

abbrev IsReasonThen : List ℕ → List ℕ → Type 0
IsReasonThen a b = IsReason a × HasCut IsRest b

-- three digits
abbrev IsCodeThen : List ℕ → List ℕ → Type 0
IsCodeThen a b = ((length a ≡ 3) × AllPass is_ascii_digit a) × HasCut IsReasonThen b

code_decided : (text : List ℕ) → Dec (HasCut IsCodeThen text)
code_decided text =
    dec_cut IsCodeThen (λ a b. dec_both (dec_both (dec_same (length a) 3) (dec_pass is_ascii_digit a))
    (dec_cut IsReasonThen (λ c d. dec_both (reason_decided c) (rest_decided d)) b)) text

-- the version and a space
abbrev IsVersion : List ℕ → Type 0
IsVersion text = (minor : ℕ) × (minor ≤ 1) × (text ≡ print_version minor ++ 32 ∷ [])

version_decided : (text : List ℕ) → Dec (IsVersion text)
version_decided text = dec_like (λ x. from x) (λ x. into x.0 x.1 x.2) (dec_either (dec_bytes text (print_version 0 ++ 32 ∷ [])) (dec_bytes text (print_version 1 ++ 32 ∷ [])))
  where
    from : (text ≡ print_version 0 ++ 32 ∷ []) ⊎ (text ≡ print_version 1 ++ 32 ∷ []) → IsVersion text
    from (inl e) = (0, omega arith, e)
    from (inr e) = (1, omega arith, e)

    into : (minor : ℕ) → minor ≤ 1 → text ≡ print_version minor ++ 32 ∷ [] → (text ≡ print_version 0 ++ 32 ∷ []) ⊎ (text ≡ print_version 1 ++ 32 ∷ [])
    into zero most e = inl e
    into (suc zero) most e = inr e
    into (suc (suc n)) most e = absurd (omega (arith, most))

abbrev IsVersionThen : List ℕ → List ℕ → Type 0
IsVersionThen a b = IsVersion a × HasCut IsCodeThen b

line_and_rest_decided : (text : List ℕ) → Dec (HasCut IsVersionThen text)
line_and_rest_decided text = dec_cut IsVersionThen (λ a b. dec_both (version_decided a) (code_decided b)) text

-- ---- the head

-- the text is that of a head
abbrev IsHead : List ℕ → Type 0
IsHead piece = (h : ResponseHead) × ReadsResponse piece h []

-- from its parts, without empty lines in front
line_from : (text : List ℕ) → HasCut IsVersionThen text → IsHead text
line_from text x =
    let version = x.3.0 in
    let code = x.3.1 in
    let reason = code.3.1 in
    let rest = reason.3.1 in
    let section = rest.3.1 in
    let h : ResponseHead = record {
      blank = [];
      minor = version.0;
      digits = code.0;
      reason = reason.3.0.0;
      line_end = rest.3.0.0;
      fields = section.0;
      last = section.1;
    } in
    let tail : rest.1 ≡ print_section section.0 section.1 ++ [] = section.3 ∙ sym (append-nil (print_section section.0 section.1)) in
    let behind_end : reason.1 ≡ print_end h.line_end ++ (print_section h.fields h.last ++ []) =
    rest.2 ∙ ap₂ (λ (a b : List ℕ). a ++ b) rest.3.0.1 tail in
    let behind_reason : code.1 ≡ print_reason h.reason ++ (print_end h.line_end ++ (print_section h.fields h.last ++ [])) =
    reason.2 ∙ ap₂ (λ (a b : List ℕ). a ++ b) reason.3.0.2 behind_end in
    let behind_code : x.1 ≡ h.digits ++ (print_reason h.reason ++ (print_end h.line_end ++ (print_section h.fields h.last ++ []))) =
    code.2 ∙ ap (λ (t : List ℕ). code.0 ++ t) behind_reason in
    let whole : text ≡ print_version h.minor ++ 32 ∷ (h.digits ++ (print_reason h.reason ++ (print_end h.line_end ++ (print_section h.fields h.last ++ [])))) =
    x.2 ∙ ap₂ (λ (a b : List ℕ). a ++ b) version.2 behind_code ∙ append_assoc (print_version h.minor) (32 ∷ []) _ in
    (h, (record { minor = version.1; digits = code.3.0; reason = reason.3.0.1; fields = section.2 }, whole ∙ sym (print_response-append h [])))

-- and into them
line_into : (text : List ℕ) (h : ResponseHead) → h.blank ≡ [] → ReadsResponse text h [] → HasCut IsVersionThen text
line_into text h none x =
    let section = print_section h.fields h.last in
    let ended = print_end h.line_end ++ section in
    let reason = print_reason h.reason ++ ended in
    let code = h.digits ++ reason in
    let whole : text ≡ print_version h.minor ++ 32 ∷ code =
    x.1 ∙ print_response-append h []
    ∙ ap₂ (λ ends (t : List ℕ). print_blank ends ++ (print_version h.minor ++ 32 ∷ (h.digits ++ (print_reason h.reason ++ (print_end h.line_end ++ t))))) none
    (append-nil section) in (
      print_version h.minor ++ 32 ∷ [],
      code,
      whole ∙ sym (append_assoc (print_version h.minor) (32 ∷ []) code),
      (
        (h.minor, x.0.minor, refl),
        (
          h.digits,
          reason,
          refl,
          (
            x.0.digits,
            (
              print_reason h.reason,
              ended,
              refl,
              (
                (h.reason, x.0.reason, refl),
                (print_end h.line_end, section, refl, ((h.line_end, refl), (h.fields, h.last, x.0.fields, refl))),
              ),
            ),
          ),
        ),
      ),
    )

-- one more empty line in front
blank_more : (end : LineEnd) (h : ResponseHead) → print_response (record h { blank = end ∷ h.blank }) ++ [] ≡ print_end end ++ (print_response h ++ [])
blank_more end h =
    print_response-append (record h { blank = end ∷ h.blank }) [] ∙ append_assoc (print_end end) (print_blank h.blank) _
    ∙ ap (λ (t : List ℕ). print_end end ++ t) (sym (print_response-append h []))

-- from empty lines and what follows them
head_from : (n : ℕ) (text : List ℕ) → Repeats IsEnd (HasCut IsVersionThen) n text → IsHead text
head_from zero text x = line_from text x
head_from (suc n) text (inl x) = line_from text x
head_from (suc n) text (inr x) =
    let end = x.3.0 in
    let others = head_from n x.1 x.3.1 in
    let h : ResponseHead = record others.0 { blank = end.0 ∷ others.0.blank } in
    let valid : IsResponseHead h = record { minor = others.1.0.minor; digits = others.1.0.digits; reason = others.1.0.reason; fields = others.1.0.fields } in
    (h, (valid, x.2 ∙ ap₂ (λ (a b : List ℕ). a ++ b) end.1 others.1.1 ∙ sym (blank_more end.0 others.0)))

-- and into them
head_into : (ends : List LineEnd) (h : ResponseHead) (text : List ℕ) → h.blank ≡ ends → ReadsResponse text h []
    → Repeats IsEnd (HasCut IsVersionThen) (length ends) text
head_into [] h text is x = line_into text h is x
head_into (end ∷ ends) h text is x =
    let inner : ResponseHead = record h { blank = ends } in
    let valid : IsResponseHead inner = record { minor = x.0.minor; digits = x.0.digits; reason = x.0.reason; fields = x.0.fields } in
    let outer : print_response h ++ [] ≡ print_response (record inner { blank = end ∷ ends }) ++ [] =
    ap (λ b. print_response (record h { blank = b }) ++ []) is in
    inr (print_end end, print_response inner ++ [], x.1 ∙ outer ∙ blank_more end inner, ((end, refl), head_into ends inner (print_response inner ++ []) refl (valid, refl)))

-- there are no more empty lines than bytes
blank_size : (ends : List LineEnd) → length ends ≤ length (print_blank ends)
blank_size [] = omega arith
blank_size (crlf ∷ ends) = omega (arith, blank_size ends)
blank_size (lf ∷ ends) = omega (arith, blank_size ends)

-- a text is that of a response head or isn't
pub response_decided : (piece : List ℕ) → Dec ((h : ResponseHead) × ReadsResponse piece h [])
response_decided piece =
    dec_like (head_from (length piece) piece) (λ x. into x.0 x.1) (repeats_decided IsEnd (HasCut IsVersionThen) end_decided line_and_rest_decided (length piece) piece)
  where
    into : (h : ResponseHead) → ReadsResponse piece h [] → Repeats IsEnd (HasCut IsVersionThen) (length piece) piece
    into h x =
        let n = length h.blank in
        let size : n ≤ length piece =
        omega (arith, blank_size h.blank, ap length (x.1 ∙ print_response-append h []), length-append (print_blank h.blank) (print_version h.minor ++ 32 ∷ (h.digits ++ (print_reason h.reason ++ (print_end h.line_end ++ (print_section h.fields h.last ++ [])))))) in
        let all_of : length piece - n + n ≡ length piece = omega arith in
        subst (λ k. Repeats IsEnd (HasCut IsVersionThen) k piece) all_of
        (repeats_up_to IsEnd (HasCut IsVersionThen) n (length piece - n) piece (head_into h.blank h piece refl x))
