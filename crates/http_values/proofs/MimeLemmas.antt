-- Media types: each cut of a text is the only one of its kind.
use Rattle.std.proofs.lemmas.List.Sums.{prefix_len_passes}
use Rattle.std.proofs.lemmas.List.{get_or_past}
use Rattle.std.proofs.lemmas.Bool.{cases_lt}
use Rattle.std.proofs.lemmas.List.Folds.{length-prefix_len}
use Rattle.std.proofs.lemmas.Bool.Decides.{nat_tests}
use Rattle.std.proofs.lemmas.Str.{IsUtf8-from_ascii}
use Rattle.std.specs.Str.{IsAscii, IsUtf8}
use Rattle.http_header.proofs.TokenLemmas.{token_byte_range}
use Rattle.std.specs.Prelude.{◌==◌, string_bytes}
use Rattle.http_values.specs.declared.shared.mime.Parameter.{Parameter}
use Rattle.std.proofs.Common.{append_assoc, get_or-take, ◌≡◌, ℕ, ◌<◌, ◌≤◌, inl, inr, List, [], ◌∷◌, ◌++◌, length, take, drop, refl, sym, ap, subst, ◌∙◌, arith, true, false, get_or, length-drop}
use Rattle.std.specs.List.{prefix_len}
use Rattle.http_header.specs.Token.{is_token_byte}
use Rattle.http_values.specs.declared.shared.mime.Class.{Class}
use Rattle.http_values.specs.declared.shared.mime.Class.TheVariants.{Token, Blank, Quotable}
use Rattle.http_values.specs.MediaTypeCuts.{in_class, IsRun, IsTokenCut, IsQuotedCut, IsValueCut, IsParameterCut, AreParameters, IsEssenceCut}
use Rattle.http_values.specs.Mime.{pair_of, pairs_of}

-- a text has one run of a class
pub run_unique : (class : Class) (text a b c d : List ℕ) → IsRun class text a b → IsRun class text c d → (a ≡ c) × (b ≡ d)
run_unique class text a b c d h k = (h.run_is ∙ sym k.run_is, h.rest_is ∙ sym k.rest_is)

-- a token is read in one way
pub token_unique : (text a b c d : List ℕ) → IsTokenCut text a b → IsTokenCut text c d → (a ≡ c) × (b ≡ d)
token_unique text a b c d h k = run_unique Token text a b c d h.run k.run

-- a byte in front of two lists that are one
pub behind_unique : (x : ℕ) (a b : List ℕ) → x ∷ a ≡ x ∷ b → a ≡ b
behind_unique x a b h = cc (h)

-- a quote begins no token
pub quote_is_no_token : (inner token rest : List ℕ) → IsTokenCut (34 ∷ inner) token rest → ⊥
unfolding is_token_byte
quote_is_no_token inner token rest h =
    let e : token ≡ [] = h.run.run_is in
    let zero : length token ≡ 0 = ap (λ (t : List ℕ). length t) e in omega (arith, zero, h.some)

-- a value is read in one way
pub quoted_unique : (text a b c d : List ℕ) → IsQuotedCut text a b → IsQuotedCut text c d → (a ≡ c) × (b ≡ d)
quoted_unique text a b c d h k =
    let inner = behind_unique 34 h.inner k.inner (sym h.opens ∙ k.opens) in
    let P : List ℕ → Type 0 = λ t. IsRun Quotable t a (34 ∷ b) in
    let one = run_unique Quotable k.inner a (34 ∷ b) c (34 ∷ d) (subst P inner h.run) k.run in (one.0, behind_unique 34 b d one.1)

pub value_unique : (text a b c d : List ℕ) → IsValueCut text a b → IsValueCut text c d → (a ≡ c) × (b ≡ d)
value_unique text a b c d (inl h) (inl k) = quoted_unique text a b c d h k
value_unique text a b c d (inl h) (inr k) = let P : List ℕ → Type 0 = λ t. IsTokenCut t c d in absurd (quote_is_no_token h.inner c d (subst P h.opens k))
value_unique text a b c d (inr h) (inl k) = let P : List ℕ → Type 0 = λ t. IsTokenCut t a b in absurd (quote_is_no_token k.inner a b (subst P k.opens h))
value_unique text a b c d (inr h) (inr k) = token_unique text a b c d h k

-- a parameter's name, and what follows its `=`, are read in one way
pub named_unique : (text n v r n' v' r' : List ℕ) (h : IsParameterCut text n v r) (k : IsParameterCut text n' v' r') → (n ≡ n') × (h.valued ≡ k.valued)
named_unique text n v r n' v' r' h k =
    let behind = behind_unique 59 h.behind k.behind (run_unique Blank text h.blanks (59 ∷ h.behind) k.blanks (59 ∷ k.behind) h.before k.before).1 in
    let P : List ℕ → Type 0 = λ t. IsRun Blank t h.more_blanks h.named in
    let named = (run_unique Blank k.behind h.more_blanks h.named k.more_blanks k.named (subst P behind h.after) k.after).1 in
    let Q : List ℕ → Type 0 = λ t. IsTokenCut t n (61 ∷ h.valued) in
    let name = token_unique k.named n (61 ∷ h.valued) n' (61 ∷ k.valued) (subst Q named h.name_is) k.name_is in
    (name.0, behind_unique 61 h.valued k.valued name.1)

-- a parameter is read in one way
pub parameter_unique : (text n v r n' v' r' : List ℕ) → IsParameterCut text n v r → IsParameterCut text n' v' r' → (n ≡ n') × (v ≡ v') × (r ≡ r')
parameter_unique text n v r n' v' r' h k =
    let one = named_unique text n v r n' v' r' h k in
    let P : List ℕ → Type 0 = λ t. IsValueCut t v r in
    let two = value_unique k.valued v r v' r' (subst P one.1 h.value_is) k.value_is in (one.0, two.0, two.1)

-- type and subtype are read in one way
pub essence_unique : (text a b r c d s : List ℕ) → IsEssenceCut text a b r → IsEssenceCut text c d s → (a ≡ c) × (b ≡ d) × (r ≡ s)
essence_unique text a b r c d s h k =
    let one = token_unique text a (47 ∷ h.behind) c (47 ∷ k.behind) h.kind_is k.kind_is in
    let P : List ℕ → Type 0 = λ t. IsTokenCut t b r in
    let two = token_unique k.behind b r d s (subst P (behind_unique 47 h.behind k.behind one.1) h.subtype_is) k.subtype_is in (one.0, two.0, two.1)

-- what follows a run is no longer than the text
pub run_short : (class : Class) (text run rest : List ℕ) → IsRun class text run rest → length rest ≤ length text
run_short class text run rest h =
    let e : length rest ≡ length (drop (prefix_len (in_class class) text) text) = ap (λ (t : List ℕ). length t) h.rest_is in
    omega (arith, e, length-drop (prefix_len (in_class class) text) text)

pub value_short : (text value rest : List ℕ) → IsValueCut text value rest → length rest ≤ length text
value_short text value rest (inl h) =
    let e : length text ≡ length (34 ∷ h.inner) = ap (λ (t : List ℕ). length t) h.opens in omega (arith, e, run_short Quotable h.inner value (34 ∷ rest) h.run)
value_short text value rest (inr h) = run_short Token text value rest h.run

-- a parameter has bytes, so less is left behind it
pub parameter_short : (text name value rest : List ℕ) → IsParameterCut text name value rest → length rest < length text
parameter_short text name value rest h =
    let a = run_short Blank text h.blanks (59 ∷ h.behind) h.before in
    let b = run_short Blank h.behind h.more_blanks h.named h.after in
    let c = run_short Token h.named name (61 ∷ h.valued) h.name_is.run in
    let d = value_short h.valued value rest h.value_is in omega (arith, a, b, c, d)

-- parameters are read in one way
pub parameters_unique : (text : List ℕ) (ps qs : List (List ℕ × List ℕ)) → AreParameters text ps → AreParameters text qs → ps ≡ qs
parameters_unique text [] [] h k = refl
parameters_unique text [] (q ∷ qs) h k =
    let short = parameter_short text q.0 q.1 k.0 k.1 in let e : length text ≡ 0 = ap (λ (t : List ℕ). length t) h in absurd (omega (arith, short, e))
parameters_unique text (p ∷ ps) [] h k =
    let short = parameter_short text p.0 p.1 h.0 h.1 in let e : length text ≡ 0 = ap (λ (t : List ℕ). length t) k in absurd (omega (arith, short, e))
parameters_unique text (p ∷ ps) (q ∷ qs) h k =
    let one = parameter_unique text p.0 p.1 h.0 q.0 q.1 k.0 h.1 k.1 in
    let P : List ℕ → Type 0 = λ t. AreParameters t ps in
    let more = parameters_unique k.0 ps qs (subst P one.2 h.2) k.2 in
    let first : p ≡ q = ap (λ x. (x, p.1)) one.0 ∙ ap (λ y. (q.0, y)) one.1 in ap (λ x. x ∷ ps) first ∙ ap (λ xs. q ∷ xs) more

-- what is left behind the first parameter is parameters where the text is
pub parameters_behind : (text n v r : List ℕ) (qs : List (List ℕ × List ℕ)) → IsParameterCut text n v r → AreParameters text qs
    → (ps : List (List ℕ × List ℕ)) × AreParameters r ps
parameters_behind text n v r [] cut h =
    let short = parameter_short text n v r cut in let e : length text ≡ 0 = ap (λ (t : List ℕ). length t) h in absurd (omega (arith, short, e))
parameters_behind text n v r (q ∷ qs) cut h =
    let one = parameter_unique text q.0 q.1 h.0 n v r h.1 cut in
    let P : List ℕ → Type 0 = λ t. AreParameters t qs in (qs, subst P one.2 h.2)

-- one parameter more behind those that were read
pub parameters_more : (text rest n v r : List ℕ) (ps : List (List ℕ × List ℕ)) → IsParameterCut rest n v r
    → ((qs : List (List ℕ × List ℕ)) → AreParameters rest qs → AreParameters text (ps ++ qs))
    → (qs : List (List ℕ × List ℕ)) → AreParameters r qs → AreParameters text ((ps ++ (n, v) ∷ []) ++ qs)
parameters_more text rest n v r ps cut all qs h =
    let P : List (List ℕ × List ℕ) → Type 0 = λ xs. AreParameters text xs in
    subst P (sym (append_assoc ps ((n, v) ∷ []) qs)) (all ((n, v) ∷ qs) (r, cut, h))

-- a class has ASCII bytes alone
class_ascii : (class : Class) (b : ℕ) → in_class class b ≡ true → b < 128
class_ascii Token b h = let range = token_byte_range b h in omega (arith, range.1)
class_ascii Blank b h = grind (arith, nat_tests)
class_ascii Quotable b h = grind (arith, nat_tests)

run_front_ascii : (class : Class) (text : List ℕ) → IsAscii (take (prefix_len (in_class class) text) text)
run_front_ascii class text i = elim (cases_lt i (prefix_len (in_class class) text)) [
  | inl short ↦
      let same : get_or (take (prefix_len (in_class class) text) text) i 0 ≡ get_or text i 0 = get_or-take (prefix_len (in_class class) text) text i 0 short in
      let low = class_ascii class (get_or text i 0) (prefix_len_passes (in_class class) text i 0 short) in omega (arith, same, low)
  | inr past ↦
      let none = get_or_past (take (prefix_len (in_class class) text) text) i 0 (omega (arith, length-prefix_len (in_class class) text, past)) in omega (arith, none)
]

-- a run is ASCII, and so are the name and the value of a parameter
pub run_ascii : (class : Class) (text run rest : List ℕ) → IsRun class text run rest → IsAscii run
run_ascii class text run rest h = let P : List ℕ → Type 0 = λ t. IsAscii t in subst P (sym h.run_is) (run_front_ascii class text)

pub value_ascii : (text value rest : List ℕ) → IsValueCut text value rest → IsAscii value
value_ascii text value rest (inl h) = run_ascii Quotable h.inner value (34 ∷ rest) h.run
value_ascii text value rest (inr h) = run_ascii Token text value rest h.run

-- an ASCII text is UTF-8
pub not_ascii : (text : List ℕ) → IsAscii text → ¬ (IsUtf8 text) → ⊥
not_ascii text ascii none = none (IsUtf8-from_ascii text ascii)

-- a text that begins with neither a quote nor a token is that of no value
pub no_value : (text : List ℕ) → ((inner : List ℕ) → ¬ (text ≡ 34 ∷ inner)) → ((token rest : List ℕ) → ¬ (IsTokenCut text token rest))
    → (value rest : List ℕ) → IsValueCut text value rest → ⊥
no_value text unquoted none value rest (inl h) = unquoted h.inner h.opens
no_value text unquoted none value rest (inr h) = none value rest h

-- nor is one whose quote isn't closed
pub no_quoted : (text inner run behind : List ℕ) → text ≡ 34 ∷ inner → IsRun Quotable inner run behind → ((rest : List ℕ) → ¬ (behind ≡ 34 ∷ rest))
    → (value rest : List ℕ) → IsValueCut text value rest → ⊥
no_quoted text inner run behind opens is unclosed value rest (inl h) =
    let same = behind_unique 34 h.inner inner (sym h.opens ∙ opens) in
    let P : List ℕ → Type 0 = λ t. IsRun Quotable t value (34 ∷ rest) in
    let one = run_unique Quotable inner run behind value (34 ∷ rest) is (subst P same h.run) in unclosed rest one.1
no_quoted text inner run behind opens is unclosed value rest (inr h) =
    let P : List ℕ → Type 0 = λ t. IsTokenCut t value rest in quote_is_no_token inner value rest (subst P opens h)

-- what a parameter has from its name on, by the cuts before it
pub named_is : (text b r behind m named n v rest : List ℕ) → IsRun Blank text b r → r ≡ 59 ∷ behind → IsRun Blank behind m named
    → (h : IsParameterCut text n v rest) → h.named ≡ named
named_is text b r behind m named n v rest before semicolon after h =
    let one = run_unique Blank text h.blanks (59 ∷ h.behind) b r h.before before in
    let same = behind_unique 59 h.behind behind (one.1 ∙ semicolon) in
    let P : List ℕ → Type 0 = λ t. IsRun Blank t h.more_blanks h.named in (run_unique Blank behind h.more_blanks h.named m named (subst P same h.after) after).1

-- text that isn't empty, and doesn't begin with a parameter, is not that of parameters
pub no_parameter : (text : List ℕ) → false ≡ (length text == 0) → ((n v r : List ℕ) → ¬ (IsParameterCut text n v r))
    → (ps : List (List ℕ × List ℕ)) × AreParameters text ps → ⊥
no_parameter text some none ([], h) = let e : length text ≡ 0 = ap (λ (t : List ℕ). length t) h in absurd (grind (arith, nat_tests))
no_parameter text some none (p ∷ ps, h) = none p.0 p.1 h.0 h.1

-- an empty text is that of none
pub empty_is : (text : List ℕ) → true ≡ (length text == 0) → text ≡ []
empty_is [] h = refl
empty_is (x ∷ text) h = absurd (grind (arith, nat_tests))

pairs_behind : (p : Parameter) (n v : List ℕ) → string_bytes p.name ≡ n → string_bytes p.value ≡ v → (ps : List Parameter)
    → pairs_of (ps ++ p ∷ []) ≡ pairs_of ps ++ (n, v) ∷ []
pairs_behind p n v name value [] =
    let last : pair_of p ≡ (n, v) = ap (λ x. (x, string_bytes p.value)) name ∙ ap (λ y. (n, y)) value in ap (λ x. x ∷ []) last
pairs_behind p n v name value (q ∷ ps) = ap (λ xs. pair_of q ∷ xs) (pairs_behind p n v name value ps)

-- what is kept of one parameter more
pub pairs_pushed : (p : Parameter) (was now : List Parameter) (n v : List ℕ) → now ≡ was ++ p ∷ [] → string_bytes p.name ≡ n → string_bytes p.value ≡ v
    → pairs_of now ≡ pairs_of was ++ (n, v) ∷ []
pairs_pushed p was now n v is name value = ap (λ ps. pairs_of ps) is ∙ pairs_behind p n v name value was

-- a text that is cut in two ways is cut in one
pub cuts_unique : (text kind subtype rest kind' subtype' rest' : List ℕ) (ps qs : List (List ℕ × List ℕ))
    → IsEssenceCut text kind subtype rest → AreParameters rest ps → IsEssenceCut text kind' subtype' rest' → AreParameters rest' qs
    → (kind ≡ kind') × (subtype ≡ subtype') × (ps ≡ qs)
cuts_unique text kind subtype rest kind' subtype' rest' ps qs a h b k =
    let one = essence_unique text kind subtype rest kind' subtype' rest' a b in
    let P : List ℕ → Type 0 = λ t. AreParameters t ps in (one.0, one.1, parameters_unique rest' ps qs (subst P one.2 h) k)
