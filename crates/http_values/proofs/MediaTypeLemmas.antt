-- Media types: the text of a tree is cut as the tree has it, and what is cut is the text of a tree.
use Rattle.std.proofs.Common.{◌≡◌, ℕ, inl, inr, Bool, true, false, cond, List, [], ◌∷◌, ◌++◌, length, drop, refl, sym, ap, subst, ◌∙◌, arith, take-append-drop, append_assoc, IsTrue}
use Rattle.std.specs.Prelude.{map, flat_map}
use Rattle.std.specs.List.{prefix_len, take_while, list_all, AllByRecursion}
use Rattle.std.proofs.lemmas.Bool.{and_parts}
use Rattle.std.proofs.lemmas.Bool.Decides.{nat_tests}
use Rattle.std.proofs.lemmas.List.{take_at, drop_at}
use Rattle.std.proofs.lemmas.List.Sums.{take_while-cons}
use Rattle.http_header.specs.Token.{is_token_byte}
use Rattle.http_header.proofs.TokenLemmas.{token_byte_range}
use Rattle.http_values.specs.declared.shared.mime.Class.{Class}
use Rattle.http_values.specs.declared.shared.mime.Class.TheVariants.{Token, Blank, Quotable}
use Rattle.http_values.specs.MediaType.{IsToken, is_blank, Spelling, Bare, Quoted, spelling_text, said, IsSpelling, Parameter, parameter_text, parameter_says, IsParameter, MediaType, media_type_text, IsMediaType, IsMimeText, IsSomeMime}
use Rattle.http_values.specs.MediaTypeCuts.{in_class, IsRun, IsTokenCut, IsValueCut, IsParameterCut, AreParameters, IsEssenceCut}
use Rattle.http_values.proofs.MimeLemmas.{essence_unique, cuts_unique}

-- no byte of the class stands at the front
abbrev Stops : Class → List ℕ → Type 0
Stops class rest = prefix_len (in_class class) rest ≡ 0

run_length : (test : ℕ → Bool) (run rest : List ℕ) → IsTrue (list_all test run) → prefix_len test rest ≡ 0
    → prefix_len test (run ++ rest) ≡ length run
run_length test [] rest all stops = stops
run_length test (b ∷ run) rest all stops =
    let both = and_parts (test b) (list_all test run) all in
    let more = run_length test run rest both.1 stops in
    rw (both.0, more) (omega arith)

-- bytes of a class, and then one that isn't of it, are a run
run_of : (class : Class) (run rest : List ℕ) → IsTrue (list_all (in_class class) run) → Stops class rest → IsRun class (run ++ rest) run rest
run_of class run rest all stops =
    let long = sym (run_length (in_class class) run rest all stops) in record {
      run_is = sym (take_at run rest (prefix_len (in_class class) (run ++ rest)) long);
      rest_is = sym (drop_at run rest (prefix_len (in_class class) (run ++ rest)) long);
    }

one_more : (test : ℕ → Bool) (b : ℕ) (front : List ℕ) (x : Bool) → test b ≡ x → IsTrue (list_all test front) → IsTrue (list_all test (cond x (b ∷ front) []))
one_more test b front true e h = rw e h
one_more test b front false e h = refl

front_passes : (test : ℕ → Bool) (text : List ℕ) → IsTrue (list_all test (take_while test text))
front_passes test [] = refl
front_passes test (b ∷ text) =
    let P : List ℕ → Type 0 = λ t. IsTrue (list_all test t) in
    subst P (sym (take_while-cons test b text)) (one_more test b (take_while test text) (test b) refl (front_passes test text))

-- a run is of its class, and what follows it is the rest
run_all : (class : Class) (text run rest : List ℕ) → IsRun class text run rest → IsTrue (list_all (in_class class) run)
run_all class text run rest h =
    let P : List ℕ → Type 0 = λ t. IsTrue (list_all (in_class class) t) in subst P (sym h.run_is) (front_passes (in_class class) text)

run_spelled : (class : Class) (text run rest : List ℕ) → IsRun class text run rest → text ≡ run ++ rest
run_spelled class text run rest h =
    sym (take-append-drop (prefix_len (in_class class) text) text)
    ∙ (ap (λ t. t ++ drop (prefix_len (in_class class) text) text) (sym h.run_is) ∙ ap (λ t. run ++ t) (sym h.rest_is))

-- what ends a token, blanks and what stands between quotes
slash_stops : (rest : List ℕ) → Stops Token (47 ∷ rest)
unfolding is_token_byte
slash_stops rest = refl

equals_stops : (rest : List ℕ) → Stops Token (61 ∷ rest)
unfolding is_token_byte
equals_stops rest = refl

blank_is_no_token : (b : ℕ) → is_blank b ≡ true → is_token_byte b ≡ false
unfolding is_token_byte
blank_is_no_token b h =
    let same : b ≡ 32 = grind (arith, nat_tests) in
    let P : ℕ → Type 0 = λ n. is_token_byte n ≡ false in subst P (sym same) refl

semicolon_stops : (blanks rest : List ℕ) → IsTrue (list_all is_blank blanks) → Stops Token (blanks ++ (59 ∷ rest))
unfolding is_token_byte
semicolon_stops [] rest h = refl
semicolon_stops (b ∷ blanks) rest h =
    let other = blank_is_no_token b (and_parts (is_blank b) (list_all is_blank blanks) h).0 in rw other refl

token_is_no_blank : (b : ℕ) → is_token_byte b ≡ true → is_blank b ≡ false
token_is_no_blank b h = let range = token_byte_range b h in grind (arith, nat_tests)

name_stops : (name rest : List ℕ) → IsToken name → Stops Blank (name ++ rest)
name_stops [] rest h = absurd (omega (arith, h.some))
name_stops (b ∷ name) rest h =
    let other = token_is_no_blank b (and_parts (is_token_byte b) (list_all is_token_byte name) h.chars).0 in rw other refl

-- the text of a tree is cut into its parts
token_of : (token rest : List ℕ) → IsToken token → Stops Token rest → IsTokenCut (token ++ rest) token rest
token_of token rest h stops = record { run = run_of Token token rest h.chars stops; some = h.some }

value_of : (s : Spelling) (rest : List ℕ) → IsSpelling s → Stops Token rest → IsValueCut (spelling_text s ++ rest) (said s) rest
value_of (Bare value) rest h stops = inr (token_of value rest h stops)
value_of (Quoted value) rest h stops =
    let P : List ℕ → Type 0 = λ t. IsRun Quotable t value (34 ∷ rest) in
    inl (record {
      inner = (value ++ 34 ∷ []) ++ rest;
      opens = refl;
      run = subst P (sym (append_assoc value (34 ∷ []) rest)) (run_of Quotable value (34 ∷ rest) h refl);
    })

grouped : (before behind name value rest : List ℕ)
    → (before ++ (59 ∷ (behind ++ (name ++ (61 ∷ value))))) ++ rest ≡ before ++ (59 ∷ (behind ++ (name ++ (61 ∷ (value ++ rest)))))
grouped before behind name value rest = simp append_assoc

parameter_of : (p : Parameter) (rest : List ℕ) → IsParameter p → Stops Token rest → IsParameterCut (parameter_text p ++ rest) p.attribute (said p.value) rest
parameter_of p rest h stops =
    let valued = spelling_text p.value ++ rest in
    let named = p.attribute ++ 61 ∷ valued in
    let behind = p.behind ++ named in
    let P : List ℕ → Type 0 = λ t. IsParameterCut t p.attribute (said p.value) rest in
    let cut : P (p.before ++ 59 ∷ behind) = record {
      blanks = p.before;
      behind = behind;
      more_blanks = p.behind;
      named = named;
      valued = valued;
      before = run_of Blank p.before (59 ∷ behind) h.before refl;
      after = run_of Blank p.behind named h.behind (name_stops p.attribute (61 ∷ valued) h.attribute);
      name_is = token_of p.attribute (61 ∷ valued) h.attribute (equals_stops valued);
      value_is = value_of p.value rest h.value stops;
    } in subst P (sym (grouped p.before p.behind p.attribute (spelling_text p.value) rest)) cut

parameters_stop : (ps : List Parameter) → AllByRecursion IsParameter ps → Stops Token (flat_map parameter_text ps)
parameters_stop [] h = refl
parameters_stop (p ∷ ps) h =
    let P : List ℕ → Type 0 = λ t. Stops Token t in
    subst P (sym (grouped p.before p.behind p.attribute (spelling_text p.value) (flat_map parameter_text ps)))
    (semicolon_stops p.before (p.behind ++ (p.attribute ++ (61 ∷ (spelling_text p.value ++ flat_map parameter_text ps)))) h.0.before)

parameters_of : (ps : List Parameter) → AllByRecursion IsParameter ps → AreParameters (flat_map parameter_text ps) (map parameter_says ps)
parameters_of [] h = refl
parameters_of (p ∷ ps) h =
    (flat_map parameter_text ps, parameter_of p (flat_map parameter_text ps) h.0 (parameters_stop ps h.1), parameters_of ps h.1)

essence_of : (m : MediaType) → IsMediaType m → IsEssenceCut (media_type_text m) m.kind m.subtype (flat_map parameter_text m.parameters)
essence_of m h =
    let rest = flat_map parameter_text m.parameters in record {
      behind = m.subtype ++ rest;
      kind_is = token_of m.kind (47 ∷ (m.subtype ++ rest)) h.kind (slash_stops (m.subtype ++ rest));
      subtype_is = token_of m.subtype rest h.subtype (parameters_stop m.parameters h.parameters);
    }

-- so the text of a media type is cut into what it says
pub cuts_of : (text kind subtype : List ℕ) (params : List (List ℕ × List ℕ)) → IsMimeText text kind subtype params
    → (rest : List ℕ) × IsEssenceCut text kind subtype rest × AreParameters rest params
cuts_of text kind subtype params h =
    let rest = flat_map parameter_text h.tree.parameters in
    let P : List ℕ → Type 0 = λ t. IsEssenceCut t h.tree.kind h.tree.subtype rest in
    let Q : List ℕ → Type 0 = λ t. IsEssenceCut text t h.tree.subtype rest in
    let R : List ℕ → Type 0 = λ t. IsEssenceCut text kind t rest in
    let S : List (List ℕ × List ℕ) → Type 0 = λ ps. AreParameters rest ps in (
      rest,
      subst R h.subtype_is (subst Q h.kind_is (subst P (sym h.spelled) (essence_of h.tree h.well_formed))),
      subst S h.params_are (parameters_of h.tree.parameters h.well_formed.parameters),
    )

-- what is cut is the text of a tree
token_from : (text token rest : List ℕ) → IsTokenCut text token rest → (text ≡ token ++ rest) × IsToken token
token_from text token rest h =
    (run_spelled Token text token rest h.run, record { some = h.some; chars = run_all Token text token rest h.run })

value_from : (text value rest : List ℕ) → IsValueCut text value rest
    → (s : Spelling) × IsSpelling s × (text ≡ spelling_text s ++ rest) × (said s ≡ value)
value_from text value rest (inl h) = (
  Quoted value,
  run_all Quotable h.inner value (34 ∷ rest) h.run,
  h.opens ∙ ap (λ t. 34 ∷ t) (run_spelled Quotable h.inner value (34 ∷ rest) h.run ∙ sym (append_assoc value (34 ∷ []) rest)),
  refl,
)
value_from text value rest (inr h) = let parts = token_from text value rest h in (Bare value, parts.1, parts.0, refl)

joined : (text blanks behind more named name valued spelled rest : List ℕ) → text ≡ blanks ++ (59 ∷ behind) → behind ≡ more ++ named
    → named ≡ name ++ (61 ∷ valued) → valued ≡ spelled ++ rest
    → text ≡ blanks ++ (59 ∷ (more ++ (name ++ (61 ∷ (spelled ++ rest)))))
joined text blanks behind more named name valued spelled rest a b c d = cc (a, b, c, d)

parameter_from : (text name value rest : List ℕ) → IsParameterCut text name value rest
    → (p : Parameter) × IsParameter p × (text ≡ parameter_text p ++ rest) × (parameter_says p ≡ (name, value))
parameter_from text name value rest h =
    let s = value_from h.valued value rest h.value_is in
    let named = token_from h.named name (61 ∷ h.valued) h.name_is in
    let before = run_spelled Blank text h.blanks (59 ∷ h.behind) h.before in
    let after = run_spelled Blank h.behind h.more_blanks h.named h.after in (
      record { before = h.blanks; behind = h.more_blanks; attribute = name; value = s.0 },
      record {
        before = run_all Blank text h.blanks (59 ∷ h.behind) h.before;
        behind = run_all Blank h.behind h.more_blanks h.named h.after;
        attribute = named.1;
        value = s.1;
      },
      joined text h.blanks h.behind h.more_blanks h.named name h.valued (spelling_text s.0) rest before after named.0 s.2
          ∙ sym (grouped h.blanks h.more_blanks name (spelling_text s.0) rest),
      ap (λ v. (name, v)) s.3,
    )

parameters_from : (text : List ℕ) (params : List (List ℕ × List ℕ)) → AreParameters text params
    → (ps : List Parameter) × AllByRecursion IsParameter ps × (text ≡ flat_map parameter_text ps) × (map parameter_says ps ≡ params)
parameters_from text [] h = ([], tt, h, refl)
parameters_from text (q ∷ params) h =
    let first = parameter_from text q.0 q.1 h.0 h.1 in
    let more = parameters_from h.0 params h.2 in (
      first.0 ∷ more.0,
      (first.1, more.1),
      first.2 ∙ ap (λ t. parameter_text first.0 ++ t) more.2,
      ap (λ x. x ∷ map parameter_says more.0) first.3 ∙ ap (λ xs. q ∷ xs) more.3,
    )

pub mime_of : (text kind subtype rest : List ℕ) (params : List (List ℕ × List ℕ)) → IsEssenceCut text kind subtype rest → AreParameters rest params
    → IsMimeText text kind subtype params
mime_of text kind subtype rest params essence h =
    let first = token_from text kind (47 ∷ essence.behind) essence.kind_is in
    let second = token_from essence.behind subtype rest essence.subtype_is in
    let ps = parameters_from rest params h in record {
      tree = record { kind = kind; subtype = subtype; parameters = ps.0 };
      well_formed = record { kind = first.1; subtype = second.1; parameters = ps.1 };
      spelled = first.0 ∙ ap (λ t. kind ++ (47 ∷ t)) (second.0 ∙ ap (λ t. subtype ++ t) ps.2);
      kind_is = refl;
      subtype_is = refl;
      params_are = ps.3;
    }

-- a text is that of one media type
pub mime_unique : (text kind subtype kind' subtype' : List ℕ) (ps qs : List (List ℕ × List ℕ)) → IsMimeText text kind subtype ps
    → IsMimeText text kind' subtype' qs → (kind ≡ kind') × (subtype ≡ subtype') × (ps ≡ qs)
mime_unique text kind subtype kind' subtype' ps qs h k =
    let a = cuts_of text kind subtype ps h in
    let b = cuts_of text kind' subtype' qs k in
    cuts_unique text kind subtype a.0 kind' subtype' b.0 ps qs a.1 a.2 b.1 b.2

-- a text that isn't cut, or whose rest is that of no parameters, is that of none
pub uncut_is_none : (text : List ℕ) → ((kind subtype rest : List ℕ) → ¬ (IsEssenceCut text kind subtype rest)) → IsSomeMime text → ⊥
uncut_is_none text none h = let cuts = cuts_of text h.0 h.1 h.2 h.3 in none h.0 h.1 cuts.0 cuts.1

pub no_parameters_is_none : (text kind subtype rest : List ℕ) → IsEssenceCut text kind subtype rest
    → ((params : List (List ℕ × List ℕ)) × AreParameters rest params → ⊥) → IsSomeMime text → ⊥
no_parameters_is_none text kind subtype rest cut none h =
    let cuts = cuts_of text h.0 h.1 h.2 h.3 in
    let same = essence_unique text h.0 h.1 cuts.0 kind subtype rest cuts.1 cut in
    let P : List ℕ → Type 0 = λ t. AreParameters t h.2 in none (h.2, subst P same.2 cuts.2)

-- a text that is cut and whose rest is that of parameters is that of a media type
pub some_mime : (text bytes kind subtype rest : List ℕ) → bytes ≡ text → IsEssenceCut bytes kind subtype rest
    → (params : List (List ℕ × List ℕ)) × AreParameters rest params → IsSomeMime text
some_mime text bytes kind subtype rest same cut (params, h) =
    let P : List ℕ → Type 0 = λ t. IsEssenceCut t kind subtype rest in
    (kind, subtype, params, mime_of text kind subtype rest params (subst P same cut) h)

-- of copies of its parts
pub kept_mime : (text bytes kind subtype rest kind' subtype' : List ℕ) (params : List (List ℕ × List ℕ)) → bytes ≡ text
    → IsEssenceCut bytes kind subtype rest → AreParameters rest params → kind' ≡ kind → subtype' ≡ subtype → IsMimeText text kind' subtype' params
kept_mime text bytes kind subtype rest kind' subtype' params same cut h k s =
    let P : List ℕ → Type 0 = λ t. IsEssenceCut t kind subtype rest in
    let Q : List ℕ → Type 0 = λ t. IsMimeText text t subtype params in
    let R : List ℕ → Type 0 = λ t. IsMimeText text kind' t params in
    subst R (sym s) (subst Q (sym k) (mime_of text kind subtype rest params (subst P same cut) h))
