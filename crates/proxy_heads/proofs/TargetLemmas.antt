-- What the parts of a target are, and what a server gets for it.
use Rattle.std.proofs.Common.{◌≡◌, ℕ, ◌+◌, ◌≤◌, Bool, true, false, not, ◌&&◌, ◌||◌, cond, List, [], ◌∷◌, ◌++◌, length, take, drop, codes, refl, sym, ap, ◌∙◌, subst, inl, inr, arith, ltb-false, length-append, Option, Some, None, is_some, unwrap_or}
use Rattle.std.specs.Prelude.{bytes_eq, nat_eq, nat_lt, option_map, slice_get, ◌==◌, if◌then◌else◌}
use Rattle.std.specs.List.{prefix_len, position, position_or_len, starts_with}
use Rattle.std.proofs.Math.Dec.{eqb-suc-zero}
use Rattle.std.proofs.lemmas.Bool.{false≢true}
use Rattle.std.proofs.lemmas.List.{drop-drop}
use Rattle.std.proofs.lemmas.Slice.Eq.{bytes_eq-Decides}
use Rattle.http_uri.specs.declared.uri.Uri.{Uri}
use Rattle.http_uri.specs.Uri.{Spells, uri_scheme, uri_authority, uri_data}
use Rattle.http_uri.specs.ByteClasses.{lowercase, is_scheme_byte, is_delimiter}
use Rattle.http_uri.specs.Grammar.{IsUriText, IsAbsoluteForm, IsTail, scheme_len, authority_len, without_fragment, path_and_query_text}
use Rattle.h1_encoder.specs.RequestMeaning.{target_of}
use Rattle.model_proxy.specs.Targets.{behind_http, authority_in, is_asterisk, is_at_host, is_servable, origin_of, asks_for_all, target_sent}
use Rattle.model_proxy.proofs.Paths.{slashed, no_parts, cut_cons, cut_hash}
use Rattle.model_proxy.proofs.Targets.{IsHttp, http_of, absolute_of, tail_is}
use Rattle.proxy_heads.specs.Edges.{is_no_scheme_byte}

-- ---- where scans stop

not_not : (t : Bool) → not (not t) ≡ t
not_not true = refl
not_not false = refl

-- the first byte that is none of a scheme
scheme_place : (text : List ℕ) → position_or_len is_no_scheme_byte text ≡ scheme_len text
scheme_place [] = refl
scheme_place (b ∷ bytes) = λ i. cond (not_not (is_scheme_byte b) i) (1 + scheme_place bytes i) 0

prefix_short : (test : ℕ → Bool) (text : List ℕ) → prefix_len test text ≤ length text
prefix_short test [] = omega arith
prefix_short test (b ∷ bytes) = by_test (test b) (prefix_short test bytes)
  where
    by_test : (t : Bool) → prefix_len test bytes ≤ length bytes → cond t (1 + prefix_len test bytes) 0 ≤ length (b ∷ bytes)
    by_test true short = omega (arith, short)
    by_test false short = omega arith

-- the place of a byte, or the end where there is none
abbrev IsPlace : (ℕ → Bool) → List ℕ → Option ℕ → Type 0
IsPlace test text None = length text ≡ position_or_len test text
IsPlace test text (Some at) = at ≡ position_or_len test text

place_of : (test : ℕ → Bool) (text : List ℕ) (o : Option ℕ) → o ≡ position test text → IsPlace test text o
place_of test text o is = subst (IsPlace test text) (sym is) (by_test (nat_lt (position_or_len test text) (length text)) refl)
  where
    by_test : (t : Bool) → nat_lt (position_or_len test text) (length text) ≡ t → IsPlace test text (cond t (Some (position_or_len test text)) None)
    by_test true e = refl
    by_test false e = omega (arith, ltb-false (position_or_len test text) (length text) e, prefix_short (λ (b : ℕ). not (test b)) text)

pub scheme_at : (text : List ℕ) (at : ℕ) → Some at ≡ position is_no_scheme_byte text → (at ≡ scheme_len text)
scheme_at text at is = place_of is_no_scheme_byte text (Some at) is ∙ scheme_place text

pub scheme_all : (text : List ℕ) → None ≡ position is_no_scheme_byte text → length text ≡ scheme_len text
scheme_all text is = place_of is_no_scheme_byte text None is ∙ scheme_place text

pub scheme_within : (text : List ℕ) → scheme_len text ≤ length text
scheme_within text = prefix_short is_scheme_byte text

pub authority_at : (text : List ℕ) (at : ℕ) → Some at ≡ position is_delimiter text → at ≡ authority_len text
authority_at text at is = place_of is_delimiter text (Some at) is

pub authority_all : (text : List ℕ) → None ≡ position is_delimiter text → length text ≡ authority_len text
authority_all text is = place_of is_delimiter text None is

pub authority_within : (text : List ℕ) → authority_len text ≤ length text
authority_within text = prefix_short (λ (b : ℕ). not (is_delimiter b)) text

-- ---- what stands behind `http://`

abbrev behind_by : List ℕ → Bool → Bool → Option (List ℕ)
behind_by target name marks = if name && marks then Some (drop (scheme_len target + 3) target) else None

pub no_http : (target : List ℕ) (name : Bool) → bytes_eq (lowercase (take (scheme_len target) target)) (codes "http") ≡ name → name ≡ false → behind_http target ≡ None
no_http target name is none = ap (λ (n : Bool). behind_by target n (bytes_eq (take 3 (drop (scheme_len target) target)) (codes "://"))) (is ∙ none)

pub no_marks : (target : List ℕ) → bytes_eq (lowercase (take (scheme_len target) target)) (codes "http") ≡ true
    → bytes_eq (take 3 (drop (scheme_len target) target)) (codes "://") ≡ false → behind_http target ≡ None
no_marks target name none = λ i. behind_by target (name i) (none i)

pub is_behind : (target rest : List ℕ) → bytes_eq (lowercase (take (scheme_len target) target)) (codes "http") ≡ true
    → bytes_eq (take 3 (drop (scheme_len target) target)) (codes "://") ≡ true → rest ≡ drop 3 (drop (scheme_len target) target)
    → behind_http target ≡ Some rest
is_behind target rest name marks e =
    (λ i. behind_by target (name i) (marks i)) ∙ ap Some (sym (e ∙ drop-drop 3 (scheme_len target) target))

-- ---- what is left without a fragment

-- nothing, where that comes first
pub first_kept : (tail : List ℕ) (b : ℕ) → Some b ≡ slice_get tail 0 → (b == 35) ≡ (length (without_fragment tail) == 0)
first_kept [] b e = absurd (cc e)
first_kept (x ∷ bytes) b e =
    let same : b ≡ x = cc e in
    ap (λ (k : ℕ). k == 35) same ∙ by_test (x == 35) refl
  where
    by_test : (t : Bool) → (x == 35) ≡ t → (x == 35) ≡ (length (without_fragment (x ∷ bytes)) == 0)
    by_test true is = is ∙ sym (ap (λ (l : List ℕ). length l == 0) (cut_hash x bytes is))
    by_test false other =
        other ∙ sym (ap (λ (l : List ℕ). length l == 0) (cut_cons x bytes other) ∙ eqb-suc-zero (length (without_fragment bytes)))

-- and of nothing
pub none_kept : (tail : List ℕ) → None ≡ slice_get tail 0 → true ≡ (length (without_fragment tail) == 0)
none_kept [] e = refl
none_kept (x ∷ bytes) e = absurd (cc e)

-- ---- what a server gets

-- a path begins with a slash, so that none is put before it
stays : (text : List ℕ) → starts_with nat_eq text (codes "/") ≡ true → path_and_query_text (without_fragment text) ≡ without_fragment text
stays text begins =
    let s = slashed text begins in
    let same : without_fragment text ≡ 47 ∷ without_fragment s.rest = ap without_fragment s.is ∙ cut_cons 47 s.rest refl in
    ap path_and_query_text same ∙ sym same

-- where a target has no scheme and no authority, or both
abbrev text_by : Option (List ℕ) → Option (List ℕ) → List ℕ → List ℕ
text_by scheme authority kept = path_and_query_text (unwrap_or (if is_some scheme || not (is_some authority) then Some kept else None) [])

path_sent : (text : List ℕ) (u : Uri) → starts_with nat_eq text (codes "/") ≡ true → Spells text u → target_of u ≡ without_fragment text
path_sent text u begins spells =
    let s = slashed text begins in
    let form : IsUriText (47 ∷ s.rest) (uri_scheme u) (uri_authority u) (uri_data u) =
    subst (λ (t : List ℕ). IsUriText t (uri_scheme u) (uri_authority u) (uri_data u)) s.is spells in
    let parts = no_parts (uri_scheme u) (uri_authority u) (uri_data u) s.rest form in
    (λ i. text_by (parts.0 i) (parts.1 i) ((parts.2 ∙ ap without_fragment (sym s.is)) i)) ∙ stays text begins

-- `*` is no whole URI: that has more than a byte
star_short : (scheme authority kept : List ℕ) → IsAbsoluteForm (codes "*") scheme authority kept → ⊥
star_short scheme authority kept form =
    omega (
      arith,
      ap length form.spelled,
      length-append ((form.name ++ codes "://") ++ authority) form.tail,
      length-append (form.name ++ codes "://") authority,
      length-append form.name (codes "://"),
      form.is_authority.nonempty,
    )

star_by : (scheme authority : Option (List ℕ)) (kept : List ℕ) → IsUriText (codes "*") scheme authority kept → text_by scheme authority kept ≡ codes "*"
star_by None None kept x = ap path_and_query_text x.1.1
star_by None (Some a) kept x = absurd (x.1.1 refl)
star_by (Some s) None kept x = absurd x.1
star_by (Some s) (Some a) kept x = absurd (star_short s a kept x.1)

pub star_sent : (text : List ℕ) (u : Uri) → text ≡ codes "*" → Spells text u → target_of u ≡ without_fragment text
star_sent text u is spells =
    star_by (uri_scheme u) (uri_authority u) (uri_data u) (subst (λ (t : List ℕ). IsUriText t (uri_scheme u) (uri_authority u) (uri_data u)) is spells)
    ∙ ap without_fragment (sym is)

-- what is kept of a tail is what stands there, with a slash where that is no path
tail_kept : (tail kept : List ℕ) → IsTail tail kept → path_and_query_text kept ≡ path_and_query_text (without_fragment tail)
tail_kept tail kept (inl x) = ap path_and_query_text x.1 ∙ ap (λ (t : List ℕ). path_and_query_text (without_fragment t)) (sym x.0)
tail_kept tail kept (inr x) = ap path_and_query_text x.2

whole_sent : (text rest : List ℕ) (u : Uri) → IsHttp text rest → Spells text u
    → target_of u ≡ path_and_query_text (without_fragment (drop (authority_len rest) rest))
whole_sent text rest u http spells =
    let parts = absolute_of text rest (uri_scheme u) (uri_authority u) (uri_data u) http spells in
    (λ i. text_by (parts.scheme_is i) (parts.authority_is i) (uri_data u))
    ∙ tail_kept parts.form.tail (uri_data u) parts.form.is_tail
    ∙ ap (λ (t : List ℕ). path_and_query_text (without_fragment t)) (sym (tail_is text rest parts.name parts.host (uri_data u) http parts.form))

-- of all that a server can be asked for, as an origin is
origin_is : (method text : List ℕ) (u : Uri) → is_servable method text ≡ true → Spells text u → target_of u ≡ origin_of (behind_http text) text
origin_is method text u may spells = by_http (behind_http text) refl may
  where
    by_star : (star : Bool) → is_asterisk text ≡ star → (star && bytes_eq method (codes "OPTIONS")) ≡ true → target_of u ≡ without_fragment text
    by_star true is e = star_sent text u ((bytes_eq-Decides text (codes "*")).0 is) spells
    by_star false is e = absurd (false≢true e)

    by_slash : (slash : Bool) → starts_with nat_eq text (codes "/") ≡ slash → (slash || (false || (is_asterisk text && bytes_eq method (codes "OPTIONS")))) ≡ true
        → target_of u ≡ without_fragment text
    by_slash true is e = path_sent text u is spells
    by_slash false is e = by_star (is_asterisk text) refl e

    by_http : (o : Option (List ℕ)) → behind_http text ≡ o
        → (starts_with nat_eq text (codes "/") || (is_at_host (option_map authority_in o) || (is_asterisk text && bytes_eq method (codes "OPTIONS")))) ≡ true
        → target_of u ≡ origin_of (behind_http text) text
    by_http None is may =
        by_slash (starts_with nat_eq text (codes "/")) refl may ∙ ap (λ (o : Option (List ℕ)). origin_of o text) (sym is)
    by_http (Some rest) is may =
        whole_sent text rest u (http_of text rest is) spells ∙ ap (λ (o : Option (List ℕ)). origin_of o text) (sym is)

-- and as a whole server
pub target_is : (method text : List ℕ) (u : Uri) → is_servable method text ≡ true → Spells text u
    → (if asks_for_all method text then codes "*" else target_of u) ≡ target_sent method text
target_is method text u may spells = by_all (asks_for_all method text)
  where
    by_all : (t : Bool) → (if t then codes "*" else target_of u) ≡ (if t then codes "*" else origin_of (behind_http text) text)
    by_all true = refl
    by_all false = origin_is method text u may spells
