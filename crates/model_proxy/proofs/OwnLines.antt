-- The lines that a forwarder adds to a request are clean.
use Rattle.std.proofs.Common.{◌≡◌, ℕ, ◌+◌, Bool, true, false, cond, List, [], ◌∷◌, reverse, map, filter, codes, refl, sym, ap, ◌∙◌, subst, arith, Option, Some, None, IsTrue}
use Rattle.std.specs.Prelude.{bytes_eq, unwrap_or, slice_get, option_map, ◌==◌}
use Rattle.std.specs.Option.{option_or}
use Rattle.std.specs.List.{AllByRecursion, list_all}
use Rattle.std.proofs.lemmas.Bool.{cond-false}
use Rattle.std.proofs.lemmas.Bool.Decides.{nat_tests}
use Rattle.std.proofs.lemmas.List.{reverse-reverse}
use Rattle.std.proofs.lemmas.List.Elements.{All-head, All-take, All-drop, All-weaker}
use Rattle.std.proofs.lemmas.List.Sums.{AllPass-from_list_all}
use Rattle.http_header.specs.Token.{lowercase}
use Rattle.http_header.specs.FieldName.{is_field_name}
use Rattle.http_header.proofs.TokenLemmas.{IsFieldName-from_test}
use Rattle.http_uri.specs.Grammar.{authority_len, scheme_len}
use Rattle.httparse.specs.Grammar.{AllPass, is_ows, skip_ows, is_uri_byte, is_value_byte, trim_ows}
use Rattle.httparse.proofs.TrimLemmas.{AllPass-reverse}
use Rattle.model_h1.specs.Request.{Header, Head}
use Rattle.model_h1.specs.LengthTable.{values_of}
use Rattle.model_h1.specs.Answer.{has_header}
use Rattle.model_client.specs.WrittenHead.{line_of, IsCleanHeader}
use Rattle.model_ends.proofs.NameGroups.{all_both}
use Rattle.model_proxy.specs.Edge.{Edge, via, IsCleanValue, IsCleanEdge}
use Rattle.model_proxy.specs.Targets.{behind_http, authority_in, authority_of}
use Rattle.model_proxy.specs.Forward.{named_host, unless_there, own_lines}
use Rattle.model_proxy.proofs.Targets.{http_of}

-- ---- values

-- a value that computes
known : (value : List ℕ) → list_all is_value_byte value ≡ true → trim_ows value ≡ value → IsCleanValue value
known value all trimmed = record { bytes = AllPass-from_list_all is_value_byte value all; trimmed = trimmed }

via_clean : (minor : ℕ) → IsCleanValue (via minor)
unfolding trim_ows
via_clean minor = by_test (minor == 0)
  where
    by_test : (t : Bool) → IsCleanValue (cond t (codes "1.0 raspcream") (codes "1.1 raspcream"))
    by_test true = known (codes "1.0 raspcream") refl refl
    by_test false = known (codes "1.1 raspcream") refl refl

proto_clean : IsCleanValue (codes "http")
unfolding trim_ows
proto_clean = known (codes "http") refl refl

-- a byte of a target is one of a value, and no blank
no_blank : (b : ℕ) → is_uri_byte b ≡ true → is_ows b ≡ false
no_blank b visible = grind (arith, nat_tests)

value_byte : (b : ℕ) → IsTrue (is_uri_byte b) → IsTrue (is_value_byte b)
value_byte b visible = grind (arith, nat_tests, visible)

skip_none : (text : List ℕ) → AllPass is_uri_byte text → skip_ows text ≡ text
skip_none [] all = refl
skip_none (b ∷ bytes) all = cond-false (is_ows b) _ _ (no_blank b (All-head (λ c. IsTrue (is_uri_byte c)) b bytes all))

trim_none : (text : List ℕ) → AllPass is_uri_byte text → trim_ows text ≡ text
unfolding trim_ows
trim_none text all =
    ap (λ l. reverse (skip_ows (reverse l))) (skip_none text all)
    ∙ ap reverse (skip_none (reverse text) (AllPass-reverse is_uri_byte text all)) ∙ reverse-reverse text

pub visible_clean : (text : List ℕ) → AllPass is_uri_byte text → IsCleanValue text
visible_clean text all = record {
  bytes = All-weaker (λ b. IsTrue (is_uri_byte b)) (λ b. IsTrue (is_value_byte b)) value_byte text all;
  trimmed = trim_none text all;
}

-- ---- the host that is named

-- that of the first line of a name
first_clean : (name : List ℕ) (hs : List Header) → AllByRecursion IsCleanHeader hs → (value : List ℕ) → slice_get (values_of name hs) 0 ≡ Some value → IsCleanValue value
first_clean name [] clean value e = absurd (cc e)
first_clean name (h ∷ hs) clean value e = by_test (bytes_eq h.name name) refl (first_clean name hs clean.1 value)
  where
    kept : List Header
    kept = filter (λ k. bytes_eq k.name name) hs

    first_by : Bool → Option (List ℕ)
    first_by t = slice_get (map (λ k. k.value) (cond t (h ∷ kept) kept)) 0

    by_test : (t : Bool) → bytes_eq h.name name ≡ t → (slice_get (values_of name hs) 0 ≡ Some value → IsCleanValue value) → IsCleanValue value
    by_test true is others =
        let both : Some h.value ≡ Some value = sym (ap first_by is) ∙ e in
        let same : h.value ≡ value = cc both in
        subst IsCleanValue same (record { bytes = clean.0.value; trimmed = clean.0.trimmed })
    by_test false other others = others (sym (ap first_by other) ∙ e)

-- that of a target
authority_clean : (target : List ℕ) → AllPass is_uri_byte target → (value : List ℕ) → authority_of target ≡ Some value → IsCleanValue value
authority_clean target all value e = by_http (behind_http target) refl e
  where
    by_http : (o : Option (List ℕ)) → behind_http target ≡ o → option_map authority_in o ≡ Some value → IsCleanValue value
    by_http None is named = absurd (cc named)
    by_http (Some rest) is named =
        let behind : AllPass is_uri_byte rest =
        subst (AllPass is_uri_byte) (sym (http_of target rest is).behind) (All-drop (λ b. IsTrue (is_uri_byte b)) (scheme_len target + 3) target all) in
        let same : authority_in rest ≡ value = cc named in
        subst IsCleanValue same (visible_clean (authority_in rest) (All-take (λ b. IsTrue (is_uri_byte b)) (authority_len rest) rest behind))

pub named_clean : (h : Head) → AllByRecursion IsCleanHeader h.headers → AllPass is_uri_byte h.target → (value : List ℕ) → named_host h ≡ Some value → IsCleanValue value
named_clean h clean all value e = by_target (authority_of h.target) refl e
  where
    by_target : (o : Option (List ℕ)) → authority_of h.target ≡ o → option_or o (slice_get (values_of (codes "host") h.headers) 0) ≡ Some value → IsCleanValue value
    by_target None is named = first_clean (codes "host") h.headers clean value named
    by_target (Some host) is named = authority_clean h.target all value (is ∙ named)

-- ---- the lines

-- a line whose name computes
own_line : (name value : List ℕ) → is_field_name name ≡ true → lowercase name ≡ name → IsCleanValue value → IsCleanHeader (line_of name value)
own_line name value e lower clean = record { name = IsFieldName-from_test name e; lower = lower; value = clean.bytes; trimmed = clean.trimmed }

-- where nobody told it before
unless_clean : (name : List ℕ) (value : Option (List ℕ)) (passed : List Header) → is_field_name name ≡ true → lowercase name ≡ name
    → ((v : List ℕ) → value ≡ Some v → IsCleanValue v) → AllByRecursion IsCleanHeader (unless_there name value passed)
unless_clean name None passed e lower clean = tt
unless_clean name (Some value) passed e lower clean = by_test (has_header name passed)
  where
    by_test : (t : Bool) → AllByRecursion IsCleanHeader (cond t [] (line_of name value ∷ []))
    by_test true = tt
    by_test false = (own_line name value e lower (clean value refl), tt)

known_value : (value v : List ℕ) → IsCleanValue value → Some value ≡ Some v → IsCleanValue v
known_value value v clean e = let same : value ≡ v = cc e in subst IsCleanValue same clean

host_clean : (o : Option (List ℕ)) (other : List ℕ) → IsCleanValue other → ((v : List ℕ) → o ≡ Some v → IsCleanValue v) → IsCleanValue (unwrap_or o other)
host_clean None other clean names = clean
host_clean (Some v) other clean names = names v refl

pub own_clean : (edge : Edge) (h : Head) (passed : List Header) → IsCleanEdge edge → ((v : List ℕ) → named_host h ≡ Some v → IsCleanValue v)
    → AllByRecursion IsCleanHeader (own_lines edge h passed)
own_clean edge h passed clean names =
    let host = own_line (codes "host") (unwrap_or (named_host h) edge.host) refl refl (host_clean (named_host h) edge.host clean.host names) in
    let by = own_line (codes "via") (via h.minor) refl refl (via_clean h.minor) in
    let for = own_line (codes "x-forwarded-for") edge.address refl refl clean.address in
    let element = own_line (codes "forwarded") edge.element refl refl clean.element in
    let told = all_both IsCleanHeader (unless_there (codes "x-forwarded-proto") (Some (codes "http")) passed) (unless_there (codes "x-forwarded-host") (named_host h) passed)
    (unless_clean (codes "x-forwarded-proto") (Some (codes "http")) passed refl refl (λ v e. known_value (codes "http") v proto_clean e))
    (unless_clean (codes "x-forwarded-host") (named_host h) passed refl refl names) in
    (host, (by, (for, (element, told))))
