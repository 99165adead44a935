-- What a server gets for a target is one.
use Rattle.std.proofs.Common.{◌≡◌, ℕ, ◌+◌, ◌<◌, ◌≤◌, Bool, true, false, ◌&&◌, ◌||◌, cond, List, [], ◌∷◌, ◌++◌, length, get_or, take, drop, codes, refl, sym, ap, ◌∙◌, subst, inl, inr, arith, lit≤, lt-ltb, length-take, length-append, Option, Some, None, IsTrue}
use Rattle.std.specs.Prelude.{nat_eq, nat_lt, bytes_eq, IsUtf8, IfSome, ◌==◌, if◌then◌else◌, option_map}
use Rattle.std.specs.List.{starts_with}
use Rattle.std.proofs.lemmas.Bool.{false≢true, eqb-true, and_parts, and_right}
use Rattle.std.proofs.lemmas.List.Elements.{All-cons, All-nil, All-drop}
use Rattle.std.proofs.lemmas.Slice.Eq.{bytes_eq-Decides}
use Rattle.std.proofs.lemmas.Str.{IsUtf8-append, IsUtf8-from_ascii}
use Rattle.std.proofs.lemmas.Str.Ascii.{IsAscii-cons, IsAscii-nil}
use Rattle.httparse.specs.Grammar.{AllPass, is_uri_byte}
use Rattle.http_uri.specs.ByteClasses.{is_path_byte, is_query_byte}
use Rattle.http_uri.specs.Grammar as uris
use Rattle.http_uri.specs.Grammar.{HasScheme, IsAuthority, IsPathAndQuery, IsPathInput, IsTail, IsAbsoluteForm, IsUriText, scheme_len, authority_len, without_fragment, path_and_query_text}
use Rattle.http_uri.proofs.SchemeLemmas.{length_of_folded}
use Rattle.http_uri.proofs.UriLemmas.{cut_rest, cut_authority, cut_tail, IsAuthority_no_scheme}
use Rattle.http_uri.proofs.PathLemmas.{IsPathAndQuery_slash}
use Rattle.model_h1.specs.RequestHead.{IsTarget}
use Rattle.model_proxy.specs.Targets.{is_http, behind_http, authority_in, is_asterisk, is_at_host, is_servable, origin_of, has_no_path, asks_for_all, target_sent}
use Rattle.model_proxy.proofs.Paths.{cut_cons, cut_hash, cut_again, cut_short, slashed, target_cut, some_cut, utf8_cut, visible_cut}

-- ---- a target of `http`

-- it has a scheme, of four bytes, and this stands behind
pub record IsHttp (text rest : List ℕ) : Type 0 where
  pub scheme : HasScheme text
  pub four : 4 ≤ scheme_len text
  pub behind : rest ≡ drop (scheme_len text + 3) text

pub http_of : (text rest : List ℕ) → behind_http text ≡ Some rest → IsHttp text rest
http_of text rest e = by_test (is_http text) refl e
  where
    n : ℕ
    n = scheme_len text

    by_test : (t : Bool) → is_http text ≡ t → cond t (Some (drop (scheme_len text + 3) text)) None ≡ Some rest → IsHttp text rest
    by_test false is e = let no : ◌≡◌ {A = Option (List ℕ)} None (Some rest) = e in absurd (cc no)
    by_test true is e =
        let both = and_parts _ _ is in
        let marks : take 3 (drop (scheme_len text) text) ≡ codes "://" = (bytes_eq-Decides (take 3 (drop (scheme_len text) text)) (codes "://")).0 both.1 in
        let four : length (take (scheme_len text) text) ≡ 4 = length_of_folded (take (scheme_len text) text) (codes "http") both.0 in
        let long : 3 < length text = omega (arith, four, length-take (scheme_len text) text) in
        let name : 4 ≤ scheme_len text = omega (arith, four, length-take (scheme_len text) text) in
        let same : drop (scheme_len text + 3) text ≡ rest = cc e in
        record { scheme = (long, marks); four = name; behind = sym same }

-- no scheme begins with a slash
slash_len : (text : List ℕ) → get_or text 0 0 ≡ 47 → scheme_len text ≡ 0
slash_len [] e = absurd (omega (arith, e))
slash_len (b ∷ bytes) e = ap (λ c. scheme_len (c ∷ bytes)) e

-- so it is no target of `http`
no_http : (text : List ℕ) → starts_with nat_eq text (codes "/") ≡ true → behind_http text ≡ None
no_http text begins =
    let cut = slashed text begins in
    subst (λ (t : List ℕ). behind_http t ≡ None) (sym cut.is) refl

-- where no whole server is asked for
not_all : (method text : List ℕ) → asks_for_all method text ≡ false → target_sent method text ≡ origin_of (behind_http text) text
not_all method text part = ap (λ (t : Bool). if t then codes "*" else origin_of (behind_http text) text) part

-- and where one is
is_all : (method text : List ℕ) → asks_for_all method text ≡ true → target_sent method text ≡ codes "*"
is_all method text all = ap (λ (t : Bool). if t then codes "*" else origin_of (behind_http text) text) all

-- so a path is kept
pub path_kept : (method text : List ℕ) → starts_with nat_eq text (codes "/") ≡ true → target_sent method text ≡ without_fragment text
path_kept method text begins =
    let none = no_http text begins in
    not_all method text (and_right (bytes_eq method (codes "OPTIONS")) (has_no_path (behind_http text)) (ap has_no_path none))
    ∙ ap (λ (o : Option (List ℕ)). origin_of o text) none

-- its parts are those of an absolute URI
pub record IsAbsolute (text : List ℕ) (scheme authority : Option (List ℕ)) (kept : List ℕ) : Type 0 where
  pub name : List ℕ
  pub host : List ℕ
  pub scheme_is : scheme ≡ Some name
  pub authority_is : authority ≡ Some host
  pub form : IsAbsoluteForm text name host kept

pub absolute_of : (text rest : List ℕ) (scheme authority : Option (List ℕ)) (kept : List ℕ) → IsHttp text rest → IsUriText text scheme authority kept
    → IsAbsolute text scheme authority kept
absolute_of text rest None None kept is x =
    absurd (elim x.1.0.0 [
      | inl star ↦ omega (arith, ap length star, is.scheme.0)
      | inr slash ↦ omega (arith, slash_len text slash, is.four)
    ])
absolute_of text rest None (Some a) kept is x = absurd (IsAuthority_no_scheme text x.1.0 is.scheme)
absolute_of text rest (Some s) None kept is x = absurd x.1
absolute_of text rest (Some s) (Some a) kept is x = record { name = s; host = a; scheme_is = refl; authority_is = refl; form = x.1 }

module _ (text rest scheme authority kept : List ℕ) (is : IsHttp text rest) (form : IsAbsoluteForm text scheme authority kept) where
  behind : rest ≡ authority ++ form.tail
  behind = is.behind ∙ cut_rest text scheme authority kept form

  -- the authority that it names
  pub host_is : authority_in rest ≡ authority
  host_is = ap authority_in behind ∙ cut_authority text scheme authority kept form

  -- and what stands behind that
  pub tail_is : drop (authority_len rest) rest ≡ form.tail
  tail_is = ap (λ (r : List ℕ). drop (authority_len r) r) behind ∙ cut_tail text scheme authority kept form

-- ---- what a server gets for it

-- a path, that has a byte and is text
pub record IsSound (text : List ℕ) : Type 0 where
  pub target : IsTarget text
  pub some : 0 < length text
  pub utf8 : IsUtf8 text

slash_alone : IsSound (47 ∷ [])
slash_alone = record {
  target = (
    None,
    None,
    47 ∷ [],
    (lit≤ tt, ((inr refl, record { start = inr refl; short = lit≤ tt; kept = IsPathAndQuery_slash }), refl)),
  );
  some = omega arith;
  utf8 = IsUtf8-from_ascii _ (IsAscii-cons 47 [] (omega arith) IsAscii-nil);
}

abbrev AllPass_query : List ℕ → Type 0
AllPass_query text = uris.AllPass is_query_byte text

-- a query with a slash before it
slash_before : (q : List ℕ) → length (47 ∷ 63 ∷ q) ≤ 65534 → IsPathAndQuery (63 ∷ q) → IsPathAndQuery (47 ∷ 63 ∷ q)
slash_before q short x =
    let inside : nat_lt 1 (length (47 ∷ 63 ∷ q)) ≡ true = lt-ltb 1 (length (47 ∷ 63 ∷ q)) (omega arith) in
    let within : nat_lt 0 (length (63 ∷ q)) ≡ true = lt-ltb 0 (length (63 ∷ q)) (omega arith) in
    let query : AllPass_query q = subst (λ (t : Bool). IfSome (cond t (Some q) None) (λ (l : List ℕ). AllPass_query l)) within x.query in
    record {
      start = inr (inr (inl refl));
      path = All-cons (λ b. IsTrue (is_path_byte b)) 47 [] refl (All-nil (λ b. IsTrue (is_path_byte b)));
      query = subst (λ (t : Bool). IfSome (cond t (Some q) None) (λ (l : List ℕ). AllPass_query l)) (sym inside) query;
      utf8 = IsUtf8-append (47 ∷ []) (63 ∷ q) (IsUtf8-from_ascii _ (IsAscii-cons 47 [] (omega arith) IsAscii-nil)) x.utf8;
      short = short;
    }

-- the text of a path, which has no fragment
sound_path : (k : List ℕ) → length (47 ∷ k) ≤ 65534 → without_fragment (47 ∷ k) ≡ 47 ∷ k → IsPathAndQuery (47 ∷ k) → IsSound (47 ∷ k)
sound_path k short again kept = record {
  target = (None, None, 47 ∷ k, (short, ((inr refl, record { start = inr refl; short = short; kept = subst IsPathAndQuery (sym again) kept }), sym again)));
  some = omega arith;
  utf8 = kept.utf8;
}

-- behind a slash
of_path : (bytes : List ℕ) → length (47 ∷ bytes) ≤ 65534 → IsPathAndQuery (without_fragment (47 ∷ bytes)) → IsSound (path_and_query_text (without_fragment (47 ∷ bytes)))
of_path bytes short kept =
    let k = without_fragment bytes in
    let same : without_fragment (47 ∷ bytes) ≡ 47 ∷ k = cut_cons 47 bytes refl in
    let again : without_fragment (47 ∷ k) ≡ 47 ∷ k = cut_cons 47 k refl ∙ ap (λ t. 47 ∷ t) (cut_again bytes) in
    subst IsSound (sym (ap path_and_query_text same))
    (sound_path k (omega (arith, short, cut_short bytes)) again (subst IsPathAndQuery same kept))

-- behind a question mark
of_query : (bytes : List ℕ) → length (63 ∷ bytes) + 1 ≤ 65534 → IsPathAndQuery (without_fragment (63 ∷ bytes)) → IsSound (path_and_query_text (without_fragment (63 ∷ bytes)))
of_query bytes short kept =
    let k = without_fragment bytes in
    let same : without_fragment (63 ∷ bytes) ≡ 63 ∷ k = cut_cons 63 bytes refl in
    let again : without_fragment (47 ∷ 63 ∷ k) ≡ 47 ∷ 63 ∷ k =
    cut_cons 47 (63 ∷ k) refl ∙ ap (λ t. 47 ∷ t) (cut_cons 63 k refl ∙ ap (λ t. 63 ∷ t) (cut_again bytes)) in
    let less : length (47 ∷ 63 ∷ k) ≤ 65534 = omega (arith, short, cut_short bytes) in
    subst IsSound (sym (ap path_and_query_text same)) (sound_path (63 ∷ k) less again (slash_before k less (subst IsPathAndQuery same kept)))

-- behind a fragment's mark nothing is kept
of_fragment : (bytes : List ℕ) → IsSound (path_and_query_text (without_fragment (35 ∷ bytes)))
of_fragment bytes = subst IsSound (sym (ap path_and_query_text (cut_hash 35 bytes refl))) slash_alone

-- what stands behind an authority
of_tail : (tail kept : List ℕ) → length tail + 1 ≤ 65534 → IsTail tail kept → IsSound (path_and_query_text (without_fragment tail))
of_tail tail kept short (inl x) = subst (λ (t : List ℕ). IsSound (path_and_query_text (without_fragment t))) (sym x.0) slash_alone
of_tail [] kept short (inr x) = slash_alone
of_tail (b ∷ bytes) kept short (inr x) = by_slash (b == 47) refl x.0
  where
    P : ℕ → Type 0
    P c = IsSound (path_and_query_text (without_fragment (c ∷ bytes)))

    kept_of : (c : ℕ) → b ≡ c → IsPathAndQuery (without_fragment (c ∷ bytes))
    kept_of c is = subst (λ (d : ℕ). IsPathAndQuery (without_fragment (d ∷ bytes))) is x.1.kept

    by_mark : (m : Bool) → (b == 63) ≡ m → (m || (b == 35)) ≡ true → P b
    by_mark true is e = let same : b ≡ 63 = eqb-true b 63 is in subst P (sym same) (of_query bytes (omega (arith, short)) (kept_of 63 same))
    by_mark false is e = let same : b ≡ 35 = eqb-true b 35 e in subst P (sym same) (of_fragment bytes)

    by_slash : (s : Bool) → (b == 47) ≡ s → (s || (b == 63) || (b == 35)) ≡ true → P b
    by_slash true is e = let same : b ≡ 47 = eqb-true b 47 is in subst P (sym same) (of_path bytes (omega (arith, short)) (kept_of 47 same))
    by_slash false is e = by_mark (b == 63) refl e

-- a longer text has more bytes than what stands behind its authority
tail_short : (text scheme authority kept : List ℕ) → length text ≤ 65534 → (form : IsAbsoluteForm text scheme authority kept) → length form.tail + 1 ≤ 65534
tail_short text scheme authority kept short form =
    omega (arith, short, ap length form.spelled, length-append ((form.name ++ codes "://") ++ authority) form.tail, length-append (form.name ++ codes "://") authority, form.is_authority.nonempty)

-- `*`
star_sound : (text : List ℕ) → text ≡ codes "*" → IsTarget text → IsSound (without_fragment text)
star_sound text is x = subst (λ (t : List ℕ). IsSound (without_fragment t)) (sym is) (record {
  target = subst IsTarget is x;
  some = omega arith;
  utf8 = IsUtf8-from_ascii _ (IsAscii-cons 42 [] (omega arith) IsAscii-nil);
})

slash_sound : (text : List ℕ) → starts_with nat_eq text (codes "/") ≡ true → IsTarget text → IsSound (without_fragment text)
slash_sound text begins x = record { target = target_cut text begins x; some = some_cut text begins; utf8 = utf8_cut text begins x }

-- `*` is one for a server as a whole
pub IsPathAndQuery_star : IsPathAndQuery (codes "*")
IsPathAndQuery_star = record {
  start = inr (inl refl);
  path = All-cons (λ b. IsTrue (is_path_byte b)) 42 [] refl (All-nil (λ b. IsTrue (is_path_byte b)));
  query = tt;
  utf8 = IsUtf8-from_ascii _ (IsAscii-cons 42 [] (omega arith) IsAscii-nil);
  short = lit≤ tt;
}

star_alone : IsSound (codes "*")
star_alone = record {
  target = (
    None,
    None,
    codes "*",
    (lit≤ tt, ((inl refl, record { start = inl refl; short = lit≤ tt; kept = IsPathAndQuery_star }), refl)),
  );
  some = omega arith;
  utf8 = IsUtf8-from_ascii _ (IsAscii-cons 42 [] (omega arith) IsAscii-nil);
}

-- all that a server can be asked for, as an origin is
origin_sound : (method text : List ℕ) → is_servable method text ≡ true → IsTarget text → IsSound (origin_of (behind_http text) text)
origin_sound method text may x = by_http (behind_http text) refl may
  where
    by_star : (star : Bool) → is_asterisk text ≡ star → (star && bytes_eq method (codes "OPTIONS")) ≡ true → IsSound (without_fragment text)
    by_star true is e = star_sound text ((bytes_eq-Decides text (codes "*")).0 is) x
    by_star false is e = absurd (false≢true e)

    by_slash : (slash : Bool) → starts_with nat_eq text (codes "/") ≡ slash → (slash || (false || (is_asterisk text && bytes_eq method (codes "OPTIONS")))) ≡ true
        → IsSound (without_fragment text)
    by_slash true is e = slash_sound text is x
    by_slash false is e = by_star (is_asterisk text) refl e

    by_http : (o : Option (List ℕ)) → behind_http text ≡ o
        → (starts_with nat_eq text (codes "/") || (is_at_host (option_map authority_in o) || (is_asterisk text && bytes_eq method (codes "OPTIONS")))) ≡ true
        → IsSound (origin_of (behind_http text) text)
    by_http None is may = subst (λ (o : Option (List ℕ)). IsSound (origin_of o text)) (sym is) (by_slash (starts_with nat_eq text (codes "/")) refl may)
    by_http (Some rest) is may =
        let http = http_of text rest is in
        let parts = absolute_of text rest x.0 x.1 x.2 http x.3 in
        subst (λ (o : Option (List ℕ)). IsSound (origin_of o text)) (sym is)
        (subst (λ (t : List ℕ). IsSound (path_and_query_text (without_fragment t))) (sym (tail_is text rest parts.name parts.host x.2 http parts.form))
        (of_tail parts.form.tail x.2 (tail_short text parts.name parts.host x.2 x.3.0 parts.form) parts.form.is_tail))

-- and as a whole server
pub sent_sound : (method text : List ℕ) → is_servable method text ≡ true → IsTarget text → IsSound (target_sent method text)
sent_sound method text may x = by_all (asks_for_all method text) refl
  where
    by_all : (all : Bool) → asks_for_all method text ≡ all → IsSound (target_sent method text)
    by_all true is = subst IsSound (sym (is_all method text is)) star_alone
    by_all false is = subst IsSound (sym (not_all method text is)) (origin_sound method text may x)

-- ---- its bytes

-- a slash more
slashed_visible : (text : List ℕ) → AllPass is_uri_byte text → AllPass is_uri_byte (path_and_query_text text)
slashed_visible text all = by_test ((get_or text 0 0 == 47) || (get_or text 0 0 == 42))
  where
    by_test : (t : Bool) → AllPass is_uri_byte (cond t text (codes "/" ++ text))
    by_test true = all
    by_test false = All-cons (λ b. IsTrue (is_uri_byte b)) 47 text refl all

origin_visible : (text : List ℕ) → AllPass is_uri_byte text → AllPass is_uri_byte (origin_of (behind_http text) text)
origin_visible text all = by_http (behind_http text) refl
  where
    by_http : (o : Option (List ℕ)) → behind_http text ≡ o → AllPass is_uri_byte (origin_of (behind_http text) text)
    by_http None is = subst (λ (o : Option (List ℕ)). AllPass is_uri_byte (origin_of o text)) (sym is) (visible_cut text all)
    by_http (Some rest) is =
        let http = http_of text rest is in
        let behind : AllPass is_uri_byte rest =
        subst (AllPass is_uri_byte) (sym http.behind) (All-drop (λ b. IsTrue (is_uri_byte b)) (scheme_len text + 3) text all) in
        subst (λ (o : Option (List ℕ)). AllPass is_uri_byte (origin_of o text)) (sym is)
        (slashed_visible (without_fragment (drop (authority_len rest) rest))
        (visible_cut (drop (authority_len rest) rest) (All-drop (λ b. IsTrue (is_uri_byte b)) (authority_len rest) rest behind)))

pub sent_visible : (method text : List ℕ) → AllPass is_uri_byte text → AllPass is_uri_byte (target_sent method text)
sent_visible method text all = by_all (asks_for_all method text) refl
  where
    by_all : (t : Bool) → asks_for_all method text ≡ t → AllPass is_uri_byte (target_sent method text)
    by_all true is = subst (AllPass is_uri_byte) (sym (is_all method text is)) (All-cons (λ b. IsTrue (is_uri_byte b)) 42 [] refl (All-nil (λ b. IsTrue (is_uri_byte b))))
    by_all false is = subst (AllPass is_uri_byte) (sym (not_all method text is)) (origin_visible text all)
