-- Whether a text is a request target is decided.
use Rattle.std.proofs.Common.{◌≡◌, ◌≢◌, ℕ, ◌-◌, ◌≤◌, ◌⊎◌, List, [], ◌++◌, length, take, slice_index, codes, Option, Some, None, IsTrue, refl, ap, ◌∙◌, inl, inr}
use Rattle.std.specs.Option.{IfSome}
use Rattle.http_uri.specs.ByteClasses.{is_scheme_byte, is_authority_byte, is_path_byte, is_query_byte, is_delimiter, count_of, split_once_front, split_once_back, at_sign, colon, left_bracket, percent_sign, question_mark, right_bracket, slash}
use Rattle.http_uri.specs.Grammar.{AllPass, IsScheme, normal_scheme, last_piece, MayFollow, IsAuthority, IsPathAndQuery, without_fragment, IsPathInput, IsTail, IsAbsoluteForm, IsOriginForm, IsForm}
use Rattle.model_h1.specs.RequestHead.{IsTarget}
use Rattle.model_h1.proofs.Decisions.{dec_like, dec_both, dec_pass, dec_either, dec_where, dec_not, dec_true, dec_same, dec_below, dec_most, dec_each, dec_bytes, HasCut, dec_cut}
use Rattle.model_h1.proofs.RequestDecisions.{dec_utf8}

-- ---- the parts

-- a query, if there is one
dec_query : (query : Option (List ℕ)) → Dec (IfSome query (AllPass is_query_byte))
dec_query None = yes tt
dec_query (Some text) = dec_pass is_query_byte text

-- a path and a query
dec_path_and_query : (text : List ℕ) → Dec (IsPathAndQuery text)
dec_path_and_query text =
    dec_like (λ x. record { start = x.0; path = x.1.0; query = x.1.1.0; utf8 = x.1.1.1.0; short = x.1.1.1.1 })
    (λ x. (x.start, (x.path, (x.query, (x.utf8, x.short)))))
    (dec_both (dec_either (dec_bytes text []) (dec_either (dec_bytes text (codes "*")) (dec_either (dec_same (slice_index text 0) slash) (dec_same (slice_index text 0) question_mark))))
    (dec_both (dec_pass is_path_byte (split_once_front question_mark text))
    (dec_both (dec_query (split_once_back question_mark text)) (dec_both (dec_utf8 text) (dec_most (length text) 65534)))))

-- a path, a query and a fragment
dec_path_input : (text : List ℕ) → Dec (IsPathInput text)
dec_path_input text =
    dec_like (λ x. record { start = x.0; short = x.1.0; kept = x.1.1 }) (λ x. (x.start, (x.short, x.kept)))
    (dec_both (dec_either (dec_bytes text (codes "*")) (dec_true (is_delimiter (slice_index text 0))))
    (dec_both (dec_most (length text) 65534) (dec_path_and_query (without_fragment text))))

-- a byte of an authority behind its front
dec_may_follow : (front : List ℕ) (b : ℕ) → Dec (MayFollow front b)
dec_may_follow front b =
    dec_like (λ x. record { byte = x.0; colons = x.1.0; opening = x.1.1.0; closing = x.1.1.1 }) (λ x. (x.byte, (x.colons, (x.opening, x.closing))))
    (dec_both (dec_true (is_authority_byte b))
    (dec_both (dec_where (dec_same b colon) (dec_below (count_of colon (last_piece front)) 8))
    (dec_both (dec_where (dec_same b left_bracket) (dec_both (dec_same (count_of left_bracket front) 0) (dec_same (count_of percent_sign (last_piece front)) 0)))
    (dec_where (dec_same b right_bracket) (dec_both (dec_below 0 (count_of left_bracket front)) (dec_same (count_of right_bracket front) 0))))))

-- an authority
dec_authority : (text : List ℕ) → Dec (IsAuthority text)
dec_authority text =
    dec_like
    (λ x. record { nonempty = x.0; bytes = x.1.0; closed = x.1.1.0; one_colon = x.1.1.1.0; no_percent = x.1.1.1.1.0; has_host = x.1.1.1.1.1 })
    (λ x. (x.nonempty, (x.bytes, (x.closed, (x.one_colon, (x.no_percent, x.has_host))))))
    (dec_both (dec_below 0 (length text))
    (dec_both (dec_each (λ i. MayFollow (take i text) (slice_index text i)) (λ i. dec_may_follow (take i text) (slice_index text i)) (length text))
    (dec_both (dec_same (count_of left_bracket text) (count_of right_bracket text))
    (dec_both (dec_most (count_of colon (last_piece text)) 1)
    (dec_both (dec_same (count_of percent_sign (last_piece text)) 0) (dec_not (dec_same (slice_index text (length text - 1)) at_sign)))))))

-- ---- the three forms

-- a path, or `*`
dec_origin : (text : List ℕ) → Dec (IsOriginForm text)
dec_origin text =
    dec_both (dec_either (dec_bytes text (codes "*")) (dec_same (slice_index text 0) slash)) (dec_path_input text)

-- an authority alone
abbrev IsAlone : List ℕ → Type 0
IsAlone text = IsAuthority text × (text ≢ codes "*")

-- an authority that isn't `*`
dec_alone : (text : List ℕ) → Dec (IsAlone text)
dec_alone text = dec_both (dec_authority text) (dec_not (dec_bytes text (codes "*")))

-- what may stand behind the authority of an absolute form
abbrev HasTail : List ℕ → Type 0
HasTail text = (kept : List ℕ) × IsTail text kept

-- nothing, or a path
dec_tail : (text : List ℕ) → Dec (HasTail text)
dec_tail text =
    dec_like (λ x. tail_from x) (λ x. tail_of x.0 x.1)
    (dec_either (dec_bytes text []) (dec_both (dec_true (is_delimiter (slice_index text 0))) (dec_path_input text)))
  where
    tail_from : (text ≡ []) ⊎ (IsTrue (is_delimiter (slice_index text 0)) × IsPathInput text) → HasTail text
    tail_from (inl empty) = (codes "/", inl (empty, refl))
    tail_from (inr x) = (without_fragment text, inr (x.0, x.1, refl))

    tail_of : (kept : List ℕ) → IsTail text kept → (text ≡ []) ⊎ (IsTrue (is_delimiter (slice_index text 0)) × IsPathInput text)
    tail_of kept (inl x) = inl x.0
    tail_of kept (inr x) = inr (x.0, x.1)

-- a scheme and its separator
abbrev IsStart : List ℕ → List ℕ → Type 0
IsStart name separator = IsScheme name × (separator ≡ codes "://")

-- each part is decided
dec_start : (name separator : List ℕ) → Dec (IsStart name separator)
dec_start name separator =
    dec_both (dec_both (dec_pass is_scheme_byte name) (dec_most (length name) 64)) (dec_bytes separator (codes "://"))

-- an absolute form
abbrev HasAbsolute : List ℕ → Type 0
HasAbsolute text = (scheme : List ℕ) × (authority : List ℕ) × (kept : List ℕ) × IsAbsoluteForm text scheme authority kept

-- its parts, cut from the end
abbrev HasParts : List ℕ → Type 0
HasParts text = HasCut (λ front tail. HasTail tail × HasCut (λ start authority. IsAuthority authority × HasCut IsStart start) front) text

-- each part is decided
dec_parts : (text : List ℕ) → Dec (HasParts text)
dec_parts text =
    dec_cut (λ front tail. HasTail tail × HasCut (λ start authority. IsAuthority authority × HasCut IsStart start) front)
    (λ front tail. dec_both (dec_tail tail)
    (dec_cut (λ start authority. IsAuthority authority × HasCut IsStart start)
    (λ start authority. dec_both (dec_authority authority) (dec_cut IsStart dec_start start))
    front))
    text

-- the absolute form of such parts
absolute_from : (text : List ℕ) → HasParts text → HasAbsolute text
absolute_from text x =
    let behind = x.3.1 in
    let start = behind.3.1 in (
      normal_scheme start.0,
      behind.1,
      x.3.0.0,
      record {
        name = start.0;
        tail = x.1;
        spelled = x.2 ∙ ap (λ (t : List ℕ). t ++ x.1) (behind.2 ∙ ap (λ (t : List ℕ). t ++ behind.1) (start.2 ∙ ap (λ (t : List ℕ). start.0 ++ t) start.3.1));
        is_scheme = start.3.0;
        normal = refl;
        is_authority = behind.3.0;
        is_tail = x.3.0.1;
      },
    )

-- the parts of an absolute form
absolute_parts : (text scheme authority kept : List ℕ) → IsAbsoluteForm text scheme authority kept → HasParts text
absolute_parts text scheme authority kept x =
    ((x.name ++ codes "://") ++ authority, x.tail, x.spelled, ((kept, x.is_tail), (x.name ++ codes "://", authority, refl, (x.is_authority, (x.name, codes "://", refl, (x.is_scheme, refl))))))

-- an absolute form, by its parts
dec_absolute : (text : List ℕ) → Dec (HasAbsolute text)
dec_absolute text = dec_like (absolute_from text) (λ x. absolute_parts text x.0 x.1 x.2 x.3) (dec_parts text)

-- ---- the target

-- one of the forms
abbrev HasForm : List ℕ → Type 0
HasForm text = IsOriginForm text ⊎ (IsAlone text ⊎ HasAbsolute text)

-- the form of a URI's text
form_of : (text : List ℕ) (scheme authority : Option (List ℕ)) (kept : List ℕ) → IsForm text scheme authority kept → HasForm text
form_of text None None kept x = inl x.0
form_of text None (Some authority) kept x = inr (inl (x.0, x.1))
form_of text (Some scheme) None kept x = absurd x
form_of text (Some scheme) (Some authority) kept x = inr (inr (scheme, authority, kept, x))

-- the URI's text of a form
target_from : (text : List ℕ) → length text ≤ 65534 → HasForm text → IsTarget text
target_from text short (inl x) = (None, None, without_fragment text, (short, (x, refl)))
target_from text short (inr (inl x)) = (None, Some text, [], (short, (x.0, x.1, refl, refl)))
target_from text short (inr (inr x)) = (Some x.0, Some x.1, x.2, (short, x.3))

-- a text has one of the forms of a target or has none
pub target_decided : (text : List ℕ) → Dec (IsTarget text)
target_decided text =
    dec_like (λ x. target_from text x.0 x.1) (λ x. (x.3.0, form_of text x.0 x.1 x.2 x.3.1))
    (dec_both (dec_most (length text) 65534) (dec_either (dec_origin text) (dec_either (dec_alone text) (dec_absolute text))))
