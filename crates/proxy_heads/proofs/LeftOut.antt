-- The lines that stay behind, one name after another.
use Rattle.std.proofs.Common.{◌≡◌, ℕ, Bool, true, false, not, List, [], ◌∷◌, ◌++◌, flat_map, bytes_eq, codes, refl, sym, ap, ◌∙◌, eqb, append-nil, append_assoc}
use Rattle.std.specs.Prelude.{◌||◌, if◌then◌else◌}
use Rattle.std.specs.List.{IsDistinct}
use Rattle.std.proofs.lemmas.Bool.{cond-true, cond-false}
use Rattle.std.proofs.lemmas.List.Folds.{list_any-append, flat_map-map}
use Rattle.http_header.specs.FieldValue.{FieldValue}
use Rattle.http_map.specs.HeaderMap.{Entries, keys, get_all}
use Rattle.model_h1.specs.Request.{Header}
use Rattle.model_h1.specs.AnswerText.{by_name}
use Rattle.h1_encoder.specs.Meaning.{headers_of}
use Rattle.model_ends.proofs.ValuesByName.{by_name_values}
use Rattle.model_proxy.specs.HopNames.{words_in, connection_words, standing_hops, hop_names, is_among, without}
use Rattle.model_proxy.specs.Forward.{client_names}
use Rattle.proxy_heads.specs.Words.{word_of, listed_words}
use Rattle.proxy_heads.specs.Edges.{own_head_names, kept_lines}
use Rattle.proxy_heads.specs.ForwardedMeaning.{other_hops, length_name, answer_lines}
use Rattle.proxy_heads.proofs.MapLemmas.{map_values, by_name-without}

-- names may be left out one part after the other
pub without-append : (a b : List (List ℕ)) (hs : List Header) → without (a ++ b) hs ≡ without b (without a hs)
without-append a b [] = refl
without-append a b (h ∷ hs) = by_tests (is_among h.name a) refl (is_among h.name b) refl (without-append a b hs)
  where
    both : is_among h.name (a ++ b) ≡ (is_among h.name a || is_among h.name b)
    both = list_any-append (λ n. bytes_eq h.name n) a b

    by_tests : (s : Bool) → is_among h.name a ≡ s → (t : Bool) → is_among h.name b ≡ t → without (a ++ b) hs ≡ without b (without a hs)
        → without (a ++ b) (h ∷ hs) ≡ without b (without a (h ∷ hs))
    by_tests true is t other others =
        cond-false (not (is_among h.name (a ++ b))) (h ∷ without (a ++ b) hs) (without (a ++ b) hs) (ap not (both ∙ ap (λ s. s || is_among h.name b) is))
        ∙ others ∙ ap (without b) (sym (cond-false (not (is_among h.name a)) (h ∷ without a hs) (without a hs) (ap not is)))
    by_tests false is true other others =
        cond-false (not (is_among h.name (a ++ b))) (h ∷ without (a ++ b) hs) (without (a ++ b) hs)
        (ap not (both ∙ (λ i. is i || other i)))
        ∙ others ∙ sym (ap (without b) (cond-true (not (is_among h.name a)) (h ∷ without a hs) (without a hs) (ap not is))
        ∙ cond-false (not (is_among h.name b)) (h ∷ without b (without a hs)) (without b (without a hs)) (ap not other))
    by_tests false is false other others =
        cond-true (not (is_among h.name (a ++ b))) (h ∷ without (a ++ b) hs) (without (a ++ b) hs)
        (ap not (both ∙ (λ i. is i || other i)))
        ∙ ap (λ (l : List Header). h ∷ l) others
        ∙ sym (ap (without b) (cond-true (not (is_among h.name a)) (h ∷ without a hs) (without a hs) (ap not is))
        ∙ cond-true (not (is_among h.name b)) (h ∷ without b (without a hs)) (without b (without a hs)) (ap not other))

-- one name, and then the others
pub without-cons : (n : List ℕ) (ns : List (List ℕ)) (hs : List Header) → without (n ∷ ns) hs ≡ without ns (without (n ∷ []) hs)
without-cons n ns hs = without-append (n ∷ []) ns hs

pub without-nil : (hs : List Header) → without [] hs ≡ hs
without-nil [] = refl
without-nil (h ∷ hs) = ap (λ (l : List Header). h ∷ l) (without-nil hs)

-- the words of a map's Connection lines
pub words_in_map : (m : Entries) → IsDistinct bytes_eq (keys m) → connection_words (headers_of m) ≡ listed_words (get_all m (codes "connection"))
words_in_map m distinct =
    ap (flat_map words_in) (map_values (codes "connection") m distinct) ∙ flat_map-map words_in (λ (v : FieldValue). v.bytes) (get_all m (codes "connection"))

-- lines that are put name by name have the same words
pub same_words : (hs : List Header) → connection_words (by_name hs) ≡ connection_words hs
same_words hs = ap (flat_map words_in) (by_name_values (codes "connection") hs)

-- the names by which earlier clients are told, unless they are trusted
abbrev told_names : Bool → List (List ℕ)
told_names trusts = if trusts then [] else client_names

-- so the same lines stay behind
pub kept_by_name : (trusts : Bool) (hs : List Header) → kept_lines trusts (by_name hs) ≡ by_name (kept_lines trusts hs)
kept_by_name trusts hs =
    ap (λ (words : List (List ℕ)). without ((standing_hops ++ words) ++ (own_head_names ++ told_names trusts)) (by_name hs)) (same_words hs)
    ∙ sym (by_name-without (hop_names hs ++ (own_head_names ++ told_names trusts)) hs)

pub answer_by_name : (status : ℕ) (hs : List Header) → answer_lines status (by_name hs) ≡ by_name (answer_lines status hs)
answer_by_name status hs =
    ap (λ (words : List (List ℕ)). without ((standing_hops ++ words) ++ length_name status) (by_name hs)) (same_words hs)
    ∙ sym (by_name-without (hop_names hs ++ length_name status) hs)

-- ---- one name after the other

pub then_one : (n : List ℕ) (ns : List (List ℕ)) (before after : List Header) → after ≡ without (n ∷ []) before
    → without ns after ≡ without (n ∷ ns) before
then_one n ns before after e = ap (without ns) e ∙ sym (without-cons n ns before)

-- the names of a map's hops
pub hops_removed : (m : Entries) (values : List FieldValue) (a b c : List Header) → IsDistinct bytes_eq (keys m) → values ≡ get_all m (codes "connection")
    → a ≡ without (codes "connection" ∷ []) (headers_of m) → b ≡ without other_hops a → c ≡ without (listed_words values) b
    → c ≡ without (hop_names (headers_of m)) (headers_of m)
hops_removed m values a b c distinct values_are first others listed =
    let hs = headers_of m in
    let words = listed_words (get_all m (codes "connection")) in
    let standing : b ≡ without standing_hops hs = others ∙ then_one (codes "connection") other_hops hs a first in
    listed ∙ ap (λ (vs : List FieldValue). without (listed_words vs) b) values_are ∙ ap (without words) standing
    ∙ sym (without-append standing_hops words hs)
    ∙ ap (λ (ws : List (List ℕ)). without (standing_hops ++ ws) hs) (sym (words_in_map m distinct))

-- the lines that aren't sent on, where the client is trusted and where it isn't
pub trusted_kept : (hs a b : List Header) (trusts : Bool) → trusts ≡ true → a ≡ without (hop_names hs) hs → b ≡ without own_head_names a → b ≡ kept_lines trusts hs
trusted_kept hs a b trusts is hops own =
    own ∙ ap (without own_head_names) hops ∙ sym (without-append (hop_names hs) own_head_names hs)
    ∙ ap (λ (t : Bool). kept_lines t hs) (sym is)

pub others_kept : (hs a b c : List Header) (trusts : Bool) → trusts ≡ false → a ≡ without (hop_names hs) hs → b ≡ without own_head_names a
    → c ≡ without client_names b → c ≡ kept_lines trusts hs
others_kept hs a b c trusts is hops own told =
    told ∙ ap (without client_names) (own ∙ ap (without own_head_names) hops ∙ sym (without-append (hop_names hs) own_head_names hs))
    ∙ sym (without-append (hop_names hs ++ own_head_names) client_names hs)
    ∙ ap (λ (names : List (List ℕ)). without names hs) (append_assoc (hop_names hs) own_head_names client_names)
    ∙ ap (λ (t : Bool). kept_lines t hs) (sym is)

-- the lines that aren't passed on, of a 304 and of another
pub all_passed : (status : ℕ) (hs a : List Header) → eqb status 304 ≡ true → a ≡ without (hop_names hs) hs → a ≡ answer_lines status hs
all_passed status hs a is hops =
    let none : length_name status ≡ [] = cond-true (eqb status 304) [] (codes "content-length" ∷ []) is in
    hops ∙ ap (λ (l : List (List ℕ)). without l hs) (sym (append-nil (hop_names hs)))
    ∙ ap (λ (l : List (List ℕ)). without (hop_names hs ++ l) hs) (sym none)

pub length_removed : (status : ℕ) (hs a b : List Header) → eqb status 304 ≡ false → a ≡ without (hop_names hs) hs
    → b ≡ without (codes "content-length" ∷ []) a → b ≡ answer_lines status hs
length_removed status hs a b other hops length =
    let one : length_name status ≡ codes "content-length" ∷ [] = cond-false (eqb status 304) [] (codes "content-length" ∷ []) other in
    length ∙ ap (without (codes "content-length" ∷ [])) hops ∙ sym (without-append (hop_names hs) (codes "content-length" ∷ []) hs)
    ∙ ap (λ (l : List (List ℕ)). without (hop_names hs ++ l) hs) (sym one)

-- ---- words of lists

-- the first word of a list, and the others
pub first_removed : (list first others : List ℕ) (before after : List Header) → words_in list ≡ word_of first ∷ words_in others
    → after ≡ without (word_of first ∷ []) before → without (words_in others) after ≡ without (words_in list) before
first_removed list first others before after words e =
    then_one (word_of first) (words_in others) before after e ∙ ap (λ (ws : List (List ℕ)). without ws before) (sym words)

-- the first of some values, and the others
pub values_removed : (v : FieldValue) (all others : List FieldValue) (bytes : List ℕ) (before after target : List Header) → all ≡ v ∷ others
    → bytes ≡ v.bytes → after ≡ without (words_in bytes) before → without (listed_words all) before ≡ target
    → without (listed_words others) after ≡ target
values_removed v all others bytes before after target all_is bytes_are e is =
    ap (without (listed_words others)) (e ∙ ap (λ (b : List ℕ). without (words_in b) before) bytes_are)
    ∙ sym (without-append (words_in v.bytes) (listed_words others) before)
    ∙ ap (λ (vs : List FieldValue). without (listed_words vs) before) (sym all_is) ∙ is

pub no_values_left : (left : List FieldValue) (now target : List Header) → left ≡ [] → without (listed_words left) now ≡ target → now ≡ target
no_values_left left now target none is =
    sym (ap (λ (vs : List FieldValue). without (listed_words vs) now) none ∙ without-nil now) ∙ is
