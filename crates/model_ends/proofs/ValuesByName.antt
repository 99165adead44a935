-- What is read of a name is what was given: putting lines together by their names, and adding some, changes no values.
use Rattle.std.proofs.Common.{◌≡◌, ◌⊎◌, ℕ, ◌/◌, Bool, true, false, not, ◌&&◌, ◌||◌, List, [], ◌∷◌, ◌++◌, map, filter, flat_map, cond, eqb, refl, sym, ap, ap₂, ◌∙◌, subst, inl, inr, append-nil, append_assoc}
use Rattle.std.specs.Prelude.{bytes_eq, fold, codes, decimal, ⊤}
use Rattle.std.specs.List.{AllByRecursion}
use Rattle.std.proofs.lemmas.Bool.{false≢true, cond-true, cond-false, eq-eqb}
use Rattle.std.proofs.lemmas.Bool.Decides.{same_from_decides, Decides-like}
use Rattle.std.proofs.lemmas.Slice.Eq.{bytes_eq-Decides}
use Rattle.model_h1.specs.Request.{Header, ConnectionType}
use Rattle.model_h1.specs.LengthTable.{values_of}
use Rattle.model_h1.specs.Answer.{AnswerHead, BodySize, size_none, size_of, size_stream, Shape, shape_none, shape_length, shape_chunked, shape_raw, is_bodiless, has_header, is_raw}
use Rattle.model_h1.specs.AnswerText.{appended, by_name, is_sent, date_of}
use Rattle.model_client.specs.WrittenHead.{line_of, size_lines, framing_lines, connection_lines, date_lines, written_lines}
use Rattle.model_ends.proofs.Framing.{values-append, connection_other, date_other}
use Rattle.model_ends.proofs.NameGroups.{AllGroups, appended_all, flat_all, IsOther}

-- ---- names

same_name : (a b : List ℕ) → bytes_eq a b ≡ true → a ≡ b
same_name a b h = (bytes_eq-Decides a b).0 h

eq_sym : (a b : List ℕ) → bytes_eq a b ≡ bytes_eq b a
eq_sym a b = same_from_decides (bytes_eq a b) (bytes_eq b a) (bytes_eq-Decides a b) (Decides-like (bytes_eq b a) sym sym (bytes_eq-Decides b a))

-- the second of two tests holds
last_true : (a b : Bool) → b ≡ true → (a || b) ≡ true
last_true true b is = refl
last_true false b is = is

-- one line, with the name or another
one_value : (name : List ℕ) (h : Header) → bytes_eq h.name name ≡ true → values_of name (h ∷ []) ≡ h.value ∷ []
one_value name h is = ap (map (λ k. k.value)) (cond-true (bytes_eq h.name name) (h ∷ []) [] is)

one_other : (name : List ℕ) (h : Header) → bytes_eq h.name name ≡ false → values_of name (h ∷ []) ≡ []
one_other name h other = ap (map (λ k. k.value)) (cond-false (bytes_eq h.name name) (h ∷ []) [] other)

-- lines of other names have no value
no_values : (name : List ℕ) (hs : List Header) → AllByRecursion (IsOther name) hs → values_of name hs ≡ []
no_values name [] none = refl
no_values name (h ∷ hs) none = values-append name (h ∷ []) hs ∙ ap₂ (λ a b. a ++ b) (one_other name h none.0) (no_values name hs none.1)

-- ---- by name

-- no later group has the name of a group's first header
abbrev AreApart : List (List Header) → Type 0
AreApart [] = ⊤
AreApart ([] ∷ groups) = AreApart groups
AreApart ((g ∷ gs) ∷ groups) = AllGroups (IsOther g.name) groups × AreApart groups

appended_apart : (groups : List (List Header)) (h : Header) → AreApart groups → AreApart (appended groups h)
unfolding appended
appended_apart [] h apart = (tt, tt)
appended_apart ([] ∷ groups) h apart = appended_apart groups h apart
appended_apart ((g ∷ gs) ∷ groups) h apart = by_test (bytes_eq g.name h.name) refl (appended_apart groups h apart.1)
  where
    by_test : (t : Bool) → bytes_eq g.name h.name ≡ t → AreApart (appended groups h) → AreApart (cond t ((g ∷ (gs ++ h ∷ [])) ∷ groups) ((g ∷ gs) ∷ appended groups h))
    by_test true is others = apart
    by_test false is others = (appended_all (IsOther g.name) groups h apart.0 (eq_sym h.name g.name ∙ is), others)

folded_apart : (hs : List Header) (groups : List (List Header)) → AreApart groups → AreApart (fold appended groups hs)
folded_apart [] groups apart = apart
folded_apart (h ∷ hs) groups apart = folded_apart hs (appended groups h) (appended_apart groups h apart)

abbrev flat : List (List Header) → List Header
flat groups = flat_map (λ group. group) groups

module _ (name : List ℕ) where
  abbrev V : List Header → List (List ℕ)
  V hs = values_of name hs

  -- a header's value may stand after those of groups that have no such name
  passes : (groups : List (List Header)) (g h : Header) → bytes_eq g.name h.name ≡ true → AllGroups (IsOther g.name) groups
      → V (h ∷ []) ++ V (flat groups) ≡ V (flat groups) ++ V (h ∷ [])
  passes groups g h is apart = by_test (bytes_eq h.name name) refl
    where
      by_test : (t : Bool) → bytes_eq h.name name ≡ t → V (h ∷ []) ++ V (flat groups) ≡ V (flat groups) ++ V (h ∷ [])
      by_test false other = ap (λ l. l ++ V (flat groups)) (one_other name h other) ∙ sym (ap (λ l. V (flat groups) ++ l) (one_other name h other) ∙ append-nil (V (flat groups)))
      by_test true same =
          let named : g.name ≡ name = same_name g.name h.name is ∙ same_name h.name name same in
          let none : V (flat groups) ≡ [] = no_values name (flat groups) (subst (λ n. AllByRecursion (IsOther n) (flat groups)) named (flat_all (IsOther g.name) groups apart)) in
          ap (λ l. V (h ∷ []) ++ l) none ∙ append-nil (V (h ∷ [])) ∙ sym (ap (λ l. l ++ V (h ∷ [])) none)

  -- a further header puts its value last
  appended_values : (groups : List (List Header)) (h : Header) → AreApart groups → V (flat (appended groups h)) ≡ V (flat groups) ++ V (h ∷ [])
  unfolding appended
  appended_values [] h apart = refl
  appended_values ([] ∷ groups) h apart = appended_values groups h apart
  appended_values ((g ∷ gs) ∷ groups) h apart = by_test (bytes_eq g.name h.name) refl (appended_values groups h apart.1)
    where
      before : V (flat ((g ∷ gs) ∷ groups)) ≡ V (g ∷ gs) ++ V (flat groups)
      before = values-append name (g ∷ gs) (flat groups)

      by_test : (t : Bool) → bytes_eq g.name h.name ≡ t → V (flat (appended groups h)) ≡ V (flat groups) ++ V (h ∷ [])
          → V (flat (cond t ((g ∷ (gs ++ h ∷ [])) ∷ groups) ((g ∷ gs) ∷ appended groups h))) ≡ V (flat ((g ∷ gs) ∷ groups)) ++ V (h ∷ [])
      by_test true is others =
          values-append name (g ∷ (gs ++ h ∷ [])) (flat groups) ∙ ap (λ l. l ++ V (flat groups)) (values-append name (g ∷ gs) (h ∷ []))
          ∙ append_assoc (V (g ∷ gs)) (V (h ∷ [])) (V (flat groups)) ∙ ap (λ l. V (g ∷ gs) ++ l) (passes groups g h is apart.0)
          ∙ sym (append_assoc (V (g ∷ gs)) (V (flat groups)) (V (h ∷ []))) ∙ ap (λ l. l ++ V (h ∷ [])) (sym before)
      by_test false is others =
          values-append name (g ∷ gs) (flat (appended groups h)) ∙ ap (λ l. V (g ∷ gs) ++ l) others
          ∙ sym (append_assoc (V (g ∷ gs)) (V (flat groups)) (V (h ∷ []))) ∙ ap (λ l. l ++ V (h ∷ [])) (sym before)

  folded_values : (hs : List Header) (groups : List (List Header)) → AreApart groups → V (flat (fold appended groups hs)) ≡ V (flat groups) ++ V hs
  folded_values [] groups apart = sym (append-nil (V (flat groups)))
  folded_values (h ∷ hs) groups apart =
      folded_values hs (appended groups h) (appended_apart groups h apart) ∙ ap (λ l. l ++ V hs) (appended_values groups h apart)
      ∙ append_assoc (V (flat groups)) (V (h ∷ [])) (V hs) ∙ ap (λ l. V (flat groups) ++ l) (sym (values-append name (h ∷ []) hs))

  -- name by name, the values of each name are the same, in their order
  pub by_name_values : (hs : List Header) → values_of name (by_name hs) ≡ values_of name hs
  by_name_values hs = folded_values hs [] tt

  -- ---- the lines of a written head

  -- lines of a name that are all sent keep their values
  all_kept : (answer : AnswerHead) (shape : Shape) → ((h : Header) → bytes_eq h.name name ≡ true → is_sent answer shape h ≡ true) → (hs : List Header)
      → values_of name (filter (is_sent answer shape) hs) ≡ values_of name hs
  all_kept answer shape kept [] = refl
  all_kept answer shape kept (h ∷ hs) = by_test (bytes_eq h.name name) refl (is_sent answer shape h) refl (all_kept answer shape kept hs)
    where
      by_test : (n : Bool) → bytes_eq h.name name ≡ n → (t : Bool) → is_sent answer shape h ≡ t → V (filter (is_sent answer shape) hs) ≡ V hs
          → V (cond t (h ∷ filter (is_sent answer shape) hs) (filter (is_sent answer shape) hs)) ≡ V (h ∷ hs)
      by_test n is true sent others =
          values-append name (h ∷ []) (filter (is_sent answer shape) hs) ∙ ap (λ l. V (h ∷ []) ++ l) others ∙ sym (values-append name (h ∷ []) hs)
      by_test false other false dropped others = others ∙ ap (λ l. l ++ V hs) (sym (one_other name h other)) ∙ sym (values-append name (h ∷ []) hs)
      by_test true is false dropped others = absurd (false≢true (sym dropped ∙ kept h is))

  -- the values of the name are those that were given, and perhaps the date
  pub written_values : (minor : ℕ) (answer : AnswerHead) (shape : Shape) (size : BodySize) (kind : ConnectionType) (now : ℕ) → bytes_eq name (codes "connection") ≡ false
      → V (framing_lines answer shape size) ≡ [] → ((h : Header) → bytes_eq h.name name ≡ true → is_sent answer shape h ≡ true)
      → values_of name (written_lines minor answer shape size kind now)
      ≡ values_of name answer.headers ++ values_of name (date_lines (has_header (codes "date") answer.headers) now)
  written_values minor answer shape size kind now connection framing kept =
      let a = framing_lines answer shape size in
      let b = connection_lines minor answer.in_camel_case kind in
      let c = filter (is_sent answer shape) (by_name answer.headers) in
      let d = date_lines (has_header (codes "date") answer.headers) now in
      values-append name a (b ++ (c ++ d)) ∙ ap₂ (λ x y. x ++ y) framing
      (values-append name b (c ++ d) ∙ ap₂ (λ x y. x ++ y) (connection_other minor answer.in_camel_case kind name (eq_sym (codes "connection") name ∙ connection))
      (values-append name c d ∙ ap (λ l. l ++ V d) (all_kept answer shape kept (by_name answer.headers) ∙ by_name_values answer.headers)))

  -- a 304 sends all lines of its own but those of the connection
  pub kept_values : (minor : ℕ) (answer : AnswerHead) (shape : Shape) (size : BodySize) (kind : ConnectionType) (now : ℕ) → answer.status ≡ 304
      → bytes_eq name (codes "connection") ≡ false → bytes_eq name (codes "date") ≡ false
      → values_of name (written_lines minor answer shape size kind now) ≡ values_of name answer.headers
  kept_values minor answer shape size kind now is connection date =
      let has = has_header (codes "date") answer.headers in
      let none : V (framing_lines answer shape size) ≡ [] = ap (λ n. V (cond (is_bodiless n) [] (size_lines shape size))) is in
      let kept : (h : Header) → bytes_eq h.name name ≡ true → is_sent answer shape h ≡ true = λ h named.
      let other : bytes_eq h.name (codes "connection") ≡ false = ap (λ n. bytes_eq n (codes "connection")) (same_name h.name name named) ∙ connection in
      let framing = bytes_eq h.name (codes "content-length") || bytes_eq h.name (codes "transfer-encoding") in
      let own : (not framing || eqb answer.status 304) ≡ true = last_true (not framing) (eqb answer.status 304) (eq-eqb answer.status 304 is) in
      (λ i. not (other i) && (own i || (is_raw shape && not (eqb answer.status 101)))) in
      written_values minor answer shape size kind now connection none kept
      ∙ ap (λ l. V answer.headers ++ l) (date_other has now name (eq_sym (codes "date") name ∙ date)) ∙ append-nil (V answer.headers)

  module _ (connection : bytes_eq name (codes "connection") ≡ false) (no_length : bytes_eq name (codes "content-length") ≡ false)
      (no_coding : bytes_eq name (codes "transfer-encoding") ≡ false) where
    -- no header of the name is dropped
    kept : (answer : AnswerHead) (shape : Shape) (h : Header) → bytes_eq h.name name ≡ true → is_sent answer shape h ≡ true
    kept answer shape h is =
        let same = same_name h.name name is in
        let a : bytes_eq h.name (codes "connection") ≡ false = ap (λ n. bytes_eq n (codes "connection")) same ∙ connection in
        let b : bytes_eq h.name (codes "content-length") ≡ false = ap (λ n. bytes_eq n (codes "content-length")) same ∙ no_length in
        let c : bytes_eq h.name (codes "transfer-encoding") ≡ false = ap (λ n. bytes_eq n (codes "transfer-encoding")) same ∙ no_coding in
        (λ i. not (a i) && (not (b i || c i) || eqb answer.status 304 || (is_raw shape && not (eqb answer.status 101))))

    size_other : (shape : Shape) (size : BodySize) → V (size_lines shape size) ≡ []
    size_other shape size_none = refl
    size_other shape (size_of n) = one_other name (line_of (codes "content-length") (decimal n)) (eq_sym (codes "content-length") name ∙ no_length)
    size_other shape_chunked size_stream = one_other name (line_of (codes "transfer-encoding") (codes "chunked")) (eq_sym (codes "transfer-encoding") name ∙ no_coding)
    size_other shape_none size_stream = refl
    size_other (shape_length n) size_stream = refl
    size_other shape_raw size_stream = refl

    framing_other : (answer : AnswerHead) (shape : Shape) (size : BodySize) → V (framing_lines answer shape size) ≡ []
    framing_other answer shape size = by_test (is_bodiless answer.status)
      where
        by_test : (t : Bool) → V (cond t [] (size_lines shape size)) ≡ []
        by_test true = refl
        by_test false = size_other shape size

    -- where the name isn't that of the date, or the head has a date of its own
    pub given_values : (minor : ℕ) (answer : AnswerHead) (shape : Shape) (size : BodySize) (kind : ConnectionType) (now : ℕ)
        → (bytes_eq name (codes "date") ≡ false) ⊎ (has_header (codes "date") answer.headers ≡ true)
        → values_of name (written_lines minor answer shape size kind now) ≡ values_of name answer.headers
    given_values minor answer shape size kind now own =
        let has = has_header (codes "date") answer.headers in
        let none : V (date_lines has now) ≡ [] = elim own [
          | inl other ↦ date_other has now name (eq_sym (codes "date") name ∙ other)
          | inr is ↦ ap (λ t. V (date_lines t now)) is
        ] in
        written_values minor answer shape size kind now connection (framing_other answer shape size) (kept answer shape) ∙ ap (λ l. V answer.headers ++ l) none ∙ append-nil (V answer.headers)

-- a head without a date has none of its own
no_date : (hs : List Header) → has_header (codes "date") hs ≡ false → values_of (codes "date") hs ≡ []
no_date [] none = refl
no_date (h ∷ hs) none = by_test (bytes_eq h.name (codes "date")) refl none (no_date hs)
  where
    by_test : (t : Bool) → bytes_eq h.name (codes "date") ≡ t → (t || has_header (codes "date") hs) ≡ false → (has_header (codes "date") hs ≡ false → values_of (codes "date") hs ≡ [])
        → values_of (codes "date") (h ∷ hs) ≡ []
    by_test true is none others = absurd (false≢true (sym none))
    by_test false is none others = values-append (codes "date") (h ∷ []) hs ∙ ap₂ (λ a b. a ++ b) (one_other (codes "date") h is) (others none)

-- then the date is that of the moment
pub date_given : (minor : ℕ) (answer : AnswerHead) (shape : Shape) (size : BodySize) (kind : ConnectionType) (now : ℕ) → has_header (codes "date") answer.headers ≡ false
    → values_of (codes "date") (written_lines minor answer shape size kind now) ≡ date_of (now / 1000) ∷ []
date_given minor answer shape size kind now none =
    written_values (codes "date") minor answer shape size kind now refl (framing_other (codes "date") refl refl refl answer shape size) (kept (codes "date") refl refl refl answer shape)
    ∙ ap₂ (λ (a b : List (List ℕ)). a ++ b) (no_date answer.headers none) (ap (λ t. values_of (codes "date") (date_lines t now)) none ∙ one_value (codes "date") (line_of (codes "date") (date_of (now / 1000))) refl)
