-- The lines of a map: behind a name that is removed, and where the map is that of a head's lines.
use Rattle.std.proofs.Common.{◌≡◌, ℕ, ◌<◌, Bool, true, false, not, cond, if◌then◌else◌, List, [], ◌∷◌, ◌++◌, length, map, filter, fold, flat_map, bytes_eq, refl, sym, ap, ap₂, ◌∙◌, subst, arith, append-nil}
use Rattle.std.specs.Prelude.{◌||◌}
use Rattle.std.specs.List.{IsDistinct, AllByRecursion}
use Rattle.std.proofs.lemmas.Bool.{cond-true, cond-false}
use Rattle.std.proofs.lemmas.Bool.Decides.{same_from_decides, Decides-like}
use Rattle.std.proofs.lemmas.List.{map-append}
use Rattle.std.proofs.lemmas.List.Elements.{filter-append}
use Rattle.std.proofs.lemmas.List.Sums.{fold-append}
use Rattle.std.proofs.lemmas.Slice.Eq.{bytes_eq-Decides}
use Rattle.http_header.specs.FieldValue.{FieldValue, plain_value}
use Rattle.http_map.specs.HeaderMap.{Entry, Entries, keys, get_all, append, remove, IsHeaderMap}
use Rattle.http_map.proofs.CallerLemmas.{same_bytes}
use Rattle.http_map.proofs.DistinctLemmas.{IsDistinct-none, IsDistinct-append}
use Rattle.http_framing.specs.HeaderLines.{header_map}
use Rattle.model_h1.specs.Request.{Header}
use Rattle.model_h1.specs.LengthTable.{values_of}
use Rattle.model_h1.specs.AnswerText.{appended, by_name}
use Rattle.h1_encoder.specs.Meaning.{lines_of, headers_of}
use Rattle.h1_encoder.proofs.ByName.{AreFilled, all_filled, by_name-map}
use Rattle.model_ends.proofs.Framing.{values-append}
use Rattle.model_proxy.specs.HopNames.{is_among, without}
use Rattle.proxy_heads.proofs.Groups.{groups_all}

eq_sym : (a b : List ℕ) → bytes_eq a b ≡ bytes_eq b a
eq_sym a b = same_from_decides (bytes_eq a b) (bytes_eq b a) (bytes_eq-Decides a b) (Decides-like (bytes_eq b a) sym sym (bytes_eq-Decides b a))

or_false : (t : Bool) → (t || false) ≡ t
or_false true = refl
or_false false = refl

-- ---- lines that are kept by their names

module _ (keep : List ℕ → Bool) where
  abbrev Lines : List Header → List Header
  Lines hs = filter (λ (h : Header). keep h.name) hs

  abbrev Names : Entries → Entries
  Names m = filter (λ (e : Entry). keep e.0) m

  -- of one name all lines are kept, or none
  one_kept : (name : List ℕ) (values : List FieldValue) → keep name ≡ true → Lines (lines_of (name, values)) ≡ lines_of (name, values)
  one_kept name [] is = refl
  one_kept name (v ∷ values) is =
      cond-true (keep name) _ _ is ∙ ap (λ (l : List Header). record { name = name; value = v.bytes } ∷ l) (one_kept name values is)

  one_dropped : (name : List ℕ) (values : List FieldValue) → keep name ≡ false → Lines (lines_of (name, values)) ≡ []
  one_dropped name [] is = refl
  one_dropped name (v ∷ values) is = cond-false (keep name) _ _ is ∙ one_dropped name values is

  pub names_kept : (m : Entries) → headers_of (Names m) ≡ Lines (headers_of m)
  names_kept [] = refl
  names_kept (e ∷ m) = by_test (keep e.0) refl (names_kept m)
    where
      cut : Lines (headers_of (e ∷ m)) ≡ Lines (lines_of e) ++ Lines (headers_of m)
      cut = filter-append (λ (h : Header). keep h.name) (lines_of e) (headers_of m)

      by_test : (t : Bool) → keep e.0 ≡ t → headers_of (Names m) ≡ Lines (headers_of m) → headers_of (Names (e ∷ m)) ≡ Lines (headers_of (e ∷ m))
      by_test true is others =
          ap headers_of (cond-true (keep e.0) (e ∷ Names m) (Names m) is)
          ∙ (λ i. sym (one_kept e.0 e.1 is) i ++ others i) ∙ sym cut
      by_test false is others =
          ap headers_of (cond-false (keep e.0) (e ∷ Names m) (Names m) is) ∙ others
          ∙ ap (λ (l : List Header). l ++ Lines (headers_of m)) (sym (one_dropped e.0 e.1 is)) ∙ sym cut

  -- a line more
  append_kept : (name : List ℕ) (v : FieldValue) (m : Entries)
      → Names (append m name v) ≡ (if keep name then append (Names m) name v else Names m)
  append_kept name v [] = by_test (keep name)
    where
      one : Entries
      one = (name, v ∷ []) ∷ []

      by_test : (t : Bool) → cond t one [] ≡ (if t then one else [])
      by_test true = refl
      by_test false = refl
  append_kept name v (e ∷ m) = by_name_test (bytes_eq name e.0) refl (append_kept name v m)
    where
      grown : Entry
      grown = (e.0, e.1 ++ v ∷ [])

      by_name_test : (t : Bool) → bytes_eq name e.0 ≡ t → Names (append m name v) ≡ (if keep name then append (Names m) name v else Names m)
          → Names (append (e ∷ m) name v) ≡ (if keep name then append (Names (e ∷ m)) name v else Names (e ∷ m))
      by_name_test true is others =
          ap Names (cond-true (bytes_eq name e.0) (grown ∷ m) (e ∷ append m name v) is) ∙ by_keep (keep e.0) refl
        where
          same : keep name ≡ keep e.0
          same = ap keep (same_bytes name e.0 is)

          by_keep : (k : Bool) → keep e.0 ≡ k → Names (grown ∷ m) ≡ (if keep name then append (Names (e ∷ m)) name v else Names (e ∷ m))
          by_keep true kept =
              cond-true (keep e.0) (grown ∷ Names m) (Names m) kept
              ∙ sym (cond-true (keep name) _ (Names (e ∷ m)) (same ∙ kept)
              ∙ ap (λ (l : Entries). append l name v) (cond-true (keep e.0) (e ∷ Names m) (Names m) kept)
              ∙ cond-true (bytes_eq name e.0) (grown ∷ Names m) (e ∷ append (Names m) name v) is)
          by_keep false dropped =
              cond-false (keep e.0) (grown ∷ Names m) (Names m) dropped
              ∙ sym (cond-false (keep name) (append (Names (e ∷ m)) name v) (Names (e ∷ m)) (same ∙ dropped)
              ∙ cond-false (keep e.0) (e ∷ Names m) (Names m) dropped)
      by_name_test false is others =
          ap Names (cond-false (bytes_eq name e.0) (grown ∷ m) (e ∷ append m name v) is) ∙ by_keep (keep e.0) refl
        where
          by_keep : (k : Bool) → keep e.0 ≡ k → Names (e ∷ append m name v) ≡ (if keep name then append (Names (e ∷ m)) name v else Names (e ∷ m))
          by_keep true kept =
              cond-true (keep e.0) (e ∷ Names (append m name v)) (Names (append m name v)) kept
              ∙ ap (λ (l : Entries). e ∷ l) others ∙ by_own (keep name)
            where
              there : Names (e ∷ m) ≡ e ∷ Names m
              there = cond-true (keep e.0) (e ∷ Names m) (Names m) kept

              by_own : (k : Bool) → e ∷ (if k then append (Names m) name v else Names m) ≡ (if k then append (Names (e ∷ m)) name v else Names (e ∷ m))
              by_own true =
                  sym (ap (λ (l : Entries). append l name v) there
                  ∙ cond-false (bytes_eq name e.0) (grown ∷ Names m) (e ∷ append (Names m) name v) is)
              by_own false = sym there
          by_keep false dropped =
              cond-false (keep e.0) (e ∷ Names (append m name v)) (Names (append m name v)) dropped ∙ others
              ∙ ap (λ (l : Entries). if keep name then append l name v else l) (sym (cond-false (keep e.0) (e ∷ Names m) (Names m) dropped))

  abbrev put : Entries → Header → Entries
  put m h = append m h.name (plain_value h.value)

  -- the map of the lines that are kept
  put_kept : (hs : List Header) (m : Entries) → fold put (Names m) (Lines hs) ≡ Names (fold put m hs)
  put_kept [] m = refl
  put_kept (h ∷ hs) m = by_test (keep h.name) refl (put_kept hs (put m h))
    where
      by_test : (t : Bool) → keep h.name ≡ t → fold put (Names (put m h)) (Lines hs) ≡ Names (fold put (put m h) hs)
          → fold put (Names m) (Lines (h ∷ hs)) ≡ Names (fold put (put m h) hs)
      by_test true is others =
          ap (fold put (Names m)) (cond-true (keep h.name) (h ∷ Lines hs) (Lines hs) is)
          ∙ ap (λ (l : Entries). fold put l (Lines hs))
          (sym (append_kept h.name (plain_value h.value) m ∙ cond-true (keep h.name) (put (Names m) h) (Names m) is))
          ∙ others
      by_test false is others =
          ap (fold put (Names m)) (cond-false (keep h.name) (h ∷ Lines hs) (Lines hs) is)
          ∙ ap (λ (l : Entries). fold put l (Lines hs))
          (sym (append_kept h.name (plain_value h.value) m ∙ cond-false (keep h.name) (put (Names m) h) (Names m) is))
          ∙ others

-- ---- the lines of a map of lines

append_filled : (name : List ℕ) (v : FieldValue) (m : Entries) → AreFilled m → AreFilled (append m name v)
append_filled name v [] filled = (omega arith, tt)
append_filled name v (e ∷ m) filled = by_test (bytes_eq name e.0) (append_filled name v m filled.1)
  where
    longer : (xs : List FieldValue) → 0 < length xs → 0 < length (xs ++ v ∷ [])
    longer [] none = omega arith
    longer (x ∷ xs) some = omega arith

    by_test : (t : Bool) → AreFilled (append m name v) → AreFilled (cond t ((e.0, e.1 ++ v ∷ []) ∷ m) (e ∷ append m name v))
    by_test true others = (longer e.1 filled.0, filled.1)
    by_test false others = (filled.0, others)

append_lines : (own : List ℕ) (w : FieldValue) (m : Entries) → AreFilled m
    → map lines_of (append m own w) ≡ appended (map lines_of m) (record { name = own; value = w.bytes })
unfolding appended
append_lines own w [] filled = refl
append_lines own w ((name, []) ∷ m) filled = absurd (omega (arith, filled.0))
append_lines own w ((name, v ∷ values) ∷ m) filled = by_test (bytes_eq own name) refl (append_lines own w m filled.1)
  where
    h : Header
    h = record { name = own; value = w.bytes }

    first : Header
    first = record { name = name; value = v.bytes }

    group : List Header
    group = lines_of (name, values)

    by_test : (t : Bool) → bytes_eq own name ≡ t → map lines_of (append m own w) ≡ appended (map lines_of m) h
        → map lines_of (append ((name, v ∷ values) ∷ m) own w) ≡ appended (map lines_of ((name, v ∷ values) ∷ m)) h
    by_test true is others =
        let same : lines_of (name, w ∷ []) ≡ h ∷ [] = ap (λ (n : List ℕ). lines_of (n, w ∷ [])) (sym (same_bytes own name is)) in
        ap (map lines_of) (cond-true (bytes_eq own name) ((name, (v ∷ values) ++ w ∷ []) ∷ m) ((name, v ∷ values) ∷ append m own w) is)
        ∙ ap (λ (l : List Header). (first ∷ l) ∷ map lines_of m)
        (map-append (λ (x : FieldValue). record { name = name; value = x.bytes }) values (w ∷ []) ∙ ap (λ (l : List Header). group ++ l) same)
        ∙ sym (cond-true (bytes_eq name own) ((first ∷ (group ++ h ∷ [])) ∷ map lines_of m) ((first ∷ group) ∷ appended (map lines_of m) h)
        (eq_sym name own ∙ is))
    by_test false is others =
        ap (map lines_of) (cond-false (bytes_eq own name) ((name, (v ∷ values) ++ w ∷ []) ∷ m) ((name, v ∷ values) ∷ append m own w) is)
        ∙ ap (λ (l : List (List Header)). (first ∷ group) ∷ l) others
        ∙ sym (cond-false (bytes_eq name own) ((first ∷ (group ++ h ∷ [])) ∷ map lines_of m) ((first ∷ group) ∷ appended (map lines_of m) h)
        (eq_sym name own ∙ is))

put_lines : (hs : List Header) (m : Entries) → AreFilled m
    → map lines_of (fold (λ entries header. append entries header.name (plain_value header.value)) m hs) ≡ fold appended (map lines_of m) hs
put_lines [] m filled = refl
put_lines (h ∷ hs) m filled =
    put_lines hs (append m h.name (plain_value h.value)) (append_filled h.name (plain_value h.value) m filled)
    ∙ ap (λ (groups : List (List Header)). fold appended groups hs) (append_lines h.name (plain_value h.value) m filled)

flattened : (m : Entries) → flat_map (λ group. group) (map lines_of m) ≡ headers_of m
flattened [] = refl
flattened (e ∷ m) = ap (λ (l : List Header). lines_of e ++ l) (flattened m)

-- the lines of a head in a map stand name by name
pub map_lines : (hs : List Header) → headers_of (header_map hs) ≡ by_name hs
map_lines hs = sym (flattened (header_map hs)) ∙ ap (flat_map (λ (group : List Header). group)) (put_lines hs [] tt)

-- ---- lines that are added

-- the groups of lines that are put name by name
abbrev groups : List Header → List (List Header)
groups hs = fold appended [] hs

abbrev flat : List (List Header) → List Header
flat gs = flat_map (λ (group : List Header). group) gs

put_distinct : (hs : List Header) (m : Entries) → IsDistinct bytes_eq (keys m)
    → IsDistinct bytes_eq (keys (fold (λ entries header. append entries header.name (plain_value header.value)) m hs))
put_distinct [] m distinct = distinct
put_distinct (h ∷ hs) m distinct =
    put_distinct hs (append m h.name (plain_value h.value)) (IsDistinct-append h.name (plain_value h.value) m distinct)

put_filled : (hs : List Header) (m : Entries) → AreFilled m → AreFilled (fold (λ entries header. append entries header.name (plain_value header.value)) m hs)
put_filled [] m filled = filled
put_filled (h ∷ hs) m filled = put_filled hs (append m h.name (plain_value h.value)) (append_filled h.name (plain_value h.value) m filled)

-- no name stands twice in the map of a head's lines
pub map_distinct : (hs : List Header) → IsDistinct bytes_eq (keys (header_map hs))
map_distinct hs = put_distinct hs [] IsDistinct-none

-- lines that stand name by name already are in the same groups
same_groups : (hs : List Header) → groups (by_name hs) ≡ groups hs
same_groups hs =
    ap groups (sym (map_lines hs)) ∙ groups_all [] (header_map hs) (map_distinct hs) (put_filled hs [] tt) ∙ put_lines hs [] tt

-- so lines may be put name by name before others are added behind them
pub absorbed : (a b : List Header) → by_name (by_name a ++ b) ≡ by_name (a ++ b)
absorbed a b =
    ap flat (fold-append appended [] (by_name a) b ∙ ap (λ (gs : List (List Header)). fold appended gs b) (same_groups a)
    ∙ sym (fold-append appended [] a b))

-- a line more in a map
pub put_one : (m : Entries) (name : List ℕ) (v : FieldValue) → IsHeaderMap m
    → headers_of (append m name v) ≡ by_name (headers_of m ++ record { name = name; value = v.bytes } ∷ [])
put_one m name v is =
    let filled = all_filled m is.entries in
    let line : Header = record { name = name; value = v.bytes } in
    sym (flattened (append m name v)) ∙ ap flat (append_lines name v m filled)
    ∙ ap (λ (gs : List (List Header)). flat (appended gs line)) (sym (groups_all [] m is.distinct filled))
    ∙ ap flat (sym (fold-append appended [] (headers_of m) (line ∷ [])))

-- and more behind those
pub then_put : (all some more new : List Header) → some ≡ by_name all → new ≡ by_name (some ++ more) → new ≡ by_name (all ++ more)
then_put all some more new before e = e ∙ ap (λ (l : List Header). by_name (l ++ more)) before ∙ absorbed all more

-- none more
pub put_none : (m : Entries) → IsHeaderMap m → headers_of m ≡ by_name (headers_of m ++ [])
put_none m is = sym (ap by_name (append-nil (headers_of m)) ∙ by_name-map m is)

-- lines may be dropped before they are put name by name, or behind that
pub by_name-without : (names : List (List ℕ)) (hs : List Header) → by_name (without names hs) ≡ without names (by_name hs)
by_name-without names hs =
    let keep : List ℕ → Bool = λ n. not (is_among n names) in
    sym (map_lines (without names hs)) ∙ ap headers_of (put_kept keep hs []) ∙ names_kept keep (header_map hs) ∙ ap (without names) (map_lines hs)

-- ---- a name that is removed

module _ (name : List ℕ) where
  keeps : List ℕ → Bool
  keeps n = not (is_among n (name ∷ []))

  abbrev kept : Entries → Entries
  kept m = filter (λ (e : Entry). not (is_among e.0 (name ∷ []))) m

  is_this : (n : List ℕ) (t : Bool) → bytes_eq name n ≡ t → is_among n (name ∷ []) ≡ t
  is_this n t is = or_false (bytes_eq n name) ∙ eq_sym n name ∙ is

  -- all names are others
  all_others : (m : Entries) → AllByRecursion (λ (k : List ℕ). bytes_eq name k ≡ false) (keys m) → kept m ≡ m
  all_others [] others = refl
  all_others (e ∷ m) others =
      cond-true (not (is_among e.0 (name ∷ []))) (e ∷ kept m) (kept m) (ap not (is_this e.0 false others.0))
      ∙ ap (λ (l : Entries). e ∷ l) (all_others m others.1)

  removed : (m : Entries) → IsDistinct bytes_eq (keys m) → remove m name ≡ kept m
  unfolding IsDistinct
  removed [] distinct = refl
  removed (e ∷ m) distinct = by_test (bytes_eq name e.0) refl (removed m distinct.1)
    where
      by_test : (t : Bool) → bytes_eq name e.0 ≡ t → remove m name ≡ kept m → remove (e ∷ m) name ≡ kept (e ∷ m)
      by_test true is others =
          let apart : AllByRecursion (λ (k : List ℕ). bytes_eq name k ≡ false) (keys m) =
          subst (λ (n : List ℕ). AllByRecursion (λ (k : List ℕ). bytes_eq n k ≡ false) (keys m)) (sym (same_bytes name e.0 is)) distinct.0 in
          cond-true (bytes_eq name e.0) m (e ∷ remove m name) is ∙ sym (all_others m apart)
          ∙ sym (cond-false (not (is_among e.0 (name ∷ []))) (e ∷ kept m) (kept m) (ap not (is_this e.0 true is)))
      by_test false is others =
          cond-false (bytes_eq name e.0) m (e ∷ remove m name) is ∙ ap (λ (l : Entries). e ∷ l) others
          ∙ sym (cond-true (not (is_among e.0 (name ∷ []))) (e ∷ kept m) (kept m) (ap not (is_this e.0 false is)))

  -- its lines are gone
  pub removed_lines : (m : Entries) → IsDistinct bytes_eq (keys m) → headers_of (remove m name) ≡ without (name ∷ []) (headers_of m)
  removed_lines m distinct = ap headers_of (removed m distinct) ∙ names_kept (λ n. not (is_among n (name ∷ []))) m

  -- ---- the values of a name

  lines_values : (n : List ℕ) (values : List FieldValue) (t : Bool) → bytes_eq n name ≡ t
      → values_of name (lines_of (n, values)) ≡ (if t then map (λ (v : FieldValue). v.bytes) values else [])
  lines_values n [] true is = refl
  lines_values n [] false is = refl
  lines_values n (v ∷ values) true is =
      ap (map (λ (h : Header). h.value)) (cond-true (bytes_eq n name) _ _ is) ∙ ap (λ (l : List (List ℕ)). v.bytes ∷ l) (lines_values n values true is)
  lines_values n (v ∷ values) false is =
      ap (map (λ (h : Header). h.value)) (cond-false (bytes_eq n name) _ _ is) ∙ lines_values n values false is

  no_values : (m : Entries) → AllByRecursion (λ (k : List ℕ). bytes_eq name k ≡ false) (keys m) → values_of name (headers_of m) ≡ []
  no_values [] others = refl
  no_values (e ∷ m) others =
      values-append name (lines_of e) (headers_of m)
      ∙ ap₂ (λ (a b : List (List ℕ)). a ++ b) (lines_values e.0 e.1 false (eq_sym e.0 name ∙ others.0)) (no_values m others.1)

  pub map_values : (m : Entries) → IsDistinct bytes_eq (keys m) → values_of name (headers_of m) ≡ map (λ (v : FieldValue). v.bytes) (get_all m name)
  unfolding IsDistinct
  map_values [] distinct = refl
  map_values (e ∷ m) distinct = by_test (bytes_eq name e.0) refl (map_values m distinct.1)
    where
      both : values_of name (headers_of (e ∷ m)) ≡ values_of name (lines_of e) ++ values_of name (headers_of m)
      both = values-append name (lines_of e) (headers_of m)

      by_test : (t : Bool) → bytes_eq name e.0 ≡ t → values_of name (headers_of m) ≡ map (λ (v : FieldValue). v.bytes) (get_all m name)
          → values_of name (headers_of (e ∷ m)) ≡ map (λ (v : FieldValue). v.bytes) (get_all (e ∷ m) name)
      by_test true is others =
          let apart : AllByRecursion (λ (k : List ℕ). bytes_eq name k ≡ false) (keys m) =
          subst (λ (n : List ℕ). AllByRecursion (λ (k : List ℕ). bytes_eq n k ≡ false) (keys m)) (sym (same_bytes name e.0 is)) distinct.0 in
          both ∙ ap₂ (λ (a b : List (List ℕ)). a ++ b) (lines_values e.0 e.1 true (eq_sym e.0 name ∙ is)) (no_values m apart)
          ∙ append-nil (map (λ (v : FieldValue). v.bytes) e.1)
          ∙ ap (map (λ (v : FieldValue). v.bytes)) (sym (cond-true (bytes_eq name e.0) e.1 (get_all m name) is))
      by_test false is others =
          both ∙ ap₂ (λ (a b : List (List ℕ)). a ++ b) (lines_values e.0 e.1 false (eq_sym e.0 name ∙ is)) others
          ∙ ap (map (λ (v : FieldValue). v.bytes)) (sym (cond-false (bytes_eq name e.0) e.1 (get_all m name) is))
