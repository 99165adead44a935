-- What `retain` leaves of a map, by the answers of its closure.
use Rattle.std.proofs.Common.{◌≡◌, ℕ, ◌+◌, ◌<◌, ◌≤◌, Bool, true, false, cond, if◌then◌else◌, filter, List, [], ◌∷◌, length, All, IsTrue, Bor, refl, ap, ◌∙◌, subst, arith}
use Rattle.std.specs.List.{items_where_true}
use Rattle.std.specs.List.Retain.{ReturnsInTurn, RetainsInTurn, IsFiltered}
use Rattle.std.specs.Map.Calls.{RetainsPairs}
use Rattle.http_header.specs.FieldValue.{FieldValue}
use Rattle.http_map.specs.HeaderMap.{Entry, Entries, IsEntry, value_count, filled_first, retain}
use Rattle.http_map.specs.Retain.{MayAnswer, KeepsValues, Retains, Computes}
use Rattle.http_map.proofs.MapLemmas.{entries_cons, first_entry, later_entries, with_values}

-- a vector's `retain` with a closure that keeps no state
module _ {F : Type 0} (R : F → FieldValue → Bool → F → Type 0) (answers : FieldValue → Bool → Type 0) (f : F)
    (says : (v : FieldValue) (b : Bool) (g : F) → R f v b g → answers v b × (g ≡ f)) where
  keeps_told : (bs : List Bool) (vs : List FieldValue) (g q : F) → g ≡ f → length bs ≡ length vs → ReturnsInTurn R g bs vs q → KeepsValues answers vs (items_where_true bs vs)
  keeps_told [] [] g q same many told = refl
  keeps_told [] (v ∷ vs) g q same many told = absurd (omega (arith, many))
  keeps_told (b ∷ bs) [] g q same many told = absurd told
  keeps_told (b ∷ bs) (v ∷ vs) g q same many told =
      let one = says v b told.0 (subst (λ h. R h v b told.0) same told.1) in
      let split : items_where_true (b ∷ bs) (v ∷ vs) ≡ (if b then v ∷ items_where_true bs vs else items_where_true bs vs) = elim b as (λ c. items_where_true (c ∷ bs) (v ∷ vs) ≡ (if c then v ∷ items_where_true bs vs else items_where_true bs vs)) [ true ↦ refl | false ↦ refl ] in
      (b, items_where_true bs vs, one.0, keeps_told bs vs told.0 q one.1 (omega (arith, many)) told.2, split)

  pub KeepsValues-IsFiltered : (vs kept : List FieldValue) → IsFiltered R f vs kept → KeepsValues answers vs kept
  KeepsValues-IsFiltered vs kept h = rw h.4 (keeps_told h.0 vs f h.1 refl h.2 h.3)

module _ (answers : FieldValue → Bool → Type 0) where
  length-KeepsValues : (vs kept : List FieldValue) → KeepsValues answers vs kept → length kept ≤ length vs
  length-KeepsValues [] kept h = rw h (omega arith)
  length-KeepsValues (v ∷ vs) kept h =
      let rest = length-KeepsValues vs h.1 h.3 in
      rw h.4 (elim h.0 as (λ b. length (if b then v ∷ h.1 else h.1) ≤ length (v ∷ vs)) [ true ↦ omega (arith, rest) | false ↦ omega (arith, rest) ])

  filter-KeepsValues : (test : FieldValue → Bool) (says : (v : FieldValue) (b : Bool) → answers v b → b ≡ test v) (vs kept : List FieldValue) → KeepsValues answers vs kept → kept ≡ filter test vs
  filter-KeepsValues test says [] kept h = h
  filter-KeepsValues test says (v ∷ vs) kept h =
      h.4 ∙ ap (λ b. if b then v ∷ h.1 else h.1) (says v h.0 h.2) ∙ ap (λ rest. if test v then v ∷ rest else rest) (filter-KeepsValues test says vs h.1 h.3)

-- the names and values of the `IndexMap`
module _ {F : Type 0} (T : F → List ℕ → List FieldValue → Bool → List FieldValue → F → Type 0) (answers : List ℕ → FieldValue → Bool → Type 0) (f : F)
    (says : (k : List ℕ) (v : List FieldValue) (b : Bool) (w : List FieldValue) (g : F) → T f k v b w g → (IsTrue b → 0 < length w) × KeepsValues (answers k) v (if b then w else []) × (g ≡ f)) where
  -- a name stays exactly where values of it are left
  kept_name : (kept : Bool) (name : List ℕ) (values : List FieldValue) (m : Entries) → (IsTrue kept → 0 < length values) → cond kept ((name, values) ∷ m) m ≡ filled_first name (if kept then values else []) m
  kept_name true name [] m filled = absurd (omega (arith, filled refl))
  kept_name true name (v ∷ vs) m filled = refl
  kept_name false name values m filled = refl

  pub Retains-RetainsPairs : (m kept : Entries) → RetainsPairs T f m kept → Retains answers m kept
  Retains-RetainsPairs [] kept h = h
  Retains-RetainsPairs (e ∷ m) kept h =
      let s = says e.0 e.1 h.0 h.1 h.2 h.4 in
      let rest = Retains-RetainsPairs m h.3 (subst (λ g. RetainsPairs T g m h.3) s.2 h.5) in
      ((if h.0 then h.1 else []), h.3, s.1, rest, h.6 ∙ kept_name h.0 e.0 h.1 h.3 s.0)

-- the same of a list of names with their values
module _ {F : Type 0} (T : F → Entry → Bool → F → Entry → Type 0) (answers : List ℕ → FieldValue → Bool → Type 0) (f : F)
    (says : (e : Entry) (b : Bool) (g : F) (w : Entry) → T f e b g w → (w.0 ≡ e.0) × (IsTrue b → 0 < length w.1) × KeepsValues (answers e.0) e.1 (if b then w.1 else []) × (g ≡ f)) where
  kept_entry : (kept : Bool) (name : List ℕ) (e : Entry) (m : Entries) → e.0 ≡ name → (IsTrue kept → 0 < length e.1) → cond kept (e ∷ m) m ≡ filled_first name (if kept then e.1 else []) m
  kept_entry true name (key, []) m same filled = absurd (omega (arith, filled refl))
  kept_entry true name (key, v ∷ vs) m same filled = ap (λ n. (n, v ∷ vs) ∷ m) same
  kept_entry false name e m same filled = refl

  pub Retains-RetainsInTurn : (m kept : Entries) → RetainsInTurn T f m kept → Retains answers m kept
  Retains-RetainsInTurn [] kept h = h
  Retains-RetainsInTurn (e ∷ m) kept h =
      let s = says e h.0 h.1 h.2 h.3 in
      let rest = Retains-RetainsInTurn m h.4 (subst (λ g. RetainsInTurn T g m h.4) s.3 h.5) in
      ((if h.0 then h.2.1 else []), h.4, s.2, rest, h.6 ∙ kept_entry h.0 e.0 h.2 h.4 s.0 s.1)

module _ (answers : List ℕ → FieldValue → Bool → Type 0) where
  value_count-filled_first : (name : List ℕ) (vs : List FieldValue) (m : Entries) → value_count (filled_first name vs m) ≡ length vs + value_count m
  value_count-filled_first name [] m = omega arith
  value_count-filled_first name (v ∷ vs) m = refl

  pub value_count-Retains : (m kept : Entries) → Retains answers m kept → value_count kept ≤ value_count m
  value_count-Retains [] kept h = rw h (omega arith)
  value_count-Retains (e ∷ m) kept h =
      rw (h.4, value_count-filled_first e.0 h.0 h.1) (omega (arith, length-KeepsValues (answers e.0) e.1 h.0 h.2, value_count-Retains m h.1 h.3))

  entries-filled_first : (e : Entry) (vs : List FieldValue) (m : Entries) → IsEntry e → All IsEntry m → All IsEntry (filled_first e.0 vs m)
  entries-filled_first e [] m is all = all
  entries-filled_first e (v ∷ vs) m is all = entries_cons (e.0, v ∷ vs) m (with_values e (v ∷ vs) is (omega arith)) all

  pub entries-Retains : (m kept : Entries) → All IsEntry m → Retains answers m kept → All IsEntry kept
  entries-Retains [] kept all h = rw h all
  entries-Retains (e ∷ m) kept all h =
      rw h.4 (entries-filled_first e h.0 h.1 (first_entry e m all) (entries-Retains m h.1 (later_entries e m all) h.3))

-- a closure that computes a test leaves what passes it
pub retain-Retains : (answers : Bor (List ℕ) → Bor FieldValue → Bool → Type 0) (test : List ℕ → FieldValue → Bool) → Computes answers test → (m kept : Entries) → Retains (MayAnswer answers) m kept → kept ≡ retain test m
retain-Retains answers test computes [] kept h = h
retain-Retains answers test computes (e ∷ m) kept h =
    let says : (v : FieldValue) (b : Bool) → MayAnswer answers e.0 v b → b ≡ test e.0 v = λ v b a. computes a.shown_name a.shown_value b a.answered ∙ ap (λ n. test n a.shown_value.now) a.is_name ∙ ap (test e.0) a.is_value in
    h.4 ∙ ap (λ vs. filled_first e.0 vs h.1) (filter-KeepsValues (MayAnswer answers e.0) (test e.0) says e.1 h.0 h.2) ∙ ap (filled_first e.0 (filter (test e.0) e.1)) (retain-Retains answers test computes m h.1 h.3)
