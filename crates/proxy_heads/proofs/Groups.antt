-- The groups of a map's lines, as they are put name by name, are those of its entries.
use Rattle.std.proofs.Common.{◌≡◌, ℕ, ◌<◌, Bool, true, false, if◌then◌else◌, List, [], ◌∷◌, ◌++◌, length, map, refl, sym, ap, ◌∙◌, subst, arith, append_assoc}
use Rattle.std.specs.Prelude.{bytes_eq, fold}
use Rattle.std.specs.List.{IsDistinct, AllByRecursion}
use Rattle.std.proofs.lemmas.List.{append-nil, map-append}
use Rattle.std.proofs.lemmas.List.Sums.{fold-append}
use Rattle.std.proofs.lemmas.Slice.Eq.{bytes_eq-Decides}
use Rattle.http_header.specs.FieldValue.{FieldValue}
use Rattle.http_map.specs.HeaderMap.{Entry, Entries, keys}
use Rattle.model_h1.specs.Request.{Header}
use Rattle.model_h1.specs.AnswerText.{appended}
use Rattle.h1_encoder.specs.Meaning.{lines_of, headers_of}
use Rattle.h1_encoder.proofs.ByName.{AreFilled}

-- none of the entries has this name
abbrev AreOthers : List ℕ → Entries → Type 0
AreOthers name done = AllByRecursion (λ (e : Entry). bytes_eq e.0 name ≡ false) done

-- a line passes the groups of other names
past : (done : Entries) (groups : List (List Header)) (h : Header) → AreOthers h.name done
    → appended (map lines_of done ++ groups) h ≡ map lines_of done ++ appended groups h
unfolding appended
past [] groups h others = refl
past ((name, []) ∷ done) groups h others = ap (λ (gs : List (List Header)). [] ∷ gs) (past done groups h others.1)
past ((name, v ∷ values) ∷ done) groups h others =
    ap (λ (b : Bool). if b then (lines_of (name, v ∷ values) ++ h ∷ []) ∷ (map lines_of done ++ groups)
    else lines_of (name, v ∷ values) ∷ appended (map lines_of done ++ groups) h) others.0
    ∙ ap (λ (gs : List (List Header)). lines_of (name, v ∷ values) ∷ gs) (past done groups h others.1)

-- a new name begins a group
begins : (done : Entries) (h : Header) → AreOthers h.name done → appended (map lines_of done) h ≡ map lines_of done ++ (h ∷ []) ∷ []
unfolding appended
begins done h others =
    ap (λ (gs : List (List Header)). appended gs h) (sym (append-nil (map lines_of done))) ∙ past done [] h others

-- the lines of a name go into the last group, which is its own
joins : (done : Entries) (name : List ℕ) (first : FieldValue) (group : List Header) (values : List FieldValue) → AreOthers name done
    → fold appended (map lines_of done ++ (record { name = name; value = first.bytes } ∷ group) ∷ []) (lines_of (name, values))
    ≡ map lines_of done ++ (record { name = name; value = first.bytes } ∷ (group ++ lines_of (name, values))) ∷ []
unfolding appended
joins done name first group [] others =
    ap (λ (g : List Header). map lines_of done ++ (record { name = name; value = first.bytes } ∷ g) ∷ []) (sym (append-nil group))
joins done name first group (v ∷ values) others =
    let h : Header = record { name = name; value = v.bytes } in
    let g : Header = record { name = name; value = first.bytes } in
    let own : bytes_eq name name ≡ true = (bytes_eq-Decides name name).1 refl in
    let here : appended ((g ∷ group) ∷ []) h ≡ (g ∷ (group ++ h ∷ [])) ∷ [] =
    ap (λ (b : Bool). if b then (g ∷ (group ++ h ∷ [])) ∷ [] else (g ∷ group) ∷ appended [] h) own in
    ap (λ (gs : List (List Header)). fold appended gs (lines_of (name, values)))
    (past done ((g ∷ group) ∷ []) h others ∙ ap (λ (gs : List (List Header)). map lines_of done ++ gs) here)
    ∙ joins done name first (group ++ h ∷ []) values others
    ∙ ap (λ (l : List Header). map lines_of done ++ (g ∷ l) ∷ []) (append_assoc group (h ∷ []) (lines_of (name, values)))

-- the lines of an entry are a group of their own
groups_entry : (done : Entries) (e : Entry) → AreOthers e.0 done → 0 < length e.1
    → fold appended (map lines_of done) (lines_of e) ≡ map lines_of (done ++ e ∷ [])
groups_entry done (name, []) others filled = absurd (omega (arith, filled))
groups_entry done (name, v ∷ values) others filled =
    ap (λ (gs : List (List Header)). fold appended gs (lines_of (name, values))) (begins done (record { name = name; value = v.bytes }) others)
    ∙ joins done name v [] values others
    ∙ sym (map-append lines_of done ((name, v ∷ values) ∷ []))

-- a fact of all names behind an entry, at the next one
all_at : (P : List ℕ → Type 0) (done : Entries) (e : Entry) (m : Entries) → AllByRecursion P (keys (done ++ e ∷ m)) → P e.0
all_at P [] e m all = all.0
all_at P (d ∷ done) e m all = all_at P done e m all.1

others_of : (done : Entries) (e : Entry) (m : Entries) → IsDistinct bytes_eq (keys (done ++ e ∷ m)) → AreOthers e.0 done
unfolding IsDistinct
others_of [] e m distinct = tt
others_of (d ∷ done) e m distinct = (all_at (λ k. bytes_eq d.0 k ≡ false) done e m distinct.0, others_of done e m distinct.1)

pub groups_all : (done m : Entries) → IsDistinct bytes_eq (keys (done ++ m)) → AreFilled m
    → fold appended (map lines_of done) (headers_of m) ≡ map lines_of (done ++ m)
groups_all done [] distinct filled = ap (λ (d : Entries). map lines_of d) (sym (append-nil done))
groups_all done (e ∷ m) distinct filled =
    let same : (done ++ e ∷ []) ++ m ≡ done ++ e ∷ m = append_assoc done (e ∷ []) m in
    fold-append appended (map lines_of done) (lines_of e) (headers_of m)
    ∙ ap (λ (gs : List (List Header)). fold appended gs (headers_of m)) (groups_entry done e (others_of done e m distinct) filled.0)
    ∙ groups_all (done ++ e ∷ []) m (let P : Entries → Type 0 = λ d. IsDistinct bytes_eq (keys d) in subst P (sym same) distinct) filled.1
    ∙ ap (λ (d : Entries). map lines_of d) same
