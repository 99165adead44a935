-- A path in a folder, and a name behind it.
use Rattle.std.proofs.Common.{arith, ◌≡◌, ◌<◌, ◌≤◌, ◌+◌, ℕ, List, ◌∷◌, ◌++◌, ◌∙◌, ap, sym, subst, length, take, drop, get_or, cond, Bool, true, false, Ok, Err, inl, inr}
use Rattle.std.specs.Prelude.{◌==◌, ◌&&◌, ◌||◌}
use Rattle.std.proofs.lemmas.List.{at_drop_more, at_drop_all, length-append, take-append-le}
use Rattle.std.proofs.Math.Seq.{take-length}
use Rattle.std.specs.Prelude.{◌⊎◌}
use Rattle.std.proofs.lemmas.List.Elements.{All-cons}
use mathlib.Core.List.{append_assoc}
use Rattle.http_files.specs.Inside.{IsPlainName, IsInside, spelled, dotted}
use Rattle.http_files.specs.Names.{is_plain, path_from, fault_of, Says}
use Rattle.http_files.specs.declared.error.PathError.{PathError}
use Rattle.http_files.specs.declared.error.PathError.TheVariants.{NoMemory}

spelled_behind : (folder path name : List ℕ) (names : List (List ℕ)) → path ≡ folder ++ spelled names → path ++ 47 ∷ name ≡ folder ++ spelled (name ∷ names)
spelled_behind folder path name names is = ap (λ (l : List ℕ). l ++ 47 ∷ name) is ∙ append_assoc folder (spelled names) (47 ∷ name)

pub inside_behind : (folder path name grown : List ℕ) → IsPlainName name → grown ≡ path ++ 47 ∷ name → IsInside folder path → IsInside folder grown
inside_behind folder path name grown plain is inside = record {
  some = inside.some;
  names = name ∷ inside.names;
  plain = All-cons IsPlainName name inside.names plain inside.plain;
  is_path = is ∙ spelled_behind folder path name inside.names inside.is_path;
}

-- ---- dots

pub dotted_on : (bs : List ℕ) (i previous : ℕ) → i < length bs
    → dotted previous (drop i bs) ≡ ((previous == 47 && get_or bs i 0 == 46) || dotted (get_or bs i 0) (drop (i + 1) bs))
dotted_on bs i previous within = at_drop_more (λ (l : List ℕ). dotted previous l) bs i 0 within

-- ---- names

next_name : (path name : List ℕ) (all : List (List ℕ)) (n : ℕ) → n < length all → name ≡ get_or all n name
    → path_from path (drop n all) ≡ cond (is_plain name) (path_from (path ++ 47 ∷ name) (drop (n + 1) all)) (Err (fault_of name))
next_name path name all n within is =
    at_drop_more (λ (l : List (List ℕ)). path_from path l) all n name within
    ∙ ap (λ (g : List ℕ). cond (is_plain g) (path_from (path ++ 47 ∷ g) (drop (n + 1) all)) (Err (fault_of g))) (sym is)

-- the next name is served
pub goes_on : (start path name grown : List ℕ) (all : List (List ℕ)) (n m : ℕ) → path_from start all ≡ path_from path (drop n all)
    → n < length all → name ≡ get_or all n name → is_plain name ≡ true → grown ≡ path ++ 47 ∷ name → m ≡ n + 1
    → path_from start all ≡ path_from grown (drop m all)
goes_on start path name grown all n m was within is plain grows one =
    was ∙ next_name path name all n within is
    ∙ ap (λ (b : Bool). cond b (path_from (path ++ 47 ∷ name) (drop (n + 1) all)) (Err (fault_of name))) plain
    ∙ sym (ap (λ (g : List ℕ). path_from g (drop (n + 1) all)) grows) ∙ sym (ap (λ (k : ℕ). path_from grown (drop k all)) one)

-- the next name isn't served, or memory runs out
pub stops : (start path name : List ℕ) (all : List (List ℕ)) (n : ℕ) (e : PathError) → path_from start all ≡ path_from path (drop n all)
    → n < length all → name ≡ get_or all n name → (e ≡ NoMemory) ⊎ ((is_plain name ≡ false) × (e ≡ fault_of name))
    → Says (path_from start all) (Err e) start
stops start path name all n e was within is (inl memory) = inl memory
stops start path name all n e was within is (inr why) = inr (
    was ∙ next_name path name all n within is
    ∙ ap (λ (b : Bool). cond b (path_from (path ++ 47 ∷ name) (drop (n + 1) all)) (Err (fault_of name))) why.0
    ∙ ap (λ (f : PathError). Err f) (sym why.1))

-- all names were served
pub is_whole : (start path : List ℕ) (all : List (List ℕ)) (n : ℕ) → path_from start all ≡ path_from path (drop n all) → n ≡ length all → path_from start all ≡ Ok path
is_whole start path all n was whole = was ∙ at_drop_all (λ (l : List (List ℕ)). path_from path l) all n (omega (arith, whole))

-- ---- what a path begins with

-- a path in a folder begins with it
pub front_of : (folder path : List ℕ) → IsInside folder path → (length folder ≤ length path) × (take (length folder) path ≡ folder)
front_of folder path inside =
    let long = ap (λ (l : List ℕ). length l) inside.is_path ∙ length-append folder (spelled inside.names) in (
      omega (arith, long),
      ap (λ (l : List ℕ). take (length folder) l) inside.is_path ∙ take-append-le (length folder) folder (spelled inside.names) (omega arith) ∙ take-length folder,
    )

-- the place where a path ends that begins with its folder
pub placed : (folder path : List ℕ) (n : ℕ) → n ≡ length folder → IsInside folder path → (n ≤ length path) × IsInside (take n path) path × (take n path ≡ folder)
placed folder path n is inside =
    let front = front_of folder path inside in
    let same = ap (λ (k : ℕ). take k path) is ∙ front.1 in
    (omega (arith, front.0, is), subst (λ (f : List ℕ). IsInside f path) (sym same) inside, same)

-- a name behind a path keeps its folder
pub grown_of : (n : ℕ) (text name grown : List ℕ) → n ≤ length text → IsInside (take n text) text → IsPlainName name → grown ≡ text ++ 47 ∷ name
    → (n ≤ length grown) × IsInside (take n grown) grown × (take n grown ≡ take n text)
grown_of n text name grown within inside plain grows =
    let long = ap (λ (l : List ℕ). length l) grows ∙ length-append text (47 ∷ name) in
    let same = ap (λ (l : List ℕ). take n l) grows ∙ take-append-le n text (47 ∷ name) within in
    (omega (arith, long, within), subst (λ (f : List ℕ). IsInside f grown) (sym same) (inside_behind _ text name grown plain grows inside), same)
