-- Which file a target names.
use Rattle.std.specs.Prelude.{◌≡◌, ℕ, List, [], ◌∷◌, ◌++◌, length, codes, Bool, ◌&&◌, ◌||◌, ◌==◌, not, filter, Result, Ok, Err, if◌then◌else◌, ◌⊎◌}
use Rattle.std.specs.List.{slice_split, list_any}
use Rattle.std.specs.Str.{bytes_eq}
use Rattle.http_files.specs.Inside.{Placed}
use Rattle.http_files.specs.declared.error.PathError.{PathError}
use Rattle.http_files.specs.declared.error.PathError.TheVariants.{Malformed, Outside, NoMemory}

-- what stands between slashes
abbrev pub between_slashes : List ℕ → List (List ℕ)
between_slashes text = slice_split (λ b. b == 47) text

-- a name that says nothing: an empty one, and the folder itself
abbrev pub says_nothing : List ℕ → Bool
says_nothing name = (length name == 0) || bytes_eq name (codes ".")

-- the names of a path
abbrev pub names_of : List ℕ → List (List ℕ)
names_of text = filter (λ name. not (says_nothing name)) (between_slashes text)

-- a name that is served: it isn't that of the folder above, and has no slash and no NUL byte
abbrev pub is_plain : List ℕ → Bool
is_plain name = not (says_nothing name) && not (bytes_eq name (codes "..")) && not (list_any (λ b. b == 47) name) && not (list_any (λ b. b == 0) name)

-- why a name isn't served
abbrev pub fault_of : List ℕ → PathError
fault_of name = if bytes_eq name (codes "..") then Outside else Malformed

-- The path, and then the names, each behind a slash. The first one that isn't served says why there is none.
abbrev pub path_from : List ℕ → List (List ℕ) → Result (List ℕ) PathError
path_from path [] = Ok path
path_from path (name ∷ names) = if is_plain name then path_from (path ++ 47 ∷ name) names else Err (fault_of name)

-- the result says that, or that memory ran out
abbrev pub Says : Result (List ℕ) PathError → Result Placed PathError → List ℕ → Type 0
Says wanted (Ok path) folder = (wanted ≡ Ok path.text) × (path.folder ≡ folder)
Says wanted (Err e) folder = (e ≡ NoMemory) ⊎ (wanted ≡ Err e)
