-- The room that a request names: the path of its target, as it stands there (RFC 7230, section 5.3).
use Rattle.std.specs.Prelude.{ℕ, ◌==◌, not, ◌||◌, List, [], ◌∷◌, length, take, drop, slice_index, codes, bytes_eq, if◌then◌else◌, Option, Some, None, is_some}
use Rattle.http_uri.specs.ByteClasses.{is_delimiter, slash}
use Rattle.http_uri.specs.Grammar.{without_fragment, path_of}

-- what stands after the first `://`
abbrev pub behind_scheme : List ℕ → Option (List ℕ)
behind_scheme [] = None
behind_scheme (b ∷ bytes) =
    if bytes_eq (take 3 (b ∷ bytes)) (codes "://") then Some (drop 3 (b ∷ bytes)) else behind_scheme bytes

-- what stands after an authority: the text from its first `/`, `?` or `#` on
abbrev pub behind_authority : List ℕ → List ℕ
behind_authority [] = []
behind_authority (b ∷ bytes) = if is_delimiter b then b ∷ bytes else behind_authority bytes

-- the path of an absolute form, which reads as `/` where there is none; an authority alone has no path
abbrev pub absolute_path : Option (List ℕ) → List ℕ
absolute_path None = []
absolute_path (Some rest) = path_of (without_fragment (behind_authority rest))

-- a path with its query, `*`, or another form of a target
abbrev pub room_of : List ℕ → List ℕ
room_of target =
    if (slice_index target 0 == slash) || bytes_eq target (codes "*") then path_of (without_fragment target)
    else absolute_path (behind_scheme target)

-- the path of a target with these parts, as `http_uri` gives it: a target that is an authority alone has none
abbrev pub parts_path : Option (List ℕ) → List ℕ → List ℕ
parts_path scheme kept = if not (length kept == 0) || is_some scheme then path_of kept else []
