-- The place that a client is sent to.
use Rattle.std.specs.Prelude.{ℕ, Bool, ◌||◌, List, ◌∷◌, [], ◌++◌, length, drop, nat_lt, ◌==◌, Option, Some, None, flat_map}
use Rattle.std.specs.Borrow.{Bor}
use Rattle.std.specs.List.{list_any, prefix_len}
use Rattle.http_files.specs.Names.{between_slashes}

-- the names without the empty ones in front
abbrev pub without_empty_front : List (List ℕ) → List (List ℕ)
without_empty_front names = drop (prefix_len (λ name. length name == 0) names) names

-- a name, and a slash behind it
abbrev pub with_slash : List ℕ → List ℕ
with_slash name = name ++ 47 ∷ []

-- one slash, and then the names, each with a slash after it; the last name of a target that ends with a slash is empty
abbrev pub folder_place : List ℕ → List ℕ
folder_place target = 47 ∷ flat_map with_slash (without_empty_front (between_slashes target))

-- a backslash or a control byte
abbrev pub is_unsafe : ℕ → Bool
is_unsafe b = nat_lt b 32 || ((b == 92) || (b == 127))

-- there is such a byte
abbrev pub has_unsafe : List ℕ → Bool
has_unsafe text = list_any is_unsafe text

-- a question mark and the query, where there is one
abbrev pub query_text : Option (Bor (List ℕ)) → List ℕ
query_text None = []
query_text (Some query) = 63 ∷ query.now
