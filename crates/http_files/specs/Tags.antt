-- Which entity tags a list has (RFC 7232, section 3.2).
use Rattle.std.specs.Prelude.{ℕ, List, drop, Bool, ◌&&◌, ◌||◌, ◌==◌, not, if◌then◌else◌, nat_eq, codes}
use Rattle.std.specs.List.{starts_with, slice_split, list_any}
use Rattle.std.specs.Str.{trim, bytes_eq}

-- a weak tag is as good as a strong one
abbrev pub without_weak : List ℕ → List ℕ
without_weak item = if starts_with nat_eq item (codes "W/") then drop 2 item else item

-- the item is the tag, or stands for all
abbrev pub is_tag : List ℕ → List ℕ → Bool
is_tag tag item = bytes_eq (without_weak (trim item)) tag || bytes_eq (without_weak (trim item)) (codes "*")

-- one of the items, which stand between commas, is the tag
abbrev pub lists : List ℕ → List ℕ → Bool
lists list tag = list_any (is_tag tag) (slice_split (λ b. b == 44) list)

-- ---- by the strong comparison (RFC 9110, section 8.8.3.2)

-- the item is the tag, and neither is weak
abbrev pub is_strong_tag : List ℕ → List ℕ → Bool
is_strong_tag tag item = bytes_eq (trim item) tag && not (starts_with nat_eq (trim item) (codes "W/"))

abbrev pub has_strong : List ℕ → List ℕ → Bool
has_strong list tag = list_any (is_strong_tag tag) (slice_split (λ b. b == 44) list)

-- the list has the tag, or stands for all (section 13.1.1)
abbrev pub lists_strong : List ℕ → List ℕ → Bool
lists_strong list tag = bytes_eq (trim list) (codes "*") || has_strong list tag
