-- What holds of the names under a `HeaderMap` and of the count beside them.
use Rattle.std.specs.Prelude.{◌≡◌, ℕ, ◌<◌, ◌^◌, All}
use Rattle.http_map.specs.HeaderMap.{Entries, IsEntry, value_count}

-- the count is kept, and each entry is one that a map may have
pub record IsCounted (m : Entries) (len : ℕ) : Type 0 where
  pub count : len ≡ value_count m
  pub fits : len < 2 ^ 64
  pub entries : All IsEntry m
