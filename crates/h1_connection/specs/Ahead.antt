-- How many heads stand ahead of the one that was handed out last.
use Rattle.std.specs.Prelude.{◌≡◌, ℕ, zero, suc, ◌<◌, ◌≤◌, ◌-◌, ◌⊎◌, Bool, true, false, List, drop, slice_range, if◌then◌else◌}
use Rattle.model_h1.specs.Request.{Reading}
use Rattle.model_h1.proofs.ReadingDecisions.{reading_of}
use Rattle.model_state.specs.Ahead.{is_bodiless}
use Rattle.h1_decoder.specs.declared.scan.HeadScan.{HeadScan}
use Rattle.h1_decoder.specs.declared.scan.HeadScan.TheVariants.{Open, Piece}
use Rattle.h1_connection.specs.Scan.{scan_of}
use Rattle.h1_connection.specs.declared.connection.ahead.Count.{Count}

-- what a piece is read as: each has one reading
abbrev pub read_as : List ℕ → Reading
read_as piece = (reading_of piece).0

-- one more where a head stands in front, and those behind it where it has no body
abbrev pub counted_from : List ℕ → HeadScan → (List ℕ → ℕ) → ℕ
counted_from bytes Open behind = 0
counted_from bytes (Piece start end) behind =
    suc (if is_bodiless (read_as (slice_range bytes start end)) then behind (drop end bytes) else 0)

-- How many heads stand one after another in front of the bytes, at most so many. All but the last have no body.
unfoldable pub heads_in : ℕ → List ℕ → ℕ
heads_in zero bytes = 0
heads_in (suc limit) bytes = counted_from bytes (scan_of bytes) (λ rest. heads_in limit rest)

-- no head is counted
abbrev pub nothing_counted : Count
nothing_counted = record { mark = 0; left = 0 }

-- What becomes of a count behind a head of so many bytes that was handed out, with so many behind it. Behind a body none is
-- counted. A head that stood among the bytes that were counted is counted no more, and behind another a count begins.
pub record IsCountBehind (count : Count) (size len : ℕ) (has_body : Bool) (after : Count) : Type 0 where
  pub body : has_body ≡ true → after ≡ nothing_counted
  pub fewer : has_body ≡ false → 0 < count.left → size ≤ count.mark → after ≡ record { mark = count.mark - size; left = count.left - 1 }
  pub anew : has_body ≡ false → (count.left ≡ 0) ⊎ (count.mark < size) → after ≡ record { mark = len; left = 16 }
