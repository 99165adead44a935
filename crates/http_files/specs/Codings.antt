-- In which coding a file is sent (RFC 9110, section 12.5.3).
use Rattle.std.specs.Prelude.{ℕ, List, Bool, true, false, ◌&&◌, ◌||◌, nat_lt, nat_le, Option, Some, None, if◌then◌else◌, codes}
use Rattle.std.specs.Str.{bytes_eq}
use Rattle.http_files.specs.declared.codings.Accepted.{Accepted}
use Rattle.http_files.specs.declared.codings.Coding.{Coding}
use Rattle.http_files.specs.declared.codings.Coding.TheVariants.{Identity, Gzip, Brotli}

-- what the field says with one more item
abbrev pub noted : Accepted → List ℕ → ℕ → Accepted
noted a name wanted =
    if bytes_eq name (codes "br")
    then record { brotli = Some wanted; gzip = a.gzip; identity = a.identity; others = a.others }
    else (if bytes_eq name (codes "gzip") || bytes_eq name (codes "x-gzip")
    then record { brotli = a.brotli; gzip = Some wanted; identity = a.identity; others = a.others }
    else (if bytes_eq name (codes "identity")
    then record { brotli = a.brotli; gzip = a.gzip; identity = Some wanted; others = a.others }
    else (if bytes_eq name (codes "*")
    then record { brotli = a.brotli; gzip = a.gzip; identity = a.identity; others = Some wanted }
    else a)))

-- How much a coding is wanted: as much as its own item says, and else as much as `*` does. Not at all without both, or where
-- the file isn't there in it.
abbrev pub weight : Bool → Option ℕ → Option ℕ → ℕ
weight false named others = 0
weight true (Some wanted) others = wanted
weight true None (Some wanted) = wanted
weight true None None = 0

-- The coding that is wanted most: `br` before `gzip`, and `gzip` before none, where two are wanted as much. None needs no leave.
abbrev pub chosen : Accepted → Bool → Bool → Coding
chosen a has_brotli has_gzip =
    let brotli = weight has_brotli a.brotli a.others in
    let gzip = weight has_gzip a.gzip a.others in
    let identity = weight true a.identity a.others in
    if nat_lt 0 brotli && (nat_le gzip brotli && nat_le identity brotli) then Brotli
    else (if nat_lt 0 gzip && nat_le identity gzip then Gzip else Identity)
