-- The laxer copy of a head in the making, against the copy as it is defined.
use Rattle.std.specs.Prelude.{◌≡◌, ℕ, List, [], ◌++◌, true, false, if◌then◌else◌, Bool, not, ◌==◌}
use Rattle.std.specs.List.{list_all}
use Rattle.httparse.specs.Ascii.{colon}
use Rattle.model_client.specs.LaxText.{unpadded, unpadded_lines}

-- what is copied, the bytes of the line that is copied, as long as no colon has come, and whether they are those of a
-- header line before its colon
pub record Copying : Type 0 where
  pub text : List ℕ
  pub name : List ℕ
  pub in_name : Bool

-- no colon
abbrev pub is_name_byte : ℕ → Bool
is_name_byte b = not (b == colon)

-- bytes are kept apart only before a colon, and there is none among them
pub record IsCopying (copy : Copying) : Type 0 where
  pub apart : copy.in_name ≡ false → copy.name ≡ []
  pub no_colon : list_all is_name_byte copy.name ≡ true

-- the whole copy, where these bytes follow
abbrev pub copy_with : Copying → List ℕ → List ℕ
copy_with copy rest = copy.text ++ (if copy.in_name then unpadded_lines copy.name rest else unpadded rest)
