-- A URI is its parts: the facts that it keeps of them have one proof each.
use mathlib.Core.HLevel.{is_prop→PathP}
use mathlib.Core.Bool.{Bool-set}
use mathlib.Core.List.{is_set}
use Rattle.std.proofs.Common.{◌≡◌, [], IsSome}
use Rattle.std.proofs.Math.Nat.{ℕ_set}
use Rattle.std.specs.Option.{ForSome, ForNone}
use Rattle.http_uri.specs.declared.uri.Uri.{Uri}
use Rattle.http_uri.specs.Uri.{HasParts, uri_scheme, uri_authority, uri_data}

-- URIs of the same parts are equal
pub uri_equal : (u v : Uri) → HasParts v (uri_scheme u) (uri_authority u) (uri_data u) → v ≡ u
uri_equal u v parts = λ i. record {
  scheme = parts.0 i;
  authority = parts.1 i;
  path_and_query = parts.2 i;
  absolute = is_prop→PathP (λ j. ForSome (parts.0 j) (λ _. IsSome (parts.1 j))) (λ j. hlevel Bool-set) v.absolute u.absolute i;
  authority_alone = is_prop→PathP (λ j. ForNone (parts.0 j) (ForSome (parts.1 j) (λ _. parts.2 j ≡ []))) (λ j. hlevel (is_set ℕ_set)) v.authority_alone u.authority_alone i;
}
