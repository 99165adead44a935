use Rattle.std.proofs.Common.{◌≡◌, ◌∷◌, map}
use Rattle.std.specs.Prelude.{flat_map}
use Rattle.std.specs.String.{string_bytes}
use Rattle.http_files.specs.Places.{with_slash}
use Rattle.http_files.proofs.places.place_of.Given as goal

abbrev pub invariant-loop-name : goal.invariant-loop-name
invariant-loop-name l = string_bytes l.place ≡ 47 ∷ flat_map with_slash (map (λ x. x.now) l.yielded)
