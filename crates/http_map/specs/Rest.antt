-- Where the values that an insertion or a removal took out stand: a single one by itself, more in a vector.
use Rattle.std.specs.Prelude.{List, [], ◌∷◌, None, Some}
use Rattle.std.specs.Vec.Iter.{into_iter_items}
use Rattle.http_header.specs.FieldValue.{FieldValue}
use Rattle.http_map.specs.declared.removed.Rest.{Rest}
use Rattle.http_map.specs.declared.removed.Rest.TheVariants.{One, More}

-- those that are left, in order
abbrev pub rest_listed : Rest → List FieldValue
rest_listed (One None) = []
rest_listed (One (Some value)) = value ∷ []
rest_listed (More values) = into_iter_items values
