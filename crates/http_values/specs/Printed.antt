-- What extended values print.
use Rattle.std.specs.Prelude.{ℕ, List, [], ◌∷◌, ◌++◌}
use Rattle.percent_encoding.specs.Percent as percent
use Rattle.http_values.specs.declared.utils.TheConstants.{HTTP_VALUE}
use Rattle.http_values.specs.declared.shared.extended.ExtendedValue.{ExtendedValue}
use Rattle.http_values.specs.Charset.{charset_text}
use Rattle.http_values.specs.ExtendedValue.{tag_part_text}

-- the label of the set, the language tag or nothing, and the bytes, escaped, with quotes between them
abbrev pub extended_text : ExtendedValue → List ℕ
extended_text v = charset_text v.charset ++ (39 ∷ []) ++ tag_part_text v.language_tag ++ (39 ∷ []) ++ percent.percent_encode HTTP_VALUE v.value.items
