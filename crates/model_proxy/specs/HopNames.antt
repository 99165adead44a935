-- Which header lines are for one connection alone, and so aren't passed on (RFC 7230, section 6.1).
use Rattle.std.specs.Prelude.{ℕ, Bool, not, List, [], ◌∷◌, ◌++◌, map, filter, flat_map, codes, bytes_eq, ◌==◌, if◌then◌else◌}
use Rattle.std.specs.List.{list_any}
use Rattle.httparse.specs.Grammar.{trim_ows}
use Rattle.http_header.specs.Token.{lowercase}
use Rattle.model_h1.specs.Request.{Header}
use Rattle.model_h1.specs.LengthTable.{values_of}

-- the texts between commas, where these bytes of the first of them stand before (section 7)
abbrev pub between_commas : List ℕ → List ℕ → List (List ℕ)
between_commas before [] = before ∷ []
between_commas before (b ∷ bytes) =
    if b == 44 then before ∷ between_commas [] bytes else between_commas (before ++ b ∷ []) bytes

-- the words of a value, in lower case and without the white space around them
abbrev pub words_in : List ℕ → List (List ℕ)
words_in value = map (λ text. lowercase (trim_ows text)) (between_commas [] value)

-- the words of all Connection lines
abbrev pub connection_words : List Header → List (List ℕ)
connection_words headers = flat_map words_in (values_of (codes "connection") headers)

-- the names that are never passed on
abbrev pub standing_hops : List (List ℕ)
standing_hops =
    codes "connection" ∷ codes "keep-alive" ∷ codes "proxy-connection" ∷ codes "te" ∷ codes "trailer" ∷ codes "transfer-encoding"
    ∷ codes "upgrade" ∷ []

-- these, and what the Connection lines name
abbrev pub hop_names : List Header → List (List ℕ)
hop_names headers = standing_hops ++ connection_words headers

-- the name is one of these
abbrev pub is_among : List ℕ → List (List ℕ) → Bool
is_among name names = list_any (λ n. bytes_eq name n) names

-- the lines whose names aren't among these
abbrev pub without : List (List ℕ) → List Header → List Header
without names headers = filter (λ h. not (is_among h.name names)) headers
