-- Content codings and their texts (RFC 7231, section 3.1.2.1).
use Rattle.std.specs.Prelude.{◌≡◌, ℕ, List, map, codes}
use Rattle.std.specs.Str.{trim}
use Rattle.std.specs.Char.{to_ascii_lowercase}
use Rattle.http_values.specs.declared.shared.content_encoding.ContentEncoding.{ContentEncoding}
use Rattle.http_values.specs.declared.shared.content_encoding.ContentEncoding.TheVariants.{Identity, Brotli, Deflate, Gzip, Zstd}

-- the registered name, which a coding prints
abbrev pub coding_text : ContentEncoding → List ℕ
coding_text Identity = codes "identity"
coding_text Brotli = codes "br"
coding_text Deflate = codes "deflate"
coding_text Gzip = codes "gzip"
coding_text Zstd = codes "zstd"

-- the text is the coding's name, in either case, with white space around it
abbrev pub IsCodingText : List ℕ → ContentEncoding → Type 0
IsCodingText text coding = map to_ascii_lowercase (trim text) ≡ coding_text coding
