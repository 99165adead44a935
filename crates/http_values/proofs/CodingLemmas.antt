-- What a content coding prints is read as that coding.
use Rattle.std.proofs.Common.{refl}
use Rattle.std.specs.Str.{chars, trim_start, trim_end}
use lib.Utf8.{encode}
use Rattle.http_values.specs.declared.shared.content_encoding.ContentEncoding.{ContentEncoding}
use Rattle.http_values.specs.declared.shared.content_encoding.ContentEncoding.TheVariants.{Identity, Brotli, Deflate, Gzip, Zstd}
use Rattle.http_values.specs.ContentEncoding.{IsCodingText, coding_text}

-- the name of a coding is the text of it
pub printed_is_read : (coding : ContentEncoding) → IsCodingText (coding_text coding) coding
unfolding chars trim_start trim_end encode
printed_is_read Identity = refl
printed_is_read Brotli = refl
printed_is_read Deflate = refl
printed_is_read Gzip = refl
printed_is_read Zstd = refl
