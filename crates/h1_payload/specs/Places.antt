-- What a reader's place means.
use Rattle.std.specs.Prelude.{Bool, true, false}
use Rattle.model_h1.specs.Place as model
use Rattle.h1_payload.specs.declared.place.Line.{Line}
use Rattle.h1_payload.specs.declared.place.Line.TheVariants as at
use Rattle.h1_payload.specs.declared.place.Place.{Place}
use Rattle.h1_payload.specs.declared.place.Place.TheVariants as place

-- where in a line
abbrev pub line_of : Line → model.InLine
line_of at.Start = model.line_start
line_of at.Name = model.in_name
line_of at.Value = model.in_value
line_of at.Cr = model.line_cr

-- the place that it is in the reading of chunks
abbrev pub place_of : Place → model.Place
place_of (place.Size size) = model.in_size size
place_of (place.Blanks size) = model.in_blanks size
place_of (place.Extension size) = model.in_extension size
place_of (place.SizeCr size) = model.size_cr size
place_of (place.Bytes more) = model.in_bytes more
place_of place.BytesEnd = model.bytes_end
place_of place.BytesCr = model.bytes_cr
place_of (place.Section line lines room) = model.in_section (line_of line) lines room
place_of place.EndCr = model.end_cr
place_of place.Done = model.done
place_of place.Broken = model.broken

-- a byte here is none of a chunk or of a trailer line, and the body neither broken nor done
abbrev pub is_quiet : model.Place → Bool
is_quiet (model.in_bytes more) = false
is_quiet (model.in_section line lines room) = false
is_quiet model.done = false
is_quiet model.broken = false
is_quiet p = true

-- in a trailer section
abbrev pub is_section : model.Place → Bool
is_section (model.in_section line lines room) = true
is_section p = false
