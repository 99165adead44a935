-- What a body's kind means.
use Rattle.model_h1.specs.Request.{no_body, fixed_body, chunked_body, raw_body}
use Rattle.model_h1.specs.Request as model
use Rattle.http_framing.specs.declared.body.kind.BodyKind.{BodyKind}
use Rattle.http_framing.specs.declared.body.kind.BodyKind.TheVariants as kind

-- the kind that it is in the definitions
abbrev pub kind_of : BodyKind → model.BodyKind
kind_of kind.None = no_body
kind_of (kind.Length n) = fixed_body n
kind_of kind.Chunked = chunked_body
kind_of kind.Raw = raw_body
