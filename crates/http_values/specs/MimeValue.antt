-- What a media type keeps, and the text that it was read from.
use Rattle.std.specs.Prelude.{◌≡◌, ℕ, List, string_bytes}
use Rattle.http_values.specs.declared.shared.mime.Mime.{Mime}
use Rattle.http_values.specs.MediaType.{IsMimeText}
use Rattle.http_values.specs.Mime.{pairs_of}

-- the text, which the media type prints
abbrev pub mime_text : Mime → List ℕ
mime_text m = string_bytes m.text

-- the text is that of the media type, by its type, its subtype and its parameters, and is kept
pub record SaysMime (text : List ℕ) (m : Mime) : Type 0 where
  pub kept : mime_text m ≡ text
  pub says : IsMimeText text (string_bytes m.kind) (string_bytes m.subtype) (pairs_of m.params.items)

-- the second is equal to the first: of its text, its type, its subtype, and the names and values of its parameters
pub record SameMime (m copy : Mime) : Type 0 where
  pub text : mime_text copy ≡ mime_text m
  pub kind : string_bytes copy.kind ≡ string_bytes m.kind
  pub subtype : string_bytes copy.subtype ≡ string_bytes m.subtype
  pub params : pairs_of copy.params.items ≡ pairs_of m.params.items
