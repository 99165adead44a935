-- Which answers are the last of a body, and which are a fault.
use Rattle.std.specs.Prelude.{Bool, true, false}
use Rattle.h1_payload.specs.declared.pulled.Pulled.{Pulled}
use Rattle.h1_payload.specs.declared.pulled.Pulled.TheVariants as pulled

-- nothing of the body follows
abbrev pub is_last : Pulled → Bool
is_last (pulled.Trailers entries) = true
is_last pulled.End = true
is_last answer = false

-- the body is none
abbrev pub is_fault : Pulled → Bool
is_fault (pulled.Broken fault) = true
is_fault answer = false
