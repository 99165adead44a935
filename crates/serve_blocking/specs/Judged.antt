-- Which doubt there is about a head, where heads are judged, and what is answered where no handler has answered.
use Rattle.std.specs.Prelude.{ℕ, Bool, Option, None, Result, Err, if◌then◌else◌}
use Rattle.h1_decoder.specs.declared.decoder.HeadItem.{HeadItem}
use Rattle.h1_strict.specs.Judgement.{first_doubt}
use Rattle.h1_strict.specs.declared.doubt.HeadDoubt.{HeadDoubt}
use Rattle.serve_blocking.specs.declared.error.HandleError.{HandleError}
use Rattle.serve_blocking.specs.declared.error.HandleError.TheVariants as handle_error

-- the first doubt, where heads are judged
abbrev pub doubt_if : Bool → HeadItem → Option HeadDoubt
doubt_if judges item = if judges then first_doubt item else None

-- the status of the answer where the handler gave none (RFC 7231, section 6)
abbrev pub status_after : Result (Unit {0}) HandleError → ℕ
status_after (Err handle_error.BrokenBody) = 400
status_after _ = 500
