use Rattle.std.proofs.Common.{sym, ◌∙◌, arith}
use Rattle.h1_payload.specs.Places.{place_of}
use Rattle.h1_payload.specs.Scans.{next_of}
use Rattle.h1_payload.proofs.Places.{waits_at, section_stops, empty_line_at, broken_at, not_end_cr}
use Rattle.h1_payload.proofs.scan.find_end.Goals as goal

pub returns-then-at-bytes-clause-value : goal.returns-then-at-bytes-clause-value
returns-then-at-bytes-clause-value c =
    waits_at (place_of c.args.place) c.args.bytes.now c.args.at (section_stops (place_of c.args.place) c.requires.lines) (omega arith)

pub returns-in-EndCr-clause-value : goal.returns-in-EndCr-clause-value
returns-in-EndCr-clause-value c =
    empty_line_at (place_of c.args.place) c.args.bytes.now c.args.at (next_of c.args.bytes.now c.find_line_feed.result) c.requires.lines c.requires.ends
    (omega arith) (sym c.in-EndCr.ensures) c.find_line_feed.ensures.value

pub returns-in_default-clause-value : goal.returns-in_default-clause-value
returns-in_default-clause-value c =
    broken_at (place_of c.args.place) c.args.bytes.now c.args.at c.requires.lines c.requires.ends (omega arith)
    (λ e. not_end_cr c.step.result c.in_default.not-EndCr (c.step.ensures ∙ e))
