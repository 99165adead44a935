use Rattle.std.proofs.Common.{◌≡◌, true, length, drop, sym, ap, ◌∙◌}
use Rattle.model_h1.specs.TakeNext.{take_next}
use Rattle.h1_payload.specs.declared.scan.Found.TheVariants as found
use Rattle.h1_payload.specs.Places.{place_of, is_quiet}
use Rattle.h1_payload.specs.Scans.{told}
use Rattle.h1_payload.proofs.Places.{waits_at, quiet_stops, rest_is_quiet, plain_told, plain_within}
use Rattle.h1_payload.proofs.Taking.{take_done, take_broken}
use Rattle.h1_payload.proofs.scan.find_next.Goals as goal

pub returns-in-Bytes-clause-value : goal.returns-in-Bytes-clause-value
returns-in-Bytes-clause-value c =
    let bytes = c.args.bytes.now in
    let at = c.pass_quiet-at.result.0 in
    c.pass_quiet-at.ensures.same
    ∙ ap (λ q. take_next (place_of q) (drop at bytes)) c.in-Bytes.is
    ∙ c.find_chunk.ensures.value
    ∙ plain_told bytes at c.find_chunk.result
    ∙ ap (told bytes) (sym c.plain.ensures)

pub returns-in-Section-clause-value : goal.returns-in-Section-clause-value
returns-in-Section-clause-value c =
    let bytes = c.args.bytes.now in
    let at = c.pass_quiet-at.result.0 in
    c.pass_quiet-at.ensures.same
    ∙ ap (λ q. take_next (place_of q) (drop at bytes)) c.in-Section.is
    ∙ c.scan_section.ensures.value

pub returns-in-Done-clause-value : goal.returns-in-Done-clause-value
returns-in-Done-clause-value c =
    let bytes = c.args.bytes.now in
    let at = c.pass_quiet-at.result.0 in
    c.pass_quiet-at.ensures.same
    ∙ ap (λ q. take_next (place_of q) (drop at bytes)) c.in-Done.is
    ∙ take_done (drop at bytes)
    ∙ plain_told bytes at (found.Ends at)
    ∙ ap (told bytes) (sym c.plain-in-Done.ensures)

pub returns-in-Broken-clause-value : goal.returns-in-Broken-clause-value
returns-in-Broken-clause-value c =
    let bytes = c.args.bytes.now in
    let at = c.pass_quiet-at.result.0 in
    c.pass_quiet-at.ensures.same
    ∙ ap (λ q. take_next (place_of q) (drop at bytes)) c.in-Broken.is
    ∙ take_broken (drop at bytes)
    ∙ plain_told bytes at found.Breaks
    ∙ ap (told bytes) (sym c.plain-in-Broken.ensures)

pub returns-in_default-clause-value : goal.returns-in_default-clause-value
returns-in_default-clause-value c =
    let bytes = c.args.bytes.now in
    let at = c.pass_quiet-at.result.0 in
    let q = c.pass_quiet-at.result.1 in
    let quiet : is_quiet (place_of q) ≡ true =
    rest_is_quiet q c.in_default.not-Bytes c.in_default.not-Section c.in_default.not-Done c.in_default.not-Broken in
    c.pass_quiet-at.ensures.same
    ∙ waits_at (place_of q) bytes at (quiet_stops (place_of q) quiet) (c.pass_quiet-at.ensures.all quiet)
    ∙ plain_told bytes at (found.Waits q)
    ∙ ap (told bytes) (sym c.plain-in_default.ensures)

pub returns-in-Bytes-clause-within : goal.returns-in-Bytes-clause-within
returns-in-Bytes-clause-within c =
    plain_within (length c.args.bytes.now) c.pass_quiet-at.result.0 c.find_chunk.result c.plain.result c.pass_quiet-at.ensures.within
    c.find_chunk.ensures.within c.plain.ensures

pub returns-in-Done-clause-within : goal.returns-in-Done-clause-within
returns-in-Done-clause-within c =
    plain_within (length c.args.bytes.now) c.pass_quiet-at.result.0 (found.Ends c.pass_quiet-at.result.0) c.plain-in-Done.result c.pass_quiet-at.ensures.within
    c.pass_quiet-at.ensures.within c.plain-in-Done.ensures

pub returns-in-Broken-clause-within : goal.returns-in-Broken-clause-within
returns-in-Broken-clause-within c =
    plain_within (length c.args.bytes.now) c.pass_quiet-at.result.0 found.Breaks c.plain-in-Broken.result c.pass_quiet-at.ensures.within tt
    c.plain-in-Broken.ensures

pub returns-in_default-clause-within : goal.returns-in_default-clause-within
returns-in_default-clause-within c =
    plain_within (length c.args.bytes.now) c.pass_quiet-at.result.0 (found.Waits c.pass_quiet-at.result.1) c.plain-in_default.result c.pass_quiet-at.ensures.within tt
    c.plain-in_default.ensures
