use Rattle.std.proofs.Common.{◌≡◌, true, get_or, refl, sym, ◌∙◌}
use Rattle.model_h1.specs.Place.{in_section}
use Rattle.h1_payload.specs.Places.{line_of, place_of, is_section}
use Rattle.h1_payload.proofs.Taking.{lines_more}
use Rattle.h1_payload.proofs.scan.pass_lines.Goals as goal

pub loop-at-preserved : goal.loop-at-preserved
loop-at-preserved c =
    let on : is_section (place_of c.step-next.result) ≡ true = sym c.is_section.ensures ∙ c.if-not-is_section.false in (
      on,
      lines_more (in_section (line_of c.args.line) c.args.lines c.args.room) (place_of c.loop-at.place) (place_of c.step-next.result) c.args.bytes.now
          c.loop-at.at (get_or c.args.bytes.now c.loop-at.at 0) c.loop-at.invariant.1 c.loop-at.invariant.0 c.loop-at-test.true refl c.step-next.ensures on,
    )
