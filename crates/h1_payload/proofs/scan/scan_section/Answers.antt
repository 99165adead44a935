use Rattle.std.proofs.Common.{List, ℕ, refl, inr, subst, arith, length-drop}
use Rattle.std.proofs.lemmas.List.{take_rest}
use Rattle.model_h1.specs.Place.{in_section}
use Rattle.h1_payload.specs.Places.{line_of, place_of}
use Rattle.h1_payload.specs.Scans.{IsLinesPassed}
use Rattle.h1_payload.proofs.Places.{lines_told}
use Rattle.h1_payload.proofs.scan.scan_section.Goals as goal

pub returns : goal.returns
returns c =
    let bytes = c.args.bytes.now in
    let start = in_section (line_of c.args.line) c.args.lines c.args.room in
    let count = c.pass_lines-count.result.0 in
    let passed = subst (λ (l : List ℕ). IsLinesPassed start l count c.pass_lines-count.result.1) (take_rest bytes c.args.at) c.pass_lines-count.ensures in
    let fits = passed.within in
    let len = length-drop c.args.at bytes in
    record {
      value = lines_told start (place_of c.pass_lines-count.result.1) bytes c.args.at count _ c.find_end.result c.requires passed.within refl passed.same
          c.find_end.ensures.value;
      within = record { alone = inr c.find_end.ensures.no_chunk; ordered = omega arith; lines = omega arith; found = c.find_end.ensures.within };
    }
