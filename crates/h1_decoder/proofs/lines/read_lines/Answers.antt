use Rattle.std.proofs.Common.{map, refl, inl, inr, sym, ◌∙◌}
use Rattle.std.proofs.lemmas.Result.{err_from_is_err_and}
use Rattle.httparse.specs.Spans.{header_bytes}
use Rattle.http_framing.specs.HeaderLines.{line_header}
use Rattle.h1_decoder.proofs.BodyKindLemmas.{kind_of_lines-is}
use Rattle.h1_decoder.proofs.lines.read_lines.Goals as goal

pub returns-in-Some-clause-body : goal.returns-in-Some-clause-body
returns-in-Some-clause-body c =
    let headers = map line_header (map (header_bytes c.args.piece.now) c.args.fields.now) in
    sym (kind_of_lines-is c.in_ok-framing.framing headers c.args.version c.args.method.now c.in_ok-framing.ensures.framing)
    ∙ sym c.in-Some.ensures

pub returns-in-None-clause-refused : goal.returns-in-None-clause-refused
returns-in-None-clause-refused c =
    let headers = map line_header (map (header_bytes c.args.piece.now) c.args.fields.now) in
    λ ne. (
      refl,
      inr (sym (kind_of_lines-is c.in_ok-framing.framing headers c.args.version c.args.method.now c.in_ok-framing.ensures.framing) ∙ sym c.in-None.ensures),
    )

pub returns-in_err-framing-clause-refused : goal.returns-in_err-framing-clause-refused
returns-in_err-framing-clause-refused c =
    let p = err_from_is_err_and c.from_residual.result c.from_residual.ensures.1 in
    rw (p.1, p.2) (λ ne. let r = c.in_err-framing.ensures.refused ne in (r.0, inl r.1))
