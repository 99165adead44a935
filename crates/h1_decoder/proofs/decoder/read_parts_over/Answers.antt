use Rattle.std.proofs.Common.{◌≡◌, List, ℕ, map, ap, ◌∙◌, subst}
use Rattle.std.specs.Prelude.{slice_range}
use Rattle.http_header.specs.Token.{IsToken}
use Rattle.httparse.specs.Spans.{span_bytes, header_bytes}
use Rattle.h1_decoder.specs.Lines.{RefusesLinesOf}
use Rattle.h1_decoder.specs.ReadParts.{parts_at}
use Rattle.h1_decoder.proofs.LinesLemmas.{refused_lines}
use Rattle.h1_decoder.proofs.decoder.read_parts_over.Goals as goal

pub returns-in-Err-clause-refused : goal.returns-in-Err-clause-refused
returns-in-Err-clause-refused c =
    let spans = c.args.spans in
    let lines = map (header_bytes c.args.piece.now) c.args.fields.now in
    let method : c.of.result.now ≡ span_bytes c.args.piece.now spans.method =
    c.of.ensures ∙ ap (λ (bytes : List ℕ). slice_range bytes spans.method.start spans.method.end) c.as_slice.ensures in
    refused_lines (parts_at c.args.piece.now spans c.args.fields.now) c.in-Err.error c.lines_error.result
    (subst IsToken method c.in_ok-method.ensures.token)
    (λ ne. let r = c.in-Err.ensures.refused ne in
    (r.0, subst (λ (m : List ℕ). RefusesLinesOf spans.version m lines) (c.as_str.ensures.value ∙ c.in_ok-method.ensures.method ∙ method) r.1))
    c.lines_error.ensures
