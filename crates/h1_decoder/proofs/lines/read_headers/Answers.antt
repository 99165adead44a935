use Rattle.std.proofs.Common.{◌≡◌, ℕ, List, get_or, map, take, sym, ap, ◌∙◌, subst}
use Rattle.std.specs.Prelude.{slice_range}
use Rattle.std.proofs.lemmas.Result.{err_from_is_err_and}
use Rattle.http_header.specs.FieldName.{IsFieldName}
use Rattle.http_header.specs.FieldValue.{FieldValue}
use Rattle.http_header.specs.Token.{lowercase}
use Rattle.http_map.specs.HeaderMap.{append}
use Rattle.httparse.specs.Grammar.{trim_ows}
use Rattle.httparse.specs.Spans.{header_bytes, span_bytes}
use Rattle.httparse.specs.declared.spans.Span.{Span}
use Rattle.http_framing.specs.HeaderLines.{HasName, line_header}
use Rattle.http_framing.proofs.HeaderLines.{no_span, line_at, header_map-more}
use Rattle.h1_decoder.specs.Lines.{HasValue}
use Rattle.h1_decoder.proofs.LinesLemmas.{names_more, framing_more, known_ok}
use Rattle.h1_decoder.proofs.lines.read_headers.Goals as goal

-- the bytes of a span, as they are taken out of a slice
covered : (piece text bytes : List ℕ) (span : Span) → text ≡ piece → bytes ≡ slice_range text span.start span.end → bytes ≡ span_bytes piece span
covered piece text bytes span same is = is ∙ ap (λ (t : List ℕ). slice_range t span.start span.end) same

pub returns-in_err-name-clause-refused : goal.returns-in_err-name-clause-refused
unfolding no_span
returns-in_err-name-clause-refused c =
    let here = line_at c.args.piece.now c.args.fields.now c.loop-field.field-index no_span c.loop-field-test.true HasName in
    let field = get_or c.args.fields.now c.loop-field.field-index no_span in
    let name = covered c.args.piece.now c.as_slice.result.now c.of.result.now field.name c.as_slice.ensures c.of.ensures in
    let p = err_from_is_err_and c.from_residual-in_err-name.result c.from_residual-in_err-name.ensures.1 in
    rw (p.1, p.2) (λ ne. let r = c.in_err-name.ensures.refused ne in (r.0, λ all. r.1 (subst IsFieldName (sym name) (here all))))

pub read_value-requires-clause-valid : goal.read_value-requires-clause-valid
unfolding no_span
read_value-requires-clause-valid c =
    (line_at c.args.piece.now c.args.fields.now c.loop-field.field-index no_span c.loop-field-test.true HasValue c.requires.values).valid

pub note-requires : goal.note-requires
unfolding no_span
note-requires c =
    let value = line_at c.args.piece.now c.args.fields.now c.loop-field.field-index no_span c.loop-field-test.true HasValue c.requires.values in
    let bytes = c.as_bytes.ensures.value ∙ ap (λ (v : FieldValue). v.bytes) c.in_ok-value.ensures.value in
    subst (λ (b : List ℕ). trim_ows b ≡ b) (sym bytes) value.trimmed

pub loop-field-preserved : goal.loop-field-preserved
unfolding no_span
loop-field-preserved c =
    let piece = c.args.piece.now in
    let fields = c.args.fields.now in
    let i = c.loop-field.field-index in
    let below = c.loop-field-test.true in
    let before = map line_header (map (header_bytes piece) (take i fields)) in
    let covers = covered piece c.as_slice.result.now c.of.result.now (get_or fields i no_span).name c.as_slice.ensures c.of.ensures in
    let name = c.in_ok-name.ensures.name ∙ ap lowercase covers in
    let value = c.in_ok-value.ensures.value in
    let added : c.append.new.self ≡ append c.loop-field.headers c.in_ok-name.name c.in_ok-value.value =
    known_ok c.append.result c.in_ok-map_err-2.ensures.variant c.append.ensures.ok in
    let more = header_map-more piece fields i no_span below in
    record {
      names = names_more piece fields i no_span below c.loop-field.invariant.names (subst IsFieldName covers c.in_ok-name.ensures.valid);
      in_map = cc (added, more, name, value, c.loop-field.invariant.in_map);
      told =
          framing_more piece fields i no_span below c.note.new.self c.as_str.result.now c.as_bytes.result.now
          (c.note.ensures before c.loop-field.invariant.told)
          (c.as_str.ensures.value ∙ name) (c.as_bytes.ensures.value ∙ ap (λ (v : FieldValue). v.bytes) value);
    }
