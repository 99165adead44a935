use Rattle.std.proofs.Common.{map, inr, refl, sym, ap, ◌∙◌}
use Rattle.std.specs.Prelude.{option_map}
use Rattle.http_framing.specs.Kinds.{kind_of}
use Rattle.httparse.specs.Spans.{header_bytes}
use Rattle.http_types.specs.ResponseHead.{ResponseParts}
use Rattle.h1_decoder.specs.Framing.{answer_flags_by}
use Rattle.h1_decoder.specs.HeadItem.{asked_flags}
use Rattle.h1_decoder.specs.ResponseItem.{with_close}
use Rattle.http_framing.specs.HeaderLines.{line_header}
use Rattle.model_h1.specs.LengthTable.{asked_type}
use Rattle.h1_decoder.proofs.AnswerKindLemmas.{answer_kind-is, answer_flags-are}
use Rattle.h1_decoder.proofs.response.read_answer.Goals as goal

pub returns-in_default-answer_kind-clause-refused : goal.returns-in_default-answer_kind-clause-refused
returns-in_default-answer_kind-clause-refused c =
    let headers = map line_header (map (header_bytes c.args.piece.now) c.args.fields.now) in
    λ ne. (
      c.in-Ok.ensures.0.0,
      inr (sym (answer_kind-is c.in_ok-framing.framing headers c.args.spans.version c.args.spans.code c.in_ok-framing.ensures.framing)
          ∙ sym c.answer_kind.ensures ∙ ap (option_map kind_of) c.in_default-answer_kind.is),
    )

pub returns-clause-parts : goal.returns-clause-parts
returns-clause-parts c =
    let headers = map line_header (map (header_bytes c.args.piece.now) c.args.fields.now) in
    record {
      status_is = c.in-Ok.ensures.0.0;
      names_are = c.in_ok-framing.ensures.names;
      body_is =
          sym (answer_kind-is c.in_ok-framing.framing headers c.args.spans.version c.args.spans.code c.in_ok-framing.ensures.framing)
          ∙ sym c.in-Some.ensures;
    }

pub returns-clause-says : goal.returns-clause-says
returns-clause-says c =
    let headers = map line_header (map (header_bytes c.args.piece.now) c.args.fields.now) in
    let marked = c.mark_answer.ensures in
    let begun = c.head.view_is ∙ c.new-head.ensures in
    record {
      status = ap (λ (h : ResponseParts). h.status) marked ∙ ap (λ (h : ResponseParts). h.status) begun ∙ c.in-Ok.ensures.1;
      version = ap (λ (h : ResponseParts). h.version) marked ∙ c.read_version-head-inside.ensures;
      headers = ap (λ (h : ResponseParts). h.headers) marked ∙ c.in_ok-framing.ensures.headers;
      flags =
          ap (λ (h : ResponseParts). h.flags) marked
          ∙ ap (λ asked. answer_flags_by asked c.ends_with_input.result) c.in_ok-framing.ensures.framing.connection_lines
          ∙ answer_flags-are (asked_type headers) c.ends_with_input.result
          ∙ ap (λ closes. with_close closes (asked_flags (asked_type headers))) c.ends_with_input.ensures;
      own_reason = ap (λ (h : ResponseParts). h.reason) marked ∙ ap (λ (h : ResponseParts). h.reason) begun;
      reason = c.in_ok-reason.ensures.bytes;
      body = refl;
      is_lax = refl;
    }
