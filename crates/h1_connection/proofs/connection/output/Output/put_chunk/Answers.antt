use Rattle.std.proofs.Common.{rules, ◌≡◌, ◌<◌, length, ◌∙◌}
use Rattle.httparse.specs.Ascii.{crlf_bytes}
use Rattle.h1_output.specs.Queued.{with_text, with_piece}
use Rattle.h1_connection.proofs.OutputLemmas.{no_bytes, empty_chunk, framed_chunk}
use Rattle.h1_connection.proofs.ResultLemmas.{on_map}
use Rattle.h1_connection.proofs.connection.output.Output.put_chunk.Goals as goal

pub returns-then-is_empty-clause-ok : goal.returns-then-is_empty-clause-ok
returns-then-is_empty-clause-ok c =
    let none : length c.args.bytes.now ≡ 0 = search rules in
    empty_chunk c.args.bytes.now c.args.self.now (no_bytes c.args.bytes.now none)

pub returns-clause-ok : goal.returns-clause-ok
returns-clause-ok c =
    let some : 0 < length c.args.bytes.now = search rules in
    on_map c.put_framed_copy.result _ _ (λ is. is ∙ (λ i. with_text crlf_bytes (with_piece c.args.bytes.now (with_text (c.as_slice.ensures i) (c.self.view_is i))))
    ∙ framed_chunk c.args.bytes.now c.of-line.result c.args.self.now some c.of-line.ensures) c.put_framed_copy.ensures.ok
