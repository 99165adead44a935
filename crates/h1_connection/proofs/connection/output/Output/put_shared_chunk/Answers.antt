use Rattle.std.proofs.Common.{ℕ, true, ◌++◌, rules, ◌≡◌, ◌<◌, [], length, ap, ◌∙◌}
use Rattle.std.specs.Fmt.{digits}
use Rattle.httparse.specs.Ascii.{crlf_bytes}
use Rattle.h1_output.specs.Queued.{with_text, with_piece}
use Rattle.h1_connection.proofs.OutputLemmas.{empty_chunk, framed_chunk}
use Rattle.h1_connection.proofs.ResultLemmas.{on_map}
use Rattle.h1_connection.proofs.connection.output.Output.put_shared_chunk.Goals as goal

pub returns-then-is_empty-clause-ok : goal.returns-then-is_empty-clause-ok
returns-then-is_empty-clause-ok c =
    let none : c.args.bytes ≡ [] = search rules in
    empty_chunk c.args.bytes c.args.self.now none

pub returns-clause-ok : goal.returns-clause-ok
returns-clause-ok c =
    let some : 0 < length c.args.bytes = search rules in
    on_map c.put_framed.result _ _ (λ is. is ∙ (λ i. with_text crlf_bytes (with_piece c.args.bytes (with_text (c.as_slice.ensures i) (c.self.view_is i))))
    ∙ framed_chunk c.args.bytes c.of-line.result c.args.self.now some (c.of-line.ensures ∙ ap (λ (n : ℕ). digits 16 true n ++ crlf_bytes) c.len.ensures.value)) c.put_framed.ensures.ok
