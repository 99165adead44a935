use Rattle.std.proofs.Common.{sym, ap, ◌∙◌}
use Rattle.std.specs.Prelude.{not}
use Rattle.rooms.proofs.TextLemmas.{text_by_first}
use Rattle.rooms.proofs.row.is_bad_text.Goals as goal

pub returns : goal.returns
returns c =
    let first = text_by_first c.args.lines.now c.in-Some.first.now c.in-Some.ensures.value ∙ sym c.begins_text.ensures ∙ c.if-not-begins_text.false in
    rw first (rw (← c.in_ok-bytes.ensures, ← c.as_slice.ensures.value) (ap not c.is_utf8_text.ensures))
