use Rattle.std.proofs.Common.{◌-◌, ap, ◌∙◌, length}
use Rattle.httparse.specs.Ascii.{line_feed}
use Rattle.memchr.specs.Find.{is_byte}
use Rattle.memchr.proofs.lemmas.CallerLemmas.{length-places}
use Rattle.h1_decoder.proofs.decoder.count_header_lines.Goals as goal

pub returns : goal.returns
returns c =
    c.saturating_sub.ensures
    ∙ ap (λ n. n - 2) (c.count.ensures ∙ ap length c.memchr_iter.ensures.value ∙ length-places (is_byte line_feed) c.args.piece.now)
