use Rattle.std.proofs.Common.{ap, ◌&&◌, ◌||◌, ◌∙◌}
use Rattle.h1_decoder.specs.declared.response.ResponseItem.{ResponseItem}
use Rattle.h1_client.proofs.AfterLemmas.{doubt_old, doubt_length, no_doubt}
use Rattle.h1_client.proofs.after.is_ambiguous.Goals as goal

pub returns-then-older : goal.returns-then-older
returns-then-older c = λ piece a reading says.
    let same = ap (λ (x : ResponseItem). x.head.headers) c.item.view_is ∙ says.headers in
    doubt_old c.has_lines-has_coding.result c.is_old-older.result c.has_lines-has_length.result c.if-older.true
    ∙ (λ i. c.has_lines-has_coding.ensures a.headers same i
    && (c.is_old-older.ensures piece a reading says i || c.has_lines-has_length.ensures a.headers same i))

pub returns-then-has_length : goal.returns-then-has_length
returns-then-has_length c = λ piece a reading says.
    let same = ap (λ (x : ResponseItem). x.head.headers) c.item.view_is ∙ says.headers in
    doubt_length c.has_lines-has_coding.result c.is_old-older.result c.has_lines-has_length.result c.if-has_length.true
    ∙ (λ i. c.has_lines-has_coding.ensures a.headers same i
    && (c.is_old-older.ensures piece a reading says i || c.has_lines-has_length.ensures a.headers same i))

pub returns : goal.returns
returns c = λ piece a reading says.
    let same = ap (λ (x : ResponseItem). x.head.headers) c.item.view_is ∙ says.headers in
    no_doubt c.has_lines-has_coding.result c.is_old-older.result c.has_lines-has_length.result c.if-older.false c.if-has_length.false
    ∙ (λ i. c.has_lines-has_coding.ensures a.headers same i
    && (c.is_old-older.ensures piece a reading says i || c.has_lines-has_length.ensures a.headers same i))
