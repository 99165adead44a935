use Rattle.std.proofs.Common.{Bool, ◌||◌, sym, ap, ◌∙◌, codes}
use Rattle.http_map.specs.HeaderMap.{Entries}
use Rattle.h1_encoder.specs.Meaning.{headers_of}
use Rattle.model_proxy.specs.HopNames.{connection_words, is_among}
use Rattle.proxy_heads.proofs.ReplyLemmas.{says_is}
use Rattle.proxy_heads.proofs.replies.says_close.Goals as goal

pub returns-then-closes : goal.returns-then-closes
returns-then-closes c = λ piece a reading says.
    let listed = c.lists_close-lists_close.ensures ∙ ap (λ (m : Entries). is_among (codes "close") (connection_words (headers_of m))) c.headers.ensures in
    c.if-closes.true ∙ sym (says_is c.args.item.now a c.connection_type.result c.is_close-closes.result c.lists_close-lists_close.result says
    (c.connection_type.ensures ∙ sym (c.marks_tell_the_answers_connection.ensures piece c.args.item.now a reading says))
    c.is_close-closes.ensures listed
    ∙ ap (λ (t : Bool). t || c.lists_close-lists_close.result) c.if-closes.true)

pub returns-else-closes : goal.returns-else-closes
returns-else-closes c = λ piece a reading says.
    let listed = c.lists_close-lists_close.ensures ∙ ap (λ (m : Entries). is_among (codes "close") (connection_words (headers_of m))) c.headers.ensures in
    sym (says_is c.args.item.now a c.connection_type.result c.is_close-closes.result c.lists_close-lists_close.result says
    (c.connection_type.ensures ∙ sym (c.marks_tell_the_answers_connection.ensures piece c.args.item.now a reading says))
    c.is_close-closes.ensures listed
    ∙ ap (λ (t : Bool). t || c.lists_close-lists_close.result) c.if-closes.false)
