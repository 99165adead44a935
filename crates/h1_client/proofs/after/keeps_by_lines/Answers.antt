use Rattle.std.proofs.Common.{sym, ap, ◌∙◌, not, codes, Bool}
use Rattle.h1_decoder.specs.declared.response.ResponseItem.{ResponseItem}
use Rattle.model_h1.specs.Request.{ConnectionType}
use Rattle.model_h1.specs.LengthTable.{default_type}
use Rattle.model_h1.specs.Closing.{is_kept}
use Rattle.h1_client.proofs.AfterLemmas.{was_read, kept_by_version, last_is_trimmed, by_last}
use Rattle.h1_client.proofs.after.keeps_by_lines.Goals as goal

pub returns-in-Some : goal.returns-in-Some
returns-in-Some c = λ piece a reading says.
    let o = sym (rw c.in-Some.is at (c.last_line.ensures a.headers (ap (λ (x : ResponseItem). x.head.headers) c.item.view_is ∙ says.headers))) in
    let keeps = kept_by_version a.minor ∙ ap (λ (b : Bool). not b) (sym (c.is_old-keeps.ensures piece a reading says)) in
    c.keeps_by.ensures (default_type a.minor) (last_is_trimmed a (codes "connection") _ (was_read piece a reading) o) keeps
    ∙ ap (λ (k : ConnectionType). is_kept k) (sym (by_last a _ o))

pub returns-in-None : goal.returns-in-None
returns-in-None c = λ piece a reading says.
    let o = sym (rw c.in-None.is at (c.last_line.ensures a.headers (ap (λ (x : ResponseItem). x.head.headers) c.item.view_is ∙ says.headers))) in
    ap (λ (b : Bool). not b) (c.is_old-keeps.ensures piece a reading says) ∙ sym (kept_by_version a.minor)
    ∙ ap (λ (k : ConnectionType). is_kept k) (sym (by_last a _ o))
