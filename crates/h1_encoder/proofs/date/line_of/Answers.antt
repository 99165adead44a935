use Rattle.std.proofs.Common.{ℕ, List, ◌++◌, codes, ap, sym, ◌∙◌}
use Rattle.httparse.specs.Ascii.{crlf_bytes}
use Rattle.model_h1.proofs.DateLemmas.{date_same}
use Rattle.h1_encoder.proofs.date.line_of.Goals as goal

pub returns : goal.returns
returns c =
    ap (λ (d : List ℕ). codes "date: " ++ (d ++ (crlf_bytes ++ crlf_bytes)))
    (c.copy_from_slice.ensures.after ∙ c.to_bytes.ensures ∙ sym (date_same c.args.second c.date_at-date.result c.date_at-date.ensures))
