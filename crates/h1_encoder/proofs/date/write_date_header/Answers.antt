use Rattle.std.proofs.Common.{◌≡◌, ℕ, ◌/◌, List, ◌++◌, codes, sym, ap, ◌∙◌, append_assoc}
use Rattle.httparse.specs.Ascii.{crlf_bytes}
use Rattle.model_h1.specs.AnswerText.{name_text, date_of}
use Rattle.model_h1.proofs.DateLemmas.{date_same}
use Rattle.h1_encoder.proofs.Pieces.{three}
use Rattle.h1_encoder.proofs.date.write_date_header.Goals as goal

pub returns-clause-ok : goal.returns-clause-ok
returns-clause-ok c =
    let name = name_text c.args.camel_case (codes "date") in
    let d : c.to_bytes-date.result ≡ date_of (c.args.now / 1000) = c.to_bytes-date.ensures ∙ sym (date_same (c.args.now / 1000) c.date_at.result c.date_at.ensures) in
    three c.args.dst.now.items (name ++ codes ": ") c.to_bytes-date.result crlf_bytes c.extend_reserved.new.self.items c.extend_reserved-2.new.self.items c.extend_reserved-3.new.self.items
    (cc) c.extend_reserved-2.ensures.items c.extend_reserved-3.ensures.items
    ∙ ap (λ (l : List ℕ). c.args.dst.now.items ++ ((name ++ codes ": ") ++ (l ++ crlf_bytes))) d
    ∙ ap (λ (l : List ℕ). c.args.dst.now.items ++ l) (append_assoc name (codes ": ") (date_of (c.args.now / 1000) ++ crlf_bytes))
