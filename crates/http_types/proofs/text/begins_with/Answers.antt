use Rattle.std.proofs.Common.{◌≡◌, ℕ, List, length, take, subst, ap, ◌∙◌}
use Rattle.std.specs.Bool.{Decides, one_answer}
use Rattle.std.proofs.lemmas.List.{take_min}
use Rattle.std.proofs.lemmas.Slice.Eq.{bytes_eq-Decides}
use Rattle.http_header.specs.Token.{lowercase}
use Rattle.http_types.proofs.text.begins_with.Goals as goal

pub returns : goal.returns
returns c =
    one_answer _ _
    (subst (λ (front : List ℕ). Decides c.eq_ignore_ascii_case.result (lowercase front ≡ lowercase c.args.word.now))
    (ap (λ (n : ℕ). take n c.args.text.now) c.min.ensures ∙ take_min (length c.args.word.now) c.args.text.now)
    c.eq_ignore_ascii_case.ensures.test)
    (bytes_eq-Decides _ _)
