use Rattle.std.proofs.Common.{◌≡◌, ℕ, List, length, take, subst, ap, ◌∙◌}
use Rattle.std.specs.Bool.{Decides, one_answer}
use Rattle.std.proofs.lemmas.List.{take_min}
use Rattle.std.proofs.lemmas.Slice.Eq.{bytes_eq-Decides}
use Rattle.http_header.specs.Token.{lowercase}
use Rattle.h1_strict.proofs.options.begins_with.Goals as goal

-- the front that the code compares is as many bytes as the word has, or all where there are fewer
pub returns : goal.returns
returns c =
    let front = ap (λ (n : ℕ). take n c.args.text.now) c.min.ensures ∙ take_min (length c.args.word.now) c.args.text.now in
    let Same = λ (bytes : List ℕ). Decides c.eq_ignore_ascii_case.result (lowercase bytes ≡ lowercase c.args.word.now) in
    one_answer _ _ (subst Same front c.eq_ignore_ascii_case.ensures.test) (bytes_eq-Decides _ _)
