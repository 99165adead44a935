use Rattle.std.proofs.Common.{rules, ◌≡◌, ◌∙◌, ap, sym, subst, List, ℕ, ◌++◌, ◌∷◌, ◌≤◌, length, take}
use Rattle.std.specs.String.{string_bytes}
use Rattle.http_files.specs.Inside.{IsInside}
use Rattle.http_files.proofs.PathLemmas.{grown_of}
use Rattle.http_files.proofs.paths.FilePath.child.Goals as goal

pub invariant_of-result : goal.invariant_of-result
invariant_of-result c =
    let same : string_bytes c.in_ok-text.text ≡ string_bytes c.self.inside.text = search rules in
    let was =
    subst (λ (l : List ℕ). (c.self.inside.folder ≤ length l) × IsInside (take c.self.inside.folder l) l) (sym same) c.self.invariant
    in
    let grown = grown_of c.self.inside.folder _ _ _ was.0 was.1 c.in_ok-append_name.ensures.plain c.in_ok-append_name.ensures.ok.1 in
    (grown.0, grown.1)

pub returns-clause-ok : goal.returns-clause-ok
returns-clause-ok c =
    let same : string_bytes c.in_ok-text.text ≡ string_bytes c.self.inside.text = search rules in
    let was =
    subst (λ (l : List ℕ). (c.self.inside.folder ≤ length l) × IsInside (take c.self.inside.folder l) l) (sym same) c.self.invariant
    in
    let grown = grown_of c.self.inside.folder _ _ _ was.0 was.1 c.in_ok-append_name.ensures.plain c.in_ok-append_name.ensures.ok.1 in (
      c.in_ok-append_name.ensures.ok.0,
      c.in_ok-append_name.ensures.ok.1 ∙ ap (λ (l : List ℕ). l ++ 47 ∷ c.args.name.now) same ∙ (search rules),
      grown.2 ∙ ap (λ (l : List ℕ). take c.self.inside.folder l) same ∙ (search rules),
    )
