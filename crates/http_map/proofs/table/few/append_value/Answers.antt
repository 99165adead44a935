use Rattle.std.proofs.Common.{◌≡◌, [], ◌∷◌, ◌++◌, sym, ap, subst, ◌∙◌}
use Rattle.std.proofs.lemmas.Result.{on_ok_weaker}
use Rattle.http_header.specs.Token.{lowercase}
use Rattle.http_map.specs.Lines.{StandsFirstAt, Lacks}
use Rattle.http_map.proofs.LineLemmas.{append-lacks}
use Rattle.http_map.proofs.table.few.append_value.Goals as goal

pub returns-in-Some-clause-ok : goal.returns-in-Some-clause-ok
returns-in-Some-clause-ok c =
    let name = c.args.key in
    let same : lowercase c.as_bytes.result.now ≡ name = ap lowercase c.as_bytes.ensures.value ∙ c.as_bytes.ensures.valid.1 in
    let found = subst (λ l. StandsFirstAt l name c.in-Some.i) c.as_slice.ensures.value (subst (λ n. StandsFirstAt c.as_slice.result.now n c.in-Some.i) same c.in-Some.ensures.found) in
    on_ok_weaker c.add_value.result (λ more. more name found) c.add_value.ensures.ok

pub returns-in_ok-push-in-None-clause-ok : goal.returns-in_ok-push-in-None-clause-ok
returns-in_ok-push-in-None-clause-ok c =
    let name = c.args.key in
    let m = c.args.lines.now.items in
    let same : lowercase c.as_bytes.result.now ≡ name = ap lowercase c.as_bytes.ensures.value ∙ c.as_bytes.ensures.valid.1 in
    let lacks = subst (λ l. Lacks l name) c.as_slice.ensures.value (subst (λ n. Lacks c.as_slice.result.now n) same c.in-None.ensures.lacks) in
    let line : c.marked.result ≡ (name, c.args.value ∷ []) = c.marked.ensures ∙ ap (λ vs. (name, vs)) c.one.ensures in
    c.in_ok-push-in-None.ensures.items ∙ ap (λ e. m ++ e ∷ []) line ∙ sym (append-lacks name c.args.value m lacks)
