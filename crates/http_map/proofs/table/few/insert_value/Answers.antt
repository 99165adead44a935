use Rattle.std.proofs.Common.{◌≡◌, true, false, [], ◌∷◌, ◌++◌, sym, ap, subst, ◌∙◌}
use Rattle.std.specs.Prelude.{slice_set}
use Rattle.http_header.specs.Token.{lowercase}
use Rattle.http_map.specs.Lines.{StandsFirstAt, Lacks}
use Rattle.http_map.proofs.LineLemmas.{contains_key-lacks, insert-stands, insert-lacks, get_all-stands, get_all-lacks}
use Rattle.http_map.proofs.table.few.insert_value.Goals as goal

pub returns-in_err-push-in-None-clause-no_memory_needed : goal.returns-in_err-push-in-None-clause-no_memory_needed
returns-in_err-push-in-None-clause-no_memory_needed c there =
    let name = c.args.name in
    let m = c.args.lines.now.items in
    let same : lowercase c.as_bytes.result.now ≡ name = ap lowercase c.as_bytes.ensures.value ∙ c.as_bytes.ensures.valid.1 in
    let lacks = subst (λ l. Lacks l name) c.as_slice.ensures.value (subst (λ n. Lacks c.as_slice.result.now n) same c.in-None.ensures.lacks) in
    let no : true ≡ false = sym there ∙ contains_key-lacks name m lacks in
    cc

pub returns-in-Some-clause-ok : goal.returns-in-Some-clause-ok
returns-in-Some-clause-ok c =
    let name = c.args.name in
    let m = c.args.lines.now.items in
    let same : lowercase c.as_bytes.result.now ≡ name = ap lowercase c.as_bytes.ensures.value ∙ c.as_bytes.ensures.valid.1 in
    let found = subst (λ l. StandsFirstAt l name c.in-Some.i) c.as_slice.ensures.value (subst (λ n. StandsFirstAt c.as_slice.result.now n c.in-Some.i) same c.in-Some.ensures.found) in
    let line : c.replace-old.new.dest ≡ (name, c.args.value ∷ []) = c.replace-old.ensures.after ∙ c.marked.ensures ∙ ap (λ vs. (name, vs)) c.one.ensures in
    ap (slice_set m c.in-Some.i) line ∙ sym (insert-stands name c.args.value m c.in-Some.i found)

pub returns-in-Some-clause-removed : goal.returns-in-Some-clause-removed
returns-in-Some-clause-removed c =
    let name = c.args.name in
    let m = c.args.lines.now.items in
    let same : lowercase c.as_bytes.result.now ≡ name = ap lowercase c.as_bytes.ensures.value ∙ c.as_bytes.ensures.valid.1 in
    let found = subst (λ l. StandsFirstAt l name c.in-Some.i) c.as_slice.ensures.value (subst (λ n. StandsFirstAt c.as_slice.result.now n c.in-Some.i) same c.in-Some.ensures.found) in
    c.into_iter.ensures.into_iter_gives ∙ ap (λ e. e.1) (c.into_pair.ensures ∙ c.replace-old.ensures.value ∙ c.index_mut.ensures.value) ∙ sym (get_all-stands name m c.in-Some.i c.index_mut.result.now found)

pub returns-in_ok-push-in-None-clause-ok : goal.returns-in_ok-push-in-None-clause-ok
returns-in_ok-push-in-None-clause-ok c =
    let name = c.args.name in
    let m = c.args.lines.now.items in
    let same : lowercase c.as_bytes.result.now ≡ name = ap lowercase c.as_bytes.ensures.value ∙ c.as_bytes.ensures.valid.1 in
    let lacks = subst (λ l. Lacks l name) c.as_slice.ensures.value (subst (λ n. Lacks c.as_slice.result.now n) same c.in-None.ensures.lacks) in
    let line : c.marked-in-None.result ≡ (name, c.args.value ∷ []) = c.marked-in-None.ensures ∙ ap (λ vs. (name, vs)) c.one-in-None.ensures in
    c.in_ok-push-in-None.ensures.items ∙ ap (λ e. m ++ e ∷ []) line ∙ sym (insert-lacks name c.args.value m lacks)

pub returns-in_ok-push-in-None-clause-removed : goal.returns-in_ok-push-in-None-clause-removed
returns-in_ok-push-in-None-clause-removed c =
    let name = c.args.name in
    let m = c.args.lines.now.items in
    let same : lowercase c.as_bytes.result.now ≡ name = ap lowercase c.as_bytes.ensures.value ∙ c.as_bytes.ensures.valid.1 in
    let lacks = subst (λ l. Lacks l name) c.as_slice.ensures.value (subst (λ n. Lacks c.as_slice.result.now n) same c.in-None.ensures.lacks) in
    c.none.ensures ∙ sym (get_all-lacks name m lacks)
