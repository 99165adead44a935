use Rattle.std.proofs.Common.{rules, tests, lit<, ap, ◌∙◌, List, ℕ, ◌==◌, length, ◌++◌, ◌∷◌}
use Rattle.std.specs.Prelude.{flat_map}
use Rattle.std.proofs.lemmas.Iterator.Consumers.{YieldsList-at, YieldsList-end}
use Rattle.std.proofs.lemmas.Iterator.Adapters.{YieldsList-from_skip_while}
use Rattle.std.proofs.lemmas.Iterator.Splits.{YieldsList-from_str_split}
use Rattle.http_files.specs.Places.{with_slash, query_text}
use Rattle.http_files.proofs.places.place_of.Goals as goal

pub returns-clause-ok : goal.returns-clause-ok
returns-clause-ok c =
    let t =
    YieldsList-end
    (YieldsList-at c.into_iter-name-iterator.ensures.into_iter_gives
    (YieldsList-from_skip_while _ _ _ (λ (name : List ℕ). length name == 0) _ (λ x b q k. search (rules, tests))
    (YieldsList-at c.skip_while-name-items.ensures.source
    (YieldsList-from_str_split 47 c.args.target.now (lit< tt) c.split.ensures.text c.split.ensures.has_more c.split.ensures.pattern))
    c.skip_while-name-items.ensures.closure c.skip_while-name-items.ensures.done_skipping))
    c.loop-name.yielded _ c.loop-name.yielded_by _ _ c.in-None.is c.next.ensures.steps
    in
    c.in_ok-append_query.ensures.ok ∙ ap (λ (l : List ℕ). l ++ query_text c.args.query) (c.loop-name.invariant ∙ ap (λ (l : List (List ℕ)). 47 ∷ flat_map with_slash l) t.0)
