use Rattle.std.proofs.Common.{rules, tests, lit<}
use Rattle.std.specs.Prelude.{not}
use Rattle.std.proofs.lemmas.List.{length_push}
use Rattle.std.proofs.lemmas.Iterator.Consumers.{YieldsList-at, YieldsList-from_filter, YieldsList-turn, YieldsList-end}
use Rattle.std.proofs.lemmas.Iterator.Splits.{YieldsList-from_str_split}
use Rattle.http_files.specs.Names.{says_nothing}
use Rattle.http_files.proofs.PathLemmas.{goes_on, stops, is_whole, placed, inside_behind}
use Rattle.http_files.proofs.paths.Folder.place.Goals as goal

pub loop-name-preserved : goal.loop-name-preserved
loop-name-preserved c =
    let t = YieldsList-turn
    (YieldsList-at c.into_iter-name-iterator.ensures.into_iter_gives
    (YieldsList-from_filter _ (λ name. not (says_nothing name)) (YieldsList-at c.filter-name-items.ensures.source
    (YieldsList-from_str_split 47 c.args.text.now (lit< tt) c.split.ensures.text c.split.ensures.has_more c.split.ensures.pattern))
    c.filter-name-items.ensures.closure (λ x b q k. search (rules, tests))))
    c.loop-name.yielded _ c.loop-name.yielded_by _ _ c.in-Some.name c.in-Some.is c.next.ensures.steps in
    let ok = c.in_ok-append_name.ensures.ok in
    record {
      goes_on = goes_on _ _ _ _ _ _ _ c.loop-name.invariant.goes_on t.0 t.1 ok.0 ok.1 (length_push c.loop-name.yielded c.in-Some.name);
      inside = inside_behind _ _ _ _ c.in_ok-append_name.ensures.plain ok.1 c.loop-name.invariant.inside;
    }

pub returns-in_err-append_name : goal.returns-in_err-append_name
returns-in_err-append_name c =
    let t = YieldsList-turn
    (YieldsList-at c.into_iter-name-iterator.ensures.into_iter_gives
    (YieldsList-from_filter _ (λ name. not (says_nothing name)) (YieldsList-at c.filter-name-items.ensures.source
    (YieldsList-from_str_split 47 c.args.text.now (lit< tt) c.split.ensures.text c.split.ensures.has_more c.split.ensures.pattern))
    c.filter-name-items.ensures.closure (λ x b q k. search (rules, tests))))
    c.loop-name.yielded _ c.loop-name.yielded_by _ _ c.in-Some.name c.in-Some.is c.next.ensures.steps in
    let says = stops _ _ _ _ _ _ c.loop-name.invariant.goes_on t.0 t.1 c.in_err-append_name.ensures.err in
    search (rules, says)

pub returns : goal.returns
returns c =
    let t = YieldsList-end
    (YieldsList-at c.into_iter-name-iterator.ensures.into_iter_gives
    (YieldsList-from_filter _ (λ name. not (says_nothing name)) (YieldsList-at c.filter-name-items.ensures.source
    (YieldsList-from_str_split 47 c.args.text.now (lit< tt) c.split.ensures.text c.split.ensures.has_more c.split.ensures.pattern))
    c.filter-name-items.ensures.closure (λ x b q k. search (rules, tests))))
    c.loop-name.yielded _ c.loop-name.yielded_by _ _ c.in-None.is c.next.ensures.steps in
    let whole = is_whole _ _ _ _ c.loop-name.invariant.goes_on t.1 in
    let at = placed _ _ c.len.result (search rules) c.loop-name.invariant.inside in
    (whole, at.2)
