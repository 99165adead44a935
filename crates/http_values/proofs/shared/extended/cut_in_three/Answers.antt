use Rattle.http_values.proofs.ExtendedLemmas.{uncut, cut_once}
use Rattle.http_values.proofs.shared.extended.cut_in_three.Goals as goal

pub returns-in_default : goal.returns-in_default
returns-in_default c = λ charset tag value h. uncut c.args.s.now charset tag value c.in_default.ensures h

pub returns-in_default-first_cut : goal.returns-in_default-first_cut
returns-in_default-first_cut c =
    λ charset tag value h. cut_once c.args.s.now c.in-Some.charset.now c.in-Some.rest.now charset tag value c.in-Some.ensures c.in_default-first_cut.ensures h
