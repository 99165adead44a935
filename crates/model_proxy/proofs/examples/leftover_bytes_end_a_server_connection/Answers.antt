use Rattle.std.proofs.Common.{◌≡◌, ℕ, refl, sym, ap, ◌∙◌, true, false, arith, codes, ◌++◌}
use Rattle.httparse.specs.Grammar.{trim_ows}
use Rattle.std.proofs.lemmas.Bool.{false≢true}
use Rattle.model_proxy.specs.Answers.{whole_at}
use Rattle.model_proxy.specs.Forwarding.{keeps_open}
use Rattle.model_proxy.specs.Past.{servers}
use Rattle.model_proxy.specs.Laws.Histories.{closing_text}
use Rattle.model_proxy.specs.Laws.Samples.{came, hi_text, timeout_text}
use Rattle.model_proxy.proofs.FoundAnswers.{answer_unique}
use Rattle.model_proxy.proofs.ExampleLemmas.{hi_found, hi_answer, long_answer, closing_found, closing_is_found}
use Rattle.model_proxy.proofs.examples.leftover_bytes_end_a_server_connection.Goals as goal

pub returns-clause-whole : goal.returns-clause-whole
unfolding servers trim_ows
returns-clause-whole c = (hi_found, hi_answer, refl, refl, refl)

-- places that differ are those of two fates
apart : (a b : ℕ) → whole_at a ≡ whole_at b → a ≡ b
apart a b e = cc

pub returns-clause-leftover : goal.returns-clause-leftover
unfolding servers
returns-clause-leftover c x =
    let same : x.0 ≡ hi_found = answer_unique (came (hi_text ++ timeout_text) false) (codes "GET") x.0 hi_found x.1 long_answer in
    let places : 40 ≡ 66 = apart 40 66 (sym (ap (λ f. f.fate) same) ∙ x.2) in
    omega (arith, places)

pub returns-clause-closing : goal.returns-clause-closing
unfolding servers trim_ows
returns-clause-closing c x =
    let same : x.0 ≡ closing_found = answer_unique (came closing_text false) (codes "GET") x.0 closing_found x.1 closing_is_found in
    let kept : false ≡ true = sym (ap (λ f. keeps_open f.response) same) ∙ x.4 in
    false≢true kept
