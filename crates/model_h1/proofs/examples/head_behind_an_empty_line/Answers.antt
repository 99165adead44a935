-- The head is `A`, its line feed and the empty line: each shorter part fails the test.
use Rattle.std.proofs.Common.{◌≡◌, ℕ, ◌+◌, ◌-◌, ◌<◌, false, List, [], ◌∷◌, refl, sym, ◌∙◌, arith}
use Rattle.std.proofs.lemmas.Bool.{agree_below_at, false≢true}
use Rattle.httparse.specs.Grammar.{crlf, lf}
use Rattle.model_h1.proofs.BlankLemmas.{begins_no_cr, ends_blank_true}
use Rattle.model_h1.proofs.HeadPieceLemmas.{ends_behind}
use Rattle.model_h1.proofs.examples.head_behind_an_empty_line.Goals as goal

-- the bytes of the example
abbrev text : List ℕ
text = 13 ∷ 10 ∷ 65 ∷ 10 ∷ 10 ∷ []

-- behind the empty line no part of fewer than 3 bytes ends with an empty line
none : (k : ℕ) → k < 3 → ends_behind text 2 k ≡ false
none k below = agree_below_at (ends_behind text 2) (λ _. false) 3 k refl below

pub returns : goal.returns
returns c = record {
  ordered = omega arith;
  in_range = omega arith;
  blank = (crlf ∷ [], refl);
  begins = begins_no_cr 65 10 (10 ∷ []) (λ e. omega arith) (λ e. omega arith);
  ends = (65 ∷ [], lf, refl);
  first = λ place from before ends.
      let on : 2 + (place - 2) ≡ place = omega arith in
      let passes = ends_blank_true _ ends in
      false≢true (sym (none (place - 2) (omega arith)) ∙ (rw on passes));
}
