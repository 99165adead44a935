use Rattle.std.proofs.Common.{◌≡◌, ℕ, ◌+◌, ◌-◌, ◌≤◌, length, subst, inl, inr, arith}
use Rattle.std.proofs.lemmas.Bool.{cases_order}
use Rattle.h1_decoder.specs.LineEnds.{IsLineEndAt}
use Rattle.h1_decoder.proofs.LineEndLemmas.{BeginsBlank-rest, IsLineEndAt-rest, IsFirstEnd-here, feed_found, none_passed, length-rest, line_end_after}
use Rattle.h1_decoder.proofs.scan.find_end.Goals as goal

pub loop-len-preserved : goal.loop-len-preserved
loop-len-preserved c =
    let bytes = c.args.bytes.now in
    let at = c.loop-len.at in
    let k = c.in-Some.len in
    let rest : at + (k + 1) ≤ length bytes = omega (arith, c.in-Some.ensures.0.high, length-rest bytes at) in (
      omega arith,
      rest,
      λ place end low lt empty.
          elim (cases_order place (at + k)) [
            | inl same ↦
                let there : place + 1 ≡ at + (k + 1) = omega arith in
                let line = subst (λ (p : ℕ). IsLineEndAt bytes p end) there empty.line in
                c.in_default-line_end_len.ensures.none (BeginsBlank-rest bytes (at + (k + 1)) end line)
            | inr apart ↦
                elim apart [
                  | inl below ↦ none_passed bytes c.args.from at k c.loop-len.invariant.2 c.in-Some.ensures.0.before place end low below empty
                  | inr above ↦ absurd (omega arith)
                ]
          ],
    )

pub returns-in-Some-line_end_len-clause-found : goal.returns-in-Some-line_end_len-clause-found
returns-in-Some-line_end_len-clause-found c =
    let bytes = c.args.bytes.now in
    let at = c.loop-len.at in
    let k = c.in-Some.len in
    let rest : at + (k + 1) ≤ length bytes = omega (arith, c.in-Some.ensures.0.high, length-rest bytes at) in
    let there : at + (k + 1) ≡ at + k + 1 = omega arith in
    let line = IsLineEndAt-rest bytes (at + (k + 1)) c.in-Some-line_end_len.len rest c.in-Some-line_end_len.ensures.found in
    IsFirstEnd-here bytes c.args.from (at + k) _ (omega arith)
    (record {
      feed = feed_found bytes at k c.in-Some.ensures.1;
      line = subst (λ (p : ℕ). IsLineEndAt bytes p (at + (k + 1) + c.in-Some-line_end_len.len)) there line;
    })
    (none_passed bytes c.args.from at k c.loop-len.invariant.2 c.in-Some.ensures.0.before)

pub returns-clause-none : goal.returns-clause-none
returns-clause-none c end (place, low, empty) =
    let bytes = c.args.bytes.now in
    let at = c.loop-len.at in
    let fits = empty.line.in_range in
    none_passed bytes c.args.from at (length bytes - at) c.loop-len.invariant.2
    (λ k a b. c.in_default.ensures k a (omega (arith, length-rest bytes at)))
    place end low (omega (arith, line_end_after bytes (place + 1) end empty.line)) empty
