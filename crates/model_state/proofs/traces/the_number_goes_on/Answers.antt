use Rattle.std.proofs.Common.{[], refl, sym}
use Rattle.model_h1.specs.Event as on
use Rattle.model_h1.specs.Sums.{Step}
use Rattle.model_state.specs.Ahead.{decoded_behind}
use Rattle.model_state.proofs.Counts.{next_decodes}
use Rattle.model_state.proofs.Numbers.{ahead-nil, other_event, other_outcome, goes_on}
use Rattle.model_state.proofs.traces.the_number_goes_on.Goals as goal

pub returns-clause-empty : goal.returns-clause-empty
returns-clause-empty c = λ setting. ([], record { same = refl; right = tt }, sym ahead-nil)

pub returns-clause-decodes : goal.returns-clause-decodes
returns-clause-decodes c = λ setting k trace h readings is stands are.
    let s : Step = record { event = on.next; outcome = on.head h } in
    goes_on setting s trace 0 _ is (λ q of. sym (next_decodes setting k trace h readings stands are q of))

pub returns-clause-hands_out : goal.returns-clause-hands_out
returns-clause-hands_out c = λ setting trace h n is.
    let s : Step = record { event = on.next; outcome = on.head h } in
    goes_on setting s trace _ n is (λ q of. refl)

pub returns-clause-fails : goal.returns-clause-fails
returns-clause-fails c = λ setting trace f n is.
    let s : Step = record { event = on.next; outcome = on.fault f } in
    goes_on setting s trace _ n is (λ q of. refl)

pub returns-clause-fails_at_once : goal.returns-clause-fails_at_once
returns-clause-fails_at_once c = λ setting trace f is.
    let s : Step = record { event = on.next; outcome = on.fault f } in
    goes_on setting s trace 0 0 is (λ q of. refl)

pub returns-clause-finds_nothing : goal.returns-clause-finds_nothing
returns-clause-finds_nothing c = λ setting trace o n head fault is.
    let s : Step = record { event = on.next; outcome = o } in
    goes_on setting s trace n n is (λ q of. other_outcome o n (decoded_behind q) head fault)

pub returns-clause-stays : goal.returns-clause-stays
returns-clause-stays c = λ setting s trace n other is.
    goes_on setting s trace n n is (λ q of. other_event s.event s.outcome n (decoded_behind q) other)
