use Rattle.std.proofs.Common.{◌≡◌, ◌+◌, ◌-◌, ◌++◌, length, take, drop, min, sym, ap, ◌∙◌, arith}
use Rattle.std.specs.Prelude.{option_to_list}
use Rattle.std.proofs.lemmas.List.{take_all, length-drop}
use Rattle.h1_output.specs.OutputPieces.{in_row, laid}
use Rattle.h1_output.proofs.CopyLemmas.{none_copied, used-append, ends_copied}
use Rattle.h1_output.proofs.queue.Segments.peek_into.Goals as goal

pub copy_first-place-requires : goal.copy_first-place-requires
copy_first-place-requires c =
    omega (arith, ap length c.as_slice-own.ensures, c.self.invariant.0.fits, used-append (option_to_list c.self.inside.first) c.self.inside.rest.items)

pub copy_rest-place-requires-clause-there : goal.copy_rest-place-requires-clause-there
copy_rest-place-requires-clause-there c =
    omega (arith, ap length c.as_slice-own.ensures, c.self.invariant.0.fits, used-append (option_to_list c.self.inside.first) c.self.inside.rest.items, c.copy_first-place.ensures.from)

pub returns-clause-count : goal.returns-clause-count
returns-clause-count c =
    let own = c.as_slice-own.result.now in
    let all = c.args.self.now.bytes in
    let was = c.args.buf.now in
    let row = in_row c.self.inside.first c.self.inside.rest.items in
    let start : all ≡ laid row own = sym (ap (λ q. q.bytes) c.self.view_is) ∙ ap (laid row) (sym c.as_slice-own.ensures) in
    let one = c.copy_first-place.ensures.copied c.self.inside.rest.items all was 0 (none_copied all was) start in
    let two = c.copy_rest-place.ensures.copied all was one.0 one.1 one.2 in
    let from = c.copy_rest-place.result.from in
    let at = c.copy_rest-place.result.at in
    let now = c.copy_rest-place.new.buf in
    let cut : take (length own - from) (drop from own) ≡ drop from own = take_all (length own - from) (drop from own) (omega (arith, length-drop from own)) in
    let count = c.copy_into.ensures.count ∙ ap (λ x. min (length now - at) (length x)) cut in
    let put = c.copy_into.ensures.bytes ∙ ap (λ x. take at now ++ (take c.copy_into.result x ++ drop (at + c.copy_into.result) now)) cut in
    (ends_copied all was now c.copy_into.new.buf own at from two.0 c.copy_into.result two.1 two.2 count put).0

pub returns-clause-bytes : goal.returns-clause-bytes
returns-clause-bytes c =
    let own = c.as_slice-own.result.now in
    let all = c.args.self.now.bytes in
    let was = c.args.buf.now in
    let row = in_row c.self.inside.first c.self.inside.rest.items in
    let start : all ≡ laid row own = sym (ap (λ q. q.bytes) c.self.view_is) ∙ ap (laid row) (sym c.as_slice-own.ensures) in
    let one = c.copy_first-place.ensures.copied c.self.inside.rest.items all was 0 (none_copied all was) start in
    let two = c.copy_rest-place.ensures.copied all was one.0 one.1 one.2 in
    let from = c.copy_rest-place.result.from in
    let at = c.copy_rest-place.result.at in
    let now = c.copy_rest-place.new.buf in
    let cut : take (length own - from) (drop from own) ≡ drop from own = take_all (length own - from) (drop from own) (omega (arith, length-drop from own)) in
    let count = c.copy_into.ensures.count ∙ ap (λ x. min (length now - at) (length x)) cut in
    let put = c.copy_into.ensures.bytes ∙ ap (λ x. take at now ++ (take c.copy_into.result x ++ drop (at + c.copy_into.result) now)) cut in
    (ends_copied all was now c.copy_into.new.buf own at from two.0 c.copy_into.result two.1 two.2 count put).1

pub returns-clause-rest : goal.returns-clause-rest
returns-clause-rest c =
    let own = c.as_slice-own.result.now in
    let all = c.args.self.now.bytes in
    let was = c.args.buf.now in
    let row = in_row c.self.inside.first c.self.inside.rest.items in
    let start : all ≡ laid row own = sym (ap (λ q. q.bytes) c.self.view_is) ∙ ap (laid row) (sym c.as_slice-own.ensures) in
    let one = c.copy_first-place.ensures.copied c.self.inside.rest.items all was 0 (none_copied all was) start in
    let two = c.copy_rest-place.ensures.copied all was one.0 one.1 one.2 in
    let from = c.copy_rest-place.result.from in
    let at = c.copy_rest-place.result.at in
    let now = c.copy_rest-place.new.buf in
    let cut : take (length own - from) (drop from own) ≡ drop from own = take_all (length own - from) (drop from own) (omega (arith, length-drop from own)) in
    let count = c.copy_into.ensures.count ∙ ap (λ x. min (length now - at) (length x)) cut in
    let put = c.copy_into.ensures.bytes ∙ ap (λ x. take at now ++ (take c.copy_into.result x ++ drop (at + c.copy_into.result) now)) cut in
    (ends_copied all was now c.copy_into.new.buf own at from two.0 c.copy_into.result two.1 two.2 count put).2
