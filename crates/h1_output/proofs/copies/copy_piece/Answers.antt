use Rattle.std.proofs.Common.{◌≡◌, ◌+◌, ◌-◌, take, drop, sym, ap, ◌∙◌, arith}
use Rattle.std.proofs.lemmas.List.{drop-drop}
use Rattle.h1_output.specs.OutputPieces.{body_in, laid, own_len}
use Rattle.h1_output.proofs.CopyLemmas.{piece_copied}
use Rattle.h1_output.proofs.copies.copy_piece.Goals as goal

pub returns-in-Own-clause-copied : goal.returns-in-Own-clause-copied
returns-in-Own-clause-copied c = λ all was n rest is here.
    let p = c.args.piece.now in
    let own = c.args.own.now in
    let from = c.args.place.from in
    let cut : from + p.before - from ≡ p.before = omega arith in
    let len : own_len p.body ≡ c.in-Own.len = ap own_len c.in-Own.is in
    let cut2 : from + p.before + c.in-Own.len - (from + p.before) ≡ c.in-Own.len = omega arith in
    let behind = drop-drop p.before from own in
    let copied = piece_copied all was c.args.buf.now c.copy_into.new.buf c.copy_into-in-Own.new.buf own _ _ rest p c.args.place.at from n c.copy_into.result c.copy_into-in-Own.result is here c.requires.there
    (ap (λ k. take k (drop from own)) cut)
    (ap (λ k. take k (drop (from + p.before) own)) cut2 ∙ ap (take c.in-Own.len) (sym behind) ∙ sym (ap (λ b. body_in b (drop p.before (drop from own))) c.in-Own.is))
    c.copy_into.ensures.count c.copy_into.ensures.bytes c.copy_into-in-Own.ensures.count c.copy_into-in-Own.ensures.bytes in
    (copied.0, copied.1 ∙ ap (λ k. laid rest (drop (from + p.before + k) own)) len)

pub returns-in-Shared-clause-copied : goal.returns-in-Shared-clause-copied
returns-in-Shared-clause-copied c = λ all was n rest is here.
    let p = c.args.piece.now in
    let own = c.args.own.now in
    let from = c.args.place.from in
    let cut : from + p.before - from ≡ p.before = omega arith in
    let none : from + p.before + own_len p.body ≡ from + p.before = omega (arith, ap own_len c.in-Shared.is) in
    let copied = piece_copied all was c.args.buf.now c.copy_into.new.buf c.copy_into-in-Shared.new.buf own _ _ rest p c.args.place.at from n c.copy_into.result c.copy_into-in-Shared.result is here c.requires.there
    (ap (λ k. take k (drop from own)) cut)
    (c.as_slice.ensures ∙ sym (ap (λ b. body_in b (drop p.before (drop from own))) c.in-Shared.is))
    c.copy_into.ensures.count c.copy_into.ensures.bytes c.copy_into-in-Shared.ensures.count c.copy_into-in-Shared.ensures.bytes in
    (copied.0, copied.1 ∙ ap (λ k. laid rest (drop k own)) none)
