use Rattle.std.proofs.Common.{refl}
use Rattle.std.proofs.lemmas.Result.{err_from_is_err_and}
use Rattle.h1_codec.specs.Heads.{Search}
use Rattle.h1_codec.proofs.ByNext.{by_head, by_none, by_length, by_refusal}
use Rattle.h1_codec.proofs.decoder.MessageDecoder.decode.Goals as goal

pub returns-in_err-item-in-Head-clause-none : goal.returns-in_err-item-in-Head-clause-none
returns-in_err-item-in-Head-clause-none g c =
    let inside : Search = record { limit = c.self.inside.limit; position = c.self.inside.scanner } in
    let all = by_refusal g.T.ReadHead.kind inside c.args.self.now inside c.self.view_is c.as_slice.result.now c.args.src.now.items c.args.src.now.items c.as_slice.ensures
    c.in-Head.start c.in-Head.end c.in_err-item-in-Head.field-0.0 c.as_slice-in-Head.result.now c.in-Head.ensures.found c.as_slice-in-Head.ensures
    c.in_err-item-in-Head.ensures.fault c.in_err-item-in-Head.ensures.cause in
    let p = err_from_is_err_and c.from_residual.result c.from_residual.ensures.1 in
    rw (p.1, p.2) all.none

pub returns-in_err-item-in-Head-clause-too_long : goal.returns-in_err-item-in-Head-clause-too_long
returns-in_err-item-in-Head-clause-too_long g c =
    let inside : Search = record { limit = c.self.inside.limit; position = c.self.inside.scanner } in
    let all = by_refusal g.T.ReadHead.kind inside c.args.self.now inside c.self.view_is c.as_slice.result.now c.args.src.now.items c.args.src.now.items c.as_slice.ensures
    c.in-Head.start c.in-Head.end c.in_err-item-in-Head.field-0.0 c.as_slice-in-Head.result.now c.in-Head.ensures.found c.as_slice-in-Head.ensures
    c.in_err-item-in-Head.ensures.fault c.in_err-item-in-Head.ensures.cause in
    let p = err_from_is_err_and c.from_residual.result c.from_residual.ensures.1 in
    rw (p.1, p.2) all.too_long

pub returns-in_err-item-in-Head-clause-fault : goal.returns-in_err-item-in-Head-clause-fault
returns-in_err-item-in-Head-clause-fault g c =
    let inside : Search = record { limit = c.self.inside.limit; position = c.self.inside.scanner } in
    let all = by_refusal g.T.ReadHead.kind inside c.args.self.now inside c.self.view_is c.as_slice.result.now c.args.src.now.items c.args.src.now.items c.as_slice.ensures
    c.in-Head.start c.in-Head.end c.in_err-item-in-Head.field-0.0 c.as_slice-in-Head.result.now c.in-Head.ensures.found c.as_slice-in-Head.ensures
    c.in_err-item-in-Head.ensures.fault c.in_err-item-in-Head.ensures.cause in
    let p = err_from_is_err_and c.from_residual.result c.from_residual.ensures.1 in
    rw (p.1, p.2) all.fault

pub returns-in_ok-item-in-Head-clause-none : goal.returns-in_ok-item-in-Head-clause-none
returns-in_ok-item-in-Head-clause-none g c =
    let inside : Search = record { limit = c.self.inside.limit; position = c.self.inside.scanner } in
    let new : Search = record { limit = c.self.inside.limit; position = c.new-self-inside.result } in
    let all = by_head g.T.ReadHead.kind inside c.args.self.now new c.self.view_is c.as_slice.result.now c.args.src.now.items c.advance.new.self.items c.as_slice.ensures
    c.in-Head.start c.in-Head.end c.in_ok-item-in-Head.item c.as_slice-in-Head.result.now c.in-Head.ensures.found c.as_slice-in-Head.ensures
    c.in_ok-item-in-Head.ensures.item c.advance.ensures.items refl (λ b fits. c.new-self-inside.ensures b) in
    all.none

pub returns-in_ok-item-in-Head-clause-item : goal.returns-in_ok-item-in-Head-clause-item
returns-in_ok-item-in-Head-clause-item g c =
    let inside : Search = record { limit = c.self.inside.limit; position = c.self.inside.scanner } in
    let new : Search = record { limit = c.self.inside.limit; position = c.new-self-inside.result } in
    let all = by_head g.T.ReadHead.kind inside c.args.self.now new c.self.view_is c.as_slice.result.now c.args.src.now.items c.advance.new.self.items c.as_slice.ensures
    c.in-Head.start c.in-Head.end c.in_ok-item-in-Head.item c.as_slice-in-Head.result.now c.in-Head.ensures.found c.as_slice-in-Head.ensures
    c.in_ok-item-in-Head.ensures.item c.advance.ensures.items refl (λ b fits. c.new-self-inside.ensures b) in
    all.item

pub returns-in_ok-item-in-Head-clause-too_long : goal.returns-in_ok-item-in-Head-clause-too_long
returns-in_ok-item-in-Head-clause-too_long g c =
    let inside : Search = record { limit = c.self.inside.limit; position = c.self.inside.scanner } in
    let new : Search = record { limit = c.self.inside.limit; position = c.new-self-inside.result } in
    let all = by_head g.T.ReadHead.kind inside c.args.self.now new c.self.view_is c.as_slice.result.now c.args.src.now.items c.advance.new.self.items c.as_slice.ensures
    c.in-Head.start c.in-Head.end c.in_ok-item-in-Head.item c.as_slice-in-Head.result.now c.in-Head.ensures.found c.as_slice-in-Head.ensures
    c.in_ok-item-in-Head.ensures.item c.advance.ensures.items refl (λ b fits. c.new-self-inside.ensures b) in
    all.too_long

pub returns-in_ok-item-in-Head-clause-goes_on : goal.returns-in_ok-item-in-Head-clause-goes_on
returns-in_ok-item-in-Head-clause-goes_on g c =
    let inside : Search = record { limit = c.self.inside.limit; position = c.self.inside.scanner } in
    let new : Search = record { limit = c.self.inside.limit; position = c.new-self-inside.result } in
    let all = by_head g.T.ReadHead.kind inside c.args.self.now new c.self.view_is c.as_slice.result.now c.args.src.now.items c.advance.new.self.items c.as_slice.ensures
    c.in-Head.start c.in-Head.end c.in_ok-item-in-Head.item c.as_slice-in-Head.result.now c.in-Head.ensures.found c.as_slice-in-Head.ensures
    c.in_ok-item-in-Head.ensures.item c.advance.ensures.items refl (λ b fits. c.new-self-inside.ensures b) in
    all.goes_on

pub returns-in-Waits-clause-none : goal.returns-in-Waits-clause-none
returns-in-Waits-clause-none g c =
    let inside : Search = record { limit = c.self.inside.limit; position = c.self.inside.scanner } in
    let new : Search = record { limit = c.self.inside.limit; position = c.in-Waits.scanner } in
    let all = by_none g.T.ReadHead.kind inside c.args.self.now new c.self.view_is c.as_slice.result.now c.args.src.now.items c.args.src.now.items c.as_slice.ensures
    c.in-Waits.ensures.found refl refl in
    all.none

pub returns-in-Waits-clause-goes_on : goal.returns-in-Waits-clause-goes_on
returns-in-Waits-clause-goes_on g c =
    let inside : Search = record { limit = c.self.inside.limit; position = c.self.inside.scanner } in
    let new : Search = record { limit = c.self.inside.limit; position = c.in-Waits.scanner } in
    let all = by_none g.T.ReadHead.kind inside c.args.self.now new c.self.view_is c.as_slice.result.now c.args.src.now.items c.args.src.now.items c.as_slice.ensures
    c.in-Waits.ensures.found refl refl in
    all.goes_on

pub returns-in-Waits-clause-seen : goal.returns-in-Waits-clause-seen
returns-in-Waits-clause-seen g c =
    let inside : Search = record { limit = c.self.inside.limit; position = c.self.inside.scanner } in
    let new : Search = record { limit = c.self.inside.limit; position = c.in-Waits.scanner } in
    let all = by_none g.T.ReadHead.kind inside c.args.self.now new c.self.view_is c.as_slice.result.now c.args.src.now.items c.args.src.now.items c.as_slice.ensures
    c.in-Waits.ensures.found refl refl in
    all.seen

pub returns-in-TooLong-clause-cause : goal.returns-in-TooLong-clause-cause
returns-in-TooLong-clause-cause g c =
    let inside : Search = record { limit = c.self.inside.limit; position = c.self.inside.scanner } in
    let all = by_length g.T.ReadHead.kind inside c.args.self.now inside c.self.view_is c.as_slice.result.now c.args.src.now.items c.args.src.now.items c.as_slice.ensures
    c.in-TooLong.ensures.found in
    all.cause

pub returns-in-TooLong-clause-fault : goal.returns-in-TooLong-clause-fault
returns-in-TooLong-clause-fault g c =
    let inside : Search = record { limit = c.self.inside.limit; position = c.self.inside.scanner } in
    let all = by_length g.T.ReadHead.kind inside c.args.self.now inside c.self.view_is c.as_slice.result.now c.args.src.now.items c.args.src.now.items c.as_slice.ensures
    c.in-TooLong.ensures.found in
    all.fault
