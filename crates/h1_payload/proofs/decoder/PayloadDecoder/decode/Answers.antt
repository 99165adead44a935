use Rattle.std.proofs.Common.{false, sym, ap, subst}
use Rattle.std.proofs.lemmas.Bool.{false≢true}
use Rattle.model_state.specs.Pull.{IsPull}
use Rattle.h1_payload.specs.Rests.{IsLight}
use Rattle.h1_payload.proofs.Decodes.{answered}
use Rattle.h1_payload.specs.Decoding.{Decoding}
use Rattle.h1_payload.proofs.decoder.PayloadDecoder.decode.Goals as goal

pub invariant_of-self : goal.invariant_of-self
invariant_of-self c =
    let inside : Decoding = record { rest = c.self.inside.rest; is_broken = c.self.inside.is_broken } in
    let all = answered c.args.self.now inside c.args.src.now.items c.pull.new.unread.items c.pull.new.self c.in-Ok.answer c.item_of.result
    c.is_fault-self-inside.result c.self.view_is c.self.invariant c.if-self.false c.in-Ok.ensures.pulled c.item_of.ensures c.is_fault-self-inside.ensures in
    all.still_fit

pub returns-in-Ok-clause-decoded : goal.returns-in-Ok-clause-decoded
returns-in-Ok-clause-decoded c =
    let inside : Decoding = record { rest = c.self.inside.rest; is_broken = c.self.inside.is_broken } in
    let all = answered c.args.self.now inside c.args.src.now.items c.pull.new.unread.items c.pull.new.self c.in-Ok.answer c.item_of.result
    c.is_fault-self-inside.result c.self.view_is c.self.invariant c.if-self.false c.in-Ok.ensures.pulled c.item_of.ensures c.is_fault-self-inside.ensures in
    all.decoded

pub returns-in-Ok-clause-goes_on : goal.returns-in-Ok-clause-goes_on
returns-in-Ok-clause-goes_on c =
    let inside : Decoding = record { rest = c.self.inside.rest; is_broken = c.self.inside.is_broken } in
    let all = answered c.args.self.now inside c.args.src.now.items c.pull.new.unread.items c.pull.new.self c.in-Ok.answer c.item_of.result
    c.is_fault-self-inside.result c.self.view_is c.self.invariant c.if-self.false c.in-Ok.ensures.pulled c.item_of.ensures c.is_fault-self-inside.ensures in
    all.on

pub returns-in-Ok-clause-waits : goal.returns-in-Ok-clause-waits
returns-in-Ok-clause-waits c =
    let inside : Decoding = record { rest = c.self.inside.rest; is_broken = c.self.inside.is_broken } in
    let all = answered c.args.self.now inside c.args.src.now.items c.pull.new.unread.items c.pull.new.self c.in-Ok.answer c.item_of.result
    c.is_fault-self-inside.result c.self.view_is c.self.invariant c.if-self.false c.in-Ok.ensures.pulled c.item_of.ensures c.is_fault-self-inside.ensures in
    all.waiting

pub returns-in-Ok-clause-refused : goal.returns-in-Ok-clause-refused
returns-in-Ok-clause-refused c =
    let inside : Decoding = record { rest = c.self.inside.rest; is_broken = c.self.inside.is_broken } in
    let all = answered c.args.self.now inside c.args.src.now.items c.pull.new.unread.items c.pull.new.self c.in-Ok.answer c.item_of.result
    c.is_fault-self-inside.result c.self.view_is c.self.invariant c.if-self.false c.in-Ok.ensures.pulled c.item_of.ensures c.is_fault-self-inside.ensures in
    all.refusing

pub returns-in-Ok-clause-some : goal.returns-in-Ok-clause-some
returns-in-Ok-clause-some c =
    let inside : Decoding = record { rest = c.self.inside.rest; is_broken = c.self.inside.is_broken } in
    let all = answered c.args.self.now inside c.args.src.now.items c.pull.new.unread.items c.pull.new.self c.in-Ok.answer c.item_of.result
    c.is_fault-self-inside.result c.self.view_is c.self.invariant c.if-self.false c.in-Ok.ensures.pulled c.item_of.ensures c.is_fault-self-inside.ensures in
    all.some

pub returns-in-Err-clause-no_memory_needed : goal.returns-in-Err-clause-no_memory_needed
returns-in-Err-clause-no_memory_needed c p x light e =
    let same = ap (λ (d : Decoding). d.rest) (sym c.self.view_is) in
    let pull = subst (λ r. IsPull false r c.args.src.now.items p) same x in
    let mild = subst (λ r. IsLight r p.outcome p.rest) same light in
    false≢true (c.in-Err.ensures.no_memory_needed p pull mild)
