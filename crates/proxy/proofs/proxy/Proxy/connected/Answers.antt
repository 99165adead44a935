use Rattle.std.specs.Prelude.{Some}
use Rattle.model_proxy.specs.Past as event
use Rattle.model_proxy.specs.Past.{done}
use Rattle.proxy.proofs.Moves.{by_then}
use Rattle.proxy.proofs.Work.{rests_by}
use Rattle.proxy.proofs.EventMoves.{connects}
use Rattle.proxy.specs.declared.proxy.Proxy.{Proxy}
use Rattle.proxy.proofs.Served.{serves_by, with_server}
use Rattle.proxy.proofs.EventReplies.{replies_by}
use Rattle.std.proofs.Common.{refl, ap}
use Rattle.h1_client.specs.State.{State}
use Rattle.std.proofs.lemmas.Bool.{false≢true}
use Rattle.proxy.proofs.Still.{held_still}
use Rattle.proxy.proofs.proxy.Proxy.connected.Goals as goal

pub returns-clause-goes : goal.returns-clause-goes
returns-clause-goes c =
    let p = c.args.self.now in
    let mid : Proxy = record p { server = Some c.new.result } in
    by_then event.connected done p mid c.settle.new.self (connects p c.new.result c.requires.wants_server c.new.ensures.value) c.in_ok-settle.ensures.goes

pub returns-clause-rests : goal.returns-clause-rests
returns-clause-rests c =
    let p = c.args.self.now in
    let mid : Proxy = record p { server = Some c.new.result } in
    rests_by event.connected done p mid c.settle.new.self (connects p c.new.result c.requires.wants_server c.new.ensures.value) c.in_ok-settle.ensures.rests

pub returns-clause-serves : goal.returns-clause-serves
returns-clause-serves c =
    let p = c.args.self.now in
    let mid : Proxy = record p { server = Some c.new.result } in
    serves_by p mid c.settle.new.self (with_server p (Some c.new.result)) c.in_ok-settle.ensures.serves

pub returns-clause-replies : goal.returns-clause-replies
returns-clause-replies c =
    let p = c.args.self.now in
    let mid : Proxy = record p { server = Some c.new.result } in
    replies_by event.connected done p mid c.settle.new.self (connects p c.new.result c.requires.wants_server c.new.ensures.value)
    (with_server p (Some c.new.result)) (record { client = refl; server = ap (λ (s : State). Some s) c.new.ensures.value; unsent = refl; sent = refl }) c.in_ok-settle.ensures.replies

pub returns-in_err-settle-clause-no_memory_needed : goal.returns-in_err-settle-clause-no_memory_needed
returns-in_err-settle-clause-no_memory_needed c = λ held.
    let mid : Proxy = record c.args.self.now { server = Some c.new.result } in
    absurd (false≢true (c.in_err-settle.ensures.no_memory_needed (held_still mid held)))
