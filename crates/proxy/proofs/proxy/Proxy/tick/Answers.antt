use Rattle.h1_connection.specs.Ticks.{expiry_of}
use Rattle.model_h1.specs.Event as on
use Rattle.std.specs.Prelude.{Some}
use Rattle.model_proxy.specs.Past.{tick, done}
use Rattle.proxy.proofs.Moves.{by_then}
use Rattle.proxy.proofs.Work.{rests_by}
use Rattle.proxy.proofs.EventMoves.{ticks}
use Rattle.proxy.specs.declared.proxy.Proxy.{Proxy}
use Rattle.proxy.proofs.Served.{serves_by, with_moment, event_serves}
use Rattle.proxy.proofs.EventReplies.{replies_by, client_adds}
use Rattle.std.proofs.Common.{refl}
use Rattle.proxy.proofs.proxy.Proxy.tick.Goals as goal

pub returns-clause-goes : goal.returns-clause-goes
returns-clause-goes c =
    let p = c.args.self.now in
    let mid : Proxy = record p { client = c.tick.new.self; moment = Some c.args.moment } in
    by_then (tick c.args.moment) done p mid c.settle.new.self
    (ticks c.args.moment c.in_ok-expiry.expiry p c.tick.new.self c.requires.can_tick c.tick.ensures.settings c.in_ok-expiry.ensures.stands) c.in_ok-settle.ensures.goes

pub returns-clause-rests : goal.returns-clause-rests
returns-clause-rests c =
    let p = c.args.self.now in
    let mid : Proxy = record p { client = c.tick.new.self; moment = Some c.args.moment } in
    rests_by (tick c.args.moment) done p mid c.settle.new.self
    (ticks c.args.moment c.in_ok-expiry.expiry p c.tick.new.self c.requires.can_tick c.tick.ensures.settings c.in_ok-expiry.ensures.stands) c.in_ok-settle.ensures.rests

pub returns-clause-serves : goal.returns-clause-serves
returns-clause-serves c =
    let p = c.args.self.now in
    let q : Proxy = record p { client = c.tick.new.self } in
    let mid : Proxy = record p { client = c.tick.new.self; moment = Some c.args.moment } in
    serves_by p mid c.settle.new.self
    (λ s. with_moment q (Some c.args.moment)
    (event_serves (on.tick c.args.moment) (expiry_of c.in_ok-expiry.expiry) p c.tick.new.self c.tick.ensures.settings c.in_ok-expiry.ensures.stands tt c.requires.can_tick s))
    c.in_ok-settle.ensures.serves

pub returns-clause-replies : goal.returns-clause-replies
returns-clause-replies c =
    let q : Proxy = record c.args.self.now { client = c.tick.new.self } in
    replies_by (tick c.args.moment) done c.args.self.now (record q { moment = Some c.args.moment }) c.settle.new.self
    (ticks c.args.moment c.in_ok-expiry.expiry c.args.self.now c.tick.new.self c.requires.can_tick c.tick.ensures.settings c.in_ok-expiry.ensures.stands)
    (λ s. with_moment q (Some c.args.moment)
    (event_serves (on.tick c.args.moment) (expiry_of c.in_ok-expiry.expiry) c.args.self.now c.tick.new.self c.tick.ensures.settings c.in_ok-expiry.ensures.stands tt c.requires.can_tick s))
    (record { client = (c.in_ok-expiry.expiry, client_adds (on.tick c.args.moment) _ c.args.self.now.client c.tick.new.self c.in_ok-expiry.ensures.stands); server = refl; unsent = refl; sent = refl })
    c.in_ok-settle.ensures.replies

pub returns-clause-expiry : goal.returns-clause-expiry
returns-clause-expiry c = (c.tick.new.self, c.in_ok-expiry.ensures.stands)
