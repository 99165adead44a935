use Rattle.model_h1.specs.Event as on
use Rattle.std.specs.Prelude.{take}
use Rattle.model_proxy.specs.Past.{to_client, gave}
use Rattle.proxy.proofs.Moves.{by_then}
use Rattle.proxy.proofs.Work.{rests_by}
use Rattle.proxy.proofs.EventMoves.{client_writes}
use Rattle.proxy.specs.declared.proxy.Proxy.{Proxy}
use Rattle.proxy.proofs.Served.{serves_by, event_serves}
use Rattle.proxy.proofs.EventReplies.{replies_by, client_adds}
use Rattle.std.proofs.Common.{refl}
use Rattle.proxy.proofs.proxy.Proxy.advance_client.Goals as goal

pub returns-clause-goes : goal.returns-clause-goes
returns-clause-goes c =
    let p = c.args.self.now in
    let bytes = take c.args.count p.client.kept.buffered in
    let mid : Proxy = record p { client = c.advance.new.self } in
    by_then (to_client c.args.count) (gave bytes) p mid c.settle.new.self
    (client_writes c.args.count p c.advance.new.self c.advance.ensures.settings c.advance.ensures.stands) c.in_ok-settle.ensures.goes

pub returns-clause-rests : goal.returns-clause-rests
returns-clause-rests c =
    let p = c.args.self.now in
    let bytes = take c.args.count p.client.kept.buffered in
    let mid : Proxy = record p { client = c.advance.new.self } in
    rests_by (to_client c.args.count) (gave bytes) p mid c.settle.new.self
    (client_writes c.args.count p c.advance.new.self c.advance.ensures.settings c.advance.ensures.stands) c.in_ok-settle.ensures.rests

pub returns-clause-serves : goal.returns-clause-serves
returns-clause-serves c =
    let p = c.args.self.now in
    let bytes = take c.args.count p.client.kept.buffered in
    let mid : Proxy = record p { client = c.advance.new.self } in
    serves_by p mid c.settle.new.self
    (event_serves (on.write c.args.count) (on.gave bytes) p c.advance.new.self c.advance.ensures.settings c.advance.ensures.stands tt c.requires.can_write_client)
    c.in_ok-settle.ensures.serves

pub returns-clause-replies : goal.returns-clause-replies
returns-clause-replies c =
    let p = c.args.self.now in
    let bytes = take c.args.count p.client.kept.buffered in
    let mid : Proxy = record p { client = c.advance.new.self } in
    replies_by (to_client c.args.count) (gave bytes) p mid c.settle.new.self
    (client_writes c.args.count p c.advance.new.self c.advance.ensures.settings c.advance.ensures.stands)
    (event_serves (on.write c.args.count) (on.gave bytes) p c.advance.new.self c.advance.ensures.settings c.advance.ensures.stands tt c.requires.can_write_client)
    (record { client = client_adds (on.write c.args.count) _ p.client c.advance.new.self c.advance.ensures.stands; server = refl; unsent = refl; sent = refl }) c.in_ok-settle.ensures.replies
