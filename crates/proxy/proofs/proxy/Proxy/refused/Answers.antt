use Rattle.std.proofs.Common.{refl, ◌∙◌}
use Rattle.std.specs.Prelude.{Option, None}
use Rattle.std.proofs.Common.{subst}
use Rattle.model_proxy.specs.Past as event
use Rattle.model_proxy.specs.Past.{done}
use Rattle.proxy.proofs.Moves.{by_then}
use Rattle.proxy.proofs.Work.{rests_by}
use Rattle.proxy.proofs.EventMoves.{refuses}
use Rattle.proxy.specs.Kept.{Goes}
use Rattle.proxy.specs.declared.proxy.Proxy.{Proxy}
use Rattle.proxy.specs.declared.proxy.Unsent.{Unsent}
use Rattle.proxy.proofs.Served.{serves_by, noted_idle, noted_no_reply, refused_no_reply}
use Rattle.proxy.proofs.EventReplies.{refuses_by}
use Rattle.proxy.proofs.Replies.{noted_client, noted_server}
use Rattle.proxy.proofs.proxy.Proxy.refused.Goals as goal

pub returns-clause-goes : goal.returns-clause-goes
returns-clause-goes c =
    let p = c.args.self.now in
    let mid : Proxy = record p { unsent = None; sent = None } in
    let noted = subst (λ (o : Option Unsent). Goes (record p { unsent = o; sent = None }) c.note_unsent.new.self) c.take-unsent.ensures.after c.note_unsent.ensures.goes in
    by_then event.refused done p c.reply.new.self c.settle.new.self
    (by_then event.refused done p c.note_unsent.new.self c.reply.new.self
    (by_then event.refused done p mid c.note_unsent.new.self (refuses p c.requires.wants_server) noted) c.in_ok-reply.ensures.goes)
    c.in_ok-settle.ensures.goes

pub returns-clause-rests : goal.returns-clause-rests
returns-clause-rests c =
    let p = c.args.self.now in
    let mid : Proxy = record p { unsent = None; sent = None } in
    let noted = subst (λ (o : Option Unsent). Goes (record p { unsent = o; sent = None }) c.note_unsent.new.self) c.take-unsent.ensures.after c.note_unsent.ensures.goes in
    rests_by event.refused done p c.reply.new.self c.settle.new.self
    (by_then event.refused done p c.note_unsent.new.self c.reply.new.self
    (by_then event.refused done p mid c.note_unsent.new.self (refuses p c.requires.wants_server) noted) c.in_ok-reply.ensures.goes)
    c.in_ok-settle.ensures.rests

pub returns-clause-serves : goal.returns-clause-serves
returns-clause-serves c =
    let p = c.args.self.now in
    let q = record p { unsent = c.take-unsent.new.self; sent = None } in
    serves_by p c.reply.new.self c.settle.new.self
    (λ s.
    let x = refused_no_reply p c.requires.wants_server s in
    c.in_ok-reply.ensures.serves
    (noted_idle q _ c.note_unsent.ensures.noted (record { unsent = c.take-unsent.ensures.after; sent = refl }))
    (noted_no_reply q _ c.note_unsent.ensures.noted (record { told = x.told; complete = x.complete; waited = x.waited })))
    c.in_ok-settle.ensures.serves

pub returns-clause-replies : goal.returns-clause-replies
returns-clause-replies c =
    let p = c.args.self.now in
    let a : Proxy = record p { unsent = c.take-unsent.new.self; sent = None } in
    let mid : Proxy = record p { unsent = None; sent = None } in
    let noted = subst (λ (o : Option Unsent). Goes (record p { unsent = o; sent = None }) c.note_unsent.new.self) c.take-unsent.ensures.after c.note_unsent.ensures.goes in
    refuses_by p a c.note_unsent.new.self c.reply.new.self c.settle.new.self
    (by_then event.refused done p c.note_unsent.new.self c.reply.new.self
    (by_then event.refused done p mid c.note_unsent.new.self (refuses p c.requires.wants_server) noted) c.in_ok-reply.ensures.goes)
    (λ s.
    let x = refused_no_reply p c.requires.wants_server s in
    c.in_ok-reply.ensures.serves
    (noted_idle a _ c.note_unsent.ensures.noted (record { unsent = c.take-unsent.ensures.after; sent = refl }))
    (noted_no_reply a _ c.note_unsent.ensures.noted (record { told = x.told; complete = x.complete; waited = x.waited })))
    (c.in_ok-reply.ensures.idle (noted_idle a _ c.note_unsent.ensures.noted (record { unsent = c.take-unsent.ensures.after; sent = refl })))
    (c.in_ok-reply.ensures.server ∙ noted_server a _ c.note_unsent.ensures.noted) refl (noted_client a c.note_unsent.new.self c.note_unsent.ensures.noted) c.in_ok-reply.ensures.replies c.in_ok-settle.ensures.replies
