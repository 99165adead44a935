use Rattle.std.proofs.Common.{None, ◌∙◌, subst, []}
use Rattle.h1_connection.specs.State.{State}
use Rattle.proxy_heads.specs.declared.refusal.Refusal.{Refusal}
use Rattle.proxy.proofs.Moves.{goes_then, closes}
use Rattle.proxy.proofs.Work.{less_then, closes_less, noted_less}
use Rattle.proxy.proofs.Served.{noted_idle, noted_no_reply}
use Rattle.proxy.proofs.Replies.{noted_client, noted_unsent, noted_sent, noted_server, dropped}
use Rattle.proxy.specs.Replies.{refusal_part, PutsLast}
use Rattle.proxy.proofs.proxy.Proxy.decline.Goals as goal

pub returns-clause-goes : goal.returns-clause-goes
returns-clause-goes c = goes_then _ _ _ (closes c.args.self.now) (goes_then _ _ _ c.note_request.ensures.goes c.in_ok-reply.ensures.goes)

pub returns-clause-works : goal.returns-clause-works
returns-clause-works c =
    less_then 0 c.args.self.now (record c.args.self.now { server = None }) _ (closes_less c.args.self.now)
    (less_then 0 _ c.note_request.new.self _ (noted_less _ _ c.note_request.ensures.noted) c.in_ok-reply.ensures.works)

pub returns-clause-serves : goal.returns-clause-serves
returns-clause-serves c = λ x.
    let p = record c.args.self.now { server = None } in
    c.in_ok-reply.ensures.serves
    (noted_idle p _ c.note_request.ensures.noted (record { unsent = c.requires.idle.unsent; sent = c.requires.idle.sent }))
    (noted_no_reply p _ c.note_request.ensures.noted (record { told = x.told; complete = x.complete; waited = x.waited }))

pub returns-clause-replies : goal.returns-clause-replies
returns-clause-replies c =
    let p = record c.args.self.now { server = None } in
    let by = c.refusal_of-refusal.ensures in (
      by.0,
      by.2,
      subst (λ (r : Refusal). PutsLast [] (refusal_part r) c.args.self.now.client c.reply.new.self.client) by.1
          (subst (λ (s : State). PutsLast [] (refusal_part c.refusal_of-refusal.result) s c.reply.new.self.client) (noted_client p _ c.note_request.ensures.noted)
          c.in_ok-reply.ensures.replies),
      dropped c.note_request.new.self c.reply.new.self
          (noted_unsent p _ c.note_request.ensures.noted ∙ c.requires.idle.unsent)
          (noted_sent p _ c.note_request.ensures.noted ∙ c.requires.idle.sent)
          (noted_server p _ c.note_request.ensures.noted) c.in_ok-reply.ensures.idle c.in_ok-reply.ensures.server,
    )

pub returns-clause-keeps : goal.returns-clause-keeps
returns-clause-keeps c =
    let p = record c.args.self.now { server = None } in (
      (c.in_ok-reply.ensures.idle (noted_idle p _ c.note_request.ensures.noted (record { unsent = c.requires.idle.unsent; sent = c.requires.idle.sent }))).sent,
      c.in_ok-reply.ensures.server ∙ noted_server p _ c.note_request.ensures.noted,
    )
