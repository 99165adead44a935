use Rattle.proxy.specs.Wants.{Wants, WantsNext}
use Rattle.proxy.proofs.Moves.{goes_then, client_done, from_head}
use Rattle.model_h1.specs.Event as on
use Rattle.proxy.proofs.Work.{works_more, works_noted, head_less, fault_works, idle_rests}
use Rattle.std.proofs.Common.{subst}
use Rattle.h1_connection.specs.declared.connection.heads.NextHead.{NextHead}
use Rattle.proxy.specs.Sides.{BringsNext}
use Rattle.proxy.specs.Leaves.{LeavesNext}
use Rattle.proxy.proofs.Served.{client_serves, head_opens, noted_serves}
use Rattle.std.proofs.Common.{sym, [], refl, inl, ◌∙◌}
use Rattle.proxy.specs.Replies.{nothing_put}
use Rattle.proxy.proofs.BodyMarks.{idle_body}
use Rattle.proxy.proofs.Replies.{head_replies, head_keeps, no_part_put, idle_cause, noted_unsent, noted_client, noted_sent, noted_server, closed_replies}
use Rattle.proxy.specs.Puts.{Puts, HandsNext}
use Rattle.proxy.proofs.Below.{below_same, below_as, keeps_below}
use Rattle.proxy.proofs.proxy.Proxy.take_head.Goals as goal

pub open-requires : goal.open-requires
open-requires c = record { idle = record { unsent = c.requires.idle.unsent; sent = c.requires.idle.sent } }

pub returns-in_ok-open-in-Head-clause-goes : goal.returns-in_ok-open-in-Head-clause-goes
returns-in_ok-open-in-Head-clause-goes c = from_head c.in-Head.item c.args.self.now _ c.next_head.new.client c.requires.idle (subst (λ (n : NextHead). BringsNext n c.args.self.now.client c.next_head.new.client) c.in-Head.is c.in_ok-item.ensures.brings) c.in_ok-open-in-Head.ensures.goes

pub returns-in_ok-note_fault-in-Fault-clause-goes : goal.returns-in_ok-note_fault-in-Fault-clause-goes
returns-in_ok-note_fault-in-Fault-clause-goes c = goes_then _ _ _ (client_done c.args.self.now c.next_head.new.client (subst (λ (n : NextHead). BringsNext n c.args.self.now.client c.next_head.new.client) c.in-Fault.is c.in_ok-item.ensures.brings)) c.in_ok-note_fault-in-Fault.ensures.goes

pub returns-in-Pending-clause-goes : goal.returns-in-Pending-clause-goes
returns-in-Pending-clause-goes c = client_done c.args.self.now c.next_head.new.client (subst (λ (n : NextHead). BringsNext n c.args.self.now.client c.next_head.new.client) c.in-Pending.is c.in_ok-item.ensures.brings)

pub returns-in-Closed-clause-goes : goal.returns-in-Closed-clause-goes
returns-in-Closed-clause-goes c = client_done c.args.self.now c.next_head.new.client (subst (λ (n : NextHead). BringsNext n c.args.self.now.client c.next_head.new.client) c.in-Closed.is c.in_ok-item.ensures.brings)

pub returns-in_ok-open-in-Head-clause-works : goal.returns-in_ok-open-in-Head-clause-works
returns-in_ok-open-in-Head-clause-works c =
    works_more c.args.self.now (record c.args.self.now { client = c.next_head.new.client }) _
    (head_less c.in-Head.item c.args.self.now c.next_head.new.client (subst (λ (n : NextHead). BringsNext n c.args.self.now.client c.next_head.new.client) c.in-Head.is c.in_ok-item.ensures.brings) (subst (λ (n : NextHead). LeavesNext n c.args.self.now.client c.next_head.new.client) c.in-Head.is c.in_ok-item.ensures.leaves)) c.in_ok-open-in-Head.ensures.works

pub returns-in_ok-note_fault-in-Fault-clause-works : goal.returns-in_ok-note_fault-in-Fault-clause-works
returns-in_ok-note_fault-in-Fault-clause-works c = works_noted _ _ _ (fault_works on.done c.args.self.now c.next_head.new.client (subst (λ (n : NextHead). BringsNext n c.args.self.now.client c.next_head.new.client) c.in-Fault.is c.in_ok-item.ensures.brings) (subst (λ (n : NextHead). LeavesNext n c.args.self.now.client c.next_head.new.client) c.in-Fault.is c.in_ok-item.ensures.leaves)) c.in_ok-note_fault-in-Fault.ensures.noted

pub returns-in-Pending-clause-works : goal.returns-in-Pending-clause-works
returns-in-Pending-clause-works c = idle_rests on.done c.args.self.now c.next_head.new.client c.requires.idle (subst (λ (n : NextHead). BringsNext n c.args.self.now.client c.next_head.new.client) c.in-Pending.is c.in_ok-item.ensures.brings) (subst (λ (n : NextHead). LeavesNext n c.args.self.now.client c.next_head.new.client) c.in-Pending.is c.in_ok-item.ensures.leaves)
    c.requires.goes_on

pub returns-in-Closed-clause-works : goal.returns-in-Closed-clause-works
returns-in-Closed-clause-works c = idle_rests on.done c.args.self.now c.next_head.new.client c.requires.idle (subst (λ (n : NextHead). BringsNext n c.args.self.now.client c.next_head.new.client) c.in-Closed.is c.in_ok-item.ensures.brings) (subst (λ (n : NextHead). LeavesNext n c.args.self.now.client c.next_head.new.client) c.in-Closed.is c.in_ok-item.ensures.leaves)
    c.requires.goes_on

pub returns-in_ok-open-in-Head-clause-serves : goal.returns-in_ok-open-in-Head-clause-serves
returns-in_ok-open-in-Head-clause-serves c = λ s.
    let x = head_opens c.in-Head.item c.args.self.now c.next_head.new.client (subst (λ (n : NextHead). BringsNext n c.args.self.now.client c.next_head.new.client) c.in-Head.is c.in_ok-item.ensures.brings) (subst (λ (n : NextHead). Wants (WantsNext n) c.args.self.now.client c.next_head.new.client) c.in-Head.is c.in_ok-item.ensures.wants) s in
    c.in_ok-open-in-Head.ensures.serves x.0 x.1 x.2 x.3

pub returns-in_ok-note_fault-in-Fault-clause-serves : goal.returns-in_ok-note_fault-in-Fault-clause-serves
returns-in_ok-note_fault-in-Fault-clause-serves c = λ s.
    noted_serves (record c.args.self.now { client = c.next_head.new.client }) _ c.in_ok-note_fault-in-Fault.ensures.noted
    (client_serves on.done c.args.self.now c.next_head.new.client (subst (λ (n : NextHead). BringsNext n c.args.self.now.client c.next_head.new.client) c.in-Fault.is c.in_ok-item.ensures.brings) (subst (λ (n : NextHead). Wants (WantsNext n) c.args.self.now.client c.next_head.new.client) c.in-Fault.is c.in_ok-item.ensures.wants) s)

pub returns-in-Pending-clause-serves : goal.returns-in-Pending-clause-serves
returns-in-Pending-clause-serves c = client_serves on.done c.args.self.now c.next_head.new.client (subst (λ (n : NextHead). BringsNext n c.args.self.now.client c.next_head.new.client) c.in-Pending.is c.in_ok-item.ensures.brings) (subst (λ (n : NextHead). Wants (WantsNext n) c.args.self.now.client c.next_head.new.client) c.in-Pending.is c.in_ok-item.ensures.wants)

pub returns-in-Closed-clause-serves : goal.returns-in-Closed-clause-serves
returns-in-Closed-clause-serves c = client_serves on.done c.args.self.now c.next_head.new.client (subst (λ (n : NextHead). BringsNext n c.args.self.now.client c.next_head.new.client) c.in-Closed.is c.in_ok-item.ensures.brings) (subst (λ (n : NextHead). Wants (WantsNext n) c.args.self.now.client c.next_head.new.client) c.in-Closed.is c.in_ok-item.ensures.wants)

pub returns-in_ok-open-in-Head-clause-replies : goal.returns-in_ok-open-in-Head-clause-replies
returns-in_ok-open-in-Head-clause-replies c =
    head_replies c.args.self.now _ c.in-Head.item c.next_head.new.client c.requires.idle
    (subst (λ (n : NextHead). HandsNext n c.args.self.now.client c.next_head.new.client) c.in-Head.is c.in_ok-item.ensures.hands) c.in_ok-open-in-Head.ensures.replies

pub returns-in_ok-note_fault-in-Fault-clause-replies : goal.returns-in_ok-note_fault-in-Fault-clause-replies
returns-in_ok-note_fault-in-Fault-clause-replies c =
    no_part_put c.args.self.now _ (idle_cause c.args.self.now _ c.requires.idle)
    (subst (Puts [] c.args.self.now.client) (sym (noted_client (record c.args.self.now { client = c.next_head.new.client }) _ c.in_ok-note_fault-in-Fault.ensures.noted))
    (subst (λ (n : NextHead). HandsNext n c.args.self.now.client c.next_head.new.client) c.in-Fault.is c.in_ok-item.ensures.hands))
    (idle_body nothing_put c.args.self.now c.note_fault.new.self c.requires.idle.sent)
    (noted_unsent (record c.args.self.now { client = c.next_head.new.client }) _ c.in_ok-note_fault-in-Fault.ensures.noted)

pub returns-in-Pending-clause-replies : goal.returns-in-Pending-clause-replies
returns-in-Pending-clause-replies c =
    no_part_put c.args.self.now (record c.args.self.now { client = c.next_head.new.client }) (idle_cause c.args.self.now _ c.requires.idle)
    (subst (λ (n : NextHead). HandsNext n c.args.self.now.client c.next_head.new.client) c.in-Pending.is c.in_ok-item.ensures.hands)
    (idle_body nothing_put c.args.self.now (record c.args.self.now { client = c.next_head.new.client }) c.requires.idle.sent) refl

pub returns-in-Closed-clause-replies : goal.returns-in-Closed-clause-replies
returns-in-Closed-clause-replies c =
    let x = subst (λ (n : NextHead). HandsNext n c.args.self.now.client c.next_head.new.client) c.in-Closed.is c.in_ok-item.ensures.hands in
    closed_replies c.args.self.now c.next_head.new.client c.requires.idle c.requires.going x.0.0 x.1

pub returns-in_ok-open-in-Head-clause-keeps : goal.returns-in_ok-open-in-Head-clause-keeps
returns-in_ok-open-in-Head-clause-keeps c =
    head_keeps c.args.self.now (record c.args.self.now { client = c.next_head.new.client }) c.open.new.self c.in-Head.item refl refl
    (subst (λ (n : NextHead). HandsNext n c.args.self.now.client c.next_head.new.client) c.in-Head.is c.in_ok-item.ensures.hands) c.in_ok-open-in-Head.ensures.keeps

pub returns-in_ok-note_fault-in-Fault-clause-keeps : goal.returns-in_ok-note_fault-in-Fault-clause-keeps
returns-in_ok-note_fault-in-Fault-clause-keeps c = λ idle. (
  noted_sent (record c.args.self.now { client = c.next_head.new.client }) _ c.in_ok-note_fault-in-Fault.ensures.noted ∙ idle.sent,
  inl (noted_server (record c.args.self.now { client = c.next_head.new.client }) _ c.in_ok-note_fault-in-Fault.ensures.noted),
)

pub returns-in-Pending-clause-keeps : goal.returns-in-Pending-clause-keeps
returns-in-Pending-clause-keeps c = λ idle. (idle.sent, inl refl)

pub returns-in-Closed-clause-keeps : goal.returns-in-Closed-clause-keeps
returns-in-Closed-clause-keeps c = λ idle. (idle.sent, inl refl)

pub returns-in_ok-open-in-Head-clause-below : goal.returns-in_ok-open-in-Head-clause-below
returns-in_ok-open-in-Head-clause-below c = keeps_below _ c.args.self.now.server _ c.in_ok-open-in-Head.ensures.keeps.1

pub returns-in_ok-note_fault-in-Fault-clause-below : goal.returns-in_ok-note_fault-in-Fault-clause-below
returns-in_ok-note_fault-in-Fault-clause-below c =
    below_as c.args.self.now.server _ (noted_server (record c.args.self.now { client = c.next_head.new.client }) _ c.in_ok-note_fault-in-Fault.ensures.noted)

pub returns-in-Pending-clause-below : goal.returns-in-Pending-clause-below
returns-in-Pending-clause-below c = below_same c.args.self.now.server

pub returns-in-Closed-clause-below : goal.returns-in-Closed-clause-below
returns-in-Closed-clause-below c = below_same c.args.self.now.server
