use Rattle.std.proofs.Common.{Some, sym, inl, inr, refl, ◌∙◌}
use Rattle.model_h1.specs.Event as on
use Rattle.proxy.proofs.Moves.{client_done, from_any, from_then, waits_from}
use Rattle.proxy.proofs.Work.{more_of, more_then, waits_more, client_less}
use Rattle.proxy.proofs.Served.{waits_serves, old_serves}
use Rattle.proxy.proofs.proxy.Proxy.open.Goals as goal

pub returns-then-not-is_forwardable-clause-goes : goal.returns-then-not-is_forwardable-clause-goes
returns-then-not-is_forwardable-clause-goes c = from_any c.args.item _ _ c.in_ok-decline.ensures.goes

pub returns-then-is_old-clause-goes : goal.returns-then-is_old-clause-goes
returns-then-is_old-clause-goes c =
    waits_from c.args.item c.args.self.now c.in_ok-unsent.unsent c.requires.idle (λ h says. sym (c.is_forwardable.ensures h says) ∙ c.if-not-is_forwardable.false)
    c.in_ok-unsent.ensures.unsent

pub returns-clause-goes : goal.returns-clause-goes
returns-clause-goes c =
    let q = record c.args.self.now { unsent = Some c.in_ok-unsent.unsent } in
    from_then c.args.item c.args.self.now q _
    (waits_from c.args.item c.args.self.now c.in_ok-unsent.unsent c.requires.idle (λ h says. sym (c.is_forwardable.ensures h says) ∙ c.if-not-is_forwardable.false)
    c.in_ok-unsent.ensures.unsent)
    (client_done q c.tell_to_continue.new.client c.in_ok-tell_to_continue.ensures.brings)

pub returns-then-not-is_forwardable-clause-works : goal.returns-then-not-is_forwardable-clause-works
returns-then-not-is_forwardable-clause-works c = more_of 3 c.args.self.now _ c.in_ok-decline.ensures.works

pub returns-then-is_old-clause-works : goal.returns-then-is_old-clause-works
returns-then-is_old-clause-works c = waits_more c.args.self.now c.in_ok-unsent.unsent

pub returns-clause-works : goal.returns-clause-works
returns-clause-works c =
    let q = record c.args.self.now { unsent = Some c.in_ok-unsent.unsent } in
    more_then 3 c.args.self.now q _ (waits_more c.args.self.now c.in_ok-unsent.unsent) (client_less on.done q c.tell_to_continue.new.client c.in_ok-tell_to_continue.ensures.brings)

pub returns-then-not-is_forwardable-clause-serves : goal.returns-then-not-is_forwardable-clause-serves
returns-then-not-is_forwardable-clause-serves c = λ h says x told. c.in_ok-decline.ensures.serves x.0

pub returns-then-is_old-clause-serves : goal.returns-then-is_old-clause-serves
returns-then-is_old-clause-serves c = λ h says x told.
    old_serves _ c.args.self.now c.in_ok-unsent.unsent c.requires.idle.sent c.in_ok-unsent.ensures.unanswered (c.in_ok-unsent.ensures.asked h says) x
    (told (sym (c.is_old-is_old.ensures h says) ∙ c.if-is_old.true))

pub returns-clause-serves : goal.returns-clause-serves
returns-clause-serves c = λ h says x told.
    waits_serves _ c.args.self.now c.tell_to_continue.new.client c.in_ok-unsent.unsent c.requires.idle.sent c.in_ok-unsent.ensures.unanswered (c.in_ok-unsent.ensures.asked h says)
    c.in_ok-tell_to_continue.ensures.brings c.in_ok-tell_to_continue.ensures.wants c.in_ok-tell_to_continue.ensures.told x

pub returns-then-not-is_forwardable-clause-replies : goal.returns-then-not-is_forwardable-clause-replies
returns-then-not-is_forwardable-clause-replies c =
    inr (λ h says. sym (c.is_forwardable.ensures h says) ∙ c.if-not-is_forwardable.true, c.in_ok-decline.ensures.replies)

pub returns-then-is_old-clause-replies : goal.returns-then-is_old-clause-replies
returns-then-is_old-clause-replies c =
    inl (
      λ h says. sym (c.is_forwardable.ensures h says) ∙ c.if-not-is_forwardable.false,
      inr (λ h says. sym (c.is_old-is_old.ensures h says) ∙ c.if-is_old.true, refl),
      c.in_ok-unsent.unsent,
      refl,
      λ h says. c.in_ok-unsent.ensures.unsent h says (sym (c.is_forwardable.ensures h says) ∙ c.if-not-is_forwardable.false),
    )

pub returns-clause-replies : goal.returns-clause-replies
returns-clause-replies c =
    inl (
      λ h says. sym (c.is_forwardable.ensures h says) ∙ c.if-not-is_forwardable.false,
      inl (λ h says. sym (c.is_old-is_old.ensures h says) ∙ c.if-is_old.false, c.in_ok-tell_to_continue.ensures.puts),
      c.in_ok-unsent.unsent,
      refl,
      λ h says. c.in_ok-unsent.ensures.unsent h says (sym (c.is_forwardable.ensures h says) ∙ c.if-not-is_forwardable.false),
    )

pub returns-then-not-is_forwardable-clause-keeps : goal.returns-then-not-is_forwardable-clause-keeps
returns-then-not-is_forwardable-clause-keeps c =
    (c.in_ok-decline.ensures.keeps.0, inr (c.in_ok-decline.ensures.keeps.1, λ h says. sym (c.is_forwardable.ensures h says) ∙ c.if-not-is_forwardable.true))

pub returns-then-is_old-clause-keeps : goal.returns-then-is_old-clause-keeps
returns-then-is_old-clause-keeps c = (c.requires.idle.sent, inl refl)

pub returns-clause-keeps : goal.returns-clause-keeps
returns-clause-keeps c = (c.requires.idle.sent, inl refl)
