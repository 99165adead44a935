use Rattle.std.proofs.Common.{sym, ap, ◌∙◌}
use Rattle.std.proofs.lemmas.Bool.{false≢true}
use Rattle.proxy.specs.Puts.{is_sound}
use Rattle.proxy.proofs.upstream.is_read_up.Goals as goal

pub returns-then-not-can_next-clause-unread : goal.returns-then-not-can_next-clause-unread
returns-then-not-can_next-clause-unread c = λ _ up. false≢true (sym c.if-not-can_next.true ∙ c.can_next.ensures ∙ up.next)

pub returns-clause-read : goal.returns-clause-read
returns-clause-read c = λ is. record {
  next = sym c.can_next.ensures ∙ c.if-not-can_next.false;
  sound = sym (ap is_sound c.closing.ensures) ∙ sym c.is_sound.ensures ∙ is;
}

pub returns-clause-unread : goal.returns-clause-unread
returns-clause-unread c = λ is up. false≢true (sym is ∙ c.is_sound.ensures ∙ ap is_sound c.closing.ensures ∙ up.sound)
