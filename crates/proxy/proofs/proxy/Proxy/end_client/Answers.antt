use Rattle.std.proofs.Common.{sym, ◌∙◌}
use Rattle.model_h1.specs.Event as on
use Rattle.proxy.proofs.EventMoves.{client_end_nothing, client_ends}
use Rattle.proxy.proofs.Served.{event_serves}
use Rattle.proxy.proofs.EventReplies.{client_adds}
use Rattle.std.proofs.Common.{refl, inl, inr}
use Rattle.std.proofs.lemmas.Bool.{false≢true}
use Rattle.proxy.proofs.proxy.Proxy.end_client.Goals as goal

pub returns-then-not-can_read-clause-goes : goal.returns-then-not-can_read-clause-goes
returns-then-not-can_read-clause-goes c = client_end_nothing c.args.self.now (sym c.can_read.ensures.eof ∙ c.if-not-can_read.true)

pub returns-then-not-can_read-clause-serves : goal.returns-then-not-can_read-clause-serves
returns-then-not-can_read-clause-serves c = λ s. s

pub returns-clause-goes : goal.returns-clause-goes
returns-clause-goes c = client_ends c.args.self.now c.eof.new.self (sym c.can_read.ensures.eof ∙ c.if-not-can_read.false) c.eof.ensures.settings c.eof.ensures.stands

pub returns-clause-serves : goal.returns-clause-serves
returns-clause-serves c =
    event_serves on.eof on.done c.args.self.now c.eof.new.self c.eof.ensures.settings c.eof.ensures.stands tt (sym c.can_read.ensures.eof ∙ c.if-not-can_read.false)

pub returns-then-not-can_read-clause-replies : goal.returns-then-not-can_read-clause-replies
returns-then-not-can_read-clause-replies c = record { client = inl (refl, sym c.can_read.ensures.eof ∙ c.if-not-can_read.true); server = refl; unsent = refl; sent = refl }

pub returns-clause-replies : goal.returns-clause-replies
returns-clause-replies c = record { client = inr (sym c.can_read.ensures.eof ∙ c.if-not-can_read.false, client_adds on.eof _ c.args.self.now.client c.eof.new.self c.eof.ensures.stands); server = refl; unsent = refl; sent = refl }

pub returns-then-not-can_read-clause-nothing : goal.returns-then-not-can_read-clause-nothing
returns-then-not-can_read-clause-nothing c = λ no. refl

pub returns-clause-nothing : goal.returns-clause-nothing
returns-clause-nothing c = λ no. absurd (false≢true (sym no ∙ sym c.can_read.ensures.eof ∙ c.if-not-can_read.false))
