use Rattle.std.proofs.Common.{ℕ, length, min, sym, ap, ◌∙◌}
use Rattle.model_h1.specs.Event as on
use Rattle.proxy.proofs.EventMoves.{client_nothing, client_reads}
use Rattle.proxy.proofs.Rooms.{client_count, client_has}
use Rattle.proxy.proofs.Served.{event_serves}
use Rattle.proxy.proofs.EventReplies.{client_adds}
use Rattle.std.proofs.Common.{refl, inl, inr}
use Rattle.proxy.proofs.proxy.Proxy.take_from_client.Goals as goal

pub returns-then-client_room-eq0-clause-goes : goal.returns-then-client_room-eq0-clause-goes
returns-then-client_room-eq0-clause-goes c = client_nothing c.args.bytes.now c.args.self.now

pub returns-then-client_room-eq0-clause-serves : goal.returns-then-client_room-eq0-clause-serves
returns-then-client_room-eq0-clause-serves c = λ s. s

pub returns-then-not-can_read-clause-goes : goal.returns-then-not-can_read-clause-goes
returns-then-not-can_read-clause-goes c = client_nothing c.args.bytes.now c.args.self.now

pub returns-then-not-can_read-clause-serves : goal.returns-then-not-can_read-clause-serves
returns-then-not-can_read-clause-serves c = λ s. s

pub returns-clause-goes : goal.returns-clause-goes
returns-clause-goes c =
    client_reads c.args.bytes.now c.in_ok-count.count c.args.self.now c.read.new.self c.read.ensures.settings c.in_ok-count.ensures.stands

pub returns-clause-serves : goal.returns-clause-serves
returns-clause-serves c =
    event_serves (on.read c.args.bytes.now) (on.took c.in_ok-count.count) c.args.self.now c.read.new.self c.read.ensures.settings c.in_ok-count.ensures.stands tt
    (sym (c.can_read.ensures.read c.args.bytes.now) ∙ c.if-not-can_read.false)

pub returns-clause-took : goal.returns-clause-took
returns-clause-took c = λ history all f.
    client_count c.args.bytes.now c.in_ok-count.count c.args.self.now c.read.new.self c.read.ensures.settings c.in_ok-count.ensures.stands history all f
    ∙ ap (λ (n : ℕ). min (length c.args.bytes.now) n)
    (sym (client_has c.args.self.now (λ none. c.if-client_room-eq0.false (c.client_room.ensures ∙ none))))

pub returns-then-client_room-eq0-clause-replies : goal.returns-then-client_room-eq0-clause-replies
returns-then-client_room-eq0-clause-replies c = record { client = inl (refl, refl); server = refl; unsent = refl; sent = refl }

pub returns-then-not-can_read-clause-replies : goal.returns-then-not-can_read-clause-replies
returns-then-not-can_read-clause-replies c = record { client = inl (refl, refl); server = refl; unsent = refl; sent = refl }

pub returns-clause-replies : goal.returns-clause-replies
returns-clause-replies c = record { client = inr (client_adds (on.read c.args.bytes.now) _ c.args.self.now.client c.read.new.self c.in_ok-count.ensures.stands); server = refl; unsent = refl; sent = refl }

pub returns-then-client_room-eq0-clause-nothing : goal.returns-then-client_room-eq0-clause-nothing
returns-then-client_room-eq0-clause-nothing c = λ none. (refl, refl)

pub returns-then-not-can_read-clause-nothing : goal.returns-then-not-can_read-clause-nothing
returns-then-not-can_read-clause-nothing c = λ none. absurd (c.if-client_room-eq0.false (c.client_room.ensures ∙ none))

pub returns-in_err-count-clause-nothing : goal.returns-in_err-count-clause-nothing
returns-in_err-count-clause-nothing c = λ none. absurd (c.if-client_room-eq0.false (c.client_room.ensures ∙ none))

pub returns-clause-nothing : goal.returns-clause-nothing
returns-clause-nothing c = λ none. absurd (c.if-client_room-eq0.false (c.client_room.ensures ∙ none))
