use Rattle.std.proofs.Common.{Some, sym, ◌∙◌}
use Rattle.model_client.specs.ClientEvent as asked
use Rattle.proxy.proofs.EventMoves.{server_nothing, server_reads, allows_of}
use Rattle.proxy.proofs.Served.{with_server}
use Rattle.proxy.proofs.EventReplies.{adds_to}
use Rattle.std.proofs.Common.{refl, inl, inr}
use Rattle.proxy.proofs.proxy.Proxy.take_from_server.Goals as goal

pub returns-then-server_room-eq0-clause-goes : goal.returns-then-server_room-eq0-clause-goes
returns-then-server_room-eq0-clause-goes c = server_nothing c.args.bytes.now c.args.self.now

pub returns-then-server_room-eq0-clause-serves : goal.returns-then-server_room-eq0-clause-serves
returns-then-server_room-eq0-clause-serves c = λ s. s

pub returns-then-not-can_read_server-clause-goes : goal.returns-then-not-can_read_server-clause-goes
returns-then-not-can_read_server-clause-goes c = server_nothing c.args.bytes.now c.args.self.now

pub returns-then-not-can_read_server-clause-serves : goal.returns-then-not-can_read_server-clause-serves
returns-then-not-can_read_server-clause-serves c = λ s. s

pub read-requires : goal.read-requires
read-requires c = record {
  can_read = allows_of (asked.read c.args.bytes.now) _ c.in-Some.server (sym c.in-Some.ensures.value)
      (sym (c.can_read_server.ensures.read c.args.bytes.now) ∙ c.if-not-can_read_server.false);
}

pub returns-clause-goes : goal.returns-clause-goes
returns-clause-goes c =
    server_reads c.args.bytes.now c.in_ok-count.count c.args.self.now c.in-Some.server c.read.new.self (sym c.in-Some.ensures.value)
    c.read.ensures.settings c.in_ok-count.ensures.stands

pub returns-clause-serves : goal.returns-clause-serves
returns-clause-serves c = with_server c.args.self.now (Some c.read.new.self)

pub returns-then-server_room-eq0-clause-replies : goal.returns-then-server_room-eq0-clause-replies
returns-then-server_room-eq0-clause-replies c = record { client = refl; server = inl (refl, refl); unsent = refl; sent = refl }

pub returns-then-not-can_read_server-clause-replies : goal.returns-then-not-can_read_server-clause-replies
returns-then-not-can_read_server-clause-replies c = record { client = refl; server = inl (refl, refl); unsent = refl; sent = refl }

pub returns-clause-replies : goal.returns-clause-replies
returns-clause-replies c =
    record { client = refl; server = inr (adds_to (asked.read c.args.bytes.now) _ c.args.self.now.server c.in-Some.server c.read.new.self (sym c.in-Some.ensures.value) c.in_ok-count.ensures.stands); unsent = refl; sent = refl }

pub returns-then-server_room-eq0-clause-nothing : goal.returns-then-server_room-eq0-clause-nothing
returns-then-server_room-eq0-clause-nothing c = λ none. (refl, refl)

pub returns-then-not-can_read_server-clause-nothing : goal.returns-then-not-can_read_server-clause-nothing
returns-then-not-can_read_server-clause-nothing c = λ none. absurd (c.if-server_room-eq0.false (c.server_room.ensures ∙ none))

pub returns-in_default-clause-nothing : goal.returns-in_default-clause-nothing
returns-in_default-clause-nothing c = λ none. absurd (c.if-server_room-eq0.false (c.server_room.ensures ∙ none))

pub returns-in_err-count-clause-nothing : goal.returns-in_err-count-clause-nothing
returns-in_err-count-clause-nothing c = λ none. absurd (c.if-server_room-eq0.false (c.server_room.ensures ∙ none))

pub returns-clause-nothing : goal.returns-clause-nothing
returns-clause-nothing c = λ none. absurd (c.if-server_room-eq0.false (c.server_room.ensures ∙ none))
