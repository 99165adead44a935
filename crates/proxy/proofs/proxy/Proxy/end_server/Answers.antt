use Rattle.std.proofs.Common.{Some, sym}
use Rattle.model_client.specs.ClientEvent as asked
use Rattle.proxy.proofs.EventMoves.{allows_of, server_ends}
use Rattle.proxy.proofs.Served.{with_server}
use Rattle.proxy.proofs.EventReplies.{adds_to}
use Rattle.std.proofs.Common.{refl}
use Rattle.proxy.proofs.proxy.Proxy.end_server.Goals as goal

pub eof-requires : goal.eof-requires
eof-requires c = record { can_read = allows_of asked.eof _ c.in-Some.server (sym c.in-Some.ensures.value) c.requires.can_read_server }

pub returns-clause-goes : goal.returns-clause-goes
returns-clause-goes c =
    server_ends c.args.self.now c.in-Some.server c.eof.new.self (sym c.in-Some.ensures.value) c.eof.ensures.settings c.eof.ensures.stands

pub returns-clause-serves : goal.returns-clause-serves
returns-clause-serves c = with_server c.args.self.now (Some c.eof.new.self)

pub returns-clause-replies : goal.returns-clause-replies
returns-clause-replies c =
    record { client = refl; server = adds_to asked.eof _ c.args.self.now.server c.in-Some.server c.eof.new.self (sym c.in-Some.ensures.value) c.eof.ensures.stands; unsent = refl; sent = refl }
