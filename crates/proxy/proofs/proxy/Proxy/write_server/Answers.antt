use Rattle.std.proofs.Common.{Some, sym}
use Rattle.model_client.specs.ClientEvent as asked
use Rattle.proxy.proofs.EventMoves.{allows_of, text_of, server_writes}
use Rattle.proxy.proofs.Served.{with_server}
use Rattle.proxy.proofs.EventReplies.{write_adds_to}
use Rattle.std.proofs.Common.{refl}
use Rattle.proxy.proofs.proxy.Proxy.write_server.Goals as goal

pub advance-requires : goal.advance-requires
advance-requires c = record {
  can_write = allows_of (asked.write c.args.count) _ c.in-Some.server (sym c.in-Some.ensures.value) c.requires.can_write_server;
  fits = text_of c.args.count _ c.in-Some.server (sym c.in-Some.ensures.value) c.requires.fits;
}

pub returns-clause-goes : goal.returns-clause-goes
returns-clause-goes c =
    server_writes c.args.count c.args.self.now c.in-Some.server c.advance.new.self (sym c.in-Some.ensures.value) c.advance.ensures.settings c.advance.ensures.stands

pub returns-clause-serves : goal.returns-clause-serves
returns-clause-serves c = with_server c.args.self.now (Some c.advance.new.self)

pub returns-clause-replies : goal.returns-clause-replies
returns-clause-replies c =
    record { client = refl; server = write_adds_to c.args.count c.args.self.now.server c.in-Some.server c.advance.new.self (sym c.in-Some.ensures.value) c.advance.ensures.stands; unsent = refl; sent = refl }
