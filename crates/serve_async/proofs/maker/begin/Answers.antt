use Rattle.std.proofs.Common.{None, false, sym, ap, ◌∙◌}
use Rattle.http_transport.specs.Peer.{PeerAddress}
use Rattle.h1_dispatcher.specs.View.{view_begun, told_service}
use Rattle.serve_async.proofs.maker.begin.Goals as goal

pub returns-clause-begun : goal.returns-clause-begun
returns-clause-begun g c =
    let transport = g.T.Transport.wiring c.args.connection in
    let service = told_service g.B.MessageBody.gives (g.S.Service.served c.args.service) in
    record {
      transport = transport;
      fresh = c.requires;
      service = service;
      settings = c.args.config;
      is =
          c.new-dispatcher.ensures.view
          ∙ ap (λ (p : PeerAddress). view_begun transport service c.args.config p None false) (c.peer_addr-peer.ensures ∙ ap g.T.Transport.peer (sym c.new-dispatcher.ensures.transport));
    }
