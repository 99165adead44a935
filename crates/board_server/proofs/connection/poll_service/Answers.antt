use Rattle.std.proofs.Common.{[], refl, sym, ap, ◌∙◌, subst}
use Rattle.http_bodies.specs.Values.{holds}
use Rattle.http_services.specs.Serving.{unknown_call}
use Rattle.http_transport.specs.Peer.{PeerAddress}
use Rattle.h1_traced.specs.Traced.{TracedStands}
use Rattle.h1_dispatcher.specs.View.{View, view_of, view_begun, told_service}
use Rattle.board.specs.Work.{Worked, serving_of}
use Rattle.board_server.specs.Serves.{Ends}
use Rattle.board_server.proofs.connection.poll_service.Goals as goal

pub returns-clause-served : goal.returns-clause-served
returns-clause-served g c =
    let transport = g.W.Transport.wiring c.args.transport in
    let noted = g.L.Recorder.noted c.args.recorder in
    let listens = g.L.Recorder.is_listening c.args.recorder in
    let begun =
    c.new-dispatcher.ensures.view
    ∙ ap (λ (p : PeerAddress). view_begun transport (told_service (λ (x : Unit). holds []) (serving_of c.new-service.result.work)) c.args.config p noted listens) c.peer_addr-peer.ensures
    ∙ ap (λ (w : Worked). view_begun transport (told_service (λ (x : Unit). holds []) (serving_of w)) c.args.config (g.W.Transport.peer c.args.transport) noted listens) c.new-service.ensures in
    record {
      last = view_of g.W.Transport.wiring (λ s. serving_of s.work) (λ x. unknown_call) (λ x. holds []) g.L.Recorder.noted g.L.Recorder.is_listening c.poll_as_task-end.new.dispatcher;
      ends =
          subst
          (λ (v : View). Ends c.args.polls (g.K.Clock.may_give c.args.clock) v (view_of g.W.Transport.wiring (λ s. serving_of s.work) (λ x. unknown_call) (λ x. holds []) g.L.Recorder.noted g.L.Recorder.is_listening c.poll_as_task-end.new.dispatcher)
          c.poll_as_task-end.result)
          begun c.poll_as_task-end.ensures.ends;
      transport_is = rw c.into_parts-transport.ensures refl;
      noted_is = rw c.into_parts-transport.ensures refl;
      work = c.into_parts-transport.result.1.work;
      service_is = rw c.into_parts-transport.ensures refl;
      pass_is = sym c.into_pass.ensures.pass;
      kept = c.into_pass.ensures.kept;
    }

pub returns-clause-stands : goal.returns-clause-stands
returns-clause-stands g c = λ unnoted.
    let transport = g.W.Transport.wiring c.args.transport in
    let noted = g.L.Recorder.noted c.args.recorder in
    let listens = g.L.Recorder.is_listening c.args.recorder in
    let begun =
    c.new-dispatcher.ensures.view
    ∙ ap (λ (p : PeerAddress). view_begun transport (told_service (λ (x : Unit). holds []) (serving_of c.new-service.result.work)) c.args.config p noted listens) c.peer_addr-peer.ensures
    ∙ ap (λ (w : Worked). view_begun transport (told_service (λ (x : Unit). holds []) (serving_of w)) c.args.config (g.W.Transport.peer c.args.transport) noted listens) c.new-service.ensures in
    subst (λ (v : View). TracedStands v.traced []) begun (c.new-dispatcher.ensures.stands unnoted)
