use Rattle.std.proofs.Common.{None, refl, sym, ap, ◌∙◌}
use Rattle.ws_dispatcher.specs.View.{view_of}
use Rattle.ws_dispatcher.specs.View.{is_closed, error_kept}
use Rattle.ws_dispatcher.specs.declared.inner.dispatcher.End.TheVariants.{Closed}
use Rattle.ws_dispatcher.proofs.Send.{told_sent, closed_sent}
use Rattle.ws_dispatcher.proofs.Serve.{same_view}
use Rattle.ws_dispatcher.specs.Steps.{Unwritten}
use Rattle.ws_dispatcher.proofs.inner.turn.Dispatcher+S+S+Call+T+U+U+Item+I+S+Error.tell.Goals as goal

pub returns-in-Failed-clause-says : goal.returns-in-Failed-clause-says
returns-in-Failed-clause-says g c =
    let v = view_of g.T.Transport.wiring g.S.Service.served c.args.self.now in
    let w = view_of g.T.Transport.wiring g.S.Service.served (record c.args.self.now { end = c.replace.new.dest }) in
    let was = sym c.replace.ensures.value ∙ c.in-Failed.is in
    told_sent g.U.Decoder.reads g.U.Decoder.given g.U.Decoder.nothing g.U.Decoder.breaks g.U.Decoder.lacks g.U.Decoder.seen g.U.Decoder.leaves g.U.Encoder.writes (Unwritten g.U.Encoder.refuses g.U.Encoder.lacks g.U.Encoder.leaves) v w
    c.in-Failed.error (ap error_kept was) c.requires.sent
    (same_view (record v { failing = None }) w refl refl refl refl refl refl refl refl refl (ap is_closed c.replace.ensures.after ∙ sym (ap is_closed was)) (ap error_kept c.replace.ensures.after) refl)

pub returns-in-Closed-clause-says : goal.returns-in-Closed-clause-says
returns-in-Closed-clause-says g c =
    let v = view_of g.T.Transport.wiring g.S.Service.served c.args.self.now in
    let w = view_of g.T.Transport.wiring g.S.Service.served (record c.args.self.now { end = Closed }) in
    let was = sym c.replace.ensures.value ∙ c.in-Closed.is in
    closed_sent g.U.Decoder.reads g.U.Decoder.given g.U.Decoder.nothing g.U.Decoder.breaks g.U.Decoder.lacks g.U.Decoder.seen g.U.Decoder.leaves g.U.Encoder.writes (Unwritten g.U.Encoder.refuses g.U.Encoder.lacks g.U.Encoder.leaves) v w (ap is_closed was) (ap error_kept was) c.requires.sent
    (same_view v w refl refl refl refl refl refl refl refl refl (sym (ap is_closed was)) (sym (ap error_kept was)) refl)
