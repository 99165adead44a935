use Rattle.std.proofs.Common.{Some, [], refl, sym, ◌∙◌, inl, arith}
use Rattle.model_h1.specs.Event as on
use Rattle.h1_connection.specs.State.{TakesNoMemory}
use Rattle.ws_service.specs.declared.item.UpgradeItem.TheVariants as items
use Rattle.ws_service.specs.declared.dispatcher.Ending.TheVariants.{Broken}
use Rattle.ws_service.specs.declared.dispatcher.Work.TheVariants.{Waiting}
use Rattle.ws_service.specs.declared.dispatcher.serve_frames.Given.TheVariants.{Frame, Nothing, Other}
use Rattle.ws_service.specs.View.{view_of}
use Rattle.ws_service.specs.Steps.{pulled, failed}
use Rattle.ws_service.proofs.Runs.{goes_by, lacks}
use Rattle.ws_service.proofs.Moves.{unchanged, wanted, pulled_step, finds_none}
use Rattle.ws_service.proofs.Turns.{rest_then}
use Rattle.ws_service.proofs.dispatcher.serve_frames.UpgradeDispatcher+T+U+U+Call+L.pull_frame.Goals as goal

pub returns-in-Frame-clause-says : goal.returns-in-Frame-clause-says
returns-in-Frame-clause-says g c =
    let v = view_of g.T.Transport.wiring g.U.Service.served g.L.Recorder.noted g.L.Recorder.is_listening c.args.self.now in
    let w = view_of g.T.Transport.wiring g.U.Service.served g.L.Recorder.noted g.L.Recorder.is_listening (record c.args.self.now { traced = c.step.new.self; work = Waiting (items.Frame c.in-Frame.frame) }) in
    goes_by 3 (omega arith) v w (pulled (Frame c.in-Frame.frame)) 1
    (pulled_step v w c.in-Ok.outcome (Frame c.in-Frame.frame) c.requires.running c.requires.unasked c.requires.allowed (sym c.in-Frame.is ∙ c.given_by.ensures)
    c.in-Ok.ensures.stands c.step.ensures.settings (unchanged w v.listening c.step.ensures.listening) refl) tt (omega arith)

pub returns-in-Nothing-clause-says : goal.returns-in-Nothing-clause-says
returns-in-Nothing-clause-says g c =
    let v = view_of g.T.Transport.wiring g.U.Service.served g.L.Recorder.noted g.L.Recorder.is_listening c.args.self.now in
    let u = view_of g.T.Transport.wiring g.U.Service.served g.L.Recorder.noted g.L.Recorder.is_listening (record c.args.self.now { traced = c.step.new.self }) in
    let w = view_of g.T.Transport.wiring g.U.Service.served g.L.Recorder.noted g.L.Recorder.is_listening c.rest.new.self in
    let same = unchanged u v.listening c.step.ensures.listening in
    let gives = sym c.in-Nothing.is ∙ c.given_by.ensures in
    rest_then 3 (omega arith) v u w c.rest.result c.requires.running c.requires.unasked c.requires.allowed
    (finds_none v u c.in-Ok.outcome gives c.in-Ok.ensures.stands c.step.ensures.settings same)
    (pulled_step v u c.in-Ok.outcome Nothing c.requires.running c.requires.unasked c.requires.allowed gives c.in-Ok.ensures.stands c.step.ensures.settings same c.requires.unasked)
    c.rest.ensures.says

pub returns-in-Other-clause-says : goal.returns-in-Other-clause-says
returns-in-Other-clause-says g c =
    let v = view_of g.T.Transport.wiring g.U.Service.served g.L.Recorder.noted g.L.Recorder.is_listening c.args.self.now in
    let w = view_of g.T.Transport.wiring g.U.Service.served g.L.Recorder.noted g.L.Recorder.is_listening (record c.args.self.now { traced = c.step.new.self }) in
    goes_by 3 (omega arith) v w (pulled Other) 1
    (pulled_step v w c.in-Ok.outcome Other c.requires.running c.requires.unasked c.requires.allowed (sym c.in-Other.is ∙ c.given_by.ensures)
    c.in-Ok.ensures.stands c.step.ensures.settings (unchanged w v.listening c.step.ensures.listening) c.requires.unasked) tt (omega arith)

pub returns-in-Err-clause-says : goal.returns-in-Err-clause-says
returns-in-Err-clause-says g c =
    let v = view_of g.T.Transport.wiring g.U.Service.served g.L.Recorder.noted g.L.Recorder.is_listening c.args.self.now in
    let w = view_of g.T.Transport.wiring g.U.Service.served g.L.Recorder.noted g.L.Recorder.is_listening (record c.args.self.now { traced = c.step.new.self; ending = Some Broken }) in
    lacks 3 (omega arith) v w (failed on.pull) refl (
      (c.requires.running, c.requires.unasked, c.requires.allowed, wanted (TakesNoMemory v.traced.state on.pull) v.listening c.in-Err.ensures.no_memory_needed),
      c.in-Err.ensures.err,
      unchanged w v.listening c.step.ensures.listening,
    )
    (inl (on.pull, tt, ([], refl, tt)))
