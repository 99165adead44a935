use Rattle.std.proofs.Common.{Some, [], refl, inl, arith}
use Rattle.model_h1.specs.Event as on
use Rattle.ws_service.specs.declared.dispatcher.Ending.TheVariants.{Broken}
use Rattle.ws_service.specs.View.{view_of}
use Rattle.ws_service.specs.Steps.{failed}
use Rattle.ws_service.proofs.Runs.{lacks}
use Rattle.ws_service.proofs.Moves.{unchanged, heard}
use Rattle.ws_service.proofs.dispatcher.serve_frames.UpgradeDispatcher+T+U+U+Call+L.tell_input_end.Goals as goal

pub returns-in-Ok-clause-says : goal.returns-in-Ok-clause-says
returns-in-Ok-clause-says g c =
    let v = view_of g.T.Transport.wiring g.U.Service.served g.L.Recorder.noted g.L.Recorder.is_listening c.args.self.now in
    let w = view_of g.T.Transport.wiring g.U.Service.served g.L.Recorder.noted g.L.Recorder.is_listening (record c.args.self.now { traced = c.eof.new.self }) in
    record {
      ended = c.requires.ended;
      allowed = c.requires.allowed;
      told = record { steps = c.in-Ok.ensures.stands; settings = c.eof.ensures.settings };
      same = unchanged w v.listening c.eof.ensures.listening;
    }

pub returns-in-Err-clause-says : goal.returns-in-Err-clause-says
returns-in-Err-clause-says g c =
    let v = view_of g.T.Transport.wiring g.U.Service.served g.L.Recorder.noted g.L.Recorder.is_listening c.args.self.now in
    let w = view_of g.T.Transport.wiring g.U.Service.served g.L.Recorder.noted g.L.Recorder.is_listening (record c.args.self.now { traced = c.eof.new.self; ending = Some Broken }) in
    lacks 1 (omega arith) v w (failed on.eof) refl (
      (c.requires.running, c.requires.unasked, c.requires.ended, c.requires.allowed, heard v.listening c.in-Err.ensures.no_memory_needed),
      c.in-Err.ensures.err,
      unchanged w v.listening c.eof.ensures.listening,
    )
    (inl (on.eof, tt, ([], refl, tt)))
