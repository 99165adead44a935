use Rattle.std.proofs.Common.{rules, Some, inr}
use Rattle.model_h1.specs.Event as on
use Rattle.h1_connection.specs.State.{TakesNoMemory}
use Rattle.h1_connection.specs.declared.connection.ticks.Expiry.TheVariants as expiries
use Rattle.ws_service.specs.declared.dispatcher.Ending.TheVariants.{Abandoned, Broken}
use Rattle.ws_service.specs.View.{view_of}
use Rattle.ws_service.proofs.Moves.{unchanged, wanted}
use Rattle.ws_service.proofs.dispatcher.begin.UpgradeDispatcher+T+U+U+Call+L.tick.Goals as goal

pub returns-in-Ok-Abandoned-clause-says : goal.returns-in-Ok-Abandoned-clause-says
returns-in-Ok-Abandoned-clause-says g c =
    let v = view_of g.T.Transport.wiring g.U.Service.served g.L.Recorder.noted g.L.Recorder.is_listening c.args.self.now in
    let w = view_of g.T.Transport.wiring g.U.Service.served g.L.Recorder.noted g.L.Recorder.is_listening (record c.args.self.now { traced = c.tick.new.self; ending = Some Abandoned }) in
    inr (search rules, (expiries.Abandoned, (record { steps = rw c.in-Ok-Abandoned.field-0-is at c.in-Ok-Abandoned.ensures.stands; settings = c.tick.ensures.settings }, unchanged w v.listening c.tick.ensures.listening)))

pub returns-in-Ok-Expired-clause-says : goal.returns-in-Ok-Expired-clause-says
returns-in-Ok-Expired-clause-says g c =
    let v = view_of g.T.Transport.wiring g.U.Service.served g.L.Recorder.noted g.L.Recorder.is_listening c.args.self.now in
    let w = view_of g.T.Transport.wiring g.U.Service.served g.L.Recorder.noted g.L.Recorder.is_listening (record c.args.self.now { traced = c.tick.new.self }) in
    inr (search rules, (expiries.Expired c.in-Ok-Expired.field-0-0, (record { steps = rw c.in-Ok-Expired.field-0-is at c.in-Ok-Expired.ensures.stands; settings = c.tick.ensures.settings }, unchanged w v.listening c.tick.ensures.listening)))

pub returns-in-Ok-None-clause-says : goal.returns-in-Ok-None-clause-says
returns-in-Ok-None-clause-says g c =
    let v = view_of g.T.Transport.wiring g.U.Service.served g.L.Recorder.noted g.L.Recorder.is_listening c.args.self.now in
    let w = view_of g.T.Transport.wiring g.U.Service.served g.L.Recorder.noted g.L.Recorder.is_listening (record c.args.self.now { traced = c.tick.new.self }) in
    inr (search rules, (expiries.None, (record { steps = rw c.in-Ok-None.field-0-is at c.in-Ok-None.ensures.stands; settings = c.tick.ensures.settings }, unchanged w v.listening c.tick.ensures.listening)))

pub returns-in-Err-clause-says : goal.returns-in-Err-clause-says
returns-in-Err-clause-says g c =
    let v = view_of g.T.Transport.wiring g.U.Service.served g.L.Recorder.noted g.L.Recorder.is_listening c.args.self.now in
    let w = view_of g.T.Transport.wiring g.U.Service.served g.L.Recorder.noted g.L.Recorder.is_listening (record c.args.self.now { traced = c.tick.new.self; ending = Some Broken }) in (
      (search rules, wanted (TakesNoMemory v.traced.state (on.tick c.args.moment)) v.listening c.in-Err.ensures.no_memory_needed),
      c.in-Err.ensures.err,
      unchanged w v.listening c.tick.ensures.listening,
    )
