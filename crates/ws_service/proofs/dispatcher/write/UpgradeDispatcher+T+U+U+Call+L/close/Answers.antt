use Rattle.std.proofs.Common.{rules, refl, ap, is_some, inr}
use Rattle.h1_connection.specs.EventMeaning.{setting_of}
use Rattle.ws_service.specs.View.{view_of}
use Rattle.ws_service.proofs.Turns.{end_then, held_idle}
use Rattle.ws_service.proofs.Runs.{stays_foreign}
use Rattle.ws_service.proofs.Closes.{not_written}
use Rattle.ws_service.proofs.dispatcher.write.UpgradeDispatcher+T+U+U+Call+L.close.Goals as goal

pub returns-then-can_next-clause-says : goal.returns-then-can_next-clause-says
returns-then-can_next-clause-says g c =
    let v = view_of g.T.Transport.wiring g.U.Service.served g.L.Recorder.noted g.L.Recorder.is_listening c.args.self.now in
    let w = view_of g.T.Transport.wiring g.U.Service.served g.L.Recorder.noted g.L.Recorder.is_listening c.tell_end.new.self in
    end_then v w c.tell_end.result c.tell_end.ensures.says

pub returns-then-can_write-clause-says : goal.returns-then-can_write-clause-says
returns-then-can_write-clause-says g c =
    let v = view_of g.T.Transport.wiring g.U.Service.served g.L.Recorder.noted g.L.Recorder.is_listening c.args.self.now in
    held_idle v c.wait.result c.wait.ensures.idle (record { stays = refl; closing = ap is_some c.requires.closing; next = search rules; may_write = search rules })

pub returns-clause-says : goal.returns-clause-says
returns-clause-says g c =
    let v = view_of g.T.Transport.wiring g.U.Service.served g.L.Recorder.noted g.L.Recorder.is_listening c.args.self.now in
    stays_foreign v c.requires.running (inr (not_written (setting_of v.traced.state.settings) v.traced.state.kept (search rules)))
