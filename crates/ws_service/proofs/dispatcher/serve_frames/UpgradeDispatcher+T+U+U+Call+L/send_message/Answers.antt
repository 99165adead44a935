use Rattle.std.proofs.Common.{Some, [], refl, sym, ap, ◌∙◌, inl, inr, arith}
use Rattle.ws_frames.specs.Sent.{message_says}
use Rattle.model_h1.specs.Event as on
use Rattle.h1_connection.specs.State.{TakesNoMemory}
use Rattle.ws_service.specs.declared.dispatcher.Ending.TheVariants.{Broken}
use Rattle.ws_service.specs.View.{view_of, stage_of}
use Rattle.ws_service.specs.Steps.{sent, unsent}
use Rattle.ws_service.proofs.Runs.{goes_by, lacks}
use Rattle.ws_service.proofs.Moves.{unchanged, wanted, any_message, sent_step, unsent_step}
use Rattle.ws_service.proofs.dispatcher.serve_frames.UpgradeDispatcher+T+U+U+Call+L.send_message.Goals as goal

pub step-requires : goal.step-requires
step-requires g c = record { allowed = any_message _ _ _ c.requires.allowed }

pub returns-in-Ok-clause-says : goal.returns-in-Ok-clause-says
returns-in-Ok-clause-says g c =
    let v = view_of g.T.Transport.wiring g.U.Service.served g.L.Recorder.noted g.L.Recorder.is_listening c.args.self.now in
    let w = view_of g.T.Transport.wiring g.U.Service.served g.L.Recorder.noted g.L.Recorder.is_listening (record c.args.self.now { traced = c.step.new.self; work = c.replace.new.dest }) in
    goes_by 1 (omega arith) v w (sent c.in-Sending.message) 1
    (sent_step v w c.in-Sending.message c.in-Ok.field-0 c.requires.running (ap (λ x. stage_of x) (sym c.replace.ensures.value ∙ c.in-Sending.is)) c.requires.allowed
    (rw c.new.ensures at c.in-Ok.ensures.stands) c.step.ensures.settings (unchanged w v.listening c.step.ensures.listening) (ap (λ x. stage_of x) c.replace.ensures.after)) tt (omega arith)

pub returns-clause-says : goal.returns-clause-says
returns-clause-says g c =
    let v = view_of g.T.Transport.wiring g.U.Service.served g.L.Recorder.noted g.L.Recorder.is_listening c.args.self.now in
    let w = view_of g.T.Transport.wiring g.U.Service.served g.L.Recorder.noted g.L.Recorder.is_listening (record c.args.self.now { traced = c.step.new.self; work = c.replace.new.dest; ending = Some Broken }) in
    lacks 1 (omega arith) v w (unsent c.in-Sending.message) refl
    (unsent_step v w c.in-Sending.message c.requires.running (ap (λ x. stage_of x) (sym c.replace.ensures.value ∙ c.in-Sending.is)) c.requires.allowed
    (rw c.new.ensures at c.in-Err.ensures.err) (unchanged w v.listening c.step.ensures.listening) (ap (λ x. stage_of x) c.replace.ensures.after)
    (wanted (TakesNoMemory v.traced.state (on.send (message_says c.in-Sending.message))) v.listening (rw c.new.ensures at c.in-Err.ensures.no_memory_needed)))
    (inr (inl (c.in-Sending.message, ([], refl, tt))))
