use Rattle.std.proofs.Common.{refl, sym, ap, ◌∙◌}
use Rattle.h1_dispatcher.specs.View.{View, view_of, is_waiting, told_service}
use Rattle.h1_dispatcher.proofs.Held.{accepts_waits}
use Rattle.h1_dispatcher.proofs.dispatcher.upgrade.Dispatcher+T+S+S+Call+L+B.accept.Goals as goal

pub hand_over-requires : goal.hand_over-requires
hand_over-requires g c =
    let v = view_of g.T.Transport.wiring g.S.Service.served g.S.Service.calling g.B.MessageBody.gives g.L.Recorder.noted g.L.Recorder.is_listening c.args.self in
    let says = rw c.in-Ok-None.field-0-is at c.in-Ok-None.ensures.says in
    record { waits = ap (λ (x : View). is_waiting x.stage) says.1 ∙ accepts_waits v c.args.limit c.requires.can_accept }

pub returns-in-Ok-None : goal.returns-in-Ok-None
returns-in-Ok-None g c =
    let says = rw c.in-Ok-None.field-0-is at c.in-Ok-None.ensures.says in
    record {
      says = record {
        request = sym (ap (λ (x : View). x.stage) says.1) ∙ c.hand_over.ensures.request;
        traced = rw c.hand_over.ensures.traced says.0;
        transport = ap g.T.Transport.wiring c.hand_over.ensures.transport ∙ ap (λ (x : View). x.transport) says.1;
        service = ap (λ s. told_service g.B.MessageBody.gives (g.S.Service.served s)) c.hand_over.ensures.service ∙ ap (λ (x : View). x.service) says.1;
      };
      no_memory_needed = λ unheard takes. refl;
    }

pub returns-in-Ok-Some : goal.returns-in-Ok-Some
returns-in-Ok-Some g c = record { says = (rw c.in-Ok-Some.field-0-is at c.in-Ok-Some.ensures.says, c.step_accept.ensures.open); no_memory_needed = λ unheard takes. refl }

pub returns-in-Err-clause-no_memory_needed : goal.returns-in-Err-clause-no_memory_needed
returns-in-Err-clause-no_memory_needed g c = λ unheard takes. c.in-Err.ensures.no_memory_needed unheard takes
