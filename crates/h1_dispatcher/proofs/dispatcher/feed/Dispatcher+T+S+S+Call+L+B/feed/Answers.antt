use Rattle.std.proofs.Common.{◌≡◌, rules, refl, sym, ap, ◌∙◌, subst, inl, inr}
use Rattle.http_services.specs.declared.h1.send.PayloadStatus.TheVariants as status
use Rattle.h1_dispatcher.specs.View.{View, view_of}
use Rattle.h1_dispatcher.specs.Steps.{paused}
use Rattle.h1_dispatcher.specs.Polls.{ReadingSays}
use Rattle.h1_dispatcher.proofs.Turns.{unfed_then, waited_then, done_body, coming_body}
use Rattle.h1_dispatcher.proofs.Moves.{paused_step, same_queue}
use Rattle.h1_dispatcher.proofs.dispatcher.feed.Dispatcher+T+S+S+Call+L+B.feed.Goals as goal

pub returns-then-not-can_pull-clause-says : goal.returns-then-not-can_pull-clause-says
returns-then-not-can_pull-clause-says g c =
    let v = view_of g.T.Transport.wiring g.S.Service.served g.S.Service.calling g.B.MessageBody.gives g.L.Recorder.noted g.L.Recorder.is_listening c.args.self.now in
    let w = view_of g.T.Transport.wiring g.S.Service.served g.S.Service.calling g.B.MessageBody.gives g.L.Recorder.noted g.L.Recorder.is_listening c.read_on.new.self in
    unfed_then v w c.read_on.result (inl (done_body v (search rules))) c.read_on.ensures.says

pub returns-in-Pause-clause-says : goal.returns-in-Pause-clause-says
returns-in-Pause-clause-says g c =
    let v = view_of g.T.Transport.wiring g.S.Service.served g.S.Service.calling g.B.MessageBody.gives g.L.Recorder.noted g.L.Recorder.is_listening c.args.self.now in
    let u = view_of g.T.Transport.wiring g.S.Service.served g.S.Service.calling g.B.MessageBody.gives g.L.Recorder.noted g.L.Recorder.is_listening c.wish.new.self in
    let w = view_of g.T.Transport.wiring g.S.Service.served g.S.Service.calling g.B.MessageBody.gives g.L.Recorder.noted g.L.Recorder.is_listening c.read_on-in-Pause.new.self in
    waited_then v u w paused c.read_on-in-Pause.result
    (paused_step v u c.wish.result c.requires.running (coming_body v c.requires.awaits c.requires.allowed (search rules)) c.wish.ensures.status c.in-Pause.is c.wish.ensures.asked
    (ap (λ x. view_of g.T.Transport.wiring g.S.Service.served g.S.Service.calling g.B.MessageBody.gives g.L.Recorder.noted g.L.Recorder.is_listening x) c.wish.ensures.same)) tt (inr (inl refl)) c.read_on-in-Pause.ensures.says

pub returns-in-Dropped-clause-says : goal.returns-in-Dropped-clause-says
returns-in-Dropped-clause-says g c =
    let v = view_of g.T.Transport.wiring g.S.Service.served g.S.Service.calling g.B.MessageBody.gives g.L.Recorder.noted g.L.Recorder.is_listening c.args.self.now in
    let u = view_of g.T.Transport.wiring g.S.Service.served g.S.Service.calling g.B.MessageBody.gives g.L.Recorder.noted g.L.Recorder.is_listening c.wish.new.self in
    let w = view_of g.T.Transport.wiring g.S.Service.served g.S.Service.calling g.B.MessageBody.gives g.L.Recorder.noted g.L.Recorder.is_listening c.read_on-in-Dropped.new.self in
    let other : ¬ (c.wish.result ≡ status.Pause) = λ is. let never : status.Dropped ≡ status.Pause = sym c.in-Dropped.is ∙ is in cc never in
    let same = same_queue v u c.wish.result other c.wish.ensures.asked (ap (λ x. view_of g.T.Transport.wiring g.S.Service.served g.S.Service.calling g.B.MessageBody.gives g.L.Recorder.noted g.L.Recorder.is_listening x) c.wish.ensures.same) in
    unfed_then v w c.read_on-in-Dropped.result (inr (inl (sym c.wish.ensures.status ∙ c.in-Dropped.is)))
    (subst (λ (x : View). ReadingSays x w c.read_on-in-Dropped.result) same c.read_on-in-Dropped.ensures.says)
