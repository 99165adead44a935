use Rattle.std.proofs.Common.{◌≡◌, refl, ap, subst}
use Rattle.std.specs.Prelude.{Some, None}
use Rattle.h1_codec.specs.View.{view_of}
use Rattle.h1_codec.specs.Turns.{SendsFew}
use Rattle.h1_codec.proofs.Behind.{on_ok}
use Rattle.h1_codec.proofs.Steps.{head_few}
use Rattle.h1_codec.proofs.Whole.{none_few}
use Rattle.h1_codec.proofs.sending.Sending.begin.Goals as goal

pub returns-in-None-clause-ok : goal.returns-in-None-clause-ok
returns-in-None-clause-ok g c =
    let v = view_of g.T.Transport.wiring g.B.MessageBody.gives c.args.self.now in
    let none : v.head ≡ None = cc in
    let now : v.head ≡ c.take.new.self = cc in
    subst (λ h. SendsFew g.U.Encoder.writes 0 v (record v { head = h })) now (none_few g.U.Encoder.writes v none)

pub returns-in-Some-clause-ok : goal.returns-in-Some-clause-ok
returns-in-Some-clause-ok g c =
    let v = view_of g.T.Transport.wiring g.B.MessageBody.gives c.args.self.now in
    let w = view_of g.T.Transport.wiring g.B.MessageBody.gives (record c.args.self.now { framed = c.write.new.self; head = c.take.new.self }) in
    let some : v.head ≡ Some c.in-Some.head = cc in
    let none : w.head ≡ None = cc in
    on_ok c.write.result (λ wrote. head_few g.U.Encoder.writes v w c.in-Some.head wrote.0 some none (ap g.T.Transport.wiring c.write.ensures.io) c.write.ensures.unread wrote.1 wrote.2 refl refl) c.write.ensures.ok
