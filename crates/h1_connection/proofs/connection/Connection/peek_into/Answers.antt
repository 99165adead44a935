use Rattle.std.proofs.Common.{◌≡◌, length, take, subst}
use Rattle.std.specs.Prelude.{min}
use Rattle.h1_connection.specs.State.{State}
use Rattle.h1_connection.proofs.MarkLemmas.{copied_first}
use Rattle.h1_connection.proofs.connection.Connection.peek_into.Goals as goal

pub returns-clause-count : goal.returns-clause-count
returns-clause-count c =
    subst (λ (s : State). c.peek_into.result ≡ min (length c.args.room.now) (length s.kept.buffered)) c.self.view_is c.peek_into.ensures.count

pub returns-clause-copied : goal.returns-clause-copied
returns-clause-copied c =
    subst (λ (s : State). take c.peek_into.result c.peek_into.new.room ≡ take (length c.args.room.now) s.kept.buffered) c.self.view_is
    (copied_first _ c.peek_into.new.room (length c.args.room.now) c.peek_into.result c.peek_into.ensures.count c.peek_into.ensures.bytes)
