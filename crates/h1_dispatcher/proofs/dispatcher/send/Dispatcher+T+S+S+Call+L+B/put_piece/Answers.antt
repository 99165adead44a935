use Rattle.std.proofs.lemmas.Result.{on_ok_weaker}
use Rattle.h1_dispatcher.proofs.Moves.{any_chunk, may_break}
use Rattle.h1_dispatcher.proofs.dispatcher.send.Dispatcher+T+S+S+Call+L+B.put_piece.Goals as goal

pub chunk-requires : goal.chunk-requires
chunk-requires g c = record { can_chunk = any_chunk _ _ _ c.requires.allowed }

pub fail_answer-requires : goal.fail_answer-requires
fail_answer-requires g c = record { can_end_answer = may_break _ _ c.requires.allowed }

pub returns-in-Ok-clause-ok : goal.returns-in-Ok-clause-ok
returns-in-Ok-clause-ok g c = rw c.in-Ok.is (on_ok_weaker c.chunk.result (λ steps. record { steps = steps; settings = c.chunk.ensures.settings; listens = c.chunk.ensures.listening }) c.chunk.ensures.stands)

pub returns-in-Err-Body-clause-ok : goal.returns-in-Err-Body-clause-ok
returns-in-Err-Body-clause-ok g c =
    let fault = rw c.in-Err-Body.is at c.in-Err-Body.field-0-is in
    rw (c.in-Err-Body.is, fault) (on_ok_weaker c.fail_answer.result (λ steps. record { steps = steps; settings = c.fail_answer.ensures.settings; listens = c.fail_answer.ensures.listening }) c.fail_answer.ensures.stands)
