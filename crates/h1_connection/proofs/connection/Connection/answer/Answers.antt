use Rattle.std.proofs.Common.{refl}
use Rattle.h1_connection.proofs.ResultLemmas.{on_map, on_both}
use Rattle.h1_connection.proofs.GoesOnLemmas.{still_sound, same_state, goes_on, allowed_parts, answer_waits}
use Rattle.h1_connection.proofs.GivenLemmas.{answer_sends, chunk_given, end_given, fail_given}
use Rattle.h1_connection.proofs.connection.Connection.answer.Goals as goal

pub invariant_of-self : goal.invariant_of-self
invariant_of-self c = still_sound c.answer.result _ _ _ c.self.invariant c.answer.ensures.sound c.answer.ensures.err

pub returns-clause-stands : goal.returns-clause-stands
returns-clause-stands c =
    on_both c.answer.result _ _ _ (λ steps marks. goes_on _ _ _ _ _ _ c.self.view_is c.requires.can_answer steps marks c.answer.ensures.ahead refl) c.answer.ensures.ok c.answer.ensures.marks

pub returns-clause-err : goal.returns-clause-err
returns-clause-err c = same_state c.answer.result _ _ _ _ c.self.view_is c.answer.ensures.err

pub answer-requires-clause-waits : goal.answer-requires-clause-waits
answer-requires-clause-waits c = answer_waits c.self.inside.config c.self.inside.parts _ _ (allowed_parts _ _ c.self.inside.parts _ c.self.view_is c.requires.can_answer)

pub returns-clause-can_chunk : goal.returns-clause-can_chunk
returns-clause-can_chunk c =
    on_map c.answer.result _ _ (λ steps bytes later room. chunk_given c.self.inside.config c.answer.new.self bytes room (answer_sends c.args.self.now c.self.inside.config c.self.inside.parts c.answer.new.self _ _ c.self.view_is c.requires.can_answer steps later)) c.answer.ensures.ok

pub returns-clause-can_end_answer : goal.returns-clause-can_end_answer
returns-clause-can_end_answer c =
    on_map c.answer.result _ _ (λ steps later. end_given c.self.inside.config c.answer.new.self (answer_sends c.args.self.now c.self.inside.config c.self.inside.parts c.answer.new.self _ _ c.self.view_is c.requires.can_answer steps later)) c.answer.ensures.ok

pub returns-clause-can_fail_answer : goal.returns-clause-can_fail_answer
returns-clause-can_fail_answer c =
    on_map c.answer.result _ _ (λ steps later. fail_given c.self.inside.config c.answer.new.self (answer_sends c.args.self.now c.self.inside.config c.self.inside.parts c.answer.new.self _ _ c.self.view_is c.requires.can_answer steps later)) c.answer.ensures.ok
