use Rattle.std.proofs.Common.{refl}
use Rattle.h1_connection.proofs.ResultLemmas.{on_map, on_both}
use Rattle.h1_connection.proofs.GoesOnLemmas.{still_sound, same_state, goes_on}
use Rattle.h1_connection.proofs.GivenLemmas.{chunk_sends, chunk_given, end_given, fail_given}
use Rattle.h1_connection.proofs.connection.Connection.chunk_bytes.Goals as goal

pub invariant_of-self : goal.invariant_of-self
invariant_of-self c = still_sound c.chunk_bytes.result _ _ _ c.self.invariant c.chunk_bytes.ensures.sound c.chunk_bytes.ensures.err

pub returns-clause-stands : goal.returns-clause-stands
returns-clause-stands c =
    on_both c.chunk_bytes.result _ _ _ (λ steps marks. goes_on _ _ _ _ _ _ c.self.view_is c.requires.can_chunk steps marks c.chunk_bytes.ensures.ahead refl) c.chunk_bytes.ensures.ok c.chunk_bytes.ensures.marks

pub returns-clause-err : goal.returns-clause-err
returns-clause-err c = same_state c.chunk_bytes.result _ _ _ _ c.self.view_is c.chunk_bytes.ensures.err

pub returns-clause-can_chunk : goal.returns-clause-can_chunk
returns-clause-can_chunk c =
    on_map c.chunk_bytes.result _ _ (λ steps more room. chunk_given c.self.inside.config c.chunk_bytes.new.self more room (chunk_sends c.args.self.now c.self.inside.config c.self.inside.parts c.chunk_bytes.new.self _ c.self.view_is c.requires.can_chunk steps)) c.chunk_bytes.ensures.ok

pub returns-clause-can_end_answer : goal.returns-clause-can_end_answer
returns-clause-can_end_answer c =
    on_map c.chunk_bytes.result _ _ (λ steps. end_given c.self.inside.config c.chunk_bytes.new.self (chunk_sends c.args.self.now c.self.inside.config c.self.inside.parts c.chunk_bytes.new.self _ c.self.view_is c.requires.can_chunk steps)) c.chunk_bytes.ensures.ok

pub returns-clause-can_fail_answer : goal.returns-clause-can_fail_answer
returns-clause-can_fail_answer c =
    on_map c.chunk_bytes.result _ _ (λ steps. fail_given c.self.inside.config c.chunk_bytes.new.self (chunk_sends c.args.self.now c.self.inside.config c.self.inside.parts c.chunk_bytes.new.self _ c.self.view_is c.requires.can_chunk steps)) c.chunk_bytes.ensures.ok
