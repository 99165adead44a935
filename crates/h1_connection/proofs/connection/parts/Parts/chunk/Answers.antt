use Rattle.std.proofs.Common.{◌∙◌, sym, ap}
use Rattle.std.proofs.lemmas.Bool.{false≢true}
use Rattle.h1_connection.proofs.AnswerLemmas.{no_piece, unasked, no_chunk, chunked_steps, chunked_sound}
use Rattle.h1_output.specs.Queued.{Queued}
use Rattle.h1_connection.specs.declared.connection.parts.Parts.{Parts}
use Rattle.h1_connection.proofs.MarkLemmas.{chunk_marks, no_chunk_marks}
use Rattle.h1_connection.proofs.connection.parts.Parts.chunk.Goals as goal

pub returns-in_default-clause-ok : goal.returns-in_default-clause-ok
returns-in_default-clause-ok c = no_chunk c.args.config.now c.args.self.now _ (unasked _ (sym c.asked.ensures ∙ c.in_default.is)) c.requires

pub returns-in_default-sending-clause-ok : goal.returns-in_default-sending-clause-ok
returns-in_default-sending-clause-ok c = no_chunk c.args.config.now c.args.self.now _ (sym c.sending.ensures ∙ c.in_default-sending.is) c.requires

pub returns-clause-ok : goal.returns-clause-ok
returns-clause-ok c =
    chunked_steps c.args.config.now c.args.self.now c.set_reply.new.self c.in-Some.asked c.in-Some-sending.sending _ _ c.put_piece.new.self (sym c.asked.ensures ∙ c.in-Some.is) (sym c.sending.ensures ∙ c.in-Some-sending.is)
    (ap (λ (q : Queued). q.bytes) c.in_ok-put_piece.ensures.ok) (λ i. record c.in-Some-sending.sending { missing = c.saturating_sub.ensures i }) c.requires c.set_reply.ensures

pub returns-clause-sound : goal.returns-clause-sound
returns-clause-sound c =
    chunked_sound c.args.config.now c.args.self.now _ c.in-Some.asked c.in-Some-sending.sending _ _ (sym c.asked.ensures ∙ c.in-Some.is) (sym c.sending.ensures ∙ c.in-Some-sending.is)
    c.requires c.set_reply.ensures

pub returns-in_err-put_piece-clause-no_memory_needed : goal.returns-in_err-put_piece-clause-no_memory_needed
returns-in_err-put_piece-clause-no_memory_needed c = λ none.
    absurd (false≢true (c.in_err-put_piece.ensures.no_memory_needed
    (no_piece c.args.self.now c.in-Some.asked c.in-Some-sending.sending c.args.bytes.now (sym c.asked.ensures ∙ c.in-Some.is) (sym c.sending.ensures ∙ c.in-Some-sending.is) none)))

pub returns-in_default-clause-marks : goal.returns-in_default-clause-marks
returns-in_default-clause-marks c = no_chunk_marks c.args.self.now _ (unasked _ (sym c.asked.ensures ∙ c.in_default.is))

pub returns-in_default-sending-clause-marks : goal.returns-in_default-sending-clause-marks
returns-in_default-sending-clause-marks c = no_chunk_marks c.args.self.now _ (sym c.sending.ensures ∙ c.in_default-sending.is)

pub returns-clause-marks : goal.returns-clause-marks
returns-clause-marks c =
    ap (λ (p : Parts). p.output.marks) c.set_reply.ensures
    ∙ chunk_marks c.args.self.now c.in-Some.asked c.in-Some-sending.sending _ _ (sym c.asked.ensures ∙ c.in-Some.is) (sym c.sending.ensures ∙ c.in-Some-sending.is)
    c.in_ok-put_piece.ensures.ok

pub returns-clause-ahead : goal.returns-clause-ahead
returns-clause-ahead c = ap (λ (p : Parts). p.input.ahead) c.set_reply.ensures
