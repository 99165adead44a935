use Rattle.std.proofs.Common.{◌≡◌, [], length, sym, ap, ◌∙◌, subst}
use Rattle.h1_encoder.specs.Meaning.{model_shape}
use Rattle.h1_encoder.specs.declared.shape.Shape.{Shape}
use Rattle.model_state.specs.Reply.{piece_sent}
use Rattle.h1_output.specs.Queued.{with_piece}
use Rattle.h1_connection.specs.Sent.{with_sent}
use Rattle.h1_connection.proofs.OutputLemmas.{head_sent, none_sent, length_sent, raw_sent, chunk_sent, length_out, raw_out, chunk_out}
use Rattle.h1_connection.proofs.ResultLemmas.{on_map}
use Rattle.h1_connection.proofs.connection.output.Output.put_piece.Goals as goal

pub returns-then-is_head-clause-ok : goal.returns-then-is_head-clause-ok
returns-then-is_head-clause-ok c = head_sent c.args.asked (model_shape c.args.shape) c.args.missing c.args.bytes.now c.args.self.now (sym c.is_head.ensures ∙ c.if-is_head.true)

pub returns-in-None-clause-ok : goal.returns-in-None-clause-ok
returns-in-None-clause-ok c =
    none_sent c.args.asked c.args.missing c.args.bytes.now c.args.self.now (sym c.is_head.ensures ∙ c.if-is_head.false)
    ∙ ap (λ (s : Shape). with_sent c.args.asked (model_shape s) c.args.missing c.args.bytes.now c.args.self.now) (sym c.in-None.is)

pub returns-in-Length-clause-ok : goal.returns-in-Length-clause-ok
returns-in-Length-clause-ok c =
    on_map c.put_piece.result _ _ (λ is. is ∙ (λ i. with_piece (c.first_bytes.ensures i) (c.self.view_is i))
    ∙ length_sent c.args.asked c.args.missing c.args.bytes.now c.args.self.now (sym c.is_head.ensures ∙ c.if-is_head.false) c.in-Length.field-0
    ∙ ap (λ (s : Shape). with_sent c.args.asked (model_shape s) c.args.missing c.args.bytes.now c.args.self.now) (sym c.in-Length.is)) c.put_piece.ensures.ok

pub returns-in-Length-clause-no_memory_needed : goal.returns-in-Length-clause-no_memory_needed
returns-in-Length-clause-no_memory_needed c = λ none.
    c.put_piece.ensures.no_memory_needed (ap length c.first_bytes.ensures
    ∙ length_out c.args.asked c.args.missing c.args.bytes.now c.args.self.now (sym c.is_head.ensures ∙ c.if-is_head.false) c.in-Length.field-0
    (subst (λ (s : Shape). piece_sent c.args.asked (model_shape s) c.args.missing c.args.bytes.now ≡ []) c.in-Length.is none))

pub returns-in-Chunked-clause-ok : goal.returns-in-Chunked-clause-ok
returns-in-Chunked-clause-ok c =
    on_map c.put_chunk.result _ _ (λ is. is ∙ chunk_sent c.args.asked c.args.missing c.args.bytes.now c.args.self.now (sym c.is_head.ensures ∙ c.if-is_head.false)
    ∙ ap (λ (s : Shape). with_sent c.args.asked (model_shape s) c.args.missing c.args.bytes.now c.args.self.now) (sym c.in-Chunked.is)) c.put_chunk.ensures.ok

pub returns-in-Chunked-clause-no_memory_needed : goal.returns-in-Chunked-clause-no_memory_needed
returns-in-Chunked-clause-no_memory_needed c = λ none.
    c.put_chunk.ensures.no_memory_needed
    (chunk_out c.args.asked c.args.missing c.args.bytes.now c.args.self.now (sym c.is_head.ensures ∙ c.if-is_head.false)
    (subst (λ (s : Shape). piece_sent c.args.asked (model_shape s) c.args.missing c.args.bytes.now ≡ []) c.in-Chunked.is none))

pub returns-in-Raw-clause-ok : goal.returns-in-Raw-clause-ok
returns-in-Raw-clause-ok c =
    on_map c.put_piece-in-Raw.result _ _ (λ is. is ∙ ap (with_piece c.args.bytes.now) c.self-in-Raw.view_is
    ∙ raw_sent c.args.asked c.args.missing c.args.bytes.now c.args.self.now (sym c.is_head.ensures ∙ c.if-is_head.false)
    ∙ ap (λ (s : Shape). with_sent c.args.asked (model_shape s) c.args.missing c.args.bytes.now c.args.self.now) (sym c.in-Raw.is)) c.put_piece-in-Raw.ensures.ok

pub returns-in-Raw-clause-no_memory_needed : goal.returns-in-Raw-clause-no_memory_needed
returns-in-Raw-clause-no_memory_needed c = λ none.
    c.put_piece-in-Raw.ensures.no_memory_needed
    (raw_out c.args.asked c.args.missing c.args.bytes.now c.args.self.now (sym c.is_head.ensures ∙ c.if-is_head.false)
    (subst (λ (s : Shape). piece_sent c.args.asked (model_shape s) c.args.missing c.args.bytes.now ≡ []) c.in-Raw.is none))
