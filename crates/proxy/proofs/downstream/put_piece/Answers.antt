use Rattle.std.proofs.Common.{refl, sym, ◌∙◌, inl, inr, [], ◌∷◌}
use Rattle.model_h1.specs.Event as on
use Rattle.proxy.proofs.Sides.{client_plain}
use Rattle.proxy.proofs.Wants.{wants_same, client_wants}
use Rattle.proxy.proofs.Puts.{one_puts}
use Rattle.model_proxy.specs.Parts.{continues}
use Rattle.proxy.proofs.downstream.put_piece.Goals as goal

pub returns-then-not-can_chunk-clause-wants : goal.returns-then-not-can_chunk-clause-wants
returns-then-not-can_chunk-clause-wants c = λ trace stands. wants_same c.args.client.now

pub returns-clause-brings : goal.returns-clause-brings
returns-clause-brings c = client_plain c.args.client.now (on.chunk c.args.bytes) on.done c.chunk_bytes.new.self c.chunk_bytes.ensures.settings c.in_ok-chunk_bytes.ensures.stands refl refl refl tt

pub returns-clause-wants : goal.returns-clause-wants
returns-clause-wants c =
    client_wants c.args.client.now (on.chunk c.args.bytes) on.done c.chunk_bytes.new.self c.chunk_bytes.ensures.settings c.in_ok-chunk_bytes.ensures.stands tt
    (sym (c.can_chunk.ensures c.args.bytes) ∙ c.if-not-can_chunk.false)

pub returns-then-not-can_chunk-clause-puts : goal.returns-then-not-can_chunk-clause-puts
returns-then-not-can_chunk-clause-puts c = inl (sym (c.can_chunk.ensures c.args.bytes) ∙ c.if-not-can_chunk.true, refl)

pub returns-clause-puts : goal.returns-clause-puts
returns-clause-puts c = inr (one_puts c.args.client.now (on.chunk c.args.bytes) _ c.chunk_bytes.new.self (continues c.args.bytes ∷ []) c.chunk_bytes.ensures.settings c.in_ok-chunk_bytes.ensures.stands (λ o says. refl))
