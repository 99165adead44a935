use Rattle.h1_client.proofs.RequestLemmas.{no_chunk, chunked_step}
use Rattle.h1_client.proofs.connection.parts.Parts.chunk.Goals as goal

pub returns-in_default-clause-ok : goal.returns-in_default-clause-ok
returns-in_default-clause-ok c = λ setting. no_chunk setting c.args.self.now c.args.bytes.now c.in_default.is c.requires

pub returns-clause-ok : goal.returns-clause-ok
returns-clause-ok c = λ setting.
    chunked_step setting c.args.self.now c.args.bytes.now _ c.in-Some.sending _ c.in-Some.is c.requires c.in_ok-put_piece.ensures.ok
    (λ i. record c.in-Some.sending { missing = c.saturating_sub.ensures i })
