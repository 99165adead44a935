use Rattle.h1_generated.proofs.Lists.{exchange_made}
use Rattle.h1_generated.proofs.events.add_exchange.Goals as goal

pub returns : goal.returns
returns c =
    exchange_made _ _ _ _ _ _ _ _ _ _ _ _ _ c.kind_of-kind.ensures c.len_of.ensures.value c.in_ok-body.ensures c.deref.ensures c.in_ok-text.ensures
    c.in_ok-add.ensures c.in_ok-add-2.ensures c.in_ok-add_answering.ensures c.in_ok-add-3.ensures
