use Rattle.std.proofs.Common.{rules, ◌≡◌, true, sym, ◌∙◌}
use Rattle.vectors_exchanges.proofs.client.requests.chunk.Goals as goal

pub chunk-requires : goal.chunk-requires
chunk-requires c =
    let allowed : c.can_chunk.result ≡ true = search rules in
    record { can_chunk = sym (c.can_chunk.ensures c.args.bytes.now) ∙ allowed }
