use Rattle.std.proofs.Common.{rules, ◌≡◌, true, sym, ◌∙◌}
use Rattle.vectors_exchanges.proofs.client.Client.write_out.Goals as goal

pub advance-requires-clause-can_write : goal.advance-requires-clause-can_write
advance-requires-clause-can_write c =
    let allowed : c.can_write.result ≡ true = search rules in
    sym (c.can_write.ensures c.min-count.result) ∙ allowed
