use Rattle.std.proofs.Common.{sym, subst}
use Rattle.httparse.specs.Grammar.{AllPass, is_uri_byte}
use Rattle.proxy_heads.proofs.EdgeTexts.{plain_seen, plain_is}
use Rattle.proxy_heads.proofs.edge.plain.Goals as goal

pub returns-clause-visible : goal.returns-clause-visible
returns-clause-visible c =
    subst (AllPass is_uri_byte)
    (sym (plain_is c.new.result c.ip_of.result c.port.result c.new.ensures.ip c.new.ensures.port c.new.ensures.scope_id))
    (plain_seen c.ip_of.result c.port.result c.ip_of.ensures.visible c.port.type_inv)
