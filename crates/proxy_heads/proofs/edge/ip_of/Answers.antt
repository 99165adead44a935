use Rattle.std.proofs.Common.{ℕ, List, subst}
use Rattle.std.specs.Net.Text.{ipv4_text, ipv6_text}
use Rattle.httparse.specs.Grammar.{AllPass, is_uri_byte}
use Rattle.proxy_heads.proofs.edge.ip_of.Goals as goal

pub returns-in-V4-clause-visible : goal.returns-in-V4-clause-visible
returns-in-V4-clause-visible c = subst (λ (octets : List ℕ). AllPass is_uri_byte (ipv4_text octets)) c.octets.ensures c.show_octets.ensures

pub returns-in-V6-clause-visible : goal.returns-in-V6-clause-visible
returns-in-V6-clause-visible c = subst (λ (segments : List ℕ). AllPass is_uri_byte (ipv6_text segments)) c.segments.ensures c.show_segments.ensures
