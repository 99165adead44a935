use Rattle.std.proofs.Common.{ℕ, List, false, subst, sym, ap, ◌∙◌}
use Rattle.std.specs.Net.Text.{ip_text}
use Rattle.httparse.specs.Grammar.{AllPass, is_uri_byte}
use Rattle.http_header.specs.FieldValue.{FieldValue}
use Rattle.model_proxy.specs.Edge.{element_of}
use Rattle.proxy_heads.proofs.EdgeTexts.{element_seen, clean_of}
use Rattle.proxy_heads.proofs.edge.Edge.new.Goals as goal

abbrev IsSeen : List ℕ → Type 0
IsSeen text = AllPass is_uri_byte text

pub value-requires : goal.value-requires
value-requires c = subst IsSeen (sym c.in_ok-format.ensures.ok) c.ip_of-ip.ensures.visible

pub value-requires-2 : goal.value-requires-2
value-requires-2 c = subst IsSeen (sym c.in_ok-format-2.ensures.ok) (element_seen _ c.plain-from.ensures.visible)

pub value-requires-3 : goal.value-requires-3
value-requires-3 c = subst IsSeen (sym c.in_ok-format-3.ensures.ok) c.plain-to.ensures.visible

pub returns-clause-says : goal.returns-clause-says
returns-clause-says c = λ i. record {
  address = (ap (λ (v : FieldValue). v.bytes) c.in_ok-address.ensures ∙ c.in_ok-format.ensures.ok ∙ ap ip_text c.ip_of-ip.ensures.value) i;
  element = (ap (λ (v : FieldValue). v.bytes) c.in_ok-element.ensures ∙ c.in_ok-format-2.ensures.ok ∙ ap element_of c.plain-from.ensures.text) i;
  host = (ap (λ (v : FieldValue). v.bytes) c.in_ok-host.ensures ∙ c.in_ok-format-3.ensures.ok ∙ c.plain-to.ensures.text) i;
  trusts = false;
  is_lax = false;
}

pub returns-clause-clean : goal.returns-clause-clean
returns-clause-clean c = record {
  address = clean_of _ _ (ap (λ (v : FieldValue). v.bytes) c.in_ok-address.ensures ∙ c.in_ok-format.ensures.ok) c.ip_of-ip.ensures.visible;
  element =
      clean_of _ _ (ap (λ (v : FieldValue). v.bytes) c.in_ok-element.ensures ∙ c.in_ok-format-2.ensures.ok) (element_seen _ c.plain-from.ensures.visible);
  host = clean_of _ _ (ap (λ (v : FieldValue). v.bytes) c.in_ok-host.ensures ∙ c.in_ok-format-3.ensures.ok) c.plain-to.ensures.visible;
}
