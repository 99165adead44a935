use Rattle.std.proofs.Common.{refl, sym, ap, ◌∙◌}
use Rattle.h1_client.specs.declared.connection.parts.Parts.{Parts}
use Rattle.h1_client.proofs.connection.parts.Parts.begin.Goals as goal

pub returns-then-is_interim : goal.returns-then-is_interim
returns-then-is_interim c = record {
  interim = λ a says is. refl;
  final = λ a says is. absurd (cc (sym c.if-is_interim.true ∙ c.is_interim.ensures a says ∙ is));
  input = refl;
}

pub returns : goal.returns
returns c = record {
  interim = λ a says is. absurd (cc (sym c.if-is_interim.false ∙ c.is_interim.ensures a says ∙ is));
  final = λ a says is. c.answer.ensures;
  input = ap (λ (p : Parts). p.input) c.answer.ensures.parts;
}
