use Rattle.std.proofs.Common.{◌≡◌, ◌<◌, ℕ, List, false, [], length, sym, ap, ◌∙◌, subst, arith}
use Rattle.std.proofs.lemmas.Bool.{eqb-true, eqb-false}
use Rattle.std.proofs.lemmas.List.{nil_from_length}
use Rattle.h1_client.specs.ClientMeaning.{setting_of}
use Rattle.h1_client.specs.State.{IsAllowed}
use Rattle.model_client.specs.ClientEvent as on
use Rattle.model_client.specs.ClientKept.{client_allows}
use Rattle.app_get.specs.Exchange.{Ends}
use Rattle.app_get.proofs.Sending.{none_waits, none_may}
use Rattle.app_get.proofs.exchange.Exchange.send.Goals as goal

pub write_front-requires : goal.write_front-requires
write_front-requires g c = record {
  can_write = λ count. subst (λ (e : Ends). IsAllowed e.state (on.write count)) c.self.view_is (sym (c.can_write.ensures count) ∙ c.if-can_write.true);
  some =
      let same : length c.front.result.now ≡ length c.self.inside.connection.kept.buffered = ap (λ (l : List ℕ). length l) c.front.ensures in
      let some : (length c.front.result.now ≡ 0) → ⊥ = eqb-false _ _ (sym c.is_empty.ensures ∙ c.if-is_empty.false) in
      subst (λ (e : Ends). 0 < length e.state.kept.buffered) c.self.view_is (omega (arith, same, some));
}

pub returns-then-is_empty : goal.returns-then-is_empty
returns-then-is_empty g c =
    let none : c.front.result.now ≡ [] = nil_from_length _ (eqb-true _ _ (sym c.is_empty.ensures ∙ c.if-is_empty.true)) in
    none_waits _ (subst (λ (e : Ends). e.state.kept.buffered ≡ []) c.self.view_is (sym c.front.ensures ∙ none))

pub returns : goal.returns
returns g c =
    none_may _ (subst (λ (e : Ends). client_allows (setting_of e.state.settings) e.state.kept (on.write 0) ≡ false) c.self.view_is (sym (c.can_write.ensures 0) ∙ c.if-can_write.false))
