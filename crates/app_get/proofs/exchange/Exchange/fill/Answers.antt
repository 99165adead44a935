use Rattle.std.proofs.Common.{◌≡◌, false, [], sym, ◌∙◌, subst}
use Rattle.h1_client.specs.ClientMeaning.{setting_of}
use Rattle.h1_client.specs.State.{IsAllowed}
use Rattle.model_client.specs.ClientEvent as on
use Rattle.model_client.specs.ClientKept.{client_allows}
use Rattle.app_get.specs.Exchange.{Ends}
use Rattle.app_get.proofs.Going.{ok_acts_goes, ok_acts_allowed, not_allowed}
use Rattle.app_get.proofs.exchange.Exchange.fill.Goals as goal

pub fill_room-requires : goal.fill_room-requires
fill_room-requires g c = record {
  can_chunk = λ bytes. subst (λ (e : Ends). IsAllowed e.state (on.chunk bytes)) c.self.view_is (sym (c.can_chunk.ensures bytes) ∙ c.if-not-can_chunk.false);
}

pub returns-then-not-can_chunk-clause-acts : goal.returns-then-not-can_chunk-clause-acts
returns-then-not-can_chunk-clause-acts g c =
    let may : client_allows (setting_of c.args.self.now.state.settings) c.args.self.now.state.kept (on.chunk []) ≡ false =
    subst (λ (e : Ends). client_allows (setting_of e.state.settings) e.state.kept (on.chunk []) ≡ false) c.self.view_is (sym (c.can_chunk.ensures []) ∙ c.if-not-can_chunk.true) in
    not_allowed _ _ may

pub returns-clause-goes : goal.returns-clause-goes
returns-clause-goes g c = ok_acts_goes _ _ _ c.fill_room.ensures.acts

pub returns-clause-acts : goal.returns-clause-acts
returns-clause-acts g c = ok_acts_allowed _ _ _ _ c.fill_room.ensures.acts
