use Rattle.std.proofs.Common.{◌≡◌, ◌-◌, false, length, refl, sym, subst, ◌∙◌, inl, inr, arith}
use Rattle.std.proofs.KnownBytes.{Keeps-refl}
use Rattle.h1_client.specs.ClientMeaning.{setting_of}
use Rattle.model_client.specs.ClientEvent as on
use Rattle.model_client.specs.ClientKept.{client_allows}
use Rattle.app_get.specs.Exchange.{Ends}
use Rattle.app_get.proofs.Stopping.{stuck_stops}
use Rattle.app_get.proofs.exchange.Exchange.read_more.Goals as goal

pub returns-then-not-can_read-clause-stops : goal.returns-then-not-can_read-clause-stops
returns-then-not-can_read-clause-stops g c =
    stuck_stops _ _ _ refl
    (inr (inr (c.requires, inl (subst (λ (e : Ends). client_allows (setting_of e.state.settings) e.state.kept on.eof ≡ false) c.self.view_is (sym c.can_read.ensures.eof ∙ c.if-not-can_read.true)))))
    (Keeps-refl _)

pub returns-then-room-eq0-clause-stops : goal.returns-then-room-eq0-clause-stops
returns-then-room-eq0-clause-stops g c =
    stuck_stops _ _ _ refl
    (inr (inr (c.requires, inr (subst (λ (e : Ends). e.state.settings.h1_hold_size - length e.state.kept.unread ≡ 0) c.self.view_is (omega (arith, c.read_room.ensures))))))
    (Keeps-refl _)
