use Rattle.std.proofs.Common.{◌≡◌, [], refl, sym, ap, ◌∙◌, subst, true, false, is_some}
use Rattle.std.proofs.KnownBytes.{Consumes-nil, Appends-nil, Keeps-refl}
use Rattle.h1_payload.specs.declared.pulled.Pulled.TheVariants as pulled
use Rattle.h1_client.specs.Bodies.{SaysPulled}
use Rattle.model_client.specs.ClientEvent as on
use Rattle.app_get.specs.Exchange.{Ends, is_unread}
use Rattle.app_get.proofs.Steps.{ends_none, quiet_wanted, one_act, bytes_moves, none_moves, appends_same}
use Rattle.app_get.proofs.Stopping.{err_stops, no_memory, piece_fails, draws_corrupted, draws_incomplete}
use Rattle.app_get.proofs.Taking.{pending_body}
use Rattle.app_get.proofs.exchange.Exchange.pull.Goals as goal

pub returns-in-Bytes-clause-taken : goal.returns-in-Bytes-clause-taken
returns-in-Bytes-clause-taken g c =
    one_act _ _ _ on.pull _ [] [] [] c.in-Bytes.bytes c.self.view_is c.in_ok-bytes.ensures.stands
    (λ o says. bytes_moves c.in-Bytes.bytes _ o (subst (λ x. SaysPulled x o) c.in-Bytes.is says))
    (Consumes-nil _) (Appends-nil _) (Consumes-nil _) (λ _. appends_same _ _ _ _ c.as_slice.ensures c.in_ok-write_all-in-Bytes.ensures.ok) (ends_none on.pull _ _ refl refl refl)
    (quiet_wanted _ _ _ refl (subst (λ (e : Ends). is_some e.status ≡ true) (sym c.self.view_is) c.requires.noted)
    (subst (λ (e : Ends). is_unread e ≡ false) (sym c.self.view_is) c.requires.wanted)) refl

pub returns-in-Trailers-clause-taken : goal.returns-in-Trailers-clause-taken
returns-in-Trailers-clause-taken g c =
    one_act _ _ _ on.pull _ [] [] [] [] c.self.view_is c.in_ok-bytes.ensures.stands
    (λ o says. let s = subst (λ x. SaysPulled x o) c.in-Trailers.is says in none_moves (on.trailers s.0) _ refl refl refl refl o s.1)
    (Consumes-nil _) (Appends-nil _) (Consumes-nil _) (λ _. Appends-nil _) (ends_none on.pull _ _ refl refl refl)
    (quiet_wanted _ _ _ refl (subst (λ (e : Ends). is_some e.status ≡ true) (sym c.self.view_is) c.requires.noted)
    (subst (λ (e : Ends). is_unread e ≡ false) (sym c.self.view_is) c.requires.wanted)) refl

pub returns-in-End-clause-taken : goal.returns-in-End-clause-taken
returns-in-End-clause-taken g c =
    one_act _ _ _ on.pull _ [] [] [] [] c.self.view_is c.in_ok-bytes.ensures.stands
    (λ o says. none_moves on.body_ended _ refl refl refl refl o (subst (λ x. SaysPulled x o) c.in-End.is says))
    (Consumes-nil _) (Appends-nil _) (Consumes-nil _) (λ _. Appends-nil _) (ends_none on.pull _ _ refl refl refl)
    (quiet_wanted _ _ _ refl (subst (λ (e : Ends). is_some e.status ≡ true) (sym c.self.view_is) c.requires.noted)
    (subst (λ (e : Ends). is_unread e ≡ false) (sym c.self.view_is) c.requires.wanted)) refl

pub returns-clause-taken : goal.returns-clause-taken
returns-clause-taken g c = (
  one_act _ _ _ on.pull _ [] [] [] [] c.self.view_is c.in_ok-bytes.ensures.stands
      (λ o says. none_moves on.pending _ refl refl refl refl o (subst (λ x. SaysPulled x o) c.in-Pending.is says))
      (Consumes-nil _) (Appends-nil _) (Consumes-nil _) (λ _. Appends-nil _) (ends_none on.pull _ _ refl refl refl)
      (quiet_wanted _ _ _ refl (subst (λ (e : Ends). is_some e.status ≡ true) (sym c.self.view_is) c.requires.noted)
      (subst (λ (e : Ends). is_unread e ≡ false) (sym c.self.view_is) c.requires.wanted)) refl,
  pending_body _ _ _ c.in_ok-bytes.ensures.stands (λ o says. subst (λ x. SaysPulled x o) c.in-Pending.is says),
)

pub returns-in_err-bytes-clause-stops : goal.returns-in_err-bytes-clause-stops
returns-in_err-bytes-clause-stops g c = err_stops _ _ _ _ c.from_residual.ensures.1 (no_memory _ _ _ _ c.self.view_is refl (Keeps-refl _))

pub returns-in_err-write_all-in-Bytes-clause-stops : goal.returns-in_err-write_all-in-Bytes-clause-stops
returns-in_err-write_all-in-Bytes-clause-stops g c =
    err_stops _ _ _ _ c.from_residual-in_err-write_all-in-Bytes.ensures.1
    (piece_fails _ _ _ _ _ c.in-Bytes.bytes _ c.self.view_is c.in_err-write_all-in-Bytes.ensures.cause c.in_ok-bytes.ensures.stands c.in-Bytes.is c.as_slice.ensures
    c.in_err-write_all-in-Bytes.ensures.part)

pub returns-in-Broken-Corrupted-clause-stops : goal.returns-in-Broken-Corrupted-clause-stops
returns-in-Broken-Corrupted-clause-stops g c =
    draws_corrupted _ _ _ _ c.self.view_is c.in_ok-bytes.ensures.stands (c.in-Broken-Corrupted.is ∙ ap pulled.Broken c.in-Broken-Corrupted.field-0-is) (Keeps-refl _)

pub returns-in-Broken-Incomplete-clause-stops : goal.returns-in-Broken-Incomplete-clause-stops
returns-in-Broken-Incomplete-clause-stops g c =
    draws_incomplete _ _ _ _ c.self.view_is c.in_ok-bytes.ensures.stands (c.in-Broken-Incomplete.is ∙ ap pulled.Broken c.in-Broken-Incomplete.field-0-is) (Keeps-refl _)
