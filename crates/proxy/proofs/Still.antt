-- Where no turn may be made.
use Rattle.std.proofs.Common.{◌≡◌, Bool, true, false, not, ◌&&◌, ◌||◌, length, inl, inr, refl, sym, ap, ◌∙◌}
use Rattle.std.specs.Prelude.{nat_lt}
use Rattle.std.proofs.lemmas.Bool.{false≢true}
use Rattle.h1_connection.specs.State.{State}
use Rattle.model_proxy.specs.Rests.{MAX_WAITING}
use Rattle.proxy.specs.declared.proxy.Proxy.{Proxy}
use Rattle.proxy.specs.Kept.{is_closing}
use Rattle.proxy.specs.Rests.{may_begin, is_over, may_turn, holds_up}
use Rattle.proxy.specs.Fresh.{BeginsWhereItMay}
use Rattle.proxy.specs.Replies.{HasReplied, nothing, turned}

-- ---- turns that may not be made change nothing

pub still_turns : (p q : Proxy) → may_turn p ≡ false → HasReplied p q → q ≡ p
still_turns p _ still nothing = refl
still_turns p _ still (turned mid new before turn) = by_begin (still_turns p mid still before) turn.begins
  where
    by_begin : mid ≡ p → BeginsWhereItMay mid new → new ≡ p
    by_begin same (inl is) = is ∙ same
    by_begin same (inr (may, closes)) = absurd (false≢true (sym still ∙ sym (ap may_turn same) ∙ may))

-- ---- the client's side holds them up

held_parts : (room may closes : Bool) → (not room || closes) ≡ true → (room && may && not closes) ≡ false
held_parts false may closes is = refl
held_parts true true true is = refl
held_parts true false true is = refl
held_parts true may false is = absurd (false≢true is)

pub held_still : (p : Proxy) → holds_up p.client ≡ true → may_turn p ≡ false
held_still p held = held_parts (nat_lt (length p.client.kept.buffered) MAX_WAITING) (may_begin p.sent p.server || is_over p.server) (is_closing p) held

pub held_as : (a b : State) → b ≡ a → holds_up a ≡ true → holds_up b ≡ true
held_as a b same held = ap holds_up same ∙ held
