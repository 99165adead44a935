-- After what is left of a request's body was dropped nothing more of it may be dropped, and the request may be answered as
-- before.
use Rattle.std.proofs.Common.{◌≡◌, ℕ, Bool, true, false, Option, Some, None, refl, sym, ap, ◌∙◌, subst}
use Rattle.std.specs.Prelude.{not, ◌&&◌, ◌||◌, if◌then◌else◌}
use Rattle.http_config.specs.Config.{Settings}
use Rattle.model_h1.specs.Event as on
use Rattle.model_h1.specs.Setting.{Setting}
use Rattle.model_state.specs.Kept.{Rest, no_rest, raw_rest, fixed_rest, chunks_rest, frames_rest, Reply, unanswered, sending, answered, Exchange, Kept, Change}
use Rattle.model_state.specs.Local.{closing_by, allowed_by}
use Rattle.model_state.specs.Change.{doing_with, noting_since}
use Rattle.model_state.specs.Change.{IsStep as Machine}
use Rattle.h1_connection.specs.EventMeaning.{setting_of}
use Rattle.h1_dispatcher.specs.View.{any_answer}

-- the parts after it, as a step leaves them
abbrev dropped_in : Exchange → Kept → Kept
dropped_in x k = record k { exchange = Some (record x { was_dropped = true }) }

abbrev later_of : Kept → Bool → Option (Option ℕ) → Kept
later_of k coming since = record k { is_coming = coming; closing_since = since }

never : (over closing up has done : Bool) → (not over && (if closing then false else (not up && ((has && not (done || true)) && true)))) ≡ false
never true closing up has done = refl
never false true up has done = refl
never false false true has done = refl
never false false false false done = refl
never false false false true true = refl
never false false false true false = refl

unasked : (over closing : Bool) → (not over && (if closing then false else false)) ≡ true → ⊥
unasked true closing is = cc is
unasked false true is = cc is
unasked false false is = cc is

-- what holds after it
abbrev pub Left : Setting → Kept → Type 0
Left set k = (allowed_by set k on.drop_body ≡ false) × (allowed_by set k any_answer ≡ true)

-- of a request that has no answer and is no WebSocket
open_left : (set : Setting) (k : Kept) (x : Exchange) (rest : Rest) (coming : Bool) (since : Option (Option ℕ))
    → allowed_by set (record k { exchange = Some (record x { reply = unanswered; rest = rest }) }) any_answer ≡ true
    → Left set (later_of (dropped_in (record x { reply = unanswered; rest = rest }) k) coming since)
unfolding allowed_by closing_by
open_left set k x no_rest coming since is = (never k.is_over _ false x.has_body x.body_is_done, is)
open_left set k x raw_rest coming since is = (never k.is_over _ false x.has_body x.body_is_done, is)
open_left set k x (fixed_rest n) coming since is = (never k.is_over _ false x.has_body x.body_is_done, is)
open_left set k x (chunks_rest place section) coming since is = (never k.is_over _ false x.has_body x.body_is_done, is)
open_left set k x (frames_rest under_way limit) coming since is = absurd (unasked k.is_over _ is)

by_reply : (set : Setting) (k : Kept) (x : Exchange) (reply : Reply) (coming : Bool) (since : Option (Option ℕ))
    → allowed_by set (record k { exchange = Some (record x { reply = reply }) }) any_answer ≡ true
    → Left set (later_of (dropped_in (record x { reply = reply }) k) coming since)
unfolding allowed_by
by_reply set k x unanswered coming since is = open_left set k x x.rest coming since is
by_reply set k x (sending shape kind missing) coming since is = absurd (unasked k.is_over _ is)
by_reply set k x (answered kind) coming since is = absurd (unasked k.is_over _ is)

by_exchange : (set : Setting) (k : Kept) (e : Option Exchange) (coming : Bool) (since : Option (Option ℕ))
    → allowed_by set (record k { exchange = e }) any_answer ≡ true
    → Left set (later_of (doing_with (λ x k. dropped_in x k) (record k { exchange = e })).kept coming since)
unfolding allowed_by
by_exchange set k None coming since is = absurd (unasked k.is_over _ is)
by_exchange set k (Some x) coming since is = by_reply set k x x.reply coming since is

by_change : (set : Setting) (k later : Kept) (c : Change) (coming : Bool) → allowed_by set k any_answer ≡ true
    → c ≡ doing_with (λ x k. dropped_in x k) k → later ≡ noting_since set (record c.kept { is_coming = coming }) → Left set later
by_change set k later c coming may is keeps =
    subst (λ (x : Kept). Left set x) (sym (keeps ∙ ap (λ (x : Change). noting_since set (record x.kept { is_coming = coming })) is))
    (by_exchange set k k.exchange coming _ may)

drop_leaves : (set : Setting) (k later : Kept) (out : on.Outcome) → allowed_by set k any_answer ≡ true → Machine set k on.drop_body out later → Left set later
drop_leaves set k later out may m = by_change set k later m.change m.coming may m.changes m.keeps

-- the settings stay
pub drop_leaves_with : (was settings : Settings) (k later : Kept) (out : on.Outcome) → settings ≡ was → allowed_by (setting_of was) k any_answer ≡ true
    → Machine (setting_of was) k on.drop_body out later → Left (setting_of settings) later
drop_leaves_with was settings k later out same may m = subst (λ (x : Settings). Left (setting_of x) later) (sym same) (drop_leaves (setting_of was) k later out may m)
