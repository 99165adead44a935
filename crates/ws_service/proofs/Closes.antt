-- While a connection closes nothing is read, and what no frame may be asked of is no connection that was upgraded, or is over.
use Rattle.std.proofs.Common.{◌≡◌, ◌⊎◌, Bool, true, false, is_some, inl, inr, refl}
use Rattle.std.specs.Prelude.{not, ◌&&◌, ◌||◌, if◌then◌else◌}
use Rattle.model_h1.specs.Event as on
use Rattle.model_h1.specs.Setting.{Setting}
use Rattle.model_state.specs.Kept.{Kept, is_upgraded}
use Rattle.model_state.specs.Local.{closing_by, allowed_by, has_body_left}
use Rattle.h1_connection.specs.Given.{frame_allowed}

stopped : (over closing may : Bool) → closing ≡ true → (not over && (if closing then false else may)) ≡ true → ⊥
stopped false true may is allowed = cc allowed
stopped true true may is allowed = cc allowed
stopped over false may is allowed = cc is

pub no_input : (set : Setting) (k : Kept) → is_some (closing_by set k) ≡ true → allowed_by set k on.eof ≡ true → ⊥
unfolding allowed_by
no_input set k closing is = stopped k.is_over (is_some (closing_by set k)) (not k.has_ended) closing is

unasked : (over closing speaks more : Bool) → closing ≡ false → ((not over && (if closing then false else (speaks || more))) && speaks) ≡ false → (speaks ≡ false) ⊎ (over ≡ true)
unasked over closing false more is refused = inl refl
unasked true closing true more is refused = inr refl
unasked false false true more is refused = absurd (cc refused)
unasked false true true more is refused = absurd (cc is)

-- it doesn't close, and no frame may be asked for
pub not_pulled : (set : Setting) (k : Kept) → is_some (closing_by set k) ≡ false → frame_allowed set k ≡ false → (is_upgraded k ≡ false) ⊎ (k.is_over ≡ true)
unfolding allowed_by
not_pulled set k runs refused = unasked k.is_over (is_some (closing_by set k)) (is_upgraded k) (has_body_left k) runs refused

unwritten : (over closing : Bool) → (not over && (if closing then true else true)) ≡ false → over ≡ true
unwritten true closing refused = refl
unwritten false true refused = absurd (cc refused)
unwritten false false refused = absurd (cc refused)

-- nothing may be written
pub not_written : (set : Setting) (k : Kept) → allowed_by set k (on.write 0) ≡ false → k.is_over ≡ true
unfolding allowed_by
not_written set k refused = unwritten k.is_over (is_some (closing_by set k)) refused
