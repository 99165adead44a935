-- A walk over bytes that finds the runs by the places: a run begins behind the LF of a size line above 0.
use Rattle.std.proofs.Common.{◌≡◌, ℕ, suc, ◌+◌, ◌-◌, Bool, true, false, cond, eqb, ltb, ◌&&◌, List, [], ◌∷◌, ◌++◌, length, refl, sym, ap, ◌∙◌, arith}
use Rattle.std.proofs.lemmas.List.{append_assoc}
use Rattle.httparse.specs.Grammar.{is_token_byte, is_value_byte}
use Rattle.httparse.specs.Ascii.{line_feed, carriage_return, colon}
use Rattle.model_h1.specs.Runs.{Run}
use Rattle.model_h1.specs.Place.{InLine, line_start, in_name, in_value, line_cr, Place, size_cr, in_section, end_cr, done, broken, needs, with_room, section_step, step, after}

-- the run of so many bytes from a place on, if there are some
abbrev pub run_at : ℕ → ℕ → List Run
run_at place n = cond (ltb 0 n) (record { start = place; end = place + n } ∷ []) []

-- the run that begins behind the byte at this place
abbrev pub opened : ℕ → Place → ℕ → List Run
opened place (size_cr size) b = cond (eqb b line_feed) (run_at (place + 1) size) []
opened place at b = []

-- the runs that begin behind the bytes, of which the first is at this place
unfoldable pub runs_of : ℕ → Place → List ℕ → List Run
runs_of place at [] = []
runs_of place at (b ∷ bytes) = opened place at b ++ runs_of (place + 1) (step at b) bytes

-- no byte opens no run
pub runs_of-nil : (place : ℕ) (at : Place) → runs_of place at [] ≡ []
unfolding runs_of
runs_of-nil place at = refl

-- one more byte in front may open a run
pub runs_of-cons : (place : ℕ) (at : Place) (b : ℕ) (bytes : List ℕ)
    → runs_of place at (b ∷ bytes) ≡ opened place at b ++ runs_of (place + 1) (step at b) bytes
unfolding runs_of
runs_of-cons place at b bytes = refl

-- the runs of two pieces, one behind the other
pub runs_of-append : (place : ℕ) (at : Place) (xs ys : List ℕ)
    → runs_of place at (xs ++ ys) ≡ runs_of place at xs ++ runs_of (place + length xs) (after at xs) ys
unfolding runs_of after
runs_of-append place at [] ys =
    let same : place ≡ place + 0 = omega arith in
    ap (λ p. runs_of p at ys) same
runs_of-append place at (x ∷ xs) ys =
    let same : place + 1 + length xs ≡ place + suc (length xs) = omega arith in
    ap (λ l. opened place at x ++ l) (runs_of-append (place + 1) (step at x) xs ys)
    ∙ sym (append_assoc (opened place at x) _ _)
    ∙ ap (λ p. (opened place at x ++ runs_of (place + 1) (step at x) xs) ++ runs_of p (after (step at x) xs) ys) same

-- ---- behind the last size line

-- behind the last size line, or nowhere in a body
abbrev pub is_late : Place → Bool
is_late (in_section at lines room) = true
is_late end_cr = true
is_late done = true
is_late broken = true
is_late at = false

-- a choice between two such places is one
late_choice : (b : Bool) (x y : Place) → is_late x ≡ true → is_late y ≡ true → is_late (cond b x y) ≡ true
late_choice true x y late_x late_y = late_x
late_choice false x y late_x late_y = late_y

-- a byte that is kept stays there
late_kept : (to : InLine) (lines room : ℕ) → is_late (with_room to lines room) ≡ true
late_kept to lines room = late_choice (ltb (needs to) room) (in_section to lines (room - 1)) broken refl refl

-- so does one that leads to a kept one, or to another
late_or_kept : (b c : Bool) (to : InLine) (x : Place) (lines room : ℕ) → is_late x ≡ true
    → is_late (cond b x (cond c (with_room to lines room) broken)) ≡ true
late_or_kept b c to x lines room late =
    late_choice b x (cond c (with_room to lines room) broken) late (late_choice c (with_room to lines room) broken (late_kept to lines room) refl)

-- so does any byte of a section
pub late_section : (at : InLine) (lines room b : ℕ) → is_late (section_step at lines room b) ≡ true
late_section line_start lines room b =
    late_or_kept (eqb b carriage_return) (ltb 0 lines && is_token_byte b) in_name end_cr lines room refl
late_section in_name lines room b =
    late_or_kept (eqb b colon) (is_token_byte b) in_name (with_room in_value lines room) lines room (late_kept in_value lines room)
late_section in_value lines room b =
    late_or_kept (eqb b carriage_return) (is_value_byte b) in_value (with_room line_cr lines room) lines room (late_kept line_cr lines room)
late_section line_cr lines room b =
    late_choice (eqb b line_feed) (with_room line_start (lines - 1) room) broken (late_kept line_start (lines - 1) room) refl

-- nothing leads back
pub late_step : (at : Place) (b : ℕ) → is_late at ≡ true → is_late (step at b) ≡ true
late_step (in_section at lines room) b late = late_section at lines room b
late_step end_cr b late = late_choice (eqb b line_feed) done broken refl refl
late_step done b late = refl
late_step broken b late = refl
late_step at b late = cc

-- no run begins there
late_opened : (place : ℕ) (at : Place) (b : ℕ) → is_late at ≡ true → opened place at b ≡ []
late_opened place (size_cr size) b late = cc
late_opened place at b late = refl

-- bytes there hold no run
pub runs_of_late : (place : ℕ) (at : Place) (bytes : List ℕ) → is_late at ≡ true → runs_of place at bytes ≡ []
unfolding runs_of
runs_of_late place at [] late = refl
runs_of_late place at (b ∷ bytes) late =
    ap (λ l. l ++ runs_of (place + 1) (step at b) bytes) (late_opened place at b late)
    ∙ runs_of_late (place + 1) (step at b) bytes (late_step at b late)
