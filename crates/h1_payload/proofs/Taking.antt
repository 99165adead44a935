-- What is taken, a byte at a time.
use Rattle.std.proofs.Common.{◌≡◌, ℕ, suc, ◌+◌, ◌-◌, ◌<◌, ltb, eqb, cond, Bool, true, false, List, [], ◌∷◌, ◌++◌, length, get_or, take, drop, refl, sym, ap, ◌∙◌, add-one, append_assoc}
use Rattle.std.specs.Prelude.{◌&&◌, ⊤}
use Rattle.std.proofs.Math.Seq.{drop-cons}
use Rattle.std.proofs.lemmas.List.{take_more}
use Rattle.httparse.specs.Grammar.{is_value_byte, is_token_byte}
use Rattle.httparse.specs.Ascii.{line_feed, carriage_return, colon}
use Rattle.model_h1.specs.Place.{InLine, line_start, in_name, in_value, line_cr, Place, in_bytes, in_section, end_cr, done, broken, needs, with_room, section_step, step}
use Rattle.model_h1.specs.TakeNext.{ended, breaks, Taken, nothing_noted, of_chunk, noted_line, stops_at, take_next}
use Rattle.h1_payload.specs.Places.{is_quiet, is_section}
use Rattle.h1_payload.specs.Scans.{noting}

-- no byte
pub take-nil : (p : Place) → take_next p [] ≡ nothing_noted (stops_at p)
unfolding take_next
take-nil p = refl

-- behind the body, all bytes are others'
pub take_done : (bytes : List ℕ) → take_next done bytes ≡ nothing_noted (ended bytes)
unfolding take_next
take_done [] = refl
take_done (b ∷ bytes) = refl

-- what is broken stays so
pub take_broken : (bytes : List ℕ) → take_next broken bytes ≡ nothing_noted breaks
unfolding take_next
take_broken [] = refl
take_broken (b ∷ bytes) = refl

-- bytes of a chunk
pub take_chunk : (more b : ℕ) (bytes : List ℕ) → take_next (in_bytes more) (b ∷ bytes) ≡ nothing_noted (of_chunk more (b ∷ bytes))
unfolding take_next
take_chunk more b bytes = refl

-- a byte that is none of a chunk or of a trailer line only leads on
pub take_quiet : (p : Place) (b : ℕ) (bytes : List ℕ) → is_quiet p ≡ true → take_next p (b ∷ bytes) ≡ take_next (step p b) bytes
unfolding take_next
take_quiet (in_bytes more) b bytes quiet = cc
take_quiet (in_section at lines room) b bytes quiet = cc
take_quiet done b bytes quiet = cc
take_quiet broken b bytes quiet = cc
take_quiet p b bytes quiet = refl

-- a byte that leads on in the section is noted
noted_in : (at : InLine) (lines room : ℕ) (q : Place) (b : ℕ) (t : Taken) → is_section q ≡ true
    → noted_line (in_section at lines room) q b t ≡ noting (b ∷ []) t
noted_in at lines room (in_section at' lines' room') b t inside = refl
noted_in at lines room q b t inside = cc

-- another isn't
noted_out : (at : InLine) (lines room : ℕ) (q : Place) (b : ℕ) (t : Taken) → is_section q ≡ false
    → noted_line (in_section at lines room) q b t ≡ t
noted_out at lines room (in_section at' lines' room') b t outside = cc
noted_out at lines room q b t outside = refl

-- a byte of a trailer line
pub take_line : (p : Place) (b : ℕ) (bytes : List ℕ) → is_section p ≡ true → is_section (step p b) ≡ true
    → take_next p (b ∷ bytes) ≡ noting (b ∷ []) (take_next (step p b) bytes)
unfolding take_next
take_line (in_section at lines room) b bytes inside on =
    let next = section_step at lines room b in
    noted_in at lines room next b (take_next next bytes) on
take_line p b bytes inside on = cc

-- a byte that ends the section
pub take_out : (p : Place) (b : ℕ) (bytes : List ℕ) → is_section p ≡ true → is_section (step p b) ≡ false
    → take_next p (b ∷ bytes) ≡ take_next (step p b) bytes
unfolding take_next
take_out (in_section at lines room) b bytes inside out =
    let next = section_step at lines room b in
    noted_out at lines room next b (take_next next bytes) out
take_out p b bytes inside out = cc

-- ---- where a section leads

-- a line goes on, the section ends, or the body is broken
abbrev StaysOrEnds : Place → Type 0
StaysOrEnds (in_section at lines room) = ⊤
StaysOrEnds end_cr = ⊤
StaysOrEnds broken = ⊤
StaysOrEnds p = ⊥

-- so is a choice between two such places
stays_choice : (b : Bool) (x y : Place) → StaysOrEnds x → StaysOrEnds y → StaysOrEnds (cond b x y)
stays_choice true x y s t = s
stays_choice false x y s t = t

-- a byte that is kept
stays_kept : (to : InLine) (lines room : ℕ) → StaysOrEnds (with_room to lines room)
stays_kept to lines room = stays_choice (ltb (needs to) room) (in_section to lines (room - 1)) broken tt tt

-- a byte of a section
stays_section : (at : InLine) (lines room b : ℕ) → StaysOrEnds (section_step at lines room b)
stays_section line_start lines room b =
    stays_choice (eqb b carriage_return) end_cr (cond (ltb 0 lines && is_token_byte b) (with_room in_name lines room) broken) tt
    (stays_choice (ltb 0 lines && is_token_byte b) (with_room in_name lines room) broken (stays_kept in_name lines room) tt)
stays_section in_name lines room b =
    stays_choice (eqb b colon) (with_room in_value lines room) (cond (is_token_byte b) (with_room in_name lines room) broken) (stays_kept in_value lines room)
    (stays_choice (is_token_byte b) (with_room in_name lines room) broken (stays_kept in_name lines room) tt)
stays_section in_value lines room b =
    stays_choice (eqb b carriage_return) (with_room line_cr lines room) (cond (is_value_byte b) (with_room in_value lines room) broken)
    (stays_kept line_cr lines room) (stays_choice (is_value_byte b) (with_room in_value lines room) broken (stays_kept in_value lines room) tt)
stays_section line_cr lines room b =
    stays_choice (eqb b line_feed) (with_room line_start (lines - 1) room) broken (stays_kept line_start (lines - 1) room) tt

-- a section that a byte ends with no CR is broken
only_broken : (q : Place) → StaysOrEnds q → is_section q ≡ false → (q ≡ end_cr → ⊥) → q ≡ broken
only_broken (in_section at lines room) stays out other = cc
only_broken end_cr stays out other = absurd (other refl)
only_broken broken stays out other = refl
only_broken q stays out other = absurd stays

pub breaks_section : (p : Place) (b : ℕ) → is_section p ≡ true → is_section (step p b) ≡ false → (step p b ≡ end_cr → ⊥) → step p b ≡ broken
breaks_section (in_section at lines room) b inside out other = only_broken (section_step at lines room b) (stays_section at lines room b) out other
breaks_section p b inside out other = cc

-- ---- loops

-- one more quiet byte
pub passed_more : (start p next : Place) (bytes : List ℕ) (at b : ℕ) → take_next start bytes ≡ take_next p (drop at bytes) → is_quiet p ≡ true
    → at < length bytes → b ≡ get_or bytes at 0 → next ≡ step p b → take_next start bytes ≡ take_next next (drop (at + 1) bytes)
passed_more start p next bytes at b same quiet below is leads =
    same
    ∙ ap (take_next p) (drop-cons bytes at 0 below)
    ∙ take_quiet p (get_or bytes at 0) (drop (suc at) bytes) quiet
    ∙ ap (λ x. take_next (step p x) (drop (suc at) bytes)) (sym is)
    ∙ ap (λ q. take_next q (drop (suc at) bytes)) (sym leads)
    ∙ ap (λ n. take_next next (drop n bytes)) (sym (add-one at))

-- noted bytes, and then others
noting-append : (xs ys : List ℕ) (t : Taken) → noting xs (noting ys t) ≡ noting (xs ++ ys) t
noting-append xs ys t = ap (λ (l : List ℕ). record t { trailers = l }) (sym (append_assoc xs ys t.trailers))

-- one more byte of a trailer line
pub lines_more : (start p next : Place) (bytes : List ℕ) (at b : ℕ) → take_next start bytes ≡ noting (take at bytes) (take_next p (drop at bytes))
    → is_section p ≡ true → at < length bytes → b ≡ get_or bytes at 0 → next ≡ step p b → is_section next ≡ true
    → take_next start bytes ≡ noting (take (at + 1) bytes) (take_next next (drop (at + 1) bytes))
lines_more start p next bytes at b same inside below is leads on =
    let x = get_or bytes at 0 in
    let to : next ≡ step p x = leads ∙ ap (step p) is in
    let stays : is_section (step p x) ≡ true = ap is_section (sym to) ∙ on in
    same
    ∙ ap (λ l. noting (take at bytes) (take_next p l)) (drop-cons bytes at 0 below)
    ∙ ap (noting (take at bytes)) (take_line p x (drop (suc at) bytes) inside stays)
    ∙ noting-append (take at bytes) (x ∷ []) (take_next (step p x) (drop (suc at) bytes))
    ∙ ap (λ l. noting l (take_next (step p x) (drop (suc at) bytes))) (sym (take_more bytes at 0 below))
    ∙ ap (λ q. noting (take (at + 1) bytes) (take_next q (drop (suc at) bytes))) (sym to)
    ∙ ap (λ n. noting (take (at + 1) bytes) (take_next next (drop n bytes))) (sym (add-one at))
