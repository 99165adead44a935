-- What a pull leaves of a body.
use Rattle.std.proofs.Common.{◌≡◌, ℕ, ◌+◌, ◌-◌, ◌<◌, ◌≤◌, Bool, true, false, cond, List, [], ◌∷◌, ◌++◌, length, drop, take, refl, sym, ap, ◌∙◌, subst, arith, length-append, length-drop}
use Rattle.std.specs.Prelude.{⊤, nat_le, nat_lt}
use Rattle.model_h1.specs.Place.{InLine, Place, in_bytes, bytes_end, in_section, done, broken, step, after}
use Rattle.model_h1.specs.Reading.{Reading, Ending, goes_on, is_broken, ends_before, read}
use Rattle.model_h1.specs.TakeNext.{Next, chunk, waits, ended, breaks, Taken, noted_line, stops_at, take_next, says}
use Rattle.model_h1.proofs.ReadSteps.{ending-noted}
use Rattle.model_h1.proofs.TakenPlaces.{taken_chunk_leads}
use Rattle.model_h1.proofs.TakenReads.{taken_is_read}
use Rattle.model_h1.specs.Event as on
use Rattle.model_state.specs.Body.{Passed, pass_chunks, pass_rest}
use Rattle.model_state.specs.Kept.{Rest, no_rest, raw_rest, fixed_rest, chunks_rest, frames_rest}
use Rattle.model_state.specs.Pull.{Pulled, IsPull, IsPullOfChunks, EndsWith, pull_raw, pull_fixed}
use Rattle.model_client.proofs.Told.{IsSound}
use Rattle.model_proxy.specs.Left.{left_of_rest, bytes_left}

pub at_most_one : (rest : Rest) → left_of_rest rest ≤ 1
at_most_one no_rest = omega arith
at_most_one raw_rest = omega arith
at_most_one (fixed_rest n) = omega arith
at_most_one (chunks_rest place section) = omega arith
at_most_one (frames_rest under_way limit) = omega arith

-- ---- chunks

-- what is read where this part came next has its bytes in front
body_of : (place next : Place) (bytes given behind : List ℕ) → (take_next place bytes).next ≡ chunk given next behind
    → (read place (bytes ++ [])).body ≡ given ++ (read next (behind ++ [])).body
body_of place next bytes given behind e =
    ap (λ (r : Reading). r.body) (taken_is_read bytes place []) ∙ ap (λ (n : Next). (says n []).body) e

same_body : (p q : Place) (a b : List ℕ) → p ≡ q → a ≡ b → (read p (a ++ [])).body ≡ (read q (b ++ [])).body
same_body p q a b x y = ap (λ (p : Place). (read p (a ++ [])).body) x ∙ ap (λ (l : List ℕ). (read q (l ++ [])).body) y

-- no byte is passed: then what was given would stand in front of itself
behind_front : (place next : Place) (bytes given behind front : List ℕ) → (take_next place bytes).next ≡ chunk given next behind → 0 < length given
    → bytes ≡ front ++ behind → next ≡ after place front → length behind < length bytes
unfolding after
behind_front place next bytes given behind [] e some parts leads =
    let same = body_of place next bytes given behind e ∙ ap (λ (l : List ℕ). given ++ l) (same_body next place behind bytes leads (sym parts)) in
    absurd (omega (arith, some, ap length same, length-append given (read place (bytes ++ [])).body))
behind_front place next bytes given behind (b ∷ front) e some parts leads = omega (arith, ap length parts, length-append front behind)

pub chunk_shortens : (place next : Place) (bytes given behind : List ℕ) → (take_next place bytes).next ≡ chunk given next behind
    → length behind < length bytes
chunk_shortens place next bytes given behind e =
    let x = taken_chunk_leads place next bytes given behind e in
    behind_front place next bytes given behind x.front e x.some x.parts x.leads

-- ---- what stands after an end is no longer

abbrev ShortAt : ℕ → Ending → Type 0
ShortAt n (ends_before behind) = length behind ≤ n
ShortAt n goes_on = ⊤
ShortAt n is_broken = ⊤

short_more : (n m : ℕ) (ending : Ending) → n ≤ m → ShortAt n ending → ShortAt m ending
short_more n m (ends_before behind) le x = omega (arith, le, x)
short_more n m goes_on le x = tt
short_more n m is_broken le x = tt

short_nil : (place : Place) → ShortAt 0 (read place []).ending
unfolding read
short_nil done = omega arith
short_nil broken = tt
short_nil place = tt

pub read_short : (bytes : List ℕ) (place : Place) → ShortAt (length bytes) (read place bytes).ending
unfolding read
read_short [] place = short_nil place
read_short (b ∷ bytes) done = omega arith
read_short (b ∷ bytes) place =
    let r = read (step place b) bytes in
    subst (ShortAt (length (b ∷ bytes))) (sym (ending-noted place (step place b) b r))
    (short_more (length bytes) (length (b ∷ bytes)) r.ending (omega arith) (read_short bytes (step place b)))

abbrev ShortNext : ℕ → Next → Type 0
ShortNext n (chunk given next behind) = ⊤
ShortNext n (ended behind) = length behind ≤ n
ShortNext n (waits next) = ⊤
ShortNext n breaks = ⊤

next_more : (n m : ℕ) (next : Next) → n ≤ m → ShortNext n next → ShortNext m next
next_more n m (chunk given next behind) le x = tt
next_more n m (ended behind) le x = omega (arith, le, x)
next_more n m (waits next) le x = tt
next_more n m breaks le x = tt

-- a byte of a trailer line that is noted doesn't change what comes next
next_noted : (at : InLine) (lines room : ℕ) (q : Place) (b : ℕ) (t : Taken) → (noted_line (in_section at lines room) q b t).next ≡ t.next
next_noted at lines room (in_section at' lines' room') b t = refl
next_noted at lines room q b t = refl

next_stops : (place : Place) → ShortNext 0 (stops_at place)
next_stops done = omega arith
next_stops broken = tt
next_stops place = tt

next_choice : (t : Bool) (n : ℕ) (x y : Next) → ShortNext n x → ShortNext n y → ShortNext n (cond t x y)
next_choice true n x y short_x short_y = short_x
next_choice false n x y short_x short_y = short_y

pub next_short : (bytes : List ℕ) (place : Place) → ShortNext (length bytes) (take_next place bytes).next
unfolding take_next
next_short [] place = next_stops place
next_short (b ∷ bytes) done = omega arith
next_short (b ∷ bytes) broken = tt
next_short (b ∷ bytes) (in_bytes more) =
    let all = b ∷ bytes in
    next_choice (nat_lt more (length all)) (length all) (chunk (take (more + 1) all) bytes_end (drop (more + 1) all)) (chunk all (in_bytes (more - length all)) []) tt tt
next_short (b ∷ bytes) (in_section at lines room) =
    let place = in_section at lines room in
    let t = take_next (step place b) bytes in
    subst (ShortNext (length (b ∷ bytes))) (sym (next_noted at lines room (step place b) b t))
    (next_more (length bytes) (length (b ∷ bytes)) t.next (omega arith) (next_short bytes (step place b)))
next_short (b ∷ bytes) place =
    next_more (length bytes) (length (b ∷ bytes)) (take_next (step place b) bytes).next (omega arith) (next_short bytes (step place b))

-- ---- a pull

abbrev pub LeavesSo : on.Outcome → ℕ → Pulled → Type 0
LeavesSo (on.bytes given) n p = bytes_left p.unread p.rest + 15 ≤ n
LeavesSo (on.trailers lines) n p = bytes_left p.unread p.rest < n
LeavesSo on.body_ended n p = bytes_left p.unread p.rest ≤ n
LeavesSo (on.broken_by fault) n p = bytes_left p.unread p.rest ≤ n
LeavesSo on.pending n p = (p.unread ≡ []) × (bytes_left p.unread p.rest ≤ n)
LeavesSo o n p = ⊥

abbrev pub Leaves : ℕ → Pulled → Type 0
Leaves n p = LeavesSo p.outcome n p

as_pull : (n : ℕ) (p q : Pulled) → p ≡ q → Leaves n q → Leaves n p
as_pull n p q is x = subst (Leaves n) (sym is) x

of_raw : (t : Bool) (bytes : List ℕ) → Leaves (bytes_left bytes raw_rest) (pull_raw t bytes)
of_raw true (b ∷ bytes) = omega arith
of_raw false (b ∷ bytes) = omega arith
of_raw true [] = omega arith
of_raw false [] = (refl, omega arith)

of_fixed : (t : Bool) (n : ℕ) (bytes : List ℕ) → 0 < n → Leaves (bytes_left bytes (fixed_rest n)) (pull_fixed t n bytes)
of_fixed t n (b ∷ bytes) some =
    let count = length (b ∷ bytes) in
    let rest = at_most_one (cond (nat_le n count) no_rest (fixed_rest (n - count))) in
    omega (arith, length-drop n (b ∷ bytes), some, rest)
of_fixed true n [] some = omega arith
of_fixed false n [] some = (refl, omega arith)

of_end : (section behind bytes : List ℕ) (place : Place) (noted : List ℕ) (p : Pulled) → length behind ≤ length bytes → EndsWith section behind p
    → Leaves (bytes_left bytes (chunks_rest place noted)) p
of_end [] behind bytes place noted p short is = as_pull _ p _ is (omega (arith, short))
of_end (b ∷ section) behind bytes place noted p short is = as_pull _ p _ is.3 (omega (arith, short))

of_chunks : (t : Bool) (place : Place) (section bytes noted : List ℕ) (next : Next) (p : Pulled) → (take_next place bytes).next ≡ next
    → ShortNext (length bytes) next → IsPullOfChunks t place section bytes next noted p → Leaves (bytes_left bytes (chunks_rest place section)) p
of_chunks t place section bytes noted (chunk given at behind) p e short is =
    as_pull _ p _ is (omega (arith, chunk_shortens place at bytes given behind e))
of_chunks true place section bytes noted (waits at) p e short is = as_pull _ p _ is (omega arith)
of_chunks false place section bytes noted (waits at) p e short is = as_pull _ p _ is (refl, omega arith)
of_chunks t place section bytes noted (ended behind) p e short is = of_end (section ++ noted) behind bytes place section p short is
of_chunks t place section bytes noted breaks p e short is = as_pull _ p _ is (omega arith)

pub pull_leaves : (t : Bool) (rest : Rest) (bytes : List ℕ) (p : Pulled) → IsSound rest → IsPull t rest bytes p → Leaves (bytes_left bytes rest) p
pull_leaves t no_rest bytes p sound is = as_pull _ p _ is (omega arith)
pull_leaves t raw_rest bytes p sound is = as_pull _ p (pull_raw t bytes) is (of_raw t bytes)
pull_leaves t (fixed_rest n) bytes p sound is = as_pull _ p (pull_fixed t n bytes) is (of_fixed t n bytes sound)
pull_leaves t (chunks_rest place section) bytes p sound is =
    let taken = take_next place bytes in
    of_chunks t place section bytes taken.trailers taken.next p refl (next_short bytes place) is
pull_leaves t (frames_rest under_way limit) bytes p sound is = absurd sound

-- ---- a body that is passed

abbrev PassedSo : ℕ → Passed → Type 0
PassedSo n p = bytes_left p.unread p.rest ≤ n

pass_choice : (t : Bool) (n : ℕ) (x y : Passed) → PassedSo n x → PassedSo n y → PassedSo n (cond t x y)
pass_choice true n x y left_x left_y = left_x
pass_choice false n x y left_x left_y = left_y

pass_chunks_leaves : (place : Place) (section bytes : List ℕ) (ending : Ending) → ShortAt (length bytes) ending
    → PassedSo (bytes_left bytes (chunks_rest place section)) (pass_chunks place bytes ending)
pass_chunks_leaves place section bytes (ends_before behind) short = omega (arith, short)
pass_chunks_leaves place section bytes goes_on short = omega arith
pass_chunks_leaves place section bytes is_broken short = omega arith

pub pass_leaves : (t : Bool) (rest : Rest) (bytes : List ℕ) → PassedSo (bytes_left bytes rest) (pass_rest t rest bytes)
pass_leaves t no_rest bytes = omega arith
pass_leaves true raw_rest bytes = omega arith
pass_leaves false raw_rest bytes = omega arith
pass_leaves t (fixed_rest n) bytes =
    pass_choice (nat_le n (length bytes)) _ (record { rest = no_rest; unread = drop n bytes }) (record { rest = fixed_rest (n - length bytes); unread = [] })
    (omega (arith, length-drop n bytes)) (omega arith)
pass_leaves t (chunks_rest place section) bytes = pass_chunks_leaves place section bytes (read place bytes).ending (read_short bytes place)
pass_leaves t (frames_rest under_way limit) bytes = omega arith
