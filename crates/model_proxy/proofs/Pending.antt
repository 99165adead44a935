-- Where a pull gives nothing, a further one gives nothing either, as long as no more comes.
use Rattle.std.proofs.Common.{◌≡◌, ℕ, ◌+◌, ◌-◌, Bool, true, false, cond, List, [], ◌∷◌, ◌++◌, length, drop, take, refl, sym, ap, subst}
use Rattle.std.specs.Prelude.{⊤, nat_lt}
use Rattle.model_h1.specs.Place.{InLine, Place, in_bytes, bytes_end, in_section, done, broken, step}
use Rattle.model_h1.specs.TakeNext.{Next, chunk, waits, ended, breaks, Taken, noted_line, stops_at, take_next}
use Rattle.model_h1.specs.Event as on
use Rattle.model_state.specs.Kept.{Rest, no_rest, raw_rest, fixed_rest, chunks_rest, frames_rest}
use Rattle.model_state.specs.Pull.{Pulled, IsPull, IsPullOfChunks, EndsWith, pull_raw, pull_fixed}
use Rattle.model_client.proofs.Told.{IsSound}

-- what is left of a body that isn't at its end, and isn't broken
abbrev pub GoesOn : Rest → Type 0
GoesOn raw_rest = ⊤
GoesOn (fixed_rest n) = ⊤
GoesOn (chunks_rest place section) = stops_at place ≡ waits place
GoesOn rest = ⊥

-- a pull gave nothing
pub record IsLacking (has_ended : Bool) (p : Pulled) : Type 0 where
  pub going : has_ended ≡ false
  pub unread : p.unread ≡ []
  pub rest : GoesOn p.rest
  pub undone : p.is_done ≡ false

abbrev pub LacksSo : on.Outcome → Bool → Pulled → Type 0
LacksSo (on.bytes given) t p = ⊤
LacksSo (on.trailers lines) t p = ⊤
LacksSo on.body_ended t p = ⊤
LacksSo (on.broken_by fault) t p = ⊤
LacksSo on.pending t p = IsLacking t p
LacksSo o t p = ⊥

-- ---- chunks

abbrev WaitsSo : Next → Type 0
WaitsSo (chunk given next behind) = ⊤
WaitsSo (waits next) = stops_at next ≡ waits next
WaitsSo (ended behind) = ⊤
WaitsSo breaks = ⊤

waits_stops : (place : Place) → WaitsSo (stops_at place)
waits_stops done = tt
waits_stops broken = tt
waits_stops place = refl

waits_choice : (t : Bool) (x y : Next) → WaitsSo x → WaitsSo y → WaitsSo (cond t x y)
waits_choice true x y waits_x waits_y = waits_x
waits_choice false x y waits_x waits_y = waits_y

-- a byte of a trailer line that is noted doesn't change what comes next
next_noted : (at : InLine) (lines room : ℕ) (q : Place) (b : ℕ) (t : Taken) → (noted_line (in_section at lines room) q b t).next ≡ t.next
next_noted at lines room (in_section at' lines' room') b t = refl
next_noted at lines room q b t = refl

take_waits : (bytes : List ℕ) (place : Place) → WaitsSo (take_next place bytes).next
unfolding take_next
take_waits [] place = waits_stops place
take_waits (b ∷ bytes) done = tt
take_waits (b ∷ bytes) broken = tt
take_waits (b ∷ bytes) (in_bytes more) =
    let all = b ∷ bytes in
    waits_choice (nat_lt more (length all)) (chunk (take (more + 1) all) bytes_end (drop (more + 1) all)) (chunk all (in_bytes (more - length all)) []) tt tt
take_waits (b ∷ bytes) (in_section at lines room) =
    let place = in_section at lines room in
    subst WaitsSo (sym (next_noted at lines room (step place b) b (take_next (step place b) bytes))) (take_waits bytes (step place b))
take_waits (b ∷ bytes) place = take_waits bytes (step place b)

-- ---- a pull that gives nothing

as_pull : (t : Bool) (p q : Pulled) → p ≡ q → LacksSo q.outcome t q → LacksSo p.outcome t p
as_pull t p q is x = subst (λ (p : Pulled). LacksSo p.outcome t p) (sym is) x

of_raw : (t : Bool) (bytes : List ℕ) → LacksSo (pull_raw t bytes).outcome t (pull_raw t bytes)
of_raw true (b ∷ bytes) = tt
of_raw false (b ∷ bytes) = tt
of_raw true [] = tt
of_raw false [] = record { going = refl; unread = refl; rest = tt; undone = refl }

of_fixed : (t : Bool) (n : ℕ) (bytes : List ℕ) → LacksSo (pull_fixed t n bytes).outcome t (pull_fixed t n bytes)
of_fixed t n (b ∷ bytes) = tt
of_fixed true n [] = tt
of_fixed false n [] = record { going = refl; unread = refl; rest = tt; undone = refl }

of_end : (t : Bool) (section behind : List ℕ) (p : Pulled) → EndsWith section behind p → LacksSo p.outcome t p
of_end t [] behind p is = as_pull t p _ is tt
of_end t (b ∷ section) behind p is = as_pull t p _ is.3 tt

of_chunks : (t : Bool) (place : Place) (section bytes noted : List ℕ) (next : Next) (p : Pulled) → WaitsSo next
    → IsPullOfChunks t place section bytes next noted p → LacksSo p.outcome t p
of_chunks t place section bytes noted (chunk given at behind) p so is = as_pull t p _ is tt
of_chunks true place section bytes noted (waits at) p so is = as_pull true p _ is tt
of_chunks false place section bytes noted (waits at) p so is = as_pull false p _ is (record { going = refl; unread = refl; rest = so; undone = refl })
of_chunks t place section bytes noted (ended behind) p so is = of_end t (section ++ noted) behind p is
of_chunks t place section bytes noted breaks p so is = as_pull t p _ is tt

pub pull_lacks : (t : Bool) (rest : Rest) (bytes : List ℕ) (p : Pulled) → IsSound rest → IsPull t rest bytes p → LacksSo p.outcome t p
pull_lacks t no_rest bytes p sound is = as_pull t p _ is tt
pull_lacks t raw_rest bytes p sound is = as_pull t p (pull_raw t bytes) is (of_raw t bytes)
pull_lacks t (fixed_rest n) bytes p sound is = as_pull t p (pull_fixed t n bytes) is (of_fixed t n bytes)
pull_lacks t (chunks_rest place section) bytes p sound is =
    let taken = take_next place bytes in
    of_chunks t place section bytes taken.trailers taken.next p (take_waits bytes place) is
pull_lacks t (frames_rest under_way limit) bytes p sound is = absurd sound

-- ---- and a further one

pub lacks_still : (rest : Rest) (p : Pulled) → GoesOn rest → IsPull false rest [] p → p.outcome ≡ on.pending
unfolding take_next
lacks_still raw_rest p goes is = ap (λ (p : Pulled). p.outcome) is
lacks_still (fixed_rest n) p goes is = ap (λ (p : Pulled). p.outcome) is
lacks_still (chunks_rest place section) p goes is =
    ap (λ (p : Pulled). p.outcome) (subst (λ (n : Next). IsPullOfChunks false place section [] n [] p) goes is)
lacks_still no_rest p goes is = absurd goes
lacks_still (frames_rest under_way limit) p goes is = absurd goes
