-- What a pull passes of a body in chunks, and what then holds of the text that is passed.
use Rattle.std.proofs.Common.{◌≡◌, ℕ, ◌+◌, ◌≤◌, Bool, true, List, [], ◌∷◌, ◌++◌, length, drop, Option, refl, sym, ap, ◌∙◌, arith, append-nil, length-append}
use Rattle.std.specs.Prelude.{◌||◌, slice_range}
use Rattle.std.proofs.lemmas.Bool.{or_right}
use Rattle.model_h1.specs.Runs.{Run}
use Rattle.model_h1.specs.Chunked.{Chunked}
use Rattle.model_h1.specs.Place.{Place, done, start, after}
use Rattle.model_h1.specs.Reading.{Reading, read}
use Rattle.model_h1.specs.TakeNext.{chunk, waits, ended, Taken, nothing_noted, take_next}
use Rattle.model_h1.proofs.ReadSteps.{read-nil}
use Rattle.model_state.proofs.ChunkStops.{IsWholeTaken}
use Rattle.model_state.proofs.PassedText.{part_front, part_all, Follows}
use Rattle.model_state.proofs.ChunkGives.{IsGiven, IsWaiting, next_of}

-- behind a whole body comes its end
done_ends : (bytes : List ℕ) → take_next done bytes ≡ nothing_noted (ended bytes)
unfolding take_next
done_ends [] = refl
done_ends (b ∷ bytes) = refl

-- where the passed text is whole, its end comes next
pub ends_next : (place upto : ℕ) (bytes : List ℕ) → after start (slice_range bytes place upto) ≡ done
    → next_of place upto bytes ≡ nothing_noted (ended (drop upto bytes))
ends_next place upto bytes e = ap (λ p. take_next p (drop upto bytes)) e ∙ done_ends (drop upto bytes)

-- where its trailers were given, too
pub told_next : (place upto given : ℕ) (bytes : List ℕ) (told finished : Bool) → Follows place upto bytes given told finished → told ≡ true
    → (next_of place upto bytes).next ≡ ended (drop upto bytes)
told_next place upto given bytes told finished f e = ap (λ (t : Taken). t.next) (ends_next place upto bytes (f.opens e))

-- an end is no other answer
ended_no_chunk : (rest given behind : List ℕ) (next : Place) → ended rest ≡ chunk given next behind → ⊥
ended_no_chunk rest given behind next e = cc

-- nor that nothing comes
ended_no_wait : (rest : List ℕ) (next : Place) → ended rest ≡ waits next → ⊥
ended_no_wait rest next e = cc

-- bytes are given
pub follows_chunk : (place upto given : ℕ) (bytes text : List ℕ) (told finished : Bool) (left : Option Run) (more : List ℕ)
    (next : Place) (behind : List ℕ)
    → Follows place upto bytes given told finished → (next_of place upto bytes).next ≡ chunk more next behind
    → (x : IsGiven place upto bytes text left more next behind) → Follows place (upto + x.size) bytes (given + length more) told finished
follows_chunk place upto given bytes text told finished left more next behind f e x =
    let order = f.order in
    let count = f.given_is in
    let sizes = length-append (read start (slice_range bytes place upto)).body (more ++ []) in
    record {
      order = omega arith;
      within = x.within;
      unbroken = λ b. x.lives.not_broken (sym x.next_is ∙ b);
      given_is = ap (λ (r : Reading). length r.body) x.reads ∙ omega (arith, ap length (append-nil more));
      closes = λ d. absurd (x.lives.not_done (sym x.next_is ∙ d));
      opens = λ t. absurd (ended_no_chunk (drop upto bytes) more behind next (sym (told_next place upto given bytes told finished f t) ∙ e));
    }

-- nothing comes: all is passed
pub follows_wait : (place upto given : ℕ) (bytes text : List ℕ) (told finished : Bool) (a : Chunked) (left : Option Run) (next : Place)
    → Follows place upto bytes given told finished → (next_of place upto bytes).next ≡ waits next
    → IsWaiting place upto bytes text a left next → Follows place (length bytes) bytes given told finished
follows_wait place upto given bytes text told finished a left next f e x =
    let order = f.order in
    let within = f.within in
    let all = part_all bytes place in
    let here = ap (after start) all ∙ x.next_is in
    let body = ap (λ (r : Reading). r.body) x.reads
    ∙ ap (λ (r : Reading). (read start (slice_range bytes place upto)).body ++ r.body) (read-nil next)
    ∙ append-nil (read start (slice_range bytes place upto)).body in
    record {
      order = omega arith;
      within = omega arith;
      unbroken = λ b. x.lives.not_broken (sym here ∙ b);
      given_is = ap (λ l. length (read start l).body) all ∙ ap length body ∙ f.given_is;
      closes = λ d. absurd (x.lives.not_done (sym here ∙ d));
      opens = λ t. absurd (ended_no_wait (drop upto bytes) next (sym (told_next place upto given bytes told finished f t) ∙ e));
    }

-- the body has ended, and its trailers or its end are given
pub follows_end : (place upto given : ℕ) (bytes text : List ℕ) (told finished told' finished' : Bool) (a : Chunked) (behind : List ℕ)
    → Follows place upto bytes given told finished → (x : IsWholeTaken (drop place bytes) (slice_range bytes place upto) text a behind)
    → place + x.size ≤ length bytes → (told' || finished') ≡ true → Follows place (place + x.size) bytes given told' finished'
follows_end place upto given bytes text told finished told' finished' a behind f x within closed =
    let part = part_front bytes place x.size in
    let here = ap (after start) part ∙ x.ends in
    record {
      order = omega arith;
      within = within;
      unbroken = λ b. let same = sym here ∙ b in cc;
      given_is = ap (λ l. length (read start l).body) part ∙ ap length x.body ∙ f.given_is;
      closes = λ _. closed;
      opens = λ _. here;
    }

-- a fault passes nothing
pub follows_fault : (place upto given : ℕ) (bytes : List ℕ) (told finished : Bool) → Follows place upto bytes given told finished
    → Follows place upto bytes given told true
follows_fault place upto given bytes told finished f =
    record {
      order = f.order;
      within = f.within;
      unbroken = f.unbroken;
      given_is = f.given_is;
      closes = λ _. or_right told true refl;
      opens = f.opens;
    }
