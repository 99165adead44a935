-- A body that is passed over leaves the rest of what the machine keeps.
use Rattle.std.proofs.Common.{◌≡◌, ℕ, ◌-◌, Bool, true, false, List, [], length, drop, Option, Some, None, Result, Ok, Err, refl, ap, ◌∙◌}
use Rattle.std.specs.Prelude.{if◌then◌else◌, nat_le, IfOk, OnErr}
use Rattle.model_h1.specs.Place.{Place}
use Rattle.model_h1.specs.Reading.{Ending, ends_before, goes_on, is_broken, read}
use Rattle.model_state.specs.Kept.{Rest, no_rest, raw_rest, fixed_rest, chunks_rest, frames_rest, Reply, unanswered, sending, answered, Exchange, Kept, is_frames, is_nothing, is_free, is_upgraded}
use Rattle.model_state.specs.Body.{Passed, pass_chunks, pass_rest, passing}
use Rattle.model_state.specs.Pull.{Pulled, finishes, IsPull}
use Rattle.model_h1.specs.Event as on
use Rattle.h1_payload.specs.Rests.{IsPulled}
use Rattle.h1_payload.specs.declared.pulled.Pulled.{Pulled as Answer}

-- ---- what is left of a body

chunks_no_frames : (place : Place) (bytes : List ℕ) (e : Ending) → is_frames (pass_chunks place bytes e).rest ≡ false
chunks_no_frames place bytes (ends_before behind) = refl
chunks_no_frames place bytes goes_on = refl
chunks_no_frames place bytes is_broken = refl

fixed_no_frames : (n : ℕ) (bytes : List ℕ) (fits : Bool)
    → is_frames (if fits then (let p : Passed = record { rest = no_rest; unread = drop n bytes } in p) else record { rest = fixed_rest (n - length bytes); unread = [] }).rest ≡ false
fixed_no_frames n bytes true = refl
fixed_no_frames n bytes false = refl

raw_no_frames : (ended : Bool) → is_frames (if ended then no_rest else raw_rest) ≡ false
raw_no_frames true = refl
raw_no_frames false = refl

-- it is no WebSocket that wasn't one
pub rest_no_frames : (ended : Bool) (rest : Rest) (bytes : List ℕ) → is_frames rest ≡ false → is_frames (pass_rest ended rest bytes).rest ≡ false
rest_no_frames ended no_rest bytes is = refl
rest_no_frames ended raw_rest bytes is = raw_no_frames ended
rest_no_frames ended (fixed_rest n) bytes is = fixed_no_frames n bytes (nat_le n (length bytes))
rest_no_frames ended (chunks_rest place section) bytes is = chunks_no_frames place bytes (read place bytes).ending
rest_no_frames ended (frames_rest under_way limit) bytes is = is

-- where nothing is left, nothing is passed
pub nothing_passed : (ended : Bool) (rest : Rest) (bytes : List ℕ) → is_nothing rest ≡ true → pass_rest ended rest bytes ≡ record { rest = rest; unread = bytes }
nothing_passed ended no_rest bytes is = refl
nothing_passed ended raw_rest bytes is = absurd (cc is)
nothing_passed ended (fixed_rest n) bytes is = absurd (cc is)
nothing_passed ended (chunks_rest place section) bytes is = absurd (cc is)
nothing_passed ended (frames_rest under_way limit) bytes is = absurd (cc is)

-- ---- a pull of nothing

-- nothing is left behind it
nothing_pulled : (ended : Bool) (rest : Rest) (bytes : List ℕ) (answer : Answer) (later : Rest) (behind : List ℕ)
    → ((p : Pulled) → IsPull ended rest bytes p → IsPulled p answer later behind) → is_nothing rest ≡ true → is_nothing later ≡ true
nothing_pulled ended no_rest bytes answer later behind pulled is = ap is_nothing (pulled (finishes on.body_ended no_rest bytes) refl).rest_is
nothing_pulled ended raw_rest bytes answer later behind pulled is = absurd (cc is)
nothing_pulled ended (fixed_rest n) bytes answer later behind pulled is = absurd (cc is)
nothing_pulled ended (chunks_rest place section) bytes answer later behind pulled is = absurd (cc is)
nothing_pulled ended (frames_rest under_way limit) bytes answer later behind pulled is = absurd (cc is)

-- also where memory ran out
pub still_nothing : {E : Type 0} (P : Type 0) (ended : Bool) (rest : Rest) (bytes : List ℕ) (r : Result Answer E) (later : Rest) (behind : List ℕ)
    → IfOk r (λ answer. (p : Pulled) → IsPull ended rest bytes p → IsPulled p answer later behind) → OnErr r ((later ≡ rest) × P) → is_nothing rest ≡ true → is_nothing later ≡ true
still_nothing P ended rest bytes (Ok answer) later behind pulled same is = nothing_pulled ended rest bytes answer later behind pulled is
still_nothing P ended rest bytes (Err e) later behind pulled same is = ap is_nothing same.0 ∙ is

-- ---- of a connection

-- whether a head is coming is no matter
coming_reply : (k : Kept) (b : Bool) (x : Exchange) (r : Reply)
    → passing (record k { is_coming = b; exchange = Some (record x { reply = r }) })
    ≡ record (passing (record k { exchange = Some (record x { reply = r }) })) { is_coming = b }
unfolding passing
coming_reply k b x unanswered = refl
coming_reply k b x (sending shape kind missing) = refl
coming_reply k b x (answered kind) = refl

coming_exchange : (k : Kept) (b : Bool) (e : Option Exchange) → passing (record k { is_coming = b; exchange = e }) ≡ record (passing (record k { exchange = e })) { is_coming = b }
unfolding passing
coming_exchange k b None = refl
coming_exchange k b (Some x) = coming_reply k b x x.reply

pub passing_coming : (k : Kept) (b : Bool) → passing (record k { is_coming = b }) ≡ record (passing k) { is_coming = b }
passing_coming k b = coming_exchange k b k.exchange

-- it is no WebSocket that wasn't one
framed_reply : (k : Kept) (x : Exchange) (r : Reply) → is_frames x.rest ≡ false → is_upgraded (passing (record k { exchange = Some (record x { reply = r }) })) ≡ false
unfolding passing
framed_reply k x unanswered is = is
framed_reply k x (sending shape kind missing) is = is
framed_reply k x (answered kind) is = rest_no_frames k.has_ended x.rest k.unread is

framed_exchange : (k : Kept) (e : Option Exchange) → is_upgraded (record k { exchange = e }) ≡ false → is_upgraded (passing (record k { exchange = e })) ≡ false
unfolding passing
framed_exchange k None is = refl
framed_exchange k (Some x) is = framed_reply k x x.reply is

pub passing_framed : (k : Kept) → is_upgraded k ≡ false → is_upgraded (passing k) ≡ false
passing_framed k is = framed_exchange k k.exchange is

-- where nothing of the last request is left, all stays
free_rest : (k : Kept) (x : Exchange) (rest : Rest) → is_nothing rest ≡ true → x.rest ≡ rest → pass_rest k.has_ended x.rest k.unread ≡ record { rest = x.rest; unread = k.unread }
free_rest k x rest is same = nothing_passed k.has_ended x.rest k.unread (ap is_nothing same ∙ is)

free_reply : (k : Kept) (x : Exchange) (r : Reply) → is_free (record k { exchange = Some (record x { reply = r }) }) ≡ true
    → passing (record k { exchange = Some (record x { reply = r }) }) ≡ record k { exchange = Some (record x { reply = r }) }
unfolding passing
free_reply k x unanswered is = refl
free_reply k x (sending shape kind missing) is = refl
free_reply k x (answered kind) is =
    let same = nothing_passed k.has_ended x.rest k.unread is in
    λ i. record k { unread = (same i).unread; exchange = Some (record x { reply = answered kind; rest = (same i).rest }) }

free_exchange : (k : Kept) (e : Option Exchange) → is_free (record k { exchange = e }) ≡ true → passing (record k { exchange = e }) ≡ record k { exchange = e }
unfolding passing
free_exchange k None is = refl
free_exchange k (Some x) is = free_reply k x x.reply is

pub passing_free : (k : Kept) → is_free k ≡ true → passing k ≡ k
passing_free k is = free_exchange k k.exchange is

-- the moment stays
now_reply : (k : Kept) (x : Exchange) (r : Reply) → (passing (record k { exchange = Some (record x { reply = r }) })).clock ≡ k.clock
unfolding passing
now_reply k x unanswered = refl
now_reply k x (sending shape kind missing) = refl
now_reply k x (answered kind) = refl

clock_exchange : (k : Kept) (e : Option Exchange) → (passing (record k { exchange = e })).clock ≡ k.clock
unfolding passing
clock_exchange k None = refl
clock_exchange k (Some x) = now_reply k x x.reply

pub passing_clock : (k : Kept) → (passing k).clock ≡ k.clock
passing_clock k = clock_exchange k k.exchange
