-- What a pull that gives nothing, or a fault, says of the bytes.
use Rattle.std.proofs.Common.{◌≡◌, ℕ, ◌+◌, ◌-◌, ◌<◌, ltb, leb, false, List, [], ◌∷◌, ◌++◌, length, take, drop, refl, sym, ap, ◌∙◌, subst, arith, append-nil}
use Rattle.std.specs.Prelude.{⊤}
use Rattle.std.proofs.lemmas.Bool.{cond_both, cond-false, lt-leb}
use Rattle.std.proofs.lemmas.List.{take_all}
use Rattle.model_h1.specs.Place.{Place, in_bytes, bytes_end, in_section, done, broken, step}
use Rattle.model_h1.specs.Reading.{Ending, goes_on, is_broken, ends_before, only, at_end, with_trailers}
use Rattle.model_h1.specs.TakeNext.{Next, chunk, waits, ended, breaks, of_chunk, stops_at, take_next}
use Rattle.model_h1.proofs.ReadSteps.{read-nil}
use Rattle.model_h1.specs.Event.{Outcome}
use Rattle.model_h1.specs.Event as on
use Rattle.model_state.specs.Kept.{Rest, no_rest, raw_rest, fixed_rest, chunks_rest, frames_rest}
use Rattle.model_state.specs.Pull as pulls
use Rattle.model_state.specs.Pull.{pull_fixed, pull_raw, EndsWith, IsPullOfChunks, IsPull}
use Rattle.h1_payload.specs.Fitting.{Fits}
use Rattle.h1_payload.specs.Decoding.{Payload, no_payload, reading_of, HasTrailers, IsReadAs}
use Rattle.h1_payload.proofs.GoingOn.{taken_reading}
use Rattle.h1_payload.proofs.Rooms.{next-noted}

-- nothing is said but how the body ends
same_payload : (q : Payload) (e : Ending) → q.body ≡ [] → q.trailers ≡ [] → q.ending ≡ e → q ≡ no_payload e
same_payload q e a b c = λ i. record { body = a i; trailers = b i; ending = c i }

-- ---- a fault

abbrev pub IsFault : Outcome → Type 0
IsFault (on.broken_by fault) = ⊤
IsFault o = ⊥

ends_no_fault : (text behind : List ℕ) (p : pulls.Pulled) → EndsWith text behind p → IsFault p.outcome → ⊥
ends_no_fault [] behind p x fault = subst (λ (r : pulls.Pulled). IsFault r.outcome) x fault
ends_no_fault (b ∷ text) behind p x fault = subst (λ (r : pulls.Pulled). IsFault r.outcome) x.3 fault

raw_no_fault : (bytes : List ℕ) → IsFault (pull_raw false bytes).outcome → ⊥
raw_no_fault [] fault = fault
raw_no_fault (b ∷ bytes) fault = fault

fixed_no_fault : (n : ℕ) (bytes : List ℕ) → IsFault (pull_fixed false n bytes).outcome → ⊥
fixed_no_fault n [] fault = fault
fixed_no_fault n (b ∷ bytes) fault = fault

chunks_broken : (place : Place) (section bytes : List ℕ) (next : Next) (p : pulls.Pulled) → (take_next place bytes).next ≡ next
    → IsPullOfChunks false place section bytes next (take_next place bytes).trailers p → IsFault p.outcome
    → (z : List ℕ) (q : Payload) → IsReadAs (reading_of (chunks_rest place section) (bytes ++ z)) q → q ≡ no_payload is_broken
chunks_broken place section bytes (chunk given next behind) p e x fault z q y = absurd (subst (λ (r : pulls.Pulled). IsFault r.outcome) x fault)
chunks_broken place section bytes (waits next) p e x fault z q y = absurd (subst (λ (r : pulls.Pulled). IsFault r.outcome) x fault)
chunks_broken place section bytes (ended behind) p e x fault z q y =
    absurd (ends_no_fault (section ++ (take_next place bytes).trailers) behind p x fault)
chunks_broken place section bytes breaks p e x fault z q y =
    let k = subst (λ t. IsReadAs t q) (taken_reading place section bytes breaks z e) y in
    same_payload q is_broken k.body k.trailers k.ending

pub fault_is_broken : (rest : Rest) (bytes : List ℕ) (p : pulls.Pulled) → Fits rest → IsPull false rest bytes p → IsFault p.outcome
    → (z : List ℕ) (q : Payload) → IsReadAs (reading_of rest (bytes ++ z)) q → q ≡ no_payload is_broken
fault_is_broken no_rest bytes p fits x fault = λ z q y. absurd (subst (λ (r : pulls.Pulled). IsFault r.outcome) x fault)
fault_is_broken raw_rest bytes p fits x fault = λ z q y. absurd (raw_no_fault bytes (subst (λ (r : pulls.Pulled). IsFault r.outcome) x fault))
fault_is_broken (fixed_rest n) bytes p fits x fault = λ z q y. absurd (fixed_no_fault n bytes (subst (λ (r : pulls.Pulled). IsFault r.outcome) x fault))
fault_is_broken (chunks_rest place section) bytes p fits x fault = chunks_broken place section bytes (take_next place bytes).next p refl x fault
fault_is_broken (frames_rest under_way limit) bytes p fits x fault = λ z q y. absurd fits

-- ---- nothing yet

-- where nothing comes, the body goes on
abbrev IsOpen : Next → Type 0
IsOpen (waits next) = at_end next ≡ goes_on
IsOpen next = ⊤

stops_open : (place : Place) → IsOpen (stops_at place)
stops_open done = tt
stops_open broken = tt
stops_open place = refl

chunk_open : (more : ℕ) (bytes : List ℕ) → IsOpen (of_chunk more bytes)
chunk_open more bytes =
    let all = chunk (take (more + 1) bytes) bytes_end (drop (more + 1) bytes) in
    let some = chunk bytes (in_bytes (more - length bytes)) [] in
    cond_both (ltb more (length bytes)) all some IsOpen (λ _. tt) (λ _. tt)

next_open : (bytes : List ℕ) (place : Place) → IsOpen (take_next place bytes).next
unfolding take_next
next_open [] place = stops_open place
next_open (b ∷ bytes) done = tt
next_open (b ∷ bytes) broken = tt
next_open (b ∷ bytes) (in_bytes more) = chunk_open more (b ∷ bytes)
next_open (b ∷ bytes) (in_section at lines room) =
    let q = step (in_section at lines room) b in
    subst IsOpen (sym (next-noted at lines room q b (take_next q bytes))) (next_open bytes q)
next_open (b ∷ bytes) place = next_open bytes (step place b)

abbrev pub IsPending : Outcome → Type 0
IsPending on.pending = ⊤
IsPending o = ⊥

ends_not_pending : (text behind : List ℕ) (p : pulls.Pulled) → EndsWith text behind p → IsPending p.outcome → ⊥
ends_not_pending [] behind p x pending = subst (λ (r : pulls.Pulled). IsPending r.outcome) x pending
ends_not_pending (b ∷ text) behind p x pending = subst (λ (r : pulls.Pulled). IsPending r.outcome) x.3 pending

raw_waits : (bytes : List ℕ) → IsPending (pull_raw false bytes).outcome → (q : Payload) → IsReadAs (reading_of raw_rest bytes) q → q ≡ no_payload goes_on
raw_waits [] pending q y = same_payload q goes_on y.body y.trailers y.ending
raw_waits (b ∷ bytes) pending q y = absurd pending

fixed_waits : (n : ℕ) (bytes : List ℕ) → 0 < n → IsPending (pull_fixed false n bytes).outcome → (q : Payload)
    → IsReadAs (reading_of (fixed_rest n) bytes) q → q ≡ no_payload goes_on
fixed_waits n [] some pending q y =
    let e = cond-false (leb n 0) (ends_before (drop n [])) goes_on (lt-leb n 0 some) in
    same_payload q goes_on (y.body ∙ take_all n [] (omega arith)) (subst (λ f. HasTrailers f [] q.trailers) e y.trailers) (y.ending ∙ e)
fixed_waits n (b ∷ bytes) some pending q y = absurd pending

chunks_wait : (place : Place) (section bytes : List ℕ) (next : Next) (p : pulls.Pulled) → (take_next place bytes).next ≡ next
    → IsPullOfChunks false place section bytes next (take_next place bytes).trailers p → IsPending p.outcome
    → (q : Payload) → IsReadAs (reading_of (chunks_rest place section) bytes) q → q ≡ no_payload goes_on
chunks_wait place section bytes (chunk given next behind) p e x pending q y = absurd (subst (λ (r : pulls.Pulled). IsPending r.outcome) x pending)
chunks_wait place section bytes (waits next) p e x pending q y =
    let open_at : at_end next ≡ goes_on = subst IsOpen e (next_open bytes place) in
    let text = section ++ (take_next place bytes).trailers in
    let is : reading_of (chunks_rest place section) bytes ≡ with_trailers text (only goes_on) =
    ap (reading_of (chunks_rest place section)) (sym (append-nil bytes))
    ∙ taken_reading place section bytes (waits next) [] e
    ∙ ap (with_trailers text) (read-nil next ∙ ap only open_at) in
    let k = subst (λ t. IsReadAs t q) is y in
    same_payload q goes_on k.body k.trailers k.ending
chunks_wait place section bytes (ended behind) p e x pending q y =
    absurd (ends_not_pending (section ++ (take_next place bytes).trailers) behind p x pending)
chunks_wait place section bytes breaks p e x pending q y = absurd (subst (λ (r : pulls.Pulled). IsPending r.outcome) x pending)

pub pending_waits : (rest : Rest) (bytes : List ℕ) (p : pulls.Pulled) → Fits rest → IsPull false rest bytes p → IsPending p.outcome
    → (q : Payload) → IsReadAs (reading_of rest bytes) q → q ≡ no_payload goes_on
pending_waits no_rest bytes p fits x pending = λ q y. absurd (subst (λ (r : pulls.Pulled). IsPending r.outcome) x pending)
pending_waits raw_rest bytes p fits x pending = raw_waits bytes (subst (λ (r : pulls.Pulled). IsPending r.outcome) x pending)
pending_waits (fixed_rest n) bytes p fits x pending = fixed_waits n bytes fits (subst (λ (r : pulls.Pulled). IsPending r.outcome) x pending)
pending_waits (chunks_rest place section) bytes p fits x pending = chunks_wait place section bytes (take_next place bytes).next p refl x pending
pending_waits (frames_rest under_way limit) bytes p fits x pending = λ q y. absurd fits

-- ---- a fault leaves the bytes

chunks_left : (place : Place) (section bytes : List ℕ) (next : Next) (noted : List ℕ) (p : pulls.Pulled)
    → IsPullOfChunks false place section bytes next noted p → IsFault p.outcome → p.unread ≡ bytes
chunks_left place section bytes (chunk given next behind) noted p x fault = absurd (subst (λ (r : pulls.Pulled). IsFault r.outcome) x fault)
chunks_left place section bytes (waits next) noted p x fault = absurd (subst (λ (r : pulls.Pulled). IsFault r.outcome) x fault)
chunks_left place section bytes (ended behind) noted p x fault = absurd (ends_no_fault (section ++ noted) behind p x fault)
chunks_left place section bytes breaks noted p x fault = ap (λ (r : pulls.Pulled). r.unread) x

pub fault_leaves : (rest : Rest) (bytes : List ℕ) (p : pulls.Pulled) → Fits rest → IsPull false rest bytes p → IsFault p.outcome → p.unread ≡ bytes
fault_leaves no_rest bytes p fits x fault = absurd (subst (λ (r : pulls.Pulled). IsFault r.outcome) x fault)
fault_leaves raw_rest bytes p fits x fault = absurd (raw_no_fault bytes (subst (λ (r : pulls.Pulled). IsFault r.outcome) x fault))
fault_leaves (fixed_rest n) bytes p fits x fault = absurd (fixed_no_fault n bytes (subst (λ (r : pulls.Pulled). IsFault r.outcome) x fault))
fault_leaves (chunks_rest place section) bytes p fits x fault =
    chunks_left place section bytes (take_next place bytes).next (take_next place bytes).trailers p x fault
fault_leaves (frames_rest under_way limit) bytes p fits x fault = absurd fits
