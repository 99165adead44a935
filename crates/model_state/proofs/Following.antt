-- How many messages may follow one, as a number and as the greatest one.
use Rattle.std.proofs.Common.{◌≡◌, ℕ, zero, suc, ◌+◌, ◌≤◌, ◌<◌, Bool, true, false, not, List, [], ◌∷◌, ◌++◌, length, map, take, drop, slice_range, MatchOption, refl, sym, ap, ◌∙◌, subst, subst₂, arith}
use Rattle.std.specs.Prelude.{IsTrue}
use Rattle.std.proofs.lemmas.Bool.{false≢true}
use Rattle.std.proofs.lemmas.List.{drop-drop}
use Rattle.model_h1.specs.HeadPiece.{IsHeadPiece}
use Rattle.model_h1.specs.Request.{BodyKind, no_body, fixed_body, chunked_body, raw_body, has_body, Reading, head_is, faulty}
use Rattle.model_h1.specs.RequestHead.{IsReadingWithin}
use Rattle.model_h1.specs.Parse.{Input, Message, Body, content, ended_at, next_start, IsBodyOf, IsBodyAfter, IsMessageAt, AreMessages}
use Rattle.model_h1.proofs.HeadPieceLemmas.{head_piece_unique, head_piece_append, slice_range-append}
use Rattle.model_h1.proofs.ReadingLemmas.{reading_within_unique}
use Rattle.model_state.specs.Ahead.{is_bodiless, MayFollow, following, StandAhead, AreAhead}

-- ---- the greatest number

pub following_within : (limit : ℕ) (bodiless : Bool) (ms : List Message) → following limit bodiless ms ≤ limit
unfolding following
following_within zero bodiless ms = omega arith
following_within (suc limit) false ms = omega arith
following_within (suc limit) true [] = omega arith
following_within (suc limit) true (m ∷ ms) = let less = following_within limit (is_bodiless m.reading) ms in omega (arith, less)

none_may : (bodiless : Bool) (ms : List Message) → MayFollow bodiless ms 0
none_may bodiless ms = record { there = omega arith; are_bodiless = tt }

-- one more message, behind one without a body
more_may : (m : Message) (ms : List Message) (n : ℕ) → MayFollow (is_bodiless m.reading) ms n → MayFollow true (m ∷ ms) (suc n)
more_may m ms n may = record { there = omega (arith, may.there); are_bodiless = (refl, may.are_bodiless) }

pub following_may : (limit : ℕ) (bodiless : Bool) (ms : List Message) → MayFollow bodiless ms (following limit bodiless ms)
unfolding following
following_may zero bodiless ms = none_may bodiless ms
following_may (suc limit) false ms = none_may false ms
following_may (suc limit) true [] = none_may true []
following_may (suc limit) true (m ∷ ms) = more_may m ms (following limit (is_bodiless m.reading) ms) (following_may limit (is_bodiless m.reading) ms)

fewer_may : (m : Message) (ms : List Message) (n : ℕ) → MayFollow true (m ∷ ms) (suc n) → MayFollow (is_bodiless m.reading) ms n
fewer_may m ms n may = record { there = omega (arith, may.there); are_bodiless = may.are_bodiless.1 }

pub following_greatest : (limit n : ℕ) (bodiless : Bool) (ms : List Message) → n ≤ limit → MayFollow bodiless ms n → n ≤ following limit bodiless ms
unfolding following
following_greatest limit zero bodiless ms less may = omega arith
following_greatest zero (suc n) bodiless ms less may = absurd (omega (arith, less))
following_greatest (suc limit) (suc n) false ms less may = absurd (false≢true may.are_bodiless.0)
following_greatest (suc limit) (suc n) true [] less may = absurd (omega (arith, may.there))
following_greatest (suc limit) (suc n) true (m ∷ ms) less may =
    let fewer = following_greatest limit n (is_bodiless m.reading) ms (omega (arith, less)) (fewer_may m ms n may) in
    omega (arith, fewer)

pub following_there : (limit : ℕ) (bodiless : Bool) (ms : List Message) → following limit bodiless ms ≤ length ms
following_there limit bodiless ms = (following_may limit bodiless ms).there

-- ---- by the bytes

-- where there is no body the next message starts at once
bodiless_kind : (i : Input) (kind : BodyKind) (place : ℕ) (body : Body) → IsBodyOf i kind place body → not (has_body kind) ≡ true → body ≡ content [] (ended_at place [])
bodiless_kind i no_body place body is none = is
bodiless_kind i (fixed_body n) place body is none = absurd (false≢true none)
bodiless_kind i chunked_body place body is none = absurd (false≢true none)
bodiless_kind i raw_body place body is none = absurd (false≢true none)

bodiless_body : (i : Input) (r : Reading) (place : ℕ) (body : Body) → IsBodyAfter i r place body → is_bodiless r ≡ true → body ≡ content [] (ended_at place [])
bodiless_body i (faulty f) place body is none = absurd (false≢true none)
bodiless_body i (head_is h) place body is none = bodiless_kind i h.body place body is none

pub behind_bodiless : (i : Input) (m : Message) (ms : List Message) → IsBodyAfter i m.reading m.body_start m.body
    → MatchOption (next_start m.body) (ms ≡ []) (λ next. AreMessages i next ms) → is_bodiless m.reading ≡ true → AreMessages i m.body_start ms
behind_bodiless i m ms body behind none =
    subst (λ (b : Body). MatchOption (next_start b) (ms ≡ []) (λ next. AreMessages i next ms)) (bodiless_body i m.reading m.body_start m.body body none) behind

-- a head in front of the bytes from a place on is the first message there
pub first_is : (i : Input) (place start end : ℕ) (what : Reading) (m : Message) → IsHeadPiece (drop place i.bytes) start end
    → IsReadingWithin i.hold_size (slice_range (drop place i.bytes) start end) what → IsMessageAt i place m
    → (what ≡ m.reading) × (drop end (drop place i.bytes) ≡ drop m.body_start i.bytes)
first_is i place start end what m piece reads here =
    let bytes = drop place i.bytes in
    let same = head_piece_unique bytes here.start here.end start end here.piece piece in
    let read = subst₂ (λ s e. IsReadingWithin i.hold_size (slice_range bytes s e) what) (sym same.0) (sym same.1) reads in
    let reading = reading_within_unique i.hold_size (slice_range bytes here.start here.end) what m.reading read here.reading in
    let at : m.body_start ≡ place + end = here.body_start ∙ ap (λ e. place + e) same.1 in
    (reading, drop-drop end place i.bytes ∙ ap (λ p. drop p i.bytes) (sym at))

-- one more reading in front
same_first : (what first : Reading) (n : ℕ) (ms : List Message) (m : Message) (more : List Reading) → what ≡ m.reading
    → more ≡ map (λ (m : Message). m.reading) (take n ms) → what ∷ more ≡ map (λ (m : Message). m.reading) (take (suc n) (m ∷ ms))
same_first what first n ms m more is are = λ i. is i ∷ are i

pub ahead_readings : (i : Input) (limit place : ℕ) (bodiless : Bool) (ms : List Message) (readings : List Reading) → (bodiless ≡ true → AreMessages i place ms)
    → AreAhead i.hold_size limit bodiless (drop place i.bytes) readings → readings ≡ map (λ (m : Message). m.reading) (take (following limit bodiless ms) ms)
unfolding following
ahead_readings i zero place bodiless ms readings are is = is
ahead_readings i (suc limit) place false ms readings are is = is
ahead_readings i (suc limit) place true [] [] are is = refl
ahead_readings i (suc limit) place true [] (what ∷ more) are (start, end, piece, reads, others) = absurd (are refl start end piece)
ahead_readings i (suc limit) place true (m ∷ ms) [] are is = absurd (is (are refl).0.start (are refl).0.end (are refl).0.piece)
ahead_readings i (suc limit) place true (m ∷ ms) (what ∷ more) are (start, end, piece, reads, others) =
    let here = (are refl).0 in
    let first = first_is i place start end what m piece reads here in
    let rest = subst₂ (λ r l. AreAhead i.hold_size limit (is_bodiless r) l more) first.0 first.1 others in
    let behind = behind_bodiless i m ms here.body (are refl).1 in
    same_first what what (following limit (is_bodiless m.reading) ms) ms m more first.0
    (ahead_readings i limit m.body_start (is_bodiless m.reading) ms more behind rest)

pub ahead_count : (i : Input) (limit place : ℕ) (bodiless : Bool) (ms : List Message) (readings : List Reading) → (bodiless ≡ true → AreMessages i place ms)
    → AreAhead i.hold_size limit bodiless (drop place i.bytes) readings → length readings ≡ following limit bodiless ms
unfolding following
ahead_count i zero place bodiless ms readings are is = ap (λ (l : List Reading). length l) is
ahead_count i (suc limit) place false ms readings are is = ap (λ (l : List Reading). length l) is
ahead_count i (suc limit) place true [] [] are is = refl
ahead_count i (suc limit) place true [] (what ∷ more) are (start, end, piece, reads, others) = absurd (are refl start end piece)
ahead_count i (suc limit) place true (m ∷ ms) [] are is = absurd (is (are refl).0.start (are refl).0.end (are refl).0.piece)
ahead_count i (suc limit) place true (m ∷ ms) (what ∷ more) are (start, end, piece, reads, others) =
    let here = (are refl).0 in
    let first = first_is i place start end what m piece reads here in
    let rest = subst₂ (λ r l. AreAhead i.hold_size limit (is_bodiless r) l more) first.0 first.1 others in
    let behind = behind_bodiless i m ms here.body (are refl).1 in
    ap (λ n. suc n) (ahead_count i limit m.body_start (is_bodiless m.reading) ms more behind rest)

-- ---- they stand one after another

-- none stands behind a head with a body
none_more : (limit hold_size : ℕ) (bodiless : Bool) (bytes : List ℕ) (readings : List Reading) → AreAhead hold_size limit bodiless bytes readings
    → 0 < length readings → IsTrue bodiless
none_more zero hold_size bodiless bytes readings is some = let none = ap (λ (l : List Reading). length l) is in absurd (omega (arith, some, none))
none_more (suc limit) hold_size true bytes readings is some = refl
none_more (suc limit) hold_size false bytes readings is some = let none = ap (λ (l : List Reading). length l) is in absurd (omega (arith, some, none))

none_stand : (hold_size : ℕ) (bytes : List ℕ) (readings : List Reading) → readings ≡ [] → StandAhead hold_size bytes readings
none_stand hold_size bytes readings none = subst (λ (rs : List Reading). StandAhead hold_size bytes rs) (sym none) tt

pub ahead_stand : (hold_size limit : ℕ) (bodiless : Bool) (bytes : List ℕ) (readings : List Reading) → AreAhead hold_size limit bodiless bytes readings
    → StandAhead hold_size bytes readings
ahead_stand hold_size zero bodiless bytes readings is = none_stand hold_size bytes readings is
ahead_stand hold_size (suc limit) false bytes readings is = none_stand hold_size bytes readings is
ahead_stand hold_size (suc limit) true bytes [] is = tt
ahead_stand hold_size (suc limit) true bytes (what ∷ more) (start, end, piece, reads, others) = (
  start,
  end,
  piece,
  reads,
  none_more limit hold_size (is_bodiless what) (drop end bytes) more others,
  ahead_stand hold_size limit (is_bodiless what) (drop end bytes) more others,
)

-- bytes that follow
drop_front : (n : ℕ) (bytes more : List ℕ) → n ≤ length bytes → drop n (bytes ++ more) ≡ drop n bytes ++ more
drop_front zero bytes more within = refl
drop_front (suc n) [] more within = absurd (omega (arith, within))
drop_front (suc n) (b ∷ bytes) more within = drop_front n bytes more (omega (arith, within))

pub stand_stay : (hold_size : ℕ) (bytes more : List ℕ) (readings : List Reading) → StandAhead hold_size bytes readings → StandAhead hold_size (bytes ++ more) readings
stand_stay hold_size bytes more [] stand = tt
stand_stay hold_size bytes more (what ∷ others) (start, end, piece, reads, bodiless, behind) =
    let read = subst (λ (text : List ℕ). IsReadingWithin hold_size text what) (sym (slice_range-append bytes more start end piece.ordered piece.in_range)) reads in
    let rest = subst (λ (text : List ℕ). StandAhead hold_size text others) (sym (drop_front end bytes more piece.in_range)) (stand_stay hold_size (drop end bytes) more others behind) in
    (start, end, head_piece_append bytes more start end piece, read, bodiless, rest)
