-- How the reading of some bytes and of those behind them hang together, by the place between them.
use Rattle.std.proofs.Common.{◌≡◌, ℕ, ◌<◌, List, [], ◌∷◌, ◌++◌, length, refl, sym, ap, ◌∙◌, arith}
use Rattle.model_h1.specs.Place.{Place, in_bytes, in_section, done, broken, step, after}
use Rattle.model_h1.specs.Reading.{Ending, is_broken, ends_before, Reading, only, noted, at_end, read}
use Rattle.model_h1.proofs.ReadSteps.{HasNext, read-nil, read-cons, read_done, read_broken, ending-noted, ending-cons}

-- ---- places

-- no byte
pub after-nil : (place : Place) → after place [] ≡ place
unfolding after
after-nil place = refl

-- one more byte in front
pub after-cons : (place : Place) (b : ℕ) (bytes : List ℕ) → after place (b ∷ bytes) ≡ after (step place b) bytes
unfolding after
after-cons place b bytes = refl

-- two pieces, one behind the other
pub after-append : (place : Place) (xs ys : List ℕ) → after place (xs ++ ys) ≡ after (after place xs) ys
unfolding after
after-append place [] ys = refl
after-append place (x ∷ xs) ys = after-append (step place x) xs ys

-- what is broken stays so
pub after-broken : (bytes : List ℕ) → after broken bytes ≡ broken
unfolding after
after-broken [] = refl
after-broken (b ∷ bytes) = after-broken bytes

-- nothing follows a whole body
pub done_stops : (bytes : List ℕ) → 0 < length bytes → after done bytes ≡ broken
unfolding after
done_stops [] some = absurd (omega arith)
done_stops (b ∷ bytes) some = after-broken bytes

-- a place from which bytes lead anywhere but to what is broken isn't behind a body
next_before : (place : Place) (b : ℕ) (bytes : List ℕ) → (after place (b ∷ bytes) ≡ broken → ⊥) → HasNext place
next_before done b bytes unbroken = absurd (unbroken (done_stops (b ∷ bytes) (omega arith)))
next_before place b bytes unbroken = tt

-- ---- readings

-- a reading and another behind it
abbrev pub joined : Reading → Reading → Reading
joined r more = record { body = r.body ++ more.body; trailers = r.trailers ++ more.trailers; ending = more.ending }

-- a noted byte stands in front of both
noted-joined : (place next : Place) (b : ℕ) (r more : Reading) → noted place next b (joined r more) ≡ joined (noted place next b r) more
noted-joined (in_bytes k) next b r more = refl
noted-joined (in_section at lines room) (in_section at' lines' room') b r more = refl
noted-joined place next b r more = refl

-- two pieces, one behind the other, where the first isn't broken
pub read-append : (place : Place) (xs ys : List ℕ) → (after place xs ≡ broken → ⊥)
    → read place (xs ++ ys) ≡ joined (read place xs) (read (after place xs) ys)
unfolding after
read-append place [] ys unbroken = ap (λ r. joined r (read place ys)) (sym (read-nil place))
read-append place (x ∷ xs) ys unbroken =
    let next_place = next_before place x xs unbroken in
    let next = step place x in
    read-cons place x (xs ++ ys) next_place
    ∙ ap (noted place next x) (read-append next xs ys unbroken)
    ∙ noted-joined place next x (read next xs) (read (after next xs) ys)
    ∙ ap (λ r. joined r (read (after next xs) ys)) (sym (read-cons place x xs next_place))

-- how a reading ends is told by the place behind its bytes, unless that is broken
pub ending_after : (place : Place) (bytes : List ℕ) → (after place bytes ≡ broken → ⊥) → (read place bytes).ending ≡ at_end (after place bytes)
unfolding after
ending_after place [] unbroken = ap (λ (r : Reading). r.ending) (read-nil place)
ending_after place (b ∷ bytes) unbroken =
    ending-cons place b bytes (next_before place b bytes unbroken) ∙ ending_after (step place b) bytes unbroken

-- only behind a whole body it has ended
ended_place : (place : Place) → at_end place ≡ ends_before [] → place ≡ done
ended_place done e = refl
ended_place place e = cc

-- only behind what is broken it is broken
broken_place : (place : Place) → at_end place ≡ is_broken → place ≡ broken
broken_place broken e = refl
broken_place place e = cc

-- where a reading has ended at the end of its bytes, they lead behind a whole body
pub done_from_ended : (place : Place) (bytes : List ℕ) → (read place bytes).ending ≡ ends_before [] → after place bytes ≡ done
unfolding after read
done_from_ended place [] e = ended_place place e
done_from_ended done (b ∷ bytes) e = cc
done_from_ended place (b ∷ bytes) e =
    done_from_ended (step place b) bytes (sym (ending-noted place (step place b) b (read (step place b) bytes)) ∙ e)

-- where a reading is broken, the place behind its bytes is
pub broken_from_ending : (place : Place) (bytes : List ℕ) → (read place bytes).ending ≡ is_broken → after place bytes ≡ broken
unfolding after read
broken_from_ending place [] e = broken_place place e
broken_from_ending done (b ∷ bytes) e = cc
broken_from_ending place (b ∷ bytes) e =
    broken_from_ending (step place b) bytes (sym (ending-noted place (step place b) b (read (step place b) bytes)) ∙ e)

-- and nothing that follows changes it
pub broken_reading_stays : (place : Place) (xs ys : List ℕ) → (read place xs).ending ≡ is_broken → read place (xs ++ ys) ≡ read place xs
unfolding read
broken_reading_stays place [] ys e =
    let same = broken_place place e in
    ap (λ p. read p ys) same ∙ read_broken ys ∙ sym (ap (λ p. only (at_end p)) same)
broken_reading_stays done (b ∷ xs) ys e = cc
broken_reading_stays place (b ∷ xs) ys e =
    ap (noted place (step place b) b)
    (broken_reading_stays (step place b) xs ys (sym (ending-noted place (step place b) b (read (step place b) xs)) ∙ e))

-- an ending in place of another is noted alike
noted-ending : (place next : Place) (b : ℕ) (r : Reading) (ending : Ending)
    → noted place next b (record r { ending = ending }) ≡ record (noted place next b r) { ending = ending }
noted-ending (in_bytes more) next b r ending = refl
noted-ending (in_section at lines room) (in_section at' lines' room') b r ending = refl
noted-ending place next b r ending = refl

-- where a body has ended, what follows stands behind the bytes that followed it
pub ended_reading_stays : (place : Place) (xs ys rest : List ℕ) → (read place xs).ending ≡ ends_before rest
    → read place (xs ++ ys) ≡ record (read place xs) { ending = ends_before (rest ++ ys) }
unfolding read
ended_reading_stays done [] ys rest e =
    let none : [] ≡ rest = cc in
    read_done ys ∙ ap (λ l. only (ends_before (l ++ ys))) none
ended_reading_stays place [] ys rest e = cc
ended_reading_stays done (b ∷ xs) ys rest e =
    let same : b ∷ xs ≡ rest = cc in
    ap (λ l. only (ends_before (l ++ ys))) same
ended_reading_stays place (b ∷ xs) ys rest e =
    let next = step place b in
    ap (noted place next b)
    (ended_reading_stays next xs ys rest (sym (ending-noted place next b (read next xs)) ∙ e))
    ∙ noted-ending place next b (read next xs) (ends_before (rest ++ ys))
