-- A pull changes nothing of what the bytes say, whatever follows.
use Rattle.std.proofs.Common.{◌≡◌, ℕ, ◌+◌, ◌-◌, ◌<◌, ◌≤◌, leb, cond, false, List, [], ◌∷◌, ◌++◌, length, take, drop, map, refl, sym, ap, ◌∙◌, subst, inl, inr, arith, append-nil, length-append}
use Rattle.std.specs.List.{AllByRecursion}
use Rattle.std.proofs.Math.Seq.{take-append-add, drop-append-add}
use Rattle.std.proofs.lemmas.Bool.{cond_both, cond-true, cond-false, le-leb, lt-leb, leb-true, leb-false, cases_lt}
use Rattle.std.proofs.lemmas.List.{take_all, drop_all, take-append-le, drop-append-le}
use Rattle.model_h1.specs.ChunkedText.{Trailer, IsTrailer, trailer_text, section_text}
use Rattle.model_h1.specs.Place.{Place}
use Rattle.model_h1.specs.Reading.{Ending, Reading, goes_on, ends_before, only, with_trailers}
use Rattle.model_h1.specs.TakeNext.{Next, chunk, waits, ended, breaks, take_next, says}
use Rattle.model_h1.proofs.ReadSteps.{with_trailers-append}
use Rattle.model_h1.proofs.TakenReads.{taken_is_read}
use Rattle.http_map.specs.HeaderMap.{Entries}
use Rattle.model_h1.specs.Parse.{trailer_header}
use Rattle.model_h1.specs.Event.{Outcome}
use Rattle.model_h1.specs.Event as on
use Rattle.model_state.specs.Kept.{Rest, no_rest, raw_rest, fixed_rest, chunks_rest, frames_rest}
use Rattle.model_state.specs.Pull as pulls
use Rattle.model_state.specs.Pull.{pull_fixed, pull_raw, EndsWith, IsPullOfChunks, IsPull}
use Rattle.http_framing.specs.HeaderLines.{header_map}
use Rattle.h1_payload.specs.Fitting.{Fits}
use Rattle.h1_payload.specs.Decoding.{Payload, reading_of, AreTrailers, HasTrailers, IsReadAs}

-- an outcome in front of what is said
abbrev pub front_of : Outcome → Payload → Payload
front_of (on.bytes bytes) q = record q { body = bytes ++ q.body }
front_of (on.trailers headers) q = record q { trailers = header_map headers ++ q.trailers }
front_of o q = q

-- what is said behind a pull, with its outcome in front, is what was said
abbrev pub GoesOnBy : Rest → List ℕ → pulls.Pulled → Type 0
GoesOnBy rest bytes p =
    (z : List ℕ) (q : Payload) → IsReadAs (reading_of p.rest (p.unread ++ z)) q → IsReadAs (reading_of rest (bytes ++ z)) (front_of p.outcome q)

-- ---- trailers

-- no text has no trailers
no_trailers : (entries : Entries) → AreTrailers [] entries → entries ≡ []
no_trailers entries x = by_lines x.lines x.valid x.spelled x.entries_are
  where
    by_lines : (lines : List Trailer) → AllByRecursion IsTrailer lines → section_text lines ≡ [] → entries ≡ header_map (map trailer_header lines) → entries ≡ []
    by_lines [] valid spelled is = is
    by_lines (t ∷ lines) valid spelled is =
        let some : 0 < length t.name = valid.0.0 in
        let none : length (trailer_text t ++ section_text lines) ≡ 0 = ap length spelled in
        let long = length-append (trailer_text t) (section_text lines) in
        let named : length (trailer_text t) ≡ length t.name + (length t.value + 3) = simp length-append (omega arith) in
        absurd (omega arith)

-- ---- raw bodies

raw_goes_on : (bytes : List ℕ) → GoesOnBy raw_rest bytes (pull_raw false bytes)
raw_goes_on [] z q x = x
raw_goes_on (b ∷ bytes) z q x = record { body = ap (λ l. (b ∷ bytes) ++ l) x.body; ending = x.ending; trailers = x.trailers }

-- ---- bodies of a length

-- past the first bytes
take_past : (n : ℕ) (xs ys : List ℕ) → length xs ≤ n → take n (xs ++ ys) ≡ xs ++ take (n - length xs) ys
take_past n xs ys past =
    let sum : n ≡ length xs + (n - length xs) = omega arith in
    ap (λ m. take m (xs ++ ys)) sum ∙ take-append-add xs ys (n - length xs)

drop_past : (n : ℕ) (xs ys : List ℕ) → length xs ≤ n → drop n (xs ++ ys) ≡ drop (n - length xs) ys
drop_past n xs ys past =
    let sum : n ≡ length xs + (n - length xs) = omega arith in
    ap (λ m. drop m (xs ++ ys)) sum ∙ drop-append-add xs ys (n - length xs)

-- how a body of so many bytes ends
abbrev fixed_ending : ℕ → List ℕ → Ending
fixed_ending n l = cond (leb n (length l)) (ends_before (drop n l)) goes_on

ends_there : (n : ℕ) (xs ys : List ℕ) → n ≤ length xs → fixed_ending n (xs ++ ys) ≡ ends_before (drop n xs ++ ys)
ends_there n xs ys fits =
    let more = length-append xs ys in
    cond-true (leb n (length (xs ++ ys))) (ends_before (drop n (xs ++ ys))) goes_on (le-leb n (length (xs ++ ys)) (omega arith))
    ∙ ap ends_before (drop-append-le n xs ys fits)

ends_later : (n : ℕ) (xs ys : List ℕ) → length xs ≤ n → fixed_ending n (xs ++ ys) ≡ fixed_ending (n - length xs) ys
ends_later n xs ys past =
    let more = length-append xs ys in
    let left = n - length xs in
    elim (cases_lt (length ys) left) [
      | inl short ↦
          cond-false (leb n (length (xs ++ ys))) (ends_before (drop n (xs ++ ys))) goes_on (lt-leb n (length (xs ++ ys)) (omega arith))
          ∙ sym (cond-false (leb left (length ys)) (ends_before (drop left ys)) goes_on (lt-leb left (length ys) short))
      | inr fits ↦
          cond-true (leb n (length (xs ++ ys))) (ends_before (drop n (xs ++ ys))) goes_on (le-leb n (length (xs ++ ys)) (omega arith))
          ∙ ap ends_before (drop_past n xs ys past)
          ∙ sym (cond-true (leb left (length ys)) (ends_before (drop left ys)) goes_on (le-leb left (length ys) fits))
    ]

-- an equal ending
with_ending : (t : Reading) (e : Ending) (q : Payload) → t.ending ≡ e → q.body ≡ t.body → q.ending ≡ e → HasTrailers e t.trailers q.trailers → IsReadAs t q
with_ending t e q same b c d =
    record { body = b; ending = c ∙ sym same; trailers = subst (λ f. HasTrailers f t.trailers q.trailers) (sym same) d }

fixed_goes_on : (n : ℕ) (bytes : List ℕ) → GoesOnBy (fixed_rest n) bytes (pull_fixed false n bytes)
fixed_goes_on n [] = λ z q x. x
fixed_goes_on n (b ∷ bytes) =
    let l = b ∷ bytes in
    let count = length l in
    cond_both (leb n count) no_rest (fixed_rest (n - count))
    (λ (r : Rest).
    (z : List ℕ) (q : Payload) → IsReadAs (reading_of r (drop n l ++ z)) q
    → IsReadAs (reading_of (fixed_rest n) (l ++ z)) (record q { body = take n l ++ q.body }))
    (λ e z q x.
    let fits : n ≤ count = leb-true n count e in
    with_ending (reading_of (fixed_rest n) (l ++ z)) (ends_before (drop n l ++ z)) (record q { body = take n l ++ q.body }) (ends_there n l z fits)
    (ap (λ k. take n l ++ k) x.body ∙ append-nil (take n l) ∙ sym (take-append-le n l z fits)) x.ending x.trailers)
    (λ e z q x.
    let past : count < n = leb-false n count e in
    let none : drop n l ≡ [] = drop_all n l (omega arith) in
    let y = subst (λ k. IsReadAs (reading_of (fixed_rest (n - count)) (k ++ z)) q) none x in
    with_ending (reading_of (fixed_rest n) (l ++ z)) (fixed_ending (n - count) z) (record q { body = take n l ++ q.body })
    (ends_later n l z (omega arith))
    (ap (λ k. take n l ++ k) y.body ∙ ap (λ k. k ++ take (n - count) z) (take_all n l (omega arith)) ∙ sym (take_past n l z (omega arith))) y.ending
    y.trailers)

-- ---- chunks

-- what the bytes say behind what comes next
pub taken_reading : (place : Place) (section bytes : List ℕ) (next : Next) (z : List ℕ) → (take_next place bytes).next ≡ next
    → reading_of (chunks_rest place section) (bytes ++ z) ≡ with_trailers (section ++ (take_next place bytes).trailers) (says next z)
taken_reading place section bytes next z e =
    let noted = (take_next place bytes).trailers in
    ap (with_trailers section) (taken_is_read bytes place z ∙ ap (λ n. with_trailers noted (says n z)) e)
    ∙ with_trailers-append section noted (says next z)

-- the end, with the trailers in front
ends_go_on : (text behind : List ℕ) (p : pulls.Pulled) (z : List ℕ) (q : Payload) → EndsWith text behind p → IsReadAs (reading_of p.rest (p.unread ++ z)) q
    → IsReadAs (with_trailers text (only (ends_before (behind ++ z)))) (front_of p.outcome q)
ends_go_on [] behind p z q x y =
    subst
    (λ (r : pulls.Pulled). IsReadAs (reading_of r.rest (r.unread ++ z)) q → IsReadAs (only (ends_before (behind ++ z))) (front_of r.outcome q))
    (sym x) (λ k. k) y
ends_go_on (b ∷ text) behind p z q x y =
    let l = b ∷ text in
    let headers = map trailer_header x.0 in
    subst
    (λ (r : pulls.Pulled). IsReadAs (reading_of r.rest (r.unread ++ z)) q → IsReadAs (with_trailers l (only (ends_before (behind ++ z)))) (front_of r.outcome q))
    (sym x.3)
    (λ k. record {
      body = k.body;
      ending = k.ending;
      trailers = record {
        lines = x.0;
        valid = x.1;
        spelled = x.2 ∙ sym (append-nil l);
        entries_are = ap (λ t. header_map headers ++ t) (no_trailers q.trailers k.trailers) ∙ append-nil (header_map headers);
      };
    })
    y

chunks_go_on : (place : Place) (section bytes : List ℕ) (next : Next) (p : pulls.Pulled) → (take_next place bytes).next ≡ next
    → IsPullOfChunks false place section bytes next (take_next place bytes).trailers p → GoesOnBy (chunks_rest place section) bytes p
chunks_go_on place section bytes (chunk given next behind) p e x =
    subst (GoesOnBy (chunks_rest place section) bytes) (sym x)
    (λ z q y.
    subst (λ t. IsReadAs t (record q { body = given ++ q.body })) (sym (taken_reading place section bytes (chunk given next behind) z e))
    (record { body = ap (λ l. given ++ l) y.body; ending = y.ending; trailers = y.trailers }))
chunks_go_on place section bytes (waits next) p e x =
    subst (GoesOnBy (chunks_rest place section) bytes) (sym x)
    (λ z q y. subst (λ t. IsReadAs t q) (sym (taken_reading place section bytes (waits next) z e)) y)
chunks_go_on place section bytes (ended behind) p e x =
    let text = section ++ (take_next place bytes).trailers in
    λ z q y. subst (λ t. IsReadAs t (front_of p.outcome q)) (sym (taken_reading place section bytes (ended behind) z e)) (ends_go_on text behind p z q x y)
chunks_go_on place section bytes breaks p e x = subst (GoesOnBy (chunks_rest place section) bytes) (sym x) (λ z q y. y)

-- ---- all rests

pub pull_goes_on : (rest : Rest) (bytes : List ℕ) (p : pulls.Pulled) → Fits rest → IsPull false rest bytes p → GoesOnBy rest bytes p
pull_goes_on no_rest bytes p fits x = subst (GoesOnBy no_rest bytes) (sym x) (λ z q y. y)
pull_goes_on raw_rest bytes p fits x = subst (GoesOnBy raw_rest bytes) (sym x) (raw_goes_on bytes)
pull_goes_on (fixed_rest n) bytes p fits x = subst (GoesOnBy (fixed_rest n) bytes) (sym x) (fixed_goes_on n bytes)
pull_goes_on (chunks_rest place section) bytes p fits x = chunks_go_on place section bytes (take_next place bytes).next p refl x
pull_goes_on (frames_rest under_way limit) bytes p fits x = absurd fits
