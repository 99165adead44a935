-- All bytes have answers: each head has a reading, each body stops in some way.
use Rattle.std.proofs.Common.{◌≡◌, ℕ, zero, suc, ◌+◌, ◌-◌, ◌<◌, ◌≤◌, Bool, true, false, List, [], ◌∷◌, length, drop, slice_range, Option, Some, None, MatchOption, refl, sym, subst, inl, inr, arith, length-drop}
use Rattle.std.proofs.lemmas.Bool.{cases_lt}
use Rattle.model_h1.specs.Chunked.{Chunked, whole, unfinished, not_chunked}
use Rattle.model_h1.proofs.Verdicts.{every_text_read}
use Rattle.model_h1.specs.HeadPiece.{IsHeadPiece}
use Rattle.model_h1.specs.Request.{BodyKind, no_body, fixed_body, chunked_body, raw_body}
use Rattle.model_h1.specs.Parse.{no_content, content, ended_at, still_open, open_or_cut, run_between, fixed_content, raw_content, shifted, chunked_stop, next_start, IsBodyOf}
use Rattle.model_h1.proofs.HeadPieceLemmas.{head_piece_decided}
use Rattle.model_h1.proofs.BodyGrowth.{fixed_whole, fixed_part}
use Rattle.model_h1.proofs.MessageGrowth.{piece_end, piece_long}
use Rattle.model_h1.proofs.MessageExistence.{StopsBehind, GoesOn, content_goes_on, open_or_cut_behind, HasBody}
use Rattle.model_client.specs.AnswerTable.{body_to}
use Rattle.model_client.specs.AnswerReading.{AnswerReading, answer_is, refused}
use Rattle.model_client.specs.AnswerParse.{Received, body_input, AnswerMessage, IsAnswerBody, IsAnswerAt, left_waiting, AreAnswersFrom}
use Rattle.model_client.proofs.AnswerDecisions.{answer_within_of}

-- ---- bodies

-- a body in chunks
chunked_after : (r : Received) (place : ℕ) (a : Chunked) → StopsBehind place (chunked_stop (body_input r) place a)
chunked_after r place (whole k trailers) = omega arith
chunked_after r place unfinished = open_or_cut_behind place r.ended
chunked_after r place not_chunked = tt

-- a body of a fixed length
fixed_goes_on : (r : Received) (n place : ℕ) → GoesOn place (fixed_content (body_input r) place n)
fixed_goes_on r n place =
    elim (cases_lt (length r.bytes) (place + n)) [
      | inr fits ↦ subst (GoesOn place) (sym (fixed_whole r.bytes None r.ended 0 place n fits))
          (content_goes_on place (run_between place (place + n)) (ended_at (place + n) []) (omega arith))
      | inl short ↦ subst (GoesOn place) (sym (fixed_part r.bytes None r.ended 0 place n short))
          (content_goes_on place (run_between place (length r.bytes)) (open_or_cut r.ended) (open_or_cut_behind place r.ended))
    ]

-- all bytes from the place on
raw_goes_on : (bytes : List ℕ) (ended : Bool) (limit : Option ℕ) (place : ℕ) → place ≤ length bytes
    → GoesOn place (raw_content (body_input (record { bytes = bytes; ended = ended; hold_size = limit })) place)
raw_goes_on bytes true limit place within = content_goes_on place (run_between place (length bytes)) (ended_at (length bytes) []) within
raw_goes_on bytes false limit place within = content_goes_on place (run_between place (length bytes)) still_open tt

-- each kind has one at each place
body_of_kind : (r : Received) (kind : BodyKind) (place : ℕ) → place ≤ length r.bytes → HasBody (IsBodyOf (body_input r) kind place) place
body_of_kind r no_body place within = (content [] (ended_at place []), refl, content_goes_on place [] (ended_at place []) (omega arith))
body_of_kind r (fixed_body n) place within = (fixed_content (body_input r) place n, refl, fixed_goes_on r n place)
body_of_kind r chunked_body place within =
    let x = every_text_read (drop place r.bytes) in
    let stop = chunked_stop (body_input r) place x.0 in
    (content (shifted place x.1) stop, (x.0, x.1, x.2, refl), content_goes_on place (shifted place x.1) stop (chunked_after r place x.0))
body_of_kind r raw_body place within = (raw_content (body_input r) place, refl, raw_goes_on r.bytes r.ended r.hold_size place within)

-- each reading has one
body_after : (r : Received) (method : List ℕ) (reading : AnswerReading) (place : ℕ) → place ≤ length r.bytes
    → HasBody (IsAnswerBody r method reading place) place
body_after r method (refused fault) place within = (no_content, refl, λ next e. cc)
body_after r method (answer_is a) place within = body_of_kind r (body_to method a.body) place within

-- ---- answers

-- the answers from the place on
abbrev HasAnswers : (ℕ → Bool) → Received → ℕ → List (List ℕ) → Type 0
HasAnswers waits r place methods = (ms : List AnswerMessage) × AreAnswersFrom waits r place methods ms

-- an answer, and those after it
answer_then : (waits : ℕ → Bool) (r : Received) (place : ℕ) (method : List ℕ) (methods : List (List ℕ)) (m : AnswerMessage) (next : Option ℕ)
    → next_start m.body ≡ next → IsAnswerAt r place method m
    → ((n : ℕ) → next ≡ Some n → HasAnswers waits r n (left_waiting waits m.reading method methods)) → HasAnswers waits r place (method ∷ methods)
answer_then waits r place method methods m None is at later =
    let none : List AnswerMessage = [] in
    (m ∷ none, (at, subst (λ o. MatchOption o (none ≡ none) (λ n. AreAnswersFrom waits r n (left_waiting waits m.reading method methods) none)) (sym is) refl))
answer_then waits r place method methods m (Some n) is at later =
    let others = later n refl in
    (m ∷ others.0, (at, subst (λ o. MatchOption o (others.0 ≡ []) (λ k. AreAnswersFrom waits r k (left_waiting waits m.reading method methods) others.0)) (sym is) others.1))

-- the answer whose head stands here, and those after it
answers_from : (waits : ℕ → Bool) (r : Received) (place s e : ℕ) (method : List ℕ) (methods : List (List ℕ)) → IsHeadPiece (drop place r.bytes) s e
    → ((next : ℕ) (left : List (List ℕ)) → place + 2 ≤ length r.bytes → place < next → HasAnswers waits r next left)
    → HasAnswers waits r place (method ∷ methods)
answers_from waits r place s e method methods piece later =
    let reading = answer_within_of r.hold_size (slice_range (drop place r.bytes) s e) in
    let long = piece_long r.bytes place s e piece in
    let b = body_after r method reading.0 (place + e) (omega (arith, piece.in_range, length-drop place r.bytes)) in
    let m : AnswerMessage = record { reading = reading.0; body_start = place + e; body = b.0 } in
    let at : IsAnswerAt r place method m = record { start = s; end = e; piece = piece; body_start = refl; reading = reading.1; body = b.1 } in
    answer_then waits r place method methods m (next_start b.0) refl at
    (λ n is. later n _ long (omega (arith, b.2 n is, piece_end (drop place r.bytes) s e piece)))

-- all of them; the fuel is above the bytes that are left
answers_by_fuel : (fuel : ℕ) (waits : ℕ → Bool) (r : Received) (place : ℕ) (methods : List (List ℕ)) → length r.bytes - place < fuel
    → HasAnswers waits r place methods
answers_by_fuel zero waits r place methods enough = absurd (omega arith)
answers_by_fuel (suc fuel) waits r place [] enough = ([], refl)
answers_by_fuel (suc fuel) waits r place (method ∷ methods) enough =
    elim (head_piece_decided (drop place r.bytes)) [
      | inl none ↦ ([], none)
      | inr x ↦ answers_from waits r place x.0 x.1 method methods x.2 (λ next left long less. answers_by_fuel fuel waits r next left (omega arith))
    ]

-- all bytes have answers, from each place on
pub answers_exist_from : (waits : ℕ → Bool) (r : Received) (place : ℕ) (methods : List (List ℕ))
    → (ms : List AnswerMessage) × AreAnswersFrom waits r place methods ms
answers_exist_from waits r place methods = answers_by_fuel (suc (length r.bytes)) waits r place methods (omega arith)
