-- What is left of a body in chunks, by the place up to which it is passed.
use Rattle.std.proofs.Common.{◌≡◌, ℕ, ◌+◌, ◌≤◌, Bool, true, false, cond, List, [], length, drop, Some, refl, sym, ap, ◌∙◌, subst, inl, inr, arith, length-drop}
use Rattle.std.specs.Prelude.{slice_range}
use Rattle.std.proofs.lemmas.Bool.{cond-true, cond-false, cases_Bool, true≢false, false≢true, leb-true, le-leb}
use Rattle.std.proofs.lemmas.List.{drop-drop}
use Rattle.model_h1.specs.Runs.{Run}
use Rattle.model_h1.specs.Chunked.{Chunked, whole, unfinished, not_chunked, IsChunked}
use Rattle.model_h1.specs.Place.{done, start, after}
use Rattle.model_h1.specs.Reading.{read}
use Rattle.model_h1.specs.TakeNext.{ended, Taken}
use Rattle.model_h1.proofs.Verdicts.{whole_after}
use Rattle.model_h1.proofs.HandedTrace.{gave_up}
use Rattle.model_h1.specs.Request.{Reading, Head, chunked_body}
use Rattle.model_h1.specs.Parse.{Input, Message, open_or_cut, shifted, chunked_stop, next_start}
use Rattle.model_h1.specs.Sums.{Step, taken, is_complete}
use Rattle.model_h1.specs.Past.{ParsedStep, steps, given_bytes, passed, pulled_to}
use Rattle.model_h1.specs.OutcomeTable.{run_left, gave_trailers}
use Rattle.model_state.specs.Kept.{Rest, no_rest, chunks_rest}
use Rattle.model_state.specs.KeptOf.{is_passed, rest_of}
use Rattle.model_state.proofs.ChunkStops.{IsWholeTaken}
use Rattle.model_state.proofs.PassedText.{part_front}
use Rattle.model_state.proofs.ChunkGives.{Gives, gives}
use Rattle.model_state.proofs.ChunkFollows.{ends_next}
use Rattle.model_state.proofs.ChunkOutcomes.{FollowsTo, in_chunks, whole_within}

-- ---- a body that is passed

-- the message of such a body
abbrev pub of_chunks : Reading → ℕ → List Run → Input → Chunked → Message
of_chunks r place runs i a = in_chunks r place runs (chunked_stop i place a)

-- no stop of an unfinished body is an end
open_unpassed : (r : Reading) (place : ℕ) (runs : List Run) (is_ended : Bool) (upto : ℕ)
    → is_passed upto (in_chunks r place runs (open_or_cut is_ended)) ≡ false
open_unpassed r place runs true upto = refl
open_unpassed r place runs false upto = refl

-- an unfinished body is passed by no place
pub unfinished_unpassed : (r : Reading) (place : ℕ) (runs : List Run) (i : Input) (a : Chunked) (upto : ℕ) → a ≡ unfinished
    → is_passed upto (of_chunks r place runs i a) ≡ false
unfinished_unpassed r place runs i a upto e = ap (λ b. is_passed upto (of_chunks r place runs i b)) e ∙ open_unpassed r place runs i.ended upto

-- a place is behind no end
abbrev pub NotBehind : ℕ → Message → Type 0
NotBehind upto m = (place : ℕ) → next_start m.body ≡ Some place → upto ≤ place

-- where the body is passed, its text is whole
pub passed_done : (r : Reading) (place : ℕ) (runs : List Run) (i : Input) (bytes : List ℕ) (a : Chunked) (upto : ℕ)
    → IsChunked (drop place bytes) a runs
    → NotBehind upto (of_chunks r place runs i a) → is_passed upto (of_chunks r place runs i a) ≡ true
    → after start (slice_range bytes place upto) ≡ done
passed_done r place runs i bytes (whole size trailers) upto x before e =
    let least = leb-true (place + size) upto e in
    let most = before (place + size) refl in
    let same : upto ≡ place + size = omega arith in
    ap (λ n. after start (slice_range bytes place n)) same ∙ ap (after start) (part_front bytes place size)
    ∙ whole_after (drop place bytes) size trailers runs x
passed_done r place runs i bytes unfinished upto x before e =
    absurd (true≢false (sym e ∙ open_unpassed r place runs i.ended upto))
passed_done r place runs i bytes not_chunked upto x before e = absurd (false≢true e)

-- where it isn't done, it isn't passed
pub not_done_unpassed : (r : Reading) (place : ℕ) (runs : List Run) (i : Input) (bytes : List ℕ) (a : Chunked) (upto : ℕ)
    → IsChunked (drop place bytes) a runs
    → NotBehind upto (of_chunks r place runs i a) → (after start (slice_range bytes place upto) ≡ done → ⊥)
    → is_passed upto (of_chunks r place runs i a) ≡ false
not_done_unpassed r place runs i bytes a upto x before not_done = elim (cases_Bool (is_passed upto (of_chunks r place runs i a))) [
  | inl is ↦ absurd (not_done (passed_done r place runs i bytes a upto x before is))
  | inr not ↦ not
]

-- a whole body is passed at its end
pub whole_passed : (r : Reading) (place : ℕ) (runs : List Run) (i : Input) (bytes front text : List ℕ) (a : Chunked) (behind : List ℕ)
    → (x : IsWholeTaken bytes front text a behind) → is_passed (place + x.size) (of_chunks r place runs i a) ≡ true
whole_passed r place runs i bytes front text a behind x =
    ap (λ b. is_passed (place + x.size) (of_chunks r place runs i b)) x.kind ∙ le-leb (place + x.size) (place + x.size) (omega arith)

-- the bytes behind a whole body
pub behind_whole : (place : ℕ) (bytes front text : List ℕ) (a : Chunked) (behind : List ℕ) → (x : IsWholeTaken (drop place bytes) front text a behind)
    → behind ≡ drop (place + x.size) bytes
behind_whole place bytes front text a behind x = x.behind_is ∙ drop-drop x.size place bytes

-- what comes next where the text is whole
pub ended_gives : (r : Reading) (place : ℕ) (runs : List Run) (i : Input) (trace : List Step) (a : Chunked)
    → IsChunked (drop place (taken trace)) a runs
    → FollowsTo (of_chunks r place runs i a) trace
    → after start (slice_range (taken trace) place (pulled_to (of_chunks r place runs i a) trace)) ≡ done
    → Gives place (pulled_to (of_chunks r place runs i a) trace) (taken trace) [] a (run_left (given_bytes trace) (shifted place runs))
    (ended (drop (pulled_to (of_chunks r place runs i a) trace) (taken trace)))
ended_gives r place runs i trace a x f e =
    let upto = pulled_to (of_chunks r place runs i a) trace in
    let left = run_left (given_bytes trace) (shifted place runs) in
    subst (λ (t : Taken). Gives place upto (taken trace) t.trailers a left t.next) (ends_next place upto (taken trace) e)
    (gives place upto (given_bytes trace) (taken trace) (gave_trailers trace) (gave_up trace) a runs x f)

-- where the text is whole, the body is passed
pub done_passed : (r : Reading) (place : ℕ) (runs : List Run) (i : Input) (trace : List Step) (a : Chunked)
    → IsChunked (drop place (taken trace)) a runs
    → FollowsTo (of_chunks r place runs i a) trace
    → after start (slice_range (taken trace) place (pulled_to (of_chunks r place runs i a) trace)) ≡ done
    → is_passed (pulled_to (of_chunks r place runs i a) trace) (of_chunks r place runs i a) ≡ true
done_passed r place runs i trace a x f e =
    let m = of_chunks r place runs i a in
    let bytes = taken trace in
    let upto = pulled_to m trace in
    let order = f.order in
    let within = f.within in
    let w = (ended_gives r place runs i trace a x f e).1 in
    let fits = whole_within bytes (slice_range bytes place upto) [] place a (drop upto bytes) (omega arith) w in
    let size = ap length (behind_whole place bytes (slice_range bytes place upto) [] a (drop upto bytes) w) in
    let same : place + w.size ≡ upto = omega (arith, length-drop upto bytes, length-drop (place + w.size) bytes) in
    subst (λ n. is_passed n m ≡ true) same (whole_passed r place runs i (drop place bytes) (slice_range bytes place upto) [] a (drop upto bytes) w)

-- ---- what is left of it

-- by the place up to which it is passed, while its answer isn't complete
abbrev pub rest_upto : Message → ℕ → List ℕ → Rest
rest_upto m upto bytes =
    cond (is_passed upto m) no_rest
    (chunks_rest (after start (slice_range bytes m.body_start upto)) (read start (slice_range bytes m.body_start upto)).trailers)

-- what the past leaves of it is that
pub rest_is : (past : List ParsedStep) (m : Message) (h : Head) (upto : ℕ) (bytes : List ℕ) → h.body ≡ chunked_body → passed past ≡ upto
    → taken (steps past) ≡ bytes
    → is_complete (steps past) ≡ false → rest_of past m h.body ≡ rest_upto m upto bytes
rest_is past m h upto bytes kind place is open_yet =
    ap (rest_of past m) kind
    ∙ (λ i. cond (is_passed (place i) m) no_rest
    (chunks_rest (after start (slice_range (is i) m.body_start (place i)))
    (cond (open_yet i) [] (read start (slice_range (is i) m.body_start (place i))).trailers)))

-- nothing is left of one that is passed
pub rest_passed : (m : Message) (upto : ℕ) (bytes : List ℕ) → is_passed upto m ≡ true → rest_upto m upto bytes ≡ no_rest
rest_passed m upto bytes e = cond-true (is_passed upto m) _ _ e

-- chunks are left of one that is not
pub rest_left : (m : Message) (upto : ℕ) (bytes : List ℕ) → is_passed upto m ≡ false
    → rest_upto m upto bytes ≡ chunks_rest (after start (slice_range bytes m.body_start upto))
    (read start (slice_range bytes m.body_start upto)).trailers
rest_left m upto bytes e = cond-false (is_passed upto m) _ _ e
