-- The outcome of a pull of a body in chunks, and what holds of the passed text behind it.
use Rattle.std.proofs.Common.{◌≡◌, ℕ, ◌+◌, ◌≤◌, Bool, true, false, List, [], ◌∷◌, ◌++◌, length, drop, map, Option, Some, None, refl, sym, ap, ◌∙◌, subst, arith, append-nil, length-drop}
use Rattle.std.specs.Prelude.{◌||◌, slice_range, unwrap_or}
use Rattle.std.specs.List.{list_any}
use Rattle.std.proofs.lemmas.Bool.{cond-true, or_right}
use Rattle.model_h1.specs.ChunkedText.{Trailer}
use Rattle.model_h1.specs.Runs.{Run}
use Rattle.model_h1.specs.Chunked.{Chunked, whole, not_chunked, IsChunked}
use Rattle.model_h1.specs.Place.{Place}
use Rattle.model_h1.specs.TakeNext.{Next, chunk, waits, ended, breaks}
use Rattle.model_h1.specs.Request.{Header, Reading}
use Rattle.model_h1.specs.Parse.{Input, Message, content, Stop, open_or_cut, shifted, trailer_header, chunked_stop}
use Rattle.model_h1.specs.Event.{Outcome, corrupted}
use Rattle.model_h1.specs.Event as on
use Rattle.model_h1.specs.Sums.{Step, step_taken, taken, head_of}
use Rattle.model_h1.specs.Past.{step_bytes, given_bytes, place_behind, has_chunks, pulled_place, pulled_to}
use Rattle.model_h1.specs.Allowed.{gives_up}
use Rattle.model_h1.specs.OutcomeTable.{run_left, is_trailers, gave_trailers, ended_outcome, stop_outcome, run_outcome, body_outcome}
use Rattle.model_h1.proofs.PlaceLemmas.{run_len, left_place}
use Rattle.model_h1.proofs.StepLemmas.{step, taken-cons, since_head-more, given_bytes-more}
use Rattle.model_h1.proofs.PulledLemmas.{pulled_to-more}
use Rattle.model_h1.proofs.HandedTrace.{gave_up}
use Rattle.model_state.proofs.ChunkStops.{IsWholeTaken}
use Rattle.model_state.proofs.PassedText.{part_length, Follows}
use Rattle.model_state.proofs.ChunkGives.{IsGiven, IsWaiting, Gives, next_of, gives}
use Rattle.model_state.proofs.ChunkFollows.{follows_chunk, follows_wait, follows_end, follows_fault}

-- ---- the outcome

-- bytes
pub outcome_given : (trace : List Step) (stop : Stop) (place upto : ℕ) (text : List ℕ) (left : Option Run) (given : List ℕ)
    (next : Place) (behind : List ℕ)
    → IsGiven place upto (taken trace) text left given next behind → run_outcome trace stop left ≡ on.bytes given
outcome_given trace stop place upto text left given next behind x = ap (run_outcome trace stop) x.run_is ∙ ap on.bytes x.given_is

-- nothing comes
pub outcome_waits : (trace : List Step) (i : Input) (place upto : ℕ) (text : List ℕ) (a : Chunked) (left : Option Run) (next : Place)
    → IsWaiting place upto (taken trace) text a left next
    → run_outcome trace (chunked_stop i place a) left ≡ stop_outcome (gave_trailers trace) (open_or_cut i.ended)
outcome_waits trace i place upto text a left next x = λ j. run_outcome trace (chunked_stop i place (x.kind j)) (x.none_left j)

-- the end
pub outcome_ended : (trace : List Step) (i : Input) (place : ℕ) (bytes front text : List ℕ) (a : Chunked) (left : Option Run) (behind : List ℕ)
    → left ≡ None
    → (x : IsWholeTaken bytes front text a behind)
    → run_outcome trace (chunked_stop i place a) left ≡ ended_outcome (gave_trailers trace) (map trailer_header x.trailers)
outcome_ended trace i place bytes front text a left behind e x = λ j. run_outcome trace (chunked_stop i place (x.kind j)) (e j)

-- a fault
pub outcome_breaks : (trace : List Step) (i : Input) (place : ℕ) (a : Chunked) (left : Option Run) → left ≡ None → a ≡ not_chunked
    → run_outcome trace (chunked_stop i place a) left ≡ on.broken_by corrupted
outcome_breaks trace i place a left e kind = λ j. run_outcome trace (chunked_stop i place (kind j)) (e j)

-- ---- behind a step

-- what holds of the text that pulls of a message passed
abbrev pub FollowsTo : Message → List Step → Type 0
FollowsTo m trace = Follows m.body_start (pulled_to m trace) (taken trace) (given_bytes trace) (gave_trailers trace) (gave_up trace)

-- the same of equal parts
pub same_follows : (place u u' : ℕ) (b b' : List ℕ) (g g' : ℕ) (t t' f f' : Bool) → u ≡ u' → b ≡ b' → g ≡ g' → t ≡ t' → f ≡ f'
    → Follows place u b g t f → Follows place u' b' g' t' f'
same_follows place u u' b b' g g' t t' f f' eu eb eg et ef x =
    subst (λ v. Follows place u' b' g' t' v) ef (subst (λ v. Follows place u' b' g' v f) et
    (subst (λ v. Follows place u' b' v t f) eg (subst (λ v. Follows place u' v g t f) eb (subst (λ v. Follows place v b g t f) eu x))))

-- what one more step does to each part
pub follows_step : (m : Message) (s : Step) (trace : List Step) → head_of s.outcome ≡ None
    → Follows m.body_start (unwrap_or (pulled_place m (s ∷ trace) s.event s.outcome) (pulled_to m trace)) (taken trace ++ step_taken s.event s.outcome)
    (given_bytes trace + step_bytes s.outcome) (is_trailers s.outcome || gave_trailers trace) (gives_up s.event s.outcome || gave_up trace)
    → FollowsTo m (s ∷ trace)
follows_step m s trace none x =
    let since = since_head-more s trace none in
    same_follows m.body_start _ (pulled_to m (s ∷ trace)) _ (taken (s ∷ trace)) _ (given_bytes (s ∷ trace))
    _ (gave_trailers (s ∷ trace)) _ (gave_up (s ∷ trace))
    (sym (pulled_to-more m s trace none)) (sym (taken-cons s trace)) (sym (given_bytes-more s trace none))
    (sym (ap (list_any (λ s. is_trailers s.outcome)) since)) (sym (ap (list_any (λ s. gives_up s.event s.outcome)) since)) x

-- ---- behind a pull

-- a message in chunks
abbrev pub in_chunks : Reading → ℕ → List Run → Stop → Message
in_chunks r place runs stop = record { reading = r; body_start = place; body = content (shifted place runs) stop }

-- what is shown of a pull with this outcome
abbrev Pulled : Message → List Step → Outcome → Type 0
Pulled m trace o =
    Follows m.body_start (unwrap_or (pulled_place m (step on.pull o ∷ trace) on.pull o) (pulled_to m trace)) (taken trace)
    (given_bytes trace + step_bytes o) (is_trailers o || gave_trailers trace) (gives_up on.pull o || gave_up trace)

-- how far bytes of a run pass
pub place_given : (r : Reading) (place : ℕ) (runs : List Run) (stop : Stop) (trace : List Step) (text given : List ℕ) (next : Place) (behind : List ℕ)
    → (x : IsGiven place (pulled_to (in_chunks r place runs stop) trace) (taken trace) text
    (run_left (given_bytes trace) (shifted place runs)) given next behind)
    → place_behind place (given_bytes (step on.pull (on.bytes given) ∷ trace)) (shifted place runs)
    ≡ pulled_to (in_chunks r place runs stop) trace + x.size
place_given r place runs stop trace text given next behind x =
    let q = x.run in
    let within = x.within in
    let end = x.end_is in
    let len : length given ≡ run_len q = sym (ap length x.given_is) ∙ part_length (taken trace) q.start q.end (omega arith) in
    ap (λ n. place_behind place n (shifted place runs))
    (given_bytes-more (step on.pull (on.bytes given)) trace refl ∙ ap (λ n. given_bytes trace + n) len)
    ∙ left_place place (given_bytes trace) (shifted place runs) q x.run_is ∙ end

-- bytes
pulled_chunk : (r : Reading) (place : ℕ) (runs : List Run) (stop : Stop) (trace : List Step) (text given : List ℕ) (next : Place) (behind : List ℕ)
    → FollowsTo (in_chunks r place runs stop) trace
    → (next_of place (pulled_to (in_chunks r place runs stop) trace) (taken trace)).next ≡ chunk given next behind
    → IsGiven place (pulled_to (in_chunks r place runs stop) trace) (taken trace) text
    (run_left (given_bytes trace) (shifted place runs)) given next behind
    → Pulled (in_chunks r place runs stop) trace (on.bytes given)
pulled_chunk r place runs stop trace text given next behind f e x =
    subst (λ n. Follows place n (taken trace) (given_bytes trace + length given) (gave_trailers trace) (gave_up trace))
    (sym (place_given r place runs stop trace text given next behind x))
    (follows_chunk place (pulled_to (in_chunks r place runs stop) trace) (given_bytes trace) (taken trace) text (gave_trailers trace) (gave_up trace)
    (run_left (given_bytes trace) (shifted place runs)) given next behind f e x)

-- nothing given
given_none : (place upto : ℕ) (bytes : List ℕ) (given : ℕ) (told finished : Bool) → Follows place upto bytes given told finished
    → Follows place upto bytes (given + 0) told finished
given_none place upto bytes given told finished f =
    let same : given ≡ given + 0 = omega arith in
    subst (λ n. Follows place upto bytes n told finished) same f

-- a fault
pulled_fault : (m : Message) (trace : List Step) → FollowsTo m trace
    → Follows m.body_start (pulled_to m trace) (taken trace) (given_bytes trace + 0) (gave_trailers trace) true
pulled_fault m trace f =
    given_none m.body_start (pulled_to m trace) (taken trace) (given_bytes trace) (gave_trailers trace) true
    (follows_fault m.body_start (pulled_to m trace) (given_bytes trace) (taken trace) (gave_trailers trace) (gave_up trace) f)

-- where nothing comes, all is passed
pub place_pending : (r : Reading) (place : ℕ) (runs : List Run) (stop : Stop) (trace : List Step) → has_chunks r ≡ true
    → unwrap_or (pulled_place (in_chunks r place runs stop) (step on.pull on.pending ∷ trace) on.pull on.pending)
    (pulled_to (in_chunks r place runs stop) trace)
    ≡ length (taken trace)
place_pending r place runs stop trace chunks =
    let s = step on.pull on.pending in
    let len : length (taken (s ∷ trace)) ≡ length (taken trace) = ap length (taken-cons s trace ∙ append-nil (taken trace)) in
    ap (λ o. unwrap_or o (pulled_to (in_chunks r place runs stop) trace)) (cond-true (has_chunks r) (Some (length (taken (s ∷ trace)))) None chunks)
    ∙ len

-- nothing comes, by whether the input has ended
pulled_wait : (r : Reading) (place : ℕ) (runs : List Run) (stop : Stop) (trace : List Step) (text : List ℕ)
    (a : Chunked) (next : Place) (is_ended : Bool)
    → has_chunks r ≡ true → FollowsTo (in_chunks r place runs stop) trace
    → (next_of place (pulled_to (in_chunks r place runs stop) trace) (taken trace)).next ≡ waits next
    → IsWaiting place (pulled_to (in_chunks r place runs stop) trace) (taken trace) text a (run_left (given_bytes trace) (shifted place runs)) next
    → Pulled (in_chunks r place runs stop) trace (stop_outcome (gave_trailers trace) (open_or_cut is_ended))
pulled_wait r place runs stop trace text a next true chunks f e x = pulled_fault (in_chunks r place runs stop) trace f
pulled_wait r place runs stop trace text a next false chunks f e x =
    let m = in_chunks r place runs stop in
    subst (λ n. Follows place n (taken trace) (given_bytes trace + 0) (gave_trailers trace) (gave_up trace))
    (sym (place_pending r place runs stop trace chunks))
    (given_none place (length (taken trace)) (taken trace) (given_bytes trace) (gave_trailers trace) (gave_up trace)
    (follows_wait place (pulled_to m trace) (given_bytes trace) (taken trace) text (gave_trailers trace) (gave_up trace) a
    (run_left (given_bytes trace) (shifted place runs)) next f e x))

-- the trailers, or the end
pulled_end : (r : Reading) (place : ℕ) (runs : List Run) (i : Input) (trace : List Step) (text : List ℕ) (size : ℕ)
    (trailers : List Trailer) (told : Bool)
    (lines : List Header) → ((told' finished' : Bool) → (told' || finished') ≡ true
    → Follows place (place + size) (taken trace) (given_bytes trace) told' finished')
    → Pulled (in_chunks r place runs (chunked_stop i place (whole size trailers))) trace (ended_outcome told lines)
pulled_end r place runs i trace text size trailers told [] f =
    given_none place (place + size) (taken trace) (given_bytes trace) (gave_trailers trace) true
    (f (gave_trailers trace) true (or_right (gave_trailers trace) true refl))
pulled_end r place runs i trace text size trailers true (line ∷ lines) f =
    given_none place (place + size) (taken trace) (given_bytes trace) (gave_trailers trace) true
    (f (gave_trailers trace) true (or_right (gave_trailers trace) true refl))
pulled_end r place runs i trace text size trailers false (line ∷ lines) f =
    given_none place (place + size) (taken trace) (given_bytes trace) true (gave_up trace) (f true (gave_up trace) refl)

-- a whole body lies within the bytes
pub whole_within : (bytes front text : List ℕ) (place : ℕ) (a : Chunked) (behind : List ℕ) → place ≤ length bytes
    → (x : IsWholeTaken (drop place bytes) front text a behind) → place + x.size ≤ length bytes
whole_within bytes front text place a behind within x = let fits = x.within in omega (arith, length-drop place bytes)

-- anything
pulled_by : (r : Reading) (place : ℕ) (runs : List Run) (i : Input) (trace : List Step) (text : List ℕ) (a : Chunked) (next : Next)
    → has_chunks r ≡ true → FollowsTo (in_chunks r place runs (chunked_stop i place a)) trace
    → (next_of place (pulled_to (in_chunks r place runs (chunked_stop i place a)) trace) (taken trace)).next ≡ next
    → Gives place (pulled_to (in_chunks r place runs (chunked_stop i place a)) trace) (taken trace) text a
    (run_left (given_bytes trace) (shifted place runs)) next
    → Pulled (in_chunks r place runs (chunked_stop i place a)) trace (body_outcome trace (content (shifted place runs) (chunked_stop i place a)))
pulled_by r place runs i trace text a (chunk given next behind) chunks f e x =
    let m = in_chunks r place runs (chunked_stop i place a) in
    let left = run_left (given_bytes trace) (shifted place runs) in
    subst (Pulled m trace) (sym (outcome_given trace (chunked_stop i place a) place (pulled_to m trace) text left given next behind x))
    (pulled_chunk r place runs (chunked_stop i place a) trace text given next behind f e x)
pulled_by r place runs i trace text a (waits next) chunks f e x =
    let m = in_chunks r place runs (chunked_stop i place a) in
    let left = run_left (given_bytes trace) (shifted place runs) in
    subst (Pulled m trace) (sym (outcome_waits trace i place (pulled_to m trace) text a left next x))
    (pulled_wait r place runs (chunked_stop i place a) trace text a next i.ended chunks f e x)
pulled_by r place runs i trace text a (ended behind) chunks f e x =
    let bytes = taken trace in
    let m = in_chunks r place runs (chunked_stop i place a) in
    let front = slice_range bytes place (pulled_to m trace) in
    let left = run_left (given_bytes trace) (shifted place runs) in
    let order = f.order in
    let within = f.within in
    let w = x.1 in
    let fits = whole_within bytes front text place a behind (omega arith) w in
    let o = ended_outcome (gave_trailers trace) (map trailer_header w.trailers) in
    let here : Pulled (in_chunks r place runs (chunked_stop i place (whole w.size w.trailers))) trace o =
    pulled_end r place runs i trace text w.size w.trailers (gave_trailers trace) (map trailer_header w.trailers)
    (λ told' finished' closed. follows_end place (pulled_to m trace) (given_bytes trace) bytes text (gave_trailers trace) (gave_up trace)
    told' finished' a behind f w fits closed) in
    subst (Pulled m trace) (sym (outcome_ended trace i place (drop place bytes) front text a left behind x.0 w))
    (subst (λ (b : Chunked). Pulled (in_chunks r place runs (chunked_stop i place b)) trace o) (sym w.kind) here)
pulled_by r place runs i trace text a breaks chunks f e x =
    let m = in_chunks r place runs (chunked_stop i place a) in
    let left = run_left (given_bytes trace) (shifted place runs) in
    subst (Pulled m trace) (sym (outcome_breaks trace i place a left x.0 x.1)) (pulled_fault m trace f)

-- A pull of a body in chunks passes text of which the same holds.
pub follows_pull : (r : Reading) (place : ℕ) (runs : List Run) (i : Input) (trace : List Step) (a : Chunked) → has_chunks r ≡ true
    → IsChunked (drop place (taken trace)) a runs → FollowsTo (in_chunks r place runs (chunked_stop i place a)) trace
    → Pulled (in_chunks r place runs (chunked_stop i place a)) trace (body_outcome trace (content (shifted place runs) (chunked_stop i place a)))
follows_pull r place runs i trace a chunks x f =
    let m = in_chunks r place runs (chunked_stop i place a) in
    let t = next_of place (pulled_to m trace) (taken trace) in
    pulled_by r place runs i trace t.trailers a t.next chunks f refl
    (gives place (pulled_to m trace) (given_bytes trace) (taken trace) (gave_trailers trace) (gave_up trace) a runs x f)
