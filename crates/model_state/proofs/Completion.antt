-- Where an answer is complete the body of its request is passed: up to its end, or as far as it was taken.
use Rattle.std.proofs.Common.{◌≡◌, ℕ, ◌+◌, ◌-◌, ◌<◌, ◌≤◌, Bool, true, false, List, [], length, take, drop, slice_range, leb, Some, None, refl, sym, ap, ◌∙◌, subst, inl, inr, arith}
use Rattle.std.specs.Prelude.{unwrap_or, if◌then◌else◌}
use Rattle.std.proofs.lemmas.Bool.{cond-true, cond-false, cases_lt, le-leb, lt-leb}
use Rattle.std.proofs.lemmas.List.{drop-drop, drop_all, take_all, length-drop, take-append-drop}
use Rattle.model_h1.specs.Place.{start, done, broken, after}
use Rattle.model_h1.specs.Reading.{Reading, goes_on, is_broken, read}
use Rattle.model_h1.specs.ChunkedText.{Trailer}
use Rattle.model_h1.specs.Runs.{Run}
use Rattle.model_h1.specs.Chunked.{Chunked, whole, unfinished, not_chunked, IsChunked}
use Rattle.model_h1.proofs.ReadSteps.{read_broken}
use Rattle.model_h1.proofs.ReadAfter.{after-append, read-append}
use Rattle.model_h1.proofs.Beginnings.{begins_take, whole_begins}
use Rattle.model_h1.proofs.Verdicts.{verdict, begins_live}
use Rattle.model_h1.proofs.Agreement.{whole_read, unfinished_read, broken_read}
use Rattle.model_h1.specs.Request.{BodyKind, no_body, fixed_body, chunked_body, raw_body, Head}
use Rattle.model_h1.specs.Setting.{Setting}
use Rattle.model_h1.specs.Parse.{Message, Body, content, run_between, open_or_cut, next_start, shifted, chunked_stop, IsBodyOf}
use Rattle.model_h1.specs.Sums.{taken, has_ended, accepted, is_complete, is_receiving}
use Rattle.model_h1.specs.Past.{ParsedStep, steps, passed}
use Rattle.model_h1.proofs.BodyLemmas.{input}
use Rattle.model_h1.proofs.BodyGrowth.{fixed_whole, fixed_part}
use Rattle.model_h1.proofs.CarriedLemmas.{end_of, passed_complete}
use Rattle.model_state.specs.Kept.{Rest, no_rest, raw_rest, fixed_rest, chunks_rest}
use Rattle.model_state.specs.Body.{Passed, pass_chunks, pass_rest}
use Rattle.model_state.specs.KeptOf.{is_passed, fixed_left, rest_of}
use Rattle.model_state.proofs.Current.{Current}
use Rattle.model_state.proofs.QuietParts.{rest_by, rest_parts}

-- what is left of a body and of the bytes
abbrev left : Rest → List ℕ → Passed
left rest unread = record { rest = rest; unread = unread }

-- ---- chunks

-- what is read of bytes is read of them in two pieces
ending_behind : (bytes : List ℕ) (n : ℕ) → (after start (take n bytes) ≡ broken → ⊥)
    → (read (after start (take n bytes)) (drop n bytes)).ending ≡ (read start bytes).ending
ending_behind bytes n live =
    sym (ap (λ (r : Reading). r.ending) (read-append start (take n bytes) (drop n bytes) live))
    ∙ ap (λ l. (read start l).ending) (take-append-drop n bytes)

-- and leads to one place
place_behind : (bytes : List ℕ) (n : ℕ) → after (after start (take n bytes)) (drop n bytes) ≡ after start bytes
place_behind bytes n = sym (after-append start (take n bytes) (drop n bytes)) ∙ ap (after start) (take-append-drop n bytes)

-- of broken bytes the rest is broken
rest_broken : (bytes : List ℕ) (n : ℕ) → (read start bytes).ending ≡ is_broken → (read (after start (take n bytes)) (drop n bytes)).ending ≡ is_broken
rest_broken bytes n e = elim (verdict (after start (take n bytes))) [
  | inl ends ↦ ending_behind bytes n (λ breaks. done_apart (sym ends ∙ breaks)) ∙ e
  | inr (inl breaks) ↦ ap (λ p. (read p (drop n bytes)).ending) breaks ∙ ap (λ (r : Reading). r.ending) (read_broken (drop n bytes))
  | inr (inr live) ↦ ending_behind bytes n live.not_broken ∙ e
]
  where
    done_apart : done ≡ broken → ⊥
    done_apart x = cc

-- what is left of chunks behind their first bytes is passed up to their end
whole_pass : (bytes : List ℕ) (n k : ℕ) (trailers : List Trailer) (runs : List Run) (ended : Bool) (section : List ℕ)
    → IsChunked bytes (whole k trailers) runs → n < k
    → pass_rest ended (chunks_rest (after start (take n bytes)) section) (drop n bytes) ≡ left no_rest (drop k bytes)
whole_pass bytes n k trailers runs ended section x short =
    let live = begins_live (take n bytes) x.0 (whole_begins n k bytes x.0 short x.1 x.2) in
    let ending = ending_behind bytes n live.not_broken ∙ (whole_read bytes k trailers runs x).0 in
    ap (pass_chunks (after start (take n bytes)) (drop n bytes)) ending

-- or as far as they were taken, if they don't end
open_pass : (bytes : List ℕ) (n : ℕ) (ended : Bool) (section : List ℕ) → (read (after start (take n bytes)) (drop n bytes)).ending ≡ goes_on
    → pass_rest ended (chunks_rest (after start (take n bytes)) section) (drop n bytes) ≡ left (chunks_rest (after start bytes) []) []
open_pass bytes n ended section e =
    ap (pass_chunks (after start (take n bytes)) (drop n bytes)) e ∙ ap (λ p. left (chunks_rest p []) []) (place_behind bytes n)

-- or where they are broken
broken_pass : (bytes : List ℕ) (n : ℕ) (ended : Bool) (section : List ℕ) → (read (after start (take n bytes)) (drop n bytes)).ending ≡ is_broken
    → pass_rest ended (chunks_rest (after start (take n bytes)) section) (drop n bytes) ≡ left (chunks_rest (after start bytes) []) []
broken_pass bytes n ended section e =
    ap (pass_chunks (after start (take n bytes)) (drop n bytes)) e ∙ ap (λ p. left (chunks_rest p []) []) (place_behind bytes n)

-- ---- any body

-- an open body has no end
open_next : (runs : List Run) (ended : Bool) → next_start (content runs (open_or_cut ended)) ≡ None
open_next runs true = refl
open_next runs false = refl

-- whether a body is passed, by its end
passed_some : (place end : ℕ) (m : Message) → next_start m.body ≡ Some end → is_passed place m ≡ leb end place
passed_some place end m e = rw e refl

-- or where it has none
passed_none : (place : ℕ) (m : Message) → next_start m.body ≡ None → is_passed place m ≡ false
passed_none place m e = rw e refl

-- how far a body is passed, by its end
end_some : (len end : ℕ) (b : Body) → next_start b ≡ Some end → end_of len b ≡ end
end_some len end b e = ap (λ o. unwrap_or o len) e

-- or as far as the bytes reach
end_none : (len : ℕ) (b : Body) → next_start b ≡ None → end_of len b ≡ len
end_none len b e = ap (λ o. unwrap_or o len) e

-- A body that began, and of which nothing behind its end is passed.
pub record Reaches (bytes : List ℕ) (ended : Bool) (size : ℕ) (kind : BodyKind) (m : Message) (place : ℕ) : Type 0 where
  pub body : IsBodyOf (input bytes None ended size) kind m.body_start m.body
  pub begun : m.body_start ≤ place
  pub within : place ≤ length bytes
  pub before_next : (next : ℕ) → next_start m.body ≡ Some next → place ≤ next

-- what is left behind a place where the answer is complete
abbrev left_at : List ℕ → BodyKind → Message → Bool → ℕ → Passed
left_at bytes kind m receiving place = left (rest_by place bytes true None receiving m kind) (drop place bytes)

-- bytes of a stated length
fixed_done : (bytes : List ℕ) (ended : Bool) (size n : ℕ) (m : Message) (place : ℕ) (complete receiving still : Bool)
    → Reaches bytes ended size (fixed_body n) m place
    → pass_rest ended (rest_by place bytes complete None receiving m (fixed_body n)) (drop place bytes)
    ≡ left_at bytes (fixed_body n) m still (end_of (length bytes) m.body)
fixed_done bytes ended size n m place complete receiving still r =
    let s = m.body_start in
    let end = s + n in
    let len = length bytes in
    let more = drop place bytes in
    elim (cases_lt len end) [
      | inr fits ↦
          let next : next_start m.body ≡ Some end = ap next_start (r.body ∙ fixed_whole bytes None ended size s n fits) in
          let at = end_some len end m.body next in
          let goal = sym (ap (left_at bytes (fixed_body n) m still) at) in
          let gone : fixed_left end end ≡ no_rest = cond-true (leb end end) _ _ (le-leb end end (omega arith)) in
          elim (cases_lt place end) [
            | inl before ↦
                let rest : fixed_left end place ≡ fixed_rest (end - place) = cond-false (leb end place) _ _ (lt-leb end place before) in
                let all = cond-true (leb (end - place) (length more)) (left no_rest (drop (end - place) more)) (left (fixed_rest (end - place - length more)) [])
                (le-leb (end - place) (length more) (omega (arith, length-drop place bytes))) in
                let behind : place + (end - place) ≡ end = omega arith in
                ap (λ r. pass_rest ended r more) rest ∙ all ∙ ap (left no_rest) (drop-drop (end - place) place bytes ∙ ap (λ p. drop p bytes) behind)
                ∙ ap (λ r. left r (drop end bytes)) (sym gone) ∙ goal
            | inr past ↦
                let before = r.before_next end next in
                let same : place ≡ end = omega arith in
                ap (λ p. pass_rest ended (fixed_left end p) (drop p bytes)) same
                ∙ ap (λ r. pass_rest ended r (drop end bytes)) gone ∙ ap (λ r. left r (drop end bytes)) (sym gone) ∙ goal
          ]
      | inl short ↦
          let next : next_start m.body ≡ None = ap next_start (r.body ∙ fixed_part bytes None ended size s n short)
          ∙ open_next (run_between s len) ended in
          let at = end_none len m.body next in
          let within = r.within in
          let rest : fixed_left end place ≡ fixed_rest (end - place) = cond-false (leb end place) _ _ (lt-leb end place (omega arith)) in
          let count = length-drop place bytes in
          let part = cond-false (leb (end - place) (length more)) (left no_rest (drop (end - place) more)) (left (fixed_rest (end - place - length more)) [])
          (lt-leb (end - place) (length more) (omega (arith, count))) in
          let missing : end - place - length more ≡ end - len = omega (arith, count) in
          let now : fixed_left end len ≡ fixed_rest (end - len) = cond-false (leb end len) _ _ (lt-leb end len short) in
          ap (λ r. pass_rest ended r more) rest ∙ part ∙ ap (λ n. left (fixed_rest n) []) missing
          ∙ (λ i. left (sym now i) (sym (drop_all len bytes (omega arith)) i)) ∙ sym (ap (left_at bytes (fixed_body n) m still) at)
    ]

-- all bytes up to the end of the input
raw_done : (bytes : List ℕ) (ended : Bool) (size : ℕ) (m : Message) (place : ℕ) (complete receiving still : Bool)
    → Reaches bytes ended size raw_body m place
    → pass_rest ended (rest_by place bytes complete None receiving m raw_body) (drop place bytes)
    ≡ left_at bytes raw_body m still (end_of (length bytes) m.body)
raw_done bytes true size m place complete receiving still r =
    let len = length bytes in
    let next : next_start m.body ≡ Some len = ap next_start r.body in
    let at = sym (ap (left_at bytes raw_body m still) (end_some len len m.body next)) in
    let gone = cond-true (is_passed len m) no_rest raw_rest (passed_some len len m next ∙ le-leb len len (omega arith)) in
    let none = drop_all len bytes (omega arith) in
    let done : left no_rest [] ≡ left_at bytes raw_body m still len = λ i. left (sym gone i) (sym none i) in
    elim (cases_lt place len) [
      | inl before ↦
          let rest = cond-false (is_passed place m) no_rest raw_rest (passed_some place len m next ∙ lt-leb len place before) in
          ap (λ r. pass_rest true r (drop place bytes)) rest ∙ done ∙ at
      | inr past ↦
          let rest = cond-true (is_passed place m) no_rest raw_rest (passed_some place len m next ∙ le-leb len place past) in
          ap (λ r. pass_rest true r (drop place bytes)) rest ∙ ap (left no_rest) (drop_all place bytes past) ∙ done ∙ at
    ]
raw_done bytes false size m place complete receiving still r =
    let len = length bytes in
    let next : next_start m.body ≡ None = ap next_start r.body in
    let at = sym (ap (left_at bytes raw_body m still) (end_none len m.body next)) in
    let rest = cond-false (is_passed place m) no_rest raw_rest (passed_none place m next) in
    let still_there = cond-false (is_passed len m) no_rest raw_rest (passed_none len m next) in
    let none = drop_all len bytes (omega arith) in
    ap (λ r. pass_rest false r (drop place bytes)) rest ∙ (λ i. left (sym still_there i) (sym none i)) ∙ at

-- the body's bytes from a place on are those of all bytes
from_place : (bytes : List ℕ) (s place : ℕ) → s ≤ place → drop (place - s) (drop s bytes) ≡ drop place bytes
from_place bytes s place begun =
    let same : s + (place - s) ≡ place = omega arith in
    drop-drop (place - s) s bytes ∙ ap (λ p. drop p bytes) same

-- chunks that don't end
open_done : (bytes : List ℕ) (ended : Bool) (m : Message) (place : ℕ) (complete receiving still : Bool) → next_start m.body ≡ None
    → m.body_start ≤ place
    → ((section : List ℕ) → pass_rest ended (chunks_rest (after start (take (place - m.body_start) (drop m.body_start bytes))) section)
    (drop (place - m.body_start) (drop m.body_start bytes)) ≡ left (chunks_rest (after start (drop m.body_start bytes)) []) [])
    → pass_rest ended (rest_by place bytes complete None receiving m chunked_body) (drop place bytes)
    ≡ left_at bytes chunked_body m still (end_of (length bytes) m.body)
open_done bytes ended m place complete receiving still next begun passes =
    let s = m.body_start in
    let len = length bytes in
    let front = slice_range bytes s place in
    let section = if complete then [] else (read start front).trailers in
    let rest = cond-false (is_passed place m) no_rest (chunks_rest (after start front) section) (passed_none place m next) in
    let all : slice_range bytes s len ≡ drop s bytes = take_all (len - s) (drop s bytes) (omega (arith, length-drop s bytes)) in
    let now = cond-false (is_passed len m) no_rest (chunks_rest (after start (slice_range bytes s len)) []) (passed_none len m next)
    ∙ ap (λ l. chunks_rest (after start l) []) all in
    ap (λ r. pass_rest ended r (drop place bytes)) rest
    ∙ ap (pass_rest ended (chunks_rest (after start front) section)) (sym (from_place bytes s place begun))
    ∙ passes section ∙ (λ i. left (sym now i) (sym (drop_all len bytes (omega arith)) i))
    ∙ sym (ap (left_at bytes chunked_body m still) (end_none len m.body next))

-- chunks
chunks_done : (bytes : List ℕ) (ended : Bool) (size : ℕ) (m : Message) (place : ℕ) (complete receiving still : Bool) (a : Chunked) (runs : List Run)
    → IsChunked (drop m.body_start bytes) a runs
    → m.body ≡ content (shifted m.body_start runs) (chunked_stop (input bytes None ended size) m.body_start a)
    → Reaches bytes ended size chunked_body m place
    → pass_rest ended (rest_by place bytes complete None receiving m chunked_body) (drop place bytes)
    ≡ left_at bytes chunked_body m still (end_of (length bytes) m.body)
chunks_done bytes ended size m place complete receiving still (whole k trailers) runs x is r =
    let s = m.body_start in
    let len = length bytes in
    let end = s + k in
    let begun = r.begun in
    let front = slice_range bytes s place in
    let section = if complete then [] else (read start front).trailers in
    let next : next_start m.body ≡ Some end = ap next_start is in
    let at = sym (ap (left_at bytes chunked_body m still) (end_some len end m.body next)) in
    let gone = cond-true (is_passed end m) no_rest (chunks_rest (after start (slice_range bytes s end)) []) (passed_some end end m next ∙ le-leb end end (omega arith)) in
    let done : left no_rest (drop end bytes) ≡ left_at bytes chunked_body m still end = ap (λ r. left r (drop end bytes)) (sym gone) in
    elim (cases_lt place end) [
      | inl before ↦
          let rest = cond-false (is_passed place m) no_rest (chunks_rest (after start front) section) (passed_some place end m next ∙ lt-leb end place before) in
          ap (λ r. pass_rest ended r (drop place bytes)) rest
          ∙ ap (pass_rest ended (chunks_rest (after start front) section)) (sym (from_place bytes s place begun))
          ∙ whole_pass (drop s bytes) (place - s) k trailers runs ended section x (omega arith)
          ∙ ap (left no_rest) (drop-drop k s bytes) ∙ done ∙ at
      | inr past ↦
          let within = r.before_next end next in
          let same : place ≡ end = omega arith in
          let rest = cond-true (is_passed place m) no_rest (chunks_rest (after start front) section) (passed_some place end m next ∙ le-leb end place past) in
          ap (λ r. pass_rest ended r (drop place bytes)) rest ∙ ap (λ p. left no_rest (drop p bytes)) same ∙ done ∙ at
    ]
chunks_done bytes ended size m place complete receiving still unfinished runs x is r =
    let s = m.body_start in
    let n = place - s in
    let text = drop s bytes in
    let live = begins_live (take n text) x.0 (begins_take n text x.0 x.1) in
    open_done bytes ended m place complete receiving still (ap next_start is ∙ open_next (shifted s runs) ended) r.begun
    (λ section. open_pass text n ended section (ending_behind text n live.not_broken ∙ unfinished_read text runs x))
chunks_done bytes ended size m place complete receiving still not_chunked runs x is r =
    let s = m.body_start in
    let n = place - s in
    let text = drop s bytes in
    open_done bytes ended m place complete receiving still (ap next_start is) r.begun
    (λ section. broken_pass text n ended section (rest_broken text n (broken_read text runs x)))

-- What is left of a body behind a place, and of the bytes, is passed up to the body's end, or as far as it was taken.
pub body_done : (bytes : List ℕ) (ended : Bool) (size : ℕ) (kind : BodyKind) (m : Message) (place : ℕ) (complete receiving still : Bool)
    → Reaches bytes ended size kind m place
    → pass_rest ended (rest_by place bytes complete None receiving m kind) (drop place bytes)
    ≡ record { rest = rest_by (end_of (length bytes) m.body) bytes true None still m kind; unread = drop (end_of (length bytes) m.body) bytes }
body_done bytes ended size no_body m place complete receiving still r =
    let s = m.body_start in
    let next : next_start m.body ≡ Some s = ap next_start r.body in
    let before = r.before_next s next in
    let begun = r.begun in
    let same : place ≡ s = omega arith in
    ap (λ p. left no_rest (drop p bytes)) (same ∙ sym (end_some (length bytes) s m.body next))
body_done bytes ended size (fixed_body n) m place complete receiving still r = fixed_done bytes ended size n m place complete receiving still r
body_done bytes ended size chunked_body m place complete receiving still r =
    chunks_done bytes ended size m place complete receiving still r.body.0 r.body.1 r.body.2 r.body.3 r
body_done bytes ended size raw_body m place complete receiving still r = raw_done bytes ended size m place complete receiving still r

-- ---- the current message

-- Where the answer is complete, what was left of the request's body behind a place is what is left behind the past.
pub passing_of : (setting : Setting) (past : List ParsedStep) (m : Message) (h : Head) (place : ℕ) (complete receiving : Bool)
    → Current setting past m h
    → is_complete (steps past) ≡ true → accepted (steps past) ≡ None
    → m.body_start ≤ place → place ≤ length (taken (steps past)) → ((next : ℕ) → next_start m.body ≡ Some next → place ≤ next)
    → pass_rest (has_ended (steps past)) (rest_by place (taken (steps past)) complete None receiving m h.body) (drop place (taken (steps past)))
    ≡ record { rest = rest_of past m h.body; unread = drop (passed past) (taken (steps past)) }
passing_of setting past m h place complete receiving c is_done plain begun within before_next =
    let t = steps past in
    let body = subst (λ o. IsBodyOf (record { bytes = taken t; upgraded = o; ended = has_ended t; hold_size = setting.hold_size }) h.body m.body_start m.body) plain c.body in
    let reaches : Reaches (taken t) (has_ended t) setting.hold_size h.body m place =
    record { body = body; begun = begun; within = within; before_next = before_next } in
    let at : passed past ≡ end_of (length (taken t)) m.body = c.passed_is ∙ passed_complete past m is_done in
    let rest : rest_of past m h.body ≡ rest_by (end_of (length (taken t)) m.body) (taken t) true None (is_receiving t) m h.body =
    rest_parts past m h.body ∙ (λ i. rest_by (at i) (taken t) (is_done i) (plain i) (is_receiving t) m h.body) in
    body_done (taken t) (has_ended t) setting.hold_size h.body m place complete receiving (is_receiving t) reaches
    ∙ (λ i. record { rest = sym rest i; unread = drop (sym at i) (taken t) })
