-- How a body in chunks stops is what comes next behind the text that is passed: its end with its trailers, that it is
-- broken, or nothing yet.
use Rattle.std.proofs.Common.{◌≡◌, ℕ, ◌≤◌, List, [], ◌++◌, length, take, drop, refl, sym, ap, ◌∙◌, subst, arith, append-nil}
use Rattle.std.specs.Prelude.{⊤}
use Rattle.std.specs.List.{AllByRecursion}
use Rattle.std.proofs.lemmas.List.{take-take}
use Rattle.model_h1.specs.ChunkedText.{Trailer, IsTrailer, ChunkedText, section_text, content}
use Rattle.model_h1.specs.Runs.{Run}
use Rattle.model_h1.specs.Chunked.{Chunked, whole, unfinished, not_chunked, Spells, IsChunked}
use Rattle.model_h1.specs.Place.{done, broken, start, after}
use Rattle.model_h1.specs.Reading.{goes_on, is_broken, ends_before, Reading, with_trailers, read}
use Rattle.model_h1.specs.TakeNext.{Next, chunk, waits, ended, breaks, take_next, says}
use Rattle.model_h1.proofs.ReadSteps.{read-nil}
use Rattle.model_h1.proofs.ReadAfter.{read-append, joined}
use Rattle.model_h1.proofs.TakenReads.{taken_is_read}
use Rattle.model_h1.proofs.Verdicts.{IsLive, live_end, whole_after}
use Rattle.model_h1.proofs.Agreement.{read_whole, whole_read, unfinished_read, broken_read}

-- what is read of all bytes, where this came next behind a front
abbrev pub read_with : List ℕ → List ℕ → Next → Reading
read_with front text next = joined (read start front) (with_trailers text (says next []))

-- all bytes are read as what comes next behind the front says
pub read_by_next : (front rest : List ℕ) → (after start front ≡ broken → ⊥)
    → read start (front ++ rest) ≡ read_with front (take_next (after start front) rest).trailers (take_next (after start front) rest).next
read_by_next front rest unbroken =
    read-append start front rest unbroken
    ∙ ap (λ l. joined (read start front) (read (after start front) l)) (sym (append-nil rest))
    ∙ ap (joined (read start front)) (taken_is_read rest (after start front) [])

-- the end of a whole body, by what was read of the front
pub record IsWholeTaken (bytes front text : List ℕ) (a : Chunked) (behind : List ℕ) : Type 0 where
  pub size : ℕ
  pub trailers : List Trailer
  pub kind : a ≡ whole size trailers
  pub within : size ≤ length bytes
  pub behind_is : behind ≡ drop size bytes
  pub section : section_text trailers ≡ (read start front).trailers ++ text
  pub lines : AllByRecursion IsTrailer trailers
  pub body : (read start (take size bytes)).body ≡ (read start front).body
  pub ends : after start (take size bytes) ≡ done

-- how the bytes stand to the grammar, where this came next
abbrev pub StopsAs : List ℕ → List ℕ → List ℕ → Chunked → Next → Type 0
StopsAs bytes front text a (chunk given next behind) = ⊤
StopsAs bytes front text a (waits next) = a ≡ unfinished
StopsAs bytes front text a (ended behind) = IsWholeTaken bytes front text a behind
StopsAs bytes front text a breaks = a ≡ not_chunked

-- what has ended does not go on
ended_open : (behind : List ℕ) → ends_before behind ≡ goes_on → ⊥
ended_open behind e = cc

-- what is broken does not go on
broken_open : is_broken ≡ goes_on → ⊥
broken_open e = cc

-- what has ended is not broken
ended_broken : (behind : List ℕ) → ends_before behind ≡ is_broken → ⊥
ended_broken behind e = cc

-- one end has one rest
behind_same : (a b : List ℕ) → ends_before a ≡ ends_before b → a ≡ b
behind_same a b e = cc

-- nothing comes next
waits_unfinished : (bytes : List ℕ) (a : Chunked) (runs : List Run) → IsChunked bytes a runs → (read start bytes).ending ≡ goes_on → a ≡ unfinished
waits_unfinished bytes (whole k trailers) runs x e = absurd (ended_open (drop k bytes) (sym (whole_read bytes k trailers runs x).0 ∙ e))
waits_unfinished bytes unfinished runs x e = refl
waits_unfinished bytes not_chunked runs x e = absurd (broken_open (sym (broken_read bytes runs x) ∙ e))

-- the body is broken
breaks_broken : (bytes : List ℕ) (a : Chunked) (runs : List Run) → IsChunked bytes a runs → (read start bytes).ending ≡ is_broken → a ≡ not_chunked
breaks_broken bytes (whole k trailers) runs x e = absurd (ended_broken (drop k bytes) (sym (whole_read bytes k trailers runs x).0 ∙ e))
breaks_broken bytes unfinished runs x e = absurd (broken_open (sym e ∙ unfinished_read bytes runs x))
breaks_broken bytes not_chunked runs x e = refl

-- what is read of a whole body alone
whole_alone : (bytes : List ℕ) (k : ℕ) (t : ChunkedText) → Spells (take k bytes) t → (read start (take k bytes)).body ≡ content t
whole_alone bytes k t x =
    ap (λ (r : Reading). r.body)
    (read_whole (take k bytes) k t (subst (λ l. Spells l t) (sym (take-take k k bytes (omega arith))) x))

-- the body has ended
ended_whole : (bytes front text behind : List ℕ) (a : Chunked) (runs : List Run) → IsChunked bytes a runs
    → read start bytes ≡ read_with front text (ended behind) → IsWholeTaken bytes front text a behind
ended_whole bytes front text behind (whole k trailers) runs x e =
    let told = whole_read bytes k trailers runs x in
    let same = sym (ap (λ (r : Reading). r.ending) e) ∙ told.0 in
    record {
      size = k;
      trailers = trailers;
      kind = refl;
      within = x.1;
      behind_is = sym (append-nil behind) ∙ behind_same (behind ++ []) (drop k bytes) same;
      section = sym told.1 ∙ ap (λ (r : Reading). r.trailers) e ∙ ap (λ l. (read start front).trailers ++ l) (append-nil text);
      lines = subst (AllByRecursion IsTrailer) (sym x.3) x.2.0.trailers;
      body = whole_alone bytes k x.0 x.2 ∙ sym (ap (λ (r : Reading). r.body) (read_whole bytes k x.0 x.2)) ∙ ap (λ (r : Reading). r.body) e
          ∙ append-nil (read start front).body;
      ends = whole_after bytes k trailers runs x;
    }
ended_whole bytes front text behind unfinished runs x e =
    absurd (ended_open (behind ++ []) (sym (ap (λ (r : Reading). r.ending) e) ∙ unfinished_read bytes runs x))
ended_whole bytes front text behind not_chunked runs x e =
    absurd (ended_broken (behind ++ []) (sym (ap (λ (r : Reading). r.ending) e) ∙ broken_read bytes runs x))

-- a place where bytes wait goes on
abbrev pub WaitsLive : Next → Type 0
WaitsLive (waits next) = IsLive next
WaitsLive other = ⊤

-- what came next tells how the body stops
pub stops_as : (bytes front text : List ℕ) (a : Chunked) (runs : List Run) (next : Next) → IsChunked bytes a runs → WaitsLive next
    → read start bytes ≡ read_with front text next → StopsAs bytes front text a next
stops_as bytes front text a runs (chunk given next behind) x live e = tt
stops_as bytes front text a runs (waits next) x live e =
    waits_unfinished bytes a runs x (ap (λ (r : Reading). r.ending) e ∙ ap (λ (r : Reading). r.ending) (read-nil next) ∙ live_end next live)
stops_as bytes front text a runs (ended behind) x live e = ended_whole bytes front text behind a runs x e
stops_as bytes front text a runs breaks x live e = breaks_broken bytes a runs x (ap (λ (r : Reading). r.ending) e)
