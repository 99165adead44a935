-- The body of an answer, by what all its bytes tell of it.
use Rattle.std.proofs.Common.{◌≡◌, ℕ, zero, suc, ◌+◌, ◌<◌, ◌≤◌, Bool, true, false, List, [], ◌∷◌, ◌++◌, length, take, drop, slice_range, map, Option, Some, None, refl, sym, ap, ◌∙◌, subst, subst₂, inl, inr, arith, length-drop, eqb-true, le-leb}
use Rattle.std.specs.Prelude.{nat_le, ◌==◌, if◌then◌else◌}
use Rattle.std.specs.List.{AllByRecursion}
use Rattle.std.proofs.lemmas.Bool.{true≢false, cases_lt, lt-leb, cond-true, cond-false, cond_both}
use Rattle.std.proofs.lemmas.List.{take_rest, drop-drop, drop_all}
use Rattle.model_h1.specs.ChunkedText.{Trailer, IsTrailer, section_text}
use Rattle.model_h1.specs.Chunked.{Chunked, whole, unfinished, not_chunked, IsChunked}
use Rattle.model_h1.specs.Place.{start}
use Rattle.model_h1.specs.Reading.{Reading, Ending, read}
use Rattle.model_h1.specs.Runs.{Run}
use Rattle.model_h1.proofs.Agreement.{whole_read, unfinished_read, broken_read, runs_read}
use Rattle.model_h1.specs.Request.{BodyKind, no_body, fixed_body, chunked_body, raw_body}
use Rattle.model_h1.specs.Parse.{Body, content, Stop, ended_at, still_open, broken, open_or_cut, run_between, fixed_content, raw_content, shifted, chunked_stop, trailer_header, next_start, IsBodyOf}
use Rattle.model_h1.specs.Event.{corrupted, incomplete}
use Rattle.model_h1.specs.Handed.{Item, item_end, item_fault, trailer_items, last_items, body_bytes}
use Rattle.model_h1.proofs.RunLemmas.{run_bytes_shifted, run_bytes_between}
use Rattle.model_h1.proofs.BodyGrowth.{fixed_whole, fixed_part}
use Rattle.model_state.specs.Kept.{no_rest, raw_rest, fixed_rest, chunks_rest, whole_rest}
use Rattle.model_client.specs.AnswerParse.{Received, body_input}
use Rattle.model_client.proofs.Told.{HowStops, stops_before, may_go_on, breaks_off, is_cut_off, Told, lacking_more, stop_of, of_length, of_all, told, IsSound}

-- ---- how a body stops

-- the next answer starts in front of these bytes
abbrev pub Stands : List ℕ → Body → List ℕ → Type 0
Stands bytes body behind = (place : ℕ) × (next_start body ≡ Some place) × (place ≤ length bytes) × (drop place bytes ≡ behind)

-- Some of what follows the bytes of a body was handed out, and this is left: its trailers of this text and its end, or its
-- fault.
abbrev pub StopsSo : List ℕ → Body → List Item → HowStops → Type 0
StopsSo bytes body last (stops_before text behind) =
    (lines : List Trailer) × AllByRecursion IsTrailer lines × (section_text lines ≡ text)
    × (last_items body ≡ last ++ (trailer_items (map trailer_header lines) ++ item_end ∷ [])) × Stands bytes body behind
StopsSo bytes body last may_go_on = (last ≡ []) × (last_items body ≡ []) × (next_start body ≡ None)
StopsSo bytes body last breaks_off = last_items body ≡ last ++ item_fault corrupted ∷ []
StopsSo bytes body last is_cut_off = last_items body ≡ last ++ item_fault incomplete ∷ []

-- what is told is the body: its bytes, and how it stops
abbrev pub Tells : List ℕ → Body → Told → Type 0
Tells bytes body t = (body_bytes bytes body ≡ t.body) × StopsSo bytes body [] t.stop

lacks_so : (bytes : List ℕ) (runs : List Run) (e : Bool) → StopsSo bytes (content runs (open_or_cut e)) [] (lacking_more e)
lacks_so bytes runs true = refl
lacks_so bytes runs false = (refl, refl, refl)

ends_so : (bytes : List ℕ) (runs : List Run) (place : ℕ) (behind : List ℕ) → place ≤ length bytes → drop place bytes ≡ behind
    → StopsSo bytes (content runs (ended_at place [])) [] (stops_before [] behind)
ends_so bytes runs place behind within is = ([], tt, refl, refl, (place, refl, within, is))

-- ---- each kind

-- the bytes between two places
between_told : (bytes : List ℕ) (s e : ℕ) (stop : Stop) (text : List ℕ) → slice_range bytes s e ≡ text
    → body_bytes bytes (content (run_between s e) stop) ≡ text
between_told bytes s e stop text is = run_bytes_between bytes s e ∙ is

module _ (bytes : List ℕ) (e : Bool) (size : Option ℕ) (place : ℕ) (within : place ≤ length bytes) where
  abbrev all : Received
  all = record { bytes = bytes; ended = e; hold_size = size }

  abbrev text : List ℕ
  text = drop place bytes

  -- all bytes behind the place
  rest_text : slice_range bytes place (length bytes) ≡ text
  rest_text = take_rest bytes place

  fixed_tells : (n : ℕ) → Tells bytes (fixed_content (body_input all) place n) (of_length e n text)
  fixed_tells n =
      let there : Told = record { body = take n text; stop = stops_before [] (drop n text) } in
      let part : Told = record { body = text; stop = lacking_more e } in
      let long = length-drop place bytes in
      elim (cases_lt (length bytes) (place + n)) [
        | inr fits ↦
            subst₂ (Tells bytes) (sym (fixed_whole bytes None e 0 place n fits))
            (sym (cond-true (nat_le n (length text)) there part (le-leb n (length text) (omega (arith, fits, long, within))))) (
              between_told bytes place (place + n) (ended_at (place + n) []) (take n text) (ap (λ (k : ℕ). take k text) (omega arith)),
              ends_so bytes (run_between place (place + n)) (place + n) (drop n text) fits (sym (drop-drop n place bytes)),
            )
        | inl short ↦
            subst₂ (Tells bytes) (sym (fixed_part bytes None e 0 place n short))
            (sym (cond-false (nat_le n (length text)) there part (lt-leb n (length text) (omega (arith, short, long, within)))))
            (between_told bytes place (length bytes) (open_or_cut e) text rest_text, lacks_so bytes (run_between place (length bytes)) e)
      ]

  raw_tells : (e : Bool) → Tells bytes (raw_content (body_input (record all { ended = e })) place) (of_all e text)
  raw_tells true = (
    between_told bytes place (length bytes) (ended_at (length bytes) []) text rest_text,
    ends_so bytes (run_between place (length bytes)) (length bytes) [] (omega arith) (drop_all (length bytes) bytes (omega arith)),
  )
  raw_tells false = (between_told bytes place (length bytes) still_open text rest_text, (refl, refl, refl))

  chunks_stop : (a : Chunked) (runs : List Run) → IsChunked text a runs → (r : Reading) → read start text ≡ r
      → StopsSo bytes (content (shifted place runs) (chunked_stop (body_input all) place a)) [] (stop_of e ([] ++ r.trailers) r.ending)
  chunks_stop (whole k trailers) runs x r is =
      let w = whole_read text k trailers runs x in
      let each : AllByRecursion IsTrailer trailers = subst (AllByRecursion IsTrailer) (sym x.3) x.2.0.trailers in
      let body = content (shifted place runs) (ended_at (place + k) (map trailer_header trailers)) in
      subst₂ (λ (l : List ℕ) (ending : Ending). StopsSo bytes body [] (stop_of e l ending))
      (sym w.1 ∙ ap (λ (r : Reading). r.trailers) is) (sym w.0 ∙ ap (λ (r : Reading). r.ending) is)
      (trailers, each, refl, refl, (place + k, refl, omega (arith, x.1, within, length-drop place bytes), sym (drop-drop k place bytes)))
  chunks_stop unfinished runs x r is =
      subst (λ (ending : Ending). StopsSo bytes (content (shifted place runs) (open_or_cut e)) [] (stop_of e ([] ++ r.trailers) ending))
      (sym (unfinished_read text runs x) ∙ ap (λ (r : Reading). r.ending) is) (lacks_so bytes (shifted place runs) e)
  chunks_stop not_chunked runs x r is =
      subst (λ (ending : Ending). StopsSo bytes (content (shifted place runs) broken) [] (stop_of e ([] ++ r.trailers) ending))
      (sym (broken_read text runs x) ∙ ap (λ (r : Reading). r.ending) is) refl

  -- the body of a kind is what the bytes behind its place tell of all of it
  pub body_tells : (kind : BodyKind) (body : Body) → IsBodyOf (body_input all) kind place body → Tells bytes body (told e (whole_rest kind) text)
  body_tells no_body body is =
      subst (λ (b : Body). Tells bytes b (told e no_rest text)) (sym is) (refl, ends_so bytes [] place text within refl)
  body_tells (fixed_body n) body is =
      subst (λ (b : Body). Tells bytes b (told e (whole_rest (fixed_body n)) text)) (sym is) (by_length (n == 0) refl)
    where
      by_length : (t : Bool) → (n == 0) ≡ t → Tells bytes (fixed_content (body_input all) place n) (told e (if t then no_rest else fixed_rest n) text)
      by_length true none =
          let there : ℕ → Told = λ k. record { body = take k text; stop = stops_before [] (drop k text) } in
          let part : Told = record { body = text; stop = lacking_more e } in
          let zero_is : n ≡ 0 = eqb-true n 0 none in
          subst (Tells bytes (fixed_content (body_input all) place n))
          (cond-true (nat_le n (length text)) (there n) part (le-leb n (length text) (omega (arith, zero_is))) ∙ ap there zero_is) (fixed_tells n)
      by_length false some = fixed_tells n
  body_tells chunked_body body (a, runs, x, is) =
      subst (λ (b : Body). Tells bytes b (told e (chunks_rest start []) text)) (sym is)
      (run_bytes_shifted bytes place runs ∙ sym (runs_read text a runs x), chunks_stop a runs x (read start text) refl)
  body_tells raw_body body is = subst (λ (b : Body). Tells bytes b (told e raw_rest text)) (sym is) (raw_tells e)

positive : (n : ℕ) → (n == 0) ≡ false → 0 < n
positive zero some = absurd (true≢false some)
positive (suc n) some = omega arith

-- a body that isn't empty has something left
pub whole_sound : (kind : BodyKind) → IsSound (whole_rest kind)
whole_sound no_body = tt
whole_sound (fixed_body n) =
    cond_both (n == 0) no_rest (fixed_rest n) IsSound (λ _. tt) (positive n)
whole_sound chunked_body = tt
whole_sound raw_body = tt
