-- What is heard of a server's parse is what its bytes say.
use Rattle.std.proofs.Common.{◌≡◌, ◌⊎◌, inl, inr, ℕ, zero, ◌+◌, ◌-◌, ◌<◌, ◌≤◌, leb, eqb, cond, Bool, true, false, List, [], ◌∷◌, length, take, drop, slice_range, refl, sym, ap, ◌∙◌, subst, arith, length-drop, take_all, ne_eqb}
use Rattle.std.specs.Prelude.{Option, Some, None, MatchOption, nat_le, ◌==◌, if◌then◌else◌}
use Rattle.std.proofs.lemmas.Bool.{cond_both, cond-true, cond-false, le-leb, lt-leb, cases_lt, eqb-true}
use Rattle.std.proofs.lemmas.List.{drop_all, drop-drop, length-take}
use Rattle.model_h1.specs.HeadPiece.{IsHeadPiece, HasNoHeadPiece}
use Rattle.model_h1.specs.Request.{BodyKind, no_body, fixed_body, chunked_body, raw_body, has_body, Fault, too_large, Reading, head_is, faulty}
use Rattle.model_h1.specs.RequestHead.{IsReadingWithin}
use Rattle.model_h1.specs.Runs.{Run, run_bytes}
use Rattle.model_h1.specs.Chunked.{Chunked, whole, unfinished, not_chunked, IsChunked}
use Rattle.model_h1.specs.Place.{start}
use Rattle.model_h1.specs.Reading.{Ending, goes_on, is_broken, ends_before, read}
use Rattle.model_h1.specs.Reading as read_as
use Rattle.model_h1.specs.Parse.{Input, Body, Stop, content, ended_at, still_open, run_between, shifted, chunked_stop, fixed_content, raw_content, IsBodyOf, IsBodyAfter, next_start, Message, AreMessages}
use Rattle.model_h1.proofs.Agreement.{whole_read, unfinished_read, broken_read, runs_read}
use Rattle.model_h1.proofs.RunLemmas.{run_bytes_shifted, run_bytes_between}
use Rattle.model_h1.proofs.ExampleLemmas.{nothing_behind}
use Rattle.model_state.specs.Kept.{Rest, no_rest, fixed_rest}
use Rattle.h1_payload.specs.Decoding.{reading_of}
use Rattle.h1_codec.specs.Heads.{payload_of}
use Rattle.h1_codec.specs.Kinds.{requests}
use Rattle.h1_codec.specs.FramedMessages.{Closing, no_end, an_end, a_fault, Part, closing_of, body_of, After}
use Rattle.model_codecs.specs.Heard.{closing_at, closing_in, part_in, heard_first, heard, refusal_first, refusal, part_read, IsHeardPart, AreHeard}

-- what is left of a body of so many bytes
abbrev if_some : ℕ → Rest
if_some n = if n == 0 then no_rest else fixed_rest n

module _ (bytes : List ℕ) (limit : ℕ) where
  -- more bytes may come
  abbrev pub all_so_far : Input
  all_so_far = record { bytes = bytes; upgraded = None; ended = false; hold_size = limit }

  -- ---- a body

  -- the run up to the end
  up_to_end : (place : ℕ) → run_bytes bytes (run_between place (length bytes)) ≡ drop place bytes
  up_to_end place =
      run_bytes_between bytes place (length bytes)
      ∙ take_all (length bytes - place) (drop place bytes) (omega (arith, length-drop place bytes))

  module _ (S : Type 0) (G : List ℕ → Type 0) (place : ℕ) where
    abbrev text : List ℕ
    text = drop place bytes

    -- what follows the body: these messages, or none
    abbrev Follows : Body → Type 0
    Follows body = MatchOption (next_start body) S (λ next. G (drop next bytes))

    abbrev Hears : Body → read_as.Reading → Type 0
    Hears body r = (part_in true bytes body ≡ part_read r) × After r.ending G S

    part_is : (runs : List Run) (stop : Stop) (r : read_as.Reading) → run_bytes bytes runs ≡ r.body → closing_at stop ≡ closing_of r.ending
        → part_in true bytes (content runs stop) ≡ part_read r
    part_is runs stop r body closing = λ i. record { bytes = body i; closing = closing i }

    raw_heard : (body : Body) → body ≡ raw_content all_so_far place → Follows body
        → Hears body (record { body = text; trailers = []; ending = goes_on })
    raw_heard body is on = subst (λ (b : Body). Follows b → Hears b (record { body = text; trailers = []; ending = goes_on })) (sym is)
        (λ stays. (part_is (run_between place (length bytes)) still_open (record { body = text; trailers = []; ending = goes_on }) (up_to_end place) refl, stays)) on

    -- a body of a length that has come whole
    full_heard : (n : ℕ) (r : read_as.Reading) → r.body ≡ take n text → r.ending ≡ ends_before (drop n text)
        → Follows (content (run_between place (place + n)) (ended_at (place + n) [])) → Hears (content (run_between place (place + n)) (ended_at (place + n) [])) r
    full_heard n r body ending on = (
      part_is (run_between place (place + n)) (ended_at (place + n) []) r
          (run_bytes_between bytes place (place + n) ∙ ap (λ (m : ℕ). take m text) (omega arith) ∙ sym body) (sym (ap closing_of ending)),
      subst (λ (e : Ending). After e G S) (sym ending) (subst G (sym (drop-drop n place bytes)) on),
    )

    part_heard : (n : ℕ) → length text < n
        → Follows (content (run_between place (length bytes)) still_open)
        → Hears (content (run_between place (length bytes)) still_open) (reading_of (fixed_rest n) text)
    part_heard n short on =
        let ending : (reading_of (fixed_rest n) text).ending ≡ goes_on = cond-false (leb n (length text)) (ends_before (drop n text)) goes_on (lt-leb n (length text) short) in (
          part_is (run_between place (length bytes)) still_open (reading_of (fixed_rest n) text)
              (up_to_end place ∙ sym (take_all n text (omega (arith, short)))) (sym (ap closing_of ending)),
          subst (λ (e : Ending). After e G S) (sym ending) on,
        )

    abbrev whole_fixed : ℕ → Body
    whole_fixed n = content (run_between place (place + n)) (ended_at (place + n) [])

    abbrev part_fixed : Body
    part_fixed = content (run_between place (length bytes)) still_open

    fixed_heard : (n : ℕ) (body : Body) → place ≤ length bytes → body ≡ fixed_content all_so_far place n → Follows body
        → Hears body (reading_of (if_some n) text)
    fixed_heard n body within is on =
        elim (cases_lt (length bytes) (place + n)) [
          | inl short ↦
              let same : body ≡ part_fixed = is ∙ cond-false (leb (place + n) (length bytes)) (whole_fixed n) part_fixed (lt-leb (place + n) (length bytes) short) in
              let less : length text < n = omega (arith, short, length-drop place bytes, within) in
              let some : eqb n 0 ≡ false = ne_eqb n 0 (omega (arith, less)) in
              subst (λ (b : Body). Follows b → Hears b (reading_of (if_some n) text)) (sym same)
              (λ stays. subst (λ (r : Rest). Hears part_fixed (reading_of r text)) (sym (cond-false (eqb n 0) no_rest (fixed_rest n) some)) (part_heard n less stays)) on
          | inr fits ↦
              let same : body ≡ whole_fixed n = is ∙ cond-true (leb (place + n) (length bytes)) (whole_fixed n) part_fixed (le-leb (place + n) (length bytes) fits) in
              let enough : n ≤ length text = omega (arith, fits, length-drop place bytes, within) in
              subst (λ (b : Body). Follows b → Hears b (reading_of (if_some n) text)) (sym same)
              (cond_both (eqb n 0) no_rest (fixed_rest n) (λ (r : Rest). Follows (whole_fixed n) → Hears (whole_fixed n) (reading_of r text))
              (λ e go.
              let none : n ≡ 0 = eqb-true n 0 e in
              full_heard n (reading_of no_rest text) (sym (ap (λ (m : ℕ). take m text) none)) (sym (ap (λ (m : ℕ). ends_before (drop m text)) none)) go)
              (λ e go.
              full_heard n (reading_of (fixed_rest n) text) refl
              (cond-true (leb n (length text)) (ends_before (drop n text)) goes_on (le-leb n (length text) enough)) go)) on
        ]

    chunks_heard : (body : Body) (chunked : Chunked) (runs : List Run) → IsChunked text chunked runs
        → body ≡ content (shifted place runs) (chunked_stop all_so_far place chunked) → Follows body → Hears body (read start text)
    chunks_heard body chunked runs x is on = subst (λ (b : Body). Follows b → Hears b (read start text)) (sym is) (by_kind chunked x) on
      where
        bytes_are : (c : Chunked) → IsChunked text c runs → run_bytes bytes (shifted place runs) ≡ (read start text).body
        bytes_are c y = run_bytes_shifted bytes place runs ∙ sym (runs_read text c runs y)

        by_kind : (c : Chunked) → IsChunked text c runs → Follows (content (shifted place runs) (chunked_stop all_so_far place c))
            → Hears (content (shifted place runs) (chunked_stop all_so_far place c)) (read start text)
        by_kind (whole k trailers) y go =
            let ending = (whole_read text k trailers runs y).0 in (
              part_is (shifted place runs) (chunked_stop all_so_far place (whole k trailers)) (read start text) (bytes_are (whole k trailers) y) (sym (ap closing_of ending)),
              subst (λ (e : Ending). After e G S) (sym ending) (subst G (sym (drop-drop k place bytes)) go),
            )
        by_kind unfinished y go =
            let ending = unfinished_read text runs y in (
              part_is (shifted place runs) still_open (read start text) (bytes_are unfinished y) (sym (ap closing_of ending)),
              subst (λ (e : Ending). After e G S) (sym ending) go,
            )
        by_kind not_chunked y go =
            let ending = broken_read text runs y in (
              part_is (shifted place runs) (chunked_stop all_so_far place not_chunked) (read start text) (bytes_are not_chunked y) (sym (ap closing_of ending)),
              subst (λ (e : Ending). After e G S) (sym ending) go,
            )

    pub body_heard : (kind : BodyKind) (body : Body) → place ≤ length bytes → IsBodyOf all_so_far kind place body → Follows body
        → IsHeardPart (body_of false (payload_of kind)) text (part_in (has_body kind) bytes body) G S
    body_heard no_body body within is on = (refl, subst Follows is on)
    body_heard (fixed_body n) body within is on = fixed_heard n body within is on
    body_heard chunked_body body within (chunked, runs, x, is) on = chunks_heard body chunked runs x is on
    body_heard raw_body body within is on = raw_heard body is on

  -- ---- messages

  -- a head stands in some bytes
  pub some_left : (place s e : ℕ) → IsHeadPiece (drop place bytes) s e → place ≤ length bytes
  some_left place s e piece = elim (cases_lt (length bytes) place) [
    | inl past ↦ absurd (nothing_behind s e (subst (λ (l : List ℕ). IsHeadPiece l s e) (drop_all place bytes (omega (arith, past))) piece))
    | inr within ↦ within
  ]

  pub messages_heard : (place : ℕ) (ms : List Message) → AreMessages all_so_far place ms → AreHeard requests false limit (drop place bytes) (heard bytes ms) (refusal ms)
  messages_heard place [] none = none
  messages_heard place (m ∷ ms) (x, on) = by_reading (λ n are. messages_heard n ms are) m.reading m.body x.reading x.body on
    where
      here : m.body_start ≤ length bytes
      here = omega (arith, x.body_start, x.piece.in_range, length-drop place bytes, some_left place x.start x.end x.piece)

      behind : drop m.body_start bytes ≡ drop x.end (drop place bytes)
      behind = ap (λ (n : ℕ). drop n bytes) x.body_start ∙ sym (drop-drop x.end place bytes)

      -- what follows, heard
      others : ((n : ℕ) → AreMessages all_so_far n ms → AreHeard requests false limit (drop n bytes) (heard bytes ms) (refusal ms))
          → (next : Option ℕ) → MatchOption next (ms ≡ []) (λ n. AreMessages all_so_far n ms)
          → MatchOption next ((heard bytes ms ≡ []) × (refusal ms ≡ None)) (λ n. AreHeard requests false limit (drop n bytes) (heard bytes ms) (refusal ms))
      others go None none = (ap (heard bytes) none, ap refusal none)
      others go (Some n) are = go n are

      by_reading : ((n : ℕ) → AreMessages all_so_far n ms → AreHeard requests false limit (drop n bytes) (heard bytes ms) (refusal ms))
          → (r : Reading) (body : Body) → IsReadingWithin limit (slice_range (drop place bytes) x.start x.end) r → IsBodyAfter all_so_far r m.body_start body
          → MatchOption (next_start body) (ms ≡ []) (λ n. AreMessages all_so_far n ms)
          → AreHeard requests false limit (drop place bytes) (heard_first bytes r body (heard bytes ms)) (refusal_first r (refusal ms))
      by_reading go (head_is h) body (inl (fits, reads)) is next = (
        x.start,
        x.end,
        x.piece,
        reads,
        subst
            (λ (l : List ℕ). IsHeardPart (body_of false (payload_of h.body)) l (part_in (has_body h.body) bytes body)
            (λ left. AreHeard requests false limit left (heard bytes ms) (refusal ms)) ((heard bytes ms ≡ []) × (refusal ms ≡ None)))
            behind
            (body_heard ((heard bytes ms ≡ []) × (refusal ms ≡ None)) (λ left. AreHeard requests false limit left (heard bytes ms) (refusal ms)) m.body_start
            h.body body here is (others go (next_start body) next)),
      )
      by_reading go (head_is h) body (inr (long, is_large)) is next = absurd (cc is_large)
      by_reading go (faulty fault) body (inl (fits, reads)) is next = (x.start, x.end, x.piece, inr reads)
      by_reading go (faulty fault) body (inr (long, is_large)) is next =
          let named : fault ≡ too_large = cc is_large in
          (x.start, x.end, x.piece, inl (omega (arith, long, length-take (x.end - x.start) (drop x.start (drop place bytes))), named))
