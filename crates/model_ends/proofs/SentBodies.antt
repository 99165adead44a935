-- A body stands in the bytes as it was sent, whole or as far as it came.
use Rattle.std.proofs.Common.{◌≡◌, ℕ, ◌+◌, ◌-◌, Bool, true, false, List, [], ◌++◌, length, take, drop, map, slice_range, None, refl, sym, ap, ◌∙◌, subst, arith, append-nil, length-append, codes, lit≤}
use Rattle.std.specs.Prelude.{flat_map}
use Rattle.std.specs.List.{AllByRecursion}
use Rattle.std.proofs.Math.Seq.{take-append_seam}
use Rattle.std.proofs.lemmas.List.{drop_at}
use Rattle.model_h1.specs.ChunkedText.{Segment, IsSegment, segment_text, ChunkedText, IsChunkedText, content}
use Rattle.model_h1.specs.Chunked.{unfinished, whole, IsChunked, Spells}
use Rattle.model_h1.specs.Runs.{Run, segment_runs, cut_runs, run_bytes}
use Rattle.model_h1.proofs.Agreement.{runs_read, runs_hold}
use Rattle.model_h1.proofs.Complete.{text_read}
use Rattle.model_h1.proofs.WalkedRuns.{cut_segments}
use Rattle.model_h1.specs.Place.{start}
use Rattle.model_h1.specs.Reading.{read}
use Rattle.model_h1.specs.Request.{BodyKind, no_body, fixed_body, chunked_body, raw_body}
use Rattle.model_h1.specs.AnswerText.{last_chunk}
use Rattle.model_h1.specs.Parse.{Input, content as body_content, Stop, ended_at, open_or_cut, run_between, fixed_content, shifted, trailer_header, IsBodyOf}
use Rattle.model_h1.proofs.RunLemmas.{run_bytes_shifted, run_bytes_between, runs_more, chunked_ordered}
use Rattle.model_h1.proofs.BodyLemmas.{input}
use Rattle.model_h1.proofs.BodyGrowth.{fixed_whole, fixed_part}
use Rattle.model_ends.specs.SentAnswer.{IsBodyText, IsBodyFront, IsBodySent, stop_of}
use Rattle.model_ends.proofs.WrittenPieces.{says_none}

-- the body at the place, which stops so, and the bytes that it carries
pub record Stands (i : Input) (kind : BodyKind) (place : ℕ) (stop : Stop) (carried : List ℕ) : Type 0 where
  pub runs : List Run
  pub is : IsBodyOf i kind place (body_content runs stop)
  pub carries : run_bytes i.bytes runs ≡ carried

module _ (ended : Bool) (size : ℕ) where
  abbrev input_of : List ℕ → Input
  input_of bytes = input bytes None ended size

  -- ---- whole bodies

  module _ (front text rest : List ℕ) where
    follows : drop (length front) (front ++ (text ++ rest)) ≡ text ++ rest
    follows = drop_at front (text ++ rest) (length front) refl

    long : length (front ++ (text ++ rest)) ≡ length front + (length text + length rest)
    long = length-append front (text ++ rest) ∙ ap (λ n. length front + n) (length-append text rest)

    here : slice_range (front ++ (text ++ rest)) (length front) (length front + length text) ≡ text
    here =
        let n : length front + length text - length front ≡ length text = omega arith in
        ap (λ k. take k (drop (length front) (front ++ (text ++ rest)))) n ∙ ap (take (length text)) follows ∙ take-append_seam text rest

    chunks_stand : (t : ChunkedText) → Spells text t → t.trailers ≡ []
        → Stands (input_of (front ++ (text ++ rest))) chunked_body (length front) (ended_at (length front + length text) []) (content t)
    chunks_stand t spells none =
        let bytes = front ++ (text ++ rest) in
        let runs = segment_runs 0 t.segments in
        let cut : take (length text) (text ++ rest) ≡ text = take-append_seam text rest in
        let is_chunked : IsChunked (text ++ rest) (whole (length text) t.trailers) runs =
        (t, omega (arith, length-append text rest), subst (λ l. Spells l t) (sym cut) spells, refl, refl) in
        record {
          runs = shifted (length front) runs;
          is = (
            whole (length text) t.trailers,
            runs,
            subst (λ l. IsChunked l (whole (length text) t.trailers) runs) (sym follows) is_chunked,
            ap (λ l. body_content (shifted (length front) runs) (ended_at (length front + length text) (map trailer_header l))) (sym none),
          );
          carries =
              run_bytes_shifted bytes (length front) runs ∙ ap (λ l. run_bytes l runs) follows
              ∙ sym (runs_read (text ++ rest) (whole (length text) t.trailers) runs is_chunked)
              ∙ ap (λ l. (read start (l ++ rest)).body) spells.1 ∙ ap (λ r. r.body) (text_read t rest spells.0);
        }

    -- a body of a length
    length_stands : (n : ℕ) → length text ≡ n
        → Stands (input_of (front ++ (text ++ rest))) (fixed_body n) (length front) (ended_at (length front + length text) []) text
    length_stands n is =
        let bytes = front ++ (text ++ rest) in
        record {
          runs = run_between (length front) (length front + length text);
          is = sym (ap (λ k. fixed_content (input_of bytes) (length front) k) (sym is)
              ∙ fixed_whole bytes None ended size (length front) (length text) (omega (arith, long)));
          carries = run_bytes_between bytes (length front) (length front + length text) ∙ here;
        }

    -- a body that says where it ends stands there
    body_stands : (kind : BodyKind) (carried : List ℕ) → IsBodyText kind text carried
        → Stands (input_of (front ++ (text ++ rest))) kind (length front) (ended_at (length front + length text) []) carried
    body_stands no_body carried is = record {
      runs = [];
      is = let e : length front + length text ≡ length front = omega (arith, ap length is.0) in ap (λ k. body_content [] (ended_at k [])) e;
      carries = sym is.1;
    }
    body_stands (fixed_body n) carried is =
        subst (Stands (input_of (front ++ (text ++ rest))) (fixed_body n) (length front) (ended_at (length front + length text) [])) (sym is.1) (length_stands n is.0)
    body_stands chunked_body carried is =
        subst (Stands (input_of (front ++ (text ++ rest))) chunked_body (length front) (ended_at (length front + length text) [])) is.3
        (chunks_stand is.0 (is.1, sym is.2) is.4)
    body_stands raw_body carried is = absurd is

  -- ---- bodies under way

  module _ (front text : List ℕ) where
    after : drop (length front) (front ++ text) ≡ text
    after = drop_at front text (length front) refl

    -- whole chunks without the last
    segments_stand : (segments : List Segment) → AllByRecursion IsSegment segments → flat_map segment_text segments ≡ text
        → Stands (input_of (front ++ text)) chunked_body (length front) (open_or_cut ended) (flat_map (λ (s : Segment). s.bytes) segments)
    segments_stand segments each is =
        let bytes = front ++ text in
        let t : ChunkedText = record { segments = segments; last = codes "0\r\n"; trailers = [] } in
        let well : IsChunkedText t = record { segments = each; last = says_none; trailers = tt; lines = lit≤ tt; room = lit≤ tt } in
        let spells : Spells (text ++ last_chunk) t = (well, ap (λ (l : List ℕ). l ++ last_chunk) (sym is)) in
        let runs = cut_runs (length text) (segment_runs 0 segments) in
        let begun : IsChunked text unfinished runs = (t, (last_chunk, omega arith, spells), refl) in
        let same : runs ≡ segment_runs 0 segments = cut_segments segments 0 (length text) (omega (arith, ap length is)) in
        record {
          runs = shifted (length front) runs;
          is = (unfinished, runs, subst (λ l. IsChunked l unfinished runs) (sym after) begun, refl);
          carries =
              run_bytes_shifted bytes (length front) runs ∙ ap (λ l. run_bytes l runs) after
              ∙ sym (runs_more text last_chunk 0 (length text) runs (omega arith) (chunked_ordered text unfinished runs begun))
              ∙ ap (run_bytes (text ++ last_chunk)) same ∙ runs_hold (text ++ last_chunk) t spells;
        }

    front_stands : (kind : BodyKind) (carried : List ℕ) → IsBodyFront kind text carried
        → Stands (input_of (front ++ text)) kind (length front) (open_or_cut ended) carried
    front_stands no_body carried is = absurd is
    front_stands raw_body carried is = absurd is
    front_stands (fixed_body n) carried is =
        let bytes = front ++ text in
        let size' = length-append front text in
        let n' : length bytes - length front ≡ length text = omega arith in
        record {
          runs = run_between (length front) (length bytes);
          is = sym (fixed_part bytes None ended size (length front) n (omega (arith, is.0)));
          carries =
              run_bytes_between bytes (length front) (length bytes)
              ∙ ap (λ k. take k (drop (length front) bytes)) n' ∙ ap (take (length text)) after
              ∙ ap (take (length text)) (sym (append-nil text)) ∙ take-append_seam text [] ∙ sym is.1;
        }
    front_stands chunked_body carried is =
        subst (Stands (input_of (front ++ text)) chunked_body (length front) (open_or_cut ended)) is.3 (segments_stand is.0 is.1 is.2)

  -- ---- both

  -- what was sent stands after a front, if nothing follows it while it is under way
  pub sent_stands : (front text rest : List ℕ) (is_whole : Bool) (kind : BodyKind) (carried : List ℕ) → (is_whole ≡ false → rest ≡ [])
      → IsBodySent is_whole kind text carried
      → Stands (input_of (front ++ (text ++ rest))) kind (length front) (stop_of is_whole ended (length front + length text)) carried
  sent_stands front text rest true kind carried last is = body_stands front text rest kind carried is
  sent_stands front text rest false kind carried last is =
      let same : text ≡ text ++ rest = sym (append-nil text) ∙ ap (λ (l : List ℕ). text ++ l) (sym (last refl)) in
      subst (λ t. Stands (input_of (front ++ t)) kind (length front) (open_or_cut ended) carried) same (front_stands front text kind carried is)
