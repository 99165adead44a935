-- The text of a body is read as its bytes, its trailers and its end.
use Rattle.std.proofs.Common.{◌≡◌, ℕ, ◌+◌, ◌-◌, ◌<◌, List, [], ◌∷◌, ◌++◌, length, refl, ap, ap₂, ◌∙◌, arith, append_assoc, append-nil}
use Rattle.std.specs.List.{flat_map, AllByRecursion}
use Rattle.std.proofs.lemmas.Bool.{ne_eqb, eq-eqb, cond-true, cond-false}
use Rattle.httparse.specs.Ascii.{crlf_bytes}
use Rattle.model_h1.specs.ChunkedText.{Segment, IsSegment, segment_text, section_text, ChunkedText, chunked_text, IsChunkedText, content}
use Rattle.model_h1.specs.Place.{in_bytes, bytes_end, bytes_cr, start, after_line}
use Rattle.model_h1.specs.Reading.{ends_before, with_bytes, read}
use Rattle.model_h1.proofs.ReadSteps.{read_quiet, read_body_byte, with_bytes-append}
use Rattle.model_h1.proofs.SizeLines.{size_line_read}
use Rattle.model_h1.proofs.TrailerLines.{section_read}

-- the bytes of a chunk
pub bytes_read : (bytes : List ℕ) (more : ℕ) (rest : List ℕ) → length bytes ≡ more + 1
    → read (in_bytes more) (bytes ++ rest) ≡ with_bytes bytes (read bytes_end rest)
bytes_read [] more rest sized = absurd (omega arith)
bytes_read (b ∷ []) more rest sized =
    read_body_byte more b rest
    ∙ ap (λ s. with_bytes (b ∷ []) (read s rest)) (cond-true _ bytes_end (in_bytes (more - 1)) (eq-eqb more 0 (omega arith)))
bytes_read (b ∷ c ∷ bytes) more rest sized =
    read_body_byte more b (c ∷ (bytes ++ rest))
    ∙ ap (λ s. with_bytes (b ∷ []) (read s (c ∷ (bytes ++ rest)))) (cond-false _ bytes_end (in_bytes (more - 1)) (ne_eqb more 0 (omega arith)))
    ∙ ap (with_bytes (b ∷ [])) (bytes_read (c ∷ bytes) (more - 1) rest (omega arith))

-- CR LF behind them
bytes_end_read : (rest : List ℕ) → read bytes_end (crlf_bytes ++ rest) ≡ read start rest
bytes_end_read rest =
    read_quiet bytes_end bytes_cr 13 (10 ∷ rest) tt refl ∙ read_quiet bytes_cr start 10 rest tt refl

-- a segment
segment_read : (s : Segment) (rest : List ℕ) → IsSegment s → read start (segment_text s ++ rest) ≡ with_bytes s.bytes (read start rest)
segment_read s rest ok =
    let size = length s.bytes in
    let some : 0 < size = ok.1 in
    let behind = s.bytes ++ (crlf_bytes ++ rest) in
    let regrouped : segment_text s ++ rest ≡ s.line ++ behind = simp append_assoc in
    let enters : after_line size ≡ in_bytes (size - 1) = cond-false _ _ _ (ne_eqb size 0 (omega arith)) in
    ap (read start) regrouped
    ∙ size_line_read s.line size behind ok.0
    ∙ ap (λ p. read p behind) enters
    ∙ bytes_read s.bytes (size - 1) (crlf_bytes ++ rest) (omega arith)
    ∙ ap (with_bytes s.bytes) (bytes_end_read rest)

-- segments
segments_read : (segments : List Segment) (rest : List ℕ) → AllByRecursion IsSegment segments
    → read start (flat_map segment_text segments ++ rest) ≡ with_bytes (flat_map (λ (s : Segment). s.bytes) segments) (read start rest)
segments_read [] rest ok = refl
segments_read (s ∷ segments) rest ok =
    let behind = flat_map segment_text segments ++ rest in
    ap (read start) (append_assoc (segment_text s) (flat_map segment_text segments) rest)
    ∙ segment_read s behind ok.0
    ∙ ap (with_bytes s.bytes) (segments_read segments rest ok.1)
    ∙ with_bytes-append s.bytes (flat_map (λ (s : Segment). s.bytes) segments) (read start rest)

-- the text of a body is read as its bytes, its trailers and its end
pub text_read : (t : ChunkedText) (rest : List ℕ) → IsChunkedText t
    → read start (chunked_text t ++ rest) ≡ record { body = content t; trailers = section_text t.trailers; ending = ends_before rest }
text_read t rest ok =
    let behind = section_text t.trailers ++ (crlf_bytes ++ rest) in
    let regrouped : chunked_text t ++ rest ≡ flat_map segment_text t.segments ++ (t.last ++ behind) = simp append_assoc in
    ap (read start) regrouped
    ∙ segments_read t.segments (t.last ++ behind) ok.segments
    ∙ ap (with_bytes (content t)) (size_line_read t.last 0 behind ok.last ∙ section_read t.trailers rest ok.trailers ok.lines ok.room)
    ∙ ap₂ (λ (b s : List ℕ). record { body = b; trailers = s; ending = ends_before rest }) (append-nil (content t))
    (append-nil (section_text t.trailers))
