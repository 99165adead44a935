-- A head with which a buffer begins, without a search for its end.
use Rattle.std.proofs.Common.{◌≡◌, ℕ, ◌+◌, ◌<◌, ◌≤◌, List, [], ◌∷◌, ◌++◌, length, take, drop, map, flat_map, slice_range, All, refl, sym, ap, ◌∙◌, subst, arith, append-nil, append_assoc, length-append, length-drop}
use Rattle.std.proofs.Math.Seq.{take-append_seam}
use Rattle.std.proofs.lemmas.List.{take-append-drop, drop_all, length-take-le, length-map}
use Rattle.std.proofs.lemmas.List.Elements.{All-head, All-tail}
use Rattle.std.proofs.lemmas.Slice.{between_is}
use Rattle.bytes.proofs.Ranges.{slice_range_front}
use Rattle.httparse.specs.Ascii.{line_feed, space}
use Rattle.httparse.specs.Grammar.{is_uri_byte, LineEnd, print_end, print_blank, print_version, print_field, RequestHead, IsRequestHead, print_request, ReadsRequest}
use Rattle.httparse.specs.Spans.{span_bytes, header_bytes, name_and_value, IsHeaderWithin, IsRequestWithin, IsRequestAt, IsRequestOf}
use Rattle.httparse.specs.declared.spans.HeaderSpan.{HeaderSpan}
use Rattle.httparse.specs.declared.spans.RequestSpans.{RequestSpans}
use Rattle.httparse.proofs.GrammarLemmas.{print_request-append}
use Rattle.model_h1.specs.HeadPiece.{BeginsBlank, EndsBlank, IsHeadPiece}
use Rattle.h1_decoder.specs.WholeHead.{BeginsWithHead, IsWholeHeadAt}
use Rattle.model_h1.proofs.LineFeeds.{feeds, feeds-append, feeds-none, feeds-token, feeds-version, no_blank, header_lines-fields}
use Rattle.model_h1.proofs.HeadEnds.{EndsLate, late_text, late_section, ends_section}

-- ---- the head with which a buffer begins

-- a request line without its line end
abbrev request_line : RequestHead → List ℕ
request_line h = h.method ++ space ∷ h.target ++ space ∷ print_version h.minor

-- a head without empty lines in front, line by line
lines_of : (h : RequestHead) → h.blank ≡ [] → print_request h ≡ request_line h ++ (print_end h.line_end ++ (flat_map print_field h.fields ++ print_end h.last))
unfolding print_request
lines_of h none =
    let section = flat_map print_field h.fields ++ print_end h.last in
    ap (λ (blank : List LineEnd). print_blank blank ++ h.method ++ space ∷ h.target ++ space ∷ print_version h.minor ++ print_end h.line_end ++ section) none
    ∙ append_assoc (request_line h) (print_end h.line_end) section

-- its request line has no line feed
feeds-line : (h : RequestHead) → IsRequestHead h → feeds (request_line h) ≡ 0
feeds-line h is =
    omega (
      arith,
      feeds-append (h.method ++ space ∷ h.target) (space ∷ print_version h.minor),
      feeds-append h.method (space ∷ h.target),
      feeds-token h.method is.method.1,
      feeds-none is_uri_byte refl h.target is.target.1,
      feeds-version h.minor is.minor,
    )

module _ (bytes rest : List ℕ) (h : RequestHead) (reads : ReadsRequest bytes h rest) (begins : ¬ (BeginsBlank bytes)) where
  -- it has no empty lines in front
  none_before : h.blank ≡ []
  none_before = no_blank h.blank _ (subst (λ (text : List ℕ). ¬ (BeginsBlank text)) (reads.1 ∙ print_request-append h rest) begins)

  -- an empty line after a line feed ends no earlier than the head
  late : EndsLate bytes (length rest)
  late =
      let lines = flat_map print_field h.fields in
      let is = reads.0 in
      subst (λ (t : List ℕ). EndsLate t (length rest))
      (sym (reads.1 ∙ ap (λ (t : List ℕ). t ++ rest) (lines_of h none_before)
      ∙ append_assoc (request_line h) (print_end h.line_end ++ (lines ++ print_end h.last)) rest
      ∙ ap (λ (t : List ℕ). request_line h ++ t) (append_assoc (print_end h.line_end) (lines ++ print_end h.last) rest
      ∙ ap (λ (t : List ℕ). print_end h.line_end ++ t) (append_assoc lines (print_end h.last) rest))))
      (late_text (request_line h) _ (length rest) (feeds-line h is) (late_section h.line_end h.fields h.last rest is.fields))

  -- no part in front of it ends with an empty line
  none_shorter : (e : ℕ) → e < length (print_request h) → ¬ (EndsBlank (take e bytes))
  none_shorter e less (before, end, is) =
      let size : length bytes ≡ length (print_request h) + length rest = ap length reads.1 ∙ length-append (print_request h) rest in
      let split : bytes ≡ before ++ (line_feed ∷ print_end end ++ drop e bytes) =
      sym (take-append-drop e bytes) ∙ ap (λ xs. xs ++ drop e bytes) is ∙ append_assoc before (line_feed ∷ print_end end) (drop e bytes) in
      absurd (omega (arith, less, size, length-drop e bytes, late before end (drop e bytes) split))

  -- a head that the buffer begins with is its head piece
  front_piece : IsHeadPiece bytes 0 (length (print_request h))
  front_piece =
      let n = length (print_request h) in
      let front : slice_range bytes 0 n ≡ print_request h =
      between_is bytes 0 n ∙ ap (take n) reads.1 ∙ take-append_seam (print_request h) rest in
      record {
        ordered = omega arith;
        in_range = omega (arith, ap length reads.1, length-append (print_request h) rest);
        blank = ([], refl);
        begins = begins;
        ends = subst EndsBlank (sym (front ∙ lines_of h none_before)) (ends_section (request_line h) h.line_end h.fields h.last);
        first = λ e low less ends. none_shorter e less (subst EndsBlank (between_is bytes 0 e) ends);
      }

-- ---- the spans of a head in the piece that is cut off

-- spans within the first bytes cover the same of the whole
same_lines : (piece bytes : List ℕ) (n : ℕ) (spans : List HeaderSpan) → take n bytes ≡ piece → All (IsHeaderWithin n) spans
    → map (header_bytes piece) spans ≡ map (header_bytes bytes) spans
same_lines piece bytes n [] front within = refl
same_lines piece bytes n (s ∷ spans) front within =
    let here = All-head (IsHeaderWithin n) s spans within in
    let name : span_bytes piece s.name ≡ span_bytes bytes s.name = slice_range_front piece bytes s.name.start s.name.end n front here.0.1 in
    let value : span_bytes piece s.value ≡ span_bytes bytes s.value = slice_range_front piece bytes s.value.start s.value.end n front here.1.1 in
    let later = same_lines piece bytes n spans front (All-tail (IsHeaderWithin n) s spans within) in
    (λ i. (name i, value i) ∷ later i)

module _ (bytes : List ℕ) (fields : List HeaderSpan) (spans : RequestSpans) (within : IsRequestWithin bytes fields spans) where
  -- there are as many as fields
  field_count : (h : RequestHead) → IsRequestAt bytes fields spans h → length h.fields ≡ spans.headers
  field_count h at =
      sym (length-map h.fields name_and_value) ∙ sym (ap length at.fields) ∙ length-map (take spans.headers fields) (header_bytes bytes)
      ∙ length-take-le spans.headers fields within.section.count_fits

  -- the bytes begin with a head
  pub front_begins : IsRequestOf bytes fields spans → ¬ (BeginsBlank bytes) → length fields ≤ 96 → BeginsWithHead bytes
  front_begins (h, at) begins room = record {
    begins = begins;
    text = h;
    rest = drop spans.len bytes;
    reads = at.reads;
    few = omega (arith, field_count h at, within.section.count_fits, room);
  }

  -- the spans are those of a head that is the whole piece
  pub front_whole : IsRequestOf bytes fields spans → ¬ (BeginsBlank bytes) → length fields ≤ 96 → IsWholeHeadAt (take spans.len bytes) fields spans
  front_whole (h, at) begins room =
      let cut = take spans.len bytes in
      let size : length cut ≡ spans.len = length-take-le spans.len bytes within.section.len_fits in
      let text : cut ≡ print_request h =
      ap (λ (n : ℕ). take n bytes) at.len ∙ ap (take (length (print_request h))) at.reads.1 ∙ take-append_seam (print_request h) (drop spans.len bytes) in
      let reads : ReadsRequest cut h [] = (at.reads.0, text ∙ sym (append-nil (print_request h))) in
      let same = same_lines cut bytes spans.len (take spans.headers fields) refl within.section.headers_fit in
      let count = field_count h at in
      let cut_begins : ¬ (BeginsBlank cut) =
      λ (end, rest, is). begins (end, rest ++ drop spans.len bytes, sym (take-append-drop spans.len bytes) ∙ ap (λ xs. xs ++ drop spans.len bytes) is ∙ append_assoc (print_end end) rest (drop spans.len bytes)) in
      record {
        text = h;
        at = record {
          reads = subst (ReadsRequest cut h) (sym (drop_all spans.len cut (omega (arith, size)))) reads;
          len = at.len;
          method = slice_range_front cut bytes spans.method.start spans.method.end spans.len refl within.method.1 ∙ at.method;
          path = slice_range_front cut bytes spans.path.start spans.path.end spans.len refl within.path.1 ∙ at.path;
          version = at.version;
          fields = same ∙ at.fields;
        };
        whole = record {
          few = omega (arith, header_lines-fields cut h reads cut_begins, count, within.section.count_fits, room);
          reads = reads;
        };
      }

  -- this piece is the head piece of the bytes
  pub front_is_piece : IsRequestOf bytes fields spans → ¬ (BeginsBlank bytes) → IsHeadPiece bytes 0 spans.len
  front_is_piece (h, at) begins = subst (IsHeadPiece bytes 0) (sym at.len) (front_piece bytes (drop spans.len bytes) h at.reads begins)

-- the piece that was cut off, by its length
pub cut_piece : (buffer bytes front : List ℕ) (n : ℕ) → bytes ≡ buffer → take n bytes ≡ front → IsHeadPiece bytes 0 n → IsHeadPiece buffer 0 (length front)
cut_piece buffer bytes front n same cut piece =
    let size : n ≡ length front = sym (length-take-le n bytes piece.in_range) ∙ ap length cut in
    subst (IsHeadPiece buffer 0) size (subst (λ (xs : List ℕ). IsHeadPiece xs 0 n) same piece)

-- where the bytes begin with a head, one is their head piece
pub begins_piece : (bytes : List ℕ) → BeginsWithHead bytes → (end : ℕ) × IsHeadPiece bytes 0 end
begins_piece bytes b = (length (print_request b.text), front_piece bytes b.rest b.text b.reads b.begins)
