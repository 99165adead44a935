-- Pieces that are written as chunks are the segments of a body in chunks.
use Rattle.std.proofs.Common.{◌≡◌, ℕ, ◌^◌, ◌<◌, List, [], ◌∷◌, ◌++◌, length, true, refl, sym, ap, ◌∙◌, arith, append_assoc, codes, inl, lit<, lit≤}
use Rattle.std.specs.Prelude.{flat_map}
use Rattle.std.specs.List.{AllByRecursion}
use Rattle.std.specs.Fmt.{digits}
use Rattle.std.proofs.lemmas.Fmt.{digits_is_IsNumeral}
use Rattle.httparse.specs.Ascii.{crlf_bytes}
use Rattle.model_h1.specs.ChunkedText.{SaysSize, Segment, IsSegment, segment_text, ChunkedText, chunked_text, IsChunkedText, content}
use Rattle.model_h1.specs.Place.{start}
use Rattle.model_h1.specs.Reading.{ends_before, read}
use Rattle.model_h1.proofs.Complete.{text_read}
use Rattle.model_h1.specs.AnswerText.{chunk_text, last_chunk}
use Rattle.model_client.specs.RequestText.{joined}

abbrev pub AreShort : List (List ℕ) → Type 0
AreShort pieces = AllByRecursion (λ (piece : List ℕ). length piece < 2 ^ 64) pieces

abbrev pub written : List (List ℕ) → List ℕ
written pieces = flat_map chunk_text pieces ++ last_chunk

-- the segments of the pieces that have bytes
abbrev segments_of : List (List ℕ) → List Segment
segments_of [] = []
segments_of ([] ∷ pieces) = segments_of pieces
segments_of ((b ∷ bytes) ∷ pieces) =
    record { line = digits 16 true (length (b ∷ bytes)) ++ crlf_bytes; bytes = b ∷ bytes } ∷ segments_of pieces

abbrev tree : List (List ℕ) → ChunkedText
tree pieces = record { segments = segments_of pieces; last = codes "0\r\n"; trailers = [] }

-- a size line of digits alone
says_size : (n : ℕ) → n < 2 ^ 64 → SaysSize (digits 16 true n ++ crlf_bytes) n
says_size n fits =
    let numeral = digits_is_IsNumeral 16 true (lit≤ tt) (lit≤ tt) n (omega (arith, fits)) in
    record {
      digits = digits 16 true n;
      blanks = [];
      extension = [];
      spelled = refl;
      hexadecimal = numeral.0.1;
      says = numeral.1;
      fits = fits;
      blank = refl;
      well_formed = inl refl;
    }

pub says_none : SaysSize (codes "0\r\n") 0
says_none = record {
  digits = codes "0";
  blanks = [];
  extension = [];
  spelled = refl;
  hexadecimal = (lit< tt, tt);
  says = refl;
  fits = lit< tt;
  blank = refl;
  well_formed = inl refl;
}

are_segments : (pieces : List (List ℕ)) → AreShort pieces → AllByRecursion IsSegment (segments_of pieces)
are_segments [] short = tt
are_segments ([] ∷ pieces) short = are_segments pieces short.1
are_segments ((b ∷ bytes) ∷ pieces) short = ((says_size (length (b ∷ bytes)) short.0, omega arith), are_segments pieces short.1)

segments_text : (pieces : List (List ℕ)) → flat_map segment_text (segments_of pieces) ≡ flat_map chunk_text pieces
segments_text [] = refl
segments_text ([] ∷ pieces) = segments_text pieces
segments_text ((b ∷ bytes) ∷ pieces) =
    (λ i. append_assoc (digits 16 true (length (b ∷ bytes))) crlf_bytes (b ∷ bytes ++ crlf_bytes) i ++ segments_text pieces i)

segments_bytes : (pieces : List (List ℕ)) → flat_map (λ s. s.bytes) (segments_of pieces) ≡ joined pieces
segments_bytes [] = refl
segments_bytes ([] ∷ pieces) = segments_bytes pieces
segments_bytes ((b ∷ bytes) ∷ pieces) = ap (λ (l : List ℕ). b ∷ bytes ++ l) (segments_bytes pieces)

is_tree : (pieces : List (List ℕ)) → AreShort pieces → IsChunkedText (tree pieces)
is_tree pieces short = record {
  segments = are_segments pieces short;
  last = says_none;
  trailers = tt;
  lines = lit≤ tt;
  room = lit≤ tt;
}

tree_text : (pieces : List (List ℕ)) → chunked_text (tree pieces) ≡ written pieces
tree_text pieces = ap (λ (l : List ℕ). l ++ last_chunk) (segments_text pieces)

pub written_body : (pieces : List (List ℕ)) → AreShort pieces
    → (t : ChunkedText) × IsChunkedText t × (chunked_text t ≡ written pieces) × (content t ≡ joined pieces) × (t.trailers ≡ [])
written_body pieces short = (tree pieces, is_tree pieces short, tree_text pieces, segments_bytes pieces, refl)

-- the pieces without an end
pub written_front : (pieces : List (List ℕ)) → AreShort pieces
    → (segments : List Segment) × AllByRecursion IsSegment segments × (flat_map segment_text segments ≡ flat_map chunk_text pieces)
    × (flat_map (λ s. s.bytes) segments ≡ joined pieces)
written_front pieces short = (segments_of pieces, are_segments pieces short, segments_text pieces, segments_bytes pieces)

pub written_read : (pieces : List (List ℕ)) (rest : List ℕ) → AreShort pieces
    → read start (written pieces ++ rest) ≡ record { body = joined pieces; trailers = []; ending = ends_before rest }
written_read pieces rest short =
    ap (λ (l : List ℕ). read start (l ++ rest)) (sym (tree_text pieces))
    ∙ text_read (tree pieces) rest (is_tree pieces short)
    ∙ ap (λ (l : List ℕ). record { body = l; trailers = []; ending = ends_before rest }) (segments_bytes pieces)
