-- A body that is encoded piece by piece, as `TransferEncoding` has it: an empty piece ends one in chunks.
use Rattle.std.specs.Prelude.{ℕ, ◌-◌, Bool, true, false, ◌||◌, List, [], ◌∷◌, ◌++◌, length, take, ◌==◌}
use Rattle.model_h1.specs.Answer.{Shape, shape_none, shape_length, shape_chunked, shape_raw}
use Rattle.model_h1.specs.AnswerText.{chunk_text, last_chunk}
use Rattle.h1_encoder.specs.declared.encoder.Kind.{Kind}
use Rattle.h1_encoder.specs.declared.encoder.Kind.TheVariants.{Chunked, Length, Eof}

-- the body goes out as it is, in chunks, with whether the last one was written, or has a stated length, of which so
-- many bytes are missing
pub data Encoding : Type 0 where
  as_it_is : Encoding
  in_chunks : Bool → Encoding
  of_length : ℕ → Encoding

abbrev pub encoding_of : Kind → Encoding
encoding_of (Chunked ended) = in_chunks ended
encoding_of (Length missing) = of_length missing
encoding_of Eof = as_it_is

-- that of a body of this shape, of which nothing was written
abbrev pub first_encoding : Shape → Encoding
first_encoding shape_none = of_length 0
first_encoding (shape_length n) = of_length n
first_encoding shape_chunked = in_chunks false
first_encoding shape_raw = as_it_is

-- a chunk, or the last one where there are no bytes
abbrev pub chunk_or_last : List ℕ → List ℕ
chunk_or_last [] = last_chunk
chunk_or_last (b ∷ bytes) = chunk_text (b ∷ bytes)

-- the text of a piece: no byte beyond a stated length, and nothing behind the last chunk
abbrev pub encoded : Encoding → List ℕ → List ℕ
encoded as_it_is bytes = bytes
encoded (in_chunks true) bytes = []
encoded (in_chunks false) bytes = chunk_or_last bytes
encoded (of_length missing) bytes = take missing bytes

-- what it is behind that piece
abbrev pub behind : Encoding → List ℕ → Encoding
behind as_it_is bytes = as_it_is
behind (in_chunks ended) bytes = in_chunks (ended || (length bytes == 0))
behind (of_length missing) bytes = of_length (missing - length bytes)

-- whether the body is complete behind a piece: a raw one says so by an empty piece
abbrev pub is_complete : Encoding → List ℕ → Bool
is_complete as_it_is bytes = length bytes == 0
is_complete (in_chunks ended) bytes = ended
is_complete (of_length missing) bytes = missing == 0

-- the text that ends the body, where it isn't ended yet
abbrev pub end_of : Encoding → List ℕ
end_of (in_chunks false) = last_chunk
end_of _ = []

abbrev pub ended : Encoding → Encoding
ended (in_chunks _) = in_chunks true
ended encoding = encoding

-- how many bytes of a stated length are missing
abbrev pub missing_of : Encoding → ℕ
missing_of (of_length missing) = missing
missing_of _ = 0

-- the text of all pieces, and of what then ends the body
abbrev pub encoded_all : Encoding → List (List ℕ) → List ℕ
encoded_all encoding [] = end_of encoding
encoded_all encoding (piece ∷ pieces) = encoded encoding piece ++ encoded_all (behind encoding piece) pieces
