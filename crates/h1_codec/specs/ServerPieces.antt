-- What the next piece of a body is.
use Rattle.std.specs.Prelude.{◌≡◌, ℕ, ◌<◌, true, List, [], ◌++◌, length, Option, Some, None, Result, Ok, Err, IfSome, unwrap_or}
use Rattle.http_framing.specs.AnyPieces.{GoesOn}
use Rattle.http_map.specs.HeaderMap.{Entries}
use Rattle.model_h1.specs.Reading.{ends_before}
use Rattle.h1_payload.specs.Decoding.{Decoding, Reads, given, IsDecoded, IsWaiting, IsRefused}
use Rattle.h1_payload.specs.declared.item.DecodeError.{DecodeError}
use Rattle.h1_payload.specs.declared.item.DecodeError.TheVariants.{Invalid, NoMemory}
use Rattle.h1_payload.specs.declared.item.PayloadItem.{PayloadItem}
use Rattle.h1_payload.specs.declared.item.PayloadItem.TheVariants as items
use Rattle.h1_codec.specs.declared.server_piece.Piece.{Piece}
use Rattle.h1_codec.specs.declared.server_piece.Piece.TheVariants.{Bytes, End}

-- the body ends in front of the rest, with these trailers
pub record IsEnd (old : Decoding) (bytes rest : List ℕ) (trailers : Option Entries) : Type 0 where
  pub reads : (z : List ℕ) → Reads old (bytes ++ z) (record { body = []; trailers = unwrap_or trailers []; ending = ends_before (rest ++ z) })
  pub some : IfSome trailers (λ entries. 0 < length entries)

-- bytes of the body, its end, nothing yet, or why there is none
abbrev pub IsPiece : Decoding → List ℕ → Result (Option Piece) DecodeError → Decoding → List ℕ → Type 0
IsPiece old bytes (Ok (Some (Bytes b))) new rest = GoesOn Reads given old bytes (λ p. record p { body = b ++ p.body }) new rest × (0 < length b)
IsPiece old bytes (Ok (Some (End trailers))) new rest = IsEnd old bytes rest trailers
IsPiece old bytes (Ok None) new rest = GoesOn Reads given old bytes (λ p. p) new rest × IsWaiting old bytes
IsPiece old bytes (Err Invalid) new rest = IsRefused old bytes × (new.is_broken ≡ true) × (rest ≡ bytes)
IsPiece old bytes (Err NoMemory) new rest = (new ≡ old) × (rest ≡ bytes)

-- an item of a body as a piece of it: trailers come with the end
abbrev pub piece_of : Result (Option PayloadItem) DecodeError → Result (Option Piece) DecodeError
piece_of (Ok (Some (items.Chunk bytes))) = Ok (Some (Bytes bytes))
piece_of (Ok (Some (items.Trailers entries))) = Ok (Some (End (Some entries)))
piece_of (Ok (Some items.Eof)) = Ok (Some (End None))
piece_of (Ok None) = Ok None
piece_of (Err error) = Err error

-- the piece is the item that a decoder of bodies gives
abbrev pub IsDecodedPiece : Decoding → List ℕ → Result (Option Piece) DecodeError → Decoding → List ℕ → Type 0
IsDecodedPiece old bytes piece new rest =
    (item : Result (Option PayloadItem) DecodeError) × IsDecoded old bytes item new rest × (piece ≡ piece_of item)
