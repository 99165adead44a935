-- What is answered is the item of the open body, or no piece of one.
use Rattle.std.proofs.Common.{◌≡◌, ℕ, Bool, List, subst}
use Rattle.std.specs.Prelude.{Option, Some, None, Result, Ok, Err}
use Rattle.http_map.specs.HeaderMap.{Entries}
use Rattle.http_types.specs.declared.error.ParseError.{ParseError}
use Rattle.h1_payload.specs.Decoding.{Decoding}
use Rattle.h1_payload.specs.declared.item.DecodeError.{DecodeError}
use Rattle.h1_payload.specs.declared.item.DecodeError.TheVariants.{Invalid, NoMemory}
use Rattle.h1_payload.specs.declared.item.PayloadItem.{PayloadItem}
use Rattle.h1_payload.specs.declared.item.PayloadItem.TheVariants as items
use Rattle.h1_codec.specs.Kind.{Kind}
use Rattle.h1_codec.specs.Heads.{Search}
use Rattle.h1_codec.specs.declared.framed_message.Message.{Message}
use Rattle.h1_codec.specs.declared.server_piece.Piece.{Piece}
use Rattle.h1_codec.specs.ServerAnswers.{IsNoted, IsHeadGiven, IsHeadBeside, as_message}
use Rattle.h1_codec.specs.ServerPieces.{piece_of, IsDecodedPiece}
use Rattle.h1_codec.specs.Steps.{message_of, open_after, IsOpenStep, IsIdleStep}

module _ {I : Type 0} (left : Decoding) (before : Option Entries) (result : Result (Option (Message I)) ParseError) (after : Option Decoding) (now : Option Entries) where
  noted_item : (item : Result (Option PayloadItem) DecodeError) → IsNoted (piece_of item) (Some left) before result after now
      → (result ≡ message_of item) × (after ≡ open_after item left)
  noted_item (Ok (Some (items.Chunk bytes))) x = (x.0, x.1)
  noted_item (Ok (Some (items.Trailers entries))) x = (x.0, x.1)
  noted_item (Ok (Some items.Eof)) x = (x.0, x.1)
  noted_item (Ok None) x = (x.0, x.1)
  noted_item (Err Invalid) x = (x.0, x.1)
  noted_item (Err NoMemory) x = (x.0, x.1)

  -- a piece of the open body is the item that its decoder gives
  pub open_step : (d : Decoding) (bytes rest : List ℕ) (piece : Result (Option Piece) DecodeError) → IsDecodedPiece d bytes piece left rest
      → IsNoted piece (Some left) before result after now → IsOpenStep d bytes result after rest
  open_step d bytes rest piece (item, decoded, is) noted =
      let both = noted_item item (subst (λ (p : Result (Option Piece) DecodeError). IsNoted p (Some left) before result after now) is noted) in
      (item, left, decoded, both.0, both.1)

module _ {I : Type 0} (k : Kind I) (is_bare : Bool) (old new : Search) (bytes rest : List ℕ) (before : Option Entries) where
  -- a head is no piece of a body
  pub idle_step : (head : Result (Option I) ParseError) (body : Option Decoding) (now : Option Entries) → IsHeadGiven k is_bare old bytes head new body rest
      → IsHeadBeside head None before body now → IsIdleStep k old bytes (as_message head) body rest
  idle_step (Ok (Some item)) body now given beside = tt
  idle_step (Ok None) body now given beside = (given.0, beside.0, given.2)
  idle_step (Err e) body now given beside = given.1
