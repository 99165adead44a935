-- What a client's codecs answer, step by step.
use Rattle.std.proofs.Common.{◌≡◌, ℕ, Bool, List, sym, subst}
use Rattle.std.specs.Prelude.{Option, Some, None, Result, Ok, Err}
use Rattle.http_map.specs.HeaderMap.{Entries}
use Rattle.http_types.specs.declared.error.ParseError.{ParseError}
use Rattle.h1_decoder.specs.declared.response.ResponseItem.{ResponseItem}
use Rattle.h1_codec.specs.Heads.{Search}
use Rattle.h1_codec.specs.Kinds.{answers}
use Rattle.h1_payload.specs.Decoding.{Decoding}
use Rattle.h1_payload.specs.declared.item.DecodeError.{DecodeError}
use Rattle.h1_codec.specs.ServerAnswers.{IsNoted, IsHeadGiven, IsHeadBeside}
use Rattle.h1_codec.specs.ServerPieces.{IsDecodedPiece}
use Rattle.h1_codec.specs.Steps.{IsStepFrom, IsStep}
use Rattle.h1_codec.specs.declared.framed_message.Message.TheVariants.{Item}
use Rattle.h1_codec.specs.declared.server_piece.Piece.{Piece}
use Rattle.h1_codec.proofs.Stepping.{open_step, idle_step}
use Rattle.h1_codec.specs.ClientAnswers.{IsChunkStep}
use Rattle.h1_codec.specs.ClientPieces.{as_message, as_answered}
use Rattle.h1_codec.specs.ClientState.{client_standing}
use Rattle.h1_codec.specs.declared.client_state.Client.{Client}

module _ (old new : Search) (bytes rest : List ℕ) (was body : Option Decoding) where
  -- a head is no piece of a body
  pub item_step : (item : ResponseItem) → was ≡ None
      → IsStepFrom answers was old bytes (Ok (Some (Item item))) body rest
  item_step item none = subst (λ (b : Option Decoding). IsStepFrom answers b old bytes (Ok (Some (Item item))) body rest) (sym none) tt

module _ (is_head : Bool) (old new : Search) (bytes rest : List ℕ) (before now : Option Entries) (was body : Option Decoding) (none : was ≡ None) where
  -- nothing is answered
  pub none_step : (head : Result (Option ResponseItem) ParseError) → head ≡ Ok None → IsHeadGiven answers is_head old bytes head new body rest
      → IsHeadBeside head was before body now → IsStepFrom answers was old bytes (Ok None) body rest
  none_step head is given beside =
      let given' = subst (λ (h : Result (Option ResponseItem) ParseError). IsHeadGiven answers is_head old bytes h new body rest) is given in
      let beside' = subst (λ (h : Result (Option ResponseItem) ParseError). IsHeadBeside h was before body now) is beside in
      let alone : IsHeadBeside {I = ResponseItem} (Ok None) None before body now =
      subst (λ (b : Option Decoding). IsHeadBeside {I = ResponseItem} (Ok None) b before body now) none beside' in
      subst (λ (b : Option Decoding). IsStepFrom answers b old bytes (Ok None) body rest) (sym none)
      (idle_step answers is_head old new bytes rest before (Ok None) body now given' alone)

  -- the next head is refused
  pub error_step : (head : Result (Option ResponseItem) ParseError) (e : ParseError) → head ≡ Err e → IsHeadGiven answers is_head old bytes head new body rest
      → IsHeadBeside head was before body now → IsStepFrom answers was old bytes (Err e) body rest
  error_step head e is given beside =
      let given' = subst (λ (h : Result (Option ResponseItem) ParseError). IsHeadGiven answers is_head old bytes h new body rest) is given in
      let beside' = subst (λ (h : Result (Option ResponseItem) ParseError). IsHeadBeside h was before body now) is beside in
      let alone : IsHeadBeside {I = ResponseItem} (Err e) None before body now =
      subst (λ (b : Option Decoding). IsHeadBeside {I = ResponseItem} (Err e) b before body now) none beside' in
      subst (λ (b : Option Decoding). IsStepFrom answers b old bytes (Err e) body rest) (sym none)
      (idle_step answers is_head old new bytes rest before (Err e) body now given' alone)

module _ (old : Client) (d left : Decoding) (body : Option Decoding) (trailers : Option Entries) (bytes rest : List ℕ) (open_is : old.body ≡ Some d) where
  stepped : (result : Result (Option (Option (List ℕ))) ParseError)
      → IsStep answers (client_standing old) bytes (as_message result) (record { search = old.heads; body = body }) rest
      → IsChunkStep old bytes (as_answered result) (record old { body = body; trailers = trailers }) rest
  stepped (Ok (Some piece)) x = x
  stepped (Ok None) x = x
  stepped (Err e) x = x

  pub chunk_step : (piece : Result (Option Piece) DecodeError) (result : Result (Option (Option (List ℕ))) ParseError)
      → IsDecodedPiece d bytes piece left rest → IsNoted piece (Some left) old.trailers (as_message result) body trailers
      → IsChunkStep old bytes (as_answered result) (record old { body = body; trailers = trailers }) rest
  chunk_step piece result decoded noted =
      stepped result
      (subst (λ (b : Option Decoding). IsStepFrom answers b old.heads bytes (as_message result) body rest) (sym open_is)
      (open_step left old.trailers (as_message result) body trailers d bytes rest piece decoded noted))
