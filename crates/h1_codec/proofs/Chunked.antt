-- What is promised of a piece of a body, by the piece that its decoder gives.
use Rattle.std.proofs.Common.{◌≡◌, ℕ, List, refl, sym, ap, ◌∙◌, subst}
use Rattle.std.specs.Prelude.{Option, Some, None, Result, Ok, Err}
use Rattle.http_map.specs.HeaderMap.{Entries}
use Rattle.http_types.specs.declared.error.ParseError.{ParseError}
use Rattle.h1_codec.specs.Kinds.{answers}
use Rattle.h1_payload.specs.Decoding.{Decoding}
use Rattle.h1_payload.specs.declared.item.DecodeError.{DecodeError}
use Rattle.h1_codec.specs.ServerAnswers.{IsNexted, IsNoted}
use Rattle.h1_codec.specs.FramedMessages.{Standing}
use Rattle.h1_codec.specs.ServerPieces.{IsPiece}
use Rattle.h1_codec.specs.declared.server_piece.Piece.{Piece}
use Rattle.h1_codec.proofs.OpenBodies.{piece_came}
use Rattle.h1_codec.specs.ClientAnswers.{IsChunked}
use Rattle.h1_codec.specs.ClientPieces.{as_message, as_answered}
use Rattle.h1_codec.specs.ClientState.{client_standing}
use Rattle.h1_codec.specs.declared.client_state.Client.{Client}
use Rattle.h1_codec.specs.declared.client_error.ClientError.TheVariants.{Parse, Misplaced}

-- the other codec reads what comes next
pub chunk_misplaced : (c : Client) (bytes : List ℕ) → c.body ≡ None → IsChunked c bytes (Err Misplaced) c bytes
chunk_misplaced c bytes none = record {
  goes_on = tt;
  waiting = λ e. absurd (cc e);
  refused = λ known seen said reads. tt;
  misplaced = (λ e. none, λ x. refl);
  some = tt;
  ended = tt;
  lacking = λ e. absurd (cc e);
  left = (refl, refl);
  seen = tt;
  trailers = tt;
  noted = (refl, refl);
  asking = refl;
  limit = refl;
}

module _ (old : Client) (d : Decoding) (body : Option Decoding) (trailers : Option Entries) (bytes rest : List ℕ) (open_is : old.body ≡ Some d) where
  abbrev Nexted : Result (Option (Option (List ℕ))) ParseError → Type 0
  Nexted result = IsNexted answers old.is_head (client_standing old) bytes old.trailers (as_message result) (record { search = old.heads; body = body }) rest trailers

  no_none : old.body ≡ None → ⊥
  no_none none = let never : ◌≡◌ {A = Option Decoding} (Some d) None = sym open_is ∙ none in cc never

  chunked : (result : Result (Option (Option (List ℕ))) ParseError) → Nexted result
      → IsChunked old bytes (as_answered result) (record old { body = body; trailers = trailers }) rest
  chunked (Ok (Some piece)) x = record {
    goes_on = x.goes_on;
    waiting = λ e. absurd (cc e);
    refused = tt;
    misplaced = (λ e. absurd (cc e), λ none. absurd (no_none none));
    some = x.some;
    ended = x.ended;
    lacking = tt;
    left = tt;
    seen = x.looked;
    trailers = x.trailers;
    noted = (refl, refl);
    asking = refl;
    limit = x.limit;
  }
  chunked (Ok None) x = record {
    goes_on = x.goes_on;
    waiting = λ e. x.waiting refl;
    refused = tt;
    misplaced = (λ e. absurd (cc e), λ none. absurd (no_none none));
    some = tt;
    ended = tt;
    lacking = tt;
    left = tt;
    seen = x.looked;
    trailers = x.trailers;
    noted = (refl, refl);
    asking = refl;
    limit = x.limit;
  }
  chunked (Err e) x = record {
    goes_on = tt;
    waiting = λ is. absurd (cc is);
    refused = λ known. x.refusing (λ is. known (ap Parse is));
    misplaced = (λ is. absurd (cc is), λ none. absurd (no_none none));
    some = tt;
    ended = tt;
    lacking = λ is.
        let lacks = x.lacking (cc is) in
        (λ i. record old { body = ap (λ (s : Standing). s.body) lacks.0 i; trailers = x.kept i }, lacks.1);
    left = (x.left, x.kept);
    seen = tt;
    trailers = tt;
    noted = (refl, refl);
    asking = refl;
    limit = x.limit;
  }

  pub piece_chunked : (left : Decoding) (piece : Result (Option Piece) DecodeError) (result : Result (Option (Option (List ℕ))) ParseError)
      → IsPiece d bytes piece left rest → IsNoted piece (Some left) old.trailers (as_message result) body trailers
      → IsChunked old bytes (as_answered result) (record old { body = body; trailers = trailers }) rest
  piece_chunked left piece result is noted =
      chunked result
      (subst (λ (b : Option Decoding). IsNexted answers old.is_head (record { search = old.heads; body = b }) bytes old.trailers (as_message result) (record { search = old.heads; body = body }) rest trailers)
      (sym open_is) (piece_came answers old.is_head old.heads d left bytes rest old.trailers piece (as_message result) body trailers is noted))
