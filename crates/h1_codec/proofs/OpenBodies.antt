-- What is answered while a body is open, by the piece of it that came next.
use Rattle.std.proofs.Common.{◌≡◌, ℕ, ◌<◌, Bool, List, [], ◌∷◌, ◌++◌, length, refl, sym, ap, ◌∙◌, subst, append-nil, arith}
use Rattle.std.specs.Prelude.{Option, Some, None, Result, Ok, Err, unwrap_or}
use Rattle.http_map.specs.HeaderMap.{Entries}
use Rattle.http_types.specs.declared.error.ParseError.{ParseError}
use Rattle.http_types.specs.declared.error.ParseError.TheVariants as errors
use Rattle.model_h1.specs.Reading.{goes_on, is_broken, ends_before}
use Rattle.h1_payload.specs.Decoding.{Decoding, Payload, no_payload, IsRefused}
use Rattle.h1_payload.specs.Decoding as bodies
use Rattle.h1_payload.specs.declared.item.DecodeError.{DecodeError}
use Rattle.h1_payload.specs.declared.item.DecodeError.TheVariants.{Invalid, NoMemory}
use Rattle.h1_payload.proofs.Whole.{one_payload}
use Rattle.h1_codec.specs.Kind.{Kind}
use Rattle.h1_codec.specs.Heads.{Search, HasSeen, waits}
use Rattle.h1_codec.specs.declared.framed_message.Message.{Message}
use Rattle.h1_codec.specs.declared.framed_message.Message.TheVariants.{Chunk}
use Rattle.h1_codec.specs.declared.server_piece.Piece.{Piece}
use Rattle.h1_codec.specs.declared.server_piece.Piece.TheVariants.{Bytes, End}
use Rattle.h1_codec.specs.ServerAnswers.{IsNexted, IsNoted}
use Rattle.h1_codec.specs.FramedMessages.{Closing, closing_of, chunk_in_front, end_in_front, Part, Messages, part_of, After, AreMessages, Standing}
use Rattle.h1_codec.specs.ServerPieces.{IsPiece}

-- a body that says this, and after which nothing is read
stops_so : {I : Type 0} (said : Messages I) (p q : Payload) (G : List ℕ → Type 0) → said.part ≡ part_of p → p ≡ q
    → After p.ending G ((said.messages ≡ []) × (said.stop ≡ waits)) → ((on : After q.ending G ((said.messages ≡ []) × (said.stop ≡ waits))) → (said.messages ≡ []) × (said.stop ≡ waits))
    → ◌≡◌ {A = Messages I} said (record { part = part_of q; messages = []; stop = waits })
stops_so said p q G is same on stays =
    let none = stays (subst (λ (r : Payload). After r.ending G ((said.messages ≡ []) × (said.stop ≡ waits))) same on) in
    λ i. record { part = (is ∙ ap part_of same) i; messages = none.0 i; stop = none.1 i }

-- a chunk of one byte at least leaves what follows the body
closes_on : (b : List ℕ) (closing : Closing) → 0 < length b → chunk_in_front b closing ≡ closing
closes_on [] closing some = absurd (omega (arith, some))
closes_on (x ∷ b) closing some = refl

module _ {I : Type 0} (k : Kind I) (is_bare : Bool) (search : Search) (d left : Decoding) (bytes rest : List ℕ) (before : Option Entries) where
  abbrev at : Option Decoding → Standing
  at body = record { search = search; body = body }

  abbrev Nexted : Result (Option (Message I)) ParseError → Option Decoding → Option Entries → Type 0
  Nexted result body now = IsNexted k is_bare (at (Some d)) bytes before result (at body) rest now

  moved : (result r : Result (Option (Message I)) ParseError) (after a : Option Decoding) (now n : Option Entries) → result ≡ r → after ≡ a → now ≡ n
      → Nexted r a n → Nexted result after now
  moved result r after a now n e f g x =
      subst (λ (y : Result (Option (Message I)) ParseError). Nexted y after now) (sym e)
      (subst (λ (y : Option Decoding). Nexted r y now) (sym f) (subst (λ (y : Option Entries). Nexted r a y) (sym g) x))

  bytes_came : (b : List ℕ) → IsPiece d bytes (Ok (Some (Bytes b))) left rest → Nexted (Ok (Some (Chunk (Some b)))) (Some left) None
  bytes_came b (goes, some) = record {
    goes_on = λ z r (p, reads, is, on). (
      record p { body = b ++ p.body },
      goes z p reads,
      ap (λ (q : Part). record { bytes = b ++ q.bytes; closing = chunk_in_front b q.closing }) is
          ∙ ap (λ (c : Closing). record { bytes = b ++ p.body; closing = c }) (closes_on b (closing_of p.ending) some),
      on,
    );
    waiting = λ e. absurd (cc e);
    refusing = tt;
    lacking = tt;
    left = tt;
    cause = tt;
    item = tt;
    some = some;
    ended = tt;
    looked = λ seen more. seen;
    trailers = refl;
    kept = tt;
    limit = refl;
  }

  end_came : (trailers : Option Entries) → IsPiece d bytes (Ok (Some (End trailers))) left rest → Nexted (Ok (Some (Chunk None))) None trailers
  end_came trailers ends = record {
    goes_on = λ z r (is, on). (record { body = []; trailers = unwrap_or trailers []; ending = ends_before (rest ++ z) }, ends.reads z, ap (λ (q : Part). record { bytes = []; closing = end_in_front q.bytes q.closing }) is, on);
    waiting = λ e. absurd (cc e);
    refusing = tt;
    lacking = tt;
    left = tt;
    cause = tt;
    item = tt;
    some = tt;
    ended = refl;
    looked = λ seen more. seen (rest ++ more);
    trailers = (
      ends.some,
      λ c z p is reads.
          let same : c ≡ d = cc in
          ap (λ (q : Payload). q.trailers)
          (one_payload d (bytes ++ z) (record { body = []; trailers = unwrap_or trailers []; ending = ends_before (rest ++ z) }) p (ends.reads z)
          (subst (λ (y : Decoding). bodies.Reads y (bytes ++ z) p) same reads)),
    );
    kept = tt;
    limit = refl;
  }

  none_came : IsPiece d bytes (Ok None) left rest → Nexted (Ok None) (Some left) before
  none_came (goes, none) = record {
    goes_on = λ z r (p, reads, is, on). (p, goes z p reads, is, on);
    waiting = λ e seen said (p, reads, is, on). stops_so said p (no_payload goes_on)
        (λ left. HasSeen search left → AreMessages k is_bare search.limit left said.messages said.stop) is (none p reads) on (λ x. x);
    refusing = tt;
    lacking = tt;
    left = tt;
    cause = tt;
    item = tt;
    some = tt;
    ended = tt;
    looked = λ seen more. seen;
    trailers = refl;
    kept = tt;
    limit = refl;
  }

  fault_came : IsPiece d bytes (Err Invalid) left rest → Nexted (Err errors.Chunk) (Some left) before
  fault_came (refused, broken, same) = record {
    goes_on = tt;
    waiting = λ e. absurd (cc e);
    refusing = λ known seen said (p, reads, is, on). stops_so said p (no_payload is_broken)
        (λ left. HasSeen search left → AreMessages k is_bare search.limit left said.messages said.stop) is
        (refused [] p (subst (λ (l : List ℕ). bodies.Reads d l p) (sym (append-nil bytes)) reads)) on (λ x. x);
    lacking = λ e. absurd (cc e);
    left = (same, (left, broken, refl));
    cause = λ never. absurd (cc never);
    item = tt;
    some = tt;
    ended = tt;
    looked = tt;
    trailers = tt;
    kept = refl;
    limit = refl;
  }

  no_memory_came : IsPiece d bytes (Err NoMemory) left rest → Nexted (Err errors.NoMemory) (Some left) before
  no_memory_came (same, stays) =
      let as_before : at (Some left) ≡ at (Some d) = ap (λ (y : Decoding). at (Some y)) same in
      record {
        goes_on = tt;
        waiting = λ e. absurd (cc e);
        refusing = λ known. absurd (known refl);
        lacking = λ e. (as_before, stays);
        left = (stays, as_before);
        cause = λ never. absurd (cc never);
        item = tt;
        some = tt;
        ended = tt;
        looked = tt;
        trailers = tt;
        kept = refl;
        limit = refl;
      }

  pub piece_came : (piece : Result (Option Piece) DecodeError) (result : Result (Option (Message I)) ParseError) (after : Option Decoding) (now : Option Entries)
      → IsPiece d bytes piece left rest → IsNoted piece (Some left) before result after now → Nexted result after now
  piece_came (Ok (Some (Bytes b))) result after now is (e, f, g) = moved result (Ok (Some (Chunk (Some b)))) after (Some left) now None e f g (bytes_came b is)
  piece_came (Ok (Some (End trailers))) result after now is (e, f, g) = moved result (Ok (Some (Chunk None))) after None now trailers e f g (end_came trailers is)
  piece_came (Ok None) result after now is (e, f, g) = moved result (Ok None) after (Some left) now before e f g (none_came is)
  piece_came (Err Invalid) result after now is (e, f, g) = moved result (Err errors.Chunk) after (Some left) now before e f g (fault_came is)
  piece_came (Err NoMemory) result after now is (e, f, g) = moved result (Err errors.NoMemory) after (Some left) now before e f g (no_memory_came is)
