-- The next piece of the open body.
use Rattle.std.proofs.Common.{◌≡◌, sym, ◌∙◌, subst}
use Rattle.std.specs.Prelude.{List, ℕ, Option, Some, Result}
use Rattle.h1_codec.specs.ClientAnswers.{IsChunked, IsChunkStep}
use Rattle.h1_codec.specs.declared.client_error.ClientError.{ClientError}
use Rattle.h1_payload.specs.Decoding.{Decoding}
use Rattle.h1_codec.specs.Light.{NeedsNoMemoryFrom}
use Rattle.h1_codec.proofs.Memory.{noted_memory}
use Rattle.h1_codec.specs.ClientPieces.{as_message}
use Rattle.h1_codec.proofs.Lacking.{lacks_piece}
use Rattle.h1_codec.proofs.Chunked.{piece_chunked}
use Rattle.h1_codec.proofs.Stepped.{chunk_step}
use Rattle.h1_codec.proofs.client_state.Client.decode_chunk.Goals as goal

pub returns-in-Some-clause-chunked : goal.returns-in-Some-clause-chunked
returns-in-Some-clause-chunked c =
    let is : c.args.self.now.body ≡ Some c.in-Some.open = cc in
    subst (λ (r : Result (Option (Option (List ℕ))) ClientError). IsChunked c.args.self.now c.args.src.now.items r
    (record c.args.self.now { body = c.note_piece-noted.new.body; trailers = c.note_piece-noted.new.trailers }) c.next_piece-piece.new.src.items) (sym c.as_chunk.ensures)
    (piece_chunked c.args.self.now c.in-Some.open c.note_piece-noted.new.body c.note_piece-noted.new.trailers c.args.src.now.items c.next_piece-piece.new.src.items is
    c.next_piece-piece.new.body c.next_piece-piece.result c.note_piece-noted.result c.next_piece-piece.ensures.piece c.note_piece-noted.ensures)

pub returns-in-Some-clause-step : goal.returns-in-Some-clause-step
returns-in-Some-clause-step c =
    let is : c.args.self.now.body ≡ Some c.in-Some.open = cc in
    subst (λ (r : Result (Option (Option (List ℕ))) ClientError). IsChunkStep c.args.self.now c.args.src.now.items r
    (record c.args.self.now { body = c.note_piece-noted.new.body; trailers = c.note_piece-noted.new.trailers }) c.next_piece-piece.new.src.items) (sym c.as_chunk.ensures)
    (chunk_step c.args.self.now c.in-Some.open c.next_piece-piece.new.body c.note_piece-noted.new.body c.note_piece-noted.new.trailers c.args.src.now.items c.next_piece-piece.new.src.items is
    c.next_piece-piece.result c.note_piece-noted.result c.next_piece-piece.ensures.decoded c.note_piece-noted.ensures)

pub returns-in-Some-clause-no_memory_needed : goal.returns-in-Some-clause-no_memory_needed
returns-in-Some-clause-no_memory_needed c = λ light is.
    let same : c.args.self.now.body ≡ Some c.in-Some.open = cc in
    c.next_piece-piece.ensures.no_memory_needed (subst (λ (b : Option Decoding). NeedsNoMemoryFrom b c.args.self.now.heads c.args.src.now.items) same light)
    (noted_memory c.next_piece-piece.result _ c.args.self.now.trailers (as_message c.note_piece-noted.result) c.note_piece-noted.new.body c.note_piece-noted.new.trailers
    c.note_piece-noted.ensures (lacks_piece c.note_piece-noted.result (sym c.as_chunk.ensures ∙ is)))
