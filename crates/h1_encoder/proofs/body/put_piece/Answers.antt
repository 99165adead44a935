use Rattle.std.proofs.Common.{◌≡◌, Bool, false, List, ℕ, [], ◌∷◌, refl, sym, ap, ◌∙◌, if◌then◌else◌, length, true}
use Rattle.std.specs.Fmt.{digits}
use Rattle.model_h1.specs.AnswerText.{chunk_text}
use Rattle.model_state.specs.Reply.{piece_sent}
use Rattle.h1_encoder.specs.Meaning.{model_shape}
use Rattle.h1_encoder.specs.declared.shape.Shape.{Shape}
use Rattle.h1_encoder.proofs.Pieces.{not_empty}
use Rattle.h1_encoder.proofs.body.put_piece.Goals as goal

-- a chunk has some text
no_chunk : (bytes : List ℕ) → chunk_text bytes ≡ [] → bytes ≡ []
no_chunk [] none = refl
no_chunk (b ∷ bytes) none = absurd (not_empty (digits 16 true (length (b ∷ bytes))) _ _ none)

pub returns-in-Chunked-clause-no_memory_needed : goal.returns-in-Chunked-clause-no_memory_needed
returns-in-Chunked-clause-no_memory_needed c = λ none.
    let no_head : c.args.asked.is_head ≡ false = sym c.is_head.ensures ∙ c.if-is_head.false in
    let text : piece_sent c.args.asked (model_shape c.args.shape) c.args.missing c.args.bytes.now ≡ chunk_text c.args.bytes.now =
    ap (λ (s : Shape). piece_sent c.args.asked (model_shape s) c.args.missing c.args.bytes.now) c.in-Chunked.is
    ∙ ap (λ (b : Bool). if b then [] else chunk_text c.args.bytes.now) no_head in
    c.put_chunk.ensures.no_memory_needed (no_chunk c.args.bytes.now (sym text ∙ none))
