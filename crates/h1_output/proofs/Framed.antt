-- A piece between two texts.
use Rattle.std.proofs.Common.{◌≡◌, ℕ, ◌+◌, ◌-◌, ◌<◌, List, [], ◌∷◌, ◌++◌, length, refl, ap, ◌∙◌}
use Rattle.h1_output.specs.declared.piece.Piece.{Piece}
use Rattle.h1_output.specs.Queued.{with_text, with_piece}
use Rattle.h1_output.specs.OutputPieces.{IsLaid, queued, own_len, shared_len, body_len, body_in}
use Rattle.h1_output.proofs.Moves.{text_laid, text_queued, piece_laid, piece_queued}

module _ (ps : List Piece) (own before more bytes after : List ℕ) (m k : ℕ) (is : IsLaid ps own m k) (p : Piece) (at : p.before ≡ length (own ++ before) - m)
    (size : own_len p.body ≡ length more) (bytes_are : body_in p.body more ≡ bytes) (body : body_len p.body ≡ length bytes) (some : 0 < length bytes) where
  texted : IsLaid ps (own ++ before) m k
  texted = text_laid ps own (own ++ before) before m k is refl

  pieced : IsLaid (ps ++ p ∷ []) ((own ++ before) ++ more) (length ((own ++ before) ++ more)) (k + shared_len p.body)
  pieced = piece_laid ps (own ++ before) more bytes m k texted p at size bytes_are body some

  pub framed_laid : IsLaid (ps ++ p ∷ []) (((own ++ before) ++ more) ++ after) (length ((own ++ before) ++ more)) (k + shared_len p.body)
  framed_laid = text_laid (ps ++ p ∷ []) ((own ++ before) ++ more) (((own ++ before) ++ more) ++ after) after (length ((own ++ before) ++ more)) (k + shared_len p.body) pieced refl

  pub framed_queued : queued (ps ++ p ∷ []) (((own ++ before) ++ more) ++ after) ≡ with_text after (with_piece bytes (with_text before (queued ps own)))
  framed_queued =
      text_queued (ps ++ p ∷ []) ((own ++ before) ++ more) (((own ++ before) ++ more) ++ after) after (length ((own ++ before) ++ more)) (k + shared_len p.body) pieced refl
      ∙ ap (with_text after) (piece_queued ps (own ++ before) more bytes m k texted p at size bytes_are body some
      ∙ ap (with_piece bytes) (text_queued ps own (own ++ before) before m k is refl))
