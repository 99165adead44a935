-- Pieces and ends of an answer's body of which nothing goes out: they take no memory.
use Rattle.std.specs.Prelude.{◌≡◌, ℕ, List, [], Option, Some, None, ⊤}
use Rattle.model_h1.specs.AnswerText.{sent_end}
use Rattle.model_state.specs.Kept.{Reply, sending, Exchange, Kept}
use Rattle.model_state.specs.Reply.{piece_sent}

-- a piece
abbrev pub NoPieceBy : Exchange → Reply → List ℕ → Type 0
NoPieceBy x (sending shape kind missing) bytes = piece_sent x.asked shape missing bytes ≡ []
NoPieceBy x reply bytes = ⊤

abbrev pub NoPieceOf : Option Exchange → List ℕ → Type 0
NoPieceOf None bytes = ⊤
NoPieceOf (Some x) bytes = NoPieceBy x x.reply bytes

abbrev pub SendsNoPiece : Kept → List ℕ → Type 0
SendsNoPiece k bytes = NoPieceOf k.exchange bytes

-- the end
abbrev pub NoEndBy : Exchange → Reply → Type 0
NoEndBy x (sending shape kind missing) = sent_end x.asked shape ≡ []
NoEndBy x reply = ⊤

abbrev pub NoEndOf : Option Exchange → Type 0
NoEndOf None = ⊤
NoEndOf (Some x) = NoEndBy x x.reply

abbrev pub SendsNoEnd : Kept → Type 0
SendsNoEnd k = NoEndOf k.exchange
