-- Of which calls for a request's body nothing goes out.
use Rattle.std.specs.Prelude.{◌≡◌, ℕ, List, [], Option, Some, None, ⊤}
use Rattle.model_h1.specs.AnswerText.{end_text}
use Rattle.model_client.specs.ClientKept.{SendingBody}
use Rattle.model_client.specs.ClientStep.{piece_of}

-- nothing of the piece goes out
abbrev pub SendsNoPiece : Option SendingBody → List ℕ → Type 0
SendsNoPiece None bytes = ⊤
SendsNoPiece (Some body) bytes = piece_of body.shape body.missing bytes ≡ []

-- nothing is written for the end
abbrev pub SendsNoEnd : Option SendingBody → Type 0
SendsNoEnd None = ⊤
SendsNoEnd (Some body) = end_text body.shape ≡ []
