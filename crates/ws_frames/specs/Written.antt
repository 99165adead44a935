-- The text of a frame that is written, with a mask or without (RFC 6455, sections 5.2 and 5.3).
use Rattle.std.specs.Prelude.{ℕ, ◌+◌, Bool, List, [], ◌∷◌, ◌++◌, length, Option, Some, None}
use Rattle.model_h1.specs.FrameText.{Opcode, first_byte, length_field, print_frame, unmask}

-- the length with the bit of the mask
abbrev pub masked_field : List ℕ → List ℕ
masked_field [] = []
masked_field (b ∷ bytes) = (128 + b) ∷ bytes

-- the text of a frame
abbrev pub written : Option (List ℕ) → Bool → Opcode → List ℕ → List ℕ
written None is_final opcode payload = print_frame is_final opcode payload
written (Some mask) is_final opcode payload =
    first_byte is_final opcode ∷ masked_field (length_field (length payload)) ++ mask ++ unmask mask 0 payload
