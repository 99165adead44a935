-- The text of a frame as a client writes it, under a mask of four bytes (RFC 6455, sections 5.2 and 5.3).
use Rattle.std.specs.Prelude.{◌≡◌, ℕ, ◌+◌, Bool, true, false, List, [], ◌∷◌, ◌++◌, length, flat_map}
use Rattle.std.specs.List.{AllByRecursion}
use Rattle.model_h1.specs.Frame.{Frame}
use Rattle.model_h1.specs.Frame as frames
use Rattle.model_h1.specs.FrameText.{Opcode, continuation_opcode, text_opcode, binary_opcode, close_opcode, ping_opcode, pong_opcode, first_byte, length_field, unmask, close_payload}

-- the length, with the bit that says that a mask follows
abbrev pub masked_field : List ℕ → List ℕ
masked_field [] = []
masked_field (b ∷ bytes) = (128 + b) ∷ bytes

-- first byte, length, mask, and the payload combined with it
abbrev pub print_masked : List ℕ → Bool → Opcode → List ℕ → List ℕ
print_masked mask is_final opcode payload =
    first_byte is_final opcode ∷ masked_field (length_field (length payload)) ++ mask ++ unmask mask 0 payload

-- each kind of frame
abbrev pub masked_text : List ℕ → Frame → List ℕ
masked_text mask (frames.text payload) = print_masked mask true text_opcode payload
masked_text mask (frames.binary payload) = print_masked mask true binary_opcode payload
masked_text mask (frames.first_text payload) = print_masked mask false text_opcode payload
masked_text mask (frames.first_binary payload) = print_masked mask false binary_opcode payload
masked_text mask (frames.continuation payload) = print_masked mask false continuation_opcode payload
masked_text mask (frames.last payload) = print_masked mask true continuation_opcode payload
masked_text mask (frames.ping payload) = print_masked mask true ping_opcode payload
masked_text mask (frames.pong payload) = print_masked mask true pong_opcode payload
masked_text mask (frames.close reason) = print_masked mask true close_opcode (close_payload reason)

-- a frame and its mask
pub record MaskedFrame : Type 0 where
  pub mask : List ℕ
  pub frame : Frame

-- a mask has four bytes
abbrev pub HaveMasks : List MaskedFrame → Type 0
HaveMasks ms = AllByRecursion (λ m. length m.mask ≡ 4) ms

-- the texts one after another
abbrev pub masked_texts : List MaskedFrame → List ℕ
masked_texts ms = flat_map (λ m. masked_text m.mask m.frame) ms
