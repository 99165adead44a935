-- The text of messages that a client writes is that of their frames, each under a mask of four bytes.
use Rattle.std.proofs.Common.{◌≡◌, ℕ, Bool, true, false, List, [], ◌∷◌, ◌++◌, length, Some, refl, sym, ap, ap₂, ◌∙◌, subst}
use Rattle.std.specs.Int.{w32, to_le_bytes}
use Rattle.rand_core.specs.Stream.{Stream, next_u32}
use Rattle.model_h1.specs.Frame as model
use Rattle.model_h1.specs.FrameText.{Opcode, continuation_opcode, text_opcode, binary_opcode, close_opcode, ping_opcode, pong_opcode, length_field, first_byte, unmask, close_payload}
use Rattle.model_ends.specs.MaskedText.{masked_field, print_masked, masked_text, MaskedFrame, HaveMasks, masked_texts}
use Rattle.ws_frames.specs.Written.{masked_field as field_written, written}
use Rattle.ws_frames.specs.declared.codec.Codec.{Codec}
use Rattle.ws_frames.specs.declared.message.Message.{Message}
use Rattle.ws_frames.specs.CodecState.{codec_server, codec_words}
use Rattle.ws_frames.specs.Sent.{message_says, frame_written, message_written, mask_drawn}
use Rattle.model_codecs.specs.Sent.{frame_in, frames_sent, AreWritten}
use Rattle.model_codecs.proofs.Fronts.{unmasked}

same_field : (bytes : List ℕ) → field_written bytes ≡ masked_field bytes
same_field [] = refl
same_field (b ∷ bytes) = refl

same_print : (mask : List ℕ) (is_final : Bool) (opcode : Opcode) (payload : List ℕ) → written (Some mask) is_final opcode payload ≡ print_masked mask is_final opcode payload
same_print mask is_final opcode payload =
    ap (λ (field : List ℕ). first_byte is_final opcode ∷ field ++ mask ++ unmask mask 0 payload) (same_field (length_field (length payload)))

-- a frame under a mask has the same text in the words of both
same_text : (mask : List ℕ) (f : model.Frame) → frame_written (Some mask) f ≡ masked_text mask f
same_text mask (model.text payload) = same_print mask true text_opcode payload
same_text mask (model.binary payload) = same_print mask true binary_opcode payload
same_text mask (model.first_text payload) = same_print mask false text_opcode payload
same_text mask (model.first_binary payload) = same_print mask false binary_opcode payload
same_text mask (model.continuation payload) = same_print mask false continuation_opcode payload
same_text mask (model.last payload) = same_print mask true continuation_opcode payload
same_text mask (model.ping payload) = same_print mask true ping_opcode payload
same_text mask (model.pong payload) = same_print mask true pong_opcode payload
same_text mask (model.close reason) = same_print mask true close_opcode (close_payload reason)

-- frames under masks of four bytes, and their text
pub record AreMasked (fs : List model.Frame) (text : List ℕ) : Type 0 where
  pub masked : List MaskedFrame
  pub masks : HaveMasks masked
  pub frames : unmasked masked ≡ fs
  pub text_is : text ≡ masked_texts masked

-- one message in front
masked_more : (m : model.Message) (mask : List ℕ) (fs : List model.Frame) (others : List ℕ) → length mask ≡ 4 → AreMasked fs others
    → AreMasked (frame_in m ++ fs) (message_written (Some mask) m ++ others)
masked_more (model.frame f) mask fs others four x = record {
  masked = record { mask = mask; frame = f } ∷ x.masked;
  masks = (four, x.masks);
  frames = ap (λ (l : List model.Frame). f ∷ l) x.frames;
  text_is = ap₂ (λ (a b : List ℕ). a ++ b) (same_text mask f) x.text_is;
}
masked_more model.nop mask fs others four x = x

module _ {R : Type 0} (stream : R → Stream) where
  -- what a client's codec writes
  pub written_masked : (old : Codec R) (ms : List Message) (text : List ℕ) (new : Codec R) → codec_server old ≡ false → AreWritten stream old ms text new
      → AreMasked (frames_sent ms) text
  written_masked old [] text new client x = record { masked = []; masks = tt; frames = refl; text_is = x.0 }
  written_masked old (m ∷ ms) text new client (next, first, others, wrote, more, is) =
      let mask = to_le_bytes w32 (next_u32 (stream (codec_words old))).0 in
      let drawn : mask_drawn (codec_server old) (stream (codec_words old)) ≡ Some mask =
      ap (λ (server : Bool). mask_drawn server (stream (codec_words old))) client in
      let same : first ≡ message_written (Some mask) (message_says m) = wrote.1 ∙ ap (λ o. message_written o (message_says m)) drawn in
      let still : codec_server next ≡ false = ap (λ (c : Codec R). codec_server c) wrote.4 ∙ client in
      let behind = written_masked next ms others new still more in
      subst (AreMasked (frames_sent (m ∷ ms))) (ap (λ (l : List ℕ). l ++ others) (sym same) ∙ sym is)
      (masked_more (message_says m) mask (frames_sent ms) others refl behind)
