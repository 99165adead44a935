-- Legal messages are read as they were sent.
use Rattle.std.proofs.Common.{◌≡◌, ℕ, ◌+◌, ◌<◌, ◌≤◌, ◌^◌, Bool, true, List, [], ◌∷◌, ◌++◌, length, drop, map, Option, None, refl, sym, ap, ◌∙◌, subst, arith, append-nil, length-append, append_assoc}
use Rattle.std.proofs.lemmas.List.{drop_at}
use Rattle.model_h1.specs.Frame.{Frame, ProtocolError}
use Rattle.model_h1.proofs.FrameLemmas.{frames_unique}
use Rattle.model_h1.specs.FrameText.{Reader, front_frame, whole, is_under_way, PlacedFrame, ReadsFrames}
use Rattle.model_h1.specs.Laws.WrittenFrame.{KeepsRules}
use Rattle.model_ends.specs.MaskedText.{masked_text, MaskedFrame, HaveMasks, masked_texts}
use Rattle.model_ends.specs.LegalMessages.{IsLegal, AreLegal, AreFramesOf}
use Rattle.model_ends.proofs.FrameMasked.{masked_back}

-- a legal frame keeps the rules of a reader that takes its size
keeps_rules : (reader : Reader) (max_payload : ℕ) (u : Bool) (f : Frame) → max_payload ≤ reader.max_payload → max_payload < 2 ^ 63
    → IsLegal max_payload u f → KeepsRules reader u f
keeps_rules reader max_payload u f takes small x = record {
  place = x.place;
  size = omega (arith, x.size, small);
  limit = omega (arith, x.size, takes);
  control = x.control;
  reason = x.reason;
}

-- frames that are read from a place on
record ReadFrom (reader : Reader) (u : Bool) (place : ℕ) (bytes : List ℕ) (ms : List MaskedFrame) : Type 0 where
  placed : List PlacedFrame
  reads : ReadsFrames reader u place bytes placed None
  are : AreFramesOf bytes place placed ms

module _ (reader : Reader) (max_payload : ℕ) (masks : reader.wants_mask ≡ true) (takes : max_payload ≤ reader.max_payload) (small : max_payload < 2 ^ 63) where
  legal_from : (u : Bool) (front : List ℕ) (ms : List MaskedFrame) → HaveMasks ms → AreLegal max_payload u (map (λ m. m.frame) ms)
      → ReadFrom reader u (length front) (front ++ masked_texts ms) ms
  unfolding front_frame
  legal_from u front [] four legal = record {
    placed = [];
    reads = subst (λ t. ReadsFrames reader u 0 t [] None) (sym (drop_at front [] (length front) refl)) refl;
    are = ap length (sym (append-nil front));
  }
  legal_from u front (m ∷ ms) four legal =
      let text = masked_text m.mask m.frame in
      let next = front ++ text in
      let under_way = is_under_way u m.frame in
      let all : next ++ masked_texts ms ≡ front ++ (text ++ masked_texts ms) = append_assoc front text (masked_texts ms) in
      let place : length next ≡ length front + length text = length-append front text in
      let others = subst (λ t. ReadFrom reader under_way (length next) t ms) all (legal_from under_way next ms four.1 legal.1) in
      let first : front_frame reader u (drop (length front) (front ++ (text ++ masked_texts ms))) ≡ whole m.frame (length text) =
      ap (front_frame reader u) (drop_at front (text ++ masked_texts ms) (length front) refl)
      ∙ masked_back m.mask four.0 reader u m.frame (masked_texts ms) masks (keeps_rules reader max_payload u m.frame takes small legal.0) in
      record {
        placed = record { frame = m.frame; end = length next } ∷ others.placed;
        reads = (length text, first, place, others.reads);
        are = (refl, place, others.are);
      }

  -- frames are read whole, one after another, and nothing is left
  pub legal_read : (u : Bool) (ms : List MaskedFrame) → HaveMasks ms → AreLegal max_payload u (map (λ m. m.frame) ms)
      → (placed : List PlacedFrame) × ReadsFrames reader u 0 (masked_texts ms) placed None × AreFramesOf (masked_texts ms) 0 placed ms
  legal_read u ms four legal =
      let r = legal_from u [] ms four legal in
      (r.placed, r.reads, r.are)

  -- and in no other way
  pub legal_alone : (u : Bool) (ms : List MaskedFrame) (placed : List PlacedFrame) (fail : Option ProtocolError) → HaveMasks ms
      → AreLegal max_payload u (map (λ m. m.frame) ms) → ReadsFrames reader u 0 (masked_texts ms) placed fail
      → (fail ≡ None) × AreFramesOf (masked_texts ms) 0 placed ms
  legal_alone u ms placed fail four legal reads =
      let r = legal_from u [] ms four legal in
      let same = frames_unique reader u 0 (masked_texts ms) placed r.placed fail None reads r.reads in
      (same.1, subst (λ l. AreFramesOf (masked_texts ms) 0 l ms) (sym same.0) r.are)
