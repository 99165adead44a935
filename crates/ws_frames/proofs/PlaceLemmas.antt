-- Frames with the places behind them, and without.
use Rattle.std.proofs.Common.{◌≡◌, ℕ, ◌+◌, Bool, List, [], ◌∷◌, drop, Option, refl, sym, ap, ◌∙◌, subst, drop-drop}
use Rattle.model_h1.specs.Frame.{Frame, ProtocolError}
use Rattle.model_h1.specs.FrameText.{Reader, is_under_way, PlacedFrame, ReadsFrames}
use Rattle.model_h1.proofs.FrameLemmas.{frames_unique, frames_read}
use Rattle.ws_frames.specs.FramePieces.{AreFrames, frames_of}

-- frames that were read from a place on are those of the bytes behind it
pub without_places : (reader : Reader) (u : Bool) (place : ℕ) (bytes : List ℕ) (placed : List PlacedFrame) (fail : Option ProtocolError)
    → ReadsFrames reader u place bytes placed fail → AreFrames reader u (drop place bytes) (frames_of placed) fail
without_places reader u place bytes [] fail reads = reads
without_places reader u place bytes (p ∷ placed) fail reads =
    let v = is_under_way u p.frame in
    let behind : drop p.end bytes ≡ drop reads.0 (drop place bytes)
    = ap (λ (n : ℕ). drop n bytes) reads.2 ∙ sym (drop-drop reads.0 place bytes) in
    let others = without_places reader v p.end bytes placed fail reads.3 in
    (reads.0, reads.1, subst (λ (t : List ℕ). AreFrames reader v t (frames_of placed) fail) behind others)

-- frames have places
with_places : (reader : Reader) (u : Bool) (place : ℕ) (bytes : List ℕ) (fs : List Frame) (fail : Option ProtocolError)
    → AreFrames reader u (drop place bytes) fs fail
    → (placed : List PlacedFrame) × ReadsFrames reader u place bytes placed fail × (frames_of placed ≡ fs)
with_places reader u place bytes [] fail are = ([], are, refl)
with_places reader u place bytes (f ∷ fs) fail are =
    let v = is_under_way u f in
    let behind = subst (λ (t : List ℕ). AreFrames reader v t fs fail) (drop-drop are.0 place bytes) are.2 in
    let others = with_places reader v (place + are.0) bytes fs fail behind in
    (record { frame = f; end = place + are.0 } ∷ others.0, (are.0, are.1, refl, others.1), λ i. f ∷ others.2 i)

-- bytes are some frames
pub some_frames : (reader : Reader) (u : Bool) (bytes : List ℕ) → (fs : List Frame) × (fail : Option ProtocolError) × AreFrames reader u bytes fs fail
some_frames reader u bytes =
    let read = frames_read reader u 0 bytes in
    (frames_of read.0, read.1, without_places reader u 0 bytes read.0 read.1 read.2)

-- and no others
pub one_reading : (reader : Reader) (u : Bool) (bytes : List ℕ) (fs gs : List Frame) (e f : Option ProtocolError)
    → AreFrames reader u bytes fs e → AreFrames reader u bytes gs f → (fs ≡ gs) × (e ≡ f)
one_reading reader u bytes fs gs e f x y =
    let a = with_places reader u 0 bytes fs e x in
    let b = with_places reader u 0 bytes gs f y in
    let same = frames_unique reader u 0 bytes a.0 b.0 e f a.1 b.1 in
    (sym a.2 ∙ ap frames_of same.0 ∙ b.2, same.1)
