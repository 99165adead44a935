-- What a codec answers goes on from what the bytes say.
use Rattle.std.proofs.Common.{◌≡◌, ℕ, Bool, List, ◌++◌, drop, Option, Some, None, Result, Ok, Err, IfOk, sym, ap, ◌∙◌, subst}
use Rattle.std.proofs.lemmas.List.{drop-append-le}
use Rattle.http_framing.specs.AnyPieces.{GoesOn, in_front}
use Rattle.model_h1.specs.FrameText.{is_under_way}
use Rattle.model_h1.proofs.FrameLemmas.{whole_stays, whole_fits}
use Rattle.ws_frames.specs.declared.error.ProtocolError.{ProtocolError}
use Rattle.ws_frames.specs.declared.message.Frame.{Frame}
use Rattle.ws_frames.specs.declared.codec.Codec.{Codec}
use Rattle.ws_frames.specs.Parsed.{late_reader}
use Rattle.ws_frames.specs.FramePieces.{AreFrames}
use Rattle.ws_frames.specs.Codec.{frame_says}
use Rattle.ws_frames.specs.CodecState.{codec_server, codec_limit, codec_reading, with_reading, Decoded}
use Rattle.ws_frames.specs.Framing.{Frames, Reads, given}

-- the codec behind an answer reads what the one before it would
read_on : {R : Type 0} (old new : Codec R) (bytes : List ℕ) (said : Frames) → new ≡ with_reading (codec_reading new) old → Reads new bytes said
    → AreFrames (late_reader (codec_server old) (codec_limit old)) (codec_reading new) bytes said.frames said.fail
read_on {R = R} old new bytes said same reads =
    subst (λ (c : Codec R). AreFrames (late_reader (codec_server c) (codec_limit c)) (codec_reading new) bytes said.frames said.fail) same reads

-- whatever is answered goes on
pub decoded_goes_on : {R : Type 0} (old new : Codec R) (bytes rest : List ℕ) (result : Result (Option Frame) ProtocolError)
    → Decoded (codec_server old) (codec_limit old) (codec_reading old) bytes result (codec_reading new) rest
    → new ≡ with_reading (codec_reading new) old
    → IfOk result (λ (answer : Option Frame). GoesOn (Reads {R = R}) given old bytes (in_front (Reads {R = R}) given answer) new rest)
decoded_goes_on old new bytes rest (Err e) decoded same = tt
decoded_goes_on old new bytes rest (Ok None) decoded same = λ z said reads.
    let reader = late_reader (codec_server old) (codec_limit old) in
    let behind : AreFrames reader (codec_reading old) (rest ++ z) said.frames said.fail
    = subst (λ (u : Bool). AreFrames reader u (rest ++ z) said.frames said.fail) decoded.2 (read_on old new (rest ++ z) said same reads) in
    subst (λ (t : List ℕ). AreFrames reader (codec_reading old) (t ++ z) said.frames said.fail) decoded.1 behind
decoded_goes_on old new bytes rest (Ok (Some frame)) decoded same = λ z said reads.
    let reader = late_reader (codec_server old) (codec_limit old) in
    let len = decoded.0 in
    let u = codec_reading old in
    let v = is_under_way u (frame_says frame) in
    let within = (whole_fits reader u bytes (frame_says frame) len decoded.1).1 in
    let behind : AreFrames reader v (rest ++ z) said.frames said.fail
    = subst (λ (w : Bool). AreFrames reader w (rest ++ z) said.frames said.fail) decoded.3 (read_on old new (rest ++ z) said same reads) in
    let parts : rest ++ z ≡ drop len (bytes ++ z) = ap (λ (t : List ℕ). t ++ z) decoded.2 ∙ sym (drop-append-le len bytes z within) in
    (len, whole_stays reader u bytes z (frame_says frame) len decoded.1, subst (λ (t : List ℕ). AreFrames reader v t said.frames said.fail) parts behind)
