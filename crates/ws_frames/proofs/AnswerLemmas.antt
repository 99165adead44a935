-- What a codec answers where it gives no frame.
use Rattle.std.proofs.Common.{◌≡◌, ℕ, Bool, List, [], ◌∷◌, Option, Some, None, Result, Ok, Err, refl, sym, ap, ◌∙◌, subst}
use Rattle.std.specs.Prelude.{IfErr, ⊤}
use Rattle.http_framing.specs.AnyPieces.{OnlySays}
use Rattle.model_h1.specs.Frame as model
use Rattle.model_h1.specs.FrameText.{Reader, Front, front_frame, whole, partial, breaks, StopsWith}
use Rattle.ws_frames.specs.declared.error.ProtocolError.{ProtocolError}
use Rattle.ws_frames.specs.declared.error.ProtocolError.TheVariants as errors
use Rattle.ws_frames.specs.declared.message.Frame.{Frame}
use Rattle.ws_frames.specs.declared.codec.Codec.{Codec}
use Rattle.ws_frames.specs.Refusal.{refusal}
use Rattle.ws_frames.specs.Parsed.{late_reader, parsed}
use Rattle.ws_frames.specs.FramePieces.{AreFrames}
use Rattle.ws_frames.specs.CodecState.{codec_server, codec_limit, codec_reading, with_reading, cost, Failed, Decoded}
use Rattle.ws_frames.specs.Framing.{Frames, Reads, no_frames, Breaks, LeftAfter}

none_says : (reader : Reader) (u : Bool) (bytes : List ℕ) (frames : List model.Frame) (fail : Option model.ProtocolError)
    → front_frame reader u bytes ≡ partial → AreFrames reader u bytes frames fail → ◌≡◌ {A = Frames} (record { frames = frames; fail = fail }) no_frames
none_says reader u bytes [] fail front are = ap {B = Frames} (λ f. record { frames = []; fail = f }) (subst (λ x. StopsWith x fail) front are)
none_says reader u bytes (f ∷ fs) fail front are = absurd (subst (λ x. StopsWith x None) (sym front ∙ are.1) refl)

-- where None is answered the bytes say no frame and no broken rule
pub waits_says : {R : Type 0} (old new : Codec R) (bytes rest : List ℕ) (result : Result (Option Frame) ProtocolError)
    → Decoded (codec_server old) (codec_limit old) (codec_reading old) bytes result (codec_reading new) rest
    → result ≡ Ok None → (said : Frames) → Reads old bytes said → said ≡ no_frames
waits_says {R = R} old new bytes rest result decoded none said reads =
    let there : Decoded (codec_server old) (codec_limit old) (codec_reading old) bytes (Ok None) (codec_reading new) rest
    = subst (λ r. Decoded (codec_server old) (codec_limit old) (codec_reading old) bytes r (codec_reading new) rest) none decoded in
    none_says (late_reader (codec_server old) (codec_limit old)) (codec_reading old) bytes said.frames said.fail there.0 reads

rule_says : (reader : Reader) (u : Bool) (bytes : List ℕ) (rule : model.ProtocolError) (e : ProtocolError) (frames : List model.Frame)
    (fail : Option model.ProtocolError) → front_frame reader u bytes ≡ breaks rule → e ≡ refusal rule → AreFrames reader u bytes frames fail
    → Breaks e (record { frames = frames; fail = fail })
rule_says reader u bytes rule e [] fail front is are = (rule, refl, subst (λ x. StopsWith x fail) front are, is)
rule_says reader u bytes rule e (f ∷ fs) fail front is are = absurd (subst (λ x. StopsWith x (Some rule)) (sym front ∙ are.1) refl)

-- the broken rule is the one that the error names
error_says : (reader : Reader) (u : Bool) (bytes rest : List ℕ) (n : ℕ) (e : ProtocolError) (front : Front) (said : Frames)
    → front_frame reader u bytes ≡ front → Failed front e n bytes rest → ¬ (e ≡ errors.NoMemory) → AreFrames reader u bytes said.frames said.fail
    → Breaks e said
error_says reader u bytes rest n e partial said is failed known are = absurd failed
error_says reader u bytes rest n e (whole frame len) said is failed known are = absurd (known failed.0)
error_says reader u bytes rest n e (breaks rule) said is failed known are =
    rule_says reader u bytes rule e said.frames said.fail is failed.0 are

pub refusal_says : {R : Type 0} (old new : Codec R) (bytes rest : List ℕ) (result : Result (Option Frame) ProtocolError)
    → Decoded (codec_server old) (codec_limit old) (codec_reading old) bytes result (codec_reading new) rest
    → IfErr result (λ (e : ProtocolError). ¬ (e ≡ errors.NoMemory) → ⊤ → OnlySays (Reads {R = R}) old bytes (Breaks e))
refusal_says old new bytes rest (Ok answer) decoded = tt
refusal_says old new bytes rest (Err e) decoded = λ known seen said reads.
    let reader = late_reader (codec_server old) (codec_limit old) in
    error_says reader (codec_reading old) bytes rest (cost (parsed (codec_server old) (codec_limit old) bytes)) e
    (front_frame reader (codec_reading old) bytes) said refl decoded.1 known reads

-- a codec that reads as before is as before
same_codec : {R : Type 0} (old new : Codec R) → new ≡ with_reading (codec_reading new) old → codec_reading new ≡ codec_reading old → new ≡ old
same_codec {R = R} old new others same = others ∙ ap {B = Codec R} (λ (u : Bool). with_reading u old) same

no_rule : (e : ProtocolError) (rule : model.ProtocolError) → e ≡ errors.NoMemory → e ≡ refusal rule → ⊥
no_rule e model.unmasked_frame a b = cc
no_rule e model.masked_frame a b = cc
no_rule e model.invalid_reserved_bits a b = cc
no_rule e model.bad_op_code a b = cc
no_rule e model.overflow a b = cc
no_rule e model.continuation_not_started a b = cc
no_rule e model.continuation_started a b = cc
no_rule e (model.invalid_opcode n) a b = cc
no_rule e (model.invalid_length n) a b = cc
no_rule e (model.continuation_fragment n) a b = cc

all_left : (front : Front) (e : ProtocolError) (n : ℕ) (bytes rest : List ℕ) → Failed front e n bytes rest → e ≡ errors.NoMemory → rest ≡ bytes
all_left partial e n bytes rest failed is = absurd failed
all_left (whole frame len) e n bytes rest failed is = failed.1
all_left (breaks rule) e n bytes rest failed is = absurd (no_rule e rule is failed.0)

-- where memory ran out nothing changed
pub lacking_keeps : {R : Type 0} (old new : Codec R) (bytes rest : List ℕ) (result : Result (Option Frame) ProtocolError)
    → Decoded (codec_server old) (codec_limit old) (codec_reading old) bytes result (codec_reading new) rest
    → new ≡ with_reading (codec_reading new) old
    → IfErr result (λ (e : ProtocolError). e ≡ errors.NoMemory → (new ≡ old) × (rest ≡ bytes))
lacking_keeps old new bytes rest (Ok answer) decoded others = tt
lacking_keeps old new bytes rest (Err e) decoded others = λ is. (
  same_codec old new others decoded.0,
  all_left (front_frame (late_reader (codec_server old) (codec_limit old)) (codec_reading old) bytes) e
      (cost (parsed (codec_server old) (codec_limit old) bytes)) bytes rest decoded.1 is,
)

pub left_so : {R : Type 0} (old new : Codec R) (bytes rest : List ℕ) (result : Result (Option Frame) ProtocolError)
    → Decoded (codec_server old) (codec_limit old) (codec_reading old) bytes result (codec_reading new) rest
    → new ≡ with_reading (codec_reading new) old
    → IfErr result (λ (e : ProtocolError). LeftAfter e old bytes new rest)
left_so old new bytes rest (Ok answer) decoded others = tt
left_so old new bytes rest (Err e) decoded others = (same_codec old new others decoded.0, decoded.1)
