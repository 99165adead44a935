-- What is taken from the front of the bytes is the frame there.
use Rattle.std.proofs.Common.{◌≡◌, ℕ, ◌+◌, List, drop, refl, sym, ap, ◌∙◌, subst}
use Rattle.model_h1.specs.FrameText.{Front, front_of_judged}
use Rattle.ws_frames.specs.declared.error.ProtocolError.TheVariants as errors
use Rattle.ws_frames.specs.CodecState.{codec_server, codec_limit, codec_reading, cost, Failed}
use Rattle.ws_frames.specs.Header.{payload_at}
use Rattle.ws_frames.specs.Parsed.{Parsed, takes, parsed}
use Rattle.ws_frames.specs.Protocol.{opcode_written}
use Rattle.ws_frames.proofs.ErrorLemmas.{memory_fails, rule_fails}
use Rattle.ws_frames.proofs.ParsedFronts.{front_of_parsed, front_is_parsed}
use Rattle.ws_frames.proofs.codec.Codec.decode.Goals as goal

pub returns-in-Waits-clause-frame : goal.returns-in-Waits-clause-frame
returns-in-Waits-clause-frame g c =
    let server = codec_server c.args.self.now in
    let max = codec_limit c.args.self.now in
    let u = codec_reading c.args.self.now in
    let is = ap (parsed server max) (sym c.as_slice.ensures) ∙ c.in-Waits.ensures in
    (front_is_parsed server u max c.args.src.now.items ∙ ap (front_of_parsed u) is, refl, refl)

pub returns-in-Refuses-clause-frame : goal.returns-in-Refuses-clause-frame
returns-in-Refuses-clause-frame g c =
    let server = codec_server c.args.self.now in
    let max = codec_limit c.args.self.now in
    let u = codec_reading c.args.self.now in
    let said = c.in-Refuses.ensures in
    let is = ap (parsed server max) (sym c.as_slice.ensures) ∙ said.refused in
    let front = front_is_parsed server u max c.args.src.now.items ∙ ap (front_of_parsed u) is in (
      refl,
      subst (λ (x : Front). Failed x c.in-Refuses.error (cost (parsed server max c.args.src.now.items)) c.args.src.now.items c.advance.new.self.items) (sym front)
          (said.named, c.advance.ensures.items ∙ ap (λ (p : Parsed). drop (cost p) c.args.src.now.items) (sym is)),
    )

pub returns-in-Ok-clause-frame : goal.returns-in-Ok-clause-frame
returns-in-Ok-clause-frame g c =
    let server = codec_server c.args.self.now in
    let max = codec_limit c.args.self.now in
    let u = codec_reading c.args.self.now in
    let len = c.in-Takes.header_len + c.in-Takes.payload_len in
    let is = subst (λ (t : List ℕ). parsed server max t ≡ takes c.in-Takes.finished (opcode_written c.in-Takes.op)
    (payload_at server c.in-Takes.header_len c.in-Takes.payload_len t) len) c.as_slice.ensures c.in-Takes.ensures.taken in
    let taken = c.in-Ok.ensures.taken in
    (len, front_is_parsed server u max c.args.src.now.items ∙ ap (front_of_parsed u) is ∙ ap (front_of_judged len) taken.0, taken.1, taken.2)

pub returns-in-NoMemory-clause-frame : goal.returns-in-NoMemory-clause-frame
returns-in-NoMemory-clause-frame g c =
    let server = codec_server c.args.self.now in
    let max = codec_limit c.args.self.now in
    let u = codec_reading c.args.self.now in
    let n = cost (parsed server max c.args.src.now.items) in
    let len = c.in-Takes.header_len + c.in-Takes.payload_len in
    let is = subst (λ (t : List ℕ). parsed server max t ≡ takes c.in-Takes.finished (opcode_written c.in-Takes.op)
    (payload_at server c.in-Takes.header_len c.in-Takes.payload_len t) len) c.as_slice.ensures c.in-Takes.ensures.taken in
    let front = front_is_parsed server u max c.args.src.now.items ∙ ap (front_of_parsed u) is in
    let fails = memory_fails _ len n c.args.src.now.items c.take_judged.new.src.items
    (sym c.in-NoMemory.is ∙ c.in-Err.ensures.taken.0) c.in-Err.ensures.taken.1 in (
      refl,
      subst (λ (x : Front). Failed x errors.NoMemory n c.args.src.now.items c.take_judged.new.src.items) (sym front) fails,
    )

pub returns-in_default-clause-frame : goal.returns-in_default-clause-frame
returns-in_default-clause-frame g c =
    let server = codec_server c.args.self.now in
    let max = codec_limit c.args.self.now in
    let u = codec_reading c.args.self.now in
    let n = cost (parsed server max c.args.src.now.items) in
    let len = c.in-Takes.header_len + c.in-Takes.payload_len in
    let is = subst (λ (t : List ℕ). parsed server max t ≡ takes c.in-Takes.finished (opcode_written c.in-Takes.op)
    (payload_at server c.in-Takes.header_len c.in-Takes.payload_len t) len) c.as_slice.ensures c.in-Takes.ensures.taken in
    let front = front_is_parsed server u max c.args.src.now.items ∙ ap (front_of_parsed u) is in
    let fails = rule_fails _ c.in-Err.error len n c.args.src.now.items c.drop_frame.new.src.items c.in_default.not-NoMemory
    c.in-Err.ensures.taken.0 (ap cost is) (c.drop_frame.ensures ∙ ap (drop len) c.in-Err.ensures.taken.1) in (
      refl,
      subst (λ (x : Front). Failed x c.in-Err.error n c.args.src.now.items c.drop_frame.new.src.items) (sym front) fails,
    )
