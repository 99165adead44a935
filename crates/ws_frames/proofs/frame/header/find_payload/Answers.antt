-- By the parts of the header that are kept, the frame is what the definitions say.
use Rattle.std.proofs.Common.{◌≡◌, ℕ, Bool, true, false, nat_lt, sym, ap, ◌∙◌, subst, arith, ◌&&◌}
use Rattle.model_h1.specs.FrameText.{is_control}
use Rattle.model_h1.specs.Limits.{MAX_CONTROL_PAYLOAD}
use Rattle.model_h1.specs.Laws.FrameSize.{frame_length}
use Rattle.ws_frames.specs.declared.proto.OpCode.TheVariants as codes
use Rattle.ws_frames.specs.declared.error.ProtocolError.TheVariants as errors
use Rattle.ws_frames.specs.declared.frame.header.Header.{Header}
use Rattle.ws_frames.specs.Protocol.{code_of}
use Rattle.ws_frames.specs.Parsed.{parsed_header}
use Rattle.ws_frames.specs.Header.{LiesAt, RefusedAt}
use Rattle.ws_frames.proofs.FoundLemmas.{wide_parsed, opcode_is, long_close_lies, long_refused, plain_lies, no_control, short_control}
use Rattle.ws_frames.proofs.frame.header.find_payload.Goals as goal

pub returns-then-payload_len-max_size : goal.returns-then-payload_len-max_size
returns-then-payload_len-max_size c = λ server header kept readable.
    let hl : c.args.header.header_len ≡ header.header_length = ap (λ (h : Header). h.header_len) kept in
    let pl : c.args.header.payload_len ≡ header.payload_length = ap (λ (h : Header). h.payload_len) kept in
    let sum = c.in-Some.ensures in
    let len : frame_length header ≡ c.in-Some.frame_len = omega (arith, hl, pl, sum.1) in
    subst (λ (n : ℕ). RefusedAt errors.Overflow n c.args.src.now (parsed_header c.args.max_size header c.args.src.now)) len
    (wide_parsed c.args.max_size header c.args.src.now (omega (arith, hl, pl, sum.0)) (omega arith) (omega arith))

pub returns-in-Close : goal.returns-in-Close
returns-in-Close c = λ server header kept readable.
    let hl : c.args.header.header_len ≡ header.header_length = ap (λ (h : Header). h.header_len) kept in
    let pl : c.args.header.payload_len ≡ header.payload_length = ap (λ (h : Header). h.payload_len) kept in
    let sum = c.in-Some.ensures in
    let len : frame_length header ≡ c.in-Some.frame_len = omega (arith, hl, pl, sum.1) in
    subst (λ (n : ℕ). LiesAt server true codes.Close n 0 c.args.src.now (parsed_header c.args.max_size header c.args.src.now)) len
    (long_close_lies server c.args.max_size header c.args.src.now (omega (arith, hl, pl, sum.0)) (omega arith) (omega arith) (omega arith)
    (opcode_is server header codes.Close readable (sym (ap (λ (h : Header). h.op) kept) ∙ c.in-Close.is)))

pub returns-in-Ping : goal.returns-in-Ping
returns-in-Ping c = λ server header kept readable.
    let hl : c.args.header.header_len ≡ header.header_length = ap (λ (h : Header). h.header_len) kept in
    let pl : c.args.header.payload_len ≡ header.payload_length = ap (λ (h : Header). h.payload_len) kept in
    let op : c.args.header.op ≡ code_of header.start.opcode = ap (λ (h : Header). h.op) kept in
    let sum = c.in-Some.ensures in
    let len : frame_length header ≡ c.in-Some.frame_len = omega (arith, hl, pl, sum.1) in
    let at_len = subst (λ (n : ℕ). RefusedAt (errors.InvalidLength header.payload_length) n c.args.src.now (parsed_header c.args.max_size header c.args.src.now)) len
    (long_refused server c.args.max_size header c.args.src.now readable (omega (arith, hl, pl, sum.0)) (omega arith) (omega arith) (omega arith)
    c.args.header.op op c.in-Ping.is) in
    subst (λ (p : ℕ). RefusedAt (errors.InvalidLength p) c.in-Some.frame_len c.args.src.now (parsed_header c.args.max_size header c.args.src.now)) (sym pl) at_len

pub returns-in_default-op : goal.returns-in_default-op
returns-in_default-op c = λ server header kept readable.
    let hl : c.args.header.header_len ≡ header.header_length = ap (λ (h : Header). h.header_len) kept in
    let pl : c.args.header.payload_len ≡ header.payload_length = ap (λ (h : Header). h.payload_len) kept in
    let op : c.args.header.op ≡ _ = ap (λ (h : Header). h.op) kept in
    let sum = c.in-Some.ensures in
    let plain : is_control header.start.opcode ≡ false
    = no_control header.start.opcode (λ e. c.in_default-op.not-Close (op ∙ e)) (λ e. c.in_default-op.not-Ping (op ∙ e)) (λ e. c.in_default-op.not-Pong (op ∙ e)) in
    subst (λ (h : Header). LiesAt server h.finished h.op h.header_len h.payload_len c.args.src.now (parsed_header c.args.max_size header c.args.src.now)) (sym kept)
    (plain_lies server c.args.max_size header c.args.src.now readable (omega (arith, hl, pl, sum.0)) (omega (arith, hl, pl, sum.1)) (omega arith)
    (ap (λ (b : Bool). b && nat_lt MAX_CONTROL_PAYLOAD header.payload_length) plain))

pub returns-else-payload_len-gt-MAX_CONTROL_PAYLOAD : goal.returns-else-payload_len-gt-MAX_CONTROL_PAYLOAD
returns-else-payload_len-gt-MAX_CONTROL_PAYLOAD c = λ server header kept readable.
    let hl : c.args.header.header_len ≡ header.header_length = ap (λ (h : Header). h.header_len) kept in
    let pl : c.args.header.payload_len ≡ header.payload_length = ap (λ (h : Header). h.payload_len) kept in
    let sum = c.in-Some.ensures in
    subst (λ (h : Header). LiesAt server h.finished h.op h.header_len h.payload_len c.args.src.now (parsed_header c.args.max_size header c.args.src.now)) (sym kept)
    (plain_lies server c.args.max_size header c.args.src.now readable (omega (arith, hl, pl, sum.0)) (omega (arith, hl, pl, sum.1)) (omega arith)
    (short_control header.start.opcode header.payload_length (omega arith)))
