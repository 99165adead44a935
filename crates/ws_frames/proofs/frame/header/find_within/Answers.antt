-- By the parts of the header that are kept, its size is judged first.
use Rattle.std.proofs.Common.{◌≡◌, ◌≤◌, refl, ap, subst, arith}
use Rattle.model_h1.specs.Laws.FrameSize.{frame_length}
use Rattle.model_h1.specs.Limits.{MAX_FRAME}
use Rattle.ws_frames.specs.declared.frame.header.Header.{Header}
use Rattle.ws_frames.specs.Header.{FoundSays}
use Rattle.ws_frames.specs.Parsed.{Parsed}
use Rattle.ws_frames.proofs.EarlyFronts.{header_bound, within_judged, wide_early, long_early}
use Rattle.ws_frames.proofs.frame.header.find_within.Goals as goal

pub returns-then-header-limit : goal.returns-then-header-limit
returns-then-header-limit c = λ server header kept readable.
    let pl : c.args.header.payload_len ≡ header.payload_length = ap (λ (h : Header). h.payload_len) kept in
    record { rule = _; refused = wide_early c.args.limit header c.args.src.now (omega (arith, pl)); named = refl; within = omega arith }

pub returns-then-header-src : goal.returns-then-header-src
returns-then-header-src c = λ server header kept readable.
    let pl : c.args.header.payload_len ≡ header.payload_length = ap (λ (h : Header). h.payload_len) kept in
    long_early c.args.limit header c.args.src.now (omega (arith, pl)) (omega (arith, pl))

pub returns : goal.returns
returns c = λ server header kept readable.
    let pl : c.args.header.payload_len ≡ header.payload_length = ap (λ (h : Header). h.payload_len) kept in
    let may : frame_length header ≤ MAX_FRAME = omega (arith, pl, header_bound server header readable) in
    subst (λ (p : Parsed). FoundSays server c.args.src.now c.find_payload.result p) (within_judged c.args.limit header c.args.src.now (omega (arith, pl)) may)
    (c.find_payload.ensures server header kept readable)
