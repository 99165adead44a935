-- The header by its parts.
use Rattle.std.proofs.Common.{◌≡◌, ℕ, ◌+◌, drop, get_or, None, sym, ap, ◌∙◌, arith}
use Rattle.std.proofs.lemmas.List.{take_rest}
use Rattle.std.proofs.lemmas.Bool.{le-leb, lt-leb}
use Rattle.model_h1.specs.FrameText.{FrameStart, frame_start, mask_bytes}
use Rattle.ws_frames.specs.Parsed.{late_reader}
use Rattle.ws_frames.specs.Header.{head_read, length_there}
use Rattle.ws_frames.proofs.HeaderLemmas.{head_at, found, kept_as, mask_len, error_read, none_read, some_read}
use Rattle.ws_frames.proofs.frame.header.read_header.Goals.{then-second-ge128, else-second-ge128}
use Rattle.ws_frames.proofs.frame.header.read_header.Goals as goal

pub returns-in-Err : goal.returns-in-Err
returns-in-Err c = λ max.
    error_read _ _ _ _ _ (c.in-Err.ensures max) ∙ ap head_read (sym (head_at (late_reader c.args.server max) c.args.src.now (omega arith)))

pub returns-in_default : goal.returns-in_default
returns-in_default c = λ max.
    let start : FrameStart = frame_start (get_or c.args.src.now 0 0) (get_or c.args.src.now 1 0) in
    let none : None ≡ length_there start (drop 2 c.args.src.now)
    = c.in_default.ensures.value (get_or c.args.src.now 0 0) ∙ ap (length_there start) (take_rest c.args.src.now 2) in
    none_read _ start _ _ _ (c.in-Ok.ensures max) none ∙ ap head_read (sym (head_at (late_reader c.args.server max) c.args.src.now (omega arith)))

pub overflow_add-result : goal.overflow_add-result
overflow_add-result c = record { fits = omega (arith, c.in-Some.ensures.bound) }

pub overflow_add-result-2 : goal.overflow_add-result-2
overflow_add-result-2 c = elim c.if-second-ge128.branch [
  | then-second-ge128 w ↦ record { fits = omega (arith, c.in-Some.ensures.bound, w.mask_bytes-is) }
  | else-second-ge128 w ↦ record { fits = omega (arith, c.in-Some.ensures.bound, w.mask_bytes-is) }
]

pub returns : goal.returns
returns c = λ max.
    let start : FrameStart = frame_start (get_or c.args.src.now 0 0) (get_or c.args.src.now 1 0) in
    let there : found c.in-Some.length_bytes c.in-Some.payload_len ≡ length_there start (drop 2 c.args.src.now)
    = c.in-Some.ensures.value (get_or c.args.src.now 0 0) ∙ ap (length_there start) (take_rest c.args.src.now 2) in
    let mask : c.if-second-ge128.mask_bytes ≡ mask_bytes start = elim c.if-second-ge128.branch [
      | then-second-ge128 w ↦ w.mask_bytes-is ∙ sym (ap mask_len (le-leb 128 (get_or c.args.src.now 1 0) w.if-second-ge128.true))
      | else-second-ge128 w ↦ w.mask_bytes-is ∙ sym (ap mask_len (lt-leb 128 (get_or c.args.src.now 1 0) w.if-second-ge128.false))
    ] in
    ap (λ (m : ℕ). kept_as start.is_final c.in-Ok.op (2 + c.in-Some.length_bytes + m) c.in-Some.payload_len) mask
    ∙ some_read _ start (drop 2 c.args.src.now) c.in-Ok.op c.in-Some.length_bytes c.in-Some.payload_len (c.in-Ok.ensures max) there
    ∙ ap head_read (sym (head_at (late_reader c.args.server max) c.args.src.now (omega arith)))
