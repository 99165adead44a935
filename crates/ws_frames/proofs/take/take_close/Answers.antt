-- The payload is read where it lies.
use Rattle.std.proofs.Common.{ℕ, List, sym, ap, ◌∙◌}
use Rattle.model_h1.specs.FrameText.{close_frame}
use Rattle.ws_frames.specs.Refusal.{error_of}
use Rattle.ws_frames.proofs.TakeLemmas.{toggled_twice, payload_shown, rest_shown}
use Rattle.ws_frames.proofs.take.take_close.Goals as goal

pub returns-in-Ok-clause-taken : goal.returns-in-Ok-clause-taken
returns-in-Ok-clause-taken c =
    let shown = payload_shown c.args.server c.args.header_len c.args.payload_len c.frame_len-frame_len.result c.args.src.now.items c.toggle_mask.new.src.items
    c.as_slice.result.now c.requires.within c.frame_len-frame_len.ensures c.toggle_mask.ensures.items c.as_slice.ensures in
    let rest = rest_shown c.args.server c.args.header_len c.args.payload_len c.frame_len-frame_len.result c.args.src.now.items c.toggle_mask.new.src.items
    c.requires.within c.frame_len-frame_len.ensures c.toggle_mask.ensures.items in
    (ap close_frame (sym shown) ∙ c.in-Ok.ensures.says, c.advance.ensures.items ∙ rest)

pub returns-in-Err-clause-taken : goal.returns-in-Err-clause-taken
returns-in-Err-clause-taken c =
    let shown = payload_shown c.args.server c.args.header_len c.args.payload_len c.frame_len-frame_len.result c.args.src.now.items c.toggle_mask.new.src.items
    c.as_slice.result.now c.requires.within c.frame_len-frame_len.ensures c.toggle_mask.ensures.items c.as_slice.ensures in (
      c.in-Err.ensures.says ∙ ap (λ (t : List ℕ). error_of (close_frame t)) shown,
      toggled_twice c.args.server c.args.header_len c.args.payload_len c.args.src.now.items c.toggle_mask.new.src.items
          c.toggle_mask-in-Err.new.src.items c.requires.within c.requires.masked c.toggle_mask.ensures.items c.toggle_mask-in-Err.ensures.items,
    )
