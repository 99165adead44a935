-- The mask is turned to the place.
use Rattle.std.proofs.Common.{◌≡◌, ℕ, List, ap, ◌∙◌, sym, arith}
use Rattle.model_h1.specs.FrameText.{unmask}
use Rattle.model_h1.proofs.FrameWritten.{masked_twice}
use Rattle.ws_frames.proofs.MaskLemmas.{turned_unmask, unmask_congruent}
use Rattle.ws_frames.proofs.mask.mask_from.Goals.{in-0, in-1, in-2, in_default}
use Rattle.ws_frames.proofs.mask.mask_from.Goals as goal

pub returns-clause-masked : goal.returns-clause-masked
returns-clause-masked c =
    let turned : unmask c.match-from-rem4.turned 0 c.args.buf.now ≡ unmask c.args.mask c.args.from c.args.buf.now
    = elim c.match-from-rem4.branch [
      | in-0 w ↦ ap (λ (m : List ℕ). unmask m 0 c.args.buf.now) w.turned-is ∙ unmask_congruent c.args.mask 0 c.args.from c.args.buf.now (sym w.in-0.is)
      | in-1 w ↦ ap (λ (m : List ℕ). unmask m 0 c.args.buf.now) w.turned-is ∙ turned_unmask c.args.mask 1 c.args.from c.args.buf.now w.in-1.is
      | in-2 w ↦ ap (λ (m : List ℕ). unmask m 0 c.args.buf.now) w.turned-is ∙ turned_unmask c.args.mask 2 c.args.from c.args.buf.now w.in-2.is
      | in_default w ↦ ap (λ (m : List ℕ). unmask m 0 c.args.buf.now) w.turned-is ∙ turned_unmask c.args.mask 3 c.args.from c.args.buf.now (omega arith)
    ] in
    c.apply_mask_fast32.ensures.masked ∙ turned

pub returns-clause-twice : goal.returns-clause-twice
returns-clause-twice c = ap (unmask c.args.mask c.args.from) (returns-clause-masked c) ∙ masked_twice c.args.mask c.args.from c.args.buf.now
