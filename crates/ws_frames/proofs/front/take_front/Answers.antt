-- What is taken from the front of the bytes is the frame there.
use Rattle.std.proofs.Common.{◌≡◌, ℕ, ◌+◌, List, refl, sym, ap, ◌∙◌, subst}
use Rattle.model_h1.specs.FrameText.{Front, front_of_judged}
use Rattle.ws_frames.specs.Fronts.{early, IsFrontError}
use Rattle.ws_frames.specs.Header.{payload_at}
use Rattle.ws_frames.specs.Parsed.{takes}
use Rattle.ws_frames.specs.Protocol.{opcode_written}
use Rattle.ws_frames.proofs.ParsedFronts.{front_of_parsed}
use Rattle.ws_frames.proofs.ErrorLemmas.{front_fails}
use Rattle.ws_frames.proofs.EarlyFronts.{front_is_early}
use Rattle.ws_frames.proofs.front.take_front.Goals as goal

pub returns-in-Waits-clause-taken : goal.returns-in-Waits-clause-taken
returns-in-Waits-clause-taken c =
    let u = c.args.under_way in
    let is = ap (early c.args.server c.args.limit) (sym c.as_slice.ensures) ∙ c.in-Waits.ensures in
    (front_is_early c.args.server u c.args.limit c.args.src.now.items ∙ ap (front_of_parsed u) is, refl)

pub returns-in-Refuses-clause-taken : goal.returns-in-Refuses-clause-taken
returns-in-Refuses-clause-taken c =
    let u = c.args.under_way in
    let is = ap (early c.args.server c.args.limit) (sym c.as_slice.ensures) ∙ c.in-Refuses.ensures.refused in
    let front = front_is_early c.args.server u c.args.limit c.args.src.now.items ∙ ap (front_of_parsed u) is in
    (subst (λ (x : Front). IsFrontError x c.in-Refuses.error) (sym front) c.in-Refuses.ensures.named, refl)

pub returns-in-Ok-clause-taken : goal.returns-in-Ok-clause-taken
returns-in-Ok-clause-taken c =
    let u = c.args.under_way in
    let len = c.in-Takes.header_len + c.in-Takes.payload_len in
    let is = subst (λ (t : List ℕ). early c.args.server c.args.limit t ≡ takes c.in-Takes.finished (opcode_written c.in-Takes.op)
    (payload_at c.args.server c.in-Takes.header_len c.in-Takes.payload_len t) len) c.as_slice.ensures c.in-Takes.ensures.taken in
    let taken = c.in-Ok.ensures.taken in
    (len, front_is_early c.args.server u c.args.limit c.args.src.now.items ∙ ap (front_of_parsed u) is ∙ ap (front_of_judged len) taken.0, taken.1, taken.2)

pub returns-in-Err-clause-taken : goal.returns-in-Err-clause-taken
returns-in-Err-clause-taken c =
    let u = c.args.under_way in
    let len = c.in-Takes.header_len + c.in-Takes.payload_len in
    let is = subst (λ (t : List ℕ). early c.args.server c.args.limit t ≡ takes c.in-Takes.finished (opcode_written c.in-Takes.op)
    (payload_at c.args.server c.in-Takes.header_len c.in-Takes.payload_len t) len) c.as_slice.ensures c.in-Takes.ensures.taken in
    let front = front_is_early c.args.server u c.args.limit c.args.src.now.items ∙ ap (front_of_parsed u) is in
    let fails = front_fails _ c.in-Err.error len c.in-Err.ensures.taken.0 in
    (subst (λ (x : Front). IsFrontError x c.in-Err.error) (sym front) fails, c.in-Err.ensures.taken.1)
