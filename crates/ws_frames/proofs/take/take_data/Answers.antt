-- As for a payload that is frozen.
use Rattle.std.proofs.Common.{drop, ap, ◌∙◌}
use Rattle.bytes.specs.Filled.{Filled}
use Rattle.ws_frames.proofs.TakeLemmas.{toggled_twice, payload_frozen, rest_shown}
use Rattle.ws_frames.proofs.take.take_data.Goals as goal

pub returns-in-Err-clause-err : goal.returns-in-Err-clause-err
returns-in-Err-clause-err c =
    toggled_twice c.args.server c.args.header_len c.args.payload_len c.args.src.now.items c.split_to.new.self.items c.toggle_mask-in-Err.new.src.items
    c.requires.within c.requires.masked (ap (λ (f : Filled). f.items) c.in-Err.ensures.err ∙ c.toggle_mask.ensures.items) c.toggle_mask-in-Err.ensures.items

pub returns-in-Ok-clause-payload : goal.returns-in-Ok-clause-payload
returns-in-Ok-clause-payload c =
    c.unless_empty.ensures.same ∙ c.advance.ensures.items ∙ ap (drop c.args.header_len) c.in-Ok.ensures.front
    ∙ payload_frozen c.args.server c.args.header_len c.args.payload_len c.frame_len-frame_len.result c.args.src.now.items c.toggle_mask.new.src.items
    c.requires.within c.frame_len-frame_len.ensures c.toggle_mask.ensures.items

pub returns-in-Ok-clause-rest : goal.returns-in-Ok-clause-rest
returns-in-Ok-clause-rest c =
    c.in-Ok.ensures.rest.0
    ∙ rest_shown c.args.server c.args.header_len c.args.payload_len c.frame_len-frame_len.result c.args.src.now.items c.toggle_mask.new.src.items
    c.requires.within c.frame_len-frame_len.ensures c.toggle_mask.ensures.items
