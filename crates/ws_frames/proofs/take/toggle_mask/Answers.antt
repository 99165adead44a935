-- With no mask nothing changes.
use Rattle.std.proofs.Common.{Bool, length, take, drop, sym, ap, ◌∙◌, arith, length-drop}
use Rattle.std.proofs.lemmas.List.{length-take-le}
use Rattle.ws_frames.proofs.MaskLemmas.{length_unmask}
use Rattle.ws_frames.specs.Codec.{with_payload}
use Rattle.ws_frames.specs.Header.{payload_at}
use Rattle.ws_frames.proofs.TakeLemmas.{parts_join, length_kept}
use Rattle.ws_frames.proofs.take.toggle_mask.Goals as goal

pub returns-else-server-clause-items : goal.returns-else-server-clause-items
returns-else-server-clause-items c =
    sym (ap (λ (b : Bool). with_payload c.args.header_len (payload_at b c.args.header_len c.args.payload_len c.args.src.now.items) c.args.payload_len c.args.src.now.items) c.if-server.false
    ∙ parts_join c.args.header_len c.args.payload_len c.args.src.now.items)

pub returns-then-server-clause-len : goal.returns-then-server-clause-len
returns-then-server-clause-len c =
    ap length c.mask_part.ensures.items
    ∙ length_kept c.args.header_len c.args.payload_len _ c.args.src.now.items c.requires.within
    (length_unmask _ 0 (take c.args.payload_len (drop c.args.header_len c.args.src.now.items))
    ∙ length-take-le c.args.payload_len (drop c.args.header_len c.args.src.now.items) (omega (arith, length-drop c.args.header_len c.args.src.now.items, c.requires.within)))
