use Rattle.std.proofs.Common.{◌≡◌, ◌∙◌, ap, Ok, rules, ◌++◌}
use Rattle.http_transport.proofs.ReadOn.{item_says, more_read, end_says, fault_says}
use Rattle.http_transport.proofs.framed.read.next_item.Goals as goal

pub returns-in-Ok-Some-clause-says : goal.returns-in-Ok-Some-clause-says
returns-in-Ok-Some-clause-says g c =
    let d = g.U.Decoder in
    let inv = c.loop-turn.invariant in
    let goes = rw c.in-Ok-Some.field-0-is at c.in-Ok-Some.ensures.goes_on in
    item_says d.reads d.given d.nothing d.breaks d.lacks d.seen d.leaves (g.T.Transport.wiring c.args.io.now) (g.T.Transport.wiring c.loop-turn.io)
    c.args.codec.now c.args.unread.now.items c.loop-turn.turn inv.turned.0 c.loop-turn.codec c.loop-turn.unread.items inv.turned.1
    c.loop-turn.cx.is_woken c.in-Ok-Some.item c.decode.new.self c.decode.new.src.items goes c.in-Ok-Some.ensures.seen

pub returns-in-Ready-Err-clause-says : goal.returns-in-Ready-Err-clause-says
returns-in-Ready-Err-clause-says g c =
    let d = g.U.Decoder in
    let inv = c.loop-turn.invariant in
    let goes = rw c.in-Ok-None.field-0-is at c.in-Ok-None.ensures.goes_on in
    let says = rw c.in-Ready-Err.field-0-is at c.in-Ready-Err.ensures.says in
    fault_says d.reads d.given d.nothing d.breaks d.lacks d.seen d.leaves (g.T.Transport.wiring c.args.io.now) (g.T.Transport.wiring c.loop-turn.io)
    c.args.codec.now c.args.unread.now.items c.loop-turn.turn inv.turned.0 c.loop-turn.codec c.loop-turn.unread.items inv.turned.1
    c.read_piece.new.cx.is_woken c.decode.new.self c.decode.new.src.items goes (c.in-Ok-None.ensures.waiting (ap Ok c.in-Ok-None.field-0-is))
    c.in-Ok-None.ensures.seen (g.T.Transport.wiring c.read_piece.new.io) says.0 c.read_piece.new.unread.items c.in-Ready-Err.error says.1

pub returns-then-count-eq0-clause-says : goal.returns-then-count-eq0-clause-says
returns-then-count-eq0-clause-says g c =
    let d = g.U.Decoder in
    let inv = c.loop-turn.invariant in
    let goes = rw c.in-Ok-None.field-0-is at c.in-Ok-None.ensures.goes_on in
    let says = rw c.in-Ready-Ok.field-0-is at c.in-Ready-Ok.ensures.says in
    let zero : c.in-Ready-Ok.count ≡ 0 = search rules in
    let ended = rw zero at says in
    end_says d.reads d.given d.nothing d.breaks d.lacks d.seen d.leaves (g.T.Transport.wiring c.args.io.now) (g.T.Transport.wiring c.loop-turn.io)
    c.args.codec.now c.args.unread.now.items c.loop-turn.turn inv.turned.0 c.loop-turn.codec c.loop-turn.unread.items inv.turned.1
    c.read_piece.new.cx.is_woken c.decode.new.self c.decode.new.src.items goes (c.in-Ok-None.ensures.waiting (ap Ok c.in-Ok-None.field-0-is))
    c.in-Ok-None.ensures.seen (g.T.Transport.wiring c.read_piece.new.io) ended.0 c.read_piece.new.unread.items ended.1

pub loop-turn-preserved : goal.loop-turn-preserved
loop-turn-preserved g c =
    let d = g.U.Decoder in
    let inv = c.loop-turn.invariant in
    let goes = rw c.in-Ok-None.field-0-is at c.in-Ok-None.ensures.goes_on in
    let says = rw c.in-Ready-Ok.field-0-is at c.in-Ready-Ok.ensures.says in
    record {
      turned = (
        inv.turned.0 ++ says.0,
        more_read d.reads d.given d.nothing d.breaks d.lacks d.seen d.leaves (g.T.Transport.wiring c.args.io.now) (g.T.Transport.wiring c.loop-turn.io)
            c.args.codec.now c.args.unread.now.items c.loop-turn.turn inv.turned.0 c.loop-turn.codec c.loop-turn.unread.items inv.turned.1
            c.loop-turn.cx.is_woken c.decode.new.self c.decode.new.src.items goes (c.in-Ok-None.ensures.waiting (ap Ok c.in-Ok-None.field-0-is))
            c.in-Ok-None.ensures.seen (g.T.Transport.wiring c.read_piece.new.io) says.0 c.read_piece.new.unread.items c.in-Ready-Ok.count says.1 (search rules),
      );
      beside = c.decode.ensures.beside ∙ inv.beside;
      kept = search rules;
    }
