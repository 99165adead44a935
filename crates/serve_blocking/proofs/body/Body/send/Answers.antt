use Rattle.std.proofs.Common.{ℕ, List, [], ◌++◌, sym, ap, ◌∙◌, rules, append_assoc, append-nil}
use Rattle.std.proofs.lemmas.List.{nil_from_length}
use Rattle.std.specs.Slice.Iter.{chunks_rest}
use Rattle.serve_blocking.specs.Acts.{SendsSome}
use Rattle.serve_blocking.specs.Fails.{NotSent}
use Rattle.serve_blocking.proofs.Answered.{sends_none, sends_then, sends_wait, sends_as, sends_follow}
use Rattle.serve_blocking.proofs.Failed.{fails_as}
use Rattle.serve_blocking.proofs.Results.{err_as, on_err}
use Rattle.serve_blocking.proofs.body.Body.send.Goals as goal

pub loop-piece-init : goal.loop-piece-init
loop-piece-init g c = record { can = search rules; ends = tt; size = search rules; sends = ([], sends_none _, search rules) }

pub loop-piece-preserved : goal.loop-piece-preserved
loop-piece-preserved g c =
    let so_far = c.loop-piece.invariant.sends in
    let piece = c.in-Some.piece.now in
    let steps = c.in-Some.ensures.steps in record {
      can = search rules;
      ends = tt;
      size = steps.0 ∙ c.loop-piece.invariant.size;
      sends = (
        so_far.0 ++ piece,
        sends_then so_far.0 piece _ _ _ so_far.1 c.in_ok-send_piece.ensures.sends,
        append_assoc so_far.0 piece _ ∙ ap (λ (l : List ℕ). so_far.0 ++ l) (sym steps.1.0) ∙ so_far.2,
      );
    }

pub returns-in_err-send_piece-clause-some : goal.returns-in_err-send_piece-clause-some
returns-in_err-send_piece-clause-some g c =
    let so_far = c.loop-piece.invariant.sends in
    let some : SendsSome c.args.bytes.now c.args.self.now c.send_piece.new.self = record {
      sent = so_far.0;
      rest = chunks_rest c.loop-piece.piece-iterator;
      are_first = so_far.2;
      sends = sends_wait so_far.0 _ _ _ so_far.1 c.in_err-send_piece.ensures.none;
    } in
    on_err c.from_residual.result some

pub returns-in_err-send_piece-clause-follows : goal.returns-in_err-send_piece-clause-follows
returns-in_err-send_piece-clause-follows g c =
    let so_far = c.loop-piece.invariant.sends in sends_follow so_far.0 _ _ (sends_wait so_far.0 _ _ _ so_far.1 c.in_err-send_piece.ensures.none)

pub returns-clause-sends : goal.returns-clause-sends
returns-clause-sends g c =
    let so_far = c.loop-piece.invariant.sends in
    let none = nil_from_length _ c.in-None.ensures.steps.1.0 in
    sends_as so_far.0 _ _ _ (sym (append-nil so_far.0) ∙ ap (λ (l : List ℕ). so_far.0 ++ l) (sym none) ∙ so_far.2) so_far.1

pub returns-clause-follows : goal.returns-clause-follows
returns-clause-follows g c = sends_follow c.loop-piece.invariant.sends.0 _ _ c.loop-piece.invariant.sends.1

pub returns-in_err-send_piece-clause-fails : goal.returns-in_err-send_piece-clause-fails
returns-in_err-send_piece-clause-fails g c =
    let so_far = c.loop-piece.invariant.sends in
    err_as c.from_residual.result c.in_err-send_piece.field-0.0 (λ e. NotSent c.args.bytes.now e c.args.self.now c.send_piece.new.self) c.from_residual.ensures.1
    (fails_as _ _ _ _ c.in_err-send_piece.field-0.0 (λ none. none)
    (λ full. record {
      sent = so_far.0;
      rest = chunks_rest c.loop-piece.piece-iterator;
      are_first = so_far.2;
      mid = c.loop-piece.self;
      sends = so_far.1;
      full = full;
      waits = c.in_err-send_piece.ensures.none;
    })
    c.in_err-send_piece.ensures.fails)
