use Rattle.std.proofs.Common.{◌≡◌, ◌+◌, ℕ, inl, inr, sym, ap, ◌∙◌, arith}
use Rattle.board_server.specs.Visits.{counted_on}
use Rattle.board.specs.Views.{entries_held}
use Rattle.board_server.proofs.Matched.{report_is}
use Rattle.board_server.proofs.acceptor_loop.finish.Goals as goal

many : {n a b : ℕ} → n ≡ a + b → b ≡ 0 → n ≡ a
many {n} {a} {b} is none = omega (arith, is, none)

pub returns-in-Err : goal.returns-in-Err
returns-in-Err g c = λ was taken. c.in-Err.ensures.unlike

pub returns-then-has_failed : goal.returns-then-has_failed
returns-then-has_failed g c = λ was taken. (
  report_is c.args.serving.config c.args.serving.polls (g.K.Clock.may_give c.args.serving.clock) g.W.Transport.wiring g.L.Recorder.noted c.in-Ok.board.journal c.visits_of-visits.result.0.items
      c.visits_of-visits.result.1.items c.add_spare-back.ensures.rest.0 c.add_spare-back.result.items c.add_spare-back.ensures.rest.1 c.add_spare-back.ensures.rest.2 c.visits_of-visits.ensures.matched
      c.in-Ok.ensures.agrees c.in-Ok.ensures.right (c.in-Ok.ensures.whole ∙ ap (λ (n : ℕ). n + entries_held c.add_spare-back.result.items) c.requires.none_retired),
  (taken.given ∙ ap (λ (n : ℕ). counted_on n was.given) (sym (many c.visits_of-visits.ensures.visits c.requires.no_visits))),
  omega (arith, c.requires.are_all, many c.visits_of-visits.ensures.visits c.requires.no_visits),
  taken.failed c.if-has_failed.true,
)

pub returns-else-has_failed : goal.returns-else-has_failed
returns-else-has_failed g c = λ was taken. (
  report_is c.args.serving.config c.args.serving.polls (g.K.Clock.may_give c.args.serving.clock) g.W.Transport.wiring g.L.Recorder.noted c.in-Ok.board.journal c.visits_of-visits.result.0.items
      c.visits_of-visits.result.1.items c.add_spare-back.ensures.rest.0 c.add_spare-back.result.items c.add_spare-back.ensures.rest.1 c.add_spare-back.ensures.rest.2 c.visits_of-visits.ensures.matched
      c.in-Ok.ensures.agrees c.in-Ok.ensures.right (c.in-Ok.ensures.whole ∙ ap (λ (n : ℕ). n + entries_held c.add_spare-back.result.items) c.requires.none_retired),
  (taken.given ∙ ap (λ (n : ℕ). counted_on n was.given) (sym (many c.visits_of-visits.ensures.visits c.requires.no_visits))),
  omega (arith, c.requires.are_all, many c.visits_of-visits.ensures.visits c.requires.no_visits),
  elim (taken.ended c.if-has_failed.false) [
    | inl ended ↦ inl ended
    | inr none ↦ inr (omega (arith, none, c.requires.are_all, many c.visits_of-visits.ensures.visits c.requires.no_visits))
  ],
)
