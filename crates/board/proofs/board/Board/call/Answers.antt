use Rattle.std.proofs.Common.{◌≡◌, ◌+◌, ◌∙◌, ap, sym, subst, [], ◌∷◌, ◌++◌, rules}
use Rattle.std.specs.BTreeMap as tree
use Rattle.std.specs.Prelude.{if◌then◌else◌}
use Rattle.std.specs.Option.{unwrap_or}
use Rattle.std.specs.Ordering.{nat_cmp}
use Rattle.std.specs.Cmp.Lexicographic.{slice_cmp}
use Rattle.board.specs.Journal.{IsRight, entry, counter, reply_after, name_of, is_add, adds_to}
use Rattle.board.proofs.Entries.{right_push, reply_is, counter_push}
use Rattle.board.proofs.board.Board.call.Given.{Over}
use Rattle.board.proofs.board.Board.call.Goals as goal

replied : (g : Over) (c : goal.After-add g) → c.in_ok-reply.reply ≡ reply_after c.args.self.now.journal c.args.command
replied g c =
    let command = c.args.command in
    let old = c.self.inside.journal.items in
    let same : c.args.self.now.journal ≡ old = search rules in
    let counted : c.in_ok-reply.reply ≡ unwrap_or (tree.get (slice_cmp nat_cmp) c.self.inside.counters (name_of command)) 0 + (if is_add command then 1 else 0) = search rules in
    counted ∙ ap (λ n. n + (if is_add command then 1 else 0)) (c.self.invariant.2 (name_of command)) ∙ reply_is old command ∙ ap (λ js. reply_after js command) (sym same)

pushed : (g : Over) (c : goal.After-add g) → c.push_reserved.new.self.items ≡ c.args.self.now.journal ++ entry c.args.pass.now.number c.args.command c.in_ok-reply.reply ∷ []
pushed g c = search rules

pub invariant_of-self-2 : goal.invariant_of-self-2
invariant_of-self-2 g c =
    let e = entry c.args.pass.now.number c.args.command c.in_ok-reply.reply in
    let same : c.args.self.now.journal ≡ c.self.inside.journal.items = search rules in (
      search rules,
      subst IsRight (sym (pushed g c)) (right_push c.args.self.now.journal e c.journal-right.ensures.right (replied g c)),
      λ name.
          let counted : unwrap_or (tree.get (slice_cmp nat_cmp) c.answer.new.counters name) 0 ≡ unwrap_or (tree.get (slice_cmp nat_cmp) c.self.inside.counters name) 0 + (if adds_to name e then 1 else 0) = search rules in
          counted ∙ ap (λ n. n + (if adds_to name e then 1 else 0)) (c.self.invariant.2 name ∙ ap (counter name) (sym same)) ∙ sym (counter_push c.args.self.now.journal e name) ∙ ap (counter name) (sym (pushed g c)),
    )

pub returns-clause-reply : goal.returns-clause-reply
returns-clause-reply g c = replied g c

pub returns-clause-right : goal.returns-clause-right
returns-clause-right g c = (
  c.journal-right.ensures.right,
  subst IsRight (sym (pushed g c)) (right_push c.args.self.now.journal (entry c.args.pass.now.number c.args.command c.in_ok-reply.reply) c.journal-right.ensures.right (replied g c)),
)

pub invariant_of-self-in_err-reply : goal.invariant_of-self-in_err-reply
invariant_of-self-in_err-reply g c =
    let same : c.reserve.new.self.items ≡ c.self.inside.journal.items = search rules in (
      search rules,
      subst IsRight (sym same) c.self.invariant.1,
      λ name. c.in_err-reply.ensures.err name ∙ c.self.invariant.2 name ∙ ap (counter name) (sym same),
    )
