use Rattle.std.specs.Prelude.{◌≡◌, ℕ, List, [], Option}
use Rattle.std.proofs.Common.{subst, arith}
use Rattle.std.proofs.lemmas.Grind.{common_steps}
use Rattle.std.proofs.lemmas.List.{nil_from_length}
use Rattle.app_chat.specs.Moves.{Gives}
use Rattle.app_chat.proofs.FlowLemmas.{passes_none, passes_fetched}
use Rattle.app_chat.proofs.round.fetch.Goals as goal

pub returns-then-not-is_empty : goal.returns-then-not-is_empty
returns-then-not-is_empty c = λ left given. passes_none _ _

pub returns-in-Some : goal.returns-in-Some
returns-in-Some c = λ left given.
    let empty : c.args.standing.now.owed ≡ [] = grind (arith, common_steps, nil_from_length) in
    passes_fetched _ _ _ left given _ _ _ empty
    (subst (λ (o : Option (List ℕ)). Gives c.args.number c.args.house.now o c.write.new.self) c.in-Some.is c.in_ok-bytes.ensures)
