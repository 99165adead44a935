use Rattle.std.proofs.Common.{◌∙◌, ◌++◌, List, ℕ, take, ap, subst}
use Rattle.h1_connection.specs.Incoming.{GoesOnIn}
use Rattle.h1_connection.proofs.InputLemmas.{can_go_on, still_searched, found_of}
use Rattle.h1_connection.proofs.connection.input.Input.take.Goals as goal

pub continued-self-inside-requires : goal.continued-self-inside-requires
continued-self-inside-requires c =
    can_go_on _ _ _ _ _ (c.as_slice.ensures ∙ (c.extend_reserved.ensures.items ∙ ap (λ (l : List ℕ). l ++ take c.min-count.result c.args.bytes.now) c.make_room.ensures.items)) c.self.invariant

pub invariant_of-self-2 : goal.invariant_of-self-2
invariant_of-self-2 c =
    still_searched _ _ _ _ _ _ (c.extend_reserved.ensures.items ∙ ap (λ (l : List ℕ). l ++ take c.min-count.result c.args.bytes.now) c.make_room.ensures.items) c.self.invariant
    (subst (λ (l : List ℕ). GoesOnIn c.self.inside.search l c.continued-self-inside.result) c.as_slice.ensures c.continued-self-inside.ensures)

pub returns-clause-scanned : goal.returns-clause-scanned
returns-clause-scanned c = found_of _ _ _ (invariant_of-self-2 c)
