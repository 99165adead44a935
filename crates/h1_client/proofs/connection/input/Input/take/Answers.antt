use Rattle.std.proofs.Common.{◌∙◌, ◌++◌, List, ℕ, take, ap, subst}
use Rattle.h1_client.specs.Incoming.{IsSearched}
use Rattle.h1_client.proofs.InputLemmas.{can_go_on, found_of}
use Rattle.h1_client.proofs.connection.input.Input.take.Goals as goal

pub continued-self-inside-requires : goal.continued-self-inside-requires
continued-self-inside-requires c =
    can_go_on _ _ _ _ (c.as_slice.ensures ∙ (c.extend_reserved.ensures.items ∙ ap (λ (l : List ℕ). l ++ take c.min-count.result c.args.bytes.now) c.make_room.ensures.items)) c.self.invariant

pub returns-clause-scanned : goal.returns-clause-scanned
returns-clause-scanned c =
    found_of _ _ (subst (λ (l : List ℕ). IsSearched l c.continued-self-inside.result) c.as_slice.ensures c.continued-self-inside.ensures.searched)
