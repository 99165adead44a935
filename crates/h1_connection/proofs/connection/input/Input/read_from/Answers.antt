use Rattle.std.proofs.Common.{◌∙◌, List, ℕ, sym, subst}
use Rattle.h1_connection.specs.Incoming.{IsSearched, GoesOnIn}
use Rattle.h1_connection.proofs.InputLemmas.{can_go_on, still_searched, found_of, none_came}
use Rattle.h1_connection.proofs.connection.input.Input.read_from.Goals as goal

pub continued-self-inside-requires : goal.continued-self-inside-requires
continued-self-inside-requires g c =
    can_go_on _ _ _ _ _ (c.as_slice.ensures ∙ c.in_ok-count.ensures.read.2) c.self.invariant

pub invariant_of-self-2 : goal.invariant_of-self-2
invariant_of-self-2 g c =
    still_searched _ _ _ _ _ _ c.in_ok-count.ensures.read.2 c.self.invariant
    (subst (λ (l : List ℕ). GoesOnIn c.self.inside.search l c.continued-self-inside.result) c.as_slice.ensures c.continued-self-inside.ensures)

pub returns-clause-scanned : goal.returns-clause-scanned
returns-clause-scanned g c = found_of _ _ _ (invariant_of-self-2 g c)

pub returns-then-count-eq0-clause-scanned : goal.returns-then-count-eq0-clause-scanned
returns-then-count-eq0-clause-scanned g c =
    let came = c.in_ok-count.ensures.read in
    let same = none_came c.self.inside.bytes.items came.0 c.read_behind.new.bytes.items c.in_ok-count.count came.1 c.if-count-eq0.true came.2 in
    found_of _ _ _ (subst (λ (l : List ℕ). IsSearched c.self.inside.head_bytes l c.self.inside.search) (sym same) c.self.invariant)
