use Rattle.std.proofs.Common.{◌≡◌, ◌++◌, true, false, refl, ap, sym, ◌∙◌, subst}
use Rattle.std.specs.Prelude.{is_some}
use Rattle.h1_connection.specs.Incoming.{Incoming, piece_of, IsFound}
use Rattle.h1_connection.specs.declared.connection.head_search.Search.{Search}
use Rattle.h1_connection.proofs.ScanLemmas.{scan_answers}
use Rattle.h1_connection.proofs.InputLemmas.{found_of, finds}
use Rattle.h1_connection.proofs.connection.input.Input.await_head.Goals as goal

pub returns-in-Off-clause-scanned : goal.returns-in-Off-clause-scanned
returns-in-Off-clause-scanned c = scan_answers _

pub returns-in-Off-clause-same : goal.returns-in-Off-clause-same
returns-in-Off-clause-same c = λ is.
    let off : false ≡ is_some c.args.self.now.piece =
    ap (λ (s : Search). is_some (piece_of (c.self.inside.head_bytes ++ c.self.inside.bytes.items) s)) (sym c.in-Off.is) ∙ ap (λ (i : Incoming). is_some i.piece) c.self.view_is in
    absurd (let no : false ≡ true = off ∙ is in cc no)

pub returns-in_default : goal.returns-in_default
returns-in_default c = record {
  same = λ _. refl;
  unread = refl;
  scanned = subst (λ (i : Incoming). IsFound i) c.self.view_is (found_of _ _ _ c.self.invariant);
  searched = subst (λ (i : Incoming). is_some i.piece ≡ true) c.self.view_is (finds _ _ c.in_default.not-Off);
}
