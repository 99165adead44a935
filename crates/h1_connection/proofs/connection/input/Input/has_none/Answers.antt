use Rattle.std.proofs.Common.{rules, ◌≡◌, false}
use Rattle.h1_connection.specs.Incoming.{is_coming_in}
use Rattle.h1_connection.proofs.InputLemmas.{no_head_in}
use Rattle.h1_connection.proofs.connection.input.Input.has_none.Goals as goal

pub returns-then-is_scanned : goal.returns-then-is_scanned
returns-then-is_scanned c = λ is.
    let none : is_coming_in c.args.self.now.piece ≡ false = search rules in
    no_head_in c.args.self.now c.args.self.now.piece none
