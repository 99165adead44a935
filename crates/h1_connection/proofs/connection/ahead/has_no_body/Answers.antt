use Rattle.std.proofs.Common.{List, ℕ, ap, subst}
use Rattle.std.specs.Prelude.{not}
use Rattle.model_h1.specs.Request.{head_is, faulty}
use Rattle.model_h1.specs.RequestHead.{IsReading}
use Rattle.h1_decoder.specs.Refusal.{fault_of}
use Rattle.h1_connection.proofs.ResultLemmas.{ok_map}
use Rattle.h1_connection.proofs.connection.ahead.has_no_body.Goals as goal

pub returns-in-Ok : goal.returns-in-Ok
returns-in-Ok c =
    let read = c.in-Ok.ensures.head in
    (head_is read.0, subst (λ (l : List ℕ). IsReading l (head_is read.0)) c.in_ok-copy.ensures read.1, ap not (c.has_body.ensures read.0 read.2))

pub returns-in-Err : goal.returns-in-Err
returns-in-Err c =
    ok_map c.no_head.result _ _
    (λ is no. (
      faulty (fault_of c.in-Err.error),
      subst (λ (l : List ℕ). IsReading l (faulty (fault_of c.in-Err.error))) c.in_ok-copy.ensures (c.in-Err.ensures.fault no.0),
      no.1,
    )) c.no_head.ensures
