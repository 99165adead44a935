use Rattle.std.proofs.Common.{ℕ, [], subst}
use Rattle.std.specs.Prelude.{OnOk}
use Rattle.http_types.specs.ResponseHead.{fresh_response}
use Rattle.h1_encoder.specs.Meaning.{answer_of}
use Rattle.serve_blocking.specs.Acts.{Answers}
use Rattle.serve_blocking.proofs.Followed.{follows_none}
use Rattle.serve_blocking.proofs.connection.complete.Goals as goal

pub returns-in-Err-Lost-clause-follows : goal.returns-in-Err-Lost-clause-follows
returns-in-Err-Lost-clause-follows g c = follows_none _

pub returns-in_default-clause-answers : goal.returns-in_default-clause-answers
returns-in_default-clause-answers g c = λ may.
    subst (λ (n : ℕ). OnOk c.end_request.result (Answers (answer_of (fresh_response n)) [] c.args.body.now c.end_request.new.body)) c.status_after-status.ensures
    (c.end_request.ensures.answers may)
