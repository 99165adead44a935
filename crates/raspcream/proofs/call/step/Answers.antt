use Rattle.raspcream.proofs.CalledLemmas.{served_same, served_did, served_code, asked_same, asked_did, asked_code}
use Rattle.raspcream.proofs.call.step.Goals as goal

pub returns-in-Server-clause-kept : goal.returns-in-Server-clause-kept
returns-in-Server-clause-kept c = served_same _ _ _ _ c.in-Server.is c.serve.ensures.kept

pub returns-in-Server-clause-done : goal.returns-in-Server-clause-done
returns-in-Server-clause-done c = served_did _ _ _ _ _ _ _ _ _ c.in-Server.is c.serve.ensures.done

pub returns-in-Client-clause-kept : goal.returns-in-Client-clause-kept
returns-in-Client-clause-kept c = asked_same _ _ _ _ c.in-Client.is c.request.ensures.kept

pub returns-in-Client-clause-done : goal.returns-in-Client-clause-done
returns-in-Client-clause-done c = asked_did _ _ _ _ _ _ _ _ _ c.in-Client.is c.request.ensures.done

pub returns-in-Server-clause-reason : goal.returns-in-Server-clause-reason
returns-in-Server-clause-reason c = served_code _ _ _ _ _ _ _ c.in-Server.is c.serve.ensures.reason

pub returns-in-Client-clause-reason : goal.returns-in-Client-clause-reason
returns-in-Client-clause-reason c = asked_code _ _ _ _ _ _ _ c.in-Client.is c.request.ensures.reason
