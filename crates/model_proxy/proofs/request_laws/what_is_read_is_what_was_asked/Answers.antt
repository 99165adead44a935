use Rattle.std.proofs.Common.{refl}
use Rattle.model_proxy.proofs.Targets.{path_kept}
use Rattle.model_proxy.proofs.SentRequests.{body_read, bytes_read}
use Rattle.model_proxy.proofs.request_laws.what_is_read_is_what_was_asked.Goals as goal

pub returns-clause-method : goal.returns-clause-method
returns-clause-method c s = refl

pub returns-clause-target : goal.returns-clause-target
returns-clause-target c s = refl

pub returns-clause-path : goal.returns-clause-path
returns-clause-path c s begins = path_kept s.head.method s.head.target begins

pub returns-clause-body : goal.returns-clause-body
returns-clause-body c = body_read

pub returns-clause-bytes : goal.returns-clause-bytes
returns-clause-bytes c = bytes_read
