use Rattle.std.proofs.Common.{refl}
use Rattle.model_h1.specs.Sums.{request, since_head, answered, accepted, last_tick}
use Rattle.model_h1.specs.Closing.{told, closing}
use Rattle.model_proxy.specs.Past.{servers}
use Rattle.model_proxy.proofs.examples.what_is_allowed_at_first.Goals as goal

pub returns-clause-bytes : goal.returns-clause-bytes
unfolding request since_head answered accepted last_tick told closing servers
returns-clause-bytes c = refl

pub returns-clause-end : goal.returns-clause-end
unfolding request since_head answered accepted last_tick told closing servers
returns-clause-end c = refl

pub returns-clause-moment : goal.returns-clause-moment
unfolding request since_head answered accepted last_tick told closing servers
returns-clause-moment c = refl

pub returns-clause-writing : goal.returns-clause-writing
unfolding request since_head answered accepted last_tick told closing servers
returns-clause-writing c = refl

pub returns-clause-connection : goal.returns-clause-connection
unfolding request since_head answered accepted last_tick told closing servers
returns-clause-connection c = refl

pub returns-clause-refusal : goal.returns-clause-refusal
unfolding request since_head answered accepted last_tick told closing servers
returns-clause-refusal c = refl

pub returns-clause-server_bytes : goal.returns-clause-server_bytes
unfolding request since_head answered accepted last_tick told closing servers
returns-clause-server_bytes c = refl

pub returns-clause-server_end : goal.returns-clause-server_end
unfolding request since_head answered accepted last_tick told closing servers
returns-clause-server_end c = refl

pub returns-clause-server_writing : goal.returns-clause-server_writing
unfolding request since_head answered accepted last_tick told closing servers
returns-clause-server_writing c = refl
