use Rattle.std.proofs.Common.{refl}
use Rattle.serve_blocking.proofs.Handled.{handles_none, hosts_here, hosts_to_end}
use Rattle.serve_blocking.proofs.connection.host_stream.Goals as goal

pub returns-then-is_err-clause-handles : goal.returns-then-is_err-clause-handles
returns-then-is_err-clause-handles g c = hosts_here _ _ _ _ _ _ refl (handles_none _ _)

pub returns-clause-handles : goal.returns-clause-handles
returns-clause-handles g c = hosts_here _ _ _ _ _ _ c.new-body.ensures.value c.host_connection-ended.ensures.handles

pub returns-clause-ends : goal.returns-clause-ends
returns-clause-ends g c = hosts_to_end c.host_connection-ended.result _ _ _ _ _ _ c.new-body.ensures.value c.host_connection-ended.ensures.ends
