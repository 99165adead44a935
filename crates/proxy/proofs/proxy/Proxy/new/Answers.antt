use Rattle.std.specs.Prelude.{None}
use Rattle.proxy.proofs.EventMoves.{new_forwards}
use Rattle.proxy.specs.declared.proxy.Proxy.{Proxy}
use Rattle.proxy.proofs.Served.{fresh_serves}
use Rattle.proxy.proofs.proxy.Proxy.new.Goals as goal

pub returns-clause-forwards : goal.returns-clause-forwards
returns-clause-forwards c =
    let p : Proxy = record {
      alloc = c.args.alloc;
      config = c.args.config;
      client = c.new-client.result;
      server = None;
      unsent = None;
      sent = None;
      moment = None;
      notes = c.new.result;
    } in
    new_forwards p c.new-client.result c.new-client.ensures

pub returns-clause-serves : goal.returns-clause-serves
returns-clause-serves c =
    let p : Proxy = record {
      alloc = c.args.alloc;
      config = c.args.config;
      client = c.new-client.result;
      server = None;
      unsent = None;
      sent = None;
      moment = None;
      notes = c.new.result;
    } in
    fresh_serves p c.new-client.result c.new-client.ensures
