use Rattle.std.proofs.Common.{refl, ap}
use Rattle.std.specs.Prelude.{not}
use Rattle.h1_encoder.specs.Meaning.{size_of}
use Rattle.model_client.specs.RequestText.{AskedHead}
use Rattle.model_proxy.specs.Forward.{forwarded}
use Rattle.model_proxy.specs.Exchange.{unpulled}
use Rattle.model_proxy.specs.Happenings.{sent_of}
use Rattle.proxy_heads.specs.Edges.{edge_of}
use Rattle.proxy.proofs.Waits.{plain_keeps, waiting_text}
use Rattle.proxy.proofs.proxy.Unsent.new.Goals as goal

pub returns-clause-unsent : goal.returns-clause-unsent
returns-clause-unsent c = λ h says can.
    let e = edge_of c.args.edge.now in
    let sized = c.forwarded_size-size.ensures h says in record {
      method = ap (λ (r : AskedHead). r.method) (c.in_ok-head.ensures.says h says can);
      minor = ap (λ (r : AskedHead). r.minor) (c.in_ok-head.ensures.says h says can);
      whole = ap not (c.has_body.ensures h says);
      unbroken = refl;
      sized = sized;
      text = λ moment.
          waiting_text h c.in_ok-head.head (size_of c.forwarded_size-size.result) moment (forwarded (sent_of e (unpulled h) moment)) sized
          (plain_keeps c.in_ok-head.head c.in_ok-head.ensures.flags c.in_ok-head.ensures.version)
          (c.in_ok-head.ensures.text h says can (sent_of e (unpulled h) moment) refl refl);
    }
