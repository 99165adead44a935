-- What goes out has the text of both.
use Rattle.h1_encoder.specs.RequestMeaning.{asked_head}
use Rattle.h1_codec.specs.ClientState.{of_codec}
use Rattle.h1_codec.specs.Writing.{merged, with_headers}
use Rattle.h1_codec.proofs.Extra.{goes_out_by}
use Rattle.h1_codec.proofs.client_codec.ClientCodec.put_merged.Goals as goal

pub returns-in-Ok-clause-ok : goal.returns-in-Ok-clause-ok
returns-in-Ok-clause-ok c =
    goes_out_by (of_codec c.args.self.now) (of_codec c.put_head.new.self) c.args.size c.args.dst.now.items c.put_head.new.dst.items c.put_head.result c.args.head.now (asked_head c.in-Ok.goes_out)
    (with_headers c.args.head.now (merged c.args.head.now.headers c.args.extra.now)) c.in-Ok.ensures.head c.put_head.ensures.ok
