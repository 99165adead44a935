-- What goes out is the head's own where nothing is beside it, and else both.
use Rattle.std.proofs.Common.{◌≡◌, ap, sym, ◌∙◌}
use Rattle.std.specs.Prelude.{Some, None, option_copied}
use Rattle.h1_codec.specs.ClientState.{of_codec}
use Rattle.h1_codec.proofs.Extra.{put_by}
use Rattle.h1_codec.proofs.client_codec.ClientCodec.encode_head.Goals as goal

pub returns-in-None-clause-ok : goal.returns-in-None-clause-ok
returns-in-None-clause-ok c =
    let is : c.extra_headers.result ≡ None = cc in
    put_by (of_codec c.args.self.now) (of_codec c.put_head.new.self) c.args.size c.args.dst.now.items c.put_head.new.dst.items c.put_head.result c.args.head.now c.as_ref-shown.result.now None
    c.as_ref-shown.ensures (ap option_copied (sym is) ∙ c.extra_headers.ensures) c.put_head.ensures.ok

pub returns-in-Some-clause-ok : goal.returns-in-Some-clause-ok
returns-in-Some-clause-ok c =
    let is : c.extra_headers.result ≡ Some c.in-Some.extra = cc in
    put_by (of_codec c.args.self.now) (of_codec c.put_merged.new.self) c.args.size c.args.dst.now.items c.put_merged.new.dst.items c.put_merged.result c.args.head.now c.as_ref-shown.result.now
    (Some c.in-Some.extra.now) c.as_ref-shown.ensures (ap option_copied (sym is) ∙ c.extra_headers.ensures) c.put_merged.ensures.ok
