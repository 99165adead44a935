use Rattle.std.proofs.Common.{◌≡◌}
use Rattle.std.specs.Prelude.{None}
use Rattle.h1_codec.specs.declared.framed_message.Message.TheVariants.{Chunk}
use Rattle.h1_codec.specs.ClientState.{of_codec}
use Rattle.h1_codec.proofs.Written.{end_written, end_refused}
use Rattle.h1_codec.proofs.client_codec.ClientCodec.encode.Goals as goal

pub returns-clause-ok : goal.returns-clause-ok
returns-clause-ok c =
    let is : c.args.item ≡ Chunk None = cc in
    end_written (of_codec c.args.self.now) c.args.item c.encode_eof.result c.args.dst.now.items c.encode_eof.new.buf.items c.encode_eof.new.self is
    c.encode_eof.ensures.short c.encode_eof.ensures.text c.encode_eof.ensures.after

pub returns-clause-refused : goal.returns-clause-refused
returns-clause-refused c =
    let is : c.args.item ≡ Chunk None = cc in
    end_refused (of_codec c.args.self.now) c.args.item c.encode_eof.result is c.encode_eof.ensures.short c.encode_eof.ensures.no_version
